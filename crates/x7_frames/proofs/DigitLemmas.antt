-- Digits of either case in parts, and in blocks.
use Rattle.std.proofs.Common.{◌≡◌, ℕ, ◌+◌, ◌*◌, ◌/◌, ◌<◌, Bool, true, false, List, [], ◌∷◌, ◌++◌, length, get_or, take, drop, Option, Some, None, MatchBool, refl, sym, ap, ap₂, ◌∙◌, ◌-◌, append-nil, arith}
use Rattle.std.proofs.lemmas.Option.{none-some, same_Some}
use Rattle.std.proofs.Math.Seq.{take-add}
use Rattle.std.proofs.Math.ListN.{drop_of_length-le}
use Rattle.std.proofs.lemmas.List.{length-drop, take-append-drop, take_all}
use Rattle.std.specs.List.{flat_map}
use Rattle.std.specs.Simd.{first_chunks}
use Rattle.x7_words.specs.Word.{AreBytes}
use Rattle.x7_text.specs.Digits.{hex_byte}
use Rattle.x7_words.specs.Characters.{number_of_digit}
use Rattle.x7_text.specs.EitherCase.{byte_of, byte_before, bytes_of_pairs}
use Rattle.x7_text.proofs.CaseLemmas.{pairs_back}
use Rattle.x7_words.proofs.ListLemmas.{chunk_at}

-- ---- digits in two parts

-- bytes before others that may be none
pub after : List ℕ → Option (List ℕ) → Option (List ℕ)
after prefix None = None
after prefix (Some bytes) = Some (prefix ++ bytes)

after_none : (o : Option (List ℕ)) → o ≡ after [] o
unfolding after
after_none None = refl
after_none (Some bytes) = refl

after_led : (x : ℕ) (xs : List ℕ) (o : Option (List ℕ)) → byte_before (Some x) (after xs o) ≡ after (x ∷ xs) o
unfolding after
after_led x xs None = refl
after_led x xs (Some bytes) = refl

pub pairs_on : (ds more bytes : List ℕ) → bytes_of_pairs ds ≡ Some bytes → bytes_of_pairs (ds ++ more) ≡ after bytes (bytes_of_pairs more)
pairs_on [] more bytes e = after_none (bytes_of_pairs more) ∙ ap (λ (t : List ℕ). after t (bytes_of_pairs more)) (same_Some [] bytes e)
pairs_on (a ∷ []) more bytes e = absurd (none-some bytes e)
pairs_on (a ∷ b ∷ cs) more bytes e = by (λ xs f. pairs_on cs more xs f) (byte_of (number_of_digit a) (number_of_digit b)) refl (bytes_of_pairs cs) refl e
  where
    by : ((xs : List ℕ) → bytes_of_pairs cs ≡ Some xs → bytes_of_pairs (cs ++ more) ≡ after xs (bytes_of_pairs more)) → (o : Option ℕ) → byte_of (number_of_digit a) (number_of_digit b) ≡ o → (r : Option (List ℕ)) → bytes_of_pairs cs ≡ r
        → byte_before o r ≡ Some bytes → bytes_of_pairs (a ∷ b ∷ cs ++ more) ≡ after bytes (bytes_of_pairs more)
    by back None p r f g = absurd (none-some bytes g)
    by back (Some x) p None f g = absurd (none-some bytes g)
    by back (Some x) p (Some xs) f g =
        ap₂ byte_before p (back xs f) ∙ after_led x xs (bytes_of_pairs more) ∙ ap (λ (t : List ℕ). after t (bytes_of_pairs more)) (same_Some (x ∷ xs) bytes g)

put_rest : (n : ℕ) (bytes new : List ℕ) → take n bytes ++ (new ++ drop (length bytes - n) (drop n bytes)) ≡ take n bytes ++ new
put_rest n bytes new =
    let left : length (drop n bytes) ≡ length bytes - n = length-drop n bytes in
    ap (λ (t : List ℕ). take n bytes ++ t) (ap (λ (t : List ℕ). new ++ t) (drop_of_length-le (drop n bytes) (omega (arith, left))) ∙ append-nil new)

-- digits of which the first 2 * n give n bytes: what the rest gives, and what all of them give
pub read_whole : (ds bytes new : List ℕ) (n : ℕ) (b : Bool) → bytes_of_pairs (take (2 * n) ds) ≡ Some (take n bytes)
    → MatchBool b (bytes_of_pairs (take (length ds - 2 * n) (drop (2 * n) ds)) ≡ Some new) (bytes_of_pairs (take (length ds - 2 * n) (drop (2 * n) ds)) ≡ None)
    → MatchBool b (bytes_of_pairs ds ≡ Some (take n bytes ++ (new ++ drop (length bytes - n) (drop n bytes)))) (bytes_of_pairs ds ≡ None)
unfolding after
read_whole ds bytes new n b e f = by b f
  where
    rest : take (length ds - 2 * n) (drop (2 * n) ds) ≡ drop (2 * n) ds
    rest = let left : length (drop (2 * n) ds) ≡ length ds - 2 * n = length-drop (2 * n) ds in take_all (length ds - 2 * n) (drop (2 * n) ds) (omega (arith, left))

    whole : bytes_of_pairs ds ≡ after (take n bytes) (bytes_of_pairs (take (length ds - 2 * n) (drop (2 * n) ds)))
    whole =
        ap bytes_of_pairs (sym (take-append-drop (2 * n) ds)) ∙ pairs_on (take (2 * n) ds) (drop (2 * n) ds) (take n bytes) e ∙ ap (λ (t : List ℕ). after (take n bytes) (bytes_of_pairs t)) (sym rest)

    by : (b : Bool) → MatchBool b (bytes_of_pairs (take (length ds - 2 * n) (drop (2 * n) ds)) ≡ Some new) (bytes_of_pairs (take (length ds - 2 * n) (drop (2 * n) ds)) ≡ None)
        → MatchBool b (bytes_of_pairs ds ≡ Some (take n bytes ++ (new ++ drop (length bytes - n) (drop n bytes)))) (bytes_of_pairs ds ≡ None)
    by true g = whole ∙ ap (after (take n bytes)) g ∙ ap Some (sym (put_rest n bytes new))
    by false g = whole ∙ ap (after (take n bytes)) g

-- ---- digits in blocks

-- blocks of 64 digits, 32 bytes each, and one block more
pub block_read : (ds old new read : List ℕ) (blocks : List (List ℕ)) (k : ℕ) (d : List ℕ) → blocks ≡ first_chunks 64 (length ds / 64) ds → k < length blocks → length blocks ≡ length ds / 64
    → get_or blocks k d ≡ flat_map hex_byte read → AreBytes read → bytes_of_pairs (take (64 * k) ds) ≡ Some (take (32 * k) old) → take (32 * k + 32) new ≡ take (32 * k) old ++ read
    → bytes_of_pairs (take (64 * (k + 1)) ds) ≡ Some (take (32 * (k + 1)) new)
unfolding after
block_read ds old new read blocks k d e h n at fits was now =
    let here : take 64 (drop (64 * k) ds) ≡ flat_map hex_byte read =
    sym (ap (λ (t : List (List ℕ)). get_or t k d) e ∙ chunk_at 64 (length ds / 64) k ds d (omega (arith, h, n))) ∙ at in
    let prefix : take (64 * (k + 1)) ds ≡ take (64 * k) ds ++ take 64 (drop (64 * k) ds) = ap (λ (j : ℕ). take j ds) (let j : 64 * (k + 1) ≡ 64 * k + 64 = omega arith in j) ∙ take-add (64 * k) 64 ds in
    ap bytes_of_pairs (prefix ∙ ap (λ (t : List ℕ). take (64 * k) ds ++ t) here) ∙ pairs_on (take (64 * k) ds) (flat_map hex_byte read) (take (32 * k) old) was ∙ ap (after (take (32 * k) old)) (pairs_back read fits)
    ∙ ap Some (sym now ∙ ap (λ (j : ℕ). take j new) (let j : 32 * k + 32 ≡ 32 * (k + 1) = omega arith in j))

-- where block k, from 0, isn't 64 upper-case digits, the 64 digits from digit n on aren't
pub no_block_read : (ds : List ℕ) (blocks : List (List ℕ)) (k n : ℕ) → blocks ≡ first_chunks 64 (length ds / 64) ds → k < length blocks → length blocks ≡ length ds / 64 → n ≡ 64 * k
    → ((bs : List ℕ) → AreBytes bs → get_or blocks k [] ≡ flat_map hex_byte bs → ⊥) → (bs : List ℕ) → AreBytes bs → take 64 (drop n ds) ≡ flat_map hex_byte bs → ⊥
no_block_read ds blocks k n e h long at none bs fits is =
    none bs fits (ap (λ (t : List (List ℕ)). get_or t k []) e ∙ chunk_at 64 (length ds / 64) k ds [] (omega (arith, h, long)) ∙ ap (λ (j : ℕ). take 64 (drop j ds)) (sym at) ∙ is)
