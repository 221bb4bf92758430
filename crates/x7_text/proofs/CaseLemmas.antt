-- Digits of either case.
use Rattle.std.proofs.Common.{◌≡◌, ℕ, ◌+◌, ◌*◌, ◌/◌, ◌%◌, ◌^◌, ◌<◌, ◌⊎◌, List, [], ◌∷◌, length, Option, None, Some, refl, ap, ap₂, subst, ◌∙◌, arith}
use Rattle.std.proofs.lemmas.Grind.{common_steps}
use Rattle.std.proofs.lemmas.Option.{none-some, same_Some}
use Rattle.std.specs.List.{flat_map}
use Rattle.x7_words.specs.Word.{AreBytes}
use Rattle.x7_text.specs.Digits.{hex_byte, hex_digit}
use Rattle.x7_words.specs.Characters.{number_of_digit}
use Rattle.x7_text.specs.EitherCase.{byte_of, byte_before, bytes_of_pairs}

pub digit_upper : (n : ℕ) → n < 16 → number_of_digit (hex_digit n) ≡ Some n
digit_upper n h = grind (arith, common_steps)

pub digit_is : (c n : ℕ) → number_of_digit c ≡ Some n → (n < 16) × ((c ≡ hex_digit n) ⊎ (c ≡ hex_digit n + 32))
digit_is c n e = (grind (arith, common_steps), grind (arith, common_steps))

pub byte_pair : (b : ℕ) → b < 256 → byte_of (number_of_digit (hex_digit (b / 2 ^ 4 % 16))) (number_of_digit (hex_digit (b % 16))) ≡ Some b
byte_pair b h =
    ap₂ byte_of (digit_upper (b / 2 ^ 4 % 16) (omega arith)) (digit_upper (b % 16) (omega arith)) ∙ ap Some (let e : 16 * (b / 2 ^ 4 % 16) + b % 16 ≡ b = omega arith in e)

pub pairs_back : (bs : List ℕ) → AreBytes bs → bytes_of_pairs (flat_map hex_byte bs) ≡ Some bs
pairs_back [] h = refl
pairs_back (b ∷ bs) h = ap₂ byte_before (byte_pair b h.0) (pairs_back bs h.1)

-- the bytes of pairs of digits are half as many as these
pub pairs_long : (ds bytes : List ℕ) → bytes_of_pairs ds ≡ Some bytes → length ds ≡ 2 * length bytes
pairs_long [] bytes e = let same : [] ≡ bytes = same_Some [] bytes e in ap (λ (t : List ℕ). 2 * length t) same
pairs_long (a ∷ []) bytes e = absurd (none-some bytes e)
pairs_long (a ∷ b ∷ cs) bytes e = by (λ xs f. pairs_long cs xs f) (byte_of (number_of_digit a) (number_of_digit b)) (bytes_of_pairs cs) refl e
  where
    by : ((xs : List ℕ) → bytes_of_pairs cs ≡ Some xs → length cs ≡ 2 * length xs) → (o : Option ℕ) (more : Option (List ℕ)) → bytes_of_pairs cs ≡ more → byte_before o more ≡ Some bytes → length (a ∷ b ∷ cs) ≡ 2 * length bytes
    by back None more f g = absurd (none-some bytes g)
    by back (Some x) None f g = absurd (none-some bytes g)
    by back (Some x) (Some xs) f g =
        let same : x ∷ xs ≡ bytes = same_Some (x ∷ xs) bytes g in
        let rest = back xs f in
        (let l : length (a ∷ b ∷ cs) ≡ 2 * length (x ∷ xs) = omega (arith, rest) in l) ∙ ap (λ (t : List ℕ). 2 * length t) same

byte_fits : (a b x : ℕ) → byte_of (number_of_digit a) (number_of_digit b) ≡ Some x → x < 256
byte_fits a b x e = by (number_of_digit a) (number_of_digit b) refl refl e
  where
    by : (h l : Option ℕ) → number_of_digit a ≡ h → number_of_digit b ≡ l → byte_of h l ≡ Some x → x < 256
    by None l p q f = absurd (none-some x f)
    by (Some h) None p q f = absurd (none-some x f)
    by (Some h) (Some l) p q f = omega (arith, (digit_is a h p).0, (digit_is b l q).0, same_Some (16 * h + l) x f)

pub pairs_fit : (ds bytes : List ℕ) → bytes_of_pairs ds ≡ Some bytes → AreBytes bytes
pairs_fit [] bytes e = subst AreBytes (same_Some [] bytes e) tt
pairs_fit (a ∷ []) bytes e = absurd (none-some bytes e)
pairs_fit (a ∷ b ∷ cs) bytes e = by (λ xs f. pairs_fit cs xs f) (byte_of (number_of_digit a) (number_of_digit b)) (bytes_of_pairs cs) refl refl e
  where
    by : ((xs : List ℕ) → bytes_of_pairs cs ≡ Some xs → AreBytes xs) → (o : Option ℕ) (more : Option (List ℕ)) → byte_of (number_of_digit a) (number_of_digit b) ≡ o → bytes_of_pairs cs ≡ more → byte_before o more ≡ Some bytes → AreBytes bytes
    by back None more p f g = absurd (none-some bytes g)
    by back (Some x) None p f g = absurd (none-some bytes g)
    by back (Some x) (Some xs) p f g = subst AreBytes (same_Some (x ∷ xs) bytes g) (byte_fits a b x p, back xs f)
