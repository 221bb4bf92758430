-- The bytes of a gap: which are listed, and which are held since they may yet be a sync word.
use Rattle.std.proofs.Common.{◌≡◌, ℕ, ◌+◌, ◌-◌, ◌<◌, ◌≤◌, ◌^◌, List, [], ◌∷◌, ◌++◌, inl, inr, length, take, drop, get_or, slice_index_or, refl, ap, sym, ◌∙◌, append_assoc, append-nil, arith, take-append-drop, codes, zero, suc}
use Rattle.std.proofs.lemmas.List.{take_more}
use Rattle.x7_words.specs.Word.{bytes_of_word, words_of_bytes}
use Rattle.x7_text.specs.Digits.{hex_byte}
use Rattle.x7_text.specs.Row.{in_line_after, open_bytes}
use Rattle.x7_words.proofs.WordLemmas.{words_four}
use Rattle.x7_text.proofs.LineLemmas.{in_line_after_append, open_text_append}
use Rattle.x7_listing.specs.Lister.{GapListed}

pub fresh_gap : (all start : List ℕ) (gap : List ℕ) → gap ≡ [] → all ≡ start → GapListed all start 0 [] gap
fresh_gap all start gap e f = record { prefix = []; split = e; listed = f ∙ sym (append-nil start); count = refl; full = inr refl; few = omega arith }

-- bytes more of a gap: of those held and the new ones all but the last four are listed, and these four are held then
pub listed_more : (given old new start : List ℕ) (line line2 : ℕ) (held held2 gap more listed : List ℕ) → GapListed (given ++ old) start line held gap → held ++ more ≡ listed ++ held2 → length held2 ≡ 4
    → new ≡ old ++ open_bytes line listed → line2 ≡ in_line_after 32 line listed → GapListed (given ++ new) start line2 held2 (gap ++ more)
listed_more given old new start line line2 held held2 gap more listed g e four t n = record {
  prefix = g.prefix ++ listed;
  split = ap (λ t. t ++ more) g.split ∙ append_assoc g.prefix held more ∙ ap (λ t. g.prefix ++ t) e ∙ sym (append_assoc g.prefix listed held2);
  listed = ap (λ t. given ++ t) t ∙ sym (append_assoc given old (open_bytes line listed)) ∙ ap (λ t. t ++ open_bytes line listed) g.listed ∙ append_assoc start (open_bytes 0 g.prefix) (open_bytes line listed)
      ∙ ap (λ k. start ++ (open_bytes 0 g.prefix ++ open_bytes k listed)) g.count ∙ ap (λ t. start ++ t) (sym (open_text_append 32 (codes "bytes ") hex_byte 0 g.prefix listed));
  count = n ∙ ap (λ k. in_line_after 32 k listed) g.count ∙ sym (in_line_after_append 32 0 g.prefix listed);
  full = inl four;
  few = omega arith;
}

last_four_at : (xs : List ℕ) (k : ℕ) → length xs ≡ suc (suc (suc (suc k))) → drop k xs ≡ slice_index_or xs k 0 ∷ slice_index_or xs (suc k) 0 ∷ slice_index_or xs (suc (suc k)) 0 ∷ slice_index_or xs (suc (suc (suc k))) 0 ∷ []
last_four_at [] k e = absurd (omega (arith, e))
last_four_at (a ∷ []) zero e = absurd (omega (arith, e))
last_four_at (a ∷ b ∷ []) zero e = absurd (omega (arith, e))
last_four_at (a ∷ b ∷ c ∷ []) zero e = absurd (omega (arith, e))
last_four_at (a ∷ b ∷ c ∷ d ∷ []) zero e = refl
last_four_at (a ∷ b ∷ c ∷ d ∷ x ∷ xs) zero e = absurd (omega (arith, e))
last_four_at (x ∷ xs) (suc k) e = last_four_at xs k (omega (arith, e))

-- the last four elements
pub last_four : (xs : List ℕ) (k : ℕ) → length xs ≡ k + 4 → drop k xs ≡ slice_index_or xs k 0 ∷ slice_index_or xs (k + 1) 0 ∷ slice_index_or xs (k + 2) 0 ∷ slice_index_or xs (k + 3) 0 ∷ []
last_four xs k e =
    let one : k + 1 ≡ suc k = omega arith in
    let two : k + 2 ≡ suc (suc k) = omega arith in
    let three : k + 3 ≡ suc (suc (suc k)) = omega arith in
    rw (one, two, three) (last_four_at xs k (omega (arith, e)))

-- the gap one byte further
pub gap_step : (all start : List ℕ) (line : ℕ) (held gap bytes : List ℕ) (i : ℕ) → i < length bytes → GapListed all start line held (gap ++ take i bytes ++ get_or bytes i 0 ∷ []) → GapListed all start line held (gap ++ take (i + 1) bytes)
gap_step all start line held gap bytes i h g = let e : gap ++ take i bytes ++ get_or bytes i 0 ∷ [] ≡ gap ++ take (i + 1) bytes = append_assoc gap (take i bytes) (get_or bytes i 0 ∷ []) ∙ ap (λ t. gap ++ t) (sym (take_more bytes i 0 h)) in rw (← e) g

-- four bytes held and one more are the first and the last four
pub held_then : (xs : List ℕ) (n byte : ℕ) → length xs ≡ 4 → n ≡ 4 → take n xs ++ byte ∷ [] ≡ take 1 xs ++ slice_index_or xs 1 0 ∷ slice_index_or xs 2 0 ∷ slice_index_or xs 3 0 ∷ byte ∷ []
held_then [] n byte e f = absurd (omega (arith, e))
held_then (p ∷ []) n byte e f = absurd (omega (arith, e))
held_then (p ∷ q ∷ []) n byte e f = absurd (omega (arith, e))
held_then (p ∷ q ∷ r ∷ []) n byte e f = absurd (omega (arith, e))
held_then (p ∷ q ∷ r ∷ s ∷ []) n byte e f = rw f refl
held_then (p ∷ q ∷ r ∷ s ∷ t ∷ xs) n byte e f = absurd (omega (arith, e))

-- bytes held and then a piece, of which all but the last four are listed
pub listed_all : (given old mid new start : List ℕ) (line after line2 : ℕ) (held gap bytes : List ℕ) → GapListed (given ++ old) start line held gap → 4 ≤ length bytes
    → mid ≡ old ++ open_bytes line held → after ≡ in_line_after 32 line held
    → new ≡ mid ++ open_bytes after (take (length bytes - 4) bytes) → line2 ≡ in_line_after 32 after (take (length bytes - 4) bytes)
    → GapListed (given ++ new) start line2 (slice_index_or bytes (length bytes - 4) 0 ∷ slice_index_or bytes (length bytes - 4 + 1) 0 ∷ slice_index_or bytes (length bytes - 4 + 2) 0 ∷ slice_index_or bytes (length bytes - 4 + 3) 0 ∷ []) (gap ++ bytes)
listed_all given old mid new start line after line2 held gap bytes g h m b t n =
    let k : ℕ = length bytes - 4 in
    let last : drop k bytes ≡ slice_index_or bytes k 0 ∷ slice_index_or bytes (k + 1) 0 ∷ slice_index_or bytes (k + 2) 0 ∷ slice_index_or bytes (k + 3) 0 ∷ [] = last_four bytes k (omega arith) in
    let split : held ++ bytes ≡ (held ++ take k bytes) ++ slice_index_or bytes k 0 ∷ slice_index_or bytes (k + 1) 0 ∷ slice_index_or bytes (k + 2) 0 ∷ slice_index_or bytes (k + 3) 0 ∷ [] =
    ap (λ t. held ++ t) (sym (take-append-drop k bytes) ∙ ap (λ t. take k bytes ++ t) last) ∙ sym (append_assoc held (take k bytes) (slice_index_or bytes k 0 ∷ slice_index_or bytes (k + 1) 0 ∷ slice_index_or bytes (k + 2) 0 ∷ slice_index_or bytes (k + 3) 0 ∷ [])) in
    listed_more given old new start line line2 held _ gap bytes (held ++ take k bytes) g split refl
    (t ∙ ap (λ x. x ++ open_bytes after (take k bytes)) m ∙ append_assoc old (open_bytes line held) (open_bytes after (take k bytes)) ∙ ap (λ i. old ++ (open_bytes line held ++ open_bytes i (take k bytes))) b ∙ ap (λ x. old ++ x) (sym (open_text_append 32 (codes "bytes ") hex_byte line held (take k bytes))))
    (n ∙ ap (λ i. in_line_after 32 i (take k bytes)) b ∙ sym (in_line_after_append 32 line held (take k bytes)))

-- the words of four bytes
pub body_word : (body : List ℕ) (w : ℕ) → w < 2 ^ 32 → length body ≡ 4 → bytes_of_word w ≡ slice_index_or body 0 0 ∷ slice_index_or body 1 0 ∷ slice_index_or body 2 0 ∷ slice_index_or body 3 0 ∷ [] → words_of_bytes body ≡ w ∷ []
body_word [] w g e f = absurd (omega (arith, e))
body_word (a ∷ []) w g e f = absurd (omega (arith, e))
body_word (a ∷ b ∷ []) w g e f = absurd (omega (arith, e))
body_word (a ∷ b ∷ c ∷ []) w g e f = absurd (omega (arith, e))
body_word (a ∷ b ∷ c ∷ d ∷ []) w g e f = words_four (a ∷ b ∷ c ∷ d ∷ []) w refl f g
body_word (a ∷ b ∷ c ∷ d ∷ x ∷ xs) w g e f = absurd (omega (arith, e))
