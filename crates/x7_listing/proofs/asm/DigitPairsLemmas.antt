-- Pairs of digits read row by row, as in a field of a header's line.
use Rattle.std.proofs.Common.{◌≡◌, ℕ, zero, suc, ◌*◌, ◌<◌, Bool, true, false, List, [], ◌∷◌, ◌++◌, length, take, drop, min, inl, inr, refl, ap, sym, ◌∙◌, arith, append-nil, take-append-drop, length-drop}
use Rattle.std.proofs.lemmas.List.{length-take-le, nil_from_length}
use Rattle.std.proofs.lemmas.Bool.{cases_lt}
use Rattle.std.specs.List.{flat_map}
use Rattle.x7_words.specs.Word.{AreBytes}
use Rattle.x7_text.specs.Digits.{hex_byte}
use Rattle.x7_text.specs.Reads.{AppendsIfRead}
use Rattle.x7_text.specs.Row.{IsByteRow}
use Rattle.x7_text.proofs.WholeLineLemmas.{length_hex_bytes}

-- what is left after the digits of the first bytes is digits of bytes
left_over : (done bs rest : List ℕ) → AreBytes bs → flat_map hex_byte done ++ rest ≡ flat_map hex_byte bs → (tail : List ℕ) × AreBytes tail × (rest ≡ flat_map hex_byte tail)
left_over [] bs rest a e = (bs, a, e)
left_over (d ∷ ds) [] rest a e = absurd cc
left_over (d ∷ ds) (b ∷ bs) rest a e = let tails : flat_map hex_byte ds ++ rest ≡ flat_map hex_byte bs = cc in left_over ds bs rest a.1 tails

-- the first digits of bytes, an even number of them, are the digits of the first bytes
prefix_of : (k : ℕ) (row more tail : List ℕ) → length row ≡ 2 * k → AreBytes tail → row ++ more ≡ flat_map hex_byte tail → (prefix : List ℕ) × AreBytes prefix × (row ≡ flat_map hex_byte prefix) × (length prefix ≡ k)
prefix_of zero [] more tail h a e = ([], tt, refl, refl)
prefix_of zero (r ∷ row) more tail h a e = absurd (omega (arith, h))
prefix_of (suc k) [] more tail h a e = absurd (omega (arith, h))
prefix_of (suc k) (r ∷ []) more tail h a e = absurd (omega (arith, h))
prefix_of (suc k) (r ∷ s ∷ row) more [] h a e = absurd cc
prefix_of (suc k) (r ∷ s ∷ row) more (b ∷ tail) h a e =
    let tails : row ++ more ≡ flat_map hex_byte tail = cc in
    let f = prefix_of k row more tail (omega (arith, h)) a.1 tails in
    let first : r ∷ s ∷ row ≡ flat_map hex_byte (b ∷ f.0) = cc in
    (b ∷ f.0, (a.0, f.1), first, ap (λ (n : ℕ). suc n) f.3)

module _ (digits done rest row more : List ℕ) (n : ℕ) (prefix : row ≡ take n rest) (back : more ≡ drop n rest) (most : n ≡ min (length rest) 64) (read : digits ≡ flat_map hex_byte done ++ rest) where
  whole : rest ≡ row ++ more
  whole = sym (take-append-drop n rest) ∙ ap (λ t. t ++ drop n rest) (sym prefix) ∙ ap (λ t. row ++ t) (sym back)

  long_row : length row ≡ n
  long_row = ap length prefix ∙ length-take-le n rest (omega (arith, most))

  no_long : ((x : List ℕ) → IsByteRow x → row ≡ flat_map hex_byte x → ⊥) → n ≡ 64 → (tail : List ℕ) → AreBytes tail → rest ≡ flat_map hex_byte tail → ⊥
  no_long none e tail a is = let f = prefix_of 32 row more tail (long_row ∙ e) a (sym whole ∙ is) in none f.0 (f.1, omega (arith, f.3), omega (arith, f.3)) f.2

  no_short : ((x : List ℕ) → IsByteRow x → row ≡ flat_map hex_byte x → ⊥) → 0 < length rest → length rest < 64 → (tail : List ℕ) → AreBytes tail → rest ≡ flat_map hex_byte tail → ⊥
  no_short none some short tail a is =
      let empty : more ≡ [] = nil_from_length more (ap length back ∙ length-drop n rest ∙ omega (arith, most, short)) in
      let all : row ≡ rest = sym (append-nil row) ∙ ap (λ t. row ++ t) (sym empty) ∙ sym whole in
      none tail (a, omega (arith, some, ap length is, length_hex_bytes tail), omega (arith, short, ap length is, length_hex_bytes tail)) (all ∙ is)

  pub no_pairs : ((x : List ℕ) → IsByteRow x → row ≡ flat_map hex_byte x → ⊥) → 0 < length rest → (bs : List ℕ) → AreBytes bs → digits ≡ flat_map hex_byte bs → ⊥
  no_pairs none some bs a e =
      let t = left_over done bs rest a (sym read ∙ e) in
      elim (cases_lt (length rest) 64) [
        | inl short ↦ no_short none some short t.0 t.1 t.2
        | inr long ↦ no_long none (omega (arith, most, long)) t.0 t.1 t.2
      ]

pub unread : (r : Bool) (row old new : List ℕ) → r ≡ false → AppendsIfRead IsByteRow (flat_map hex_byte) (λ (bs : List ℕ). bs) r row old new → (x : List ℕ) → IsByteRow x → row ≡ flat_map hex_byte x → ⊥
unread true row old new e h = absurd cc
unread false row old new e h = h.0
