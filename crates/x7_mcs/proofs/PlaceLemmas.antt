-- Marked places, and one record more.
use Rattle.std.proofs.Common.{◌≡◌, ℕ, suc, zero, ◌+◌, ◌*◌, ◌/◌, ◌%◌, ◌^◌, ◌&&◌, ◌||◌, ◌==◌, nat_le, nat_lt, ◌<◌, ◌≤◌, Bool, true, false, if◌then◌else◌, List, [], ◌∷◌, Option, None, Some, MatchOption, Err, length, get_or, set, refl, ap, ap₂, sym, subst, ◌∙◌, ◌⊎◌, inl, inr, arith, get_or-set_other, get_or-set_same}
use Rattle.std.proofs.lemmas.Bool.{cases_eq, cases_lt, le-ltb}
use Rattle.std.proofs.lemmas.Grind.{common_steps}
use Rattle.std.proofs.lemmas.Nat.Bits.{bit_at_ones, bit_at_set_other, bit_at_set_same}
use Rattle.std.specs.Int.{bit_at}
use Rattle.std.specs.Prelude.{bit_or}
use mir.Syntax.{w16}
use Rattle.x7_mcs.specs.DataRecords.{DataRecord, covered, covers, record_end, extent, overlap, unless_covered, with_record}
use Rattle.x7_mcs.specs.Image.{AreFree, HoldsRecords, IsFirstMarked, is_marked}
use Rattle.x7_mcs.specs.declared.fault.McsFault.TheVariants as fault

-- ---- marks

marked_other : (marks : List ℕ) (j v p : ℕ) → (p / 16 ≡ j → ⊥) → is_marked (set marks j v) p ≡ is_marked marks p
marked_other marks j v p h = ap (λ (m : ℕ). bit_at m (p % 16) == 1) (get_or-set_other marks j (p / 16) v 0 h)

marked_same : (marks : List ℕ) (j v p : ℕ) → j < length marks → p / 16 ≡ j → is_marked (set marks j v) p ≡ (bit_at v (p % 16) == 1)
marked_same marks j v p h e = ap (λ (m : ℕ). bit_at m (p % 16) == 1) (ap (λ (k : ℕ). get_or (set marks j v) k 0) e ∙ get_or-set_same marks j v 0 h)

-- a place outside a range stays as it was when the range is marked, and one inside it is marked
outside : (b c : Bool) (from to p : ℕ) → b ≡ c → (p < from) ⊎ (to ≤ p) → b ≡ (if nat_le from p && nat_lt p to then true else c)
outside b c from to p e (inl h) = e ∙ grind (arith, common_steps)
outside b c from to p e (inr h) = e ∙ grind (arith, common_steps)

inside : (b c : Bool) (from to p : ℕ) → b ≡ true → from ≤ p → p < to → b ≡ (if nat_le from p && nat_lt p to then true else c)
inside b c from to p e h l = e ∙ grind (arith, common_steps)

one_set : (n k : ℕ) → k < 16 → (bit_at (bit_or n (1 * 2 ^ k % 2 ^ 16)) k == 1) ≡ true
one_set n k h = ap (λ (v : ℕ). v == 1) (bit_at_set_same w16 n k h)

pub place_marked : (marks : List ℕ) (mark place : ℕ) → mark ≡ get_or marks (place / 16) 0 → place / 16 < length marks
    → (p : ℕ) → is_marked (set marks (place / 16) (bit_or mark (1 * 2 ^ (place % 16) % 2 ^ 16))) p ≡ (if nat_le place p && nat_lt p (place + 1) then true else is_marked marks p)
place_marked marks mark place g h p = elim (cases_eq (p / 16) (place / 16)) [
  | inr other ↦ outside _ (is_marked marks p) place (place + 1) p (marked_other marks (place / 16) _ p other) (apart p place other)
  | inl same ↦ elim (cases_eq (p % 16) (place % 16)) [
    | inl here ↦ inside _ (is_marked marks p) place (place + 1) p
        (marked_same marks (place / 16) _ p h same ∙ ap (λ (k : ℕ). bit_at (bit_or mark (1 * 2 ^ (place % 16) % 2 ^ 16)) k == 1) here ∙ one_set mark (place % 16) (omega arith))
        (omega (arith, same, here)) (omega (arith, same, here))
    | inr there ↦ outside _ (is_marked marks p) place (place + 1) p
        (marked_same marks (place / 16) _ p h same ∙ ap (λ (v : ℕ). v == 1) (bit_at_set_other w16 mark (place % 16) (omega arith) (p % 16) there)
        ∙ ap (λ (m : ℕ). bit_at m (p % 16) == 1) g ∙ ap (λ (k : ℕ). bit_at (get_or marks k 0) (p % 16) == 1) (sym same))
        (beside p place same there)
  ]
]
  where
    apart : (p place : ℕ) → (p / 16 ≡ place / 16 → ⊥) → (p < place) ⊎ (place + 1 ≤ p)
    apart p place h = elim (cases_lt p place) [ inl l ↦ inl l | inr l ↦ inr (elim (cases_eq p place) [ inl e ↦ absurd (h (ap (λ (k : ℕ). k / 16) e)) | inr n ↦ omega arith ]) ]

    beside : (p place : ℕ) → p / 16 ≡ place / 16 → (p % 16 ≡ place % 16 → ⊥) → (p < place) ⊎ (place + 1 ≤ p)
    beside p place e h = elim (cases_lt p place) [ inl l ↦ inl l | inr l ↦ inr (elim (cases_eq p place) [ inl f ↦ absurd (h (ap (λ (k : ℕ). k % 16) f)) | inr n ↦ omega arith ]) ]

pub sixteen_marked : (marks : List ℕ) (place : ℕ) → place / 16 < length marks → place % 16 ≡ 0
    → (p : ℕ) → is_marked (set marks (place / 16) 65535) p ≡ (if nat_le place p && nat_lt p (place + 16) then true else is_marked marks p)
sixteen_marked marks place h e p = elim (cases_eq (p / 16) (place / 16)) [
  | inr other ↦ outside _ (is_marked marks p) place (place + 16) p (marked_other marks (place / 16) _ p other) (elim (cases_lt p place) [ inl l ↦ inl l | inr l ↦ inr (omega (arith, e, other)) ])
  | inl same ↦ inside _ (is_marked marks p) place (place + 16) p
      (marked_same marks (place / 16) 65535 p h same ∙ ap (λ (v : ℕ). v == 1) (bit_at_ones 16 (p % 16) (omega arith)))
      (omega (arith, e, same)) (omega (arith, e, same))
]

-- places marked from one on to another, and then on to a next one, are marked from the first to the last
pub marked_on : (new old first : Bool) (place at next p : ℕ) → place ≤ at → at ≤ next → new ≡ (if nat_le at p && nat_lt p next then true else old) → old ≡ (if nat_le place p && nat_lt p at then true else first)
    → new ≡ (if nat_le place p && nat_lt p next then true else first)
marked_on new old first place at next p h l e f = e ∙ ap (λ (b : Bool). if nat_le at p && nat_lt p next then true else b) f ∙ grind (arith, common_steps)

-- ---- overlap

pub overlap_at : (xs : List DataRecord) (p n q : ℕ) → p ≤ q → q < p + n → covered xs q ≡ true → ((k : ℕ) → p ≤ k → k < q → covered xs k ≡ false) → overlap xs p n ≡ Some q
overlap_at xs p zero q h l c f = absurd (omega arith)
overlap_at xs p (suc n) q h l c f = elim (cases_lt p q) [
  | inl before ↦ ap (λ (b : Bool). if b then Some p else overlap xs (p + 1) n) (f p (omega arith) before) ∙ overlap_at xs (p + 1) n q (omega arith) (omega arith) c (λ k i j. f k (omega arith) j)
  | inr here ↦ let same : q ≡ p = omega arith in ap (λ (b : Bool). if b then Some p else overlap xs (p + 1) n) (subst (λ (k : ℕ). covered xs k ≡ true) same c) ∙ ap Some (sym same)
]

pub overlap_none : (xs : List DataRecord) (p n : ℕ) → ((k : ℕ) → p ≤ k → k < p + n → covered xs k ≡ false) → overlap xs p n ≡ None
overlap_none xs p zero f = refl
overlap_none xs p (suc n) f = ap (λ (b : Bool). if b then Some p else overlap xs (p + 1) n) (f p (omega arith) (omega arith)) ∙ overlap_none xs (p + 1) n (λ k h l. f k (omega arith) (omega arith))

covers_within : (x : DataRecord) (p : ℕ) → record_end x ≤ p → covers x p ≡ false
covers_within x p h = grind (arith, common_steps)

pub covered_within : (xs : List DataRecord) (p : ℕ) → extent xs ≤ p → covered xs p ≡ false
covered_within [] p h = refl
covered_within (x ∷ xs) p h = ap₂ (λ (a b : Bool). a || b) (covers_within x p (omega arith)) (covered_within xs p (omega arith))

-- from the end of the bytes on, no record covers a place
pub past_is_free : (xs : List DataRecord) (bytes marks : List ℕ) → HoldsRecords xs bytes marks → (p n : ℕ) → length bytes ≤ p → overlap xs p n ≡ None
past_is_free xs bytes marks h p n l = overlap_none xs p n (λ k i j. covered_within xs k (omega (arith, h.long)))

pub first_is_least : (xs : List DataRecord) (bytes marks : List ℕ) → HoldsRecords xs bytes marks → (p n q : ℕ) → IsFirstMarked marks p (p + n) q → overlap xs p n ≡ Some q
first_is_least xs bytes marks h p n q f = overlap_at xs p n q f.since f.within (sym (h.marked q) ∙ f.marked) (λ k i j. sym (h.marked k) ∙ f.before k i j)

pub free_has_none : (xs : List DataRecord) (bytes marks : List ℕ) → HoldsRecords xs bytes marks → (p n : ℕ) → AreFree marks p (p + n) → overlap xs p n ≡ None
free_has_none xs bytes marks h p n f = overlap_none xs p n (λ k i j. sym (h.marked k) ∙ f k i j)

pub least_is_first : (xs : List DataRecord) (bytes marks seen : List ℕ) → HoldsRecords xs bytes marks → seen ≡ marks → (p n : ℕ) (o : Option ℕ) → MatchOption o (AreFree seen p (p + n)) (λ q. IsFirstMarked seen p (p + n) q) → o ≡ overlap xs p n
least_is_first xs bytes marks seen h e p n None f = sym (free_has_none xs bytes seen (subst (λ (m : List ℕ). HoldsRecords xs bytes m) (sym e) h) p n f)
least_is_first xs bytes marks seen h e p n (Some q) f = sym (first_is_least xs bytes seen (subst (λ (m : List ℕ). HoldsRecords xs bytes m) (sym e) h) p n q f)

-- ---- one record more

no_zero : (a : ℕ) → 0 < a → (a == 0) ≡ false
no_zero a h = grind (arith, common_steps)

pub end_is : (x : DataRecord) → 0 < length x.bytes → record_end x ≡ x.place + length x.bytes
end_is x h = ap (λ (b : Bool). if b then 0 else x.place + length x.bytes) (no_zero (length x.bytes) h)

pub within : (n : ℕ) (xs : List DataRecord) (x : DataRecord) → 0 < length x.bytes → x.place + length x.bytes ≤ 2 ^ 27 → with_record n xs x ≡ unless_covered (overlap xs x.place (length x.bytes)) (x ∷ xs)
within n xs x h l = ap (λ (b : Bool). if b then Err (fault.TooLarge n) else unless_covered (overlap xs x.place (length x.bytes)) (x ∷ xs)) (le-ltb (2 ^ 27) (record_end x) (omega (arith, l, end_is x h)))
