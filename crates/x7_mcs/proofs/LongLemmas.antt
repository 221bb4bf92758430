-- Lines that are too long for a record, or no pairs of digits.
use Rattle.std.proofs.Common.{◌≡◌, ◌==◌, ℕ, ◌+◌, ◌*◌, ◌%◌, ◌<◌, not, Bool, true, false, if◌then◌else◌, List, [], ◌∷◌, MatchBool, Option, None, Some, Ok, Err, length, drop, get_or, refl, ap, subst, sym, ◌∙◌, arith, length-drop}
use Rattle.x7_words.specs.Word.{AreBytes}
use Rattle.x7_text.proofs.CaseLemmas.{pairs_fit, pairs_long}
use Rattle.std.proofs.lemmas.Grind.{common_steps}
use Rattle.x7_mcs.specs.Record.{record_count, sum_found, meaning_by_type, bytes_of_pairs, sum_wanted, byte_values}
use Rattle.x7_mcs.specs.Flash.{FlashReading, after_bytes, after_line, after_meaning}
use Rattle.x7_mcs.specs.declared.fault.McsFault.TheVariants as fault

first_fits : (bs : List ℕ) → AreBytes bs → get_or bs 0 0 < byte_values
first_fits [] h = omega arith
first_fits (b ∷ bs) h = h.0

count_small : (cs bs : List ℕ) → bytes_of_pairs cs ≡ Some bs → record_count bs < byte_values
count_small cs bs e = first_fits bs (pairs_fit cs bs e)

differ : (a b : ℕ) → a < b → (a == b) ≡ false
differ a b h = grind (arith, common_steps)

long_by : (o : Option (List ℕ)) (n : ℕ) (r : FlashReading) (digits : List ℕ) → bytes_of_pairs digits ≡ o → 520 < length digits → after_bytes n r o ≡ Err (fault.Line n)
long_by None n r digits e h = refl
long_by (Some bs) n r digits e h =
    let long : length digits ≡ 2 * length bs = pairs_long digits bs e in
    let small : record_count bs < 256 = count_small digits bs e in
    ap (λ (b : Bool). after_meaning n r bs (if not b then Err (fault.Line n) else if not (sum_wanted bs == sum_found bs) then Err (fault.Sum n (sum_wanted bs) (sum_found bs)) else if r.has_ended then Err (fault.Line n) else meaning_by_type n bs))
    (differ (record_count bs + 5) (length bs) (omega (arith, long, small)))

too_long : (n : ℕ) (r : FlashReading) (digits : List ℕ) → 520 < length digits → after_bytes n r (bytes_of_pairs digits) ≡ Err (fault.Line n)
too_long n r digits h = long_by (bytes_of_pairs digits) n r digits refl h

same : (c : ℕ) → c ≡ 58 → (c == 58) ≡ true
same c e = grind (arith, common_steps)

-- a line by its digits
pub digits_line : (n : ℕ) (r : FlashReading) (line digits : List ℕ) → (length line ≡ 0 → ⊥) → get_or line 0 0 ≡ 58 → digits ≡ drop 1 line → after_line n r line ≡ after_bytes n r (bytes_of_pairs digits)
digits_line n r [] digits some e f = absurd (some refl)
digits_line n r (c ∷ cs) digits some e f = ap (λ (b : Bool). if b then after_bytes n r (bytes_of_pairs cs) else Err (fault.Line n)) (same c e) ∙ ap (λ (t : List ℕ). after_bytes n r (bytes_of_pairs t)) (sym f)

-- a line of another first byte
pub other_line : (n : ℕ) (r : FlashReading) (line : List ℕ) → (length line ≡ 0 → ⊥) → (get_or line 0 0 ≡ 58 → ⊥) → after_line n r line ≡ Err (fault.Line n)
other_line n r [] some h = absurd (some refl)
other_line n r (c ∷ cs) some h = ap (λ (b : Bool). if b then after_bytes n r (bytes_of_pairs cs) else Err (fault.Line n)) (differs c h)
  where
    differs : (c : ℕ) → (c ≡ 58 → ⊥) → (c == 58) ≡ false
    differs c h = grind (arith, common_steps)

pub empty_line : (n : ℕ) (r : FlashReading) (line : List ℕ) → length line ≡ 0 → after_line n r line ≡ Ok r
empty_line n r [] e = refl
empty_line n r (c ∷ cs) e = absurd (omega (arith, e))

-- what holds by a bool that is true, or false
pub by_true : (b : Bool) (P Q : Type 0) → b ≡ true → MatchBool b P Q → P
by_true b P Q e h = subst (λ (a : Bool). MatchBool a P Q) e h

pub by_false : (b : Bool) (P Q : Type 0) → b ≡ false → MatchBool b P Q → Q
by_false b P Q e h = subst (λ (a : Bool). MatchBool a P Q) e h

-- a line of `:` and digits whose bytes are at fault
colon_line : (n : ℕ) (r : FlashReading) (line digits : List ℕ) → get_or line 0 0 ≡ 58 → digits ≡ drop 1 line → 0 < length digits → after_bytes n r (bytes_of_pairs digits) ≡ Err (fault.Line n) → after_line n r line ≡ Err (fault.Line n)
colon_line n r line digits e f h bad = digits_line n r line digits (λ z. omega (arith, h, ap length f, z, length-drop 1 line)) e f ∙ bad

pub long_line : (n : ℕ) (r : FlashReading) (line digits : List ℕ) → get_or line 0 0 ≡ 58 → digits ≡ drop 1 line → 520 < length digits → after_line n r line ≡ Err (fault.Line n)
long_line n r line digits e f h = colon_line n r line digits e f (omega (arith, h)) (too_long n r digits h)

-- an odd count of digits is no pairs
odd_by : (o : Option (List ℕ)) (n : ℕ) (r : FlashReading) (digits : List ℕ) → bytes_of_pairs digits ≡ o → length digits % 2 ≡ 1 → after_bytes n r o ≡ Err (fault.Line n)
odd_by None n r digits e h = refl
odd_by (Some bs) n r digits e h = absurd (omega (arith, pairs_long digits bs e, h))

pub odd_line : (n : ℕ) (r : FlashReading) (line digits : List ℕ) → get_or line 0 0 ≡ 58 → digits ≡ drop 1 line → length digits % 2 ≡ 1 → after_line n r line ≡ Err (fault.Line n)
odd_line n r line digits e f h = colon_line n r line digits e f (omega (arith, h)) (odd_by (bytes_of_pairs digits) n r digits refl h)
