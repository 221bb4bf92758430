-- The text of bytes gives them back: its records.
use Rattle.std.proofs.Common.{◌≡◌, ◌==◌, ℕ, zero, suc, ◌+◌, ◌-◌, ◌/◌, ◌%◌, ◌^◌, ◌<◌, ◌≤◌, not, Bool, false, if◌then◌else◌, List, [], ◌∷◌, ◌++◌, Err, length, take, get_or, refl, ap, ap₂, sym, ◌∙◌, arith, append_assoc, length-append, eq-eqb}
use Rattle.std.proofs.lemmas.Grind.{common_steps}
use Rattle.std.proofs.lemmas.List.{get_or_at, take_at}
use Rattle.std.specs.List.{flat_map}
use Rattle.x7_text.specs.Digits.{hex_byte, hex_digit}
use Rattle.x7_mcs.specs.Lines.{lines_of, on_first, split, without_return}
use Rattle.x7_mcs.specs.Record.{record_count, sum_found, meaning_by_type, meaning_of, sum_byte, sum_wanted}
use Rattle.x7_mcs.specs.Text.{record_line}
use Rattle.x7_mcs.specs.declared.fault.McsFault.TheVariants as fault
use Rattle.x7_mcs.proofs.LineLemmas.{line_ends}

-- each character is greater than 0D, so none is a line end or a 0D
abbrev pub Plain : List ℕ → Type 0
Plain [] = Unit {0}
Plain (c ∷ cs) = (14 ≤ c) × Plain cs

plain_digit : (n : ℕ) → n < 16 → 14 ≤ hex_digit n
plain_digit n h = grind (arith, common_steps)

pub plain_digits : (bs : List ℕ) → Plain (flat_map hex_byte bs)
plain_digits [] = tt
plain_digits (b ∷ bs) = (plain_digit (b / 2 ^ 4 % 16) (omega arith), (plain_digit (b % 16) (omega arith), plain_digits bs))

no_end : (c : ℕ) → 14 ≤ c → (c == 10) ≡ false
no_end c h = grind (arith, common_steps)

no_return : (c : ℕ) → 14 ≤ c → (c == 13) ≡ false
no_return c h = grind (arith, common_steps)

pub split_plain : (t rest : List ℕ) → Plain t → split (t ++ 10 ∷ rest) ≡ t ∷ split rest
split_plain [] rest h = refl
split_plain (c ∷ cs) rest h = ap (λ (b : Bool). if b then [] ∷ split (cs ++ 10 ∷ rest) else on_first c (split (cs ++ 10 ∷ rest))) (no_end c h.0) ∙ ap (on_first c) (split_plain cs rest h.1)

plain_at : (t : List ℕ) (i : ℕ) → Plain t → i < length t → 14 ≤ get_or t i 0
plain_at [] i h l = absurd (omega arith)
plain_at (c ∷ cs) zero h l = h.0
plain_at (c ∷ cs) (suc i) h l = plain_at cs i h.1 (omega arith)

pub plain_stays : (c : ℕ) (cs : List ℕ) → Plain (c ∷ cs) → without_return (c ∷ cs) ≡ c ∷ cs
plain_stays c cs h =
    ap (λ (b : Bool). if b then take (length (c ∷ cs) - 1) (c ∷ cs) else c ∷ cs) (no_return (get_or (c ∷ cs) (length (c ∷ cs) - 1) 0) (plain_at (c ∷ cs) (length (c ∷ cs) - 1) h (omega arith)))

-- the first line of a text that begins with a record's line
pub record_first : (bs rest : List ℕ) → lines_of (record_line bs ++ rest) ≡ (58 ∷ flat_map hex_byte (bs ++ sum_byte bs ∷ [])) ∷ lines_of rest
record_first bs rest =
    let ds : List ℕ = flat_map hex_byte (bs ++ sum_byte bs ∷ []) in
    let p : Plain (58 ∷ flat_map hex_byte (bs ++ sum_byte bs ∷ [])) = (omega arith, plain_digits (bs ++ sum_byte bs ∷ [])) in
    ap lines_of (ap (λ t. 58 ∷ t) (append_assoc (flat_map hex_byte (bs ++ sum_byte bs ∷ [])) (10 ∷ []) rest))
    ∙ line_ends (58 ∷ (flat_map hex_byte (bs ++ sum_byte bs ∷ []) ++ 10 ∷ rest)) (58 ∷ flat_map hex_byte (bs ++ sum_byte bs ∷ [])) rest (split_plain (58 ∷ flat_map hex_byte (bs ++ sum_byte bs ∷ [])) rest p)
    ∙ ap (λ (t : List ℕ). t ∷ lines_of rest) (plain_stays 58 (flat_map hex_byte (bs ++ sum_byte bs ∷ [])) p)

-- the sum of a record that was written is the one that it wants
sum_is : (bs : List ℕ) → sum_wanted (bs ++ sum_byte bs ∷ []) ≡ sum_found (bs ++ sum_byte bs ∷ [])
sum_is bs =
    let long : length (bs ++ sum_byte bs ∷ []) ≡ length bs + 1 = length-append bs (sum_byte bs ∷ []) in
    let n : length bs ≡ length (bs ++ sum_byte bs ∷ []) - 1 = omega (arith, long) in
    ap sum_byte (take_at bs (sum_byte bs ∷ []) (length (bs ++ sum_byte bs ∷ []) - 1) n) ∙ sym (get_or_at bs (sum_byte bs) [] 0 (length (bs ++ sum_byte bs ∷ []) - 1) n)

pub meaning_written : (n : ℕ) (bs : List ℕ) → record_count (bs ++ sum_byte bs ∷ []) + 5 ≡ length (bs ++ sum_byte bs ∷ []) → meaning_of n false (bs ++ sum_byte bs ∷ []) ≡ meaning_by_type n (bs ++ sum_byte bs ∷ [])
meaning_written n bs e =
    let all : List ℕ = bs ++ sum_byte bs ∷ [] in
    ap₂ (λ (b : Bool) (d : Bool). if not b then Err (fault.Line n) else if not d then Err (fault.Sum n (sum_wanted (bs ++ sum_byte bs ∷ [])) (sum_found (bs ++ sum_byte bs ∷ []))) else meaning_by_type n (bs ++ sum_byte bs ∷ []))
    (eq-eqb _ _ e) (eq-eqb _ _ (sum_is bs))
