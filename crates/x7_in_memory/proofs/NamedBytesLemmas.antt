-- Lemmas on what was put under names, and on reading it from a place on.
use Rattle.std.proofs.Common.{◌≡◌, ℕ, List, [], ◌∷◌, ◌++◌, ◌+◌, ◌≤◌, ◌<◌, take, drop, length, map, Option, None, Some, Bool, true, false, cond, if◌then◌else◌, not, nat_lt, is_none, refl, ap, sym, ◌∙◌, arith, zero, suc, get_or, string_bytes, option_map, slice_get, position}
use Rattle.std.proofs.lemmas.Grind.{common_steps}
use Rattle.std.proofs.lemmas.List.{take-append-drop}
use Rattle.std.proofs.Math.Seq.{take-append_seam}
use Rattle.std.specs.Cmp.Lexicographic.{bytes_decides}
use Rattle.std.specs.Str.{bytes_eq}
use Rattle.std.specs.List.{prefix_len}
use Rattle.x7_words.specs.Input.{preceded}
use Rattle.x7_in_memory.specs.Memory.{bytes_under, name_under}
use Rattle.x7_in_memory.specs.NamedBytes.{entry_of, left_of, name_of_place}
use Rattle.x7_in_memory.specs.declared.named_bytes.NamedBytes.{NamedBytes}

-- how many stand before the first one of the name
abbrev pub count_before : List NamedBytes → List ℕ → ℕ
count_before named name = prefix_len (λ entry. not (bytes_eq (string_bytes entry.name) name)) named

absent_at : (entry : NamedBytes) (named : List NamedBytes) (name : List ℕ) (before : ℕ) (same : Bool) → (length named ≤ before → bytes_under (map entry_of named) name ≡ None) →
    length (entry ∷ named) ≤ cond (not same) (1 + before) 0 → (if same then Some entry.bytes.items else bytes_under (map entry_of named) name) ≡ None
absent_at entry named name before true more h = absurd (omega arith)
absent_at entry named name before false more h = more (omega arith)

absent_from : (named : List NamedBytes) (name : List ℕ) → length named ≤ count_before named name → bytes_under (map entry_of named) name ≡ None
absent_from [] name h = refl
absent_from (entry ∷ named) name h =
    absent_at entry named name (count_before named name) (bytes_eq (string_bytes entry.name) name) (absent_from named name) h

found_at : (entry : NamedBytes) (named : List NamedBytes) (name : List ℕ) (before : ℕ) (same : Bool) →
    (before < length named → (bytes : List ℕ) × ((bytes_under (map entry_of named) name ≡ Some bytes) × (left_of named 0 (Some before) ≡ Some bytes))) →
    cond (not same) (1 + before) 0 < length (entry ∷ named) →
    (bytes : List ℕ) × (((if same then Some entry.bytes.items else bytes_under (map entry_of named) name) ≡ Some bytes) × (left_of (entry ∷ named) 0 (Some (cond (not same) (1 + before) 0)) ≡ Some bytes))
found_at entry named name before true more h = (entry.bytes.items, (refl, refl))
found_at entry named name before false more h =
    let one : 1 + before ≡ suc before = omega arith in
    rw one (more (omega arith))

found_from : (named : List NamedBytes) (name : List ℕ) → count_before named name < length named →
    (bytes : List ℕ) × ((bytes_under (map entry_of named) name ≡ Some bytes) × (left_of named 0 (Some (count_before named name)) ≡ Some bytes))
found_from [] name h = absurd (omega arith)
found_from (entry ∷ named) name h =
    found_at entry named name (count_before named name) (bytes_eq (string_bytes entry.name) name) (found_from named name) h

place_some : (n l k : ℕ) → (if nat_lt n l then Some n else None) ≡ Some k → (n < l) × (n ≡ k)
place_some n l k e = (grind (arith, common_steps), grind (arith, common_steps))

place_none : (n l : ℕ) → (if nat_lt n l then Some n else None) ≡ None → l ≤ n
place_none n l e = grind (arith, common_steps)

-- what stands at the first place of the name is what is under the name
pub bytes_under_position : (named : List NamedBytes) (name : List ℕ) (place : Option ℕ) → place ≡ position (λ entry. bytes_eq (string_bytes entry.name) name) named →
    (is_none place ≡ is_none (bytes_under (map entry_of named) name)) × (left_of named 0 place ≡ bytes_under (map entry_of named) name)
bytes_under_position named name None e =
    let none = absent_from named name (place_none (count_before named name) (length named) (sym e)) in
    (rw none refl, sym none)
bytes_under_position named name (Some place) e =
    let at = place_some (count_before named name) (length named) place (sym e) in
    let h = found_from named name at.0 in
    (rw h.1.0 refl, rw (← at.1) (h.1.1 ∙ sym h.1.0))

name_at : (entry : NamedBytes) (named : List NamedBytes) (name : List ℕ) (before : ℕ) (same : Bool) → bytes_eq (string_bytes entry.name) name ≡ same → (before < length named → name_of_place named (Some before) ≡ Some name) →
    cond (not same) (1 + before) 0 < length (entry ∷ named) → name_of_place (entry ∷ named) (Some (cond (not same) (1 + before) 0)) ≡ Some name
name_at entry named name before true e more h = ap Some ((bytes_decides (string_bytes entry.name) name).0 e)
name_at entry named name before false e more h =
    let one : 1 + before ≡ suc before = omega arith in
    rw one (more (omega arith))

name_from : (named : List NamedBytes) (name : List ℕ) → count_before named name < length named → name_of_place named (Some (count_before named name)) ≡ Some name
name_from [] name h = absurd (omega arith)
name_from (entry ∷ named) name h =
    name_at entry named name (count_before named name) (bytes_eq (string_bytes entry.name) name) refl (name_from named name) h

-- the name at the first place of the name is the name
pub name_under_position : (named : List NamedBytes) (name : List ℕ) (place : Option ℕ) → place ≡ position (λ entry. bytes_eq (string_bytes entry.name) name) named →
    name_of_place named place ≡ name_under (map entry_of named) name
name_under_position named name None e =
    let none = absent_from named name (place_none (count_before named name) (length named) (sym e)) in
    rw none refl
name_under_position named name (Some place) e =
    let at = place_some (count_before named name) (length named) place (sym e) in
    let h = found_from named name at.0 in
    rw h.1.0 (ap (λ n. name_of_place named (Some n)) (sym at.1) ∙ name_from named name at.0)

got : {X : Type 0} (xs : List X) (i : ℕ) (d : X) → i < length xs → slice_get xs i ≡ Some (get_or xs i d)
got [] i d h = absurd (omega arith)
got (x ∷ xs) zero d h = refl
got (x ∷ xs) (suc i) d h = got xs i d (omega arith)

-- what is left of the one that was read
pub left_of_at : (named : List NamedBytes) (given place : ℕ) (entry : NamedBytes) (left : List ℕ) → place < length named → left ≡ drop given (get_or named place entry).bytes.items → left_of named given (Some place) ≡ Some left
left_of_at named given place entry left h e = rw (got named place entry h, e) refl

left_in_add : (at : Option NamedBytes) (given n : ℕ) (left : List ℕ) → option_map (λ entry. drop given entry.bytes.items) at ≡ Some left → option_map (λ entry. drop (given + n) entry.bytes.items) at ≡ Some (drop n left)
left_in_add None given n left e = absurd (cc)
left_in_add (Some entry) given n left e =
    let same : drop given entry.bytes.items ≡ left = cc in
    let more : drop n (drop given entry.bytes.items) ≡ drop (given + n) entry.bytes.items = grind (arith, common_steps) in
    rw (← same) (ap Some (sym more))

-- what is left after some more bytes
pub left_of_add : (named : List NamedBytes) (given n : ℕ) (selected : Option ℕ) (left : List ℕ) → left_of named given selected ≡ Some left → left_of named (given + n) selected ≡ Some (drop n left)
left_of_add named given n None left e = absurd (cc)
left_of_add named given n (Some place) left e = left_in_add (slice_get named place) given n left e

-- a read gives what it takes from the rest
pub preceded_taken : (before after : Option (List ℕ)) (left given kept : List ℕ) (n : ℕ) → before ≡ Some left → after ≡ Some (drop n left) → n ≤ length left → given ≡ take n left → before ≡ preceded (take n (given ++ kept)) after
preceded_taken before after left given kept n b a h e =
    let long : length given ≡ n = grind (arith, common_steps, ap length e) in
    let prefix : take n (given ++ kept) ≡ given = rw (← long) (take-append_seam given kept) in
    rw (b, a) (ap Some (rw (prefix, e) (sym (take-append-drop n left))))
