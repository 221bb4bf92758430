-- The sections of a plan write each of its rows once.
use Rattle.std.proofs.Common.{◌≡◌, ℕ, zero, suc, ◌<◌, ◌==◌, ◌⊎◌, inl, inr, Bool, not, true, false, if◌then◌else◌, List, [], ◌∷◌, ◌++◌, length, get_or, Option, Some, refl, ap, sym, subst, ◌∙◌, arith}
use Rattle.std.specs.Prelude.{bytes_eq, Contains, nat_le}
use Rattle.std.specs.List.{AllByRecursion}
use Rattle.std.proofs.lemmas.Bool.{eqb-true}
use Rattle.x7_memory.proofs.PlanLemmas.{order_tail}
use Rattle.x7_planner.proofs.BurstLemmas.{all_rows}
use Rattle.x7_part.specs.Part.{PartData}
use Rattle.x7_memory.specs.Plan.{AreApart, AreInOrder, PlanRow, planned, planned_addresses}
use Rattle.x7_planner.specs.PartialStream.{Copies, WritesOnce, groups_led, is_shared, is_first_of_group, rows_not_shared, pairs_in, sections_of, with_content}
use Rattle.x7_effects.proofs.GroupLemmas.{Agree, Names, Pairs, content_agrees, later, names_either, own, sections_agree, sections_cover, sections_pairs}
use Rattle.x7_words.proofs.CaseLemmas.{both_true}

-- no address comes twice
abbrev Apart : List PlanRow → Type 0
Apart [] = Unit {0}
Apart (p ∷ pairs) = (Names p.far pairs → ⊥) × Apart pairs

apart_append : (xs ys : List PlanRow) → Apart xs → Apart ys → ((far : ℕ) → Names far xs → Names far ys → ⊥) → Apart (xs ++ ys)
apart_append [] ys a b f = b
apart_append (x ∷ xs) ys a b f = ((λ n. elim (names_either x.far xs ys n) [ inl m ↦ a.0 m | inr m ↦ f x.far (inl refl) m ]), apart_append xs ys a.1 b (λ far n m. f far (inr n) m))

apart_rows : (rows : List PlanRow) → AreInOrder rows → Apart rows
apart_rows [] o = tt
apart_rows (r ∷ rows) o = ((λ n. let above : r.far < r.far = later r.far r rows o n in omega (arith, above)), apart_rows rows (order_tail r rows o))

-- ---- rows of one content, and the other rows, are some of the rows

content_some : (words : List ℕ) (qs : List PlanRow) (far : ℕ) → Names far (Pairs words (with_content words qs)) → Names far qs
content_some words [] far n = n
content_some words (q ∷ qs) far n = by (bytes_eq q.words words) (λ m. content_some words qs far m) n
  where
    by : (b : Bool) → (Names far (Pairs words (with_content words qs)) → Names far qs) → Names far (Pairs words (if b then q ∷ with_content words qs else with_content words qs)) → (q.far ≡ far) ⊎ Names far qs
    by true ih (inl e) = inl e
    by true ih (inr m) = inr (ih m)
    by false ih m = inr (ih m)

content_apart : (words : List ℕ) (qs : List PlanRow) → Apart qs → Apart (Pairs words (with_content words qs))
content_apart words [] a = tt
content_apart words (q ∷ qs) a = by (bytes_eq q.words words) (content_apart words qs a.1)
  where
    by : (b : Bool) → Apart (Pairs words (with_content words qs)) → Apart (Pairs words (if b then q ∷ with_content words qs else with_content words qs))
    by true ih = ((λ n. a.0 (content_some words qs q.far n)), ih)
    by false ih = ih

not_shared_some : (all qs : List PlanRow) (far : ℕ) → Names far (rows_not_shared all qs) → Names far qs
not_shared_some all [] far n = n
not_shared_some all (q ∷ qs) far n = by (is_shared all q) (λ m. not_shared_some all qs far m) n
  where
    by : (b : Bool) → (Names far (rows_not_shared all qs) → Names far qs) → Names far (if not b then q ∷ rows_not_shared all qs else rows_not_shared all qs) → (q.far ≡ far) ⊎ Names far qs
    by true ih m = inr (ih m)
    by false ih (inl e) = inl e
    by false ih (inr m) = inr (ih m)

not_shared_apart : (all qs : List PlanRow) → Apart qs → Apart (rows_not_shared all qs)
not_shared_apart all [] a = tt
not_shared_apart all (q ∷ qs) a = by (is_shared all q) (not_shared_apart all qs a.1)
  where
    by : (b : Bool) → Apart (rows_not_shared all qs) → Apart (if not b then q ∷ rows_not_shared all qs else rows_not_shared all qs)
    by true ih = ih
    by false ih = ((λ n. a.0 (not_shared_some all qs q.far n)), ih)

-- ---- what stands at an address of a group, and of another row

content_at : (rows qs : List PlanRow) (words : List ℕ) (far : ℕ) → Agree rows (Pairs words qs) → Names far (Pairs words qs) → planned rows far ≡ Some words
content_at rows [] words far a n = absurd n
content_at rows (q ∷ qs) words far a (inl e) = ap (planned rows) (sym e) ∙ a.0
content_at rows (q ∷ qs) words far a (inr n) = content_at rows qs words far a.1 n

-- a row of `qs` that leads a group, in which this address is
record LedBy (all qs : List PlanRow) (far : ℕ) : Type 0 where
  row : PlanRow
  there : Names row.far qs
  leads : is_first_of_group all row ≡ true
  named : Names far (Pairs row.words (with_content row.words all))

led_by : (all qs : List PlanRow) (far : ℕ) → Names far (pairs_in (groups_led all qs)) → LedBy all qs far
led_by all [] far n = absurd n
led_by all (q ∷ qs) far n = by (is_first_of_group all q) refl n (λ m. led_by all qs far m)
  where
    in_rest : LedBy all qs far → LedBy all (q ∷ qs) far
    in_rest l = record { row = l.row; there = inr l.there; leads = l.leads; named = l.named }

    by : (b : Bool) → is_first_of_group all q ≡ b → Names far (pairs_in (if b then Copies q.words (planned_addresses (with_content q.words all)) ∷ groups_led all qs else groups_led all qs)) → (Names far (pairs_in (groups_led all qs)) → LedBy all qs far) → LedBy all (q ∷ qs) far
    by true e n ih = elim (names_either far (Pairs q.words (with_content q.words all)) (pairs_in (groups_led all qs)) n) [
      | inl m ↦ record { row = q; there = inl refl; leads = e; named = m }
      | inr m ↦ in_rest (ih m)
    ]
    by false e n ih = in_rest (ih n)

shared_of : (all : List PlanRow) (r : PlanRow) → is_first_of_group all r ≡ true → is_shared all r ≡ true
shared_of all r e = (both_true (is_shared all r) (get_or (planned_addresses (with_content r.words all)) 0 0 == r.far) e).0

first_of : (all : List PlanRow) (r : PlanRow) → is_first_of_group all r ≡ true → get_or (planned_addresses (with_content r.words all)) 0 0 ≡ r.far
first_of all r e = eqb-true (get_or (planned_addresses (with_content r.words all)) 0 0) r.far (both_true (is_shared all r) (get_or (planned_addresses (with_content r.words all)) 0 0 == r.far) e).1

same_some : (xs ys : List ℕ) (o : Option (List ℕ)) → o ≡ Some xs → o ≡ Some ys → xs ≡ ys
same_some xs ys o e f = let g : Some xs ≡ Some ys = sym e ∙ f in cc

-- ---- groups are apart

groups_apart : (all qs : List PlanRow) → Agree all all → Apart all → Apart qs → Apart (pairs_in (groups_led all qs))
groups_apart all [] a o p = tt
groups_apart all (q ∷ qs) a o p = by (is_first_of_group all q) refl (groups_apart all qs a o p.1)
  where
    none : is_first_of_group all q ≡ true → (far : ℕ) → Names far (Pairs q.words (with_content q.words all)) → Names far (pairs_in (groups_led all qs)) → ⊥
    none e far n m =
        let l : LedBy all qs far = led_by all qs far m in
        let here : planned all far ≡ Some q.words = content_at all (with_content q.words all) q.words far (content_agrees all all q.words a) n in
        let there : planned all far ≡ Some l.row.words = content_at all (with_content l.row.words all) l.row.words far (content_agrees all all l.row.words a) l.named in
        let words : q.words ≡ l.row.words = same_some q.words l.row.words (planned all far) here there in
        let same : q.far ≡ l.row.far = sym (first_of all q e) ∙ ap (λ t. get_or (planned_addresses (with_content t all)) 0 0) words ∙ first_of all l.row l.leads in
        p.0 (subst (λ (x : ℕ). Names x qs) (sym same) l.there)

    by : (b : Bool) → is_first_of_group all q ≡ b → Apart (pairs_in (groups_led all qs)) → Apart (pairs_in (if b then Copies q.words (planned_addresses (with_content q.words all)) ∷ groups_led all qs else groups_led all qs))
    by true e ih = apart_append (Pairs q.words (with_content q.words all)) (pairs_in (groups_led all qs)) (content_apart q.words all o) ih (none e)
    by false e ih = ih

-- the row at this address, whose content no group has
record Alone (all qs : List PlanRow) (far : ℕ) : Type 0 where
  row : PlanRow
  lone : is_shared all row ≡ false
  named : planned all far ≡ Some row.words

alone : (all qs : List PlanRow) (far : ℕ) → Agree all qs → Names far (rows_not_shared all qs) → Alone all qs far
alone all [] far a n = absurd n
alone all (q ∷ qs) far a n = by (is_shared all q) refl n (λ m. alone all qs far a.1 m)
  where
    in_rest : Alone all qs far → Alone all (q ∷ qs) far
    in_rest l = record { row = l.row; lone = l.lone; named = l.named }

    by : (b : Bool) → is_shared all q ≡ b → Names far (if not b then q ∷ rows_not_shared all qs else rows_not_shared all qs) → (Names far (rows_not_shared all qs) → Alone all qs far) → Alone all (q ∷ qs) far
    by true e n ih = in_rest (ih n)
    by false e (inl m) ih = record { row = q; lone = e; named = ap (planned all) (sym m) ∙ a.0 }
    by false e (inr m) ih = in_rest (ih m)

group_or_other : (all : List PlanRow) (far : ℕ) → Agree all all → Names far (pairs_in (groups_led all all)) → Names far (rows_not_shared all all) → ⊥
group_or_other all far a n m =
    let l : LedBy all all far = led_by all all far n in
    let o : Alone all all far = alone all all far a m in
    let words : l.row.words ≡ o.row.words = same_some l.row.words o.row.words (planned all far) (content_at all (with_content l.row.words all) l.row.words far (content_agrees all all l.row.words a) l.named) o.named in
    let shared : is_shared all o.row ≡ true = ap (λ t. nat_le 3 (length (with_content t all))) (sym words) ∙ shared_of all l.row l.leads in
    absurd (let no : true ≡ false = sym shared ∙ o.lone in cc)

sections_apart : (part : PartData) (rows : List PlanRow) → AreInOrder rows → Apart (pairs_in (sections_of part rows))
sections_apart part rows o =
    let apart : Apart rows = apart_rows rows o in
    subst Apart (sym (sections_pairs part rows))
    (apart_append (pairs_in (groups_led rows rows)) (rows_not_shared rows rows) (groups_apart rows rows (own rows o) apart apart) (not_shared_apart rows rows apart) (λ far n m. group_or_other rows far (own rows o) n m))

-- ---- by places

named_at : (pairs : List PlanRow) (k : ℕ) (d : PlanRow) → k < length pairs → Names (get_or pairs k d).far pairs
named_at [] k d l = absurd (omega arith)
named_at (p ∷ pairs) zero d l = inl refl
named_at (p ∷ pairs) (suc k) d l = inr (named_at pairs k d (omega (arith, l)))

apart_places : (pairs : List PlanRow) → Apart pairs → AreApart pairs
apart_places [] a i j d l few e = absurd (omega (arith, few))
apart_places (p ∷ pairs) a zero zero d l few e = absurd (omega (arith, l))
apart_places (p ∷ pairs) a zero (suc j) d l few e = a.0 (subst (λ (x : ℕ). Names x pairs) (sym e) (named_at pairs j d (omega (arith, few))))
apart_places (p ∷ pairs) a (suc i) zero d l few e = absurd (omega (arith, l))
apart_places (p ∷ pairs) a (suc i) (suc j) d l few e = apart_places pairs a.1 i j d (omega (arith, l)) (omega (arith, few)) e

contained : (pairs : List PlanRow) (far : ℕ) → Names far pairs → Contains (planned_addresses pairs) far
contained [] far n = absurd n
contained (p ∷ pairs) far (inl e) = (0, omega arith, e)
contained (p ∷ pairs) far (inr n) = let h = contained pairs far n in (suc h.0, (let low = h.1 in omega arith), h.2)

covered : (rows pairs : List PlanRow) → AllByRecursion (λ q. Names q.far pairs) rows → (far : ℕ) → Contains (planned_addresses rows) far → Contains (planned_addresses pairs) far
covered [] pairs c far (k, low, e) = absurd (omega arith)
covered (q ∷ rows) pairs c far (zero, low, e) = subst (Contains (planned_addresses pairs)) e (contained pairs q.far c.0)
covered (q ∷ rows) pairs c far (suc k, low, e) = covered rows pairs c.1 far (k, omega arith, e)

pub written_once : (part : PartData) (rows : List PlanRow) → AreInOrder rows → WritesOnce rows (pairs_in (sections_of part rows))
written_once part rows o = record {
  frames = all_rows (λ pair. planned rows pair.far ≡ Some pair.words) (pairs_in (sections_of part rows)) (sections_agree part rows o);
  each = covered rows (pairs_in (sections_of part rows)) (sections_cover part rows);
  once = apart_places (pairs_in (sections_of part rows)) (sections_apart part rows o);
}
