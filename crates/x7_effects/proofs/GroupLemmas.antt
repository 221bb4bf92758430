-- The sections of a plan put just the plan.
use Rattle.std.proofs.Common.{◌≡◌, ℕ, suc, ◌<◌, ◌⊎◌, inl, inr, Bool, not, true, false, if◌then◌else◌, List, [], ◌∷◌, ◌++◌, length, map, reverse, get_or, Some, None, refl, ap, sym, subst, ◌∙◌, arith, eq-eqb}
use Rattle.std.specs.Prelude.{bytes_eq}
use Rattle.std.specs.List.{flat_map, AllByRecursion}
use Rattle.std.proofs.lemmas.Grind.{flat_map-append, reverse_onto}
use Rattle.std.proofs.lemmas.Bool.{cases_eq}
use Rattle.std.proofs.lemmas.Bool.Decides.{nat_tests}
use Rattle.x7_words.proofs.ListLemmas.{all_append, all_prefix, all_back, same_by_test, same_as_itself}
use Rattle.x7_part.specs.Part.{PartData}
use Rattle.x7_memory.specs.FrameMap.{FrameMap, override, HaveSameFrames}
use Rattle.x7_memory.specs.Plan.{PlanRow, planned, planned_addresses, AreInOrder}
use Rattle.x7_memory.proofs.PlanLemmas.{planned_here, planned_after, order_tail}
use Rattle.x7_memory.proofs.MapLemmas.{override_same}
use Rattle.x7_pipeline.specs.Runs.{put_over}
use Rattle.x7_pipeline.proofs.LawLemmas.{put_twice}
use Rattle.x7_planner.specs.PartialStream.{Section, Copies, Rows}
use Rattle.x7_planner.specs.PartialStream.{with_content, is_shared, is_first_of_group, groups_led, rows_not_shared, follows, with_row, bursts_of, sections_of}
use Rattle.x7_planner.specs.PartialStream.{joined_bursts, IsBurst, AreLongest, pairs_of}
use Rattle.x7_effects.proofs.Groups.{put_sections}

-- ---- the address is one of these rows'

abbrev pub Names : ℕ → List PlanRow → Type 0
Names far [] = ⊥
Names far (p ∷ pairs) = (p.far ≡ far) ⊎ Names far pairs

names_prefix : (far : ℕ) (ps qs : List PlanRow) → Names far ps → Names far (ps ++ qs)
names_prefix far [] qs n = absurd n
names_prefix far (p ∷ ps) qs (inl e) = inl e
names_prefix far (p ∷ ps) qs (inr n) = inr (names_prefix far ps qs n)

names_back : (far : ℕ) (ps qs : List PlanRow) → Names far qs → Names far (ps ++ qs)
names_back far [] qs n = n
names_back far (p ∷ ps) qs n = inr (names_back far ps qs n)

names_reverse : (far : ℕ) (ps : List PlanRow) → Names far ps → Names far (reverse ps)
names_reverse far [] n = n
names_reverse far (p ∷ ps) (inl e) = subst (Names far) (sym (reverse_onto ps p [])) (names_back far (reverse ps) (p ∷ []) (inl e))
names_reverse far (p ∷ ps) (inr n) = subst (Names far) (sym (reverse_onto ps p [])) (names_prefix far (reverse ps) (p ∷ []) (names_reverse far ps n))

names_or_not : (far : ℕ) (ps : List PlanRow) → Names far ps ⊎ (Names far ps → ⊥)
names_or_not far [] = inr (λ n. n)
names_or_not far (p ∷ ps) = elim (cases_eq p.far far) [
  | inl e ↦ inl (inl e)
  | inr x ↦ elim (names_or_not far ps) [
    | inl n ↦ inl (inr n)
    | inr free ↦ inr (λ n. elim n [ inl e ↦ x e | inr m ↦ free m ])
  ]
]

-- ---- pairs that agree with rows and name each of their addresses are the same map

abbrev pub Agree : List PlanRow → List PlanRow → Type 0
Agree rows pairs = AllByRecursion (λ p. planned rows p.far ≡ Some p.words) pairs

abbrev pub Cover : List PlanRow → List PlanRow → Type 0
Cover rows pairs = AllByRecursion (λ q. Names q.far pairs) rows

named_same : (rows pairs : List PlanRow) (far : ℕ) → Agree rows pairs → Names far pairs → planned pairs far ≡ planned rows far
named_same rows [] far a n = absurd n
named_same rows (p ∷ pairs) far a n = elim (cases_eq far p.far) [
  | inl e ↦ planned_here p pairs far e ∙ sym a.0 ∙ ap (planned rows) (sym e)
  | inr x ↦ planned_after p pairs far x ∙ named_same rows pairs far a.1 (in_rest n x)
]
  where
    in_rest : (p.far ≡ far) ⊎ Names far pairs → (far ≡ p.far → ⊥) → Names far pairs
    in_rest (inl e) x = absurd (x (sym e))
    in_rest (inr n) x = n

unnamed : (pairs : List PlanRow) (far : ℕ) → (Names far pairs → ⊥) → planned pairs far ≡ None
unfolding planned
unnamed [] far n = refl
unnamed (p ∷ pairs) far n = planned_after p pairs far (λ e. n (inl (sym e))) ∙ unnamed pairs far (λ m. n (inr m))

uncovered : (rows pairs : List PlanRow) (far : ℕ) → Cover rows pairs → (Names far pairs → ⊥) → planned rows far ≡ None
unfolding planned
uncovered [] pairs far c n = refl
uncovered (q ∷ rows) pairs far c n = planned_after q rows far (λ e. n (subst (λ (x : ℕ). Names x pairs) (sym e) c.0)) ∙ uncovered rows pairs far c.1 n

pub same_map : (rows pairs : List PlanRow) → Agree rows pairs → Cover rows pairs → HaveSameFrames (planned pairs) (planned rows)
same_map rows pairs a c far = elim (names_or_not far pairs) [
  | inl n ↦ named_same rows pairs far a n
  | inr n ↦ unnamed pairs far n ∙ sym (uncovered rows pairs far c n)
]

-- of rows in order each one after the first has a greater address than the first
pub later : (far : ℕ) (r : PlanRow) (rows : List PlanRow) → AreInOrder (r ∷ rows) → Names far rows → r.far < far
later far r rows o n = in_rows rows (λ k d h. o 0 (suc k) d (omega arith) (omega arith)) n
  where
    in_rows : (qs : List PlanRow) → ((k : ℕ) (d : PlanRow) → k < length qs → r.far < (get_or qs k d).far) → Names far qs → r.far < far
    in_rows [] above n = absurd n
    in_rows (q ∷ qs) above (inl e) = let h : r.far < q.far = above 0 q (omega arith) in omega (arith, e)
    in_rows (q ∷ qs) above (inr n) = in_rows qs (λ k d h. above (suc k) d (omega arith)) n

own_rest : (r : PlanRow) (rows qs : List PlanRow) → ((far : ℕ) → Names far qs → r.far < far) → Agree rows qs → Agree (r ∷ rows) qs
own_rest r rows [] f a = tt
own_rest r rows (q ∷ qs) f a = (planned_after r rows q.far (λ e. let h : r.far < q.far = f q.far (inl refl) in omega (arith, e)) ∙ a.0, own_rest r rows qs (λ far n. f far (inr n)) a.1)

pub own : (rows : List PlanRow) → AreInOrder rows → Agree rows rows
own [] o = tt
own (r ∷ rows) o = (planned_here r rows r.far refl, own_rest r rows rows (λ far n. later far r rows o n) (own rows (order_tail r rows o)))

-- ---- sections in order

all_reverse : (P : PlanRow → Type 0) (ps : List PlanRow) → AllByRecursion P ps → AllByRecursion P (reverse ps)
all_reverse P [] a = tt
all_reverse P (p ∷ ps) a = subst (AllByRecursion P) (sym (reverse_onto ps p [])) (all_append P (reverse ps) (p ∷ []) (all_reverse P ps a.1) (a.0, tt))

-- all pairs of sections, the newest first
abbrev pub newest : List Section → List PlanRow
newest [] = []
newest (s ∷ sections) = newest sections ++ reverse (pairs_of s)

put_all : (sections : List Section) (memory : FrameMap) → HaveSameFrames (put_sections memory sections) (put_over (newest sections) memory)
unfolding planned
put_all [] memory far = refl
put_all (s ∷ sections) memory far =
    put_twice (reverse (pairs_of s)) (newest sections) memory (put_over (reverse (pairs_of s)) memory) (put_sections (put_over (reverse (pairs_of s)) memory) sections) (λ a. refl) (put_all sections (put_over (reverse (pairs_of s)) memory)) far

newest_agrees : (rows : List PlanRow) (sections : List Section) → Agree rows (flat_map pairs_of sections) → Agree rows (newest sections)
newest_agrees rows [] a = tt
newest_agrees rows (s ∷ sections) a =
    all_append (λ p. planned rows p.far ≡ Some p.words) (newest sections) (reverse (pairs_of s))
    (newest_agrees rows sections (all_back (λ p. planned rows p.far ≡ Some p.words) (pairs_of s) (flat_map pairs_of sections) a))
    (all_reverse (λ p. planned rows p.far ≡ Some p.words) (pairs_of s) (all_prefix (λ p. planned rows p.far ≡ Some p.words) (pairs_of s) (flat_map pairs_of sections) a))

pub names_either : (far : ℕ) (ps qs : List PlanRow) → Names far (ps ++ qs) → Names far ps ⊎ Names far qs
names_either far [] qs n = inr n
names_either far (p ∷ ps) qs (inl e) = inl (inl e)
names_either far (p ∷ ps) qs (inr n) = elim (names_either far ps qs n) [ inl m ↦ inl (inr m) | inr m ↦ inr m ]

newest_names : (far : ℕ) (sections : List Section) → Names far (flat_map pairs_of sections) → Names far (newest sections)
newest_names far [] n = n
newest_names far (s ∷ sections) n = elim (names_either far (pairs_of s) (flat_map pairs_of sections) n) [
  | inl m ↦ names_back far (newest sections) (reverse (pairs_of s)) (names_reverse far (pairs_of s) m)
  | inr m ↦ names_prefix far (newest sections) (reverse (pairs_of s)) (newest_names far sections m)
]

cover_newest : (rows : List PlanRow) (sections : List Section) → Cover rows (flat_map pairs_of sections) → Cover rows (newest sections)
cover_newest [] sections c = tt
cover_newest (q ∷ rows) sections c = (newest_names q.far sections c.0, cover_newest rows sections c.1)

-- sections whose pairs agree with rows and name each of them put just the rows
pub sections_put : (rows : List PlanRow) (sections : List Section) (memory : FrameMap) → Agree rows (flat_map pairs_of sections) → Cover rows (flat_map pairs_of sections)
    → HaveSameFrames (put_sections memory sections) (override memory (planned rows))
sections_put rows sections memory a c far =
    put_all sections memory far
    ∙ override_same memory memory (planned (newest sections)) (planned rows) (λ x. refl) (same_map rows (newest sections) (newest_agrees rows sections a) (cover_newest rows sections c)) far

-- ---- the groups and the runs of a plan

abbrev pub Pairs : List ℕ → List PlanRow → List PlanRow
Pairs words rows = map (λ far. record { far = far; words = words }) (planned_addresses rows)

pub content_agrees : (rows qs : List PlanRow) (words : List ℕ) → Agree rows qs → Agree rows (Pairs words (with_content words qs))
content_agrees rows [] words a = tt
content_agrees rows (q ∷ qs) words a = by_test (bytes_eq q.words words) refl (content_agrees rows qs words a.1)
  where
    by_test : (b : Bool) → bytes_eq q.words words ≡ b → Agree rows (Pairs words (with_content words qs)) → Agree rows (Pairs words (if b then q ∷ with_content words qs else with_content words qs))
    by_test true t ih = (a.0 ∙ ap (λ x. Some x) (same_by_test q.words words t), ih)
    by_test false t ih = ih

groups_agree : (all qs : List PlanRow) → Agree all all → Agree all (flat_map pairs_of (groups_led all qs))
groups_agree all [] a = tt
groups_agree all (r ∷ qs) a = by_test (is_first_of_group all r) (groups_agree all qs a)
  where
    by_test : (b : Bool) → Agree all (flat_map pairs_of (groups_led all qs)) → Agree all (flat_map pairs_of (if b then Copies r.words (planned_addresses (with_content r.words all)) ∷ groups_led all qs else groups_led all qs))
    by_test true ih = all_append (λ p. planned all p.far ≡ Some p.words) (Pairs r.words (with_content r.words all)) (flat_map pairs_of (groups_led all qs)) (content_agrees all all r.words a) ih
    by_test false ih = ih

pub not_shared_agree : (all qs : List PlanRow) → Agree all qs → Agree all (rows_not_shared all qs)
not_shared_agree all [] a = tt
not_shared_agree all (r ∷ qs) a = by_test (is_shared all r) (not_shared_agree all qs a.1)
  where
    by_test : (b : Bool) → Agree all (rows_not_shared all qs) → Agree all (if not b then r ∷ rows_not_shared all qs else rows_not_shared all qs)
    by_test true ih = ih
    by_test false ih = (a.0, ih)

-- the runs are the rows, cut
abbrev pub burst_rows : List (List PlanRow) → List PlanRow
burst_rows = joined_bursts

row_joined : (part : PartData) (r : PlanRow) (runs : List (List PlanRow)) → burst_rows (with_row part r runs) ≡ r ∷ burst_rows runs
row_joined part r [] = refl
row_joined part r ([] ∷ runs) = refl
row_joined part r ((s ∷ run) ∷ runs) = by_test (follows part r.far s.far)
  where
    by_test : (b : Bool) → burst_rows (if b then (r ∷ s ∷ run) ∷ runs else (r ∷ []) ∷ (s ∷ run) ∷ runs) ≡ r ∷ s ∷ (run ++ burst_rows runs)
    by_test true = refl
    by_test false = refl

pub runs_joined : (part : PartData) (rows : List PlanRow) → burst_rows (bursts_of part rows) ≡ rows
runs_joined part [] = refl
runs_joined part (r ∷ rows) = row_joined part r (bursts_of part rows) ∙ ap (λ t. r ∷ t) (runs_joined part rows)

runs_pairs : (runs : List (List PlanRow)) → flat_map pairs_of (map Rows runs) ≡ burst_rows runs
runs_pairs [] = refl
runs_pairs (run ∷ runs) = ap (λ t. run ++ t) (runs_pairs runs)

pub sections_pairs : (part : PartData) (rows : List PlanRow) → flat_map pairs_of (sections_of part rows) ≡ flat_map pairs_of (groups_led rows rows) ++ rows_not_shared rows rows
sections_pairs part rows =
    flat_map-append pairs_of (groups_led rows rows) (map Rows (bursts_of part (rows_not_shared rows rows)))
    ∙ ap (λ t. flat_map pairs_of (groups_led rows rows) ++ t) (runs_pairs (bursts_of part (rows_not_shared rows rows)) ∙ runs_joined part (rows_not_shared rows rows))

pub sections_agree : (part : PartData) (rows : List PlanRow) → AreInOrder rows → Agree rows (flat_map pairs_of (sections_of part rows))
sections_agree part rows o = rw (sections_pairs part rows) (all_append (λ p. planned rows p.far ≡ Some p.words) (flat_map pairs_of (groups_led rows rows)) (rows_not_shared rows rows) (groups_agree rows rows (own rows o)) (not_shared_agree rows rows (own rows o)))

-- the row is one of these rows
abbrev IsIn : PlanRow → List PlanRow → Type 0
IsIn r [] = ⊥
IsIn r (q ∷ qs) = (q ≡ r) ⊎ IsIn r qs

content_names : (words : List ℕ) (q : PlanRow) (qs : List PlanRow) → IsIn q qs → q.words ≡ words → Names q.far (Pairs words (with_content words qs))
content_names words q [] i e = absurd i
content_names words q (r ∷ qs) i e = by_test (bytes_eq r.words words) refl i (λ j. content_names words q qs j e)
  where
    by_test : (b : Bool) → bytes_eq r.words words ≡ b → (r ≡ q) ⊎ IsIn q qs → (IsIn q qs → Names q.far (Pairs words (with_content words qs))) → Names q.far (Pairs words (if b then r ∷ with_content words qs else with_content words qs))
    by_test true t (inl h) ih = inl (ap (λ (x : PlanRow). x.far) h)
    by_test true t (inr i) ih = inr (ih i)
    by_test false t (inl h) ih = absurd (let y : bytes_eq words words ≡ true = same_as_itself words in let z : r.words ≡ words = ap (λ (x : PlanRow). x.words) h ∙ e in let u : bytes_eq r.words words ≡ true = rw z y in cc)
    by_test false t (inr i) ih = ih i

-- the first of the rows that have a content
record LeadsContent (words : List ℕ) (qs : List PlanRow) : Type 0 where
  row : PlanRow
  there : IsIn row qs
  has : row.words ≡ words
  first : get_or (planned_addresses (with_content words qs)) 0 0 ≡ row.far

content_led : (words : List ℕ) (qs : List PlanRow) → 0 < length (with_content words qs) → LeadsContent words qs
content_led words [] h = absurd (omega arith)
content_led words (r ∷ qs) h = by_test (bytes_eq r.words words) refl h (content_led words qs)
  where
    by_test : (b : Bool) → bytes_eq r.words words ≡ b → 0 < length (if b then r ∷ with_content words qs else with_content words qs) → (0 < length (with_content words qs) → LeadsContent words qs) → LeadsContent words (r ∷ qs)
    by_test true t h ih = record { row = r; there = inl refl; has = same_by_test r.words words t; first = rw t refl }
    by_test false t h ih = let l : LeadsContent words qs = ih h in record { row = l.row; there = inr l.there; has = l.has; first = rw t l.first }

-- the group that a row leads is there, and names what has its content
group_names : (all qs : List PlanRow) (r : PlanRow) (far : ℕ) → IsIn r qs → is_first_of_group all r ≡ true → Names far (Pairs r.words (with_content r.words all)) → Names far (flat_map pairs_of (groups_led all qs))
group_names all [] r far i t n = absurd i
group_names all (q ∷ qs) r far i t n = by_place i (λ j. group_names all qs r far j t n)
  where
    here : (b : Bool) → b ≡ true → Names far (Pairs q.words (with_content q.words all)) → Names far (flat_map pairs_of (if b then Copies q.words (planned_addresses (with_content q.words all)) ∷ groups_led all qs else groups_led all qs))
    here true e m = names_prefix far (Pairs q.words (with_content q.words all)) (flat_map pairs_of (groups_led all qs)) m
    here false e m = absurd (cc)

    in_rest : (b : Bool) → Names far (flat_map pairs_of (groups_led all qs)) → Names far (flat_map pairs_of (if b then Copies q.words (planned_addresses (with_content q.words all)) ∷ groups_led all qs else groups_led all qs))
    in_rest true m = names_back far (Pairs q.words (with_content q.words all)) (flat_map pairs_of (groups_led all qs)) m
    in_rest false m = m

    by_place : (q ≡ r) ⊎ IsIn r qs → (IsIn r qs → Names far (flat_map pairs_of (groups_led all qs))) → Names far (flat_map pairs_of (groups_led all (q ∷ qs)))
    by_place (inl e) ih = here (is_first_of_group all q) (ap (is_first_of_group all) e ∙ t) (subst (λ (x : PlanRow). Names far (Pairs x.words (with_content x.words all))) (sym e) n)
    by_place (inr j) ih = in_rest (is_first_of_group all q) (ih j)

shared_long : (all : List PlanRow) (q : PlanRow) → is_shared all q ≡ true → 0 < length (with_content q.words all)
shared_long all q t = grind (arith, nat_tests)

shared_named : (all : List PlanRow) (q : PlanRow) → IsIn q all → is_shared all q ≡ true → Names q.far (flat_map pairs_of (groups_led all all))
shared_named all q i t =
    let l : LeadsContent q.words all = content_led q.words all (shared_long all q t) in
    let shared : is_shared all l.row ≡ true = rw l.has t in
    let first : get_or (planned_addresses (with_content l.row.words all)) 0 0 ≡ l.row.far = rw l.has l.first in
    let leads : is_first_of_group all l.row ≡ true = rw (shared, eq-eqb (get_or (planned_addresses (with_content l.row.words all)) 0 0) l.row.far first) refl in
    let names : Names q.far (Pairs l.row.words (with_content l.row.words all)) = rw l.has (content_names q.words q all i refl) in
    group_names all all l.row q.far l.there leads names

others_named : (all qs : List PlanRow) (q : PlanRow) → IsIn q qs → is_shared all q ≡ false → Names q.far (rows_not_shared all qs)
others_named all [] q i f = absurd i
others_named all (r ∷ qs) q i f = by_test (is_shared all r) refl i (λ j. others_named all qs q j f)
  where
    by_test : (b : Bool) → is_shared all r ≡ b → (r ≡ q) ⊎ IsIn q qs → (IsIn q qs → Names q.far (rows_not_shared all qs)) → Names q.far (if not b then r ∷ rows_not_shared all qs else rows_not_shared all qs)
    by_test true t (inl e) ih = absurd (let u : is_shared all q ≡ true = ap (is_shared all) (sym e) ∙ t in cc)
    by_test true t (inr i) ih = ih i
    by_test false t (inl e) ih = inl (ap (λ (x : PlanRow). x.far) e)
    by_test false t (inr i) ih = inr (ih i)

row_named : (rows : List PlanRow) (q : PlanRow) (b : Bool) → is_shared rows q ≡ b → IsIn q rows → Names q.far (flat_map pairs_of (groups_led rows rows) ++ rows_not_shared rows rows)
row_named rows q true t i = names_prefix q.far (flat_map pairs_of (groups_led rows rows)) (rows_not_shared rows rows) (shared_named rows q i t)
row_named rows q false t i = names_back q.far (flat_map pairs_of (groups_led rows rows)) (rows_not_shared rows rows) (others_named rows rows q i t)

all_rows_named : (rows qs pairs : List PlanRow) → ((q : PlanRow) → IsIn q rows → Names q.far pairs) → ((q : PlanRow) → IsIn q qs → IsIn q rows) → Cover qs pairs
all_rows_named rows [] pairs f g = tt
all_rows_named rows (q ∷ qs) pairs f g = (f q (g q (inl refl)), all_rows_named rows qs pairs f (λ r i. g r (inr i)))

pub sections_cover : (part : PartData) (rows : List PlanRow) → Cover rows (flat_map pairs_of (sections_of part rows))
sections_cover part rows = rw (sections_pairs part rows) (all_rows_named rows rows (flat_map pairs_of (groups_led rows rows) ++ rows_not_shared rows rows) (λ q i. row_named rows q (is_shared rows q) refl i) (λ q i. i))

-- the sections of a plan put just the plan
pub plan_put : (part : PartData) (rows : List PlanRow) (memory : FrameMap) → AreInOrder rows → HaveSameFrames (put_sections memory (sections_of part rows)) (override memory (planned rows))
plan_put part rows memory o = sections_put rows (sections_of part rows) memory (sections_agree part rows o) (sections_cover part rows)

-- the first of the longest runs is a run
burst_first : (part : PartData) (run : List PlanRow) (runs : List (List PlanRow)) → AreLongest part (run ∷ runs) → IsBurst part run
burst_first part run [] a = a
burst_first part run (next ∷ runs) a = a.0

longer_burst : (part : PartData) (r s : PlanRow) (run : List PlanRow) (runs : List (List PlanRow)) → follows part r.far s.far ≡ true → AreLongest part ((s ∷ run) ∷ runs) → AreLongest part ((r ∷ s ∷ run) ∷ runs)
longer_burst part r s run [] f a = (f, a)
longer_burst part r s run (next ∷ runs) f a = ((f, a.0), a.1, a.2)

row_longest : (part : PartData) (r : PlanRow) (runs : List (List PlanRow)) → AreLongest part runs → AreLongest part (with_row part r runs)
row_longest part r [] a = tt
row_longest part r ([] ∷ runs) a = absurd (burst_first part [] runs a)
row_longest part r ((s ∷ run) ∷ runs) a = by_test (follows part r.far s.far) refl
  where
    by_test : (b : Bool) → follows part r.far s.far ≡ b → AreLongest part (if b then (r ∷ s ∷ run) ∷ runs else (r ∷ []) ∷ (s ∷ run) ∷ runs)
    by_test true t = longer_burst part r s run runs t a
    by_test false t = (tt, t, a)

pub bursts_longest : (part : PartData) (rows : List PlanRow) → AreLongest part (bursts_of part rows)
bursts_longest part [] = tt
bursts_longest part (r ∷ rows) = row_longest part r (bursts_of part rows) (bursts_longest part rows)
