-- Equal contents stand together.
use Rattle.std.proofs.Common.{◌≡◌, ◌≢◌, ℕ, zero, suc, ◌+◌, ◌-◌, ◌<◌, ◌≤◌, ◌&&◌, not, ◌⊎◌, inl, inr, Bool, true, false, if◌then◌else◌, List, [], ◌∷◌, ◌++◌, length, map, take, drop, get_or, set, refl, ap, sym, subst, ◌∙◌, arith, Ordering, Less, Equal, Greater, cond}
use Rattle.std.specs.Prelude.{Contains, bytes_eq, nat_le, IsPermutation}
use Rattle.std.specs.List.{filter}
use Rattle.std.specs.List.Sorted.{IsSortedBy, IsStableBy, ties}
use Rattle.std.specs.Cmp.Lexicographic.{slice_cmp}
use Rattle.std.specs.Cmp.{IsStrictWeakOrder}
use Rattle.std.specs.Ordering.{nat_cmp, is_lt, is_eq, ordering_reverse}
use Rattle.std.proofs.lemmas.Bool.{cases_eq, cases_order, false≢true}
use Rattle.std.proofs.lemmas.Bool.Decides.{nat_tests}
use Rattle.std.proofs.lemmas.Cmp.{nat_list_cmp_total, same_from_slice_cmp}
use Rattle.std.proofs.lemmas.List.{get_or-take, get_or-drop, get_or-map, get_or_default, append-nil, take-append-drop, drop_more, length-append, length-drop, length-take-le, drop-drop, length-map, get_or-set_same, get_or-set_other, length_push, get_or_push, get_or_append_left}
use Rattle.std.proofs.lemmas.List.Elements.{Contains-get_or, filter-append}
use Rattle.std.proofs.lemmas.List.Sorted.{sorted_far, ranks_by, All-permutation, Contains-permutation, IsPermutation-map}
use Rattle.x7_memory.specs.Plan.{PlanRow}
use Rattle.x7_planner.specs.Content.{AreFirsts, AreFramesByContent, AreStarts, AreTogether, IsStartBefore, WordsBegin, IsPlaced, planned_row, planned_rows}
use Rattle.x7_planner.specs.PartialStream.{with_content}
use Rattle.x7_planner.specs.declared.content.PlannedFrame.{PlannedFrame}
use Rattle.x7_words.proofs.ListLemmas.{same_by_test, same_as_itself}

-- ---- the same words

pub same_words_false : (xs ys : List ℕ) → bytes_eq xs ys ≡ false → xs ≢ ys
same_words_false xs ys e h = false≢true (sym e ∙ ap (λ t. bytes_eq xs t) (sym h) ∙ same_as_itself xs)

pub same_words_other : (xs ys : List ℕ) → xs ≢ ys → bytes_eq xs ys ≡ false
same_words_other xs ys n = by (bytes_eq xs ys) refl
  where
    by : (b : Bool) → bytes_eq xs ys ≡ b → b ≡ false
    by true e = absurd (n (same_by_test xs ys e))
    by false e = refl

-- ---- rows with a content

pub content_same : (words : List ℕ) (r : PlanRow) (rows : List PlanRow) → r.words ≡ words → with_content words (r ∷ rows) ≡ r ∷ with_content words rows
content_same words r rows e = rw (ap (λ t. bytes_eq t words) e ∙ same_as_itself words) refl

pub content_other : (words : List ℕ) (r : PlanRow) (rows : List PlanRow) → r.words ≢ words → with_content words (r ∷ rows) ≡ with_content words rows
content_other words r rows n = rw (same_words_other r.words words n) refl

pub content_append : (words : List ℕ) (xs ys : List PlanRow) → with_content words (xs ++ ys) ≡ with_content words xs ++ with_content words ys
content_append words xs ys = filter-append (λ (row : PlanRow). bytes_eq row.words words) xs ys

pub content_none : (words : List ℕ) (xs : List PlanRow) → ((k : ℕ) (d : PlanRow) → k < length xs → (get_or xs k d).words ≢ words) → with_content words xs ≡ []
content_none words [] n = refl
content_none words (x ∷ xs) n = content_other words x xs (n 0 x (omega arith)) ∙ content_none words xs (λ k d h. n (suc k) d (omega (arith, h)))

pub content_shorter : (words : List ℕ) (xs : List PlanRow) → length (with_content words xs) ≤ length xs
content_shorter words [] = omega arith
content_shorter words (x ∷ xs) = by (bytes_eq x.words words) (content_shorter words xs)
  where
    by : (b : Bool) → length (with_content words xs) ≤ length xs → length (if b then x ∷ with_content words xs else with_content words xs) ≤ suc (length xs)
    by true ih = omega (arith, ih)
    by false ih = omega (arith, ih)

-- ---- where a content begins and ends

pub none_before : (rows : List PlanRow) (words : List ℕ) (a : ℕ) → AreTogether rows → WordsBegin rows words a → with_content words (take a rows) ≡ []
none_before rows words a t f = content_none words (take a rows) (λ k d h e.
    let below : k < a = omega (arith, h, length-take-le a rows (let i = f.inside in omega (arith, i))) in
    let at : (get_or rows k d).words ≡ words = ap (λ (r : PlanRow). r.words) (sym (get_or-take a rows k d below)) ∙ e in
    f.before d (omega (arith, below)) (t k (a - 1) a d (omega (arith, below)) (omega arith) f.inside (at ∙ sym (f.has d)) ∙ at))

pub none_after : (rows : List PlanRow) (words : List ℕ) (a b : ℕ) → AreTogether rows → WordsBegin rows words a → a ≤ b → ((d : PlanRow) → (get_or rows b d).words ≢ words) → with_content words (drop b rows) ≡ []
none_after rows words a b t f l n = content_none words (drop b rows) (λ k d h e.
    let inside : b + k < length rows = omega (arith, h, length-drop b rows) in
    let at : (get_or rows (b + k) d).words ≡ words = ap (λ (r : PlanRow). r.words) (sym (get_or-drop b rows k d)) ∙ e in
    n d (t a b (b + k) d l (omega arith) inside (f.has d ∙ sym at) ∙ f.has d))

pub from_first : (rows : List PlanRow) (words : List ℕ) (a : ℕ) → AreTogether rows → WordsBegin rows words a → with_content words rows ≡ with_content words (drop a rows)
from_first rows words a t f =
    ap (with_content words) (sym (take-append-drop a rows)) ∙ content_append words (take a rows) (drop a rows) ∙ ap (λ x. x ++ with_content words (drop a rows)) (none_before rows words a t f)

pub up_to : (rows : List PlanRow) (words : List ℕ) (a b : ℕ) → AreTogether rows → WordsBegin rows words a → a ≤ b → ((d : PlanRow) → (get_or rows b d).words ≢ words) → with_content words rows ≡ with_content words (take b rows)
up_to rows words a b t f l n =
    ap (with_content words) (sym (take-append-drop b rows)) ∙ content_append words (take b rows) (drop b rows) ∙ ap (λ x. with_content words (take b rows) ++ x) (none_after rows words a b t f l n)
    ∙ append-nil (with_content words (take b rows))

pub step_in : (rows : List PlanRow) (words : List ℕ) (a : ℕ) (d : PlanRow) → a < length rows → (get_or rows a d).words ≡ words → with_content words (drop a rows) ≡ get_or rows a d ∷ with_content words (drop (a + 1) rows)
step_in rows words a d l e = ap (with_content words) (drop_more rows a d l) ∙ content_same words (get_or rows a d) (drop (a + 1) rows) e

pub at_least : (n : ℕ) → 3 ≤ n → nat_le 3 n ≡ true
at_least n l = grind (arith, nat_tests)

pub at_most : (n : ℕ) → n < 3 → nat_le 3 n ≡ false
at_most n l = grind (arith, nat_tests)

pub is_group : (rows : List PlanRow) (words : List ℕ) (a : ℕ) (d : PlanRow) → AreTogether rows → WordsBegin rows words a → a + 2 < length rows → (get_or rows (a + 2) d).words ≡ words → nat_le 3 (length (with_content words rows)) ≡ true
is_group rows words a d t f l e =
    let second : (get_or rows (a + 1) d).words ≡ words = t a (a + 1) (a + 2) d (omega arith) (omega arith) l (f.has d ∙ sym e) ∙ f.has d in
    let whole : with_content words rows ≡ get_or rows a d ∷ get_or rows (a + 1) d ∷ get_or rows (a + 2) d ∷ with_content words (drop (a + 2 + 1) rows) =
    from_first rows words a t f ∙ step_in rows words a d f.inside (f.has d)
    ∙ ap (λ x. get_or rows a d ∷ x) (step_in rows words (a + 1) d (omega (arith, l)) second ∙ ap (λ x. get_or rows (a + 1) d ∷ x) (ap (λ (k : ℕ). with_content words (drop k rows)) (omega arith) ∙ step_in rows words (a + 2) d l e)) in
    at_least (length (with_content words rows)) (let n : length (with_content words rows) ≡ suc (suc (suc (length (with_content words (drop (a + 2 + 1) rows))))) = ap length whole in omega (arith, n))

pub no_group_short : (rows : List PlanRow) (words : List ℕ) (a : ℕ) → AreTogether rows → WordsBegin rows words a → length rows - a < 3 → nat_le 3 (length (with_content words rows)) ≡ false
no_group_short rows words a t f l =
    at_most (length (with_content words rows)) (let n : length (with_content words rows) ≡ length (with_content words (drop a rows)) = ap length (from_first rows words a t f) in omega (arith, n, content_shorter words (drop a rows), length-drop a rows, l))

pub no_group : (rows : List PlanRow) (words : List ℕ) (a : ℕ) → AreTogether rows → WordsBegin rows words a → a + 2 < length rows → ((d : PlanRow) → (get_or rows (a + 2) d).words ≢ words) → nat_le 3 (length (with_content words rows)) ≡ false
no_group rows words a t f l n =
    let parts : with_content words (drop a rows) ≡ with_content words (take 2 (drop a rows)) ++ with_content words (drop 2 (drop a rows)) =
    ap (with_content words) (sym (take-append-drop 2 (drop a rows))) ∙ content_append words (take 2 (drop a rows)) (drop 2 (drop a rows)) in
    let after : with_content words (drop 2 (drop a rows)) ≡ [] = ap (with_content words) (drop-drop 2 a rows) ∙ none_after rows words a (a + 2) t f (omega arith) n in
    let whole : length (with_content words rows) ≡ length (with_content words (take 2 (drop a rows))) + length (with_content words (drop 2 (drop a rows))) =
    ap length (from_first rows words a t f ∙ parts) ∙ length-append (with_content words (take 2 (drop a rows))) (with_content words (drop 2 (drop a rows))) in
    let none : length (with_content words (drop 2 (drop a rows))) ≡ 0 = ap length after in
    let two : length (take 2 (drop a rows)) ≡ 2 = length-take-le 2 (drop a rows) (omega (arith, length-drop a rows, l)) in
    at_most (length (with_content words rows)) (omega (arith, whole, none, two, content_shorter words (take 2 (drop a rows))))

pub first_of : (rows : List PlanRow) (words : List ℕ) (a : ℕ) (d : PlanRow) → AreTogether rows → WordsBegin rows words a → with_content words rows ≡ get_or rows a d ∷ with_content words (drop (a + 1) rows)
first_of rows words a d t f = from_first rows words a t f ∙ step_in rows words a d f.inside (f.has d)

-- ---- rows of contents

pub row_at : (frames : List PlannedFrame) (i : ℕ) (d : PlanRow) (e : PlannedFrame) → i < length frames → get_or (planned_rows frames) i d ≡ planned_row (get_or frames i e)
row_at [] i d e l = absurd (omega (arith, l))
row_at (c ∷ frames) zero d e l = refl
row_at (c ∷ frames) (suc i) d e l = row_at frames i d e (omega (arith, l))

-- ---- the order of contents

abbrev pub by_words : PlannedFrame → PlannedFrame → Bool
by_words x y = is_lt (slice_cmp nat_cmp x.words.now y.words.now)

equal_is_same : (xs ys : List ℕ) (o : Ordering) → o ≡ slice_cmp nat_cmp xs ys → is_eq o ≡ bytes_eq xs ys
equal_is_same = same_from_slice_cmp nat_cmp is_eq bytes_eq refl (λ _ _. refl) (λ _ _. refl) (λ x y xs ys o h. grind (arith, nat_tests))

tied : (xs ys : List ℕ) → is_lt (slice_cmp nat_cmp xs ys) ≡ false → is_lt (slice_cmp nat_cmp ys xs) ≡ false → xs ≡ ys
tied xs ys f g =
    same_by_test xs ys (sym (equal_is_same xs ys (slice_cmp nat_cmp xs ys) refl) ∙ by (slice_cmp nat_cmp xs ys) (slice_cmp nat_cmp ys xs) f g (nat_list_cmp_total.antisymm xs ys))
  where
    by : (o p : Ordering) → is_lt o ≡ false → is_lt p ≡ false → o ≡ ordering_reverse p → is_eq o ≡ true
    by Less p f g e = absurd (cc)
    by Equal p f g e = refl
    by Greater Less f g e = absurd (cc)
    by Greater Equal f g e = absurd (cc)
    by Greater Greater f g e = absurd (cc)

ties_same : (x y : PlannedFrame) → ties by_words x y ≡ bytes_eq y.words.now x.words.now
ties_same x y =
    by (slice_cmp nat_cmp x.words.now y.words.now) (slice_cmp nat_cmp y.words.now x.words.now) (nat_list_cmp_total.antisymm x.words.now y.words.now)
    ∙ equal_is_same y.words.now x.words.now (slice_cmp nat_cmp y.words.now x.words.now) refl
  where
    by : (o p : Ordering) → o ≡ ordering_reverse p → (not (is_lt o) && not (is_lt p)) ≡ is_eq p
    by Less Less e = absurd (cc)
    by Less Equal e = absurd (cc)
    by Less Greater e = refl
    by Equal Less e = absurd (cc)
    by Equal Equal e = refl
    by Equal Greater e = absurd (cc)
    by Greater Less e = refl
    by Greater Equal e = absurd (cc)
    by Greater Greater e = absurd (cc)

content_is_filter : (c : PlannedFrame) (frames : List PlannedFrame) → with_content c.words.now (planned_rows frames) ≡ planned_rows (filter (ties by_words c) frames)
content_is_filter c [] = refl
content_is_filter c (x ∷ frames) = rw (ties_same c x) (by (bytes_eq x.words.now c.words.now) (content_is_filter c frames))
  where
    by : (b : Bool) → with_content c.words.now (planned_rows frames) ≡ planned_rows (filter (ties by_words c) frames)
        → (if b then planned_row x ∷ with_content c.words.now (planned_rows frames) else with_content c.words.now (planned_rows frames)) ≡ planned_rows (cond b (x ∷ filter (ties by_words c) frames) (filter (ties by_words c) frames))
    by true ih = ap (λ t. planned_row x ∷ t) ih
    by false ih = ih

pub words_order : IsStrictWeakOrder by_words
words_order = ranks_by nat_list_cmp_total (λ (x : PlannedFrame). x.words.now)

sorted_together : (frames : List PlannedFrame) → IsSortedBy by_words frames → AreTogether (planned_rows frames)
sorted_together [] s i k j d l m h e = absurd (omega (arith, h))
sorted_together (c ∷ frames) s i k j d l m h e =
    let all : List PlannedFrame = c ∷ frames in
    let inside : j < length all = omega (arith, h, length-map all planned_row) in
    let first : get_or (planned_rows all) i d ≡ planned_row (get_or all i c) = row_at all i d c (omega (arith, l, m, inside)) in
    let middle : get_or (planned_rows all) k d ≡ planned_row (get_or all k c) = row_at all k d c (omega (arith, m, inside)) in
    let last : get_or (planned_rows all) j d ≡ planned_row (get_or all j c) = row_at all j d c inside in
    let same : (get_or all i c).words.now ≡ (get_or all j c).words.now = ap (λ (r : PlanRow). r.words) (sym first) ∙ e ∙ ap (λ (r : PlanRow). r.words) last in
    let up : by_words (get_or all k c) (get_or all i c) ≡ false = sorted_far by_words words_order all s i k c l (omega (arith, m, inside)) in
    let over : by_words (get_or all j c) (get_or all k c) ≡ false = sorted_far by_words words_order all s k j c m inside in
    let back : is_lt (slice_cmp nat_cmp (get_or all i c).words.now (get_or all k c).words.now) ≡ false = ap (λ t. is_lt (slice_cmp nat_cmp t (get_or all k c).words.now)) same ∙ over in
    ap (λ (r : PlanRow). r.words) middle ∙ tied (get_or all k c).words.now (get_or all i c).words.now up back ∙ ap (λ (r : PlanRow). r.words) (sym first)

row_there : (frames : List PlannedFrame) (i : ℕ) → ((k : ℕ) (d : PlannedFrame) → k < length frames → (get_or frames k d).row ≡ k) → i < length frames → Contains (map (λ (c : PlannedFrame). c.row) frames) i
row_there [] i p l = absurd (omega (arith, l))
row_there (c ∷ frames) i p l =
    subst (Contains (map (λ (c : PlannedFrame). c.row) (c ∷ frames))) (get_or-map (λ (c : PlannedFrame). c.row) (c ∷ frames) i c 0 l ∙ p i c l)
    (Contains-get_or (map (λ (c : PlannedFrame). c.row) (c ∷ frames)) i 0 (omega (arith, l, length-map (c ∷ frames) (λ (c : PlannedFrame). c.row))))

pub grouped_is : (rows : List PlanRow) (old new : List PlannedFrame) → planned_rows old ≡ rows → ((k : ℕ) (d : PlannedFrame) → k < length old → (get_or old k d).row ≡ k) → IsPermutation old new → IsSortedBy by_words new → IsStableBy by_words old new
    → AreFramesByContent rows new
grouped_is rows old new e p m s t =
    let long : length rows ≡ length old = ap length (sym e) ∙ length-map old planned_row in
    record {
      together = sorted_together new s;
      same = (λ k d l. content_is_filter (get_or new k d) new ∙ ap planned_rows (t (get_or new k d)) ∙ sym (content_is_filter (get_or new k d) old) ∙ ap (with_content (get_or new k d).words.now) e);
      placed = All-permutation (IsPlaced rows) old new m (λ k d l. (omega (arith, p k d l, l, long), (λ f. ap (λ (n : ℕ). get_or rows n f) (p k d l) ∙ ap (λ t. get_or t k f) (sym e) ∙ row_at old k f d l)));
      each = (λ i l. Contains-permutation (map (λ (c : PlannedFrame). c.row) old) (map (λ (c : PlannedFrame). c.row) new) i (IsPermutation-map (λ (c : PlannedFrame). c.row) old new m) (row_there old i p (omega (arith, l, long))));
    }

-- ---- where contents begin

pub begun_same : (rows : List PlanRow) (start k : ℕ) (d : PlanRow) → IsStartBefore rows start k → k < length rows → (get_or rows k d).words ≡ (get_or rows start d).words → WordsBegin rows (get_or rows k d).words start
begun_same rows start zero d b l e = record {
  inside = omega (arith, l, b.none refl);
  has = (λ f. ap (λ (r : PlanRow). r.words) (get_or_default rows start f d (omega (arith, l, b.none refl))) ∙ sym e);
  before = (λ f h. absurd (omega (arith, h, b.none refl)));
}
begun_same rows start (suc k) d b l e =
    let f = b.first d (omega arith) in
    subst (λ t. WordsBegin rows t start) (sym (f.has d) ∙ sym e) f

pub begun_new : (rows : List PlanRow) (start k : ℕ) (d : PlanRow) → IsStartBefore rows start k → k < length rows → (get_or rows k d).words ≢ (get_or rows start d).words → WordsBegin rows (get_or rows k d).words k
begun_new rows start k d b l n = record {
  inside = l;
  has = (λ f. ap (λ (r : PlanRow). r.words) (get_or_default rows k f d l));
  before = (λ f h e. let g = b.first f h in n (sym e ∙ sym (g.has d)));
}

pub start_same : (frames : List PlannedFrame) (start k : ℕ) (e : PlannedFrame) → IsStartBefore (planned_rows frames) start k → k < length frames → bytes_eq (get_or frames k e).words.now (get_or frames start e).words.now ≡ true
    → (d : PlanRow) → WordsBegin (planned_rows frames) (get_or (planned_rows frames) k d).words start
start_same frames start k e b l t d =
    begun_same (planned_rows frames) start k d b (omega (arith, l, length-map frames planned_row))
    (ap (λ (r : PlanRow). r.words) (row_at frames k d e l) ∙ same_by_test (get_or frames k e).words.now (get_or frames start e).words.now t
    ∙ ap (λ (r : PlanRow). r.words) (sym (row_at frames start d e (let h = b.no_later in omega (arith, h, l)))))

pub start_new : (frames : List PlannedFrame) (start k : ℕ) (e : PlannedFrame) → IsStartBefore (planned_rows frames) start k → k < length frames → bytes_eq (get_or frames k e).words.now (get_or frames start e).words.now ≡ false
    → (d : PlanRow) → WordsBegin (planned_rows frames) (get_or (planned_rows frames) k d).words k
start_new frames start k e b l t d =
    begun_new (planned_rows frames) start k d b (omega (arith, l, length-map frames planned_row)) (λ s.
    same_words_false (get_or frames k e).words.now (get_or frames start e).words.now t
    (ap (λ (r : PlanRow). r.words) (sym (row_at frames k d e l)) ∙ s ∙ ap (λ (r : PlanRow). r.words) (row_at frames start d e (let h = b.no_later in omega (arith, h, l)))))

-- for each place below k `firsts` has the place where its content begins
pub record FirstsUpTo (rows : List PlanRow) (firsts : List ℕ) (start k : ℕ) : Type 0 where
  pub begun : IsStartBefore rows start k
  pub count : length firsts ≡ k
  pub each : (j : ℕ) (d : PlanRow) → j < k → WordsBegin rows (get_or rows j d).words (get_or firsts j 0)

pub firsts_none : (rows : List PlanRow) → FirstsUpTo rows [] 0 0
firsts_none rows = record {
  begun = record { no_later = omega arith; none = (λ e. refl); first = (λ d h. absurd (omega (arith, h))) };
  count = refl;
  each = (λ j d h. absurd (omega (arith, h)));
}

pub firsts_step : (rows : List PlanRow) (firsts new : List ℕ) (start k s : ℕ) → FirstsUpTo rows firsts start k → ((d : PlanRow) → WordsBegin rows (get_or rows k d).words s) → s ≤ k → new ≡ firsts ++ s ∷ [] → FirstsUpTo rows new s (k + 1)
firsts_step rows firsts new start k s u f b e =
    subst (λ (t : List ℕ). FirstsUpTo rows t s (k + 1)) (sym e)
    record {
      begun = record { no_later = omega (arith, b); none = (λ e. absurd (omega (arith, e))); first = (λ d h. subst (λ (i : ℕ). WordsBegin rows (get_or rows i d).words s) (omega arith) (f d)) };
      count = length_push firsts s ∙ ap (λ (n : ℕ). n + 1) u.count;
      each = (λ j d h. at j d h (cases_order j k));
    }
  where
    at : (j : ℕ) (d : PlanRow) → j < k + 1 → (j ≡ k) ⊎ ((j < k) ⊎ (k < j)) → WordsBegin rows (get_or rows j d).words (get_or (firsts ++ s ∷ []) j 0)
    at j d h (inl same) =
        subst (λ (x : ℕ). WordsBegin rows (get_or rows j d).words x) (sym (get_or_push firsts s 0 j (u.count ∙ sym same))) (subst (λ (i : ℕ). WordsBegin rows (get_or rows i d).words s) (sym same) (f d))
    at j d h (inr (inl below)) = subst (λ (x : ℕ). WordsBegin rows (get_or rows j d).words x) (sym (get_or_append_left firsts (s ∷ []) 0 j (omega (arith, below, u.count)))) (u.each j d below)
    at j d h (inr (inr above)) = absurd (omega (arith, h, above))

pub firsts_all : (rows : List PlanRow) (firsts : List ℕ) (start k : ℕ) → FirstsUpTo rows firsts start k → k ≡ length rows → AreFirsts rows firsts
firsts_all rows firsts start k u n = record { count = u.count ∙ n; each = (λ j d h. u.each j d (omega (arith, h, n))) }

-- a content begins at one place
not_later : (rows : List PlanRow) (words : List ℕ) (a b : ℕ) → AreTogether rows → WordsBegin rows words a → WordsBegin rows words b → a < b → ⊥
not_later rows words a b t f g l =
    let d : PlanRow = record { far = 0; words = [] } in
    g.before d (omega (arith, l)) (t a (b - 1) b d (omega (arith, l)) (omega arith) g.inside (f.has d ∙ sym (g.has d)) ∙ f.has d)

pub same_first : (rows : List PlanRow) (words : List ℕ) (a b : ℕ) → AreTogether rows → WordsBegin rows words a → WordsBegin rows words b → a ≡ b
same_first rows words a b t f g = elim (cases_order a b) [
  | inl e ↦ e
  | inr (inl l) ↦ absurd (not_later rows words a b t f g l)
  | inr (inr l) ↦ absurd (not_later rows words b a t g f l)
]

-- a place has the content that begins at a place exactly where its own begins there
pub place_same : (rows : List PlanRow) (words firsts : List ℕ) (a k : ℕ) (d : PlanRow) → AreFirsts rows firsts → WordsBegin rows words a → k < length rows → get_or firsts k 0 ≡ a → (get_or rows k d).words ≡ words
place_same rows words firsts a k d m f l e =
    let g : WordsBegin rows (get_or rows k d).words a = subst (λ (x : ℕ). WordsBegin rows (get_or rows k d).words x) e (m.each k d l) in
    sym (g.has d) ∙ f.has d

pub place_other : (rows : List PlanRow) (words firsts : List ℕ) (a k : ℕ) (d : PlanRow) → AreTogether rows → AreFirsts rows firsts → WordsBegin rows words a → k < length rows → (get_or firsts k 0 ≡ a → ⊥) → (get_or rows k d).words ≢ words
place_other rows words firsts a k d t m f l n e =
    n (same_first rows words (get_or firsts k 0) a t (subst (λ (ws : List ℕ). WordsBegin rows ws (get_or firsts k 0)) e (m.each k d l)) f)

-- for each frame at a place below k `starts` has, at the place of its row, where its content begins
pub record StartsUpTo (rows : List PlanRow) (frames : List PlannedFrame) (starts : List ℕ) (k : ℕ) : Type 0 where
  pub done : (j : ℕ) (d : PlannedFrame) (e : PlanRow) → j < k → WordsBegin (planned_rows frames) (get_or rows (get_or frames j d).row e).words (get_or starts (get_or frames j d).row 0)

pub starts_more : (rows : List PlanRow) (frames : List PlannedFrame) (starts : List ℕ) (k s : ℕ) (c : PlannedFrame) → AreFramesByContent rows frames → StartsUpTo rows frames starts k → length starts ≡ length rows → k < length frames
    → c ≡ get_or frames k c → ((d : PlanRow) → WordsBegin (planned_rows frames) (get_or (planned_rows frames) k d).words s) → StartsUpTo rows frames (set starts c.row s) (k + 1)
starts_more rows frames starts k s c g u n l r f = record {
  done = (λ j d e h. at j d e h (cases_eq j k));
}
  where
    here : (e : PlanRow) → WordsBegin (planned_rows frames) (get_or rows c.row e).words (get_or (set starts c.row s) c.row 0)
    here e =
        let placed : IsPlaced rows c = subst (IsPlaced rows) (sym r) (g.placed k c l) in
        let words : (get_or (planned_rows frames) k e).words ≡ (get_or rows c.row e).words = ap (λ (r : PlanRow). r.words) (row_at frames k e c l ∙ ap planned_row (sym r) ∙ sym (placed.1 e)) in
        rw (get_or-set_same starts c.row s 0 (omega (arith, placed.0, n))) (subst (λ t. WordsBegin (planned_rows frames) t s) words (f e))

    at : (j : ℕ) (d : PlannedFrame) (e : PlanRow) → j < k + 1 → (j ≡ k) ⊎ (j ≢ k) → WordsBegin (planned_rows frames) (get_or rows (get_or frames j d).row e).words (get_or (set starts c.row s) (get_or frames j d).row 0)
    at j d e h (inl same) =
        subst (λ (x : PlannedFrame). WordsBegin (planned_rows frames) (get_or rows x.row e).words (get_or (set starts c.row s) x.row 0)) (r ∙ get_or_default frames k c d l ∙ ap (λ (i : ℕ). get_or frames i d) (sym same)) (here e)
    at j d e h (inr other) = elim (cases_eq (get_or frames j d).row c.row) [
      | inl same ↦ subst (λ (x : ℕ). WordsBegin (planned_rows frames) (get_or rows x e).words (get_or (set starts c.row s) x 0)) (sym same) (here e)
      | inr differs ↦ rw (get_or-set_other starts c.row (get_or frames j d).row s 0 differs) (u.done j d e (omega (arith, h, other)))
    ]

pub starts_step : (rows : List PlanRow) (frames : List PlannedFrame) (starts firsts : List ℕ) (k x : ℕ) (e : PlannedFrame) → AreFramesByContent rows frames → AreFirsts (planned_rows frames) firsts → StartsUpTo rows frames starts k → length starts ≡ length rows → k < length frames
    → StartsUpTo rows frames (set starts (get_or frames k e).row (get_or firsts k x)) (k + 1)
starts_step rows frames starts firsts k x e g m u n l =
    let inside : k < length (planned_rows frames) = omega (arith, l, length-map frames planned_row) in
    let known : get_or firsts k 0 ≡ get_or firsts k x = get_or_default firsts k 0 x (omega (arith, inside, m.count)) in
    starts_more rows frames starts k (get_or firsts k x) (get_or frames k e) g u n l (get_or_default frames k e (get_or frames k e) l)
    (λ d. subst (λ (i : ℕ). WordsBegin (planned_rows frames) (get_or (planned_rows frames) k d).words i) known (m.each k d inside))

pub starts_all : (rows : List PlanRow) (frames : List PlannedFrame) (starts : List ℕ) (k : ℕ) → AreFramesByContent rows frames → StartsUpTo rows frames starts k → length starts ≡ length rows → length frames ≤ k → AreStarts rows (planned_rows frames) starts
starts_all rows frames starts k g u n l = record {
  count = n;
  each = (λ i d h. at i d (g.each i h));
}
  where
    some : (j : ℕ) → j < length frames → PlannedFrame
    some j h = first frames h
      where
        first : (cs : List PlannedFrame) → j < length cs → PlannedFrame
        first [] h = absurd (omega (arith, h))
        first (c ∷ cs) h = c

    at : (i : ℕ) (d : PlanRow) → Contains (map (λ (c : PlannedFrame). c.row) frames) i → WordsBegin (planned_rows frames) (get_or rows i d).words (get_or starts i 0)
    at i d (j, low, e) =
        let inside : j < length frames = omega (arith, low, length-map frames (λ (c : PlannedFrame). c.row)) in
        let c : PlannedFrame = some j inside in
        let is : (get_or frames j c).row ≡ i = sym (get_or-map (λ (c : PlannedFrame). c.row) frames j c i inside) ∙ e in
        subst (λ (x : ℕ). WordsBegin (planned_rows frames) (get_or rows x d).words (get_or starts x 0)) is (u.done j c d (omega (arith, inside, l)))
