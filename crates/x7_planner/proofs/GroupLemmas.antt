-- The groups of a plan and the other rows, one row more.
use Rattle.std.proofs.Common.{◌≡◌, ℕ, ◌+◌, ◌-◌, ◌<◌, ◌≤◌, ◌==◌, ◌&&◌, not, Bool, true, false, if◌then◌else◌, List, [], ◌∷◌, ◌++◌, length, take, get_or, refl, ap, sym, subst, ◌∙◌, arith, append_assoc, eq-eqb, ◌⊎◌, inl, inr}
use Rattle.std.proofs.lemmas.Bool.{cases_eq, eqb-true, false≢true}
use Rattle.std.specs.Prelude.{nat_le}
use Rattle.std.specs.List.{flat_map}
use Rattle.std.proofs.lemmas.Grind.{flat_map-append}
use Rattle.std.proofs.lemmas.List.Elements.{filter-append}
use Rattle.std.proofs.lemmas.List.{append-nil, take_more, length-map, map-append, get_or_default, length_push, get_or_push, get_or_append_left}
use Rattle.x7_memory.specs.Plan.{PlanRow, planned_addresses}
use Rattle.x7_part.specs.Part.{PartData, frame_words}
use Rattle.x7_regs.specs.declared.command.Command.TheVariants.{Mfw, Wcfg}
use Rattle.x7_regs.specs.declared.register.Reg.TheVariants.{Far}
use Rattle.x7_packets.specs.PacketWords.{command, frame_data_headers, write_one}
use Rattle.x7_planner.specs.Content.{AreFirsts, AreFramesByContent, AreStarts, AreTogether, WordsBegin, planned_row, planned_rows}
use Rattle.x7_planner.specs.PartialStream.{Copies, copy_words, groups_led, is_shared, is_first_of_group, rows_not_shared, section_words, with_content}
use Rattle.x7_planner.specs.Writer.{bytes_of_words}
use Rattle.x7_planner.specs.declared.content.PlannedFrame.{PlannedFrame}
use Rattle.x7_planner.proofs.ContentLemmas.{content_append, content_same, first_of, is_group, no_group, no_group_short, none_before, place_other, place_same, row_at, up_to}
use Rattle.x7_planner.proofs.SlotLemmas.{written_on}

-- ---- contents of a plan's rows

content_grown : (rows : List PlanRow) (frames : List PlannedFrame) (n : ℕ) (c : PlannedFrame) (d : PlanRow) → planned_rows frames ≡ take n rows → length frames ≡ n → ((i : ℕ) (e : PlannedFrame) → i < length frames → (get_or frames i e).row ≡ i)
    → n < length rows → get_or rows n d ≡ planned_row c → c.row ≡ n
    → (planned_rows (frames ++ c ∷ []) ≡ take (n + 1) rows) × (length (frames ++ c ∷ []) ≡ n + 1) × ((i : ℕ) (e : PlannedFrame) → i < length (frames ++ c ∷ []) → (get_or (frames ++ c ∷ []) i e).row ≡ i)
content_grown rows frames n c d e l p h at r = (
  map-append planned_row frames (c ∷ []) ∙ ap (λ t. t ++ planned_row c ∷ []) e ∙ ap (λ (x : PlanRow). take n rows ++ x ∷ []) (sym at) ∙ sym (take_more rows n d h),
  omega (arith, length_push frames c, l),
  (λ i f m. by i f (cases_less i (omega (arith, m, length_push frames c, l)))),
)
  where
    cases_less : (i : ℕ) → i < n + 1 → (i < n) ⊎ (i ≡ n)
    cases_less i m = elim (cases_eq i n) [ inl e ↦ inr e | inr x ↦ inl (omega (arith, m, x)) ]

    by : (i : ℕ) (f : PlannedFrame) → (i < n) ⊎ (i ≡ n) → (get_or (frames ++ c ∷ []) i f).row ≡ i
    by i f (inl m) = ap (λ (x : PlannedFrame). x.row) (get_or_append_left frames (c ∷ []) f i (omega (arith, m, l))) ∙ p i f (omega (arith, m, l))
    by i f (inr m) = ap (λ (x : PlannedFrame). x.row) (get_or_push frames c f i (l ∙ sym m)) ∙ r ∙ sym m

pub content_pushed : (rows : List PlanRow) (old new : List PlannedFrame) (n : ℕ) (c : PlannedFrame) (d : PlanRow) → planned_rows old ≡ take n rows → length old ≡ n → ((i : ℕ) (e : PlannedFrame) → i < length old → (get_or old i e).row ≡ i)
    → n < length rows → get_or rows n d ≡ planned_row c → c.row ≡ n → new ≡ old ++ c ∷ []
    → (planned_rows new ≡ take (n + 1) rows) × (length new ≡ n + 1) × ((i : ℕ) (e : PlannedFrame) → i < length new → (get_or new i e).row ≡ i)
content_pushed rows old new n c d e l p h at r m =
    subst (λ (t : List PlannedFrame). (planned_rows t ≡ take (n + 1) rows) × (length t ≡ n + 1) × ((i : ℕ) (e : PlannedFrame) → i < length t → (get_or t i e).row ≡ i)) (sym m) (content_grown rows old n c d e l p h at r)

-- ---- whether a content stands at three addresses or more

pub short_group : (frames : List PlannedFrame) (words : List ℕ) (a : ℕ) → AreTogether (planned_rows frames) → WordsBegin (planned_rows frames) words a → length frames - a < 3 → false ≡ nat_le 3 (length (with_content words (planned_rows frames)))
short_group frames words a t f l = sym (no_group_short (planned_rows frames) words a t f (omega (arith, l, length-map frames planned_row)))

pub group_by : (frames : List PlannedFrame) (words firsts : List ℕ) (a x : ℕ) → AreTogether (planned_rows frames) → AreFirsts (planned_rows frames) firsts → WordsBegin (planned_rows frames) words a → a + 2 < length frames
    → (get_or firsts (a + 2) x == a) ≡ nat_le 3 (length (with_content words (planned_rows frames)))
group_by frames words firsts a x t m f l = by (get_or firsts (a + 2) 0 == a) refl
  where
    inside : a + 2 < length (planned_rows frames)
    inside = omega (arith, l, length-map frames planned_row)

    known : get_or firsts (a + 2) x ≡ get_or firsts (a + 2) 0
    known = get_or_default firsts (a + 2) x 0 (omega (arith, inside, m.count))

    by : (b : Bool) → (get_or firsts (a + 2) 0 == a) ≡ b → (get_or firsts (a + 2) x == a) ≡ nat_le 3 (length (with_content words (planned_rows frames)))
    by true e =
        let d : PlanRow = record { far = 0; words = [] } in
        ap (λ (i : ℕ). i == a) known ∙ e ∙ sym (is_group (planned_rows frames) words a d t f inside (place_same (planned_rows frames) words firsts a (a + 2) d m f inside (eqb-true (get_or firsts (a + 2) 0) a e)))
    by false e =
        ap (λ (i : ℕ). i == a) known ∙ e
        ∙ sym (no_group (planned_rows frames) words a t f inside (λ d. place_other (planned_rows frames) words firsts a (a + 2) d t m f inside (λ h. false≢true (sym e ∙ eq-eqb (get_or firsts (a + 2) 0) a h))))

-- a content's first address
pub first_far : (frames : List PlannedFrame) (words : List ℕ) (a : ℕ) (e : PlannedFrame) → AreTogether (planned_rows frames) → WordsBegin (planned_rows frames) words a → get_or (planned_addresses (with_content words (planned_rows frames))) 0 0 ≡ (get_or frames a e).far
first_far frames words a e t f =
    let l : a < length frames = (let i = f.inside in omega (arith, i, length-map frames planned_row)) in
    ap (λ (rows : List PlanRow). get_or (planned_addresses rows) 0 0) (first_of (planned_rows frames) words a (planned_row e) t f) ∙ ap (λ (r : PlanRow). r.far) (row_at frames a (planned_row e) e l)

pub leads_by : (frames : List PlannedFrame) (words : List ℕ) (a far : ℕ) (e : PlannedFrame) (b : Bool) → AreTogether (planned_rows frames) → WordsBegin (planned_rows frames) words a → b ≡ nat_le 3 (length (with_content words (planned_rows frames))) → b ≡ true
    → ((get_or frames a e).far == far) ≡ (nat_le 3 (length (with_content words (planned_rows frames))) && (get_or (planned_addresses (with_content words (planned_rows frames))) 0 0 == far))
leads_by frames words a far e b t f n y = rw (sym n ∙ y) (ap (λ (x : ℕ). x == far) (sym (first_far frames words a e t f)))

-- ---- a row's content

pub first_at : (rows : List PlanRow) (frames : List PlannedFrame) (starts : List ℕ) (i : ℕ) (d : PlanRow) (e : ℕ) (r : PlanRow) → AreStarts rows (planned_rows frames) starts → i < length rows → get_or rows i d ≡ r → WordsBegin (planned_rows frames) r.words (get_or starts i e)
first_at rows frames starts i d e r s l at =
    subst (λ (x : ℕ). WordsBegin (planned_rows frames) r.words x) (get_or_default starts i 0 e (let n = s.count in omega (arith, l, n))) (subst (λ (x : PlanRow). WordsBegin (planned_rows frames) x.words (get_or starts i 0)) at (s.each i d l))

pub inside_at : (frames : List PlannedFrame) (words : List ℕ) (a : ℕ) → WordsBegin (planned_rows frames) words a → a < length frames
inside_at frames words a f = let i = f.inside in omega (arith, i, length-map frames planned_row)

pub same_content : (rows : List PlanRow) (frames : List PlannedFrame) (words : List ℕ) (a : ℕ) → AreFramesByContent rows frames → WordsBegin (planned_rows frames) words a → with_content words (planned_rows frames) ≡ with_content words rows
same_content rows [] words a g f = absurd (let i = f.inside in omega (arith, i))
same_content rows (c ∷ frames) words a g f =
    let l : a < length (c ∷ frames) = inside_at (c ∷ frames) words a f in
    let is : (get_or (c ∷ frames) a c).words.now ≡ words = ap (λ (r : PlanRow). r.words) (sym (row_at (c ∷ frames) a (planned_row c) c l)) ∙ f.has (planned_row c) in
    subst (λ t. with_content t (planned_rows (c ∷ frames)) ≡ with_content t rows) is (g.same a c l)

-- ---- the other rows

pub not_shared_append : (all xs ys : List PlanRow) → rows_not_shared all (xs ++ ys) ≡ rows_not_shared all xs ++ rows_not_shared all ys
not_shared_append all xs ys = filter-append (λ (row : PlanRow). not (is_shared all row)) xs ys

pub not_shared_more : (rows : List PlanRow) (frames old new : List PlannedFrame) (a n : ℕ) (c : PlannedFrame) (d : PlanRow) (b : Bool) → AreFramesByContent rows frames → WordsBegin (planned_rows frames) c.words.now a → n < length rows → get_or rows n d ≡ planned_row c
    → b ≡ nat_le 3 (length (with_content c.words.now (planned_rows frames))) → planned_rows old ≡ rows_not_shared rows (take n rows) → new ≡ (if b then old else old ++ c ∷ []) → planned_rows new ≡ rows_not_shared rows (take (n + 1) rows)
not_shared_more rows frames old new a n c d b g f l at e h m =
    ap planned_rows m ∙ by b (e ∙ ap (λ t. nat_le 3 (length t)) (same_content rows frames c.words.now a g f))
    ∙ sym (ap (rows_not_shared rows) (take_more rows n d l ∙ ap (λ (x : PlanRow). take n rows ++ x ∷ []) at) ∙ not_shared_append rows (take n rows) (planned_row c ∷ []))
  where
    by : (b : Bool) → b ≡ is_shared rows (planned_row c) → planned_rows (if b then old else old ++ c ∷ []) ≡ rows_not_shared rows (take n rows) ++ rows_not_shared rows (planned_row c ∷ [])
    by true e = h ∙ sym (append-nil (rows_not_shared rows (take n rows))) ∙ ap (λ t. rows_not_shared rows (take n rows) ++ t) (rw (sym e) refl)
    by false e = map-append planned_row old (c ∷ []) ∙ ap (λ t. t ++ planned_row c ∷ []) h ∙ ap (λ t. rows_not_shared rows (take n rows) ++ t) (rw (sym e) refl)

-- ---- the groups

pub groups_append : (all xs ys : List PlanRow) → groups_led all (xs ++ ys) ≡ groups_led all xs ++ groups_led all ys
groups_append all [] ys = refl
groups_append all (x ∷ xs) ys = by (is_first_of_group all x) (groups_append all xs ys)
  where
    by : (b : Bool) → groups_led all (xs ++ ys) ≡ groups_led all xs ++ groups_led all ys
        → (if b then Copies x.words (planned_addresses (with_content x.words all)) ∷ groups_led all (xs ++ ys) else groups_led all (xs ++ ys))
        ≡ (if b then Copies x.words (planned_addresses (with_content x.words all)) ∷ groups_led all xs else groups_led all xs) ++ groups_led all ys
    by true ih = ap (λ t. Copies x.words (planned_addresses (with_content x.words all)) ∷ t) ih
    by false ih = ih

pub same_led : (rows rows_not_shared : List PlanRow) (r : PlanRow) → with_content r.words rows_not_shared ≡ with_content r.words rows → groups_led rows_not_shared (r ∷ []) ≡ groups_led rows (r ∷ [])
same_led rows rows_not_shared r e =
    ap (λ t. if nat_le 3 (length t) && (get_or (planned_addresses t) 0 0 == r.far) then Copies r.words (planned_addresses t) ∷ [] else []) e

pub group_more : (part : PartData) (rows : List PlanRow) (frames : List PlannedFrame) (old mid new : List ℕ) (a n : ℕ) (r : PlanRow) (d : PlanRow) → AreFramesByContent rows frames → WordsBegin (planned_rows frames) r.words a → n < length rows → get_or rows n d ≡ r
    → mid ≡ old ++ bytes_of_words (flat_map (section_words part) (groups_led rows (take n rows))) → new ≡ mid ++ bytes_of_words (flat_map (section_words part) (groups_led (planned_rows frames) (r ∷ [])))
    → new ≡ old ++ bytes_of_words (flat_map (section_words part) (groups_led rows (take (n + 1) rows)))
group_more part rows frames old mid new a n r d g f l at e h =
    written_on old mid new (flat_map (section_words part) (groups_led rows (take n rows))) (flat_map (section_words part) (groups_led (planned_rows frames) (r ∷ []))) e h
    ∙ ap (λ t. old ++ bytes_of_words (flat_map (section_words part) (groups_led rows (take n rows)) ++ flat_map (section_words part) t)) (same_led rows (planned_rows frames) r (same_content rows frames r.words a g f))
    ∙ ap (λ t. old ++ bytes_of_words t) (sym (flat_map-append (section_words part) (groups_led rows (take n rows)) (groups_led rows (r ∷ []))))
    ∙ ap (λ t. old ++ bytes_of_words (flat_map (section_words part) t)) (sym (groups_append rows (take n rows) (r ∷ [])) ∙ ap (groups_led rows) (ap (λ (x : PlanRow). take n rows ++ x ∷ []) (sym at) ∙ sym (take_more rows n d l)))

-- ---- what a group writes

pub copies_begin : (frames : List PlannedFrame) (words old : List ℕ) (a : ℕ) → AreTogether (planned_rows frames) → WordsBegin (planned_rows frames) words a
    → old ≡ old ++ bytes_of_words (flat_map copy_words (planned_addresses (with_content words (take a (planned_rows frames)))))
copies_begin frames words old a t f =
    sym (ap (λ x. old ++ bytes_of_words (flat_map copy_words (planned_addresses x))) (none_before (planned_rows frames) words a t f) ∙ append-nil old)

pub copies_more : (frames : List PlannedFrame) (words firsts old mid new : List ℕ) (a k x : ℕ) (e : PlannedFrame) → AreFirsts (planned_rows frames) firsts → WordsBegin (planned_rows frames) words a → k < length frames → get_or firsts k x ≡ a
    → mid ≡ old ++ bytes_of_words (flat_map copy_words (planned_addresses (with_content words (take k (planned_rows frames))))) → new ≡ mid ++ bytes_of_words (copy_words (get_or frames k e).far)
    → new ≡ old ++ bytes_of_words (flat_map copy_words (planned_addresses (with_content words (take (k + 1) (planned_rows frames)))))
copies_more frames words firsts old mid new a k x e f g l y h m =
    let rows : List PlanRow = planned_rows frames in
    let r : PlanRow = planned_row (get_or frames k e) in
    let inside : k < length rows = omega (arith, l, length-map frames planned_row) in
    let here : get_or firsts k 0 ≡ a = get_or_default firsts k 0 x (omega (arith, inside, f.count)) ∙ y in
    let has : r.words ≡ words = ap (λ (s : PlanRow). s.words) (sym (row_at frames k r e l)) ∙ place_same rows words firsts a k r f g inside here in
    let more : with_content words (take (k + 1) rows) ≡ with_content words (take k rows) ++ r ∷ [] =
    ap (with_content words) (take_more rows k r inside ∙ ap (λ (x : PlanRow). take k rows ++ x ∷ []) (row_at frames k r e l))
    ∙ content_append words (take k rows) (r ∷ []) ∙ ap (λ t. with_content words (take k rows) ++ t) (content_same words r [] has) in
    let all : flat_map copy_words (planned_addresses (with_content words (take (k + 1) rows))) ≡ flat_map copy_words (planned_addresses (with_content words (take k rows))) ++ copy_words r.far =
    ap (λ t. flat_map copy_words (planned_addresses t)) more ∙ ap (flat_map copy_words) (map-append (λ (x : PlanRow). x.far) (with_content words (take k rows)) (r ∷ []))
    ∙ flat_map-append copy_words (planned_addresses (with_content words (take k rows))) (r.far ∷ [])
    ∙ ap (λ t. flat_map copy_words (planned_addresses (with_content words (take k rows))) ++ t) (append-nil (copy_words r.far)) in
    written_on old mid new (flat_map copy_words (planned_addresses (with_content words (take k rows)))) (copy_words r.far) h m ∙ ap (λ t. old ++ bytes_of_words t) (sym all)

pub copies_end : (frames : List PlannedFrame) (words firsts old new : List ℕ) (a k x : ℕ) → AreTogether (planned_rows frames) → AreFirsts (planned_rows frames) firsts → WordsBegin (planned_rows frames) words a → a ≤ k → k < length frames
    → (get_or firsts k x ≡ a → ⊥) → new ≡ old ++ bytes_of_words (flat_map copy_words (planned_addresses (with_content words (take k (planned_rows frames)))))
    → new ≡ old ++ bytes_of_words (flat_map copy_words (planned_addresses (with_content words (planned_rows frames))))
copies_end frames words firsts old new a k x t m f l inner n h =
    let inside : k < length (planned_rows frames) = omega (arith, inner, length-map frames planned_row) in
    let known : get_or firsts k x ≡ get_or firsts k 0 = get_or_default firsts k x 0 (omega (arith, inside, m.count)) in
    h ∙ ap (λ x. old ++ bytes_of_words (flat_map copy_words (planned_addresses x)))
    (sym (up_to (planned_rows frames) words a k t f l (λ d. place_other (planned_rows frames) words firsts a k d t m f inside (λ e. n (known ∙ e)))))

pub group_written : (part : PartData) (old one two three new words fars : List ℕ) (first width : ℕ) → width ≡ frame_words part → get_or fars 0 0 ≡ first
    → one ≡ old ++ bytes_of_words (command Wcfg ++ (write_one Far first ++ frame_data_headers width)) → two ≡ one ++ bytes_of_words words → three ≡ two ++ bytes_of_words (command Mfw)
    → new ≡ three ++ bytes_of_words (flat_map copy_words fars) → new ≡ old ++ bytes_of_words (section_words part (Copies words fars))
group_written part old one two three new words fars first width w f a b c d =
    let opening : List ℕ = command Wcfg ++ (write_one Far first ++ frame_data_headers width) in
    let copies : List ℕ = flat_map copy_words fars in
    written_on old three new ((opening ++ words) ++ command Mfw) copies (written_on old two three (opening ++ words) (command Mfw) (written_on old one two opening words a b) c) d
    ∙ ap (λ t. old ++ bytes_of_words t)
    (append_assoc (opening ++ words) (command Mfw) copies ∙ append_assoc opening words (command Mfw ++ copies)
    ∙ ap (λ (x : ℕ). command Wcfg ++ (write_one Far x ++ (frame_data_headers width ++ (words ++ (command Mfw ++ copies))))) (sym f)
    ∙ ap (λ (x : ℕ). command Wcfg ++ (write_one Far (get_or fars 0 0) ++ (frame_data_headers x ++ (words ++ (command Mfw ++ copies))))) w)

pub led_none : (part : PartData) (old : List ℕ) (all : List PlanRow) (r : PlanRow) (b : Bool) → b ≡ is_first_of_group all r → b ≡ false → old ≡ old ++ bytes_of_words (flat_map (section_words part) (groups_led all (r ∷ [])))
led_none part old all r b e y = rw (sym e ∙ y) (sym (append-nil old))

pub led_some : (part : PartData) (old new : List ℕ) (all : List PlanRow) (r : PlanRow) (b : Bool) → b ≡ is_first_of_group all r → b ≡ true
    → new ≡ old ++ bytes_of_words (section_words part (Copies r.words (planned_addresses (with_content r.words all)))) → new ≡ old ++ bytes_of_words (flat_map (section_words part) (groups_led all (r ∷ [])))
led_some part old new all r b e y h = rw (sym e ∙ y) (h ∙ ap (λ t. old ++ bytes_of_words t) (sym (append-nil (section_words part (Copies r.words (planned_addresses (with_content r.words all)))))))
