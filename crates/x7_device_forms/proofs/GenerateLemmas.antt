-- Lemmas on plans that are made from a number, and on sums of words.
use Rattle.std.proofs.Common.{codes, length-append, ◌≡◌, ◌+◌, ◌*◌, ◌%◌, ◌^◌, ◌<◌, ◌≤◌, ℕ, zero, suc, Bool, true, false, if◌then◌else◌, List, [], ◌∷◌, ◌++◌, length, get_or, drop, Option, refl, ap, sym, subst, ◌∙◌, append_assoc, append-nil, arith}
use Rattle.std.specs.Prelude.{nat_lt, unwrap_or, All, IsPermutation, Contains}
use Rattle.std.specs.List.{range_with_len, sum}
use Rattle.std.proofs.Math.ListN.{drop_of_length-le}
use Rattle.std.proofs.lemmas.List.{drop_more, get_or-map, length-map}
use Rattle.std.proofs.lemmas.List.FromFn.{length-range_with_len, map-range_with_len_more}
use Rattle.x7_part.specs.AddressOrder.{Rises, addresses_in, rise}
use Rattle.x7_part.specs.Part.{PartData, frame_words}
use Rattle.x7_memory.specs.FrameMap.{HaveSameFrames, FrameMap}
use Rattle.x7_memory.specs.Plan.{AreAddressed, AreApart, AreInOrder, IsPlan, IsPlanRow, PlanData, PlanRow, total}
use Rattle.x7_memory.proofs.PlanLemmas.{words_by_place}
use Rattle.x7_part.proofs.RowLemmas.{part_rises}
use Rattle.x7_words.specs.Word.{AreWords}
use Rattle.x7_effects.proofs.FrameLemmas.{address_small}
use Rattle.x7_frames.proofs.OneLemmas.{same_order}
use Rattle.std.proofs.lemmas.List.Elements.{All-cons, All-contains_itself, All-head, All-nil, All-tail}
use Rattle.std.proofs.lemmas.List.Sorted.{All-permutation, IsPermutation-sym}
use Rattle.x7_memory.specs.PartFrames.{frame_at}
use Rattle.x7_part.specs.Ranges.{IsPart}
use Rattle.x7_part.specs.Slot.{slots_in, pads_after_row}
use Rattle.x7_part.proofs.SlotLemmas.{slots_number}
use Rattle.x7_planner.specs.FullStream.{full_stream}
use Rattle.x7_planner.specs.FullStreamPieces.{FullStreamState, HasGiven, AppendsNext}
use Rattle.x7_engine.specs.Kept.{on_the_bench}
use Rattle.x7_engine.specs.Standing.{NoWordDue}
use Rattle.x7_engine.specs.State.{memory_of_bytes, reads_of, state_of}
use Rattle.x7_effects.proofs.FormLemmas.{full_length}
use Rattle.x7_effects.proofs.PlannerLemmas.{full_same}
use Rattle.x7_effects.specs.Played.{PlaysFull, device_after}
use Rattle.x7_effects.proofs.LawLemmas.{new_law}
use Rattle.x7_outcome.specs.Generate.{count_line, counted, gen_text, plan_of_seed, gen_line, least_planned, next_number, planned_summary, played_summary, row_by, rows_after, sum_line, summary_text, words_sum}
use Rattle.x7_forms.specs.Known.{reads_limit}
use Rattle.x7_playing.specs.Playing.{HasPlayed, HasPlayedBy, PlayState, DevicePlayed, PlaysOn}
use Rattle.x7_playing.specs.declared.player.Player.{Player}

-- ---- frames that count up

pub counted_more : (n i w : ℕ) → w ≡ (n + i) % 2 ^ 32 → counted (i + 1) n ≡ counted i n ++ w ∷ []
counted_more n i w e = map-range_with_len_more (λ k. (n + k) % 2 ^ 32) 0 i i (omega arith) ∙ ap (λ (x : ℕ). counted i n ++ x ∷ []) (sym e)

-- ---- an address more

rest_at : (fars : List ℕ) (rank far : ℕ) → rank < length fars → get_or fars rank 0 ≡ far → drop rank fars ≡ far ∷ drop (rank + 1) fars
rest_at fars rank far h e = drop_more fars rank 0 h ∙ ap (λ (y : ℕ). y ∷ drop (rank + 1) fars) e

pub rows_more : (width x rank far : ℕ) (fars : List ℕ) (prefix now all : List PlanRow) → rank < length fars → get_or fars rank 0 ≡ far → now ≡ prefix ++ row_by width far (next_number x)
    → prefix ++ rows_after width x (drop rank fars) ≡ all → now ++ rows_after width (next_number x) (drop (rank + 1) fars) ≡ all
rows_more width x rank far fars prefix now all h e n was =
    ap (λ (t : List PlanRow). t ++ rows_after width (next_number x) (drop (rank + 1) fars)) n
    ∙ append_assoc prefix (row_by width far (next_number x)) (rows_after width (next_number x) (drop (rank + 1) fars))
    ∙ ap (λ (t : List ℕ). prefix ++ rows_after width x t) (sym (rest_at fars rank far h e))
    ∙ was

pub rows_all : (width x rank : ℕ) (fars : List ℕ) (prefix all : List PlanRow) → length fars ≤ rank → prefix ++ rows_after width x (drop rank fars) ≡ all → prefix ≡ all
rows_all width x rank fars prefix all h was = sym (append-nil prefix) ∙ ap (λ (t : List ℕ). prefix ++ rows_after width x t) (sym (drop_of_length-le fars h)) ∙ was

-- ---- the rows stand in order

abbrev IsLow : ℕ → List PlanRow → Type 0
IsLow least rows = (i : ℕ) (d : PlanRow) → i < length rows → least ≤ (get_or rows i d).far

low_less : (least most : ℕ) (rows : List PlanRow) → least ≤ most → IsLow most rows → IsLow least rows
low_less least most rows l low = λ i d h. let k = low i d h in omega (arith, k, l)

low_one : (least : ℕ) (row : PlanRow) (rows : List PlanRow) → least ≤ row.far → IsLow (row.far + 1) rows → IsLow least (row ∷ rows)
low_one least row rows l low zero d h = l
low_one least row rows l low (suc i) d h = let k = low i d (omega (arith, h)) in omega (arith, k, l)

order_one : (row : PlanRow) (rows : List PlanRow) → IsLow (row.far + 1) rows → AreInOrder rows → AreInOrder (row ∷ rows)
order_one row rows low order zero zero d l h = absurd (omega (arith, l))
order_one row rows low order zero (suc j) d l h = let k = low j d (omega (arith, h)) in omega (arith, k)
order_one row rows low order (suc i) zero d l h = absurd (omega (arith, l))
order_one row rows low order (suc i) (suc j) d l h = order i j d (omega (arith, l)) (omega (arith, h))

low_by : (b : Bool) (least far width n : ℕ) (rest : List PlanRow) → least ≤ far → IsLow (far + 1) rest → IsLow least ((if b then [] else record { far = far; words = counted width n } ∷ []) ++ rest)
low_by true least far width n rest l low = low_less least (far + 1) rest (omega (arith, l)) low
low_by false least far width n rest l low = low_one least (record { far = far; words = counted width n }) rest l low

rows_low : (width x least : ℕ) (fars : List ℕ) → Rises least fars → IsLow least (rows_after width x fars)
rows_low width x least [] r = λ i d h. absurd (omega (arith, h))
rows_low width x least (far ∷ fars) (rise m y ys l r) = low_by (nat_lt (next_number x) least_planned) least far width (next_number x) (rows_after width (next_number x) fars) l (rows_low width (next_number x) (far + 1) fars r)

order_by : (b : Bool) (far width n : ℕ) (rest : List PlanRow) → IsLow (far + 1) rest → AreInOrder rest → AreInOrder ((if b then [] else record { far = far; words = counted width n } ∷ []) ++ rest)
order_by true far width n rest low order = order
order_by false far width n rest low order = order_one (record { far = far; words = counted width n }) rest low order

rows_order : (width x least : ℕ) (fars : List ℕ) → Rises least fars → AreInOrder (rows_after width x fars)
rows_order width x least [] r = λ i j d l h. absurd (omega (arith, h))
rows_order width x least (far ∷ fars) (rise m y ys l r) =
    order_by (nat_lt (next_number x) least_planned) far width (next_number x) (rows_after width (next_number x) fars) (rows_low width (next_number x) (far + 1) fars r) (rows_order width (next_number x) (far + 1) fars r)

pub rows_apart : (part : PartData) (seed : ℕ) → Rises 0 (addresses_in part) → AreApart (plan_of_seed part seed).rows
rows_apart part seed r = λ i j d l h e. let k = rows_order (frame_words part) seed 0 (addresses_in part) r i j d l h in omega (arith, k, e)

-- the plan of rows that stand in order has just these
pub plan_is : (part : PartData) (seed : ℕ) (draft plan : PlanData) → Rises 0 (addresses_in part) → draft.rows ≡ (plan_of_seed part seed).rows → draft.width ≡ frame_words part → plan.width ≡ draft.width
    → IsPermutation draft.rows plan.rows → IsPlan plan → plan ≡ plan_of_seed part seed
plan_is part seed draft plan r e w v same is =
    let permuted : IsPermutation (plan_of_seed part seed).rows plan.rows = subst (λ (t : List PlanRow). IsPermutation t plan.rows) e same in
    let rows : plan.rows ≡ (plan_of_seed part seed).rows = same_order plan.rows (plan_of_seed part seed).rows is.order (rows_order (frame_words part) seed 0 (addresses_in part) r)
    (All-permutation (Contains (plan_of_seed part seed).rows) (plan_of_seed part seed).rows plan.rows permuted (All-contains_itself (plan_of_seed part seed).rows))
    (All-permutation (Contains plan.rows) plan.rows (plan_of_seed part seed).rows (IsPermutation-sym (plan_of_seed part seed).rows plan.rows permuted) (All-contains_itself plan.rows)) in
    ap (λ (n : ℕ). let p : PlanData = record { width = n; rows = plan.rows } in p) (v ∙ w) ∙ ap (λ (t : List PlanRow). let p : PlanData = record { width = frame_words part; rows = t } in p) rows

-- ---- sums

pub sum_more : (m : FrameMap) (rank far total s now all : ℕ) (fars : List ℕ) → rank < length fars → get_or fars rank 0 ≡ far → s ≡ sum (unwrap_or (m far) []) % 2 ^ 32 → now ≡ (total + s) % 2 ^ 32
    → (total + words_sum m (drop rank fars)) % 2 ^ 32 ≡ all → (now + words_sum m (drop (rank + 1) fars)) % 2 ^ 32 ≡ all
sum_more m rank far total s now all fars h e f n was =
    let split : words_sum m (drop rank fars) ≡ sum (unwrap_or (m far) []) + words_sum m (drop (rank + 1) fars) = ap (words_sum m) (rest_at fars rank far h e) in
    omega (arith, f, n, was, split)

pub sum_all : (m : FrameMap) (rank total all : ℕ) (fars : List ℕ) → length fars ≤ rank → total < 2 ^ 32 → (total + words_sum m (drop rank fars)) % 2 ^ 32 ≡ all → total ≡ all
sum_all m rank total all fars h t was =
    let none : words_sum m (drop rank fars) ≡ 0 = ap (words_sum m) (drop_of_length-le fars h) in
    omega (arith, t, was, none)

pub sum_same : (m n : FrameMap) (fars : List ℕ) → HaveSameFrames m n → words_sum m fars ≡ words_sum n fars
sum_same m n [] same = refl
sum_same m n (x ∷ fars) same = ap (λ (o : Option (List ℕ)). sum (unwrap_or o []) + words_sum m fars) (same x) ∙ ap (λ (k : ℕ). sum (unwrap_or (n x) []) + k) (sum_same m n fars same)

-- ---- lines

-- three texts, appended one after the other
pub three_put : (old first second new x y z w : List ℕ) → first ≡ old ++ x → second ≡ first ++ w → w ≡ y → new ≡ second ++ z → new ≡ old ++ (x ++ (y ++ z))
three_put old first second new x y z w p q e r =
    r ∙ ap (λ (t : List ℕ). t ++ z) (q ∙ ap (λ (t : List ℕ). first ++ t) e ∙ ap (λ (t : List ℕ). t ++ y) p) ∙ append_assoc (old ++ x) y z ∙ append_assoc old x (y ++ z)

-- ---- a stream that was played

-- where few words are read out, a player that was given the bytes isn't over
pub sure : (over : Bool) (part : PartData) (bytes : List ℕ) (s : PlayState) → length (reads_of part on_the_bench bytes) ≤ reads_limit → HasPlayedBy over part bytes s → DevicePlayed part bytes s.device s.reads × NoWordDue s.device
sure true part bytes s few h = let many = h.many in absurd (omega (arith, few, many))
sure false part bytes s few h = (h.0, h.1)

-- a full stream reads nothing out
pub few_reads : (part : PartData) (plan : PlanData) (stream : List ℕ) → IsPart part → IsPlan plan → plan.width ≡ frame_words part → AreAddressed part plan.rows → stream ≡ full_stream part plan → length (reads_of part on_the_bench stream) ≤ reads_limit
few_reads part plan stream is p e within s =
    let law = new_law part plan is p e within in
    let none : length (reads_of part on_the_bench []) ≡ 0 = refl in
    let all : length (reads_of part on_the_bench stream) ≡ length (reads_of part on_the_bench (full_stream part plan)) = ap (λ (t : List ℕ). length (reads_of part on_the_bench t)) s in
    omega (arith, none, all, ap length law.reads)

pub summary_is : (p q : PartData) (name : List ℕ) (seed planned size phase total : ℕ) (frames : List (List ℕ)) (stream none text : List ℕ) → name ≡ p.name → p ≡ q → size ≡ length stream → phase ≡ (state_of q on_the_bench false stream).phase
    → total ≡ words_sum (frame_at p frames) (addresses_in p) % 2 ^ 32 → HaveSameFrames (frame_at q frames) (memory_of_bytes q on_the_bench stream) → none ≡ []
    → text ≡ none ++ summary_text name seed (record { planned = planned; size = size; phase = phase; sum = total }) → text ≡ played_summary q seed planned stream
summary_is p q name seed planned size phase total frames stream none text a d s f t same z e =
    let sums : total ≡ words_sum (memory_of_bytes q on_the_bench stream) (addresses_in q) % 2 ^ 32 =
    t ∙ ap (λ (x : PartData). words_sum (frame_at x frames) (addresses_in x) % 2 ^ 32) d ∙ ap (λ (n : ℕ). n % 2 ^ 32) (sum_same (frame_at q frames) (memory_of_bytes q on_the_bench stream) (addresses_in q) same) in
    e ∙ ap (λ (x : List ℕ). x ++ summary_text name seed (record { planned = planned; size = size; phase = phase; sum = total })) z
    ∙ ap (λ (x : List ℕ). summary_text x seed (record { planned = planned; size = size; phase = phase; sum = total })) (a ∙ ap (λ (x : PartData). x.name) d)
    ∙ ap (λ (n : ℕ). summary_text q.name seed (record { planned = planned; size = n; phase = phase; sum = total })) s
    ∙ ap (λ (n : ℕ). summary_text q.name seed (record { planned = planned; size = length stream; phase = n; sum = total })) f
    ∙ ap (λ (n : ℕ). summary_text q.name seed (record { planned = planned; size = length stream; phase = (state_of q on_the_bench false stream).phase; sum = n })) sums

five : (t h a b c s : List ℕ) → ((((t ++ h) ++ a) ++ b) ++ c) ++ s ≡ t ++ ((((h ++ a) ++ b) ++ c) ++ s)
five t h a b c s =
    ap (λ (x : List ℕ). ((x ++ b) ++ c) ++ s) (append_assoc t h a) ∙ ap (λ (x : List ℕ). (x ++ c) ++ s) (append_assoc t (h ++ a) b)
    ∙ ap (λ (x : List ℕ). x ++ s) (append_assoc t ((h ++ a) ++ b) c) ∙ append_assoc t (((h ++ a) ++ b) ++ c) s

pub summary_put : (name : List ℕ) (seed planned size phase total : ℕ) (old first second third fourth last : List ℕ) → first ≡ old ++ gen_line name seed → second ≡ first ++ count_line (codes "planned ") planned → third ≡ second ++ count_line (codes "stream ") size
    → fourth ≡ third ++ count_line (codes "phase ") phase → last ≡ fourth ++ sum_line total → last ≡ old ++ summary_text name seed (record { planned = planned; size = size; phase = phase; sum = total })
unfolding summary_text
summary_put name seed planned size phase total old first second third fourth last a b c d e =
    e ∙ ap (λ (t : List ℕ). t ++ sum_line total) (d ∙ ap (λ (t : List ℕ). t ++ count_line (codes "phase ") phase) (c ∙ ap (λ (t : List ℕ). t ++ count_line (codes "stream ") size) (b ∙ ap (λ (t : List ℕ). t ++ count_line (codes "planned ") planned) a)))
    ∙ five old (gen_line name seed) (count_line (codes "planned ") planned) (count_line (codes "stream ") size) (count_line (codes "phase ") phase) (sum_line total)

pub gen_is : (part : PartData) (seed planned : ℕ) (plan : PlanData) (stream text : List ℕ) → plan ≡ plan_of_seed part seed → planned ≡ length plan.rows → stream ≡ full_stream part plan → text ≡ played_summary part seed planned stream → text ≡ gen_text part seed
unfolding gen_text
gen_is part seed planned plan stream text p n s t =
    t ∙ ap (λ (k : ℕ). played_summary part seed k stream) (n ∙ ap (λ (x : PlanData). length x.rows) p) ∙ ap (played_summary part seed (length (plan_of_seed part seed).rows)) (s ∙ ap (full_stream part) p)

-- a summary by another count of the planned frames
pub planned_as : (part : PartData) (seed n planned : ℕ) (stream text : List ℕ) → text ≡ played_summary part seed n stream → n ≡ planned → text ≡ played_summary part seed planned stream
planned_as part seed n planned stream text t e = t ∙ ap (λ (k : ℕ). played_summary part seed k stream) e

-- ---- what was planned, from the part alone

counted_long : (width n : ℕ) → length (counted width n) ≡ width
counted_long width n = length-map (range_with_len 0 width) (λ i. (n + i) % 2 ^ 32) ∙ length-range_with_len 0 width

counted_fits : (width n : ℕ) → AreWords (counted width n)
counted_fits width n = words_by_place (counted width n) (λ i h.
    let long = length-map (range_with_len 0 width) (λ i. (n + i) % 2 ^ 32) in
    let at = get_or-map (λ i. (n + i) % 2 ^ 32) (range_with_len 0 width) i 0 0 (omega (arith, h, long)) in
    omega (arith, at))

each_by : (b : Bool) (P : PlanRow → Type 0) (row : PlanRow) (rest : List PlanRow) → P row → All P rest → All P ((if b then [] else row ∷ []) ++ rest)
each_by true P row rest p all = all
each_by false P row rest p all = All-cons P row rest p all

rows_each : (P : PlanRow → Type 0) (width x : ℕ) (fars : List ℕ) → All (λ far. (n : ℕ) → P record { far = far; words = counted width n }) fars → All P (rows_after width x fars)
rows_each P width x [] all = All-nil P
rows_each P width x (far ∷ fars) all =
    each_by (nat_lt (next_number x) least_planned) P record { far = far; words = counted width (next_number x) } (rows_after width (next_number x) fars)
    (All-head (λ (a : ℕ). (n : ℕ) → P record { far = a; words = counted width n }) far fars all (next_number x))
    (rows_each P width (next_number x) fars (All-tail (λ (a : ℕ). (n : ℕ) → P record { far = a; words = counted width n }) far fars all))

plan_of_seed_is_plan : (part : PartData) (seed : ℕ) → IsPart part → IsPlan (plan_of_seed part seed)
plan_of_seed_is_plan part seed is = record {
  order = rows_order (frame_words part) seed 0 (addresses_in part) (part_rises part.field_widths part.rows is.field_widths is.rows);
  width = rows_each (λ row. length row.words ≡ frame_words part) (frame_words part) seed (addresses_in part) (λ i d h n. counted_long (frame_words part) n);
  each = rows_each IsPlanRow (frame_words part) seed (addresses_in part)
      (λ i d h n. record { far = address_small part (get_or (addresses_in part) i d) is (All-contains_itself (addresses_in part) i d h); words = counted_fits (frame_words part) n });
}

pub plan_of_seed_is_addressed : (part : PartData) (seed : ℕ) → AreAddressed part (plan_of_seed part seed).rows
plan_of_seed_is_addressed part seed =
    rows_each (λ row. Contains (addresses_in part) row.far) (frame_words part) seed (addresses_in part) (λ i d h n. All-contains_itself (addresses_in part) i d h)

-- the full stream of a seed's plan, played on a new device
pub plan_of_seed_plays : (part : PartData) (seed : ℕ) → IsPart part → PlaysFull (device_after part on_the_bench []) (full_stream part (plan_of_seed part seed)) (plan_of_seed part seed)
plan_of_seed_plays part seed is = new_law part (plan_of_seed part seed) is (plan_of_seed_is_plan part seed is) refl (plan_of_seed_is_addressed part seed)

-- the full stream of a seed's plan leaves the plan over zeros, and phase 7
pub planned_is : (part : PartData) (seed : ℕ) (text : List ℕ) → IsPart part → text ≡ gen_text part seed → text ≡ planned_summary part seed
unfolding gen_text
planned_is part seed text is e =
    let plan = plan_of_seed part seed in
    let stream = full_stream part plan in
    let sums = words_sum (memory_of_bytes part on_the_bench stream) (addresses_in part) % 2 ^ 32 in
    let law = new_law part plan is (plan_of_seed_is_plan part seed is) refl (plan_of_seed_is_addressed part seed) in
    e ∙ ap (λ (n : ℕ). summary_text part.name seed (record { planned = length plan.rows; size = length stream; phase = n; sum = sums })) (law.phase false)
    ∙ ap (λ (n : ℕ). summary_text part.name seed (record { planned = length plan.rows; size = length stream; phase = 7; sum = n % 2 ^ 32 })) (sum_same (memory_of_bytes part on_the_bench stream) (total part plan) (addresses_in part) law.memory)

-- ---- a stream that is played while it is written

-- what was given of the full stream of a plan was played, and no piece waits
pub record PlaysAlong (part : PartData) (plan : PlanData) (stream : FullStreamState) (player : Player) (size : ℕ) (block : List ℕ) : Type 0 where
  pub known : List ℕ
  pub stands : HasGiven stream known
  pub played : HasPlayed part known player
  pub counted : size ≡ length known
  pub empty : block ≡ []
  pub of_part : stream.part ≡ part
  pub of_plan : stream.plan ≡ plan

-- what was given of a full stream is no longer than a stream may be
known_few : (part : PartData) (plan : PlanData) (stream : FullStreamState) (known : List ℕ) → IsPart part → IsPlan plan → plan.width ≡ frame_words part → stream.part ≡ part → stream.plan ≡ plan → HasGiven stream known → length known ≤ 2 ^ 27
known_few part plan stream known is p e a b h =
    let whole : known ++ h.left ≡ full_stream part plan = h.whole ∙ ap (λ (x : PartData). full_stream x stream.plan) a ∙ ap (full_stream part) b in
    let size : length known + length h.left ≡ 4 * (55 + frame_words part * length (slots_in part)) = sym (length-append known h.left) ∙ ap length (whole ∙ full_same part plan is p e) ∙ full_length part plan p e in
    let slots : frame_words part * length (slots_in part) ≡ frame_words part * (length (addresses_in part) + pads_after_row * length part.rows) = ap (λ (k : ℕ). frame_words part * k) (slots_number part) in
    omega (arith, size, slots, is.slots)

module _ (part : PartData) (plan : PlanData) (stream later : FullStreamState) (player : Player) (size : ℕ) (block new : List ℕ) (v : PlaysAlong part plan stream player size block) (m : AppendsNext later v.known block new) where
  piece_is : new ≡ m.piece
  piece_is = m.adds ∙ ap (λ (t : List ℕ). t ++ m.piece) v.empty

  -- a piece more is within what a device counts
  pub piece_fits : IsPart part → IsPlan plan → plan.width ≡ frame_words part → later.part ≡ stream.part → later.plan ≡ stream.plan → length v.known + length new ≤ 2 ^ 27
  piece_fits is p e a b =
      let few : length (v.known ++ m.piece) ≤ 2 ^ 27 = known_few part plan later (v.known ++ m.piece) is p e (a ∙ v.of_part) (b ∙ v.of_plan) m.more in
      omega (arith, few, length-append v.known m.piece, ap length piece_is)

  -- a piece more is played
  pub along : (next : Player) (total : ℕ) (given after : List ℕ) → later.part ≡ stream.part → later.plan ≡ stream.plan → given ≡ new → PlaysOn player next given → total ≡ size + length new → after ≡ [] → PlaysAlong part plan later next total after
  along next total given after a b g on t e = record {
    known = v.known ++ m.piece;
    stands = m.more;
    played = subst (λ (x : List ℕ). HasPlayed part (v.known ++ x) next) (g ∙ piece_is) (on part v.known v.played);
    counted = omega (arith, t, v.counted, length-append v.known m.piece, ap length piece_is);
    empty = e;
    of_part = a ∙ v.of_part;
    of_plan = b ∙ v.of_plan;
  }
