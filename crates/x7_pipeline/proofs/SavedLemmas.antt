-- Taking back: a frame put over a map that differs from another one at its address alone.
use Rattle.std.proofs.Common.{◌≡◌, ℕ, ◌+◌, ◌-◌, ◌++◌, ◌==◌, eq-eqb, ne_eqb, inl, inr, Bool, true, false, List, [], ◌∷◌, length, ◌&&◌, get_or, is_some, Contains, IfSome, Option, Some, None, refl, sym, ap, ◌∙◌, arith, if◌then◌else◌}
use Rattle.std.proofs.lemmas.Bool.{cases_eq}
use Rattle.std.proofs.lemmas.List.{append_cancel_right}
use Rattle.std.proofs.lemmas.Option.{none-some}
use Rattle.std.specs.Option.{option_or}
use Rattle.x7_part.specs.Part.{PartData, frame_words}
use Rattle.x7_part.specs.AddressOrder.{addresses_in}
use Rattle.x7_part.specs.Slot.{slots_from}
use Rattle.x7_part.specs.declared.slot.Slot.{Slot}
use Rattle.x7_part.specs.declared.slot.Slot.TheVariants.{Frame, Pad, End}
use Rattle.x7_memory.specs.FrameMap.{FrameMap, HaveSameFrames}
use Rattle.x7_memory.specs.PartFrames.{AreFramesOf, frame_among, frame_at}
use Rattle.x7_memory.specs.Plan.{PlanRow, planned}
use Rattle.x7_memory.proofs.MapLemmas.{override_one}
use Rattle.x7_pipeline.specs.Runs.{at_slot, older_frames, frames_of, in_slots, written_frames, put_over, rest_of, Lands}
use Rattle.x7_regs.specs.declared.command.Command.{Command}
use Rattle.x7_pipeline.specs.declared.fault.RunFault.TheVariants.{Address, Multi}
use Rattle.x7_pipeline.specs.FarAsRead.{is_frame_address}
use Rattle.x7_pipeline.specs.Fault.{address_fault, copy_fault}
use Rattle.x7_pipeline.specs.Pipeline.{PipelineData}
use Rattle.x7_pipeline.proofs.FlowLemmas.{StandsFor}
use Rattle.x7_pipeline.specs.Copies.{copied_pairs, is_mfw}
use Rattle.x7_pipeline.specs.Saved.{ChangesAt, address_at_slot, next_put, pair_at, pair_seen, pair_of_frame, may_copy}
use Rattle.x7_pipeline.proofs.SlotLemmas.{slot_address}
use Rattle.x7_pipeline.proofs.RunLemmas.{frames_completes, frames_goes_on}
use Rattle.x7_pipeline.proofs.StateLemmas.{at_slot_more}

-- ---- the pair

-- a slot's address is one of the part
pub slot_named : (part : PartData) (base n : ℕ) (slot : Slot) (at : Option ℕ) → slot ≡ get_or (slots_from part base) n End → at ≡ address_at_slot slot → IfSome at (Contains (addresses_in part))
slot_named part base n (Frame far) at s e = rw e (slot_address part base n far s)
slot_named part base n Pad at s e = rw e tt
slot_named part base n End at s e = rw e tt

-- the pair is put, where there is one
pub pair_put : (has : Bool) (far : ℕ) (words frame : List ℕ) (pair : List PlanRow) (old new : FrameMap) → pair_seen has far words ≡ pair → has ≡ true → frame ≡ words → ((a : ℕ) → new a ≡ (if a == far then Some frame else old a)) → HaveSameFrames new (put_over pair old)
unfolding planned
pair_put has far words frame pair old new e h f n = rw (← e, h, ← f) (override_one old new far frame n)

pub pair_none : (has : Bool) (far : ℕ) (words : List ℕ) (pair : List PlanRow) (m : FrameMap) → pair_seen has far words ≡ pair → has ≡ false → HaveSameFrames m (put_over pair m)
unfolding planned
pair_none has far words pair m e h = rw (← e, h) (λ a. refl)

-- ---- changes at one address

pub changes_none : (at : Option ℕ) (old new : FrameMap) → HaveSameFrames new old → ChangesAt at old new
changes_none at old new s = λ far apart. s far

pub changes_slot : (slot : Slot) (frame : List ℕ) (old new : FrameMap) → HaveSameFrames new (put_over (at_slot slot frame []) old) → ChangesAt (address_at_slot slot) old new
unfolding planned
changes_slot (Frame at) frame old new s = λ far apart. s far ∙ ap (λ (b : Bool). option_or (if b then Some frame else None) (old far)) (ne_eqb far at (λ e. apart (ap Some (sym e))))
changes_slot Pad frame old new s = λ far apart. s far
changes_slot End frame old new s = λ far apart. s far

pub changes_copy : (base : ℕ) (source : Option (List ℕ)) (old new : FrameMap) → HaveSameFrames new (put_over (copied_pairs base source) old) → ChangesAt (Some base) old new
unfolding planned
changes_copy base None old new s = λ far apart. s far
changes_copy base (Some frame) old new s = λ far apart. s far ∙ ap (λ (b : Bool). option_or (if b then Some frame else None) (old far)) (ne_eqb far base (λ e. apart (ap Some (sym e))))

-- ---- taking them back

-- frames of one part are there at the same addresses
none_both : (a : ℕ) (fars : List ℕ) (old new : List (List ℕ)) → length old ≡ length fars → length new ≡ length fars → frame_among fars old a ≡ None → frame_among fars new a ≡ None
unfolding frame_among
none_both a [] old new e f n = refl
none_both a (x ∷ fars) [] new e f n = absurd (omega (arith, e))
none_both a (x ∷ fars) (w ∷ old) [] e f n = absurd (omega (arith, f))
none_both a (x ∷ fars) (w ∷ old) (v ∷ new) e f n = by (a == x) n (none_both a fars old new (omega (arith, e)) (omega (arith, f)))
  where
    by : (b : Bool) → (if b then Some w else frame_among fars old a) ≡ None → (frame_among fars old a ≡ None → frame_among fars new a ≡ None) → (if b then Some v else frame_among fars new a) ≡ None
    by true q later = absurd (none-some w (sym q))
    by false q later = later q

pub taken_back : (part : PartData) (at : Option ℕ) (old new : List (List ℕ)) → AreFramesOf part old → AreFramesOf part new → ChangesAt at (frame_at part old) (frame_at part new)
    → HaveSameFrames (put_over (pair_at (frame_at part old) at) (frame_at part new)) (frame_at part old)
unfolding planned
taken_back part None old new o n c = λ far. c far (λ e. none-some far e)
taken_back part (Some a) old new o n c = λ far. by far (frame_at part old a) refl
  where
    other : (far : ℕ) → (far ≡ a → ⊥) → frame_at part new far ≡ frame_at part old far
    other far apart = c far (λ e. let same : a ≡ far = cc in apart (sym same))

    by : (far : ℕ) (f : Option (List ℕ)) → frame_at part old a ≡ f → put_over (pair_of_frame a f) (frame_at part new) far ≡ frame_at part old far
    by far None e = elim (cases_eq far a) [
      | inl same ↦
          let here : frame_at part old far ≡ None = ap (frame_at part old) same ∙ e in
          none_both far (addresses_in part) old new o.count n.count here ∙ sym here
      | inr apart ↦ other far apart
    ]
    by far (Some w) e = elim (cases_eq far a) [
      | inl same ↦ ap (λ (b : Bool). option_or (if b then Some w else None) (frame_at part new far)) (eq-eqb far a same) ∙ sym (ap (frame_at part old) same ∙ e)
      | inr apart ↦ ap (λ (b : Bool). option_or (if b then Some w else None) (frame_at part new far)) (ne_eqb far a apart) ∙ other far apart
    ]

-- a copy that isn't refused puts a frame at the address that `next_put` gives
copy_at : (part : PartData) (p : PipelineData) (m s b : Bool) → is_mfw p.command ≡ m → is_some p.source ≡ s → is_frame_address part p.base ≡ b → (if m && s then (if b then None else Some (Address p.base)) else Some Multi) ≡ None
    → next_put part p ≡ Some p.base
copy_at part p true true true e f g q = rw (e, f, g) refl
copy_at part p true true false e f g q = absurd (none-some _ (sym q))
copy_at part p true false b e f g q = absurd (none-some _ (sym q))
copy_at part p false s b e f g q = absurd (none-some _ (sym q))

pub copy_changes : (part : PartData) (p : PipelineData) (command : Command) (base : ℕ) (run : List ℕ) (source : Option (List ℕ)) (given : ℕ) (old new : FrameMap) → StandsFor part p command base run source given
    → copy_fault part command base source ≡ None → HaveSameFrames new (put_over (copied_pairs base source) old) → ChangesAt (next_put part p) old new
unfolding copy_fault address_fault
copy_changes part p command base run source given old new s f same =
    let at : next_put part p ≡ Some base = copy_at part p (is_mfw command) (is_some source) (is_frame_address part base) (ap is_mfw s.command_is) (ap is_some s.source_is) (ap (is_frame_address part) s.base_is) (rw s.base_is f) ∙ ap Some s.base_is in
    rw at (changes_copy base source old new same)

-- ---- a word

-- a word that lands nothing more changes nothing
lands_none : (part : PartData) (base : ℕ) (run longer : List ℕ) (old new : FrameMap) → written_frames part base longer ≡ written_frames part base run → Lands part base run longer old new → HaveSameFrames new old
unfolding planned
lands_none part base run longer old new same l = λ far.
    let none : l.added ≡ [] = append_cancel_right l.added [] (written_frames part base run) (sym l.grows ∙ same) in
    l.memory far ∙ ap (λ (ps : List PlanRow). put_over ps old far) none

-- where a longer run has written all whole frames of a run, the memory changed at the newest one's slot at most
lands_newest : (part : PartData) (base : ℕ) (run longer : List ℕ) (frames : List (List ℕ)) (n : ℕ) (old new : FrameMap) → frames_of (frame_words part) run ≡ frames → n ≡ length frames
    → written_frames part base longer ≡ in_slots (slots_from part base) frames → Lands part base run longer old new → ChangesAt (address_at_slot (if n == 0 then Pad else get_or (slots_from part base) (n - 1) End)) old new
unfolding written_frames in_slots
lands_newest part base run longer [] n old new e count now l =
    let same : written_frames part base longer ≡ written_frames part base run = now ∙ ap (λ (fs : List (List ℕ)). in_slots (slots_from part base) (older_frames fs)) (sym e) in
    rw count (changes_none None old new (lands_none part base run longer old new same l))
lands_newest part base run longer (frame ∷ older) n old new e count now l =
    let slot : Slot = get_or (slots_from part base) (length older) End in
    let before : written_frames part base run ≡ in_slots (slots_from part base) older = ap (λ (fs : List (List ℕ)). in_slots (slots_from part base) (older_frames fs)) e in
    let added : l.added ≡ at_slot slot frame [] =
    append_cancel_right l.added (at_slot slot frame []) (written_frames part base run)
    (sym l.grows ∙ now ∙ at_slot_more slot frame (in_slots (slots_from part base) older) ∙ ap (λ (ps : List PlanRow). at_slot slot frame [] ++ ps) (sym before)) in
    let some : (n == 0) ≡ false = ne_eqb n 0 (λ z. omega (arith, count, z)) in
    let one : n - 1 ≡ length older = omega (arith, count) in
    rw (some, one) (changes_slot slot frame old new (λ far. l.memory far ∙ ap (λ (ps : List PlanRow). put_over ps old far) added))

-- a word changes the address where the next word would put a frame, and no other one
pub word_changes : (part : PartData) (p : PipelineData) (command : Command) (base : ℕ) (run : List ℕ) (source : Option (List ℕ)) (given word : ℕ) (old new : FrameMap) → StandsFor part p command base run source given
    → is_mfw command ≡ false → Lands part base run (word ∷ run) old new → ChangesAt (next_put part p) old new
unfolding written_frames
word_changes part p command base run source given word old new s words l =
    let mfw : is_mfw p.command ≡ false = ap is_mfw s.command_is ∙ words in
    let copies : may_copy p ≡ false = rw mfw refl in
    let rest : length p.rest + 1 ≡ length (rest_of (frame_words part) run) + 1 = ap (λ (r : List ℕ). length r + 1) s.rest_is in
    elim (cases_eq (length p.rest + 1) p.width) [
      | inl e ↦
          let full : length (rest_of (frame_words part) run) + 1 ≡ frame_words part = sym rest ∙ e ∙ s.width_is in
          rw (copies, eq-eqb (length p.rest + 1) p.width e, s.base_is)
          (lands_newest part base run (word ∷ run) (frames_of (frame_words part) run) p.frame_count old new refl s.count_is
          (ap (λ (fs : List (List ℕ)). in_slots (slots_from part base) (older_frames fs)) (frames_completes (frame_words part) word run full)) l)
      | inr n ↦
          let inside : length (rest_of (frame_words part) run) + 1 ≡ frame_words part → ⊥ = λ e. n (rest ∙ e ∙ sym s.width_is) in
          rw (copies, ne_eqb (length p.rest + 1) p.width n)
          (changes_none None old new
          (lands_none part base run (word ∷ run) old new (ap (λ (fs : List (List ℕ)). in_slots (slots_from part base) (older_frames fs)) (frames_goes_on (frame_words part) word run inside)) l))
    ]
