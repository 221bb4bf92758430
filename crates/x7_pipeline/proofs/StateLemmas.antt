-- What a pipeline stands for after each call.
use Rattle.std.proofs.Common.{◌≡◌, ℕ, ◌+◌, ◌-◌, ◌*◌, ◌/◌, ◌%◌, ◌^◌, ◌<◌, ◌≤◌, ◌==◌, ◌&&◌, not, nat_le, eq-eqb, ne_eqb, inl, inr, Bool, true, false, List, [], ◌∷◌, ◌++◌, length, get_or, min, max, Option, Some, None, is_some, refl, sym, ap, ◌∙◌, arith, if◌then◌else◌}
use Rattle.std.proofs.lemmas.Bool.{cases_eq, ltb-true, le-leb, lt-leb, and_left, and_right, false≢true}
use Rattle.std.proofs.lemmas.Option.{none-some, same_Some}
use Rattle.x7_part.specs.Part.{PartData, frame_words}
use Rattle.std.proofs.Math.Nat.{mul-le-mul_right}
use Rattle.x7_part.specs.Address.{far_width}
use Rattle.x7_part.specs.Limits.{most_frame_words}
use Rattle.x7_part.specs.Ranges.{IsPart}
use Rattle.x7_part.specs.Slot.{slots_from}
use Rattle.x7_part.specs.declared.slot.Slot.{Slot}
use Rattle.x7_part.specs.declared.slot.Slot.TheVariants.{Frame, Pad, End}
use Rattle.x7_memory.specs.FrameMap.{FrameMap, HaveSameFrames}
use Rattle.x7_memory.specs.Plan.{PlanRow, planned}
use Rattle.x7_memory.proofs.MapLemmas.{override_one}
use Rattle.x7_regs.specs.declared.command.Command.{Command}
use Rattle.x7_pipeline.specs.declared.fault.RunFault.TheVariants.{Address, Overrun, Multi}
use Rattle.x7_pipeline.specs.Runs.{rest_of, frames_of, at_slot, in_slots, older_frames, written_frames, put_over, Lands}
use Rattle.x7_pipeline.specs.FarAsRead.{is_frame_address, far_at, far_of}
use Rattle.x7_pipeline.specs.Copies.{is_mfw, newest_of, source_with, source_after, copied_pairs}
use Rattle.x7_pipeline.specs.Readback.{word_at, read_slot, readback_at, readback_end, given_stored}
use Rattle.x7_pipeline.specs.Fault.{address_fault, completes, has_filled, write_fault, copy_fault, readback_fault, drop_fault}
use Rattle.x7_pipeline.specs.Pipeline.{PipelineData}
use Rattle.x7_pipeline.proofs.FlowLemmas.{StandsFor}
use Rattle.x7_pipeline.proofs.RunLemmas.{rest_goes_on, frames_goes_on, rest_completes, frames_completes, some_words}
use Rattle.x7_pipeline.proofs.SlotLemmas.{few_slots}
use Rattle.x7_pipeline.proofs.FarLemmas.{far_stored}
use Rattle.x7_pipeline.proofs.ReadLemmas.{first_slot, none_given, passed, read_stored, stands_still, goes_up, same_slot}

-- ---- a run that begins

-- nothing was written and nothing was read
pub begins : (part : PartData) (p : PipelineData) (command : Command) (base : ℕ) (source : Option (List ℕ)) → 0 < p.width → p.width ≡ frame_words part → p.far_width ≡ far_width part → p.command ≡ command → p.base ≡ base → p.rest ≡ [] →
    p.newest ≡ None → p.frame_count ≡ 0 → p.source ≡ source → p.given ≡ 0 → p.slot ≡ Pad → StandsFor part p command base [] source 0
unfolding rest_of frames_of
begins part p command base source some w v c b r n f s g t =
    record { some_words = some; width_is = w; far_width_is = v; command_is = c; base_is = b; rest_is = r; newest_is = n; count_is = f; within = omega arith; source_is = s; given_is = g ∙ omega arith; slot_is = t ∙ first_slot part base (omega arith) }

-- the source that it has after a command
pub source_so : (part : PartData) (p : PipelineData) (old new : Command) (base : ℕ) (run : List ℕ) (source : Option (List ℕ)) (given : ℕ) → StandsFor part p old base run source given →
    source_with p.command new p.newest ≡ source_after part old new run
unfolding source_after
source_so part p old new base run source given s = rw (s.command_is, s.newest_is) refl

-- a run that begins at another base
pub begins_at : (part : PartData) (p q : PipelineData) (command : Command) (base : ℕ) (run : List ℕ) (source : Option (List ℕ)) (given at : ℕ) → StandsFor part p command base run source given →
    q ≡ record p { base = at; rest = []; newest = None; frame_count = 0; given = 0; slot = Pad } → StandsFor part q command at [] source 0
begins_at part p q command base run source given at s e =
    rw e (begins part (record p { base = at; rest = []; newest = None; frame_count = 0; given = 0; slot = Pad }) command at source s.some_words s.width_is s.far_width_is s.command_is refl refl refl refl s.source_is refl refl)

-- a run that begins at FAR as read, under another command, with the source that this leaves
pub begins_under : (part : PartData) (p q : PipelineData) (old new : Command) (base : ℕ) (run : List ℕ) (source : Option (List ℕ)) (given at : ℕ) → StandsFor part p old base run source given →
    q ≡ record p { command = new; base = at; rest = []; newest = None; frame_count = 0; source = source_with p.command new p.newest; given = 0; slot = Pad } →
    at ≡ far_of part base run given → StandsFor part q new (far_of part base run given) [] (source_after part old new run) 0
begins_under part p q old new base run source given at s e f =
    rw e (begins part (record p { command = new; base = at; rest = []; newest = None; frame_count = 0; source = source_with p.command new p.newest; given = 0; slot = Pad }) new (far_of part base run given) (source_after part old new run)
    s.some_words s.width_is s.far_width_is refl f refl refl refl (source_so part p old new base run source given s) refl refl)

-- FAR as read of what it stands for
pub far_so : (part : PartData) (p : PipelineData) (command : Command) (base : ℕ) (run : List ℕ) (source : Option (List ℕ)) (given : ℕ) → StandsFor part p command base run source given → 0 < p.width →
    far_at part p.base (max p.frame_count (p.given / p.width) - 1) ≡ far_of part base run given
unfolding far_of readback_end
far_so part p command base run source given s some =
    rw (s.base_is, s.count_is, s.given_is, s.width_is) (far_stored part base (length (frames_of (frame_words part) run)) given (frame_words part) (omega arith))

-- ---- one word more

pub goes_on : (part : PartData) (p q : PipelineData) (w : ℕ) (command : Command) (base : ℕ) (run : List ℕ) (source : Option (List ℕ)) (given : ℕ) → StandsFor part p command base run source given →
    length p.rest + 1 < p.width → q ≡ record p { rest = p.rest ++ w ∷ [] } → StandsFor part q command base (w ∷ run) source given
goes_on part p q w command base run source given s short e =
    let rest = s.rest_is in let width = s.width_is in
    let inside : length (rest_of (frame_words part) run) + 1 ≡ frame_words part → ⊥ = λ same. (let long = ap length rest in absurd (omega arith)) in
    let r = rest_goes_on (frame_words part) w run inside in
    let f = frames_goes_on (frame_words part) w run inside in
    rw e (record {
      some_words = s.some_words;
      width_is = s.width_is;
      far_width_is = s.far_width_is;
      command_is = s.command_is;
      base_is = s.base_is;
      rest_is = ap (λ t. t ++ w ∷ []) s.rest_is ∙ sym r;
      newest_is = s.newest_is ∙ ap newest_of (sym f);
      count_is = s.count_is ∙ ap length (sym f);
      within = (let same = ap length f in let few = s.within in omega arith);
      source_is = s.source_is;
      given_is = s.given_is;
      slot_is = s.slot_is;
    })

pub completes_frame : (part : PartData) (p q : PipelineData) (w : ℕ) (command : Command) (base : ℕ) (run : List ℕ) (source : Option (List ℕ)) (given : ℕ) → StandsFor part p command base run source given →
    length p.rest + 1 ≡ p.width → p.frame_count < length (slots_from part base) →
    q ≡ record p { rest = []; newest = Some (p.rest ++ w ∷ []); frame_count = p.frame_count + 1 } → StandsFor part q command base (w ∷ run) source given
completes_frame part p q w command base run source given s whole low e =
    let rest = s.rest_is in let width = s.width_is in
    let full : length (rest_of (frame_words part) run) + 1 ≡ frame_words part = (let long = ap length rest in omega arith) in
    let r = rest_completes (frame_words part) w run full in
    let f = frames_completes (frame_words part) w run full in
    let count = s.count_is in
    rw e (record {
      some_words = s.some_words;
      width_is = s.width_is;
      far_width_is = s.far_width_is;
      command_is = s.command_is;
      base_is = s.base_is;
      rest_is = sym r;
      newest_is = ap (λ t. Some (t ++ w ∷ [])) s.rest_is ∙ ap newest_of (sym f);
      count_is = (let more = ap length f in omega arith);
      within = (let more = ap length f in omega arith);
      source_is = s.source_is;
      given_is = s.given_is;
      slot_is = s.slot_is;
    })

-- ---- what the memory gets

same_lands : (part : PartData) (base : ℕ) (run longer : List ℕ) (old new : FrameMap) → written_frames part base longer ≡ written_frames part base run → HaveSameFrames new old → Lands part base run longer old new
unfolding planned
same_lands part base run longer old new e same = record { added = []; grows = e; memory = same }

-- a word within a frame puts nothing
pub lands_nothing : (part : PartData) (p : PipelineData) (w : ℕ) (command : Command) (base : ℕ) (run : List ℕ) (source : Option (List ℕ)) (given : ℕ) (old new : FrameMap) → StandsFor part p command base run source given →
    length p.rest + 1 < p.width → HaveSameFrames new old → Lands part base run (w ∷ run) old new
unfolding written_frames
lands_nothing part p w command base run source given old new s short same =
    let rest = s.rest_is in let width = s.width_is in
    let inside : length (rest_of (frame_words part) run) + 1 ≡ frame_words part → ⊥ = λ same. (let long = ap length rest in absurd (omega arith)) in
    same_lands part base run (w ∷ run) old new (ap (λ frames. in_slots (slots_from part base) (older_frames frames)) (frames_goes_on (frame_words part) w run inside)) same

pub at_slot_more : (slot : Slot) (words : List ℕ) (pairs : List PlanRow) → at_slot slot words pairs ≡ at_slot slot words [] ++ pairs
at_slot_more (Frame far) words pairs = refl
at_slot_more Pad words pairs = refl
at_slot_more End words pairs = refl

-- a longer run that has written all whole frames of a run lands just the newest of them
lands_by : (part : PartData) (base : ℕ) (run longer : List ℕ) (frames : List (List ℕ)) (old new : FrameMap) → frames_of (frame_words part) run ≡ frames →
    written_frames part base longer ≡ in_slots (slots_from part base) frames → (newest_of frames ≡ None → HaveSameFrames new old) →
    ((frame : List ℕ) → newest_of frames ≡ Some frame → HaveSameFrames new (put_over (at_slot (get_or (slots_from part base) (length frames - 1) End) frame []) old)) → Lands part base run longer old new
unfolding written_frames in_slots
lands_by part base run longer [] old new e now none some =
    same_lands part base run longer old new (now ∙ ap (λ frames. in_slots (slots_from part base) (older_frames frames)) (sym e)) (none refl)
lands_by part base run longer (frame ∷ older) old new e now none some =
    let before : written_frames part base run ≡ in_slots (slots_from part base) older = ap (λ frames. in_slots (slots_from part base) (older_frames frames)) e in
    let place : length (frame ∷ older) - 1 ≡ length older = omega arith in
    record {
      added = at_slot (get_or (slots_from part base) (length (frame ∷ older) - 1) End) frame [];
      grows = now ∙ ap (λ i. at_slot (get_or (slots_from part base) i End) frame (in_slots (slots_from part base) older)) (sym place)
          ∙ at_slot_more (get_or (slots_from part base) (length (frame ∷ older) - 1) End) frame (in_slots (slots_from part base) older)
          ∙ ap (λ t. at_slot (get_or (slots_from part base) (length (frame ∷ older) - 1) End) frame [] ++ t) (sym before);
      memory = some frame refl;
    }

-- a word that completes a frame puts the one before it
pub lands_frame : (part : PartData) (p : PipelineData) (w : ℕ) (command : Command) (base : ℕ) (run : List ℕ) (source : Option (List ℕ)) (given : ℕ) (old new : FrameMap) → StandsFor part p command base run source given →
    length p.rest + 1 ≡ p.width → (p.newest ≡ None → HaveSameFrames new old) →
    ((frame : List ℕ) → p.newest ≡ Some frame → HaveSameFrames new (put_over (at_slot (get_or (slots_from part p.base) (p.frame_count - 1) End) frame []) old)) → Lands part base run (w ∷ run) old new
unfolding written_frames
lands_frame part p w command base run source given old new s whole none some =
    let rest = s.rest_is in let width = s.width_is in
    let full : length (rest_of (frame_words part) run) + 1 ≡ frame_words part = (let long = ap length rest in omega arith) in
    lands_by part base run (w ∷ run) (frames_of (frame_words part) run) old new refl
    (ap (λ frames. in_slots (slots_from part base) (older_frames frames)) (frames_completes (frame_words part) w run full))
    (λ e. none (s.newest_is ∙ e))
    (λ frame e. rw (← s.base_is, ← s.count_is) (some frame (s.newest_is ∙ e)))

-- ---- one frame put

-- nothing put leaves the memory
pub put_nothing : (old new : FrameMap) → HaveSameFrames new old → HaveSameFrames new (put_over [] old)
unfolding planned
put_nothing old new same = same

-- the frame of a slot put at its address
pub put_frame : (slot : Slot) (far : ℕ) (frame : List ℕ) (old new : FrameMap) → Frame far ≡ slot → ((a : ℕ) → new a ≡ (if a == far then Some frame else old a)) → HaveSameFrames new (put_over (at_slot slot frame []) old)
unfolding planned
put_frame slot far frame old new e put = rw (← e) (override_one old new far frame put)

-- at a slot of no frame nothing is put
pub put_no_frame : (slot : Slot) (frame : List ℕ) (old new : FrameMap) → ((far : ℕ) → slot ≡ Frame far → ⊥) → HaveSameFrames new old → HaveSameFrames new (put_over (at_slot slot frame []) old)
put_no_frame (Frame far) frame old new none same = absurd (none far refl)
put_no_frame Pad frame old new none same = put_nothing old new same
put_no_frame End frame old new none same = put_nothing old new same

-- a copy puts the source at the base
pub put_copy : (base at : ℕ) (source : Option (List ℕ)) (frame : List ℕ) (old new : FrameMap) → at ≡ base → source ≡ Some frame → ((a : ℕ) → new a ≡ (if a == at then Some frame else old a)) → HaveSameFrames new (put_over (copied_pairs base source) old)
unfolding planned
put_copy base at source frame old new b e put = rw (e, ← b) (override_one old new at frame put)

-- ---- faults

-- a base that is no address is refused
pub address_refused : (part : PartData) (base : ℕ) → is_frame_address part base ≡ false → Some (Address base) ≡ address_fault part base
unfolding address_fault
address_refused part base f = rw f refl

pub address_allowed : (part : PartData) (base : ℕ) → is_frame_address part base ≡ true → None ≡ address_fault part base
unfolding address_fault
address_allowed part base t = rw t refl

-- nothing was written yet
run_is_empty : (part : PartData) (p : PipelineData) (command : Command) (base : ℕ) (run : List ℕ) (source : Option (List ℕ)) (given : ℕ) → StandsFor part p command base run source given →
    p.frame_count ≡ 0 → length p.rest ≡ 0 → run ≡ []
run_is_empty part p command base [] source given s none_whole no_rest = refl
run_is_empty part p command base (w ∷ run) source given s none_whole no_rest =
    absurd (some_words (frame_words part) w run (sym (ap length s.rest_is) ∙ no_rest) (sym s.count_is ∙ none_whole))

-- a run's first word, and a base that is no address
pub nowhere : (x y b : Bool) → (x && y && not b) ≡ true → (x ≡ true) × (y ≡ true) × (b ≡ false)
nowhere true true true e = absurd (false≢true e)
nowhere true true false e = (refl, refl, refl)
nowhere true false b e = absurd (false≢true e)
nowhere false y b e = absurd (false≢true e)

pub somewhere : (x y b : Bool) → (x && y && not b) ≡ false → x ≡ true → y ≡ true → b ≡ true
somewhere x y true e p q = refl
somewhere x y false e p q = absurd (false≢true (sym e ∙ rw (p, q) refl))

pub write_refused : (part : PartData) (p : PipelineData) (command : Command) (base : ℕ) (run : List ℕ) (source : Option (List ℕ)) (given : ℕ) → StandsFor part p command base run source given →
    p.frame_count ≡ 0 → length p.rest ≡ 0 → is_frame_address part p.base ≡ false → Some (Address p.base) ≡ write_fault part base run
unfolding write_fault
write_refused part p command base run source given s none_whole no_rest f =
    rw (s.base_is, run_is_empty part p command base run source given s none_whole no_rest) (address_refused part base (rw s.base_is at f))

-- what lets a word pass: an address, or words before it; and a slot for the frame that it completes
pub write_allowed : (part : PartData) (p : PipelineData) (command : Command) (base : ℕ) (run : List ℕ) (source : Option (List ℕ)) (given : ℕ) → StandsFor part p command base run source given →
    (p.frame_count ≡ 0 → length p.rest ≡ 0 → is_frame_address part p.base ≡ true) → (length p.rest + 1 ≡ p.width → p.frame_count < length (slots_from part p.base)) → None ≡ write_fault part base run
unfolding write_fault rest_of frames_of
write_allowed part p command base [] source given s first last =
    address_allowed part base (rw (← s.base_is) (first s.count_is (ap length s.rest_is)))
write_allowed part p command base (w ∷ run) source given s first last =
    allowed (length (rest_of (frame_words part) (w ∷ run))) (frame_words part) (length (slots_from part base)) (length (frames_of (frame_words part) (w ∷ run)))
    (λ full. rw (← s.base_is, ← s.count_is) (last (ap (λ t. length t + 1) s.rest_is ∙ full ∙ sym s.width_is)))
  where
    allowed : (rest width slots frames : ℕ) → (rest + 1 ≡ width → frames < slots) → None ≡ (if (rest + 1 == width) && nat_le slots frames then Some Overrun else None)
    allowed rest width slots frames h =
        elim (cases_eq (rest + 1) width) [
          | inl e ↦ rw (and_right (rest + 1 == width) (nat_le slots frames) (lt-leb slots frames (h e))) refl
          | inr n ↦ rw (and_left (rest + 1 == width) (nat_le slots frames) (ne_eqb (rest + 1) width n)) refl
        ]

pub overrun_refused : (part : PartData) (p : PipelineData) (command : Command) (base : ℕ) (run : List ℕ) (source : Option (List ℕ)) (given : ℕ) → StandsFor part p command base run source given →
    (p.frame_count ≡ 0 → length p.rest ≡ 0 → is_frame_address part p.base ≡ true) → length p.rest + 1 ≡ p.width → length (slots_from part p.base) ≤ p.frame_count → Some Overrun ≡ write_fault part base run
unfolding write_fault rest_of frames_of
overrun_refused part p command base [] source given s first full past =
    let some : 0 < length (slots_from part p.base) = ltb-true 0 (length (slots_from part p.base)) (first s.count_is (ap length s.rest_is)) in
    let none = s.count_is in absurd (omega arith)
overrun_refused part p command base (w ∷ run) source given s first full past =
    let whole : completes part (w ∷ run) ≡ true = eq-eqb (length (rest_of (frame_words part) (w ∷ run)) + 1) (frame_words part) (ap (λ t. length t + 1) (sym s.rest_is) ∙ full ∙ s.width_is) in
    let filled : has_filled part base (w ∷ run) ≡ true = le-leb (length (slots_from part base)) (length (frames_of (frame_words part) (w ∷ run))) (rw (← s.base_is, ← s.count_is) past) in
    rw (whole, filled) refl

pub copy_refused : (part : PartData) (command : Command) (base : ℕ) (source : Option (List ℕ)) → (is_mfw command && is_some source) ≡ false → Some Multi ≡ copy_fault part command base source
unfolding copy_fault
copy_refused part command base source f = rw f refl

pub copy_asks : (part : PartData) (command : Command) (base : ℕ) (source : Option (List ℕ)) → (is_mfw command && is_some source) ≡ true → address_fault part base ≡ copy_fault part command base source
unfolding copy_fault
copy_asks part command base source t = rw t refl

-- ---- a frame that is kept where a number says so

pub kept_is : (n : ℕ) (kept frame : List ℕ) (seen : Option (List ℕ)) → (if n == 0 then None else Some kept) ≡ seen → seen ≡ Some frame → kept ≡ frame
kept_is n kept frame seen v e =
    elim (cases_eq n 0) [
      | inl z ↦ absurd (none-some frame (rw (eq-eqb n 0 z) at (v ∙ e)))
      | inr p ↦ same_Some kept frame (rw (ne_eqb n 0 p) at (v ∙ e))
    ]

pub kept_none : (n : ℕ) (kept : List ℕ) (seen : Option (List ℕ)) → (if n == 0 then None else Some kept) ≡ seen → seen ≡ None → n ≡ 0
kept_none n kept seen v e =
    elim (cases_eq n 0) [
      | inl z ↦ z
      | inr p ↦ absurd (none-some kept (sym (rw (ne_eqb n 0 p) at (v ∙ e))))
    ]

pub source_is : (b : Bool) (kept : List ℕ) (seen : Option (List ℕ)) → (if b then Some kept else None) ≡ seen → is_some seen ≡ true → seen ≡ Some kept
source_is true kept seen v t = sym v
source_is false kept seen v t = absurd (false≢true (ap is_some v ∙ t))

-- ---- readback

wide : (part : PartData) (p : PipelineData) (command : Command) (base : ℕ) (run : List ℕ) (source : Option (List ℕ)) (given : ℕ) → StandsFor part p command base run source given → 0 < frame_words part
wide part p command base run source given s = rw s.width_is at s.some_words

pub read_refused : (part : PartData) (p : PipelineData) (command : Command) (base : ℕ) (run : List ℕ) (source : Option (List ℕ)) (given : ℕ) → StandsFor part p command base run source given →
    p.given ≡ 0 → is_frame_address part p.base ≡ false → Some (Address p.base) ≡ readback_fault part base given
unfolding readback_fault
read_refused part p command base run source given s first f =
    rw (s.base_is, eq-eqb given 0 (none_given part base given (wide part p command base run source given s) (sym s.given_is ∙ first))) (address_refused part base (rw s.base_is at f))

pub read_allowed : (part : PartData) (p : PipelineData) (command : Command) (base : ℕ) (run : List ℕ) (source : Option (List ℕ)) (given : ℕ) → StandsFor part p command base run source given →
    (p.given ≡ 0 → is_frame_address part p.base ≡ true) → None ≡ readback_fault part base given
unfolding readback_fault
read_allowed part p command base run source given s first =
    elim (cases_eq given 0) [
      | inl z ↦ rw (eq-eqb given 0 z) (address_allowed part base (rw (← s.base_is) (first (s.given_is ∙ ap (λ n. min n (readback_end part base)) z ∙ omega arith))))
      | inr n ↦ rw (ne_eqb given 0 n) refl
    ]

pub drop_some : (part : PartData) (base given count : ℕ) → (count ≡ 0 → ⊥) → readback_fault part base given ≡ drop_fault part base given count
unfolding drop_fault
drop_some part base given count n = rw (ne_eqb count 0 n) refl

pub drop_none : (part : PartData) (base given count : ℕ) → count ≡ 0 → None ≡ drop_fault part base given count
unfolding drop_fault
drop_none part base given count z = rw (eq-eqb count 0 z) refl

-- words given by a readback change the count and the slot alone
reads : (part : PartData) (p q : PipelineData) (command : Command) (base : ℕ) (run : List ℕ) (source : Option (List ℕ)) (given more at : ℕ) (slot : Slot) → StandsFor part p command base run source given →
    q ≡ record p { given = at; slot = slot } → at ≡ given_stored part base more → slot ≡ read_slot part base (given_stored part base more) → StandsFor part q command base run source more
reads part p q command base run source given more at slot s e g t =
    rw e (record {
      some_words = s.some_words;
      width_is = s.width_is;
      far_width_is = s.far_width_is;
      command_is = s.command_is;
      base_is = s.base_is;
      rest_is = s.rest_is;
      newest_is = s.newest_is;
      count_is = s.count_is;
      within = s.within;
      source_is = s.source_is;
      given_is = g;
      slot_is = t;
    })

-- n words more were given by a readback
pub reads_on : (part : PartData) (p q : PipelineData) (n at : ℕ) (command : Command) (base : ℕ) (run : List ℕ) (source : Option (List ℕ)) (given : ℕ) → StandsFor part p command base run source given →
    at ≡ min (p.given + n) (p.width * (1 + length (slots_from part p.base))) → q ≡ record p { given = at; slot = get_or (Pad ∷ slots_from part p.base) (at / p.width) End } → StandsFor part q command base run source (given + n)
unfolding read_slot
reads_on part p q n at command base run source given s a e =
    let g : at ≡ given_stored part base (given + n) = a ∙ rw (s.given_is, s.base_is) (passed part base given n p.width s.width_is) in
    reads part p q command base run source given (given + n) at _ s e g (rw (s.base_is, s.width_is, g) refl)

-- one word more was given: at the end, within a frame, and at its last word
pub steps_nowhere : (part : PartData) (p : PipelineData) (command : Command) (base : ℕ) (run : List ℕ) (source : Option (List ℕ)) (given : ℕ) → StandsFor part p command base run source given →
    p.slot ≡ End → StandsFor part p command base run source (given + 1)
steps_nowhere part p command base run source given s e =
    let g = stands_still part base given (wide part p command base run source given s) (sym s.slot_is ∙ e) in
    reads part p p command base run source given (given + 1) p.given p.slot s refl (s.given_is ∙ g) (s.slot_is ∙ ap (read_slot part base) g)

pub steps_in : (part : PartData) (p q : PipelineData) (command : Command) (base : ℕ) (run : List ℕ) (source : Option (List ℕ)) (given : ℕ) → StandsFor part p command base run source given →
    (p.slot ≡ End → ⊥) → ((p.given + 1) % p.width ≡ 0 → ⊥) → q ≡ record p { given = p.given + 1 } → StandsFor part q command base run source (given + 1)
steps_in part p q command base run source given s n m e =
    let g : p.given + 1 ≡ given_stored part base (given + 1) = ap (λ x. x + 1) s.given_is ∙ goes_up part base given (wide part p command base run source given s) (λ end. n (s.slot_is ∙ end)) in
    reads part p q command base run source given (given + 1) (p.given + 1) p.slot s e g
    (s.slot_is ∙ ap (read_slot part base) (sym s.given_is) ∙ same_slot part base p.given (wide part p command base run source given s) (rw (← s.width_is) m) ∙ ap (read_slot part base) g)

pub steps_over : (part : PartData) (p q : PipelineData) (command : Command) (base : ℕ) (run : List ℕ) (source : Option (List ℕ)) (given : ℕ) → StandsFor part p command base run source given →
    (p.slot ≡ End → ⊥) → q ≡ record p { given = p.given + 1; slot = get_or (Pad ∷ slots_from part p.base) ((p.given + 1) / p.width) End } → StandsFor part q command base run source (given + 1)
unfolding read_slot
steps_over part p q command base run source given s n e =
    let g : p.given + 1 ≡ given_stored part base (given + 1) = ap (λ x. x + 1) s.given_is ∙ goes_up part base given (wide part p command base run source given s) (λ end. n (s.slot_is ∙ end)) in
    reads part p q command base run source given (given + 1) (p.given + 1) _ s e g (rw (s.base_is, s.width_is, g) refl)

-- a part's count of words given stays below 2^64
pub few_given : (part : PartData) (p : PipelineData) (command : Command) (base : ℕ) (run : List ℕ) (source : Option (List ℕ)) (given : ℕ) → StandsFor part p command base run source given → IsPart part → p.given + 1 < 2 ^ 64
unfolding readback_end
few_given part p command base run source given s is =
    let few = few_slots part base is in let g = s.given_is in
    let most : frame_words part * (1 + length (slots_from part base)) ≤ most_frame_words * (1 + length (slots_from part base)) = mul-le-mul_right (1 + length (slots_from part base)) is.words.1 in
    omega arith

pub same_given : (part : PartData) (p : PipelineData) (n : ℕ) (command : Command) (base : ℕ) (run : List ℕ) (source : Option (List ℕ)) (given : ℕ) → n ≡ 0 → StandsFor part p command base run source given →
    StandsFor part p command base run source (given + n)
same_given part p n command base run source given z s = let e : given + n ≡ given = omega arith in rw e s

-- the word that was read is that of the count
pub read_so : (part : PartData) (p : PipelineData) (memory : FrameMap) (command : Command) (base : ℕ) (run : List ℕ) (source : Option (List ℕ)) (given : ℕ) → StandsFor part p command base run source given →
    word_at p.slot memory (p.given % p.width) ≡ readback_at part base memory given
unfolding readback_at
read_so part p memory command base run source given s = rw (s.slot_is, s.given_is, s.width_is) (read_stored part base memory given (wide part p command base run source given s))

-- ---- an equal pipeline

pub alike : (part : PartData) (p q : PipelineData) (command : Command) (base : ℕ) (run : List ℕ) (source : Option (List ℕ)) (given : ℕ) → q ≡ p → StandsFor part p command base run source given → StandsFor part q command base run source given
alike part p q command base run source given e s = rw e s

-- a number that was raised isn't 0
pub kept_now : (n : ℕ) (kept : List ℕ) → (if n + 1 == 0 then None else Some kept) ≡ Some kept
kept_now n kept = rw (ne_eqb (n + 1) 0 (λ e. omega arith)) refl
