-- A pipeline and a memory that stand for a history, and one access more.
use Rattle.std.proofs.Common.{◌≡◌, ℕ, zero, suc, ◌+◌, ◌-◌, ◌%◌, ◌==◌, ◌&&◌, Bool, true, false, if◌then◌else◌, List, [], ◌∷◌, Option, None, Some, is_some, IfNone, OnSome, not, refl, sym, ap, subst, ◌∙◌, arith}
use Rattle.std.proofs.lemmas.Bool.Decides.{nat_tests}
use Rattle.std.proofs.lemmas.Option.{none-some}
use Rattle.std.proofs.lemmas.List.{append_cancel_right}
use Rattle.x7_packets.specs.History.{Access, Read, Entry, History, entry}
use Rattle.x7_part.specs.Part.{PartData, frame_words}
use Rattle.x7_part.specs.declared.slot.Slot.{Slot}
use Rattle.x7_part.specs.declared.slot.Slot.TheVariants.{Frame, Pad, End}
use Rattle.x7_memory.specs.FrameMap.{FrameMap, HaveSameFrames}
use Rattle.x7_memory.specs.PartFrames.{frame_at, zero_frames}
use Rattle.x7_memory.specs.Plan.{PlanRow, planned}
use Rattle.x7_memory.proofs.MapLemmas.{override_same, same_memory}
use Rattle.x7_pipeline.proofs.LawLemmas.{one_state}
use Rattle.x7_regs.specs.declared.command.Command.{Command}
use Rattle.x7_regs.specs.declared.register.Reg.{Reg}
use Rattle.x7_regs.specs.declared.register.Reg.TheVariants.{Crc, Far, Fdri, Fdro, Cmd, Ctl0, Mask, Stat, Lout, Cor0, Mfwr, Cbc, Idcode, Axss, Cor1, Wbstar, Timer, Bootsts, Ctl1, Bspi}
use Rattle.x7_flow.specs.Settings.{Settings, gives_frames, settings_of, takes_copies, takes_frames}
use Rattle.x7_pipeline.specs.declared.fault.RunFault.{RunFault}
use Rattle.x7_pipeline.specs.declared.fault.RunFault.TheVariants.{Address, Multi}
use Rattle.x7_pipeline.specs.Runs.{written_frames, put_over, Lands}
use Rattle.x7_pipeline.specs.FarAsRead.{is_frame_address, loaded_base}
use Rattle.x7_pipeline.specs.Copies.{copied_pairs, is_mfw}
use Rattle.x7_pipeline.specs.Fault.{address_fault, copy_fault, drop_fault, readback_fault}
use Rattle.x7_pipeline.specs.Flow.{FlowGoesOn, HoldsFlow, LandsAt, ForEachFlow, after_reads, after_words, begun_at, begun_by, pairs_copied_by, fault_of_copy}
use Rattle.x7_pipeline.specs.Pipeline.{AreOfPart, PipelineData}
use Rattle.x7_pipeline.specs.Readback.{readback_at, read_slot, word_at, word_in_frame}
use Rattle.x7_flow.specs.Asking.{Asked, LoadsFar, Commands, AddsWord, CopiesSource, Reads, NothingAsked}
use Rattle.x7_flow.specs.HistoryFlow.{Flow, asked_under, asked_after, base_of, fault_by, first_flow, flow_by, flow_of, frame_fault, count_given}
use Rattle.x7_flow.specs.FrameMemory.{copy_pairs, written_frames_more, memory_of, pairs_put}
use Rattle.x7_flow.specs.FrameAccess.{reads_frame_data}
use Rattle.x7_flow.specs.Standing.{AfterAccess, AfterRead, AreFramesAfter, FramesFit, FramesStandFor, FramesState, HaveDone, FramesHaveDone, HasFlow, frames_state, without_due, write_access, readback_words, words_due, frames_read}
use Rattle.x7_flow.proofs.FlowLemmas.{flow_more, flow_sound, landed_grows, memory_more, put_none}

-- ---- each call of a pipeline does what is asked

abbrev given_so : Flow → ℕ → Flow
given_so f n = record f { given = n }

pub did_load : (part : PartData) (p q : PipelineData) (frames : List (List ℕ)) (w : ℕ) →
    ((part : PartData) → FlowGoesOn part p q (begun_at (loaded_base part w))) →
    HaveDone part (LoadsFar w) (frames_state p frames) (frames_state q frames)
did_load part p q frames w stands = record {
  flow = λ f h. record { stands = stands part f h.stands; nowhere = λ e. refl };
  memory = λ f h far. sym (put_none [] (frame_at part frames) refl far);
}

pub did_order : (part : PartData) (p q : PipelineData) (frames : List (List ℕ)) (c : Command) →
    FlowGoesOn part p q (begun_by part c) →
    HaveDone part (Commands c) (frames_state p frames) (frames_state q frames)
did_order part p q frames c stands = record {
  flow = λ f h. record { stands = stands f h.stands; nowhere = λ e. refl };
  memory = λ f h far. sym (put_none [] (frame_at part frames) refl far);
}

word_memory : (part : PartData) (base w : ℕ) (run : List ℕ) (old new : FrameMap) → Lands part base run (w ∷ run) old new → HaveSameFrames new (put_over (written_frames_more part base run) old)
word_memory part base w run old new l =
    let same : l.added ≡ written_frames_more part base run = append_cancel_right l.added (written_frames_more part base run) (written_frames part base run) (sym l.grows ∙ landed_grows part base w run) in
    rw (← same) l.memory

pub did_word : (part : PartData) (p q : PipelineData) (old new : List (List ℕ)) (w : ℕ) →
    FlowGoesOn part p q (after_words (w ∷ [])) →
    ForEachFlow part p (λ f. LandsAt part f (w ∷ []) (frame_at part old) (frame_at part new)) →
    HaveDone part (AddsWord w) (frames_state p old) (frames_state q new)
did_word part p q old new w stands lands = record {
  flow = λ f h. record { stands = stands f h.stands; nowhere = h.nowhere };
  memory = λ f h. word_memory part f.base w f.run (frame_at part old) (frame_at part new) (lands f h.stands);
}

copy_allowed : (part : PartData) (f : Flow) → None ≡ copy_fault part f.command f.base f.source → copied_pairs f.base f.source ≡ copy_pairs part f
unfolding copy_fault address_fault
copy_allowed part f e = by (is_mfw f.command) (is_some f.source) (is_frame_address part f.base) e
  where
    by : (m s b : Bool) → None ≡ (if m && s then (if b then None else Some (Address f.base)) else Some Multi) → copied_pairs f.base f.source ≡ (if m && b then copied_pairs f.base f.source else [])
    by true true true e = refl
    by true true false e = absurd (none-some _ e)
    by true false b e = absurd (none-some _ e)
    by false s b e = absurd (none-some _ e)

pub did_copy : (part : PartData) (p q : PipelineData) (old new : List (List ℕ)) → q ≡ p →
    ForEachFlow part p (λ f. HaveSameFrames (frame_at part new) (put_over (pairs_copied_by f) (frame_at part old))) →
    ForEachFlow part p (λ f. None ≡ fault_of_copy part f) →
    HaveDone part CopiesSource (frames_state p old) (frames_state q new)
did_copy part p q old new same put allowed = record {
  flow = λ f h. rw same h;
  memory = λ f h. rw (← copy_allowed part f (allowed f h.stands)) (put f h.stands);
}

-- a read is refused at its first word, where the base is no address
read_is : (part : PartData) (base given : ℕ) → (is_frame_address part base ≡ false → given ≡ 0) → readback_fault part base given ≡ address_fault part base
unfolding readback_fault address_fault
read_is part base given nowhere = by (given == 0) (is_frame_address part base) (λ e. ap (λ (n : ℕ). n == 0) (nowhere e))
  where
    by : (z b : Bool) → (b ≡ false → z ≡ true) → (if z then (if b then None else Some (Address base)) else None) ≡ (if b then None else Some (Address base))
    by true b p = refl
    by false true p = refl
    by false false p = let e = p refl in absurd cc

pub did_other : (part : PartData) (f : FramesState) → HaveDone part NothingAsked f f
did_other part f = record { flow = λ g h. h; memory = λ g h far. sym (put_none [] (frame_at part f.memory) refl far) }

-- ---- one access more

pub same_flow : (part : PartData) (p : PipelineData) (f g : Flow) → f ≡ g → HasFlow part p f → HasFlow part p g
same_flow part p f g e h = rw (← e) h

pub no_less : (f : Flow) → f ≡ without_due 0 f
no_less f = ap (λ (n : ℕ). record f { given = n }) (omega arith)

pub one_more : (part : PartData) (old new : FramesState) (e : Entry) (h : History) → FramesHaveDone part old new h e → FramesStandFor part old h 0 → FramesStandFor part new (e ∷ h) 0
one_more part old new e h did are =
    let f : Flow = flow_of part h in
    let has : HasFlow part old.pipeline f = same_flow part old.pipeline (without_due 0 f) f (sym (no_less f)) are.flow in
    let pairs : List PlanRow = pairs_put part (asked_after part.idcode h e.access) f in
    record {
      flow = same_flow part new.pipeline (flow_by part (asked_after part.idcode h e.access) f) (without_due 0 (flow_of part (e ∷ h))) (sym (flow_more part e h) ∙ no_less (flow_of part (e ∷ h))) (did.flow f has);
      memory = λ far. did.memory f has far ∙ override_same (frame_at part old.memory) (memory_of part h) (planned pairs) (planned pairs) are.memory (λ a. refl) far ∙ sym (memory_more part e h far);
      due_given = omega arith;
    }

-- ---- words of frame data that are due

no_word : (part : PartData) (memory other : FrameMap) → HaveSameFrames memory other → (slot : Slot) (i : ℕ) → word_at slot memory i ≡ word_at slot other i
no_word part memory other same (Frame far) i = ap (λ (o : Option (List ℕ)). word_in_frame o i) (same far)
no_word part memory other same Pad i = refl
no_word part memory other same End i = refl

read_same : (part : PartData) (base place : ℕ) (memory other : FrameMap) → HaveSameFrames memory other → readback_at part base memory place ≡ readback_at part base other place
unfolding readback_at
read_same part base place memory other same = no_word part memory other same (read_slot part base place) (place % frame_words part)

words_same : (part : PartData) (base place count : ℕ) (memory other : FrameMap) → HaveSameFrames memory other → readback_words part base memory place count ≡ readback_words part base other place count
words_same part base place zero memory other same = refl
words_same part base place (suc count) memory other same =
    ap (λ (w : ℕ). w ∷ readback_words part base memory (place + 1) count) (read_same part base place memory other same)
    ∙ ap (λ ws. readback_at part base other place ∷ ws) (words_same part base (place + 1) count memory other same)

-- a read that begins, whose words are all due
read_flow : (part : PartData) (f : Flow) (count : ℕ) → is_frame_address part f.base ≡ true → flow_by part (Reads count) f ≡ record f { given = f.given + count }
read_flow part f count t = ap (λ (b : Bool). record f { given = if b then f.given + count else f.given }) t

pub read_begins : (part : PartData) (p : PipelineData) (frames : List (List ℕ)) (e : Entry) (h : History) (count : ℕ) →
    asked_after part.idcode h e.access ≡ Reads count → is_frame_address part (base_of part h) ≡ true → AreFramesAfter part p frames h 0 →
    AreFramesAfter part p frames (e ∷ h) count × (words_due part (e ∷ h) count ≡ frames_read part h count)
read_begins part p frames e h count a t are =
    let f : Flow = flow_of part h in
    let now : flow_of part (e ∷ h) ≡ record f { given = f.given + count } = flow_more part e h ∙ ap (λ (x : Asked). flow_by part x f) a ∙ read_flow part f count t in
    let back : without_due 0 f ≡ without_due count (flow_of part (e ∷ h)) =
    ap (λ (n : ℕ). record f { given = n }) (omega arith) ∙ ap (without_due count) (sym now) in
    let same : HaveSameFrames (memory_of part (e ∷ h)) (memory_of part h) = λ far.
    memory_more part e h far ∙ ap (λ (x : Asked). put_over (pairs_put part x f) (memory_of part h) far) a ∙ put_none [] (memory_of part h) refl far in
    let sum : count_given part (e ∷ h) ≡ f.given + count = ap (λ (g : Flow). g.given) now in
    let place : count_given part (e ∷ h) - count ≡ f.given = omega arith in (
      record {
        flow = same_flow part p (without_due 0 f) (without_due count (flow_of part (e ∷ h))) back are.flow;
        memory = λ far. are.memory far ∙ sym (same far);
        due_given = omega arith;
      },
      words_same part (base_of part (e ∷ h)) (count_given part (e ∷ h) - count) count (memory_of part (e ∷ h)) (memory_of part h) same
          ∙ ap (λ (n : ℕ). readback_words part (base_of part (e ∷ h)) (memory_of part h) n count) place
          ∙ ap (λ (n : ℕ). readback_words part n (memory_of part h) f.given count) (ap (λ (g : Flow). g.base) now),
    )

-- the word that is read is the next of those due, and the others stay due
pub read_next : (part : PartData) (p q : PipelineData) (frames : List (List ℕ)) (h : History) (due word : ℕ) → AreFramesAfter part p frames h (due + 1) →
    ForEachFlow part p (λ f. word ≡ readback_at part f.base (frame_at part frames) f.given) →
    FlowGoesOn part p q (after_reads 1) →
    AreFramesAfter part q frames h due × (words_due part h (suc due) ≡ word ∷ words_due part h due)
read_next part p q frames h due word are is stands =
    let f : Flow = flow_of part h in
    let has = are.flow in
    let some = are.due_given in
    let next : f.given - (due + 1) + 1 ≡ f.given - due = omega arith in
    let after : f.given - suc due + 1 ≡ f.given - due = omega arith in
    let first : f.given - (due + 1) ≡ f.given - suc due = omega arith in
    let from : HoldsFlow part q (given_so f (f.given - (due + 1) + 1)) = stands (without_due (due + 1) f) has.stands in (
      record {
        flow = record { stands = subst (λ (n : ℕ). HoldsFlow part q (given_so f n)) next from; nowhere = λ e. let none = (flow_sound part h).nowhere e in omega arith };
        memory = are.memory;
        due_given = omega arith;
      },
      ap (λ (w : ℕ). w ∷ readback_words part f.base (memory_of part h) (f.given - suc due + 1) due)
          (sym (is (without_due (due + 1) f) has.stands ∙ read_same part f.base (f.given - (due + 1)) (frame_at part frames) (memory_of part h) are.memory
          ∙ ap (readback_at part f.base (memory_of part h)) first))
          ∙ ap (λ (n : ℕ). word ∷ readback_words part f.base (memory_of part h) n due) after,
    )

no_both : {b : Bool} → b ≡ true → b ≡ false → ⊥
no_both t f = cc

-- words are due at an address alone
pub due_somewhere : (part : PartData) (p : PipelineData) (frames : List (List ℕ)) (h : History) (due : ℕ) → AreFramesAfter part p frames h (due + 1) → None ≡ readback_fault part (base_of part h) (count_given part h - (due + 1))
unfolding address_fault
due_somewhere part p frames h due are = by (is_frame_address part (base_of part h)) refl
  where
    by : (b : Bool) → is_frame_address part (base_of part h) ≡ b → None ≡ readback_fault part (base_of part h) (count_given part h - (due + 1))
    by true t = sym (read_is part (base_of part h) (count_given part h - (due + 1)) (λ f. absurd (no_both t f)) ∙ rw t refl)
    by false f = let none = (flow_sound part h).nowhere f in let some = are.due_given in absurd (omega arith)

-- after `count` of the words due are passed over the others are due
pub read_past : (part : PartData) (p q : PipelineData) (frames : List (List ℕ)) (h : History) (due count : ℕ) → AreFramesAfter part p frames h (due + count) →
    FlowGoesOn part p q (after_reads count) →
    AreFramesAfter part q frames h due
read_past part p q frames h due count are stands =
    let f : Flow = flow_of part h in
    let has = are.flow in
    let some = are.due_given in
    let next : f.given - (due + count) + count ≡ f.given - due = omega arith in
    record {
      flow = record {
        stands = subst (λ (n : ℕ). HoldsFlow part q (given_so f n)) next (stands (without_due (due + count) f) has.stands);
        nowhere = λ e. let none = (flow_sound part h).nowhere e in omega arith;
      };
      memory = are.memory;
      due_given = omega arith;
    }

-- where words are due, passing over them isn't refused
pub all_due : (part : PartData) (p : PipelineData) (frames : List (List ℕ)) (h : History) (due count : ℕ) → AreFramesAfter part p frames h (due + count) →
    None ≡ drop_fault part (base_of part h) (count_given part h - (due + count)) count
unfolding drop_fault readback_fault address_fault
all_due part p frames h due count are = by (is_frame_address part (base_of part h)) refl
  where
    free : (z g : Bool) → None ≡ (if z then None else if g then (if true then None else Some (Address (base_of part h))) else None)
    free true g = refl
    free false true = refl
    free false false = refl

    by : (b : Bool) → is_frame_address part (base_of part h) ≡ b → None ≡ drop_fault part (base_of part h) (count_given part h - (due + count)) count
    by true t = rw t (free (count == 0) (count_given part h - (due + count) == 0))
    by false f =
        let none = (flow_sound part h).nowhere f in
        let some = are.due_given in
        let zero_count : count ≡ 0 = omega arith in
        rw zero_count refl

pub refused_read : (part : PartData) (p : PipelineData) (f : Flow) (count : ℕ) → HasFlow part p f → (count == 0) ≡ false → readback_fault part f.base f.given ≡ fault_by part (Reads count) f
refused_read part p f count h n = read_is part f.base f.given h.nowhere ∙ sym (ap (λ (b : Bool). if b then None else address_fault part f.base) n)

-- ---- a read

read_asked : (s : Settings) (r count : ℕ) (b : Bool) → (r == 3 && (not (count == 0) && gives_frames s)) ≡ b → asked_under s (Read r count) ≡ (if b then Reads count else NothingAsked)
read_asked s r count b e = ap (λ (x : Bool). if x then Reads count else NothingAsked) e

-- a read that gives no words of the memory isn't refused, and leaves pipeline and memory
pub other_read : (part : PartData) (p : PipelineData) (frames : List (List ℕ)) (h : History) (r count place : ℕ) → (r == 3 && (not (count == 0) && gives_frames (settings_of part.idcode h))) ≡ false →
    AreFramesAfter part p frames h 0 →
    (frame_fault part h (Read r count) ≡ None) × AreFramesAfter part p frames (entry (Read r count) place ∷ h) 0 × (words_due part (entry (Read r count) place ∷ h) 0 ≡ frames_read part h 0)
other_read part p frames h r count place b are =
    let a : asked_after part.idcode h (Read r count) ≡ NothingAsked = read_asked (settings_of part.idcode h) r count false b in (
      ap (λ (x : Asked). fault_by part x (flow_of part h)) a,
      one_more part (frames_state p frames) (frames_state p frames) (entry (Read r count) place) h (subst (λ (x : Asked). HaveDone part x (frames_state p frames) (frames_state p frames)) (sym a) (did_other part (frames_state p frames))) are,
      refl,
    )

pub some_read : (r count : ℕ) (x : Bool) → (r == 3 && (not (count == 0) && x)) ≡ true → (count == 0) ≡ false
some_read r count x t = grind (arith, nat_tests)

from_address : (part : PartData) (base count : ℕ) → (count == 0) ≡ false → None ≡ (if count == 0 then None else address_fault part base) → is_frame_address part base ≡ true
unfolding address_fault
from_address part base count some none = by (count == 0) (is_frame_address part base) some none
  where
    by : (z b : Bool) → z ≡ false → None ≡ (if z then None else if b then None else Some (Address base)) → b ≡ true
    by true b e f = absurd cc
    by false true e f = refl
    by false false e f = absurd (none-some _ f)

-- after a read of frame data that isn't refused all its words are due, those of `frames_read`
pub frame_read : (part : PartData) (p : PipelineData) (frames : List (List ℕ)) (h : History) (r count place : ℕ) → (r == 3 && (not (count == 0) && gives_frames (settings_of part.idcode h))) ≡ true →
    ((f : Flow) → HasFlow part p f → None ≡ fault_by part (Reads count) f) → AreFramesAfter part p frames h 0 →
    (frame_fault part h (Read r count) ≡ None) × AreFramesAfter part p frames (entry (Read r count) place ∷ h) count × (words_due part (entry (Read r count) place ∷ h) count ≡ frames_read part h count)
frame_read part p frames h r count place b allowed are =
    let f : Flow = flow_of part h in
    let a : asked_after part.idcode h (Read r count) ≡ Reads count = read_asked (settings_of part.idcode h) r count true b in
    let none : None ≡ fault_by part (Reads count) f = allowed f (same_flow part p (without_due 0 f) f (sym (no_less f)) are.flow) in
    let t : is_frame_address part f.base ≡ true = from_address part f.base count (some_read r count (gives_frames (settings_of part.idcode h)) b) none in
    let begun = read_begins part p frames (entry (Read r count) place) h count a t are in
    (ap (λ (x : Asked). fault_by part x f) a ∙ sym none, begun.0, begun.1)

pub frame_read_refused : (part : PartData) (p : PipelineData) (frames : List (List ℕ)) (h : History) (r count : ℕ) (fault : RunFault) → (r == 3 && (not (count == 0) && gives_frames (settings_of part.idcode h))) ≡ true →
    ((f : Flow) → HasFlow part p f → Some fault ≡ fault_by part (Reads count) f) → AreFramesAfter part p frames h 0 → frame_fault part h (Read r count) ≡ Some fault
frame_read_refused part p frames h r count fault b refused are =
    let f : Flow = flow_of part h in
    ap (λ (x : Asked). fault_by part x f) (read_asked (settings_of part.idcode h) r count true b) ∙ sym (refused f (same_flow part p (without_due 0 f) f (sym (no_less f)) are.flow))

pub read_answered : (part : PartData) (f : FramesState) (h : History) (r count place : ℕ) (result : Option RunFault) → reads_frame_data h (Read r count) ≡ true →
    ((g : Flow) → HasFlow part f.pipeline g → result ≡ fault_by part (Reads count) g) → FramesStandFor part f h 0 → AfterRead part f h (entry (Read r count) place) result
read_answered part f h r count place None b none are = frame_read part f.pipeline f.memory h r count place b none are
read_answered part f h r count place (Some fault) b refused are = frame_read_refused part f.pipeline f.memory h r count fault b refused are

-- ---- a written word

-- what a word written to FDRI or MFWR asks, where the settings let it and where they don't
pub word_asked : (idcode : ℕ) (h : History) (reg : Reg) (w : ℕ) (takes : Bool) → reg ≡ Fdri → takes_frames (settings_of idcode h) ≡ takes → asked_after idcode h (write_access reg w) ≡ (if takes then AddsWord w else NothingAsked)
word_asked idcode h reg w takes e t = rw (e, t) refl

pub copies_asked : (idcode : ℕ) (h : History) (reg : Reg) (w : ℕ) (takes : Bool) → reg ≡ Mfwr → takes_copies (settings_of idcode h) ≡ takes → asked_after idcode h (write_access reg w) ≡ (if takes then CopiesSource else NothingAsked)
copies_asked idcode h reg w takes e t = rw (e, t) refl

-- a word written to another register than FAR, CMD, FDRI and MFWR asks nothing
pub nothing_asked : (idcode : ℕ) (h : History) (reg : Reg) (w : ℕ) → (reg ≡ Far → ⊥) → (reg ≡ Cmd → ⊥) → (reg ≡ Fdri → ⊥) → (reg ≡ Mfwr → ⊥) → asked_after idcode h (write_access reg w) ≡ NothingAsked
nothing_asked idcode h Crc w far cmd fdri mfwr = refl
nothing_asked idcode h Far w far cmd fdri mfwr = absurd (far refl)
nothing_asked idcode h Fdri w far cmd fdri mfwr = absurd (fdri refl)
nothing_asked idcode h Fdro w far cmd fdri mfwr = refl
nothing_asked idcode h Cmd w far cmd fdri mfwr = absurd (cmd refl)
nothing_asked idcode h Ctl0 w far cmd fdri mfwr = refl
nothing_asked idcode h Mask w far cmd fdri mfwr = refl
nothing_asked idcode h Stat w far cmd fdri mfwr = refl
nothing_asked idcode h Lout w far cmd fdri mfwr = refl
nothing_asked idcode h Cor0 w far cmd fdri mfwr = refl
nothing_asked idcode h Mfwr w far cmd fdri mfwr = absurd (mfwr refl)
nothing_asked idcode h Cbc w far cmd fdri mfwr = refl
nothing_asked idcode h Idcode w far cmd fdri mfwr = refl
nothing_asked idcode h Axss w far cmd fdri mfwr = refl
nothing_asked idcode h Cor1 w far cmd fdri mfwr = refl
nothing_asked idcode h Wbstar w far cmd fdri mfwr = refl
nothing_asked idcode h Timer w far cmd fdri mfwr = refl
nothing_asked idcode h Bootsts w far cmd fdri mfwr = refl
nothing_asked idcode h Ctl1 w far cmd fdri mfwr = refl
nothing_asked idcode h Bspi w far cmd fdri mfwr = refl

pub did_as : (part : PartData) (h : History) (reg : Reg) (w : ℕ) (a : Asked) (old new : FramesState) → asked_after part.idcode h (write_access reg w) ≡ a → HaveDone part a old new → HaveDone part (asked_after part.idcode h (write_access reg w)) old new
did_as part h reg w a old new e did = subst (λ (x : Asked). HaveDone part x old new) (sym e) did

pub fault_as : (part : PartData) (h : History) (reg : Reg) (w : ℕ) (a : Asked) (f : Flow) → asked_after part.idcode h (write_access reg w) ≡ a → fault_by part a f ≡ fault_by part (asked_after part.idcode h (write_access reg w)) f
fault_as part h reg w a f e = ap (λ (x : Asked). fault_by part x f) (sym e)

pub word_fault_is : (part : PartData) (p : PipelineData) (frames : List (List ℕ)) (h : History) (access : Access) (result : Option RunFault) →
    ((f : Flow) → HasFlow part p f → result ≡ fault_by part (asked_after part.idcode h access) f) → AreFramesAfter part p frames h 0 → result ≡ frame_fault part h access
word_fault_is part p frames h access result fault are =
    let f : Flow = flow_of part h in
    fault f (same_flow part p (without_due 0 f) f (sym (no_less f)) are.flow)

pub access_taken : (part : PartData) (old new : FramesState) (h : History) (e : Entry) (result : Option RunFault) →
    IfNone result (HaveDone part (asked_after part.idcode h e.access) old new) → OnSome result (new.pipeline ≡ old.pipeline) → OnSome result (new.memory ≡ old.memory) → FramesStandFor part old h 0 → AfterAccess part new h e result
access_taken part old new h e None did refused unchanged are = one_more part old new e h did are
access_taken part old new h e (Some fault) did refused unchanged are = rw (refused, unchanged) are

-- ---- after a reset

pub begins_so : (part : PartData) (p : PipelineData) (frames : List (List ℕ)) → HoldsFlow part p first_flow → frames ≡ zero_frames part → AreFramesAfter part p frames [] 0
unfolding flow_of memory_of
begins_so part p frames stands none = record {
  flow = record { stands = stands; nowhere = λ e. refl };
  memory = λ far. ap (λ (fs : List (List ℕ)). frame_at part fs far) none;
  due_given = omega arith;
}

-- ---- two that stand for the same

pub one_standing : (part : PartData) (p q : PipelineData) (old new : List (List ℕ)) (h : History) (due : ℕ) → AreOfPart part p old → AreOfPart part q new →
    AreFramesAfter part p old h due → AreFramesAfter part q new h due → (p ≡ q) × (old ≡ new)
one_standing part p q old new h due first second are also_are =
    let f : Flow = without_due due (flow_of part h) in
    let has = are.flow in
    let also_has = also_are.flow in (
      one_state part p q f has.stands also_has.stands,
      same_memory part old new first.frames_fit second.frames_fit (λ far. are.memory far ∙ sym (also_are.memory far)),
    )

pub one_state_of : (part : PartData) (f g : FramesState) (h : History) (due : ℕ) → FramesFit part f → FramesFit part g → FramesStandFor part f h due → FramesStandFor part g h due → f ≡ g
one_state_of part f g h due f_fits g_fits first second =
    let same = one_standing part f.pipeline g.pipeline f.memory g.memory h due f_fits g_fits first second in
    ap (λ (p : PipelineData). record { pipeline = p; memory = f.memory }) same.0 ∙ ap (λ (m : List (List ℕ)). record { pipeline = g.pipeline; memory = m }) same.1
