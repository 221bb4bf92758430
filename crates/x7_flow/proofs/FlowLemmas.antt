-- The flow and the memory of a history: what they always have, and a later history after an earlier one.
use Rattle.std.proofs.Common.{◌≡◌, ℕ, ◌+◌, Bool, true, false, if◌then◌else◌, List, [], ◌∷◌, ◌++◌, length, get_or, refl, sym, ap, ◌∙◌, inl, inr, eq-eqb, ne_eqb}
use Rattle.std.proofs.lemmas.Bool.{cases_eq}
use Rattle.x7_packets.specs.History.{Access, Write, Entry, History, entry}
use Rattle.x7_part.specs.Part.{PartData, frame_words}
use Rattle.x7_part.specs.Slot.{slots_from}
use Rattle.x7_part.specs.declared.slot.Slot.TheVariants.{End}
use Rattle.x7_memory.specs.FrameMap.{FrameMap, HaveSameFrames}
use Rattle.x7_memory.specs.Plan.{PlanRow, planned}
use Rattle.x7_regs.specs.Command.{command_with}
use Rattle.x7_regs.specs.declared.command.Command.{Command}
use Rattle.x7_pipeline.specs.Runs.{rest_of, frames_of, in_slots, older_frames, written_frames, put_over}
use Rattle.x7_pipeline.specs.FarAsRead.{is_frame_address}
use Rattle.x7_pipeline.specs.Copies.{is_wcfg}
use Rattle.x7_pipeline.proofs.LawLemmas.{put_twice, no_source}
use Rattle.x7_pipeline.proofs.RunLemmas.{frames_completes, frames_goes_on}
use Rattle.x7_flow.specs.Asking.{Asked, LoadsFar, Commands, AddsWord, CopiesSource, Reads, NothingAsked}
use Rattle.x7_flow.specs.Settings.{Settings, settings_of, settings_after, settings_from}
use Rattle.x7_flow.specs.HistoryFlow.{Flow, asked_under, asked_after, flow_by, flow_of, source_of}
use Rattle.x7_flow.specs.FrameMemory.{written_frames_more, memory_of, newest_put, pairs_put}
use Rattle.x7_flow.specs.Sound.{IsSound}
use Rattle.x7_flow.specs.Later.{flow_from, pairs_from, flow_loaded, pairs_loaded}
use Rattle.x7_flow.proofs.SettingsLemmas.{Means, asked_means, settings_joined, settings_more}
use Rattle.x7_pipeline.proofs.StateLemmas.{at_slot_more}

-- ---- written frames and one word more

landed_step : (part : PartData) (base : ℕ) (frames : List (List ℕ)) → in_slots (slots_from part base) frames ≡ newest_put part base frames ++ in_slots (slots_from part base) (older_frames frames)
unfolding in_slots
landed_step part base [] = refl
landed_step part base (frame ∷ older) = at_slot_more (get_or (slots_from part base) (length older) End) frame (in_slots (slots_from part base) older)

pub landed_grows : (part : PartData) (base w : ℕ) (run : List ℕ) → written_frames part base (w ∷ run) ≡ written_frames_more part base run ++ written_frames part base run
unfolding written_frames written_frames_more
landed_grows part base w run =
    elim (cases_eq (length (rest_of (frame_words part) run) + 1) (frame_words part)) [
      | inl e ↦ rw (frames_completes (frame_words part) w run e, eq-eqb (length (rest_of (frame_words part) run) + 1) (frame_words part) e) (landed_step part base (frames_of (frame_words part) run))
      | inr n ↦ rw (frames_goes_on (frame_words part) w run n, ne_eqb (length (rest_of (frame_words part) run) + 1) (frame_words part) n) refl
    ]

pub put_none : (pairs : List PlanRow) (m : FrameMap) → pairs ≡ [] → HaveSameFrames (put_over pairs m) m
unfolding planned
put_none pairs m e far = ap (λ (ps : List PlanRow). put_over ps m far) e

-- ---- what a flow always has

pub given_nowhere : (b : Bool) (given count : ℕ) → (b ≡ false → given ≡ 0) → b ≡ false → (if b then given + count else given) ≡ 0
given_nowhere true given count p e = absurd cc
given_nowhere false given count p e = p e

sound_by : (part : PartData) (s t : Settings) (a : Asked) (f : Flow) → Means s a t.command_code → IsSound part s f → IsSound part t (flow_by part a f)
sound_by part s t (LoadsFar w) f m i = record { command_is = i.command_is ∙ ap command_with (sym m); idle = λ e. refl; sourceless = i.sourceless; nowhere = λ e. refl }
sound_by part s t (Commands c) f m i = record { command_is = m; idle = λ e. refl; sourceless = no_source part f.command c f.run; nowhere = λ e. refl }
sound_by part s t (AddsWord w) f m i =
    let wcfg : is_wcfg f.command ≡ true = ap is_wcfg (i.command_is ∙ ap command_with m.1) in
    record { command_is = i.command_is ∙ ap command_with (sym m.0); idle = λ e. absurd cc; sourceless = i.sourceless; nowhere = i.nowhere }
sound_by part s t CopiesSource f m i = record { command_is = i.command_is ∙ ap command_with (sym m); idle = i.idle; sourceless = i.sourceless; nowhere = i.nowhere }
sound_by part s t (Reads count) f m i =
    record { command_is = i.command_is ∙ ap command_with (sym m); idle = i.idle; sourceless = i.sourceless; nowhere = given_nowhere (is_frame_address part f.base) f.given count i.nowhere }
sound_by part s t NothingAsked f m i = record { command_is = i.command_is ∙ ap command_with (sym m); idle = i.idle; sourceless = i.sourceless; nowhere = i.nowhere }

pub flow_sound : (part : PartData) (h : History) → IsSound part (settings_of part.idcode h) (flow_of part h)
unfolding flow_of
flow_sound part [] = record { command_is = refl; idle = λ e. refl; sourceless = λ e. refl; nowhere = λ e. refl }
flow_sound part (e ∷ h) =
    let s : Settings = settings_of part.idcode h in
    let now : IsSound part (settings_after part.idcode e.access s) (flow_by part (asked_after part.idcode h e.access) (flow_of part h)) =
    sound_by part s (settings_after part.idcode e.access s) (asked_after part.idcode h e.access) (flow_of part h) (asked_means s e.access) (flow_sound part h) in
    rw (settings_more part.idcode e h) now

-- ---- one access more

pub flow_more : (part : PartData) (e : Entry) (h : History) → flow_of part (e ∷ h) ≡ flow_by part (asked_after part.idcode h e.access) (flow_of part h)
unfolding flow_of
flow_more part e h = refl

pub memory_more : (part : PartData) (e : Entry) (h : History) → HaveSameFrames (memory_of part (e ∷ h)) (put_over (pairs_put part (asked_after part.idcode h e.access) (flow_of part h)) (memory_of part h))
unfolding memory_of
memory_more part e h far = refl

-- ---- a later history after an earlier one

pub flow_joined : (part : PartData) (later earlier : History) → flow_of part (later ++ earlier) ≡ flow_from part (settings_of part.idcode earlier) (flow_of part earlier) later
unfolding flow_of flow_from
flow_joined part [] earlier = refl
flow_joined part (e ∷ later) earlier =
    let s : Settings = settings_from part.idcode (settings_of part.idcode earlier) later in
    ap (λ (x : Settings). flow_by part (asked_under x e.access) (flow_of part (later ++ earlier))) (settings_joined part.idcode later earlier)
    ∙ ap (flow_by part (asked_under s e.access)) (flow_joined part later earlier)

pub pairs_same : (part : PartData) (access : Access) (s t : Settings) (f g : Flow) → s ≡ t → f ≡ g → pairs_put part (asked_under s access) f ≡ pairs_put part (asked_under t access) g
pairs_same part access s t f g e d = ap (λ (x : Settings). pairs_put part (asked_under x access) f) e ∙ ap (pairs_put part (asked_under t access)) d

pub memory_joined : (part : PartData) (later earlier : History) →
    HaveSameFrames (memory_of part (later ++ earlier)) (put_over (pairs_from part (settings_of part.idcode earlier) (flow_of part earlier) later) (memory_of part earlier))
unfolding memory_of pairs_from planned
memory_joined part [] earlier = λ far. refl
memory_joined part (e ∷ later) earlier =
    let s : Settings = settings_of part.idcode earlier in
    let f : Flow = flow_of part earlier in
    let second : List PlanRow = pairs_put part (asked_under (settings_from part.idcode s later) e.access) (flow_from part s f later) in
    let same : pairs_put part (asked_after part.idcode (later ++ earlier) e.access) (flow_of part (later ++ earlier)) ≡ second =
    pairs_same part e.access _ _ _ _ (settings_joined part.idcode later earlier) (flow_joined part later earlier) in
    put_twice (pairs_from part s f later) second (memory_of part earlier) (memory_of part (later ++ earlier)) (memory_of part (e ∷ later ++ earlier))
    (memory_joined part later earlier) (λ far. ap (λ (ps : List PlanRow). put_over ps (memory_of part (later ++ earlier)) far) same)

load_flow : (part : PartData) (w place : ℕ) (earlier : History) →
    flow_of part (entry (Write 1 w) place ∷ earlier) ≡ flow_loaded part (settings_of part.idcode earlier) (source_of part earlier) w
unfolding flow_of
load_flow part w place earlier =
    let i = flow_sound part earlier in
    ap (λ (c : Command). record (flow_loaded part (settings_of part.idcode earlier) (source_of part earlier) w) { command = c }) i.command_is

pub memory_after_load : (part : PartData) (later earlier : History) (w place : ℕ) →
    HaveSameFrames (memory_of part (later ++ entry (Write 1 w) place ∷ earlier)) (put_over (pairs_loaded part (settings_of part.idcode earlier) (source_of part earlier) w later) (memory_of part earlier))
unfolding memory_of planned
memory_after_load part later earlier w place far =
    memory_joined part later (entry (Write 1 w) place ∷ earlier) far
    ∙ ap (λ (f : Flow). put_over (pairs_from part (settings_of part.idcode earlier) f later) (memory_of part earlier) far) (load_flow part w place earlier)
