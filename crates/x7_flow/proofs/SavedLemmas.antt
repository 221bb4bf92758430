-- What is saved of frames leads back over one access.
use Rattle.std.proofs.Common.{◌≡◌, ℕ, ◌-◌, ◌&&◌, Bool, true, false, if◌then◌else◌, List, [], ◌∷◌, Option, None, Some, refl, sym, ap, subst, ◌∙◌, arith}
use Rattle.x7_packets.specs.History.{Entry, History}
use Rattle.x7_part.specs.Part.{PartData}
use Rattle.x7_memory.specs.FrameMap.{FrameMap, HaveSameFrames}
use Rattle.x7_memory.specs.PartFrames.{AreFramesOf, frame_at}
use Rattle.x7_memory.specs.Plan.{PlanRow, planned}
use Rattle.x7_memory.proofs.MapLemmas.{override_same, same_memory}
use Rattle.x7_regs.specs.Command.{command_with}
use Rattle.x7_pipeline.specs.Runs.{put_over}
use Rattle.x7_pipeline.specs.FarAsRead.{is_frame_address}
use Rattle.x7_pipeline.specs.Copies.{copied_pairs, is_mfw}
use Rattle.x7_pipeline.specs.Pipeline.{PipelineData}
use Rattle.x7_pipeline.specs.Saved.{ChangesAt, SavedState, next_put}
use Rattle.x7_pipeline.proofs.SavedLemmas.{changes_copy, changes_none, taken_back, word_changes as one_word}
use Rattle.x7_flow.specs.Asking.{Asked, LoadsFar, Commands, AddsWord, CopiesSource, Reads, NothingAsked}
use Rattle.x7_flow.specs.Settings.{Settings, settings_after, settings_of}
use Rattle.x7_flow.specs.HistoryFlow.{Flow, asked_after, flow_of}
use Rattle.x7_flow.specs.FrameMemory.{written_frames_more, memory_of, pairs_put}
use Rattle.x7_flow.specs.Saved.{FramesBack, SavesFrames}
use Rattle.x7_flow.specs.Sound.{IsSound}
use Rattle.x7_flow.specs.Standing.{FramesFit, FramesStandFor, FramesState, HasFlow}
use Rattle.x7_flow.proofs.FlowLemmas.{flow_sound, landed_grows, memory_more, put_none}
use Rattle.x7_flow.proofs.SettingsLemmas.{Means, asked_means}

-- ---- what an access puts

-- a word of frame data changes the memory at most where the next one would put a frame
word_changes : (part : PartData) (p : PipelineData) (f : Flow) (w : ℕ) (old new : FrameMap) → HasFlow part p f → is_mfw f.command ≡ false → HaveSameFrames new (put_over (written_frames_more part f.base f.run) old) → ChangesAt (next_put part p) old new
word_changes part p f w old new h words same =
    one_word part p f.command f.base f.run f.source f.given w old new h.stands words (record { added = written_frames_more part f.base f.run; grows = landed_grows part f.base w f.run; memory = same })

copy_by : (part : PartData) (p : PipelineData) (base : ℕ) (source : Option (List ℕ)) (old new : FrameMap) (m b : Bool) → p.base ≡ base → p.source ≡ source → is_mfw p.command ≡ m → is_frame_address part p.base ≡ b
    → HaveSameFrames new (put_over (if m && b then copied_pairs base source else []) old) → ChangesAt (next_put part p) old new
copy_by part p base (Some frame) old new true true e g h i s = rw (h, g, i, e) (changes_copy base (Some frame) old new s)
copy_by part p base None old new true true e g h i s = changes_none (next_put part p) old new (λ far. s far ∙ put_none [] old refl far)
copy_by part p base source old new true false e g h i s = changes_none (next_put part p) old new (λ far. s far ∙ put_none [] old refl far)
copy_by part p base source old new false b e g h i s = changes_none (next_put part p) old new (λ far. s far ∙ put_none [] old refl far)

access_changes : (part : PartData) (s : Settings) (a : Asked) (t : ℕ) (p : PipelineData) (f : Flow) (old new : FrameMap) → Means s a t → IsSound part s f → HasFlow part p f → HaveSameFrames new (put_over (pairs_put part a f) old) → ChangesAt (next_put part p) old new
access_changes part s (LoadsFar w) t p f old new m i h same = changes_none (next_put part p) old new (λ far. same far ∙ put_none [] old refl far)
access_changes part s (Commands c) t p f old new m i h same = changes_none (next_put part p) old new (λ far. same far ∙ put_none [] old refl far)
access_changes part s (AddsWord w) t p f old new m i h same =
    word_changes part p f w old new h (ap is_mfw (i.command_is ∙ ap command_with m.1)) same
access_changes part s CopiesSource t p f old new m i h same =
    copy_by part p f.base f.source old new (is_mfw f.command) (is_frame_address part f.base) h.stands.base_is h.stands.source_is (ap is_mfw h.stands.command_is) (ap (is_frame_address part) h.stands.base_is) same
access_changes part s (Reads count) t p f old new m i h same = changes_none (next_put part p) old new (λ far. same far ∙ put_none [] old refl far)
access_changes part s NothingAsked t p f old new m i h same = changes_none (next_put part p) old new (λ far. same far ∙ put_none [] old refl far)

-- ---- back

back_over : (part : PartData) (s : SavedState) (old new : FramesState) → SavesFrames part s old → FramesFit part old → FramesFit part new → ChangesAt (next_put part old.pipeline) (frame_at part old.memory) (frame_at part new.memory) → FramesBack part s new old
back_over part s old new k o n c = record {
  pipeline = k.pipeline;
  memory = rw k.pair (taken_back part (next_put part old.pipeline) old.memory new.memory o.frames_fit n.frames_fit c);
  frames_fit = o.frames_fit;
}

pub back_same : (part : PartData) (s : SavedState) (old new : FramesState) → SavesFrames part s old → FramesFit part old → FramesFit part new → HaveSameFrames (frame_at part new.memory) (frame_at part old.memory) → FramesBack part s new old
back_same part s old new k o n same = back_over part s old new k o n (changes_none (next_put part old.pipeline) (frame_at part old.memory) (frame_at part new.memory) same)

pub back_one : (part : PartData) (s : SavedState) (old new : FramesState) (h : History) (e : Entry) → SavesFrames part s old → FramesFit part old → FramesFit part new → FramesStandFor part old h 0 → HaveSameFrames (frame_at part new.memory) (memory_of part (e ∷ h))
    → FramesBack part s new old
back_one part s old new h e k o n stands same =
    let f : Flow = flow_of part h in
    let all : f.given - 0 ≡ f.given = omega arith in
    let flow : HasFlow part old.pipeline f = subst (λ (g : ℕ). HasFlow part old.pipeline (record f { given = g })) all stands.flow in
    let pairs : List PlanRow = pairs_put part (asked_after part.idcode h e.access) f in
    let put : HaveSameFrames (frame_at part new.memory) (put_over pairs (frame_at part old.memory)) =
    λ far. same far ∙ memory_more part e h far ∙ sym (override_same (frame_at part old.memory) (memory_of part h) (planned pairs) (planned pairs) stands.memory (λ a. refl) far) in
    back_over part s old new k o n (access_changes part (settings_of part.idcode h) (asked_after part.idcode h e.access) (settings_after part.idcode e.access (settings_of part.idcode h)).command_code old.pipeline f (frame_at part old.memory) (frame_at part new.memory)
    (asked_means (settings_of part.idcode h) e.access) (flow_sound part h) flow put)

-- the frames to which the saved ones lead back are just these
pub back_is : (part : PartData) (s : SavedState) (new old now : FramesState) → FramesBack part s new old → now.pipeline ≡ s.pipeline → AreFramesOf part now.memory → HaveSameFrames (frame_at part now.memory) (put_over s.pair (frame_at part new.memory)) → now ≡ old
back_is part s new old now b p n m =
    let memory : now.memory ≡ old.memory = same_memory part now.memory old.memory n b.frames_fit (λ far. m far ∙ b.memory far) in
    ap (λ (q : PipelineData). record { pipeline = q; memory = now.memory }) (p ∙ b.pipeline) ∙ ap (λ (t : List (List ℕ)). record { pipeline = old.pipeline; memory = t }) memory
