-- Words of frame data for which there are slots: none is refused, and what they leave.
use Rattle.std.proofs.Common.{◌≡◌, ◌&&◌, ◌+◌, ◌*◌, ◌<◌, ◌≤◌, ℕ, Bool, true, false, if◌then◌else◌, None, Some, List, [], ◌∷◌, length, refl, sym, ap, ◌∙◌, arith}
use Rattle.std.proofs.lemmas.Bool.Decides.{nat_tests}
use Rattle.std.proofs.Math.Nat.{mul-le-mul_left}
use Rattle.x7_packets.specs.History.{History, Write, entered_all, entry}
use Rattle.x7_packets.specs.Packet.{payload_steps}
use Rattle.x7_part.specs.Part.{PartData, frame_words}
use Rattle.x7_part.specs.Slot.{slots_from}
use Rattle.x7_memory.specs.FrameMap.{HaveSameFrames}
use Rattle.x7_pipeline.specs.declared.fault.RunFault.TheVariants.{Overrun}
use Rattle.x7_pipeline.specs.FarAsRead.{is_frame_address}
use Rattle.x7_pipeline.specs.Fault.{address_fault, completes, has_filled, write_fault}
use Rattle.x7_pipeline.specs.Runs.{frames_of, written_frames, onto, put_over}
use Rattle.x7_pipeline.proofs.LawLemmas.{landed_empty, lands_over}
use Rattle.x7_pipeline.proofs.RunLemmas.{length_run}
use Rattle.x7_flow.specs.HistoryFlow.{Flow, base_of, fault_by, flow_of, frame_fault, run_of}
use Rattle.x7_flow.specs.FrameMemory.{memory_of}
use Rattle.x7_flow.specs.Settings.{settings_of, takes_frames}
use Rattle.x7_flow.specs.WordsTaken.{NoneRefused}
use Rattle.x7_regs.specs.declared.register.Reg.TheVariants as reg
use Rattle.x7_flow.proofs.FlowLemmas.{put_none}
use Rattle.x7_flow.proofs.ManyLemmas.{word_asked, word_flow, words_flow, words_land}

-- a word for which there is a slot isn't refused
pub write_none : (part : PartData) (base : ℕ) (run : List ℕ) → is_frame_address part base ≡ true → length run < frame_words part * length (slots_from part base) → write_fault part base run ≡ None
unfolding write_fault address_fault
write_none part base [] t l = rw t refl
write_none part base (w ∷ run) t l = by (completes part (w ∷ run)) (has_filled part base (w ∷ run)) refl refl
  where
    by : (a b : Bool) → completes part (w ∷ run) ≡ a → has_filled part base (w ∷ run) ≡ b → (if a && b then Some Overrun else None) ≡ None
    by false b e f = refl
    by true false e f = refl
    by true true e f =
        let full : length (slots_from part base) ≤ length (frames_of (frame_words part) (w ∷ run)) = grind (arith, nat_tests, f) in
        let more : frame_words part * length (slots_from part base) ≤ frame_words part * length (frames_of (frame_words part) (w ∷ run)) = mul-le-mul_left (frame_words part) full in
        absurd (omega (arith, l, more, length_run (frame_words part) (w ∷ run)))

-- of words for all of which there are slots none is refused
pub words_none : (part : PartData) (n : ℕ) (ws : List ℕ) (h : History) → takes_frames (settings_of part.idcode h) ≡ true → is_frame_address part (base_of part h) ≡ true
    → length (run_of part h) + length ws ≤ frame_words part * length (slots_from part (base_of part h)) → NoneRefused part reg.Fdri n ws h
unfolding NoneRefused
words_none part n [] h t a l = tt
words_none part n (w ∷ ws) h t a l =
    let flow : flow_of part (entry (Write 2 w) (n + 4) ∷ h) ≡ record (flow_of part h) { run = w ∷ run_of part h } = word_flow part w (n + 4) h t in
    let base : base_of part (entry (Write 2 w) (n + 4) ∷ h) ≡ base_of part h = ap (λ (f : Flow). f.base) flow in
    let run : length (run_of part (entry (Write 2 w) (n + 4) ∷ h)) ≡ length (run_of part h) + 1 = omega (arith, ap (λ (f : Flow). length f.run) flow) in
    let slots : frame_words part * length (slots_from part (base_of part (entry (Write 2 w) (n + 4) ∷ h))) ≡ frame_words part * length (slots_from part (base_of part h)) = ap (λ (x : ℕ). frame_words part * length (slots_from part x)) base in
    let fault : frame_fault part h (Write 2 w) ≡ None =
    ap (λ a. fault_by part a (flow_of part h)) (word_asked (settings_of part.idcode h) w t) ∙ write_none part (base_of part h) (run_of part h) a (omega (arith, l)) in
    (fault, words_none part (n + 4) ws (entry (Write 2 w) (n + 4) ∷ h) t (ap (is_frame_address part) base ∙ a) (omega (arith, l, run, slots)))

-- the memory that words leave which begin a run
pub words_memory : (part : PartData) (n : ℕ) (ws : List ℕ) (h : History) → takes_frames (settings_of part.idcode h) ≡ true → run_of part h ≡ []
    → HaveSameFrames (memory_of part (entered_all n (payload_steps 2 ws) h)) (put_over (written_frames part (base_of part h) (onto ws [])) (memory_of part h))
words_memory part n ws h t e =
    let base : ℕ = base_of part h in
    let first : HaveSameFrames (memory_of part h) (put_over (written_frames part base (run_of part h)) (memory_of part h)) = λ far. sym (put_none (written_frames part base (run_of part h)) (memory_of part h) (ap (written_frames part base) e ∙ landed_empty part base) far) in
    let all : HaveSameFrames (memory_of part (entered_all n (payload_steps 2 ws) h)) (put_over (written_frames part base (onto ws (run_of part h))) (memory_of part h)) =
    lands_over part base (run_of part h) (onto ws (run_of part h)) (memory_of part h) (memory_of part h) (memory_of part (entered_all n (payload_steps 2 ws) h)) (words_land part n ws h t) first in
    λ far. all far ∙ ap (λ t. put_over (written_frames part base (onto ws t)) (memory_of part h) far) e

pub words_run : (part : PartData) (n : ℕ) (ws : List ℕ) (h : History) → takes_frames (settings_of part.idcode h) ≡ true → run_of part h ≡ [] → flow_of part (entered_all n (payload_steps 2 ws) h) ≡ record (flow_of part h) { run = onto ws [] }
words_run part n ws h t e = words_flow part n ws h t ∙ ap (λ (x : List ℕ). record (flow_of part h) { run = onto ws x }) e
