-- Item by item through what a planner writes: nothing stops the device, and what the memory gets.
use Rattle.std.proofs.Common.{◌≡◌, ◌==◌, ◌||◌, ◌+◌, ◌*◌, ◌/◌, ◌%◌, ◌^◌, ◌≤◌, ℕ, Bool, true, false, not, None, List, [], ◌∷◌, length, refl, sym, ap, subst, ◌∙◌, arith}
use Rattle.std.proofs.lemmas.Bool.Decides.{nat_tests}
use Rattle.x7_regs.specs.declared.command.Command.TheVariants.{Wcfg}
use Rattle.x7_regs.specs.declared.register.Reg.TheVariants.{Far}
use Rattle.x7_packets.specs.History as access
use Rattle.x7_packets.specs.History.{History, command_held, entered_all, entry}
use Rattle.x7_packets.specs.Packet.{payload_steps}
use Rattle.x7_startup.specs.Startup.{StartupProgress}
use Rattle.x7_part.specs.Part.{PartData, frame_words}
use Rattle.x7_part.specs.Slot.{slots_from}
use Rattle.x7_memory.specs.FrameMap.{HaveSameFrames, FrameMap}
use Rattle.x7_memory.specs.Plan.{PlanRow, planned}
use Rattle.x7_memory.proofs.MapLemmas.{override_same}
use Rattle.x7_pipeline.specs.FarAsRead.{is_frame_address, loaded_base}
use Rattle.x7_pipeline.specs.Runs.{written_frames, onto, put_over}
use Rattle.x7_words.specs.Word.{field_of}
use Rattle.x7_regs.specs.Control.{forbids_reading, forbids_writing}
use Rattle.x7_flow.specs.Controls.{ctl0_held, has_idcode}
use Rattle.x7_flow.specs.HistoryFlow.{Flow, base_of, frame_fault, run_of}
use Rattle.x7_flow.specs.FrameMemory.{memory_of}
use Rattle.x7_flow.specs.Settings.{Settings, settings_of, takes_frames}
use Rattle.x7_flow.specs.WordsTaken.{NoneRefused}
use Rattle.x7_regs.specs.declared.register.Reg.TheVariants as reg
use Rattle.x7_flow.proofs.FlowLemmas.{flow_more}
use Rattle.x7_flow.proofs.ManyLemmas.{words_settings}
use Rattle.x7_flow.proofs.QuietLemmas.{quiet_memory}
use Rattle.x7_engine.specs.declared.kept.Kept.{Kept}
use Rattle.x7_engine.specs.Stop.{why_besides_frames}
use Rattle.x7_effects.proofs.Items.{Write, WriteLong, item_entered, writes_entered}
use Rattle.x7_effects.proofs.Checking.{Put, piece_length}
use Rattle.x7_effects.proofs.Streams.{command, one}
use Rattle.x7_effects.proofs.CalmLemmas.{IsOff}
use Rattle.x7_flow.proofs.RoomLemmas.{words_memory, words_none, words_run}
use Rattle.x7_effects.proofs.GoingLemmas.{IsGoing, IsQuiet, data_passes, far_passes, going_access, going_bytes, why_none, quiet_far, written}
use Rattle.x7_effects.proofs.ItemLemmas.{payload_enters}

-- ---- one word written to a register

pub going_one : (part : PartData) (kept : Kept) (startup : StartupProgress) (h : History) (n r w : ℕ) → IsQuiet h (access.Write r w) → why_besides_frames part kept h (access.Write r w) ≡ None → frame_fault part h (access.Write r w) ≡ None
    → IsOff kept (entry (access.Write r w) (n + 4 + 4) ∷ h) → IsGoing part kept startup h n → IsGoing part kept startup (item_entered n (Write r (w ∷ [])) h) (n + 8)
going_one part kept startup h n r w q why fault off g =
    going_bytes part kept startup (entry (access.Write r w) (n + 4 + 4) ∷ h) (n + 4 + 4) (n + 8) (omega arith)
    (going_access part kept startup h (access.Write r w) n (n + 4 + 4) (omega arith) g q (why_none part kept h (access.Write r w) why fault) off)

same_then : (l m n : FrameMap) → HaveSameFrames l m → HaveSameFrames m n → HaveSameFrames l n
same_then l m n a b far = a far ∙ b far

pub put_same : (xs ys : List PlanRow) (m n : FrameMap) → xs ≡ ys → HaveSameFrames m n → HaveSameFrames (put_over xs m) (put_over ys n)
put_same xs ys m n e s = override_same m n (planned xs) (planned ys) s (λ far. ap (λ t. planned t far) e)

-- ---- words of frame data

pub going_words : (part : PartData) (kept : Kept) (startup : StartupProgress) (h : History) (p : ℕ) (ws : List ℕ) → has_idcode part.idcode h ≡ true → NoneRefused part reg.Fdri p ws h → IsGoing part kept startup h p
    → IsGoing part kept startup (writes_entered p 2 ws h) (p + 4 * length ws)
unfolding NoneRefused
going_words part kept startup h p [] m none g = going_bytes part kept startup h p (p + 4 * 0) (omega arith) g
going_words part kept startup h p (w ∷ ws) m none g =
    let here : IsGoing part kept startup (entry (access.Write 2 w) (p + 4) ∷ h) (p + 4) =
    going_access part kept startup h (access.Write 2 w) p (p + 4) (omega arith) g (record { start = refl; shutdown = refl; desync = refl })
    (why_none part kept h (access.Write 2 w) (data_passes part kept h w m) none.0) g.calm.off in
    let end : p + 4 + 4 * length ws ≡ p + 4 * length (w ∷ ws) = omega arith in
    subst (λ (k : ℕ). IsGoing part kept startup (writes_entered (p + 4) 2 ws (entry (access.Write 2 w) (p + 4) ∷ h)) k) end
    (going_words part kept startup (entry (access.Write 2 w) (p + 4) ∷ h) (p + 4) ws m none.1 here)

-- where SBITS allow reading they allow writing
no_sbits : (ctl0 : ℕ) → ctl0 / 2 ^ 4 % 2 ^ 2 ≡ 0 → ctl0 / 2 ^ 5 % 2 ^ 1 ≡ 1 → ⊥
no_sbits ctl0 e f = omega (arith, e, f)

pub allows_writing : (ctl0 : ℕ) → forbids_reading ctl0 ≡ false → forbids_writing ctl0 ≡ false
allows_writing ctl0 e = by (field_of 4 2 ctl0 == 0) (field_of 5 1 ctl0 == 1) refl refl e
  where
    by : (a b : Bool) → (field_of 4 2 ctl0 == 0) ≡ a → (field_of 5 1 ctl0 == 1) ≡ b → not a ≡ false → b ≡ false
    by false b f g e = absurd (cc)
    by true false f g e = refl
    by true true f g e = absurd (no_sbits ctl0 (grind (arith, nat_tests, f)) (grind (arith, nat_tests, g)))

pub takes : (part : PartData) (h : History) → has_idcode part.idcode h ≡ true → forbids_reading (ctl0_held h) ≡ false → command_held h ≡ 1 → takes_frames (settings_of part.idcode h) ≡ true
takes part h m f e = rw (m, allows_writing (ctl0_held h) f, e) refl

-- ---- a device whose IDCODE was written and that may be written, with this memory

pub record IsReady (part : PartData) (kept : Kept) (startup : StartupProgress) (h : History) (n : ℕ) (m : FrameMap) : Type 0 where
  pub going : IsGoing part kept startup h n
  pub matched : has_idcode part.idcode h ≡ true
  pub allows : forbids_reading (ctl0_held h) ≡ false
  pub memory : HaveSameFrames (memory_of part h) m

-- a device whose IDCODE was written and that may be written, after a command and a FAR load
pub record IsLoaded (part : PartData) (kept : Kept) (startup : StartupProgress) (held far : ℕ) (h : History) (n : ℕ) (m : FrameMap) : Type 0 where
  pub ready : IsReady part kept startup h n m
  pub held_is : command_held h ≡ held
  pub base_is : base_of part h ≡ far
  pub run_is : run_of part h ≡ []

-- an access that writes neither FDRI nor MFWR leaves the memory
pub quiet_one : (part : PartData) (h : History) (a : access.Access) (place : ℕ) (m : FrameMap) → (access.writes 2 a || access.writes 10 a) ≡ false → HaveSameFrames (memory_of part h) m → HaveSameFrames (memory_of part (entry a place ∷ h)) m
quiet_one part h a place m q s = same_then (memory_of part (entry a place ∷ h)) (memory_of part h) m (quiet_memory part (entry a place ∷ []) h (q, tt)) s

pub ready_load : (part : PartData) (kept : Kept) (startup : StartupProgress) (far : ℕ) (h : History) (n : ℕ) (m : FrameMap) → IsReady part kept startup h n m → loaded_base part far ≡ far
    → IsLoaded part kept startup 1 far (written n (command Wcfg ∷ one Far far ∷ []) h) (n + 8 + 8) m
ready_load part kept startup far h n m r s =
    let g : History = entry (access.Write 4 1) (n + 4 + 4) ∷ h in
    let first : IsGoing part kept startup g (n + 8) = going_one part kept startup h n 4 1 (record { start = refl; shutdown = refl; desync = refl }) refl refl r.going.calm.off r.going in
    let second : IsGoing part kept startup (item_entered (n + 8) (Write 1 (far ∷ [])) g) (n + 8 + 8) =
    going_one part kept startup g (n + 8) 1 far (quiet_far g far 1 refl refl refl refl refl) (far_passes part kept g far 1 refl refl refl refl) refl first.calm.off first in
    let loaded = flow_more part (entry (access.Write 1 far) (n + 8 + 4 + 4)) g in
    record {
      ready = record {
        going = second;
        matched = r.matched;
        allows = r.allows;
        memory = quiet_one part g (access.Write 1 far) (n + 8 + 4 + 4) m refl (quiet_one part h (access.Write 4 1) (n + 4 + 4) m refl r.memory);
      };
      held_is = refl;
      base_is = ap (λ (f : Flow). f.base) loaded ∙ s;
      run_is = ap (λ (f : Flow). f.run) loaded;
    }

-- a device that took these words of frame data from a FAR load on
pub record HasWritten (part : PartData) (kept : Kept) (startup : StartupProgress) (far : ℕ) (words : List ℕ) (h : History) (n : ℕ) (m : FrameMap) : Type 0 where
  pub ready : IsReady part kept startup h n (put_over (written_frames part far (onto words [])) m)
  pub held_is : command_held h ≡ 1
  pub run_is : run_of part h ≡ onto words []

pub loaded_words : (part : PartData) (kept : Kept) (startup : StartupProgress) (far : ℕ) (h : History) (n : ℕ) (m : FrameMap) (ws : List ℕ) → IsLoaded part kept startup 1 far h n m → is_frame_address part far ≡ true
    → length ws ≤ frame_words part * length (slots_from part far) → HasWritten part kept startup far ws (written n (Put (WriteLong 2 ws) ∷ []) h) (n + 4 * piece_length (Put (WriteLong 2 ws))) m
loaded_words part kept startup far h n m ws l a few =
    let t : takes_frames (settings_of part.idcode h) ≡ true = takes part h l.ready.matched l.ready.allows l.held_is in
    let g : History = writes_entered (n + 8) 2 ws h in
    let same : entered_all (n + 8) (payload_steps 2 ws) h ≡ g = payload_enters (n + 8) 2 ws h in
    let settings : settings_of part.idcode g ≡ settings_of part.idcode h = ap (settings_of part.idcode) (sym same) ∙ words_settings part.idcode (n + 8) ws h in
    let there : is_frame_address part (base_of part h) ≡ true = ap (is_frame_address part) l.base_is ∙ a in
    let none : length (run_of part h) ≡ 0 = ap length l.run_is in
    let slots : frame_words part * length (slots_from part (base_of part h)) ≡ frame_words part * length (slots_from part far) = ap (λ (x : ℕ). frame_words part * length (slots_from part x)) l.base_is in
    let refused : NoneRefused part reg.Fdri (n + 8) ws h = words_none part (n + 8) ws h t there (omega (arith, few, none, slots)) in
    let going : IsGoing part kept startup g (n + 8 + 4 * length ws) = going_words part kept startup h (n + 8) ws l.ready.matched refused (going_bytes part kept startup h n (n + 8) (omega arith) l.ready.going) in
    let end : n + 8 + 4 * length ws ≡ n + 4 * piece_length (Put (WriteLong 2 ws)) = omega arith in
    let pairs : written_frames part (base_of part h) (onto ws []) ≡ written_frames part far (onto ws []) = ap (λ (x : ℕ). written_frames part x (onto ws [])) l.base_is in
    let memory : HaveSameFrames (memory_of part g) (put_over (written_frames part (base_of part h) (onto ws [])) (memory_of part h)) =
    subst (λ (x : History). HaveSameFrames (memory_of part x) (put_over (written_frames part (base_of part h) (onto ws [])) (memory_of part h))) same (words_memory part (n + 8) ws h t l.run_is) in
    record {
      ready = record {
        going = subst (λ (k : ℕ). IsGoing part kept startup g k) end going;
        matched = ap (λ (s : Settings). s.has_idcode) settings ∙ l.ready.matched;
        allows = ap (λ (s : Settings). forbids_reading s.ctl0) settings ∙ l.ready.allows;
        memory = same_then (memory_of part g) _ (put_over (written_frames part far (onto ws [])) m) memory (put_same (written_frames part (base_of part h) (onto ws [])) (written_frames part far (onto ws [])) (memory_of part h) m pairs l.ready.memory);
      };
      held_is = ap (λ (s : Settings). s.command_code) settings ∙ l.held_is;
      run_is = ap (run_of part) (sym same) ∙ ap (λ (f : Flow). f.run) (words_run part (n + 8) ws h t l.run_is);
    }
