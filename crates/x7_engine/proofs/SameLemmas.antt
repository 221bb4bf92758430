-- Histories that differ in what was asked before RCRC: from there on they ask the same of a device.
use Rattle.std.proofs.Common.{◌≡◌, ◌==◌, ◌&&◌, ◌||◌, ◌%◌, ◌^◌, ◌-◌, ◌≤◌, ◌⊎◌, inl, inr, ℕ, Bool, true, false, if◌then◌else◌, Option, None, List, [], ◌∷◌, ◌++◌, replicate, refl, ap, sym, subst, ◌∙◌, append_assoc, append-nil}
use Rattle.x7_packets.specs.History.{Access, Entry, History, Write, command_held, entry, executed_by, executes, is_command, last_word, written, writes}
use Rattle.x7_packets.specs.CheckedWrites.{RegisterWrite, clears, checked_writes, with_write}
use Rattle.x7_crc.specs.RunningCheck.{in_order, running_check}
use Rattle.x7_crc.specs.Check.{check_of}
use Rattle.x7_part.specs.Part.{PartData}
use Rattle.x7_pipeline.specs.Copies.{source_after}
use Rattle.x7_pipeline.specs.FarAsRead.{far_of}
use Rattle.x7_pipeline.specs.Runs.{put_over}
use Rattle.x7_pipeline.proofs.LawLemmas.{far_loaded, no_source}
use Rattle.x7_regs.specs.Command.{command_by}
use Rattle.x7_regs.specs.declared.command.Command.{Command}
use Rattle.x7_startup.specs.Startup.{Call, StartupProgress, is_armed, progress_of, since_shutdown}
use Rattle.x7_startup.specs.Startup as call
use Rattle.x7_startup.proofs.CallLemmas.{progress_after_desync, further, is_armed_arm, is_armed_bytes, is_armed_desync, is_armed_drop, progress_arm, progress_bytes, progress_desync, progress_drop}
use Rattle.x7_flow.specs.Controls.{ctl0_held, has_idcode, mask_held, masked_word, names_part}
use Rattle.x7_flow.specs.HistoryFlow.{Flow, asked_under, asked_after, fault_by, flow_by, flow_of, frame_fault}
use Rattle.x7_flow.specs.FrameMemory.{memory_of, pairs_put}
use Rattle.x7_flow.specs.Settings.{Settings, settings_of}
use Rattle.x7_engine.specs.Registers.{clears_check_by, clears_check, is_pending, is_pending_after, takes_shutdown}
use Rattle.x7_engine.specs.Startup.{startup_call, startup_calls}

-- ---- startup, by two lists of calls

abbrev pub SameStartup : List Call → List Call → Type 0
SameStartup a b = (is_armed false (since_shutdown a) ≡ is_armed false (since_shutdown b)) × (progress_of a ≡ progress_of b)

one_more : (x : Call) (a b : List Call) → SameStartup a b → SameStartup (a ++ x ∷ []) (b ++ x ∷ [])
one_more call.Arm a b s = (is_armed_arm a ∙ sym (is_armed_arm b), progress_arm a ∙ s.1 ∙ sym (progress_arm b))
one_more (call.Desync d) a b s = (
  is_armed_desync a d ∙ sym (is_armed_desync b d),
  progress_desync a d
      ∙ ap (λ (p : StartupProgress). progress_after_desync p (is_armed false (since_shutdown a)) d) s.1
      ∙ ap (λ (x : Bool). progress_after_desync (progress_of b) x d) s.0
      ∙ sym (progress_desync b d),
)
one_more call.Byte a b s = (is_armed_bytes a 1 ∙ s.0 ∙ sym (is_armed_bytes b 1), progress_bytes a 1 ∙ ap (further 1) s.1 ∙ sym (progress_bytes b 1))
one_more call.DropBack a b s = (is_armed_drop a ∙ sym (is_armed_drop b), progress_drop a ∙ sym (progress_drop b))

more_calls : (t a b : List Call) → SameStartup a b → SameStartup (a ++ t) (b ++ t)
more_calls [] a b s = subst (λ (x : List Call). SameStartup x (b ++ [])) (sym (append-nil a)) (subst (λ (y : List Call). SameStartup a y) (sym (append-nil b)) s)
more_calls (x ∷ t) a b s =
    subst (λ (y : List Call). SameStartup y (b ++ x ∷ t)) (append_assoc a (x ∷ []) t)
    (subst (λ (y : List Call). SameStartup ((a ++ x ∷ []) ++ t) y) (append_assoc b (x ∷ []) t) (more_calls t (a ++ x ∷ []) (b ++ x ∷ []) (one_more x a b s)))

-- startup stays the same with an access that asks the same of it, and with bytes
after_access : (low : ℕ) (g h : History) (e : Entry) → low ≤ e.place → ((n : ℕ) → low ≤ n → SameStartup (startup_calls g n) (startup_calls h n)) → startup_call g e.access ≡ startup_call h e.access
    → (n : ℕ) → low ≤ n → SameStartup (startup_calls (e ∷ g) n) (startup_calls (e ∷ h) n)
after_access low g h e l s same n m =
    let bytes : List Call = replicate (n - e.place) call.Byte in
    more_calls bytes (startup_calls g e.place ++ startup_call g e.access) (startup_calls h e.place ++ startup_call h e.access)
    (subst (λ (c : List Call). SameStartup (startup_calls g e.place ++ startup_call g e.access) (startup_calls h e.place ++ c)) same (more_calls (startup_call g e.access) (startup_calls g e.place) (startup_calls h e.place) (s e.place l)))

-- ---- what two histories have left of a device

-- from a place on, two histories have left the same, but for WBSTAR's word, CTL1, GHIGH_B, the watchdog's count, and
-- whether IPROG was written
pub record IsSame (part : PartData) (low : ℕ) (g h : History) : Type 0 where
  pub words : (r d : ℕ) → (16 == r) ≡ false → last_word r d g ≡ last_word r d h
  pub ctl0 : ctl0_held g ≡ ctl0_held h
  pub matched : has_idcode part.idcode g ≡ has_idcode part.idcode h
  pub checked_are : checked_writes g ≡ checked_writes h
  pub pending : is_pending g ≡ is_pending h
  pub flow : flow_of part g ≡ flow_of part h
  pub memory : memory_of part g ≡ memory_of part h
  pub startup : (n : ℕ) → low ≤ n → SameStartup (startup_calls g n) (startup_calls h n)

module _ (part : PartData) (low : ℕ) (g h : History) (s : IsSame part low g h) where
  pub held : command_held g ≡ command_held h
  held = ap (λ (w : ℕ). w % 2 ^ 5) (s.words 4 0 refl)

  pub mask : mask_held g ≡ mask_held h
  mask = s.words 6 0 refl

  pub check : running_check g ≡ running_check h
  check = ap (λ (w : List RegisterWrite). check_of (in_order w)) s.checked_are

  settings : settings_of part.idcode g ≡ settings_of part.idcode h
  settings =
      ap (λ (x : Bool). record { has_idcode = x; mask = mask_held g; ctl0 = ctl0_held g; command_code = command_held g }) s.matched
      ∙ ap (λ (x : ℕ). record { has_idcode = has_idcode part.idcode h; mask = x; ctl0 = ctl0_held g; command_code = command_held g }) mask
      ∙ ap (λ (x : ℕ). record { has_idcode = has_idcode part.idcode h; mask = mask_held h; ctl0 = x; command_code = command_held g }) s.ctl0
      ∙ ap (λ (x : ℕ). record { has_idcode = has_idcode part.idcode h; mask = mask_held h; ctl0 = ctl0_held h; command_code = x }) held

  cleared : (a : Access) → clears_check g a ≡ clears_check h a
  cleared a = ap (λ (c : ℕ). clears_check_by (executed_by c a) (running_check g) a) held ∙ ap (λ (k : ℕ). clears_check_by (executed_by (command_held h) a) k a) check

  takes : (a : Access) → takes_shutdown g a ≡ takes_shutdown h a
  takes a = ap (λ (c : Bool). c && is_pending g) (cleared a) ∙ ap (λ (p : Bool). clears_check h a && p) s.pending

  calls : (a : Access) → startup_call g a ≡ startup_call h a
  calls a =
      ap (λ (c : ℕ). if is_command 5 (executed_by c a) then call.Arm ∷ [] else if takes_shutdown g a then call.DropBack ∷ [] else if is_command 13 (executed_by c a) then call.Desync (last_word 9 0 g) ∷ [] else []) held
      ∙ ap (λ (t : Bool). if executes 5 h a then call.Arm ∷ [] else if t then call.DropBack ∷ [] else if executes 13 h a then call.Desync (last_word 9 0 g) ∷ [] else []) (takes a)
      ∙ ap (λ (w : ℕ). if executes 5 h a then call.Arm ∷ [] else if takes_shutdown h a then call.DropBack ∷ [] else if executes 13 h a then call.Desync w ∷ [] else []) (s.words 9 0 refl)

  pub faults : (a : Access) → frame_fault part g a ≡ frame_fault part h a
  faults a = ap (λ (x : Settings). fault_by part (asked_under x a) (flow_of part g)) settings ∙ ap (fault_by part (asked_after part.idcode h a)) s.flow

  flows : (e : Entry) → flow_of part (e ∷ g) ≡ flow_of part (e ∷ h)
  unfolding flow_of
  flows e = ap (λ (x : Settings). flow_by part (asked_under x e.access) (flow_of part g)) settings ∙ ap (flow_by part (asked_after part.idcode h e.access)) s.flow

  memories : (e : Entry) → memory_of part (e ∷ g) ≡ memory_of part (e ∷ h)
  unfolding memory_of
  memories e =
      ap (λ (x : Settings). put_over (pairs_put part (asked_under x e.access) (flow_of part g)) (memory_of part g)) settings
      ∙ ap (λ (f : Flow). put_over (pairs_put part (asked_after part.idcode h e.access) f) (memory_of part g)) s.flow
      ∙ ap (put_over (pairs_put part (asked_after part.idcode h e.access) (flow_of part h))) s.memory

  -- two histories that are the same to the device stay so with an access more
  pub same_more : (e : Entry) → low ≤ e.place → IsSame part low (e ∷ g) (e ∷ h)
  same_more e l =
      let a : Access = e.access in record {
        words = λ r d o. ap (written r a) (s.words r d o);
        ctl0 = ap (λ (m : ℕ). masked_word 5 m a (ctl0_held g)) mask ∙ ap (masked_word 5 (mask_held h) a) s.ctl0;
        matched = ap (λ (x : Bool). names_part part.idcode a || x) s.matched;
        checked_are = ap (λ (c : ℕ). if is_command 7 (executed_by c a) || writes 0 a then [] else with_write a (checked_writes g)) held
            ∙ ap (λ (w : List RegisterWrite). if clears h a then [] else with_write a w) s.checked_are;
        pending = ap (λ (c : ℕ). is_pending_after (executed_by c a) (clears_check g a) (is_pending g)) held
            ∙ ap (λ (x : Bool). is_pending_after (executed_by (command_held h) a) x (is_pending g)) (cleared a)
            ∙ ap (is_pending_after (executed_by (command_held h) a) (clears_check h a)) s.pending;
        flow = flows e;
        memory = memories e;
        startup = after_access low g h e l s.startup (calls a);
      }

-- ---- before RCRC

-- a flow is as it began, but for its command: base 0, no word of a run or a readback, and no source
pub record IsIdle (f : Flow) : Type 0 where
  pub base : f.base ≡ 0
  pub run : f.run ≡ []
  pub source : f.source ≡ None
  pub given : f.given ≡ 0

pub ordered : (part : PartData) (c : Command) (f : Flow) → IsIdle f → far_of part f.base f.run f.given ≡ 0
ordered part c f i =
    ap (λ (b : ℕ). far_of part b f.run f.given) i.base ∙ ap (λ (r : List ℕ). far_of part 0 r f.given) i.run ∙ ap (far_of part 0 []) i.given ∙ far_loaded part 0

-- from a place on, two histories have left the same, but for what `IsSame` leaves out, CMD, the check and the flow's
-- command; the flow of each is else as it began
pub record IsNear (part : PartData) (low : ℕ) (g h : History) : Type 0 where
  pub words : (r d : ℕ) → (16 == r) ≡ false → (4 == r) ≡ false → last_word r d g ≡ last_word r d h
  pub ctl0 : ctl0_held g ≡ ctl0_held h
  pub matched : has_idcode part.idcode g ≡ has_idcode part.idcode h
  pub pending : is_pending g ≡ is_pending h
  pub flow : IsIdle (flow_of part g)
  pub other_flow : IsIdle (flow_of part h)
  pub memory : memory_of part g ≡ memory_of part h
  pub startup : (n : ℕ) → low ≤ n → SameStartup (startup_calls g n) (startup_calls h n)

module _ (part : PartData) (low : ℕ) (g h : History) (s : IsNear part low g h) where
  -- a word written to WBSTAR, TIMER or BSPI
  pub near_write : (r w place : ℕ) → (r ≡ 16) ⊎ ((r ≡ 17) ⊎ (r ≡ 31)) → low ≤ place → IsNear part low (entry (Write r w) place ∷ g) (entry (Write r w) place ∷ h)
  unfolding flow_of memory_of
  near_write r w place (inl e) l = subst (λ (x : ℕ). IsNear part low (entry (Write x w) place ∷ g) (entry (Write x w) place ∷ h)) (sym e) (record {
    words = λ r d o p. ap (written r (Write 16 w)) (s.words r d o p);
    ctl0 = s.ctl0;
    matched = s.matched;
    pending = s.pending;
    flow = s.flow;
    other_flow = s.other_flow;
    memory = ap (put_over []) s.memory;
    startup = after_access low g h (entry (Write 16 w) place) l s.startup refl;
  })
  near_write r w place (inr (inl e)) l = subst (λ (x : ℕ). IsNear part low (entry (Write x w) place ∷ g) (entry (Write x w) place ∷ h)) (sym e) (record {
    words = λ r d o p. ap (written r (Write 17 w)) (s.words r d o p);
    ctl0 = s.ctl0;
    matched = s.matched;
    pending = s.pending;
    flow = s.flow;
    other_flow = s.other_flow;
    memory = ap (put_over []) s.memory;
    startup = after_access low g h (entry (Write 17 w) place) l s.startup refl;
  })
  near_write r w place (inr (inr e)) l = subst (λ (x : ℕ). IsNear part low (entry (Write x w) place ∷ g) (entry (Write x w) place ∷ h)) (sym e) (record {
    words = λ r d o p. ap (written r (Write 31 w)) (s.words r d o p);
    ctl0 = s.ctl0;
    matched = s.matched;
    pending = s.pending;
    flow = s.flow;
    other_flow = s.other_flow;
    memory = ap (put_over []) s.memory;
    startup = after_access low g h (entry (Write 31 w) place) l s.startup refl;
  })

  -- NULL, BSPI_READ and SHUTDOWN, written to CMD
  pub near_null : (place : ℕ) → low ≤ place → IsNear part low (entry (Write 4 0) place ∷ g) (entry (Write 4 0) place ∷ h)
  unfolding flow_of memory_of
  near_null place l = record {
    words = λ r d o p. ap (written r (Write 4 0)) (s.words r d o p);
    ctl0 = s.ctl0;
    matched = s.matched;
    pending = s.pending;
    flow = record { base = ordered part (command_by 0) (flow_of part g) s.flow; run = refl; source = no_source part (flow_of part g).command (command_by 0) (flow_of part g).run refl; given = refl };
    other_flow = record { base = ordered part (command_by 0) (flow_of part h) s.other_flow; run = refl; source = no_source part (flow_of part h).command (command_by 0) (flow_of part h).run refl; given = refl };
    memory = ap (put_over []) s.memory;
    startup = after_access low g h (entry (Write 4 0) place) l s.startup refl;
  }

  pub near_spi : (place : ℕ) → low ≤ place → IsNear part low (entry (Write 4 18) place ∷ g) (entry (Write 4 18) place ∷ h)
  unfolding flow_of memory_of
  near_spi place l = record {
    words = λ r d o p. ap (written r (Write 4 18)) (s.words r d o p);
    ctl0 = s.ctl0;
    matched = s.matched;
    pending = s.pending;
    flow = record { base = ordered part (command_by 18) (flow_of part g) s.flow; run = refl; source = no_source part (flow_of part g).command (command_by 18) (flow_of part g).run refl; given = refl };
    other_flow = record { base = ordered part (command_by 18) (flow_of part h) s.other_flow; run = refl; source = no_source part (flow_of part h).command (command_by 18) (flow_of part h).run refl; given = refl };
    memory = ap (put_over []) s.memory;
    startup = after_access low g h (entry (Write 4 18) place) l s.startup refl;
  }

  pub near_shutdown : (place : ℕ) → low ≤ place → IsNear part low (entry (Write 4 11) place ∷ g) (entry (Write 4 11) place ∷ h)
  unfolding flow_of memory_of
  near_shutdown place l = record {
    words = λ r d o p. ap (written r (Write 4 11)) (s.words r d o p);
    ctl0 = s.ctl0;
    matched = s.matched;
    pending = refl;
    flow = record { base = ordered part (command_by 11) (flow_of part g) s.flow; run = refl; source = no_source part (flow_of part g).command (command_by 11) (flow_of part g).run refl; given = refl };
    other_flow = record { base = ordered part (command_by 11) (flow_of part h) s.other_flow; run = refl; source = no_source part (flow_of part h).command (command_by 11) (flow_of part h).run refl; given = refl };
    memory = ap (put_over []) s.memory;
    startup = after_access low g h (entry (Write 4 11) place) l s.startup refl;
  }

  -- RCRC, written to CMD, after which the histories have left the same
  written_rcrc : (r : ℕ) (x y : ℕ) (b : Bool) → (4 == r) ≡ b → (b ≡ false → x ≡ y) → written r (Write 4 7) x ≡ written r (Write 4 7) y
  written_rcrc r x y true e f = rw e refl
  written_rcrc r x y false e f = ap (written r (Write 4 7)) (f refl)

  pub near_clear : (place : ℕ) → low ≤ place → IsSame part low (entry (Write 4 7) place ∷ g) (entry (Write 4 7) place ∷ h)
  unfolding flow_of memory_of
  near_clear place l =
      let c : Command = command_by 7 in
      let taken : is_pending g ≡ is_pending h = s.pending in
      let of_g : far_of part (flow_of part g).base (flow_of part g).run (flow_of part g).given ≡ 0 = ordered part c (flow_of part g) s.flow in
      let of_h : far_of part (flow_of part h).base (flow_of part h).run (flow_of part h).given ≡ 0 = ordered part c (flow_of part h) s.other_flow in
      let no_g : source_after part (flow_of part g).command c (flow_of part g).run ≡ None = no_source part (flow_of part g).command c (flow_of part g).run refl in
      let no_h : source_after part (flow_of part h).command c (flow_of part h).run ≡ None = no_source part (flow_of part h).command c (flow_of part h).run refl in
      record {
        words = λ r d o. written_rcrc r (last_word r d g) (last_word r d h) (4 == r) refl (λ p. s.words r d o p);
        ctl0 = s.ctl0;
        matched = s.matched;
        checked_are = refl;
        pending = refl;
        flow = ap (λ (b : ℕ). record { command = c; base = b; run = []; source = source_after part (flow_of part g).command c (flow_of part g).run; given = 0 }) (of_g ∙ sym of_h)
            ∙ ap (λ (x : Option (List ℕ)). record { command = c; base = far_of part (flow_of part h).base (flow_of part h).run (flow_of part h).given; run = []; source = x; given = 0 }) (no_g ∙ sym no_h);
        memory = ap (put_over []) s.memory;
        startup = after_access low g h (entry (Write 4 7) place) l s.startup (ap (λ (p : Bool). if p then call.DropBack ∷ [] else []) taken);
      }
