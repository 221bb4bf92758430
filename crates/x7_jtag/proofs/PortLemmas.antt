-- Lemmas on specs/Port: what a tap and its device stand for after each action.
use Rattle.std.proofs.Common.{◌≡◌, ℕ, ◌+◌, ◌%◌, ◌==◌, Bool, true, false, if◌then◌else◌, List, [], ◌∷◌, ◌++◌, refl, ap, sym, subst, ◌∙◌}
use Rattle.std.proofs.lemmas.List.Sums.{fold-append}
use Rattle.x7_regs.specs.declared.register.Reg.TheVariants.{Stat}
use Rattle.x7_part.specs.Part.{PartData}
use Rattle.x7_engine.specs.declared.snapshot.Snapshot.{Snapshot}
use Rattle.x7_engine.specs.Kept.{on_the_bench}
use Rattle.x7_engine.specs.Past.{past_of, state_owing_at, value_owing_at}
use Rattle.x7_engine.specs.Shown.{with_values, word_in}
use Rattle.x7_engine.specs.Standing.{DeviceStandsFor, DeviceState}
use Rattle.x7_engine.specs.State.{value_of}
use Rattle.x7_jtag.specs.declared.instruction.Instruction.{Instruction}
use Rattle.x7_jtag.specs.declared.instruction.Instruction.TheVariants as instruction
use Rattle.x7_jtag.specs.declared.state.State.{State}
use Rattle.x7_jtag.specs.declared.state.State.TheVariants as state
use Rattle.x7_jtag.specs.Instruction.{instruction_of}
use Rattle.x7_jtag.specs.Port.{Port, after_action, after_capture, after_clock, after_shift, after_idle, new_port, port_after, queue_at_update, words_read_out, init_b_of, ir_status_with, ir_status, data_shown, register_shifted, shown_in, tdo_of, after_update, with_bit}
use Rattle.x7_jtag.specs.Queue.{Queue, empty_queue, offered, shifted_out}
use Rattle.x7_jtag.specs.State.{PortClock, next_of}
use Rattle.x7_jtag.specs.Tap.{QueueStandsFor, QueueState, StandsForPort, TapState, TapStandsFor, TookOfGiven}
use Rattle.x7_jtag.proofs.StandingLemmas.{resets}
use Rattle.x7_jtag.proofs.TookLemmas.{state_took}

-- what Capture-IR loads, whatever words of the device are due
pub status_is : (part : PartData) (given bytes : List ℕ) (snapshot : Snapshot) (stat due n : ℕ) → TookOfGiven part given bytes → snapshot ≡ state_owing_at (past_of part on_the_bench false bytes) due → stat ≡ value_owing_at (past_of part on_the_bench false bytes) due Stat
    → n ≡ ir_status_with snapshot.lines.done (init_b_of stat) → n ≡ ir_status part given
unfolding with_values
status_is part given bytes snapshot stat due n t e f g =
    g ∙ ap (λ (w : ℕ). ir_status_with snapshot.lines.done (init_b_of w)) f ∙ ap (λ (r : Snapshot). ir_status_with r.lines.done (init_b_of (value_of part on_the_bench false bytes Stat))) e
    ∙ ap (λ (r : Snapshot). ir_status_with r.lines.done (init_b_of (word_in Stat r.registers))) (sym (state_took part given bytes t))

-- a new tap
pub begins : (part : PartData) (t : TapState) (d : DeviceState) → DeviceStandsFor part on_the_bench false d [] → t ≡ record { state = state.TestLogicReset; instruction = instruction.Idcode; register = 0; count = 0; queue = t.queue } → t.queue ≡ record { held = []; word = 0; bits_left = 0 }
    → StandsForPort part t d new_port
begins part t d s e q = record {
  state_is = ap (λ (x : TapState). x.state) e;
  instruction_is = ap (λ (x : TapState). x.instruction) e;
  register_is = ap (λ (x : TapState). x.register) e;
  count_is = ap (λ (x : TapState). x.count) e;
  queue_is = resets part t.queue d d part s refl (ap (λ (x : QueueState). x.held) q) (ap (λ (x : QueueState). x.bits_left) q);
}

-- a queue to which the eighth bit or clock offered a byte
eighth : (part : PartData) (n : QueueState) (e : DeviceState) (p : Port) (q : Queue) (count : ℕ) → count ≡ p.count → true ≡ (count == 7) → QueueStandsFor part n e q → QueueStandsFor part n e (if p.count == 7 then q else p.queue)
eighth part n e p q count is seven s = subst (λ (b : Bool). QueueStandsFor part n e (if b then q else p.queue)) (seven ∙ ap (λ (c : ℕ). c == 7) is) s

pub idles : (part : PartData) (k n : TapState) (d e : DeviceState) (p : Port) → StandsForPort part k d p → k.instruction ≡ instruction.Jstart → true ≡ (k.count == 7) → n ≡ record k { count = (k.count + 1) % 8; queue = n.queue }
    → QueueStandsFor part n.queue e (offered (words_read_out part) p.queue 255) → StandsForPort part n e (after_idle part p.instruction p)
idles part k n d e p s is seven with q =
    let P : Instruction → Type 0 = λ i. StandsForPort part n e (after_idle part i p) in
    subst P (sym is ∙ s.instruction_is) (record {
      state_is = ap (λ (x : TapState). x.state) with ∙ s.state_is;
      instruction_is = ap (λ (x : TapState). x.instruction) with ∙ s.instruction_is;
      register_is = ap (λ (x : TapState). x.register) with ∙ s.register_is;
      count_is = ap (λ (x : TapState). x.count) with ∙ ap (λ (c : ℕ). (c + 1) % 8) s.count_is;
      queue_is = eighth part n.queue e p (offered (words_read_out part) p.queue 255) k.count s.count_is seven q;
    })

pub completes : (part : PartData) (k n : TapState) (d e : DeviceState) (p : Port) (tdi : Bool) (byte : ℕ) → StandsForPort part k d p → byte ≡ with_bit k.register tdi → true ≡ (k.count == 7) → n ≡ record k { register = byte; count = (k.count + 1) % 8; queue = n.queue }
    → QueueStandsFor part n.queue e (offered (words_read_out part) p.queue byte) → StandsForPort part n e (after_shift part instruction.CfgIn p tdi)
completes part k n d e p tdi byte s is seven with q =
    let all : byte ≡ with_bit p.register tdi = is ∙ ap (λ (r : ℕ). with_bit r tdi) s.register_is in
    record {
      state_is = ap (λ (x : TapState). x.state) with ∙ s.state_is;
      instruction_is = ap (λ (x : TapState). x.instruction) with ∙ s.instruction_is;
      register_is = ap (λ (x : TapState). x.register) with ∙ all;
      count_is = ap (λ (x : TapState). x.count) with ∙ ap (λ (c : ℕ). (c + 1) % 8) s.count_is;
      queue_is = eighth part n.queue e p (offered (words_read_out part) p.queue (with_bit p.register tdi)) k.count s.count_is seven (subst (λ (b : ℕ). QueueStandsFor part n.queue e (offered (words_read_out part) p.queue b)) all q);
    }

-- JPROGRAM
pub programs : (part : PartData) (k n : TapState) (d e : DeviceState) (p : Port) (i : Instruction) → StandsForPort part k d p → i ≡ instruction_of k.register → i ≡ instruction.Jprogram → n ≡ record k { instruction = i; count = 0; queue = n.queue }
    → QueueStandsFor part n.queue e empty_queue → StandsForPort part n e (after_update p)
programs part k n d e p i s is named with q =
    let all : i ≡ instruction_of p.register = is ∙ ap instruction_of s.register_is in
    record {
      state_is = ap (λ (x : TapState). x.state) with ∙ s.state_is;
      instruction_is = ap (λ (x : TapState). x.instruction) with ∙ all;
      register_is = ap (λ (x : TapState). x.register) with ∙ s.register_is;
      count_is = ap (λ (x : TapState). x.count) with;
      queue_is = subst (λ (j : Instruction). QueueStandsFor part n.queue e (queue_at_update j p.queue)) (sym named ∙ all) q;
    }

-- the action of the state that the tap is in
pub acts : (part : PartData) (k n : TapState) (d e : DeviceState) (p : Port) (tdi : Bool) (s : State) → StandsForPort part k d p → k.state ≡ s → StandsForPort part n e (after_action part s p tdi) → StandsForPort part n e (after_action part p.state p tdi)
acts part k n d e p tdi s t is a = subst (λ (x : State). StandsForPort part n e (after_action part x p tdi)) (sym is ∙ t.state_is) a

pub shows : (part : PartData) (k : TapState) (d : DeviceState) (p : Port) (s : State) (b : Bool) → StandsForPort part k d p → k.state ≡ s → b ≡ shown_in part s p → b ≡ tdo_of part p
shows part k d p s b t is e = e ∙ ap (λ (x : State). shown_in part x p) (sym is ∙ t.state_is)

-- Shift-DR under the instruction that the tap has
pub shifts_under : (part : PartData) (k n : TapState) (d e : DeviceState) (p : Port) (tdi : Bool) (i : Instruction) → StandsForPort part k d p → k.instruction ≡ i → StandsForPort part n e (after_shift part i p tdi) → StandsForPort part n e (after_shift part p.instruction p tdi)
shifts_under part k n d e p tdi i s is a = subst (λ (x : Instruction). StandsForPort part n e (after_shift part x p tdi)) (sym is ∙ s.instruction_is) a

pub shown_under : (part : PartData) (k : TapState) (d : DeviceState) (p : Port) (i : Instruction) (b : Bool) → StandsForPort part k d p → k.instruction ≡ i → b ≡ data_shown part i p → b ≡ data_shown part p.instruction p
shown_under part k d p i b s is e = e ∙ ap (λ (x : Instruction). data_shown part x p) (sym is ∙ s.instruction_is)

pub shifts_register : (part : PartData) (k n : TapState) (d : DeviceState) (p : Port) (top : ℕ) (tdi : Bool) → StandsForPort part k d p → n ≡ record k { register = register_shifted top k.register tdi }
    → StandsForPort part n d (record p { register = register_shifted top p.register tdi })
shifts_register part k n d p top tdi s with = record {
  state_is = ap (λ (x : TapState). x.state) with ∙ s.state_is;
  instruction_is = ap (λ (x : TapState). x.instruction) with ∙ s.instruction_is;
  register_is = ap (λ (x : TapState). x.register) with ∙ ap (λ (r : ℕ). register_shifted top r tdi) s.register_is;
  count_is = ap (λ (x : TapState). x.count) with ∙ s.count_is;
  queue_is = subst (λ (q : QueueState). QueueStandsFor part q d p.queue) (sym (ap (λ (x : TapState). x.queue) with)) s.queue_is;
}

pub shifts_queue : (part : PartData) (k n : TapState) (d e : DeviceState) (p : Port) → StandsForPort part k d p → n ≡ record k { queue = n.queue } → QueueStandsFor part n.queue e (shifted_out (words_read_out part) p.queue)
    → StandsForPort part n e (record p { queue = shifted_out (words_read_out part) p.queue })
shifts_queue part k n d e p s with q = record {
  state_is = ap (λ (x : TapState). x.state) with ∙ s.state_is;
  instruction_is = ap (λ (x : TapState). x.instruction) with ∙ s.instruction_is;
  register_is = ap (λ (x : TapState). x.register) with ∙ s.register_is;
  count_is = ap (λ (x : TapState). x.count) with ∙ s.count_is;
  queue_is = q;
}

pub captures : (part : PartData) (k n : TapState) (d : DeviceState) (p : Port) (r : ℕ) → StandsForPort part k d p → r ≡ ir_status part p.queue.given → n ≡ record k { register = r } → StandsForPort part n d (record p { register = ir_status part p.queue.given })
captures part k n d p r s is with = record {
  state_is = ap (λ (x : TapState). x.state) with ∙ s.state_is;
  instruction_is = ap (λ (x : TapState). x.instruction) with ∙ s.instruction_is;
  register_is = ap (λ (x : TapState). x.register) with ∙ is;
  count_is = ap (λ (x : TapState). x.count) with ∙ s.count_is;
  queue_is = subst (λ (q : QueueState). QueueStandsFor part q d p.queue) (sym (ap (λ (x : TapState). x.queue) with)) s.queue_is;
}

-- no action changes the state: that is the clock's
state_over_idle : (part : PartData) (i : Instruction) (p : Port) → (after_idle part i p).state ≡ p.state
state_over_idle part instruction.Jstart p = refl
state_over_idle part instruction.CfgOut p = refl
state_over_idle part instruction.CfgIn p = refl
state_over_idle part instruction.Usercode p = refl
state_over_idle part instruction.Idcode p = refl
state_over_idle part instruction.Jprogram p = refl
state_over_idle part instruction.Jshutdown p = refl
state_over_idle part instruction.Bypass p = refl

state_over_capture : (part : PartData) (i : Instruction) (p : Port) → (after_capture part i p).state ≡ p.state
state_over_capture part instruction.Jstart p = refl
state_over_capture part instruction.CfgOut p = refl
state_over_capture part instruction.CfgIn p = refl
state_over_capture part instruction.Usercode p = refl
state_over_capture part instruction.Idcode p = refl
state_over_capture part instruction.Jprogram p = refl
state_over_capture part instruction.Jshutdown p = refl
state_over_capture part instruction.Bypass p = refl

state_over_shift : (part : PartData) (i : Instruction) (p : Port) (tdi : Bool) → (after_shift part i p tdi).state ≡ p.state
state_over_shift part instruction.Jstart p tdi = refl
state_over_shift part instruction.CfgOut p tdi = refl
state_over_shift part instruction.CfgIn p tdi = refl
state_over_shift part instruction.Usercode p tdi = refl
state_over_shift part instruction.Idcode p tdi = refl
state_over_shift part instruction.Jprogram p tdi = refl
state_over_shift part instruction.Jshutdown p tdi = refl
state_over_shift part instruction.Bypass p tdi = refl

state_over_action : (part : PartData) (s : State) (p : Port) (tdi : Bool) → (after_action part s p tdi).state ≡ p.state
state_over_action part state.TestLogicReset p tdi = refl
state_over_action part state.RunTestIdle p tdi = state_over_idle part p.instruction p
state_over_action part state.SelectDr p tdi = refl
state_over_action part state.CaptureDr p tdi = state_over_capture part p.instruction p
state_over_action part state.ShiftDr p tdi = state_over_shift part p.instruction p tdi
state_over_action part state.Exit1Dr p tdi = refl
state_over_action part state.PauseDr p tdi = refl
state_over_action part state.Exit2Dr p tdi = refl
state_over_action part state.UpdateDr p tdi = refl
state_over_action part state.SelectIr p tdi = refl
state_over_action part state.CaptureIr p tdi = refl
state_over_action part state.ShiftIr p tdi = refl
state_over_action part state.Exit1Ir p tdi = refl
state_over_action part state.PauseIr p tdi = refl
state_over_action part state.Exit2Ir p tdi = refl
state_over_action part state.UpdateIr p tdi = refl

-- a clock
moves : (part : PartData) (m n : TapState) (e : DeviceState) (p : Port) (tms tdi : Bool) → StandsForPort part m e (after_action part p.state p tdi) → n ≡ record m { state = next_of m.state tms } → StandsForPort part n e (after_clock part p (record { tms = tms; tdi = tdi }))
moves part m n e p tms tdi s with = record {
  state_is = ap (λ (x : TapState). x.state) with ∙ ap (λ (x : State). next_of x tms) (s.state_is ∙ state_over_action part p.state p tdi);
  instruction_is = ap (λ (x : TapState). x.instruction) with ∙ s.instruction_is;
  register_is = ap (λ (x : TapState). x.register) with ∙ s.register_is;
  count_is = ap (λ (x : TapState). x.count) with ∙ s.count_is;
  queue_is = subst (λ (q : QueueState). QueueStandsFor part q e (after_action part p.state p tdi).queue) (sym (ap (λ (x : TapState). x.queue) with)) s.queue_is;
}

pub clocks_on : (part : PartData) (k m n : TapState) (d e : DeviceState) (cs : List PortClock) (tms tdi : Bool) → TapStandsFor part k d cs → (StandsForPort part k d (port_after part cs) → StandsForPort part m e (after_action part (port_after part cs).state (port_after part cs) tdi))
    → n ≡ record m { state = next_of m.state tms } → TapStandsFor part n e (cs ++ record { tms = tms; tdi = tdi } ∷ [])
clocks_on part k m n d e cs tms tdi s act with =
    let c : PortClock = record { tms = tms; tdi = tdi } in
    subst (StandsForPort part n e) (sym (fold-append (after_clock part) new_port cs (c ∷ []))) (moves part m n e (port_after part cs) tms tdi (act s) with)
