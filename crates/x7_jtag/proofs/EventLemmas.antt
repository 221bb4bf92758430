-- The queue of a port is that of its events.
use Rattle.std.proofs.Common.{◌≡◌, ℕ, ◌==◌, Bool, true, false, if◌then◌else◌, List, [], ◌∷◌, refl, ap, sym, ◌∙◌}
use Rattle.std.specs.List.{fold}
use Rattle.std.proofs.lemmas.List.Sums.{fold-append}
use Rattle.x7_part.specs.Part.{PartData}
use Rattle.x7_jtag.specs.declared.instruction.Instruction.{Instruction}
use Rattle.x7_jtag.specs.declared.instruction.Instruction.TheVariants as instruction
use Rattle.x7_jtag.specs.declared.state.State.{State}
use Rattle.x7_jtag.specs.declared.state.State.TheVariants as state
use Rattle.x7_jtag.specs.Events.{data_events, events_in, events_of, idle_events, update_events}
use Rattle.x7_jtag.specs.Instruction.{instruction_of}
use Rattle.x7_jtag.specs.Port.{Port, after_action, after_capture, after_clock, after_shift, after_idle, new_port, port_after, queue_at_update, words_read_out, with_bit}
use Rattle.x7_jtag.specs.Queue.{QueueEvent, Byte, Queue, by_event, offered, queue_after}
use Rattle.x7_jtag.specs.State.{PortClock}

eighth : (reads : List ℕ → List ℕ) (q : Queue) (x : ℕ) (b : Bool) → (if b then offered reads q x else q) ≡ fold (by_event reads) q (if b then Byte x ∷ [] else [])
eighth reads q x true = refl
eighth reads q x false = refl

queue_over_idle : (part : PartData) (i : Instruction) (p : Port) → (after_idle part i p).queue ≡ fold (by_event (words_read_out part)) p.queue (idle_events i p)
queue_over_idle part instruction.Jstart p = eighth (words_read_out part) p.queue 255 (p.count == 7)
queue_over_idle part instruction.CfgOut p = refl
queue_over_idle part instruction.CfgIn p = refl
queue_over_idle part instruction.Usercode p = refl
queue_over_idle part instruction.Idcode p = refl
queue_over_idle part instruction.Jprogram p = refl
queue_over_idle part instruction.Jshutdown p = refl
queue_over_idle part instruction.Bypass p = refl

queue_over_capture : (part : PartData) (i : Instruction) (p : Port) → (after_capture part i p).queue ≡ p.queue
queue_over_capture part instruction.Jstart p = refl
queue_over_capture part instruction.CfgOut p = refl
queue_over_capture part instruction.CfgIn p = refl
queue_over_capture part instruction.Usercode p = refl
queue_over_capture part instruction.Idcode p = refl
queue_over_capture part instruction.Jprogram p = refl
queue_over_capture part instruction.Jshutdown p = refl
queue_over_capture part instruction.Bypass p = refl

queue_over_shift : (part : PartData) (i : Instruction) (p : Port) (tdi : Bool) → (after_shift part i p tdi).queue ≡ fold (by_event (words_read_out part)) p.queue (data_events i p tdi)
queue_over_shift part instruction.CfgIn p tdi = eighth (words_read_out part) p.queue (with_bit p.register tdi) (p.count == 7)
queue_over_shift part instruction.CfgOut p tdi = refl
queue_over_shift part instruction.Jstart p tdi = refl
queue_over_shift part instruction.Usercode p tdi = refl
queue_over_shift part instruction.Idcode p tdi = refl
queue_over_shift part instruction.Jprogram p tdi = refl
queue_over_shift part instruction.Jshutdown p tdi = refl
queue_over_shift part instruction.Bypass p tdi = refl

queue_over_update : (reads : List ℕ → List ℕ) (i : Instruction) (q : Queue) → queue_at_update i q ≡ fold (by_event reads) q (update_events i)
queue_over_update reads instruction.Jprogram q = refl
queue_over_update reads instruction.CfgIn q = refl
queue_over_update reads instruction.CfgOut q = refl
queue_over_update reads instruction.Jstart q = refl
queue_over_update reads instruction.Usercode q = refl
queue_over_update reads instruction.Idcode q = refl
queue_over_update reads instruction.Jshutdown q = refl
queue_over_update reads instruction.Bypass q = refl

queue_over_action : (part : PartData) (s : State) (p : Port) (tdi : Bool) → (after_action part s p tdi).queue ≡ fold (by_event (words_read_out part)) p.queue (events_in s p tdi)
queue_over_action part state.TestLogicReset p tdi = refl
queue_over_action part state.RunTestIdle p tdi = queue_over_idle part p.instruction p
queue_over_action part state.SelectDr p tdi = refl
queue_over_action part state.CaptureDr p tdi = queue_over_capture part p.instruction p
queue_over_action part state.ShiftDr p tdi = queue_over_shift part p.instruction p tdi
queue_over_action part state.Exit1Dr p tdi = refl
queue_over_action part state.PauseDr p tdi = refl
queue_over_action part state.Exit2Dr p tdi = refl
queue_over_action part state.UpdateDr p tdi = refl
queue_over_action part state.SelectIr p tdi = refl
queue_over_action part state.CaptureIr p tdi = refl
queue_over_action part state.ShiftIr p tdi = refl
queue_over_action part state.Exit1Ir p tdi = refl
queue_over_action part state.PauseIr p tdi = refl
queue_over_action part state.Exit2Ir p tdi = refl
queue_over_action part state.UpdateIr p tdi = queue_over_update (words_read_out part) (instruction_of p.register) p.queue

events_from : (part : PartData) (p : Port) (cs : List PortClock) → (fold (after_clock part) p cs).queue ≡ fold (by_event (words_read_out part)) p.queue (events_of part p cs)
events_from part p [] = refl
events_from part p (c ∷ cs) =
    let rest : List QueueEvent = events_of part (after_clock part p c) cs in
    events_from part (after_clock part p c) cs
    ∙ ap (λ (q : Queue). fold (by_event (words_read_out part)) q rest) (queue_over_action part p.state p c.tdi)
    ∙ sym (fold-append (by_event (words_read_out part)) p.queue (events_in p.state p c.tdi) rest)

pub queue_events : (part : PartData) (cs : List PortClock) → (port_after part cs).queue ≡ queue_after (words_read_out part) (events_of part new_port cs)
queue_events part cs = events_from part new_port cs
