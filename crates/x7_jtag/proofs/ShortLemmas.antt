-- A port gives no more bytes than it has clocks.
use Rattle.std.proofs.Common.{◌≡◌, ℕ, ◌+◌, ◌≤◌, ◌==◌, ◌&&◌, Bool, true, false, if◌then◌else◌, List, [], ◌∷◌, ◌++◌, length, refl, ap, length-append, arith}
use Rattle.std.specs.List.{fold}
use Rattle.x7_part.specs.Part.{PartData}
use Rattle.x7_engine.specs.Standing.{DeviceState}
use Rattle.x7_jtag.specs.declared.instruction.Instruction.{Instruction}
use Rattle.x7_jtag.specs.declared.instruction.Instruction.TheVariants as instruction
use Rattle.x7_jtag.specs.declared.state.State.{State}
use Rattle.x7_jtag.specs.declared.state.State.TheVariants as state
use Rattle.x7_jtag.specs.Instruction.{instruction_of}
use Rattle.x7_jtag.specs.Port.{Port, after_action, after_clock, after_shift, after_idle, after_capture, new_port, port_after, queue_at_update, words_read_out, with_bit}
use Rattle.x7_jtag.specs.Queue.{Queue, dropped, in_turn, most_bytes_held, offered, give_held, shifted_out, waits, queue_with_room}
use Rattle.x7_jtag.specs.State.{PortClock}
use Rattle.x7_jtag.proofs.QueueLemmas.{given_on, in_turns}
use Rattle.x7_jtag.specs.Tap.{QueueHolds, TapStandsFor, TapState}

abbrev size : Queue → ℕ
size q = length q.given + length q.held

held_size : (reads : List ℕ → List ℕ) (given hs : List ℕ) (out : ℕ) → size (given_on reads given hs out) ≡ length given + length hs
held_size reads given [] out = refl
held_size reads given (h ∷ hs) out = by (waits reads given out) (held_size reads (given ++ h ∷ []) hs out)
  where
    by : (b : Bool) → size (given_on reads (given ++ h ∷ []) hs out) ≡ length (given ++ h ∷ []) + length hs → size (if b then record { given = given; held = h ∷ hs; out = out } else given_on reads (given ++ h ∷ []) hs out) ≡ length given + length (h ∷ hs)
    by true e = refl
    by false e = omega (arith, e, length-append given (h ∷ []))

turn_size : (reads : List ℕ → List ℕ) (q : Queue) (x : ℕ) → size (in_turn reads q x) ≡ size q + 1
turn_size reads q x = by (waits reads q.given q.out)
  where
    by : (b : Bool) → size (if b then record { given = q.given; held = q.held ++ x ∷ []; out = q.out } else record { given = q.given ++ x ∷ []; held = q.held; out = q.out }) ≡ size q + 1
    by true = omega (arith, length-append q.held (x ∷ []))
    by false = omega (arith, length-append q.given (x ∷ []))

room_size : (reads : List ℕ → List ℕ) (q : Queue) (b : Bool) → size (if b then dropped reads q else q) ≡ size q
room_size reads q true = omega (arith, length-append q.given q.held)
room_size reads q false = refl

offered_size : (reads : List ℕ → List ℕ) (q : Queue) (x : ℕ) → size (offered reads q x) ≤ size q + 1
offered_size reads q x = omega (arith, turn_size reads (queue_with_room reads q) x, room_size reads q (waits reads q.given q.out && length q.held == most_bytes_held))

shifted_size : (reads : List ℕ → List ℕ) (q : Queue) → size (shifted_out reads q) ≤ size q + 1
shifted_size reads q = by (waits reads q.given q.out)
  where
    by : (b : Bool) → size (if b then give_held reads (record q { out = q.out + 1 }) else q) ≤ size q + 1
    by true = omega (arith, held_size reads q.given q.held (q.out + 1), ap size (in_turns reads q.given q.held (q.out + 1)))
    by false = omega arith

if_size : (a q : Queue) (b : Bool) → size a ≤ size q + 1 → size (if b then a else q) ≤ size q + 1
if_size a q true l = l
if_size a q false l = omega arith

same_size : (q : Queue) → size q ≤ size q + 1
same_size q = omega arith

size_over_idle : (part : PartData) (i : Instruction) (p : Port) → size (after_idle part i p).queue ≤ size p.queue + 1
size_over_idle part instruction.Jstart p = if_size (offered (words_read_out part) p.queue 255) p.queue (p.count == 7) (offered_size (words_read_out part) p.queue 255)
size_over_idle part instruction.CfgOut p = same_size p.queue
size_over_idle part instruction.CfgIn p = same_size p.queue
size_over_idle part instruction.Usercode p = same_size p.queue
size_over_idle part instruction.Idcode p = same_size p.queue
size_over_idle part instruction.Jprogram p = same_size p.queue
size_over_idle part instruction.Jshutdown p = same_size p.queue
size_over_idle part instruction.Bypass p = same_size p.queue

size_over_capture : (part : PartData) (i : Instruction) (p : Port) → size (after_capture part i p).queue ≤ size p.queue + 1
size_over_capture part instruction.Jstart p = same_size p.queue
size_over_capture part instruction.CfgOut p = same_size p.queue
size_over_capture part instruction.CfgIn p = same_size p.queue
size_over_capture part instruction.Usercode p = same_size p.queue
size_over_capture part instruction.Idcode p = same_size p.queue
size_over_capture part instruction.Jprogram p = same_size p.queue
size_over_capture part instruction.Jshutdown p = same_size p.queue
size_over_capture part instruction.Bypass p = same_size p.queue

size_over_shift : (part : PartData) (i : Instruction) (p : Port) (tdi : Bool) → size (after_shift part i p tdi).queue ≤ size p.queue + 1
size_over_shift part instruction.CfgIn p tdi = if_size (offered (words_read_out part) p.queue (with_bit p.register tdi)) p.queue (p.count == 7) (offered_size (words_read_out part) p.queue (with_bit p.register tdi))
size_over_shift part instruction.CfgOut p tdi = shifted_size (words_read_out part) p.queue
size_over_shift part instruction.Jstart p tdi = same_size p.queue
size_over_shift part instruction.Usercode p tdi = same_size p.queue
size_over_shift part instruction.Idcode p tdi = same_size p.queue
size_over_shift part instruction.Jprogram p tdi = same_size p.queue
size_over_shift part instruction.Jshutdown p tdi = same_size p.queue
size_over_shift part instruction.Bypass p tdi = same_size p.queue

size_over_update : (i : Instruction) (q : Queue) → size (queue_at_update i q) ≤ size q + 1
size_over_update instruction.Jprogram q = omega arith
size_over_update instruction.CfgIn q = same_size q
size_over_update instruction.CfgOut q = same_size q
size_over_update instruction.Jstart q = same_size q
size_over_update instruction.Usercode q = same_size q
size_over_update instruction.Idcode q = same_size q
size_over_update instruction.Jshutdown q = same_size q
size_over_update instruction.Bypass q = same_size q

size_over_action : (part : PartData) (s : State) (p : Port) (tdi : Bool) → size (after_action part s p tdi).queue ≤ size p.queue + 1
size_over_action part state.TestLogicReset p tdi = same_size p.queue
size_over_action part state.RunTestIdle p tdi = size_over_idle part p.instruction p
size_over_action part state.SelectDr p tdi = same_size p.queue
size_over_action part state.CaptureDr p tdi = size_over_capture part p.instruction p
size_over_action part state.ShiftDr p tdi = size_over_shift part p.instruction p tdi
size_over_action part state.Exit1Dr p tdi = same_size p.queue
size_over_action part state.PauseDr p tdi = same_size p.queue
size_over_action part state.Exit2Dr p tdi = same_size p.queue
size_over_action part state.UpdateDr p tdi = same_size p.queue
size_over_action part state.SelectIr p tdi = same_size p.queue
size_over_action part state.CaptureIr p tdi = same_size p.queue
size_over_action part state.ShiftIr p tdi = same_size p.queue
size_over_action part state.Exit1Ir p tdi = same_size p.queue
size_over_action part state.PauseIr p tdi = same_size p.queue
size_over_action part state.Exit2Ir p tdi = same_size p.queue
size_over_action part state.UpdateIr p tdi = size_over_update (instruction_of p.register) p.queue

clocks_size : (part : PartData) (p : Port) (cs : List PortClock) → size (fold (after_clock part) p cs).queue ≤ size p.queue + length cs
clocks_size part p [] = omega arith
clocks_size part p (c ∷ cs) =
    let step : size (after_clock part p c).queue ≤ size p.queue + 1 = size_over_action part p.state p c.tdi in
    omega (arith, step, clocks_size part (after_clock part p c) cs)

-- a device took no more bytes than there were clocks, with the bytes held
pub held_short : (part : PartData) (t : TapState) (d : DeviceState) (cs : List PortClock) → TapStandsFor part t d cs → d.taken + length t.queue.held ≤ length cs
held_short part t d cs s =
    let h : QueueHolds part t.queue d (port_after part cs).queue = s.queue_is.holds in
    omega (arith, h.device.taken_is, ap length h.took.parts, length-append h.bytes h.took.rest, ap length h.held_is, clocks_size part new_port cs)

pub taken_short : (part : PartData) (t : TapState) (d : DeviceState) (cs : List PortClock) → TapStandsFor part t d cs → d.taken ≤ length cs
taken_short part t d cs s =
    let h : QueueHolds part t.queue d (port_after part cs).queue = s.queue_is.holds in
    omega (arith, h.device.taken_is, ap length h.took.parts, length-append h.bytes h.took.rest, clocks_size part new_port cs)
