-- A test access port as a function of its clocks (IEEE 1149.1 and UG470, JTAG; what these leave free is this project's
-- choice).
use Rattle.std.specs.Prelude.{ℕ, ◌+◌, ◌*◌, ◌/◌, ◌%◌, ◌^◌, ◌==◌, Bool, false, if◌then◌else◌, List, fold}
use Rattle.x7_words.specs.Word.{number_of_bit}
use Rattle.x7_regs.specs.declared.register.Reg.TheVariants.{Stat}
use Rattle.x7_part.specs.Part.{PartData}
use Rattle.x7_engine.specs.Kept.{on_the_bench}
use Rattle.x7_engine.specs.State.{reads_of, state_of, value_of}
use Rattle.x7_jtag.specs.declared.instruction.Instruction.{Instruction}
use Rattle.x7_jtag.specs.declared.instruction.Instruction.TheVariants as instruction
use Rattle.x7_jtag.specs.declared.state.State.{State}
use Rattle.x7_jtag.specs.declared.state.State.TheVariants as state
use Rattle.x7_jtag.specs.Instruction.{instruction_of}
use Rattle.x7_jtag.specs.Queue.{Queue, bit_shown, empty_queue, offered, shifted_out}
use Rattle.x7_jtag.specs.State.{PortClock, next_of, test_logic_reset}

-- the state, the instruction, the register between TDI and TDO, a count from 0 to 7 of the bits of a byte under CFG_IN
-- or of clocks in Run-Test/Idle under JSTART, and the queue
pub record Port : Type 0 where
  pub state : State
  pub instruction : Instruction
  pub register : ℕ
  pub count : ℕ
  pub queue : Queue

-- the words that a device of the part reads out where it is given the bytes `given` since a reset on the bench
abbrev pub words_read_out : PartData → List ℕ → List ℕ
words_read_out part given = reads_of part on_the_bench given

-- a count from 0 to 7, of the bits of a byte or of the clocks that offer one, after one more: 0 after 7
abbrev pub next_of_eight : ℕ → ℕ
next_of_eight count = (count + 1) % 8

-- whether the next bit or clock is the eighth, where `count` came before it
abbrev pub is_eighth : ℕ → Bool
is_eighth count = count == 7

-- the lowest bit of a register
abbrev pub lowest_bit : ℕ → Bool
lowest_bit register = register % 2 == 1

-- a register after one shift: its lowest bit is gone, and TDI is its highest, which is worth `top`
abbrev pub register_shifted : ℕ → ℕ → Bool → ℕ
register_shifted top register tdi = register / 2 + top * number_of_bit tdi

-- what the highest bit of a register of 32 bits is worth
abbrev pub top_bit_of_word : ℕ
top_bit_of_word = 2 ^ 31

-- what the highest bit of the instruction register, which has six, is worth
abbrev pub top_bit_of_instruction : ℕ
top_bit_of_instruction = 32

-- what the bit of the bypass register, which has one, is worth
abbrev pub top_bit_of_bypass : ℕ
top_bit_of_bypass = 1

-- what the highest bit of a byte is worth
abbrev pub top_bit_of_byte : ℕ
top_bit_of_byte = 128

-- a byte after one bit more: TDI comes in as the lowest, and the highest is dropped
abbrev pub with_bit : ℕ → Bool → ℕ
with_bit byte tdi = byte % top_bit_of_byte * 2 + number_of_bit tdi

-- what DONE is worth in what Capture-IR loads: bit 5
abbrev pub done_bit_value : ℕ
done_bit_value = 32

-- what INIT_B is worth in what Capture-IR loads: bit 4
abbrev pub init_b_bit_value : ℕ
init_b_bit_value = 16

-- the two lowest bits of what Capture-IR loads: 01 (IEEE 1149.1)
abbrev pub lowest_bits_of_ir : ℕ
lowest_bits_of_ir = 1

-- INIT_B in a word of STAT: bit 12 (that Capture-IR loads this bit is this project's choice: a note of UG470 names
-- INIT_COMPLETE)
abbrev pub init_b_of : ℕ → Bool
init_b_of stat = stat / 2 ^ 12 % 2 == 1

-- what Capture-IR loads for these values of DONE and INIT_B: these two, the highest bit first, then ISC_ENABLED and
-- ISC_DONE, which are 0 here (this project's choice), and 01 (UG470, instruction register)
abbrev pub ir_status_with : Bool → Bool → ℕ
ir_status_with done init_b = done_bit_value * number_of_bit done + init_b_bit_value * number_of_bit init_b + lowest_bits_of_ir

-- what Capture-IR loads for a device of the part to which the bytes `given` were given since a reset on the bench
abbrev pub ir_status : PartData → List ℕ → ℕ
ir_status part given = ir_status_with (state_of part on_the_bench false given).lines.done (init_b_of (value_of part on_the_bench false given Stat))

-- ---- the actions of the states

-- the byte that eight clocks in Run-Test/Idle under JSTART offer
abbrev pub startup_byte : ℕ
startup_byte = 0xFF

-- the user code, which no stream sets here: FFFFFFFF
abbrev pub user_code : ℕ
user_code = 0xFFFFFFFF

-- the port after a clock in Run-Test/Idle: under JSTART each eighth offers a byte FF
abbrev pub after_idle : PartData → Instruction → Port → Port
after_idle part instruction.Jstart p = record p { count = next_of_eight p.count; queue = if is_eighth p.count then offered (words_read_out part) p.queue startup_byte else p.queue }
after_idle part _ p = p

-- the port after Capture-DR: the register takes the idcode, the user code or 0; under CFG_IN the next bit is a byte's
-- first
abbrev pub after_capture : PartData → Instruction → Port → Port
after_capture part instruction.Idcode p = record p { register = part.idcode }
after_capture part instruction.Usercode p = record p { register = user_code }
after_capture part instruction.CfgIn p = record p { register = 0; count = 0 }
after_capture part _ p = record p { register = 0 }

-- The port after one bit in Shift-DR. Under CFG_IN each eighth bit completes a byte, which is offered; under CFG_OUT a
-- bit of the words read out goes out, where one waits. IDCODE and USERCODE shift the register of 32 bits, and any other
-- instruction the one bit of bypass.
abbrev pub after_shift : PartData → Instruction → Port → Bool → Port
after_shift part instruction.CfgIn p tdi = record p {
  register = with_bit p.register tdi;
  count = next_of_eight p.count;
  queue = if is_eighth p.count then offered (words_read_out part) p.queue (with_bit p.register tdi) else p.queue;
}
after_shift part instruction.CfgOut p tdi = record p { queue = shifted_out (words_read_out part) p.queue }
after_shift part instruction.Idcode p tdi = record p { register = register_shifted top_bit_of_word p.register tdi }
after_shift part instruction.Usercode p tdi = record p { register = register_shifted top_bit_of_word p.register tdi }
after_shift part _ p tdi = record p { register = register_shifted top_bit_of_bypass p.register tdi }

-- the queue after Update-IR made this the port's instruction: JPROGRAM resets the device, and so leaves an empty queue
abbrev pub queue_at_update : Instruction → Queue → Queue
queue_at_update instruction.Jprogram q = empty_queue
queue_at_update _ q = q

-- the port after Update-IR: the register becomes the instruction, the count begins at 0, and JPROGRAM resets the device
abbrev pub after_update : Port → Port
after_update p = record p { instruction = instruction_of p.register; count = 0; queue = queue_at_update (instruction_of p.register) p.queue }

-- the port after the action of a state, before it moves to the next one
abbrev pub after_action : PartData → State → Port → Bool → Port
after_action part state.TestLogicReset p tdi = record p { instruction = instruction.Idcode }
after_action part state.RunTestIdle p tdi = after_idle part p.instruction p
after_action part state.CaptureDr p tdi = after_capture part p.instruction p
after_action part state.ShiftDr p tdi = after_shift part p.instruction p tdi
after_action part state.CaptureIr p tdi = record p { register = ir_status part p.queue.given }
after_action part state.ShiftIr p tdi = record p { register = register_shifted top_bit_of_instruction p.register tdi }
after_action part state.UpdateIr p tdi = after_update p
after_action part _ p tdi = p

-- ---- TDO

-- TDO in Shift-DR, by the instruction
abbrev pub data_shown : PartData → Instruction → Port → Bool
data_shown part instruction.CfgIn p = false
data_shown part instruction.CfgOut p = bit_shown (words_read_out part) p.queue
data_shown part _ p = lowest_bit p.register

-- TDO in a state: 0 in each but Shift-DR and Shift-IR
abbrev pub shown_in : PartData → State → Port → Bool
shown_in part state.ShiftDr p = data_shown part p.instruction p
shown_in part state.ShiftIr p = lowest_bit p.register
shown_in part _ p = false

-- TDO at the next clock, where `p` is the port before it
abbrev pub tdo_of : PartData → Port → Bool
tdo_of part p = shown_in part p.state p

-- ---- clocks

-- the port after a clock: the action of the present state, and then the next state
abbrev pub after_clock : PartData → Port → PortClock → Port
after_clock part p c = record (after_action part p.state p c.tdi) { state = next_of p.state c.tms }

-- a new port
abbrev pub new_port : Port
new_port = record { state = test_logic_reset; instruction = instruction.Idcode; register = 0; count = 0; queue = empty_queue }

-- a port after these clocks, before the first of which it was new
abbrev pub port_after : PartData → List PortClock → Port
port_after part cs = fold (after_clock part) new_port cs
