-- What objects in memory hold, and what their calls answer (this project's choice).
use Rattle.std.specs.Prelude.{◌==◌, ◌||◌, not, nat_le, ℕ, ◌+◌, ◌-◌, List, [], ◌∷◌, ◌++◌, Bool, false, ◌&&◌, nat_lt, Option, None, Some, Result, Ok, Err, if◌then◌else◌, is_none, is_some, length, take, drop, min, option_map, option_and_then, unwrap_or, slice_range, bit_and, bit_or, bit_xor}
use Rattle.std.specs.List.{list_any}
use Rattle.std.specs.Str.{bytes_eq}
use Rattle.x7_words.specs.Count.{ends_counted, raised}
use Rattle.x7_words.specs.Flash.{FlashState, replaced, zip_with}
use Rattle.x7_words.specs.Input.{InputsState}
use Rattle.x7_words.specs.declared.flash_call.FlashCall.{FlashCall}
use Rattle.x7_words.specs.declared.input.SelectFault.{SelectFault}
use Rattle.x7_words.specs.declared.input.SelectFault.TheVariants.{Missing, Failed}

-- the calls of an object so far, and those that are to fail
pub record CallPlan : Type 0 where
  -- the number of the last call, from 1; 0 before the first, and it stops at 2^64 - 1
  pub last : ℕ
  -- the numbers of the calls that are to fail
  pub failing : List ℕ

-- no call yet, and none that is to fail
abbrev pub no_calls : CallPlan
no_calls = record { last = 0; failing = [] }

-- one more call is to fail
abbrev pub with_failing_call : CallPlan → ℕ → CallPlan
with_failing_call calls call = record calls { failing = calls.failing ++ call ∷ [] }

-- the next call is one of those that are to fail
abbrev pub next_fails : CallPlan → Bool
next_fails calls = list_any (λ call. call == raised calls.last) calls.failing

-- the calls once the next one has its number
abbrev pub numbered : CallPlan → CallPlan
numbered calls = record calls { last = raised calls.last }

-- the count after a call, raised where `counts` is true
abbrev pub raised_if : Bool → ℕ → ℕ
raised_if counts count = if counts then raised count else count

-- inputs in memory; the counts of selects, ends and faults stop at 2^64 - 1
pub record InputsInMemory : Type 0 where
  -- the names and what was put under each, what was put last first
  pub entries : List (List ℕ × List ℕ)
  -- what is left of the selected input; none where nothing is selected
  pub rest : Option (List ℕ)
  -- the name last asked for; none before a select, and where nothing was put under it then
  pub asked : Option (List ℕ)
  -- how many selects there were
  pub selects : ℕ
  -- how many reads gave nothing
  pub ends : ℕ
  -- how many bytes were given since the last select
  pub given : ℕ
  -- the most bytes that a read gives
  pub most : ℕ
  pub calls : CallPlan
  -- how many faults there were
  pub faults : ℕ

-- the bytes that were put under the name last; none where nothing was
abbrev pub bytes_under : List (List ℕ × List ℕ) → List ℕ → Option (List ℕ)
bytes_under [] name = None
bytes_under (entry ∷ entries) name = if bytes_eq entry.0 name then Some entry.1 else bytes_under entries name

-- the name, where something is put under it
abbrev pub name_under : List (List ℕ × List ℕ) → List ℕ → Option (List ℕ)
name_under entries name = if is_none (bytes_under entries name) then None else Some name

-- what is known of the inputs: all; a missing name is known by the contents, and isn't counted
abbrev pub known_inputs : InputsInMemory → InputsState
known_inputs m = record {
  contents = Some (bytes_under m.entries);
  selected = is_some m.rest;
  rest = m.rest;
  asked = m.asked;
  selects = m.selects;
  ends = m.ends;
  given = m.given;
  faults = m.faults;
  absences = 0;
}

-- the inputs with these bytes under the name
abbrev pub after_put : InputsInMemory → List ℕ → List ℕ → InputsInMemory
after_put m name bytes = record m { entries = (name, bytes) ∷ m.entries }

-- what a select of the name answers
abbrev pub select_answer : InputsInMemory → List ℕ → Result (Unit {0}) SelectFault
select_answer m name =
    if next_fails m.calls then Err Failed
    else if is_none (bytes_under m.entries name) then Err Missing
    else Ok tt

-- the inputs after a select of the name
abbrev pub after_memory_select : InputsInMemory → List ℕ → InputsInMemory
after_memory_select m name =
    record m {
      calls = numbered m.calls;
      faults = raised_if (next_fails m.calls) m.faults;
      rest = if next_fails m.calls then None else bytes_under m.entries name;
      asked = name_under m.entries name;
      selects = raised m.selects;
      given = 0;
    }

-- how many bytes a read into a buffer with room for `room` bytes gives
abbrev pub read_count : InputsInMemory → ℕ → ℕ
read_count m room = min (min room m.most) (length (unwrap_or m.rest []))

-- the inputs after a read into a buffer with room for `room` bytes
abbrev pub inputs_after_read : InputsInMemory → ℕ → InputsInMemory
inputs_after_read m room =
    record m {
      calls = numbered m.calls;
      faults = raised_if (next_fails m.calls) m.faults;
      rest = if next_fails m.calls then None else option_map (drop (read_count m room)) m.rest;
      ends = if next_fails m.calls then m.ends else ends_counted (read_count m room) m.ends;
      given = if next_fails m.calls then m.given else m.given + read_count m room;
    }

-- a sink in memory
pub record SinkInMemory : Type 0 where
  -- what was written
  pub bytes : List ℕ
  -- how many bytes the sink takes in all
  pub room : ℕ
  -- the most bytes that a write takes
  pub most : ℕ
  pub calls : CallPlan
  -- how many faults there were; the count stops at 2^64 - 1
  pub faults : ℕ

-- a write of the piece fails, as planned, or since the room is full and the piece has a byte
abbrev pub sink_write_fails : SinkInMemory → List ℕ → Bool
sink_write_fails s piece = next_fails s.calls || (nat_le s.room (length s.bytes) && nat_lt 0 (length piece))

-- how many bytes of the piece a write takes
abbrev pub write_count : SinkInMemory → List ℕ → ℕ
write_count s piece = min (min (length piece) s.most) (s.room - length s.bytes)

-- the sink after a write of the piece
abbrev pub after_write : SinkInMemory → List ℕ → SinkInMemory
after_write s piece =
    record s {
      calls = numbered s.calls;
      faults = raised_if (sink_write_fails s piece) s.faults;
      bytes = if sink_write_fails s piece then s.bytes else s.bytes ++ take (write_count s piece) piece;
    }

-- a byte torn by a pattern: the old one's bits where the pattern has 1, the target's where it has 0
abbrev pub torn_byte : ℕ → ℕ → ℕ → ℕ
torn_byte pattern old target = bit_or (bit_and old pattern) (bit_xor target (bit_and target pattern))

-- what a write leaves of a byte: the target, or it torn by a pattern
abbrev pub left_byte : Option ℕ → ℕ → ℕ → ℕ
left_byte None old target = target
left_byte (Some pattern) old target = torn_byte pattern old target

-- what a write leaves in its range, torn by a pattern or not
abbrev pub left_by : Option ℕ → List ℕ → List ℕ → List ℕ
left_by torn before target = zip_with (left_byte torn) before target

-- a call that is to be torn, if it is a write
pub record Tear : Type 0 where
  -- the number of the call, from 1
  pub call : ℕ
  -- the bits that stay old in each byte: those that are 1
  pub pattern : ℕ

-- a flash in memory
pub record FlashInMemory : Type 0 where
  -- the name under which the flash is attached
  pub name : List ℕ
  pub bytes : List ℕ
  pub attached : Bool
  -- how many absences there were; the count stops at 2^64 - 1
  pub absences : ℕ
  pub calls : CallPlan
  -- how many faults of attaches and reads there were; the count stops at 2^64 - 1
  pub read_faults : ℕ
  -- how many faults of writes there were; the count stops at 2^64 - 1
  pub write_faults : ℕ
  pub tear : Option Tear
  -- whether a write was torn: all calls fail from then on
  pub stopped : Bool
  -- the calls with their answers, the newest last
  pub history : List FlashCall

-- a flash of these bytes under the name, not attached
abbrev pub new_flash : List ℕ → List ℕ → FlashInMemory
new_flash name bytes = record {
  name = name;
  bytes = bytes;
  attached = false;
  absences = 0;
  calls = no_calls;
  read_faults = 0;
  write_faults = 0;
  tear = None;
  stopped = false;
  history = [];
}

-- what is known of the flash: all
abbrev pub known_flash : FlashInMemory → FlashState
known_flash f = record {
  bytes = Some f.bytes;
  extent = length f.bytes;
  attached = f.attached;
  faults = f.read_faults;
  absences = f.absences;
  write_faults = f.write_faults;
  calls = f.history;
}

-- the flash, which keeps this call
abbrev pub with_call : FlashCall → FlashInMemory → FlashInMemory
with_call call f = record f { history = f.history ++ call ∷ [] }

-- the next call of the flash fails, as planned or since a write was torn
abbrev pub flash_call_fails : FlashInMemory → Bool
flash_call_fails f = f.stopped || next_fails f.calls

-- what an attach under the name answers
abbrev pub attach_answer : FlashInMemory → List ℕ → Result (Unit {0}) SelectFault
attach_answer f name =
    if flash_call_fails f then Err Failed
    else if bytes_eq f.name name then Ok tt
    else Err Missing

-- the absences after an attach under the name
abbrev pub absences_after_attach : FlashInMemory → List ℕ → ℕ
absences_after_attach f name =
    if flash_call_fails f || bytes_eq f.name name then f.absences else raised f.absences

-- the flash after an attach under the name
abbrev pub after_memory_attach : FlashInMemory → List ℕ → FlashInMemory
after_memory_attach f name =
    record f {
      calls = numbered f.calls;
      read_faults = raised_if (flash_call_fails f) f.read_faults;
      attached = not (flash_call_fails f) && bytes_eq f.name name;
      absences = absences_after_attach f name;
    }

-- the flash after a read
abbrev pub after_read_at : FlashInMemory → FlashInMemory
after_read_at f = record f { calls = numbered f.calls; read_faults = raised_if (flash_call_fails f) f.read_faults }

-- the pattern by which the latest call, a write, is torn; none where it isn't the call that is to be torn
abbrev pub latest_tear : FlashInMemory → Option ℕ
latest_tear f = option_and_then (λ tear. if tear.call == f.calls.last then Some tear.pattern else None) f.tear

-- the pattern by which the next call, a write, is torn; none where that call fails, or isn't the one that is to be torn
abbrev pub next_tear : FlashInMemory → Option ℕ
next_tear f = if flash_call_fails f then None else latest_tear (record f { calls = numbered f.calls })

-- the next call, a write, fails: it is refused, as planned or since a write was torn, or it is torn itself
abbrev pub flash_write_fails : FlashInMemory → Bool
flash_write_fails f = flash_call_fails f || is_some (next_tear f)

-- the flash after a write but for its bytes; once it is torn all later calls fail
abbrev pub begun : FlashInMemory → FlashInMemory
begun f =
    record f {
      calls = numbered f.calls;
      write_faults = raised_if (flash_write_fails f) f.write_faults;
      stopped = f.stopped || is_some (next_tear f);
    }

-- the bytes with what a write of the target at the place leaves of them, torn by a pattern or not
abbrev pub written : Option ℕ → ℕ → List ℕ → List ℕ → List ℕ
written torn place target bytes = replaced place (left_by torn (slice_range bytes place (place + length target)) target) bytes

-- the flash after a write of the target at the place; one that is refused changes no byte
abbrev pub after_flash_write : FlashInMemory → ℕ → List ℕ → FlashInMemory
after_flash_write f place target =
    record (begun f) { bytes = if flash_call_fails f then f.bytes else written (next_tear f) place target f.bytes }
