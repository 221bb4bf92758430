-- What is known of the inputs and of a flash, and what steps over it come to: reading an input, a part file, a stream,
-- or streams one after the other (this project's choice).
use Rattle.std.specs.Prelude.{ℕ, List, [], ◌∷◌, ◌++◌, ◌-◌, Option, None, Some, Result, Ok, Err, Bool, if◌then◌else◌, drop, length, nat_lt, take}
use Rattle.std.specs.Str.{bytes_eq}
use Rattle.x7_header.specs.Header.{HeaderContents}
use Rattle.x7_header.specs.Reading.{header_at}
use Rattle.x7_header.specs.declared.fault.HeaderFault.{HeaderFault}
use Rattle.x7_header.specs.declared.fault.HeaderFault.TheVariants as header
use Rattle.x7_part.specs.declared.fault.PartFault.{PartFault}
use Rattle.x7_part.specs.declared.fault.PartFault.TheVariants as part
use Rattle.x7_part.specs.Part.{PartData}
use Rattle.x7_forms.specs.declared.bad_input.InputFault.TheVariants as input
use Rattle.x7_forms.specs.Event.{Event, bad_input, bad_part, missing, no_memory, reading_failed, too_large}
use Rattle.x7_part.specs.PartFile.{part_in}

-- what is found under a name: bytes, nothing, or the first bytes and then a fault
pub data Found : Type 0 where
  Held : (bytes : List ℕ) → Found
  Absent : Found
  Broken : (bytes : List ℕ) → Found

-- the bytes that are found, those before a fault too
abbrev pub bytes_found : Found → List ℕ
bytes_found (Held bytes) = bytes
bytes_found Absent = []
bytes_found (Broken bytes) = bytes

-- what is known: what each input is by its name, and what the flash of a name is where that is known
pub record Known : Type 0 where
  pub inputs : List ℕ → Found
  pub flash : List ℕ → Option Found

-- a whole text, and whether what it reports stopped: a device at a fault, a scan that differed, or a boot that no
-- attempt started
pub record Answer : Type 0 where
  pub stopped : Bool
  pub text : List ℕ

-- a step, and the next one over what it gave; an event ends both
abbrev pub and_so : {A B : Type 0} → Result A Event → (A → Result B Event) → Result B Event
and_so (Ok a) next = next a
and_so (Err event) next = Err event

-- the data of a stream, or the event of a header that is refused, by what stands at the beginning: a header and its
-- size, or why there is none
abbrev pub data_by : List ℕ → List ℕ → Result (HeaderContents × ℕ) HeaderFault → Result (List ℕ) Event
data_by name bytes (Ok head) = Ok (drop head.1 bytes)
data_by name bytes (Err header.Raw) = Ok bytes
data_by name bytes (Err (header.Cut place)) = Err (bad_input name (input.Byte place))
data_by name bytes (Err (header.Field place)) = Err (bad_input name (input.Byte place))

-- the data of a stream: the bytes after its header where it has one; a header that is cut, or that has another byte in
-- a letter's place, is a bad input
abbrev pub data_in : List ℕ → List ℕ → Result (List ℕ) Event
data_in name bytes = data_by name bytes (header_at bytes)

-- the bytes of an input that has no more than `limit` of them, or the event of one that is too large
abbrev pub if_within : List ℕ → ℕ → List ℕ → Result (List ℕ) Event
if_within name limit bytes = if nat_lt limit (length bytes) then Err (too_large name) else Ok bytes

-- the most bytes of a stream, and of all streams of one `play` together (64 MiB)
abbrev pub stream_limit : ℕ
stream_limit = 67108864

-- the most bytes of an assembly, Intel HEX, frames or SVF text (512 MiB)
abbrev pub text_limit : ℕ
text_limit = 536870912

-- the most bytes of a script (1 MiB)
abbrev pub script_limit : ℕ
script_limit = 1048576

-- the most bytes of a part file (1 MiB)
abbrev pub part_limit : ℕ
part_limit = 1048576

-- the bytes of an input that is read whole and has no more than `limit` of them; one that fails may be over the limit
-- before it does
abbrev pub taken_whole : List ℕ → ℕ → Found → Result (List ℕ) Event
taken_whole name limit (Held bytes) = if_within name limit bytes
taken_whole name limit Absent = Err (missing name)
taken_whole name limit (Broken bytes) = and_so (if_within name limit bytes) (λ _. Err (reading_failed name))

-- the input of this name, where it is known: its bytes, if it has no more than `limit` of them, or the event of one
-- that isn't read
abbrev pub whole_known : Known → ℕ → List ℕ → Result (List ℕ) Event
whole_known known limit name = taken_whole name limit (known.inputs name)

-- ---- a part file, and streams

-- the event of a part file that gave no part
abbrev pub part_event : List ℕ → PartFault → Event
part_event name part.NoMemory = no_memory
part_event name fault = bad_part name fault

-- the part of a part file of this name, or the event of a file that has none
abbrev pub part_by : List ℕ → Result PartData PartFault → Result PartData Event
part_by name (Ok part) = Ok part
part_by name (Err fault) = Err (bad_part name fault)

-- the part of the part file of this name, where that is known, or the event of one that gives none
abbrev pub part_known : Known → List ℕ → Result PartData Event
part_known known name = and_so (whole_known known part_limit name) (λ text. part_by name (part_in text))

-- bytes before those that a step gives
abbrev pub put_before : List ℕ → Result (List ℕ) Event → Result (List ℕ) Event
put_before prefix more = and_so more (λ bytes. Ok (prefix ++ bytes))

-- a stream that was read: its data, and how many bytes of later streams are still within the limit
pub record StreamRead : Type 0 where
  pub bytes : List ℕ
  pub room : ℕ

-- the stream of this name: one that is too large is refused before its header is looked at
abbrev pub stream_known : Known → ℕ → List ℕ → Result StreamRead Event
stream_known known limit name = and_so (whole_known known limit name) (λ whole. and_so (data_in name whole) (λ bytes. Ok (record { bytes = bytes; room = limit - length whole })))

-- the data of streams, one after the other; the streams are within a limit together, headers included
abbrev pub streams_known : Known → ℕ → List (List ℕ) → Result (List ℕ) Event
streams_known known limit [] = Ok []
streams_known known limit (name ∷ names) = and_so (stream_known known limit name) (λ stream. put_before stream.bytes (streams_known known stream.room names))

-- the most words that a play may read out
abbrev pub reads_limit : ℕ
reads_limit = 16777216

-- ---- what is known of the outside

-- what is found of an input that has these bytes, or that isn't there
abbrev pub input_found : Option (List ℕ) → Found
input_found None = Absent
input_found (Some bytes) = Held bytes

-- a flash by its bytes, where they are known
abbrev pub flash_found : Option (List ℕ) → Option Found
flash_found None = None
flash_found (Some bytes) = Some (Held bytes)

-- what is known of the inputs, and of the flash, whatever its name
abbrev pub known_of : (List ℕ → Option (List ℕ)) → Option (List ℕ) → Known
known_of inputs flash = record { inputs = λ name. input_found (inputs name); flash = λ name. flash_found flash }

-- what is known of the inputs and of the flash, if the inputs are known; else nothing
abbrev pub with_inputs : Option (List ℕ → Option (List ℕ)) → Option (List ℕ) → Option Known
with_inputs None flash = None
with_inputs (Some inputs) flash = Some (known_of inputs flash)

-- ---- what is known, but for one name

-- a mishap: against what is known, the input or the flash of a name fails after `given` bytes, or isn't there
pub data Mishap : Type 0 where
  Failing : (name : List ℕ) (given : ℕ) → Mishap
  Lacking : (name : List ℕ) → Mishap

-- the name that a mishap is of
abbrev pub spoiled_name : Mishap → List ℕ
spoiled_name (Failing name given) = name
spoiled_name (Lacking name) = name

-- the event that comes of a mishap
abbrev pub mishap_event : Mishap → Event
mishap_event (Failing name given) = reading_failed name
mishap_event (Lacking name) = missing name

-- the first `given` bytes of what is found, or all where it has fewer, and then a fault
abbrev pub broken_at : ℕ → Found → Found
broken_at given (Held bytes) = Broken (take given bytes)
broken_at given Absent = Broken []
broken_at given (Broken bytes) = Broken (take given bytes)

-- what is found under a name after a mishap of that name
abbrev pub spoiled : Mishap → Found → Found
spoiled (Failing name given) old = broken_at given old
spoiled (Lacking name) old = Absent

-- what is known, with this mishap; the flash of its name fails before its first byte, or isn't there
abbrev pub with_mishap : Mishap → Known → Known
with_mishap m known = record {
  inputs = λ name. if bytes_eq name (spoiled_name m) then spoiled m (known.inputs name) else known.inputs name;
  flash = λ name. if bytes_eq name (spoiled_name m) then Some (spoiled m Absent) else known.flash name;
}
