-- Inputs that are read turn by turn, and the beginning of a stream, up to where its header is judged (this project's
-- choice). A turn reads as many bytes as a buffer holds, or fewer: up to the input's end, and at most one byte over its
-- limit. What it read is used before the next turn. The open input is the one that is selected.
use Rattle.std.specs.Prelude.{◌≡◌, ◌≢◌, ◌<◌, ◌≤◌, ◌⊎◌, ◌++◌, ℕ, Bool, true, false, List, [], Some, Ok, Err, IfSome, drop, length, take, ◌+◌}
use Rattle.x7_words.specs.Input.{InputsState, AsksAtMost, AsksForName, AsksOnce, AtEnd, InputsFail, MissesInput, InputsStay, TakenBy, TakesInput}
use Rattle.x7_header.specs.Header.{HeaderContents, EndsInHeader, HasOtherLetterAt, FitHeaderFields, fixed_bytes, fixed_size, header_bytes, longest_header}
use Rattle.x7_forms.specs.Event.{Event, bad_input, missing, no_memory, reading_failed, too_large}
use Rattle.x7_forms.specs.declared.bad_input.InputFault.TheVariants as input
use Rattle.x7_forms.specs.declared.beginning.Beginning.{Beginning}
use Rattle.x7_forms.specs.declared.read.Turn.{Turn}
use Rattle.x7_forms.specs.Known.{stream_limit}
use Rattle.x7_listing.specs.Listing.{listing_of}
use Rattle.x7_listing.specs.StreamListing.{stream_listing}

-- the most bytes that one turn of an input reads, but for a stream that is played
abbrev pub turn_size : ℕ
turn_size = 65536

-- a bound on the bytes that are read of a stream until its header is judged: a turn more than a header may have
abbrev pub longest_beginning : ℕ
longest_beginning = longest_header + turn_size

-- the most bytes that one turn of a stream that is played reads: no fewer than a header may have, so that the first
-- turn judges it
abbrev pub play_turn_size : ℕ
play_turn_size = 266240

-- the input `name` was not opened: it isn't there, or the inputs failed; no input is selected
abbrev pub Unopened : InputsState → List ℕ → InputsState → Event → Type 0
Unopened old name new event = (((event ≡ missing name) × MissesInput old name new) ⊎ ((event ≡ reading_failed name) × InputsFail old new)) × (new.selected ≡ false)

-- the selected input failed after fewer than `most` bytes more, and no input is selected any more
pub record BreaksWithin (old : InputsState) (most : ℕ) (new : InputsState) : Type 0 where
  pub risen : InputsFail old new
  pub selected : new.selected ≡ false
  pub given : new.given < old.given + most

-- `bytes` were read of the open input; the name last asked for stays, and every input keeps its bytes
pub record ReadsBytes (old : InputsState) (bytes : List ℕ) (new : InputsState) : Type 0 where
  pub takes : TakesInput old bytes new
  pub asked : new.asked ≡ old.asked
  pub stays : InputsStay old new

-- No input was asked for, at most `most` bytes of the selected one were given, its end was read once at most, and every
-- input keeps its bytes.
pub record GivesAtMost (old : InputsState) (most : ℕ) (new : InputsState) : Type 0 where
  pub asked : new.asked ≡ old.asked
  pub selects : new.selects ≡ old.selects
  pub ends : new.ends ≤ old.ends + 1
  pub given : new.given ≤ old.given + most
  pub stays : InputsStay old new

-- no input was asked for; of the selected one, of which `left` bytes were within its limit, at most one byte over the
-- limit was given; its end was read once at most, and every input keeps its bytes
abbrev pub GivesWithinLimit : InputsState → ℕ → InputsState → Type 0
GivesWithinLimit old left new = GivesAtMost old (left + 1) new

-- The input `name` is the last that was asked for, where that is kept, and one input was asked for at most; no byte of
-- it was given and no end read yet, and every input keeps its bytes.
pub record AsksFor (old : InputsState) (name : List ℕ) (new : InputsState) : Type 0 where
  pub named : AsksForName name new
  pub once : AsksOnce old new
  pub stays : InputsStay old new

-- The input `name` is the last that was asked for, where that is kept, and at most `limit` bytes and one more were
-- given of it.
pub record IsLastAsked (name : List ℕ) (limit : ℕ) (now : InputsState) : Type 0 where
  pub asked : IfSome now.asked (λ kept. kept ≡ name)
  pub given : now.given ≤ limit + 1

-- No input but `name` was asked for, and that once at most; at most `limit` bytes and one more were given of it, its
-- end was read once at most, and every input keeps its bytes.
pub record AsksOnlyFor (old : InputsState) (name : List ℕ) (limit : ℕ) (new : InputsState) : Type 0 where
  pub last : IsLastAsked name limit new
  pub once : AsksAtMost old 1 new
  pub stays : InputsStay old new

-- the first `count` bytes of a buffer are the next bytes of the open input; where they don't fill the buffer, the input
-- ends after them, and else no end was read
pub record FillsBuffer (old : InputsState) (count : ℕ) (buffer : List ℕ) (new : InputsState) : Type 0 where
  pub takes : TakesInput old (take count buffer) new
  pub within : count ≤ length buffer
  pub end : count < length buffer → AtEnd new.rest
  pub no_end_read : count ≡ length buffer → new.ends ≤ old.ends

-- A turn of the open input, of which `left` bytes were within the limit: its bytes, at most `left`, stand at the start
-- of the buffer. Where `turn.last` is true they are the last of the input; else they fill the buffer, and no end was
-- read.
pub record ReadsTurn (old : InputsState) (left : ℕ) (turn : Turn) (buffer : List ℕ) (new : InputsState) : Type 0 where
  pub takes : TakesInput old (take turn.count buffer) new
  pub within_limit : turn.count ≤ left
  pub within_buffer : turn.count ≤ length buffer
  pub fills : turn.last ≡ false → turn.count ≡ length buffer
  pub end : turn.last ≡ true → AtEnd new.rest
  pub no_end_read : turn.last ≡ false → new.ends ≤ old.ends

-- The open input, of which `left` bytes more are within the limit, was not read to its end: it failed before the limit
-- was passed, or one byte over the limit was taken.
abbrev pub UnreadToEnd : InputsState → List ℕ → InputsState → ℕ → Event → Type 0
UnreadToEnd old name new left event =
    ((event ≡ reading_failed name) × BreaksWithin old (left + 1) new)
    ⊎ ((event ≡ too_large name) × ((piece : List ℕ) × (TakenBy new.contents old.rest piece new.rest × (length piece ≡ left + 1))))

-- the rest of the open input, the bytes `more`, was read to its end
abbrev pub ReadsRest : InputsState → InputsState → List ℕ → Type 0
ReadsRest old new more = TakenBy new.contents old.rest more new.rest × AtEnd new.rest

-- the rest of the open input, at most `limit` bytes, was read to its end and appended to the bytes `before`, which
-- makes `after`
abbrev pub AppendsRest : InputsState → InputsState → ℕ → List ℕ → List ℕ → Type 0
AppendsRest old new limit before after = (more : List ℕ) × (after ≡ before ++ more) × (length more ≤ limit) × ReadsRest old new more

-- the rest of the open input was not read: a read failed, or the rest is over the limit; the name last asked for stays
abbrev pub UnreadRest : InputsState → List ℕ → InputsState → ℕ → Event → Type 0
UnreadRest old name new limit event = UnreadToEnd old name new limit event × (new.asked ≡ old.asked)

-- where `last` says that a stream's first bytes are all of it, the `rest` after them is empty
abbrev pub FollowsUnlessLast : Bool → List ℕ → Type 0
FollowsUnlessLast last rest = last ≡ true → rest ≡ []

-- the data begin at the byte `start` of `bytes`, from 0: after a header, or at byte 0 where `bytes` don't begin with
-- the fixed bytes of a header
abbrev pub DataBeginAt : List ℕ → ℕ → Type 0
DataBeginAt bytes start =
    ((x : HeaderContents) × FitHeaderFields x × (bytes ≡ header_bytes x ++ drop start bytes) × (start ≡ length (header_bytes x)))
    ⊎ ((start ≡ 0) × ((rest : List ℕ) → bytes ≢ fixed_bytes ++ rest))

-- the bytes of a beginning, whose data begin at `start`, end with the header; without a header (`start` is 0) they are
-- at most as many as a header's fixed bytes, by which it is seen that there is none
abbrev pub HoldsFew : List ℕ → ℕ → Type 0
HoldsFew bytes start = (start ≡ length bytes) ⊎ ((start ≡ 0) × (length bytes ≤ fixed_size))

-- where a header may be refused: at the end of the bytes, or where another byte stands in the place of a field's letter
abbrev pub RefusedAt : List ℕ → ℕ → Type 0
RefusedAt bytes place = (place ≡ length bytes) ⊎ HasOtherLetterAt bytes place

-- whatever follows `bytes`, the first of a stream (nothing where they are the last), the stream's listing is `line`,
-- the header's or nothing, and then that of its data, from the byte `start` on
abbrev pub IsBeginning : List ℕ → Bool → List ℕ → ℕ → Type 0
IsBeginning bytes last line start = (rest : List ℕ) → FollowsUnlessLast last rest → stream_listing (bytes ++ rest) ≡ Ok (line ++ listing_of (drop start bytes ++ rest))

-- the header is judged by these bytes: its line or nothing, and where the data begin among them
pub record IsJudged (bytes : List ℕ) (last : Bool) (line : List ℕ) (start : ℕ) : Type 0 where
  pub within : start ≤ length bytes
  pub begins : IsBeginning bytes last line start
  pub data_begin : DataBeginAt bytes start

-- bytes, no more than a header may have, that end inside a header, of a stream that may have more
abbrev pub HeaderGoesOn : List ℕ → Bool → Type 0
HeaderGoesOn bytes last = (last ≡ false) × (length bytes ≤ longest_header) × EndsInHeader bytes

-- the first bytes of a stream by which its header was judged, the header's line or nothing, where the data begin, and
-- whether the stream's end was read after these bytes
pub record BeginningData : Type 0 where
  pub bytes : List ℕ
  pub line : List ℕ
  pub start : ℕ
  pub last : Bool

-- a `Beginning` of `src/beginning.rt`, by the bytes that it holds
abbrev pub beginning_data : Beginning → BeginningData
beginning_data first = record { bytes = first.bytes.items; line = first.line.items; start = first.start; last = first.last }

-- what was read of a stream when its header is judged
pub record ReadsBeginning (first : BeginningData) (old new : InputsState) : Type 0 where
  pub reads : ReadsBytes old first.bytes new
  pub end : first.last ≡ true → AtEnd new.rest
  pub no_end_read : first.last ≡ false → new.ends ≤ old.ends
  pub within : first.start ≤ length first.bytes
  pub short : length first.bytes ≤ longest_beginning
  pub holds_few : HoldsFew first.bytes first.start
  pub begins : IsBeginning first.bytes first.last first.line first.start

-- whatever follows `bytes`, the first bytes of a stream (nothing where they are the last), the header is refused at
-- `place`: a byte, from 0, or the stream's length where it ends inside the header
abbrev pub IsHeaderRefused : List ℕ → Bool → ℕ → Type 0
IsHeaderRefused bytes last place = (rest : List ℕ) → FollowsUnlessLast last rest → stream_listing (bytes ++ rest) ≡ Err place

-- the first bytes of a stream whose header is refused at `place`, a byte, from 0, or the stream's length where it ends
-- inside the header
pub record IsBadBeginning (old new : InputsState) (name : List ℕ) (event : Event) : Type 0 where
  pub place : ℕ
  pub bytes : List ℕ
  pub last : Bool
  pub reports : event ≡ bad_input name (input.Byte place)
  pub taken : TakenBy new.contents old.rest bytes new.rest
  pub end : last ≡ true → AtEnd new.rest
  pub refused : IsHeaderRefused bytes last place
  -- no byte after the one at which the header is refused
  pub no_byte_after : length bytes ≤ place + 1

-- where the rest of an open input is known, and begins with a header that has another byte in a letter's place, that
-- byte was not given
abbrev pub NoLetterGiven : InputsState → InputsState → Type 0
NoLetterGiven old new = IfSome new.contents (λ map. (bytes : List ℕ) (place : ℕ) → old.rest ≡ Some bytes → HasOtherLetterAt bytes place → new.given ≤ old.given + place)

-- a stream's beginning was not read, since the inputs failed within the limit of a stream; no wrong letter of its
-- header was given (`NoLetterGiven`)
abbrev pub BreaksBeginning : InputsState → List ℕ → InputsState → Event → Type 0
BreaksBeginning old name new event = (event ≡ reading_failed name) × BreaksWithin old (stream_limit + 1) new × (new.asked ≡ old.asked) × NoLetterGiven old new

-- a stream's beginning was not read: want of memory, the inputs failed, or the header is refused
abbrev pub UnreadBeginning : InputsState → List ℕ → InputsState → Event → Type 0
UnreadBeginning old name new event = (event ≡ no_memory) ⊎ (BreaksBeginning old name new event ⊎ IsBadBeginning old new name event)
