-- What the steps of a play come to. A player is over (over its limit of words read out) once its device has read
-- out more words than a play may (this project's choice).
use Rattle.std.specs.Prelude.{◌≡◌, ◌+◌, ◌<◌, ◌≤◌, ◌⊎◌, ◌++◌, ℕ, List, [], Some, Bool, true, false, IsSome, length, Result, Ok}
use Rattle.x7_words.specs.Input.{InputsState, taken_bytes_limit}
use Rattle.x7_words.specs.Word.{AreBytes}
use Rattle.x7_part.specs.Part.{PartData}
use Rattle.x7_engine.specs.Kept.{on_the_bench}
use Rattle.x7_engine.specs.ReadBuffer.{ReadBufState}
use Rattle.x7_engine.specs.Standing.{DeviceState, DeviceStandsFor, NoWordDue, reads_given}
use Rattle.x7_engine.specs.State.{reads_of, first_stop_of_bytes}
use Rattle.x7_forms.specs.Event.{Event}
use Rattle.x7_forms.specs.Known.{reads_limit, StreamRead}
use Rattle.x7_forms.specs.Step.{ReadsStreams}
use Rattle.x7_playing.specs.declared.player.Player.{Player}

-- A device was given these bytes, and took all of them, or those up to its stop; `reads` are the words read out,
-- without those still due, within their limit.
pub record DevicePlayed (part : PartData) (bytes : List ℕ) (d : DeviceState) (reads : List ℕ) : Type 0 where
  pub taken : List ℕ
  pub left : List ℕ
  pub split : bytes ≡ taken ++ left
  pub ends : (left ≡ []) ⊎ IsSome (first_stop_of_bytes part on_the_bench taken)
  pub fits : AreBytes bytes
  pub stands : DeviceStandsFor part on_the_bench false d taken
  pub reads_are : reads ≡ reads_given part on_the_bench d taken
  pub within_limit : length reads ≤ reads_limit

-- the bytes read out more words than a play may
pub record ReadsOver (part : PartData) (bytes : List ℕ) : Type 0 where
  pub fits : AreBytes bytes
  pub many : reads_limit < length (reads_of part on_the_bench bytes)

-- the most words that a device reads out before they are moved out of the buffer
abbrev pub reads_room : ℕ
reads_room = 4096

-- a buffer for words read out that holds none
abbrev pub empty_buffer : ReadBufState
empty_buffer = record { most = Some reads_room; words = [] }

-- what a player has: its device, its buffer with the words read out that are still there, and the words that were moved
-- out of it
pub record PlayState : Type 0 where
  pub device : DeviceState
  pub buffer : ReadBufState
  pub reads : List ℕ

-- the state of a player with this device, this buffer and these words read out
abbrev pub play_state : DeviceState → ReadBufState → List ℕ → PlayState
play_state device buffer reads = record { device = device; buffer = buffer; reads = reads }

-- A player was given these bytes. Where it is over, the bytes read out more words than a play may; else its device
-- took them, or those up to its stop, and no word read out is due or in its buffer.
abbrev pub HasPlayedBy : Bool → PartData → List ℕ → PlayState → Type 0
HasPlayedBy true part bytes s = ReadsOver part bytes
HasPlayedBy false part bytes s = DevicePlayed part bytes s.device s.reads × NoWordDue s.device × (s.buffer ≡ empty_buffer)

-- a player with a device of this part, on the bench, was given these bytes; it may be over
abbrev pub HasPlayed : PartData → List ℕ → Player → Type 0
HasPlayed part bytes p = HasPlayedBy p.is_over_limit part bytes (play_state p.device p.buffer p.reads.items)

-- the player was given these bytes more; it may be over before or after them
abbrev pub PlaysOn : Player → Player → List ℕ → Type 0
PlaysOn old new more = (part : PartData) (bytes : List ℕ) → HasPlayed part bytes old → HasPlayed part (bytes ++ more) new

-- a player that was not over was given these bytes more; `over` says whether it is now
abbrev pub FeedsOn : Bool → PlayState → PlayState → List ℕ → Type 0
FeedsOn over old new more = (part : PartData) (bytes : List ℕ) → HasPlayedBy false part bytes old → HasPlayedBy over part (bytes ++ more) new

-- there is a prefix of the piece of which `Holds` is true
pub record ForSomePrefix (piece : List ℕ) (Holds : List ℕ → Type 0) : Type 0 where
  pub prefix : List ℕ
  pub left : List ℕ
  pub split : piece ≡ prefix ++ left
  pub holds : Holds prefix

-- the player's device was given the bytes `prefix` more; words that they read out may still be due
abbrev pub PlaysPrefix : Player → Player → List ℕ → Type 0
PlaysPrefix old new prefix = (part : PartData) (bytes : List ℕ) → HasPlayed part bytes old → DevicePlayed part (bytes ++ prefix) new.device new.reads.items

-- the device of a player that was not over was given the bytes `prefix` more; words that they read out may still be due
abbrev pub FeedsPrefix : PlayState → PlayState → List ℕ → Type 0
FeedsPrefix old new prefix = (part : PartData) (bytes : List ℕ) → HasPlayedBy false part bytes old → DevicePlayed part (bytes ++ prefix) new.device new.reads

-- `count` bytes more may be given: with those that the player was given they are no more than a device counts
-- (`taken_bytes_limit`). `over` says whether the player is over
abbrev pub MayPlayBy : Bool → PlayState → ℕ → Type 0
MayPlayBy over s count = (part : PartData) × ((bytes : List ℕ) × (HasPlayedBy over part bytes s × (length bytes + count ≤ taken_bytes_limit)))

-- as `MayPlayBy`, of a player
abbrev pub MayPlay : Player → ℕ → Type 0
MayPlay p count = MayPlayBy p.is_over_limit (play_state p.device p.buffer p.reads.items) count

-- The rest of the open stream was played, as `WasPlayed` says, and read to its end, as `IsRest` says; of `limit` bytes
-- it leaves `left`.
abbrev pub PlaysRest : ℕ → ℕ → (List ℕ → Type 0) → (List ℕ → Type 0) → Type 0
PlaysRest limit left WasPlayed IsRest = (more : List ℕ) × (length more + left ≡ limit) × WasPlayed more × IsRest more

-- the player was given the data of the streams of these names, as a step reads them
abbrev pub PlaysStreams : PartData → Player → InputsState → InputsState → List (List ℕ) → Type 0
PlaysStreams part player old new names = (bytes : List ℕ) × HasPlayed part bytes player × ReadsStreams old new names (Ok bytes)

-- The data of a stream were played, as `WerePlayed` says, and a step reads them and leaves room for `left` bytes, as
-- `IsRead` says. The data and `left` are at most `limit` bytes together: fewer where the stream has a header, which
-- counts too.
pub record PlaysStream (limit left : ℕ) (WerePlayed : List ℕ → Type 0) (IsRead : Result StreamRead Event → Type 0) : Type 0 where
  pub bytes : List ℕ
  pub within : length bytes + left ≤ limit
  pub plays : WerePlayed bytes
  pub reads : IsRead (Ok (record { bytes = bytes; room = left }))
