-- How far `list` reads ahead of what it writes (this project's choice).
use Rattle.std.specs.Prelude.{◌≡◌, ℕ, ◌+◌, ◌<◌, ◌≤◌, List, ◌++◌, length, Option, None, Some, Ok, Err}
use Rattle.x7_words.specs.Sink.{SinkState, appended}
use Rattle.x7_words.specs.Word.{AreBytes}
use Rattle.x7_listing.specs.StreamListing.{stream_listing}
use Rattle.x7_forms.specs.Form.{listed_by}
use Rattle.x7_forms.specs.AskedForm.{AskedForm}
use Rattle.x7_forms.specs.declared.status.Status.{Status}
use Rattle.x7_forms.specs.declared.status.Status.TheVariants as status
use Rattle.x7_outcome.specs.Outside.{Outside}

-- the most by which the bytes read of a stream exceed the bytes of text written: half a MiB (this project's choice)
abbrev pub most_bytes_ahead : ℕ
most_bytes_ahead = 524288

-- the most bytes of a listing that are not written yet: the text of bytes that may yet be a sync word, or of the rest
-- of a word, and line ends
abbrev pub most_held : ℕ
most_held = 64

-- The listing of `early`, the first bytes of a stream, has at most `most_held` bytes more than the sink got, whose
-- bytes were `before` and are `after`.
pub record HasWritten (early before after : List ℕ) : Type 0 where
  pub text : List ℕ
  pub lists : stream_listing early ≡ Ok text
  pub written : length before + length text ≤ length after + most_held

-- A stream's `bytes` are `early` ones, listed as `HasWritten` says, `late` ones, at most `most_bytes_ahead`, and those
-- `left`. The bytes read, `early` and `late`, are at most `most_bytes_ahead` more than the sink got.
pub record ReadsNear (bytes left before after : List ℕ) : Type 0 where
  pub early : List ℕ
  pub late : List ℕ
  pub split : bytes ≡ early ++ (late ++ left)
  pub not_far : length late ≤ most_bytes_ahead
  pub written : HasWritten early before after
  pub near : length bytes + length before ≤ length left + length after + most_bytes_ahead

-- The bytes `early` of a stream are listed as `HasWritten` says, and `given`, how many bytes were given of the stream,
-- is at most `most_bytes_ahead` more than there are of `early`.
pub record GivesNear (bytes : List ℕ) (given : ℕ) (before after : List ℕ) : Type 0 where
  pub early : List ℕ
  pub others : List ℕ
  pub split : bytes ≡ early ++ others
  pub not_far : given ≤ length early + most_bytes_ahead
  pub written : HasWritten early before after

-- where the stream, what is left of it, and what the sink got are known, at most `most_bytes_ahead` bytes more were
-- read than are listed
abbrev pub IsNear : List ℕ → Outside → Outside → Type 0
IsNear stream old new =
    (inputs : List ℕ → Option (List ℕ)) (bytes left before after : List ℕ) → new.inputs.contents ≡ Some inputs → inputs stream ≡ Some bytes → new.inputs.rest ≡ Some left
    → old.out.written ≡ Some before → new.out.written ≡ Some after → ReadsNear bytes left before after

-- where the stream and what the sink got are known, at most `most_bytes_ahead` bytes more were given than are listed:
-- after a fault nothing may be known of what is left
abbrev pub IsGivenNear : List ℕ → Outside → Outside → Type 0
IsGivenNear stream old new =
    (inputs : List ℕ → Option (List ℕ)) (bytes before after : List ℕ) → new.inputs.contents ≡ Some inputs → inputs stream ≡ Some bytes
    → old.out.written ≡ Some before → new.out.written ≡ Some after → GivesNear bytes new.inputs.given before after

-- where the stream and what is left of it are known, and its header is refused at the byte `place`, from 0, no byte
-- after that byte was read
abbrev pub IsRefusedSoon : List ℕ → Outside → Outside → Type 0
IsRefusedSoon stream old new =
    (inputs : List ℕ → Option (List ℕ)) (bytes left : List ℕ) (place : ℕ) → new.inputs.contents ≡ Some inputs → inputs stream ≡ Some bytes → new.inputs.rest ≡ Some left → stream_listing bytes ≡ Err place
    → length bytes ≤ length left + (place + 1)

-- where the stream is known and made of bytes, and its header is refused at a byte that it has, no more bytes are
-- counted as given than stand before that byte
abbrev pub IsUnjudged : List ℕ → Outside → Outside → Type 0
IsUnjudged stream old new =
    (inputs : List ℕ → Option (List ℕ)) (bytes : List ℕ) (place : ℕ) → new.inputs.contents ≡ Some inputs → inputs stream ≡ Some bytes
    → AreBytes bytes → stream_listing bytes ≡ Err place → place < length bytes
    → new.inputs.given ≤ place

-- By the status. Where the sink failed, the stream is too large or failed, or memory is wanting, at most
-- `most_bytes_ahead` bytes more were read or given than are listed. Where a header is refused at a byte, no byte after
-- that byte was read. Where the stream failed, the byte at which its header would be refused was not given. Of any
-- other status nothing is said.
abbrev pub StaysNearBy : Status → List ℕ → Outside → Outside → Type 0
StaysNearBy status.WriteFault stream old new = IsNear stream old new
StaysNearBy status.TooLarge stream old new = IsNear stream old new
StaysNearBy status.BadInput stream old new = IsRefusedSoon stream old new
StaysNearBy status.ReadFault stream old new = IsUnjudged stream old new × IsGivenNear stream old new
StaysNearBy status.NoMemory stream old new = IsGivenNear stream old new
StaysNearBy s stream old new = Unit {0}

-- by the status, how far the stream that a form lists was read; of other forms, which write at their end, nothing is
-- said
abbrev pub StaysNearIn : Status → Option (List ℕ) → Outside → Outside → Type 0
StaysNearIn s None old new = Unit {0}
StaysNearIn s (Some stream) old new = StaysNearBy s stream old new

-- how far the stream of a form that lists one was read, by how the run ended
abbrev pub StaysNear : Status → Option AskedForm → Outside → Outside → Type 0
StaysNear s form old new = StaysNearIn s (listed_by form) old new

-- what the sink has begins with what it had, where that is known
abbrev pub ExtendsOutput : SinkState → SinkState → Type 0
ExtendsOutput old new = (more : List ℕ) × (new.written ≡ appended old.written more)
