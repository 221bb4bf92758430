-- What stands between two turns of `list`: what was written of a listing, and what the lister keeps (this project's
-- choice).
use Rattle.std.specs.Prelude.{◌≡◌, ◌⊎◌, ◌≤◌, ◌++◌, ℕ, List, [], Option, Ok, length, ◌+◌}
use Rattle.x7_words.specs.Sink.{PutsPrefix, SinkFails, SinkState, appended}
use Rattle.x7_words.specs.Word.{AreBytes}
use Rattle.x7_listing.specs.Listing.{listing_of}
use Rattle.x7_listing.specs.StreamListing.{stream_listing}
use Rattle.x7_listing.specs.Lister.{ListerState, ListerStandsFor}
use Rattle.x7_forms.specs.Turn.{longest_beginning}
use Rattle.x7_forms.specs.Event.{Event, no_memory, writing_failed}

-- What was put after `first` is the listing so far of `bytes`, and the lister's own text is empty.
pub record ListsInTurns (l : ListerState) (first now : Option (List ℕ)) (bytes : List ℕ) : Type 0 where
  pub given : List ℕ
  pub stands : ListerStandsFor l given [] bytes
  pub put : now ≡ appended first given
  pub clear : l.text ≡ []

-- a call that writes more of a listing failed: memory was wanting, and nothing was written, or the sink failed
abbrev pub IsUnlisted : SinkState → SinkState → Event → Type 0
IsUnlisted old new event = ((event ≡ no_memory) × (new.written ≡ old.written)) ⊎ ((event ≡ writing_failed) × SinkFails old new)

-- The listing stopped in a piece: whatever bytes came before it and may come after it, what was put is a prefix of the
-- listing of them all.
abbrev pub StopsIn : ListerState → Option (List ℕ) → List ℕ → Option (List ℕ) → Type 0
StopsIn l old piece new =
    (first : Option (List ℕ)) (bytes rest : List ℕ) → ListsInTurns l first old bytes → AreBytes (bytes ++ (piece ++ rest))
    → PutsPrefix first (listing_of (bytes ++ (piece ++ rest))) new

-- What was put after `first` begins the listing of each stream that begins with `bytes`: `line`, a header's line or
-- nothing, and the listing so far of `content`, the data among `bytes`. What stands before the data is at most
-- `longest_beginning` bytes.
pub record ListsStream (l : ListerState) (first now : Option (List ℕ)) (bytes : List ℕ) : Type 0 where
  pub line : List ℕ
  pub content : List ℕ
  pub lists : ListsInTurns l (appended first line) now content
  pub listing : (rest : List ℕ) → stream_listing (bytes ++ rest) ≡ Ok (line ++ listing_of (content ++ rest))
  pub short_header : length bytes ≤ length content + longest_beginning
