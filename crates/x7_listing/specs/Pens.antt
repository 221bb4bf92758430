-- What a lister lists with its pen, which is what it keeps between two runs (`src/list/pen/state.rt`; this project's
-- choice).
use Rattle.std.specs.Prelude.{◌≡◌, Bool, List, [], ℕ, ◌++◌, take, false, true}
use Rattle.x7_words.specs.Word.{bytes_of_word}
use Rattle.x7_packets.specs.AtOnce.{TakesAsOneRun}
use Rattle.x7_packets.specs.Cutter.{CutterState}
use Rattle.x7_packets.specs.declared.cutter.Cut.TheVariants.{Head}
use Rattle.x7_packets.specs.declared.header.Step.{Step}
use Rattle.x7_packets.specs.Reading.{EndedSession, Place, tail_of}
use Rattle.x7_listing.specs.Listing.{reading_text}
use Rattle.x7_listing.specs.Lister.{GapListed, HasListedAll, ListerState, ListerStandsFor, HasListedJust, WrittenSoFar, lister_of, written_of}
use Rattle.x7_listing.specs.declared.list.pen.state.GapPen.{GapPen}
use Rattle.x7_listing.specs.declared.list.pen.state.Pen.{Pen}
use Rattle.x7_listing.specs.declared.list.pen.state.Pen.TheVariants as pen

-- whether the last bytes that a pen listed are a session's
abbrev pub is_in_session : Pen → Bool
is_in_session (pen.Gap gap) = false
is_in_session (pen.Session in_line) = true
is_in_session (pen.Tail in_line tail) = true

-- how many bytes of a gap, or words of a session, stand in a pen's open line; 0 where none is open
abbrev pub in_line_of : Pen → ℕ
in_line_of (pen.Gap gap) = gap.in_line
in_line_of (pen.Session in_line) = in_line.count
in_line_of (pen.Tail in_line tail) = in_line.count

-- the bytes that a pen holds: of a gap, or of no whole word at the end of a stream
abbrev pub held_by : Pen → List ℕ
held_by (pen.Gap gap) = take gap.count gap.held
held_by (pen.Session in_line) = []
held_by (pen.Tail in_line tail) = take tail.count tail.bytes

-- a lister with this pen
abbrev pub lister_with : CutterState → Pen → List ℕ → ListerState
lister_with cutter p text = lister_of cutter (is_in_session p) (in_line_of p) (held_by p) text

-- a cutter takes this word in a header's place, and is as it was
abbrev pub TakesHead : CutterState → ℕ → Step → Type 0
TakesHead c w step = TakesAsOneRun c c (bytes_of_word w) (Head w step)

-- whatever the old lister has listed, the new one has listed, and these bytes after it
abbrev pub ListsMore : ListerState → ListerState → List ℕ → Type 0
ListsMore old new more = (given before bytes : List ℕ) → HasListedJust old given before bytes → HasListedJust new given before (bytes ++ more)

-- whatever the old lister has listed, the new one has listed, and these bytes after it; no sync word is still to be
-- listed
abbrev pub ListsMoreAndRests : ListerState → ListerState → List ℕ → Type 0
ListsMoreAndRests old new more = (given before bytes : List ℕ) → HasListedJust old given before bytes → ListerStandsFor new given before (bytes ++ more)

-- what is written with this pen
abbrev pub written_with : Pen → List ℕ → WrittenSoFar
written_with p text = written_of (is_in_session p) (in_line_of p) (held_by p) text

-- what is written with this pen in a gap
abbrev pub gap_written : GapPen → List ℕ → WrittenSoFar
gap_written gap text = written_of false gap.in_line (take gap.count gap.held) text

-- more bytes of a gap are listed but for those that are held, whatever texts were given
abbrev pub GapGoesOn : WrittenSoFar → WrittenSoFar → List ℕ → Type 0
GapGoesOn old new more = (given start gap : List ℕ) → GapListed (given ++ old.text) start old.in_line old.held gap
    → GapListed (given ++ new.text) start new.in_line new.held (gap ++ more)

-- with this text a listing is whole, whatever texts were given before: it is what is written, then what is held, and
-- these bytes of no whole word at the end
abbrev pub EndsWith : WrittenSoFar → List ℕ → List ℕ → Type 0
EndsWith w kept text = (given before : List ℕ) (sessions : List EndedSession) (place : Place)
    → HasListedAll (written_of w.is_synced w.in_line w.held (given ++ w.text)) before sessions place → kept ≡ tail_of place
    → given ++ text ≡ before ++ reading_text sessions place
