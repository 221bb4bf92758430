-- A full stream that is written piece by piece: what was written of it, and what is next (this project's choice).
use Rattle.std.specs.Prelude.{◌≡◌, ◌≢◌, ℕ, ◌+◌, ◌-◌, ◌*◌, ◌<◌, ◌≤◌, List, [], ◌∷◌, ◌++◌, length, take, vec_capacity, OnErr, OnOk, Result, Vec}
use Rattle.std.specs.declared.alloc.Global.{Global}
use Rattle.x7_words.specs.declared.input.NoMemory.{NoMemory}
use Rattle.x7_crc.specs.Checker.{HasTaken, PieceCheckerState}
use Rattle.x7_part.specs.Limits.{most_frame_words}
use Rattle.x7_part.specs.Part.{PartData, frame_words}
use Rattle.x7_part.specs.Slot.{slots_in}
use Rattle.x7_memory.specs.Plan.{PlanData}
use Rattle.x7_planner.specs.FullStream.{full_opening, full_pieces, full_stream, words_of_slots, start_words}
use Rattle.x7_planner.specs.Writer.{StreamPiece, Words, Check, stream_of}
use Rattle.x7_planner.specs.declared.full_stream.NextPiece.{NextPiece}
use Rattle.x7_planner.specs.declared.full_stream.NextPiece.TheVariants as next

-- what a full stream that is written piece by piece keeps
pub record FullStreamState : Type 0 where
  pub part : PartData
  pub plan : PlanData
  pub next_piece : NextPiece
  pub checker : PieceCheckerState

-- what a full stream has before slot n, from 0: its opening, and the frame data of the slots before that one
abbrev pub pieces_to : PartData → PlanData → ℕ → List StreamPiece
pieces_to part plan n = Words (full_opening part) ∷ Words (words_of_slots part plan (take n (slots_in part))) ∷ []

-- what a full stream has before the check after its frame data
abbrev pub frame_pieces : PartData → PlanData → List StreamPiece
frame_pieces part plan = Words (full_opening part) ∷ Words (words_of_slots part plan (slots_in part)) ∷ []

-- what a full stream has before what is next
abbrev pub pieces_before : PartData → PlanData → NextPiece → List StreamPiece
pieces_before part plan next.Opening = []
pieces_before part plan (next.Slot n) = pieces_to part plan n
pieces_before part plan next.Check = frame_pieces part plan
pieces_before part plan next.Start = frame_pieces part plan ++ Check ∷ []
pieces_before part plan next.LastCheck = frame_pieces part plan ++ Check ∷ Words start_words ∷ []
pieces_before part plan next.Desync = frame_pieces part plan ++ Check ∷ Words start_words ∷ Check ∷ []
pieces_before part plan next.Nothing = full_pieces part plan

-- the slot that is next, 0 where something else is
abbrev pub slot_next : NextPiece → ℕ
slot_next (next.Slot n) = n
slot_next _ = 0

-- a bound on the calls that still append a piece, where `next` is the next one, of a part with `slots` slots
abbrev pub calls_from : ℕ → NextPiece → ℕ
calls_from slots next.Opening = slots + 6
calls_from slots (next.Slot n) = slots - n + 5
calls_from slots next.Check = 4
calls_from slots next.Start = 3
calls_from slots next.LastCheck = 2
calls_from slots next.Desync = 1
calls_from slots next.Nothing = 0

-- a bound on the calls of `put_next` that still append a piece
abbrev pub puts_left : FullStreamState → ℕ
puts_left s = calls_from (length (slots_in s.part)) s.next_piece

-- the plan has the part's width, and the slot that is next is one of the part's, or the place after the last
pub record IsFullStream (s : FullStreamState) : Type 0 where
  pub width : s.plan.width ≡ frame_words s.part
  pub inside : slot_next s.next_piece ≤ length (slots_in s.part)

-- of the stream the bytes `given` were written: they stand before what is next and were taken by the check, and the
-- rest is left
pub record HasGiven (s : FullStreamState) (given : List ℕ) : Type 0 where
  pub before : given ≡ stream_of (pieces_before s.part s.plan s.next_piece)
  pub checked : HasTaken s.checker given
  pub left : List ℕ
  pub whole : given ++ left ≡ full_stream s.part s.plan

-- the most bytes of a frame
abbrev pub most_frame_size : ℕ
most_frame_size = 4 * most_frame_words

-- how many slots, pads too, a piece of the frame data has at most
abbrev pub piece_slots : ℕ
piece_slots = 160

-- how many bytes a piece has at most
abbrev pub piece_limit : ℕ
piece_limit = piece_slots * most_frame_size

-- how many bytes `full_control_words` has: those of nineteen words
abbrev pub control_words_size : ℕ
control_words_size = 4 * 19

-- how many bytes stand before the frame data: those of the ten opening words, and of the control words
abbrev pub opening_size : ℕ
opening_size = 4 * 10 + control_words_size

-- there are at most `most` bytes more; or the call failed: there was no spare room for that many before, and the old
-- bytes still stand first; in no case does the capacity fall
pub record AppendsWithin {T : Type 0} (old new : Vec ℕ Global) (result : Result T NoMemory) (most : ℕ) : Type 0 where
  pub within : OnOk result (length new.items ≤ length old.items + most)
  pub failed : OnErr result (take (length old.items) new.items ≡ old.items)
  pub room : vec_capacity old ≤ vec_capacity new
  pub no_room : OnErr result (vec_capacity old < length old.items + most)

-- a piece more was appended to bytes, and counts as written
pub record AppendsNext (s : FullStreamState) (given old new : List ℕ) : Type 0 where
  pub piece : List ℕ
  pub adds : new ≡ old ++ piece
  pub more : HasGiven s (given ++ piece)

-- the piece that is next was appended to bytes, and `after` is next then, with fewer calls left, unless nothing was
-- next
pub record WritesPiece (s : FullStreamState) (old new : List ℕ) (after : NextPiece) : Type 0 where
  pub piece : List ℕ
  pub adds : new ≡ old ++ piece
  pub before : (given : List ℕ) → HasGiven s given → given ++ piece ≡ stream_of (pieces_before s.part s.plan after)
  pub inside : slot_next after ≤ length (slots_in s.part)
  pub fewer : s.next_piece ≢ next.Nothing → calls_from (length (slots_in s.part)) after < puts_left s
