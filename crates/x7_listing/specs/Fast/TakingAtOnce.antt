-- How much a lister takes at once, and by how much its text grows (this project's choice).
use Rattle.std.specs.Prelude.{ℕ, ◌+◌, ◌*◌, ◌<◌, ◌≤◌, List, length}
use Rattle.x7_packets.specs.Cutter.{CutterState}
use Rattle.x7_listing.specs.declared.list.fast.sheet.TheConstants.{SHEET_SIZE}
use Rattle.x7_listing.specs.declared.list.lister.TheConstants.{BYTE_ROOM}
use Rattle.x7_listing.specs.declared.list.pen.TheConstants.{CALL_ROOM}

-- `size` of the bytes that come next were taken, one at least, the cutter keeps no more bytes than before, and the text
-- grew from one length, in bytes, to another. Of the room that a lister asks for the bytes taken, that of one call of a
-- pen is left over.
pub record TakesAtOnce (old new : CutterState) (rest : List ℕ) (size from to : ℕ) : Type 0 where
  pub at_least_one : 0 < size
  pub within : size ≤ length rest
  pub kept : length new.kept ≤ length old.kept
  pub grown : to + CALL_ROOM ≤ from + BYTE_ROOM * size

-- how many bytes of text a byte that is taken adds to a sheet at most
abbrev pub most_text : ℕ
most_text = 25

-- `size` of the bytes that come next were taken, four at least, and the cutter keeps no more bytes than before. The
-- text of a sheet grew from one length, in bytes, to another: by `most_text` at most for each byte taken, and within
-- the sheet.
pub record TakesOnSheet (old new : CutterState) (rest : List ℕ) (size from to : ℕ) : Type 0 where
  pub at_least_a_word : 4 ≤ size
  pub within : size ≤ length rest
  pub kept : length new.kept ≤ length old.kept
  pub grown : to ≤ from + most_text * size
  pub inside : to ≤ SHEET_SIZE
