-- What a cutter takes at once: a write of one word, a short write, and a short gap with the sync word after it (this
-- project's choice; UG470, packet types, has the packets). No-ops in a row are in Nops.
use Rattle.std.specs.Prelude.{◌≡◌, ℕ, ◌+◌, ◌*◌, ◌^◌, ◌<◌, ◌≤◌, List, [], ◌++◌, length, take, drop, Some}
use Rattle.std.specs.Borrow.{Bor}
use Rattle.x7_words.specs.Word.{bytes_of_word}
use Rattle.x7_regs.specs.Register.{number_of, reg_number_count}
use Rattle.x7_regs.specs.declared.register.Reg.TheVariants.{Cmd}
pub use Rattle.x7_packets.specs.Cutter.{TakesAsOneRun}
use Rattle.x7_packets.specs.Cutter.{CutterState}
use Rattle.x7_packets.specs.PacketWords.{type1_write_header}
use Rattle.x7_packets.specs.Machine.{MachineState}
use Rattle.x7_packets.specs.Matching.{places_reach}
use Rattle.x7_packets.specs.SyncWord.{sync_bytes}
use Rattle.x7_packets.specs.declared.cutter.Cut.TheVariants.{Body, Head, Skip, Sync, Word}
use Rattle.x7_packets.specs.declared.header.Step.{Step}
use Rattle.x7_packets.specs.declared.header.Step.TheVariants.{Open}

-- how many words a short write has at most
abbrev pub most_short_words : ℕ
most_short_words = 16

-- how many bytes the longest short write has: four of its header, and four of each of its words
abbrev pub longest_short_write : ℕ
longest_short_write = 4 + 4 * most_short_words

-- how many bytes a short gap and the sync word after it have at most
abbrev pub longest_gap_and_sync : ℕ
longest_gap_and_sync = 32

-- how many bytes must be left of a piece for a short gap to be taken at once: as many as a search for the sync word at
-- 32 places reaches over
abbrev pub short_gap_room : ℕ
short_gap_room = places_reach

-- the bytes begin with a type 1 write of one word, its header's reserved bits 0
pub record BeginsWrite (bytes : List ℕ) (register w : ℕ) : Type 0 where
  pub range : register < reg_number_count
  pub fits : w < 2 ^ 32
  pub whole : 8 ≤ length bytes
  pub are : take 8 bytes ≡ bytes_of_word (type1_write_header register 1) ++ bytes_of_word w

-- the header of a type 1 write of `count` words, with its step
abbrev pub write_head_step : ℕ → ℕ → ℕ × Step
write_head_step register count = (type1_write_header register count, Open register count)

-- a machine between the header of a type 1 write of `count` words and these words
abbrev pub in_write : ℕ → ℕ → MachineState
in_write register count = record { due = count; register = register; latest = Some register }

-- the bytes begin with a write of one word, and the new cutter is the old one after the header and then the word, and
-- keeps no byte
pub record WritesOne (old new : CutterState) (rest : List ℕ) (register w : ℕ) : Type 0 where
  pub middle : CutterState
  pub begins : BeginsWrite rest register w
  pub head : TakesAsOneRun old middle (bytes_of_word (type1_write_header register 1)) (Head (type1_write_header register 1) (Open register 1))
  pub word : TakesAsOneRun middle new (bytes_of_word w) (Word register w)
  pub none_kept : new.kept ≡ []

-- The bytes, as many as the longest short write has at least, begin with a short write to a register other than CMD, of
-- one word at least. The new cutter is the old one after the header and then the words, and keeps no byte.
pub record WritesShort (old new : CutterState) (rest : List ℕ) (register count : ℕ) : Type 0 where
  pub middle : CutterState
  pub range : register < reg_number_count
  pub other : register ≡ number_of Cmd → ⊥
  pub some : 0 < count
  pub few : count ≤ most_short_words
  pub long : longest_short_write ≤ length rest
  pub bytes : take 4 rest ≡ bytes_of_word (type1_write_header register count)
  pub head : TakesAsOneRun old middle (bytes_of_word (type1_write_header register count)) (Head (type1_write_header register count) (Open register count))
  pub words : (run : Bor (List ℕ)) → run.now ≡ take (4 * count) (drop 4 rest) → TakesAsOneRun middle new run.now (Body register run)
  pub none_kept : new.kept ≡ []

-- the bytes, `short_gap_room` at least, begin with `count` bytes of a gap and the sync word, 32 bytes at most together;
-- the new cutter is the old one after these bytes as one run, and then the sync word, and keeps no byte
pub record EndsGap (old new : CutterState) (rest : List ℕ) (count : ℕ) : Type 0 where
  pub middle : CutterState
  pub near : count + 4 ≤ longest_gap_and_sync
  pub long : short_gap_room ≤ length rest
  pub found : take (count + 4) rest ≡ take count rest ++ sync_bytes
  pub gap : (run : Bor (List ℕ)) → run.now ≡ take (count + 4) rest → TakesAsOneRun old middle run.now (Skip run)
  pub sync : TakesAsOneRun middle new [] Sync
  pub none_kept : new.kept ≡ []
