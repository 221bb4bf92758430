-- What a planner writes: words, and running checks (this project's choice; UG470, configuration sequence, has the
-- packets).
use Rattle.std.specs.Prelude.{ℕ, List, [], ◌∷◌, ◌++◌, fold}
use Rattle.std.specs.List.{flat_map}
use Rattle.x7_words.specs.Word.{bytes_of_word}
use Rattle.x7_regs.specs.declared.register.Reg.TheVariants.{Crc}
use Rattle.x7_packets.specs.PacketWords.{bus_width_detect, bus_width_sync, dummy_word, no_op, sync_word, write_one}
use Rattle.x7_crc.specs.Checker.{check_of_bytes}

-- words, or a write to CRC of the running check of all bytes before it
pub data StreamPiece : Type 0 where
  Words : (ws : List ℕ) → StreamPiece
  Check : StreamPiece

-- the bytes of words, the highest byte of each first
abbrev pub bytes_of_words : List ℕ → List ℕ
bytes_of_words ws = flat_map bytes_of_word ws

-- the words that write the running check to CRC
abbrev pub check_words : ℕ → List ℕ
check_words check = write_one Crc check

-- what each planned stream begins with: dummy words, the bus width pattern, the sync word and a no-op
abbrev pub opening_words : List ℕ
opening_words = dummy_word ∷ dummy_word ∷ dummy_word ∷ dummy_word ∷ bus_width_sync ∷ bus_width_detect ∷ dummy_word ∷ dummy_word ∷ sync_word ∷ no_op ∷ []

-- how many no-ops a partial stream and a read stream end with
abbrev pub ending_no_ops : ℕ
ending_no_ops = 4

-- ---- streams

-- bytes with those of one piece more
abbrev pub with_piece : List ℕ → StreamPiece → List ℕ
with_piece bytes (Words ws) = bytes ++ bytes_of_words ws
with_piece bytes Check = bytes ++ bytes_of_words (check_words (check_of_bytes bytes))

-- the bytes of pieces
abbrev pub stream_of : List StreamPiece → List ℕ
stream_of pieces = fold with_piece [] pieces
