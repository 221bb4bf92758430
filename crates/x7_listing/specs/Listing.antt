-- The listing of a reading: its lines, and their texts, each with its end (this project's choice).
use Rattle.std.specs.Prelude.{◌≡◌, ℕ, ◌==◌, if◌then◌else◌, List, [], ◌∷◌, ◌++◌, map}
use Rattle.std.specs.List.{flat_map}
use Rattle.x7_packets.specs.Packet.{Packet, register_named_by}
use Rattle.x7_packets.specs.Reading.{Place, Searching, Synced, EndedSession, IsReading}
use Rattle.x7_packets.specs.ByHand.{reading_of}
use Rattle.x7_regs.specs.Register.{number_of}
use Rattle.x7_regs.specs.declared.register.Reg.TheVariants.{Cmd}
use Rattle.x7_text.specs.Row.{bytes_row_size, row_words, rows}
use Rattle.x7_listing.specs.HeadLine.{line_of_head}
use Rattle.x7_listing.specs.Line.{Line, Bytes, Sync, Data, cmd_line, ended_texts}

-- the lines of a payload: one a word where the register is CMD, else eight words a line, the last maybe fewer
abbrev pub payload_lines : ℕ → List ℕ → List Line
payload_lines register ws = if register == number_of Cmd then map cmd_line ws else map Data (rows row_words ws)

-- the lines of a packet
abbrev pub packet_lines : Packet → List Line
packet_lines p = line_of_head p.step p.head ∷ payload_lines (register_named_by p.step) p.payload

-- the lines of the bytes of a gap, or of those after a session's last whole word: 32 bytes a line, the last maybe fewer
abbrev pub gap_lines : List ℕ → List Line
gap_lines bs = map Bytes (rows bytes_row_size bs)

-- the lines of a gap and of the sync word after it
abbrev pub gap_and_sync_lines : List ℕ → List Line
gap_and_sync_lines gap = gap_lines gap ++ Sync ∷ []

-- the lines of a gap, the sync word after it and packets
abbrev pub packets_lines : List ℕ → List Packet → List Line
packets_lines gap packets = gap_and_sync_lines gap ++ flat_map packet_lines packets

-- the lines of a session that ended
abbrev pub session_lines : EndedSession → List Line
session_lines s = packets_lines s.gap s.packets

-- the lines of the place where the bytes end: a gap, or a session with its bytes of no whole word
abbrev pub place_lines : Place → List Line
place_lines (Searching gap) = gap_lines gap
place_lines (Synced gap packets tail) = packets_lines gap packets ++ gap_lines tail

-- the lines of a reading
abbrev pub reading_lines : List EndedSession → Place → List Line
reading_lines sessions place = flat_map session_lines sessions ++ place_lines place

-- the lines of the listing of bytes
abbrev pub listing_lines : List ℕ → List Line
listing_lines bytes = reading_lines (reading_of bytes).sessions (reading_of bytes).place

-- the listing of ended sessions
abbrev pub sessions_text : List EndedSession → List ℕ
sessions_text sessions = ended_texts (flat_map session_lines sessions)

-- the listing of a reading
abbrev pub reading_text : List EndedSession → Place → List ℕ
reading_text sessions place = ended_texts (reading_lines sessions place)

-- the text is the listing of the bytes
pub record IsListing (bytes text : List ℕ) : Type 0 where
  pub sessions : List EndedSession
  pub place : Place
  pub reading : IsReading bytes sessions place
  pub text_is : text ≡ reading_text sessions place

-- the listing of bytes
abbrev pub listing_of : List ℕ → List ℕ
listing_of bytes = ended_texts (listing_lines bytes)

-- a text begins with `prefix`
abbrev pub IsTextPrefix : List ℕ → List ℕ → Type 0
IsTextPrefix prefix text = (more : List ℕ) × (text ≡ prefix ++ more)
