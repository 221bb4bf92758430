-- Short forms for worked examples (this project's choice).
use Rattle.std.specs.Prelude.{ℕ, List, [], ◌∷◌, ◌++◌}
use Rattle.std.specs.List.{flat_map}
use Rattle.x7_words.specs.Word.{bytes_of_word}
use Rattle.x7_packets.specs.declared.header.Step.{Step}
use Rattle.x7_packets.specs.declared.header.Step.TheVariants.{Bad, Filler, Nop, Open, Read}
use Rattle.x7_packets.specs.Packet.{Packet}
use Rattle.x7_packets.specs.History.{Entry, Write, entry}
use Rattle.x7_packets.specs.History as access
use Rattle.x7_packets.specs.Reading.{EndedSession, Place, Searching, Synced}
use Rattle.x7_packets.specs.ByHand.{Reading}

-- the bytes of words
abbrev pub stream : List ℕ → List ℕ
stream = flat_map bytes_of_word

-- the bytes of the sync word, and of words after it
abbrev pub synced : List ℕ → List ℕ
synced words = stream (0xAA995566 ∷ words)

-- a packet with these parts
abbrev pub packet_with : ℕ → Step → List ℕ → Packet
packet_with head step payload = record { head = head; step = step; payload = payload }

-- a word in a header's place that has no effect
abbrev pub filler : ℕ → Packet
filler head = packet_with head Filler []

-- a no-op
abbrev pub nop : ℕ → Packet
nop head = packet_with head Nop []

-- a word in a header's place that is no header
abbrev pub bad : ℕ → Packet
bad head = packet_with head (Bad head) []

-- a read of `count` words of a register
abbrev pub read : ℕ → ℕ → ℕ → Packet
read head register count = packet_with head (Read register count) []

-- a write of `count` words to a register, and the payload so far
abbrev pub opening : ℕ → ℕ → ℕ → List ℕ → Packet
opening head register count payload = packet_with head (Open register count) payload

-- a type 1 write of no words, which names a register
abbrev pub opened : ℕ → ℕ → Packet
opened head register = opening head register 0 []

-- a write of one word to a register
abbrev pub write_packet : ℕ → ℕ → ℕ → Packet
write_packet head register word = opening head register 1 (word ∷ [])

-- the words of DESYNC written to CMD
abbrev pub desync : List ℕ
desync = 0x30008001 ∷ 13 ∷ []

-- the packet of DESYNC written to CMD
abbrev pub desync_packet : Packet
desync_packet = write_packet 0x30008001 4 13

-- a session after this gap
abbrev pub session_with : List ℕ → List Packet → EndedSession
session_with gap packets = record { gap = gap; packets = packets }

-- a session after this gap that DESYNC ended
abbrev pub desynced : List ℕ → List Packet → EndedSession
desynced gap packets = session_with gap (packets ++ desync_packet ∷ [])

-- ended sessions, and the place after them
abbrev pub reading_with : List EndedSession → Place → Reading
reading_with sessions place = record { sessions = sessions; place = place }

-- a place after no ended session
abbrev pub reading_of_place : Place → Reading
reading_of_place place = reading_with [] place

-- a session after no gap, with these packets and no tail
abbrev pub in_session : List Packet → Reading
in_session packets = reading_of_place (Synced [] packets [])

-- a session after no gap, with these packets and this tail of bytes
abbrev pub session_with_tail : List Packet → List ℕ → Reading
session_with_tail packets tail = reading_of_place (Synced [] packets tail)

-- ended sessions, and the gap after them
abbrev pub then_gap : List EndedSession → List ℕ → Reading
then_gap sessions gap = reading_with sessions (Searching gap)

-- a write of a word, with the number of bytes up to and including its last one
abbrev pub write_at : ℕ → ℕ → ℕ → Entry
write_at register word place = entry (Write register word) place

-- a read, with the number of bytes up to and including its header
abbrev pub read_at : ℕ → ℕ → ℕ → Entry
read_at register count place = entry (access.Read register count) place

-- a word that is no header, with the number of bytes up to and including its last one
abbrev pub bad_at : ℕ → ℕ → Entry
bad_at word place = entry (access.Bad word) place
