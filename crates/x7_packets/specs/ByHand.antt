-- The packets of words and the reading of bytes found by hand: from the left, a word or a byte at a time (UG470, packet
-- types and sync word; the search at every byte is this project's choice).
use Rattle.std.specs.Prelude.{◌≡◌, ℕ, ◌-◌, nat_lt, bytes_eq, Bool, false, if◌then◌else◌, List, [], ◌∷◌, ◌++◌, length, take, drop, Option, None}
use Rattle.std.specs.List.{fold}
use Rattle.x7_words.specs.Word.{word_of_bytes}
use Rattle.x7_packets.specs.SyncWord.{sync_bytes}
use Rattle.x7_packets.specs.Packet.{Packet, meaning, count_of, latest_after, ended}
use Rattle.x7_packets.specs.Reading.{Place, Searching, Synced, EndedSession}

-- a header word with its meaning, where the nearest type 1 read or write, if there was one, named this register
abbrev pub header_packet : Option ℕ → ℕ → Packet
header_packet latest w = record { head = w; step = meaning latest w; payload = [] }

-- a packet with one payload word more
abbrev pub with_payload_word : Packet → ℕ → Packet
with_payload_word p w = record { head = p.head; step = p.step; payload = p.payload ++ w ∷ [] }

-- packets with one word more, where the nearest type 1 read or write before them, if there was one, named this register
abbrev pub with_word_after : Option ℕ → List Packet → ℕ → List Packet
with_word_after latest [] w = header_packet latest w ∷ []
with_word_after latest (p ∷ []) w =
    if nat_lt (length p.payload) (count_of p.step) then with_payload_word p w ∷ [] else p ∷ header_packet (latest_after latest p.step) w ∷ []
with_word_after latest (p ∷ q ∷ ps) w = p ∷ with_word_after (latest_after latest p.step) (q ∷ ps) w

-- packets with one word more: where the last packet lacks payload words the word is its payload's, else it begins a
-- packet
abbrev pub packets_with_word : List Packet → ℕ → List Packet
packets_with_word = with_word_after None

-- the packets of words
abbrev pub packets_of : List ℕ → List Packet
packets_of = fold packets_with_word []

-- the words are of one session at most: no word follows the one that ends it
abbrev pub AreOfOneSession : List ℕ → Type 0
AreOfOneSession ws = (prefix suffix : List ℕ) (w : ℕ) → ws ≡ prefix ++ w ∷ suffix → ended (packets_of prefix) ≡ false

-- the bytes are those of the sync word
abbrev pub is_sync : List ℕ → Bool
is_sync bytes = bytes_eq bytes sync_bytes

-- the bytes without the last four; none where there are fewer
abbrev pub before_last_four : List ℕ → List ℕ
before_last_four bytes = take (length bytes - 4) bytes

-- the last four bytes, or all where there are fewer
abbrev pub last_four : List ℕ → List ℕ
last_four bytes = drop (length bytes - 4) bytes

-- ended sessions, and the place after them
pub record Reading : Type 0 where
  pub sessions : List EndedSession
  pub place : Place

-- the reading of ended sessions and of bytes after them, in which no sync word stands or which end with the first one
abbrev pub searched : List EndedSession → List ℕ → Reading
searched sessions bytes = record { sessions = sessions; place = if is_sync (last_four bytes) then Synced (before_last_four bytes) [] [] else Searching bytes }

-- the reading with a session of these packets after ended sessions and a gap: where the packets end the session, it is
-- one of the ended ones, and an empty gap follows
abbrev pub with_session : List EndedSession → List ℕ → List Packet → Reading
with_session sessions gap packets =
    if ended packets then record { sessions = sessions ++ record { gap = gap; packets = packets } ∷ []; place = Searching [] } else
    record { sessions = sessions; place = Synced gap packets [] }

-- a session with one byte more: after a tail of three bytes it completes a word, which goes to the packets; else it
-- joins the tail
abbrev pub with_session_byte : List EndedSession → List ℕ → List Packet → List ℕ → ℕ → Reading
with_session_byte sessions gap packets (a ∷ b ∷ c ∷ []) d = with_session sessions gap (packets_with_word packets (word_of_bytes (a ∷ b ∷ c ∷ d ∷ [])))
with_session_byte sessions gap packets tail byte = record { sessions = sessions; place = Synced gap packets (tail ++ byte ∷ []) }

-- ended sessions and a place with one byte more
abbrev pub with_byte_at : List EndedSession → Place → ℕ → Reading
with_byte_at sessions (Searching gap) byte = searched sessions (gap ++ byte ∷ [])
with_byte_at sessions (Synced gap packets tail) byte = with_session_byte sessions gap packets tail byte

-- a reading with one byte more
abbrev pub with_byte : Reading → ℕ → Reading
with_byte r byte = with_byte_at r.sessions r.place byte

-- the reading of bytes
abbrev pub reading_of : List ℕ → Reading
reading_of = fold with_byte (record { sessions = []; place = Searching [] })
