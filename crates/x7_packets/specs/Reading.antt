-- A list of bytes as gaps, sync words, sessions and a tail (UG470, sync word; the search at every byte is this
-- project's choice). A gap is the bytes in which a sync word is searched, up to it; a session is the packets after a
-- sync word, up to the DESYNC that ends them; a tail is the bytes of no whole word at the end.
use Rattle.std.specs.Prelude.{◌≡◌, ℕ, ◌<◌, List, [], ◌++◌, length, None, Bool, true, false}
use Rattle.std.specs.List.{flat_map, AllByRecursion}
use Rattle.x7_words.specs.Word.{AreBytes, bytes_of_word}
use Rattle.x7_packets.specs.SyncWord.{sync_bytes, HasNoSync, IsBeforeSync}
use Rattle.x7_packets.specs.Packet.{Packet, EachPacket, words, ended}

-- a session that a DESYNC word ended, with the gap before its sync word
pub record EndedSession : Type 0 where
  pub gap : List ℕ
  pub packets : List Packet

-- where the bytes end: in a gap, or in a session after a gap, with a tail, the bytes of no whole word (three at most:
-- `IsPlace`)
pub data Place : Type 0 where
  Searching : (gap : List ℕ) → Place
  Synced : (gap : List ℕ) (packets : List Packet) (tail : List ℕ) → Place

-- the bytes of packets
abbrev pub packet_bytes : List Packet → List ℕ
packet_bytes ps = flat_map bytes_of_word (flat_map words ps)

-- the bytes of a session: its gap, the sync word and its packets
abbrev pub session_bytes : EndedSession → List ℕ
session_bytes s = s.gap ++ sync_bytes ++ packet_bytes s.packets

-- the bytes of a place: of a gap, or of a session that goes on
abbrev pub place_bytes : Place → List ℕ
place_bytes (Searching gap) = gap
place_bytes (Synced gap packets tail) = gap ++ sync_bytes ++ packet_bytes packets ++ tail

-- the session is one that ended: its sync word is the first from the gap's beginning on, and the last word of its
-- packets ends it
pub record IsEndedSession (s : EndedSession) : Type 0 where
  pub first : IsBeforeSync s.gap
  pub packets : EachPacket None s.packets
  pub ended : ended s.packets ≡ true

-- the place is one where bytes may end: a gap without a sync word, or a session that goes on, whose sync word is the
-- first from its gap's beginning on, with up to three bytes of no whole word
abbrev pub IsPlace : Place → Type 0
IsPlace (Searching gap) = HasNoSync gap
IsPlace (Synced gap packets tail) = IsBeforeSync gap × EachPacket None packets × (ended packets ≡ false) × (length tail < 4)

-- the bytes are those of these ended sessions and then of this place
pub record IsReading (bytes : List ℕ) (sessions : List EndedSession) (place : Place) : Type 0 where
  pub fits : AreBytes bytes
  pub joined : bytes ≡ flat_map session_bytes sessions ++ place_bytes place
  pub each : AllByRecursion IsEndedSession sessions
  pub ends : IsPlace place

-- the bytes of no whole word at the end
abbrev pub tail_of : Place → List ℕ
tail_of (Searching gap) = []
tail_of (Synced gap packets tail) = tail

-- the bytes end in a session
abbrev pub is_synced : Place → Bool
is_synced (Searching gap) = false
is_synced (Synced gap packets tail) = true
