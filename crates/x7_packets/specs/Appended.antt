-- Streams one after another: the reading and the history of both, by those of each (UG470, packet types; that a dummy
-- word parts them is this project's choice).
use Rattle.std.specs.Prelude.{◌≡◌, ℕ, ◌+◌, ◌==◌, ◌⊎◌, List, [], ◌∷◌, ◌++◌, length, None, false}
use Rattle.std.specs.List.{AllByRecursion}
use Rattle.x7_packets.specs.Reading.{Place, Searching, Synced, EndedSession, is_synced}
use Rattle.x7_packets.specs.ByHand.{Reading}
use Rattle.x7_packets.specs.History.{History, entry, history_of}
use Rattle.x7_packets.specs.Packet.{IsPacket, Packet, latest_of}

-- the bytes begin with a dummy word
abbrev pub BeginsWithDummy : List ℕ → Type 0
BeginsWithDummy bytes = (rest : List ℕ) × (bytes ≡ 0xFF ∷ 0xFF ∷ 0xFF ∷ 0xFF ∷ rest)

-- none of these bytes is AA, the first byte of the sync word
abbrev pub LacksFirst : List ℕ → Type 0
LacksFirst bytes = AllByRecursion (λ b. (b == 0xAA) ≡ false) bytes

-- a history with its places moved on by n bytes
abbrev pub moved : ℕ → History → History
moved n [] = []
moved n (e ∷ h) = entry e.access (n + e.place) ∷ moved n h

-- the bytes of an open gap at a place; none where a session goes on
abbrev pub gap_of : Place → List ℕ
gap_of (Searching gap) = gap
gap_of (Synced gap packets tail) = []

-- the bytes `more` may follow bytes that end at this place: the bytes before end searching, and either they end with no
-- open gap or `more` begins with a dummy word, so that no sync word begins before `more` and ends in it
pub record MayFollow (place : Place) (more : List ℕ) : Type 0 where
  pub searching : is_synced place ≡ false
  pub apart : (gap_of place ≡ []) ⊎ BeginsWithDummy more

-- a place whose gap has these bytes more before it
abbrev pub gap_with : List ℕ → Place → Place
gap_with prefix (Searching gap) = Searching (prefix ++ gap)
gap_with prefix (Synced gap packets tail) = Synced (prefix ++ gap) packets tail

-- sessions and a place after ended sessions and an open gap, which the first of the later gaps goes on
abbrev pub after_gap : List EndedSession → List ℕ → List EndedSession → Place → Reading
after_gap before prefix [] place = record { sessions = before; place = gap_with prefix place }
after_gap before prefix (s ∷ sessions) place = record { sessions = before ++ record { gap = prefix ++ s.gap; packets = s.packets } ∷ sessions; place = place }

-- the reading of bytes that end searching and of more bytes after them, by the reading of each
abbrev pub after : Reading → Reading → Reading
after first more = after_gap first.sessions (gap_of first.place) more.sessions more.place

-- the history of bytes and of more bytes after them
abbrev pub history_after : List ℕ → List ℕ → History
history_after bytes more = moved (length bytes) (history_of more) ++ history_of bytes

-- the packet may come next after these packets
abbrev pub MayComeNext : List Packet → Packet → Type 0
MayComeNext packets packet = IsPacket (latest_of None packets) packet
