-- Histories without an access, or whose newest access is DESYNC written to CMD: those of bytes that end searching, and
-- of a session without accesses after them (UG470, command register).
use Rattle.std.specs.Prelude.{◌≡◌, ◌⊎◌, Bool, true, false, [], ◌∷◌}
use Rattle.x7_packets.specs.History.{Access, Write, Read, Bad, History}
use Rattle.x7_packets.specs.Packet.{ends_session}

-- the access is DESYNC written to CMD
abbrev pub writes_desync : Access → Bool
writes_desync (Write register w) = ends_session register w
writes_desync (Read register count) = false
writes_desync (Bad w) = false

-- the newest access is DESYNC written to CMD
abbrev pub newest_ends : History → Bool
newest_ends [] = false
newest_ends (e ∷ h) = writes_desync e.access

-- there is no access, or the newest is DESYNC written to CMD
abbrev pub HasEnded : History → Type 0
HasEnded h = (h ≡ []) ⊎ (newest_ends h ≡ true)
