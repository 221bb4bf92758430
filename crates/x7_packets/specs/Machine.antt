-- What a packet machine stands for: the packets whose words it took (this project's choice).
use Rattle.std.specs.Prelude.{◌≡◌, ℕ, ◌+◌, ◌<◌, ◌⊎◌, List, [], ◌∷◌, ◌++◌, length, Option, None, Some, if◌then◌else◌, Bool, false}
use Rattle.std.specs.List.{flat_map}
use Rattle.x7_words.specs.Word.{AreWords}
use Rattle.x7_packets.specs.declared.header.Step.{Step}
use Rattle.x7_packets.specs.declared.header.Step.TheVariants.{Open, Payload}
use Rattle.x7_packets.specs.Packet.{Packet, EachPacket, IsPacket, IsWhole, latest_after, latest_of, words, stepped, meaning, NoneEnds, ends_session, ended}

-- a machine: how many payload words are due, of which register (its number, which says nothing where none is due), and
-- the register that the nearest type 1 read or write named, if there was one
pub record MachineState : Type 0 where
  pub due : ℕ
  pub register : ℕ
  pub latest : Option ℕ

-- each of a list of packets is a packet after those before it, and whole
abbrev pub AllWhole : Option ℕ → List Packet → Type 0
AllWhole latest [] = Unit {0}
AllWhole latest (p ∷ ps) = IsPacket latest p × IsWhole p × AllWhole (latest_after latest p.step) ps

-- all packets are whole: the next word stands in a header's place
pub record AtHeader (m : MachineState) (ps : List Packet) : Type 0 where
  pub whole : AllWhole None ps
  pub latest : m.latest ≡ latest_of None ps
  pub due : m.due ≡ 0

-- the last packet is a write that lacks payload words, and all before it are whole
pub record InPayload (m : MachineState) (ps : List Packet) : Type 0 where
  pub prefix : List Packet
  pub last : Packet
  pub split : ps ≡ prefix ++ last ∷ []
  pub whole : AllWhole None prefix
  pub fits : AreWords (words last)
  pub means : last.step ≡ meaning (latest_of None prefix) last.head
  pub count : ℕ
  pub opens : last.step ≡ Open m.register count
  pub latest : m.latest ≡ Some m.register
  pub due : length last.payload + m.due ≡ count
  pub more : 0 < m.due
  pub none_ends : NoneEnds m.register last.payload

-- the machine took the words of these packets since it was made or since a word that ended the session
abbrev pub MachineStandsFor : MachineState → List Packet → Type 0
MachineStandsFor m ps = AtHeader m ps ⊎ InPayload m ps

-- the step's word ends the session
abbrev pub is_end : Step → Bool
is_end (Payload register w) = ends_session register w
is_end _ = false

-- the last of these words ends the session
abbrev pub session_ends_by : List (ℕ × Step) → Bool
session_ends_by [] = false
session_ends_by (s ∷ []) = is_end s.1
session_ends_by (s ∷ t ∷ more) = session_ends_by (t ∷ more)

-- what the machine `m` has after more words, each with its step: its packets are those before and just these words, and
-- where the last of these ends the session it stands for no packet
pub record HasTakenWords (ps : List Packet) (more : List (ℕ × Step)) (m : MachineState) : Type 0 where
  pub packets : List Packet
  pub each : EachPacket None packets
  pub grown : flat_map stepped packets ≡ flat_map stepped ps ++ more
  pub end : ended packets ≡ session_ends_by more
  pub stands : MachineStandsFor m (if session_ends_by more then [] else packets)

-- whatever packets the old machine stands for, the new one has what the machine has after these words more, each with
-- its step
abbrev pub AddsWords : MachineState → List (ℕ × Step) → MachineState → Type 0
AddsWords old more new = (ps : List Packet) → MachineStandsFor old ps → HasTakenWords ps more new
