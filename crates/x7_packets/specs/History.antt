-- What a stream asks of the registers, and the commands that it executes (UG470, configuration registers). Places, and
-- the commands that a write to FAR executes again, are this project's choice where the guide leaves them open.
use Rattle.std.specs.Prelude.{◌≡◌, ℕ, ◌+◌, ◌*◌, ◌-◌, ◌^◌, ◌<◌, ◌≤◌, ◌==◌, nat_lt, ◌&&◌, ◌||◌, Bool, false, not, if◌then◌else◌, List, [], ◌∷◌, ◌++◌, length, Option, Some, None}
use Rattle.std.specs.List.{flat_map}
use Rattle.x7_regs.specs.Register.{number_of, reg_number_count}
use Rattle.x7_regs.specs.Command.{code_of, command_code_of}
use Rattle.x7_regs.specs.declared.register.Reg.TheVariants.{Cmd, Far}
use Rattle.x7_regs.specs.declared.command.Command.TheVariants.{Desync, Iprog, Null}
use Rattle.x7_packets.specs.declared.header.Step.{Step}
use Rattle.x7_packets.specs.declared.header.Step.TheVariants as step
use Rattle.x7_packets.specs.Packet.{stepped}
use Rattle.x7_packets.specs.PacketWords.{type2_count_bound}
use Rattle.x7_packets.specs.Reading.{Place, Searching, Synced, EndedSession, session_bytes}
use Rattle.x7_packets.specs.ByHand.{Reading, reading_of}

-- what a stream asks of the registers: a word written, a read of some words, or a word in a header's place that is no
-- header
pub data Access : Type 0 where
  Write : (register word : ℕ) → Access
  Read : (register count : ℕ) → Access
  Bad : (word : ℕ) → Access

-- an access, and its place: the number of bytes of the stream up to and including its last byte
pub record Entry : Type 0 where
  pub access : Access
  pub place : ℕ

-- the accesses of a stream, the newest first
abbrev pub History : Type 0
History = List Entry

-- an `Entry` with these fields
abbrev pub entry : Access → ℕ → Entry
entry access place = record { access = access; place = place }

-- a history with the access of a step, if it has one, the word of which ends at this place; a read of no words is no
-- access
abbrev pub entered : ℕ → Step → History → History
entered place (step.Payload register w) h = entry (Write register w) place ∷ h
entered place (step.Read register count) h = if count == 0 then h else entry (Read register count) place ∷ h
entered place (step.Bad w) h = entry (Bad w) place ∷ h
entered place step.Filler h = h
entered place step.Nop h = h
entered place (step.Open register count) h = h

-- a history with the accesses of words, each with its step, the first of which begins after `place` bytes
abbrev pub entered_all : ℕ → List (ℕ × Step) → History → History
entered_all place [] h = h
entered_all place (s ∷ more) h = entered_all (place + 4) more (entered (place + 4) s.1 h)

-- a history with the accesses of ended sessions, the first of which begins with its gap after `place` bytes
abbrev pub entered_sessions : ℕ → List EndedSession → History → History
entered_sessions place [] h = h
entered_sessions place (s ∷ sessions) h =
    entered_sessions (place + length (session_bytes s)) sessions (entered_all (place + length s.gap + 4) (flat_map stepped s.packets) h)

-- a history with the accesses of what stands after the ended sessions (a `Place`), whose gap begins after `place` bytes
abbrev pub entered_place : ℕ → Place → History → History
entered_place place (Searching gap) h = h
entered_place place (Synced gap packets tail) h = entered_all (place + length gap + 4) (flat_map stepped packets) h

-- the history of ended sessions and of the place after them
abbrev pub history : List EndedSession → Place → History
history sessions place = entered_place (length (flat_map session_bytes sessions)) place (entered_sessions 0 sessions [])

-- the history of bytes
abbrev pub history_of : List ℕ → History
history_of bytes = history (reading_of bytes).sessions (reading_of bytes).place

-- the place where the next word begins: in a gap the number of all bytes; in a session the number of bytes without
-- those of a word that isn't whole
abbrev pub next_word : List EndedSession → Place → ℕ
next_word sessions (Searching gap) = length (flat_map session_bytes sessions) + length gap
next_word sessions (Synced gap packets tail) = length (flat_map session_bytes sessions) + length gap + 4 + 4 * length (flat_map stepped packets)

-- the history of a reading
abbrev pub history_in : Reading → History
history_in r = history r.sessions r.place

-- the place where the next word of a reading begins
abbrev pub next_in : Reading → ℕ
next_in r = next_word r.sessions r.place

-- more bytes enter no access
abbrev pub EntersNone : List ℕ → List ℕ → Type 0
EntersNone bytes more = history_of (bytes ++ more) ≡ history_of bytes

-- more bytes enter just this access
abbrev pub EntersOne : List ℕ → List ℕ → Entry → Type 0
EntersOne bytes more e = history_of (bytes ++ more) ≡ e ∷ history_of bytes

-- the access writes this register
abbrev pub writes : ℕ → Access → Bool
writes register (Write r w) = r == register
writes register _ = false

-- the word of an access that writes this register, or the one that was there
abbrev pub written : ℕ → Access → ℕ → ℕ
written register (Write r w) old = if r == register then w else old
written register _ old = old

-- the last word written to a register, or the one that was kept
abbrev pub last_word : ℕ → ℕ → History → ℕ
last_word register kept [] = kept
last_word register kept (e ∷ h) = written register e.access (last_word register kept h)

-- the code of the command that CMD holds: the low five bits of its last word, NULL's where it was never written
abbrev pub command_held : History → ℕ
command_held h = command_code_of (last_word (number_of Cmd) (code_of Null) h)

-- the code of the command that an access executes where CMD holds the code `held`: a write to CMD its own, a write to
-- FAR again `held`, save DESYNC and IPROG; none for any other access
abbrev pub executed_by : ℕ → Access → Option ℕ
executed_by held (Write register w) =
    if register == number_of Cmd then Some (command_code_of w) else
    if register == number_of Far && not (held == code_of Desync || held == code_of Iprog) then Some held else None
executed_by held _ = None

-- the code of the command executed is `command`
abbrev pub is_command : ℕ → Option ℕ → Bool
is_command command None = false
is_command command (Some c) = c == command

-- an access after this history executes the command of this code
abbrev pub executes : ℕ → History → Access → Bool
executes command h access = is_command command (executed_by (command_held h) access)

-- codes of commands, with one more before them, if one was executed
abbrev pub with_command : Option ℕ → List ℕ → List ℕ
with_command None commands = commands
with_command (Some c) commands = c ∷ commands

-- the codes of all commands that were executed, the newest first
abbrev pub executed : History → List ℕ
executed [] = []
executed (e ∷ h) = with_command (executed_by (command_held h) e.access) (executed h)

-- the access can come of words of 32 bits: a register's number has five bits, and a count 27 at most
abbrev pub FitsAccess : Access → Type 0
FitsAccess (Write register w) = (register < reg_number_count) × (w < 2 ^ 32)
FitsAccess (Read register count) = (register < reg_number_count) × (count < type2_count_bound)
FitsAccess (Bad w) = w < 2 ^ 32

-- each access of a history can come of words of 32 bits
abbrev pub AllFit : History → Type 0
AllFit [] = Unit {0}
AllFit (e ∷ h) = FitsAccess e.access × AllFit h

-- the accesses whose last byte is among the first n bytes
abbrev pub until : ℕ → History → History
until n [] = []
until n (e ∷ h) = if nat_lt n e.place then until n h else e ∷ h

-- the places fall strictly from the newest on; each is at least 1, and none is past n
abbrev pub Placed : ℕ → History → Type 0
Placed n [] = Unit {0}
Placed n (e ∷ h) = (0 < e.place) × (e.place ≤ n) × Placed (e.place - 1) h

-- each place is past the first n bytes, and none is past the first m
abbrev pub AllAfter : ℕ → ℕ → History → Type 0
AllAfter n m [] = Unit {0}
AllAfter n m (e ∷ h) = (n < e.place) × (e.place ≤ m) × AllAfter n m h

-- more bytes enter newer accesses, each of which ends among these bytes
abbrev pub EntersNewer : List ℕ → List ℕ → Type 0
EntersNewer bytes more = (newer : History) × (history_of (bytes ++ more) ≡ newer ++ history_of bytes) × AllAfter (length bytes) (length (bytes ++ more)) newer
