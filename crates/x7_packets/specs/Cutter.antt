-- What a cutter stands for: the reading of the bytes that it took, and what each run adds to the reading (this
-- project's choice).
use Rattle.std.specs.Prelude.{◌≡◌, ℕ, ◌+◌, ◌*◌, ◌-◌, ◌/◌, ◌<◌, ◌≤◌, ◌==◌, List, [], ◌∷◌, ◌++◌, length, min, true, false, ◌⊎◌, take, drop, ◌↔◌, if◌then◌else◌}
use Rattle.std.specs.List.{flat_map}
use Rattle.x7_words.specs.Word.{bytes_of_word, words_of_bytes}
use Rattle.x7_regs.specs.Register.{number_of, reg_number_count}
use Rattle.x7_regs.specs.declared.register.Reg.TheVariants.{Cmd}
use Rattle.x7_packets.specs.SyncWord.{sync_bytes}
use Rattle.x7_packets.specs.Matching.{LastThree, MatcherStandsFor}
use Rattle.x7_packets.specs.Packet.{Packet, stepped, ended, payload_steps}
use Rattle.x7_packets.specs.Machine.{session_ends_by, MachineState, MachineStandsFor}
use Rattle.x7_packets.specs.ByHand.{Reading}
use Rattle.x7_packets.specs.Reading.{Place, Searching, Synced, EndedSession, IsReading}
use Rattle.x7_packets.specs.declared.header.Step.{Step}
use Rattle.x7_packets.specs.declared.header.Step.TheVariants.{Payload}
use Rattle.x7_packets.specs.Mode.{Mode}
use Rattle.x7_packets.specs.declared.cutter.Cut.{Cut}
use Rattle.x7_packets.specs.declared.cutter.Cut.TheVariants.{Need, Skip, Sync, Head, Word, Body}

-- a cutter: where it stands in a stream, its matcher and machine, and the bytes of no whole word that it keeps
pub record CutterState : Type 0 where
  pub mode : Mode
  pub matcher : LastThree
  pub machine : MachineState
  pub kept : List ℕ

-- The cutter stands at this place, and its machine stands for the place's packets. In a gap there are none, and the
-- matcher stands for the gap. Just after a sync word there are none, and no tail; in a session the tail is the bytes
-- that the cutter keeps.
abbrev pub AtPlace : CutterState → Mode → Place → Type 0
AtPlace c Mode.Searching (Searching gap) = MatcherStandsFor c.matcher gap × MachineStandsFor c.machine []
AtPlace c Mode.SyncFound (Synced gap packets tail) = (packets ≡ []) × (tail ≡ []) × MachineStandsFor c.machine []
AtPlace c Mode.Synced (Synced gap packets tail) = MachineStandsFor c.machine packets × (tail ≡ c.kept)
AtPlace c Mode.Searching (Synced gap packets tail) = ⊥
AtPlace c Mode.SyncFound (Searching gap) = ⊥
AtPlace c Mode.Synced (Searching gap) = ⊥

-- the cutter took these bytes, and this is their reading
pub record CutterStandsFor (c : CutterState) (bytes : List ℕ) (sessions : List EndedSession) (place : Place) : Type 0 where
  pub reading : IsReading bytes sessions place
  pub at : AtPlace c c.mode place

-- the bytes of a piece from byte `from`, from 0, up to byte `to`, that one not included
abbrev pub between : List ℕ → ℕ → ℕ → List ℕ
between piece from to = take (to - from) (drop from piece)

-- the bytes of a run; none for the sync word, whose bytes came with those of the gap
abbrev pub run_bytes : Cut → List ℕ
run_bytes Need = []
run_bytes (Skip bytes) = bytes.now
run_bytes Sync = []
run_bytes (Head w step) = bytes_of_word w
run_bytes (Word register w) = bytes_of_word w
run_bytes (Body register bytes) = bytes.now

-- the words that a run adds to a session, each with its step
abbrev pub run_steps : Cut → List (ℕ × Step)
run_steps (Head w step) = (w, step) ∷ []
run_steps (Word register w) = payload_steps register (w ∷ [])
run_steps (Body register bytes) = payload_steps register (words_of_bytes bytes.now)
run_steps _ = []

-- a session has these words more, each with its step: it goes on, or the last word ends it and a gap begins
pub record LongerSession (gap : List ℕ) (packets : List Packet) (more : List (ℕ × Step)) (sessions new_sessions : List EndedSession) (new : Place) : Type 0 where
  pub all : List Packet
  pub grown : flat_map stepped all ≡ flat_map stepped packets ++ more
  pub end : ended all ≡ session_ends_by more
  pub ends : ended all ≡ true → (new_sessions ≡ sessions ++ record { gap = gap; packets = all } ∷ []) × (new ≡ Searching [])
  pub goes_on : ended all ≡ false → (new_sessions ≡ sessions) × (new ≡ Synced gap all [])

-- a reading in a session goes on by these words, each with its step
abbrev pub GoesOnAt : List (ℕ × Step) → List EndedSession → Place → Reading → Type 0
GoesOnAt more sessions (Searching gap) new = ⊥
GoesOnAt more sessions (Synced gap packets tail) new = LongerSession gap packets more sessions new.sessions new.place

-- a reading goes on by these words of a session, each with its step
abbrev pub GoesOnBy : List (ℕ × Step) → Reading → Reading → Type 0
GoesOnBy more old new = GoesOnAt more old.sessions old.place new

-- what a run adds to the reading of the bytes before it: ended sessions and a place become new ones
abbrev pub CutAdds : Cut → List EndedSession → Place → List EndedSession → Place → Type 0
CutAdds Need sessions (Searching gap) new_sessions new = (new_sessions ≡ sessions) × (new ≡ Searching gap)
CutAdds Need sessions (Synced gap packets tail) new_sessions new = (new_sessions ≡ sessions) × (more : List ℕ) × (new ≡ Synced gap packets (tail ++ more))
CutAdds (Skip bytes) sessions (Searching gap) new_sessions new = (new_sessions ≡ sessions)
    × ((new ≡ Searching (gap ++ bytes.now)) ⊎ ((prefix : List ℕ) × (gap ++ bytes.now ≡ prefix ++ sync_bytes) × (new ≡ Synced prefix [] [])))
CutAdds Sync sessions (Synced gap packets tail) new_sessions new = (packets ≡ []) × (tail ≡ []) × (new_sessions ≡ sessions) × (new ≡ Synced gap [] [])
CutAdds (Head w step) sessions (Synced gap packets tail) new_sessions new = LongerSession gap packets (run_steps (Head w step)) sessions new_sessions new
CutAdds (Word register w) sessions (Synced gap packets tail) new_sessions new = LongerSession gap packets (run_steps (Word register w)) sessions new_sessions new
CutAdds (Body register bytes) sessions (Synced gap packets tail) new_sessions new = LongerSession gap packets (run_steps (Body register bytes)) sessions new_sessions new
CutAdds _ _ _ _ _ = ⊥

-- no sync word was found that is still to be given
abbrev pub IsNotSyncFound : Mode → Type 0
IsNotSyncFound mode = mode ≡ Mode.SyncFound → ⊥

-- how a run goes with where the cutter stands before and after it: the sync word is found when its last byte comes, and
-- is given next
abbrev pub ChangesMode : Cut → Mode → Mode → Place → Type 0
ChangesMode Need old new place = IsNotSyncFound old × IsNotSyncFound new
ChangesMode (Skip bytes) old new (Searching gap) = Unit {0}
ChangesMode (Skip bytes) old new (Synced gap packets tail) = new ≡ Mode.SyncFound
ChangesMode Sync old new place = (old ≡ Mode.SyncFound) × IsNotSyncFound new
ChangesMode (Head w step) old new place = IsNotSyncFound old × IsNotSyncFound new
ChangesMode (Word register w) old new place = IsNotSyncFound old × IsNotSyncFound new
ChangesMode (Body register bytes) old new place = IsNotSyncFound old × IsNotSyncFound new

-- What holds of a run by itself, whatever the reading: a header's step is no payload, and a register has a number below
-- 32. Lent payload bytes are one or more whole words, one where the register is CMD, and a gap's bytes are one or more.
abbrev pub IsRun : Cut → Type 0
IsRun (Head w (Payload register x)) = ⊥
IsRun (Word register w) = register < reg_number_count
IsRun (Body register bytes) = (register < reg_number_count) × (0 < length bytes.now) × (length bytes.now ≡ 4 * (length bytes.now / 4))
    × (register ≡ number_of Cmd → length bytes.now ≡ 4)
IsRun (Skip bytes) = 0 < length bytes.now
IsRun _ = Unit {0}

-- where no byte is kept, a payload's whole words that lie in the piece are lent at once, all of one packet (one word of
-- CMD); a word whose bytes lie in two pieces or more comes by itself
abbrev pub IsLent : CutterState → ℕ → Cut → Type 0
IsLent c bytes_left (Word register w) = 0 < length c.kept
IsLent c bytes_left (Body register bytes) = (c.kept ≡ [])
    × (length bytes.now ≡ 4 * min (min c.machine.due (bytes_left / 4)) (if register == number_of Cmd then 1 else bytes_left / 4))
IsLent c bytes_left _ = Unit {0}

-- of a gap all bytes are lent that are left of the piece (`bytes_left`), or those up to the end of the sync word, which
-- is then due to be given
abbrev pub SkipsAll : CutterState → ℕ → Cut → Type 0
SkipsAll new bytes_left (Skip bytes) = (new.mode ≡ Mode.SyncFound) ⊎ (length bytes.now ≡ bytes_left)
SkipsAll new bytes_left _ = Unit {0}

-- where a cutter stands here and keeps these bytes, a piece of which this many bytes are left completes no run
abbrev pub CompletesNoneAt : Mode → List ℕ → ℕ → Type 0
CompletesNoneAt Mode.Searching kept bytes_left = bytes_left ≡ 0
CompletesNoneAt Mode.SyncFound kept bytes_left = ⊥
CompletesNoneAt Mode.Synced kept bytes_left = length kept + bytes_left < 4

-- a piece of which this many bytes are left completes no run, with the bytes that the cutter keeps before it
abbrev pub CompletesNone : CutterState → ℕ → Type 0
CompletesNone c bytes_left = CompletesNoneAt c.mode c.kept bytes_left

-- the call gave no run, and needs more bytes
abbrev pub IsNeed : Cut → Type 0
IsNeed Need = Unit {0}
IsNeed _ = ⊥

-- a cutter that stands here keeps no byte: only in a session may it keep some
abbrev pub KeepsNone : Mode → Type 0
KeepsNone Mode.Searching = Unit {0}
KeepsNone Mode.SyncFound = Unit {0}
KeepsNone Mode.Synced = ⊥

-- the run is one word of a session: a header's, or one of a payload of which words are due
abbrev pub IsOneWord : ℕ → Cut → Type 0
IsOneWord due (Head w step) = Unit {0}
IsOneWord due (Word register w) = 0 < due
IsOneWord due _ = ⊥

-- the run is the bytes `body` of a payload of the register
abbrev pub IsBody : ℕ → List ℕ → Cut → Type 0
IsBody register body (Body r bytes) = (r ≡ register) × (bytes.now ≡ body)
IsBody register body _ = ⊥

-- how many sync words are still to be given: one just after a sync word, else none
abbrev pub syncs_to_give : Mode → ℕ
syncs_to_give Mode.SyncFound = 1
syncs_to_give _ = 0

-- after the run no sync word is to be given and no byte is kept, as after a whole word of a session; and what holds of
-- a run by itself (`IsRun`) holds of it
pub record EndsWithWord (new : CutterState) (cut : Cut) : Type 0 where
  pub given : syncs_to_give new.mode ≡ 0
  pub none_kept : new.kept ≡ []
  pub run : IsRun cut

-- how many calls there are at most until a piece is used up, of which this many bytes are left
abbrev pub calls_left : CutterState → ℕ → ℕ
calls_left c bytes_left = 2 * bytes_left + syncs_to_give c.mode

-- a call that needs more bytes has used the piece up; any other comes nearer to that
abbrev pub ComesNearer : Cut → ℕ → ℕ → ℕ → Type 0
ComesNearer Need bytes_left calls_before calls = bytes_left ≡ 0
ComesNearer _ bytes_left calls_before calls = calls < calls_before

-- the cutter after a call that gave this run: it stands for `bytes`, and the run added to the reading before
pub record AfterRun (old new : CutterState) (bytes : List ℕ) (sessions : List EndedSession) (place : Place) (run : Cut) : Type 0 where
  pub new_sessions : List EndedSession
  pub new_place : Place
  pub stands : CutterStandsFor new bytes new_sessions new_place
  pub adds : CutAdds run sessions place new_sessions new_place
  pub mode_changes : ChangesMode run old.mode new.mode new_place

-- the bytes `taken`, taken as one run, turn the old cutter into the new one, whatever bytes came before
abbrev pub TakesAsOneRun : CutterState → CutterState → List ℕ → Cut → Type 0
TakesAsOneRun old new taken run = (bytes : List ℕ) (sessions : List EndedSession) (place : Place) → CutterStandsFor old bytes sessions place
    → AfterRun old new (bytes ++ taken) sessions place run

-- some cutter that stood for bytes with this reading took more in a call, as this run
pub record HasCut (bytes more : List ℕ) (r : Reading) (run : Cut) : Type 0 where
  pub old : CutterState
  pub new : CutterState
  pub reads : CutterStandsFor old bytes r.sessions r.place
  pub went : AfterRun old new (bytes ++ more) r.sessions r.place run

-- one call of a cutter on the bytes that are left of a piece, of which it took `taken`
pub record CutsRun (old new : CutterState) (rest : List ℕ) (taken : ℕ) (cut : Cut) : Type 0 where
  pub nearer : ComesNearer cut (length rest - taken) (calls_left old (length rest)) (calls_left new (length rest - taken))
  pub need : IsNeed cut ↔ CompletesNone old (length rest)
  pub joined : old.kept ++ take taken rest ≡ run_bytes cut ++ new.kept
  pub run : IsRun cut
  pub lent : IsLent old (length rest) cut
  pub skips : SkipsAll new (length rest) cut
  pub adds : TakesAsOneRun old new (take taken rest) cut

-- one call of a cutter on the bytes that are left of a piece, which moved a place from `at` to `at_now`, past those
-- that it took
pub record MovesPast (old new : CutterState) (rest : List ℕ) (at at_now : ℕ) (cut : Cut) : Type 0 where
  pub forward : at ≤ at_now
  pub within : at_now ≤ at + length rest
  pub cuts : CutsRun old new rest (at_now - at) cut
