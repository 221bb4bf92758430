-- Feeding up to where startup begins, or up to its end: no byte is taken after the least one at which startup has
-- begun, or has ended (this project's choice).
use Rattle.std.specs.Prelude.{◌≡◌, ℕ, ◌<◌, ◌==◌, ◌++◌, Bool, true, false, List, [], ◌∷◌, length, take}
use Rattle.x7_packets.specs.History.{Access, Bad, History, Read, Write, history_of}
use Rattle.x7_part.specs.Part.{PartData}
use Rattle.x7_regs.specs.declared.register.Reg.TheVariants.{Cmd}
use Rattle.x7_regs.specs.Register.{number_of}
use Rattle.x7_startup.specs.Phases.{last_phase}
use Rattle.x7_startup.specs.Startup.{NotBegun}
use Rattle.x7_engine.specs.declared.kept.Kept.{Kept}
use Rattle.x7_engine.specs.declared.until_started.UntilStarted.{UntilStarted}
use Rattle.x7_engine.specs.declared.until_started.UntilStarted.TheVariants as until
use Rattle.x7_engine.specs.Standing.{taken_in}
use Rattle.x7_engine.specs.Startup.{startup_progress}
use Rattle.x7_engine.specs.State.{history_taken, state_of, taken_of}

-- startup has ended at these bytes
abbrev pub has_started : PartData → Kept → List ℕ → Bool
has_started part kept bytes = (state_of part kept false bytes).phase == last_phase

-- startup hasn't begun at these bytes
abbrev pub HasNotBegun : PartData → Kept → List ℕ → Type 0
HasNotBegun part kept bytes = startup_progress (history_taken part kept bytes) (taken_of part kept bytes) ≡ NotBegun

-- startup hasn't begun after any number of bytes of a piece below `count`
abbrev pub NoneBegun : PartData → Kept → List ℕ → List ℕ → ℕ → Type 0
NoneBegun part kept bytes piece count = (k : ℕ) → k < count → HasNotBegun part kept (bytes ++ take k piece)

-- startup hasn't ended after any number of bytes of a piece below `count`
abbrev pub NoneStarted : PartData → Kept → List ℕ → List ℕ → ℕ → Type 0
NoneStarted part kept bytes piece count = (k : ℕ) → k < count → has_started part kept (bytes ++ take k piece) ≡ false

-- the number of bytes taken of a piece of `length` bytes, by what a feed up to the end of startup answers
abbrev pub taken_until : ℕ → UntilStarted → ℕ
taken_until length (until.Started n) = n
taken_until length (until.Fed answer) = taken_in length answer

-- whether the answer says that startup has ended
abbrev pub says_started : UntilStarted → Bool
says_started (until.Started n) = true
says_started (until.Fed answer) = false

-- an access that writes a register other than CMD
abbrev pub IsOtherWrite : Access → Type 0
IsOtherWrite (Write register word) = (register == number_of Cmd) ≡ false
IsOtherWrite (Read register count) = ⊥
IsOtherWrite (Bad word) = ⊥

-- all accesses of a history are writes to registers other than CMD
abbrev pub AreOtherWrites : History → Type 0
AreOtherWrites [] = Unit {0}
AreOtherWrites (e ∷ h) = IsOtherWrite e.access × AreOtherWrites h

-- of the bytes after others none but the last ends a write to CMD, a read or a word in a header's place that is no
-- header
abbrev pub CommandsLast : List ℕ → List ℕ → Type 0
CommandsLast bytes more = (k : ℕ) → k < length more → (newer : History) × (history_of (bytes ++ take k more) ≡ newer ++ history_of bytes) × AreOtherWrites newer
