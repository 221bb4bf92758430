-- Calls of a flash by their answers (this project's choice). That of an attach is `attach_call` of x7_words.
use Rattle.std.specs.Prelude.{ℕ, List, length, Result, Ok, Err}
use Rattle.x7_words.specs.declared.flash_call.FlashCall.{FlashCall}
use Rattle.x7_words.specs.declared.flash_call.FlashCall.TheVariants.{Read, ReadFailed, Erased, EraseFailed, Programmed, ProgramFailed}
use Rattle.x7_words.specs.declared.input.Failed.{Failed}

-- a read from a place on, after which the buffer holds these bytes
abbrev pub read_call : ℕ → List ℕ → Result (Unit {0}) Failed → FlashCall
read_call place buffer (Ok _) = Read place buffer
read_call place buffer (Err _) = ReadFailed place (length buffer)

-- an erase of the sector of this number
abbrev pub erase_call : ℕ → Result (Unit {0}) Failed → FlashCall
erase_call sector (Ok _) = Erased sector
erase_call sector (Err _) = EraseFailed sector

-- a program of these bytes from a place on
abbrev pub program_call : ℕ → List ℕ → Result (Unit {0}) Failed → FlashCall
program_call place given (Ok _) = Programmed place given
program_call place given (Err _) = ProgramFailed place given
