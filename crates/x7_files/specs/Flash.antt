-- A file of the system as a flash, and what is known of it (this project's choice).
use Rattle.std.specs.Prelude.{◌≡◌, ◌+◌, ◌⊎◌, ℕ, true, false, List, [], ◌∷◌, ◌++◌, length, bit_and, Option, None, Some, IfSome, is_some, Result, Ok, Err, OnOk, OnErr}
use Rattle.std.specs.Fs.{asks_append, asks_create, asks_create_new, asks_read, asks_truncate, asks_write}
use Rattle.std.specs.Io.KnownBytes.{Keeps}
use Rattle.std.specs.List.{concat}
use Rattle.std.specs.declared.fs.options.OpenOptions.{OpenOptions}
use Rattle.std.specs.declared.io.ErrorKind.{ErrorKind}
use Rattle.x7_words.specs.Count.{IsLaterCount, raised}
use Rattle.x7_words.specs.Flash.{FlashState, erased_sector, zip_with}
use Rattle.x7_words.specs.declared.flash_call.FlashCall.{FlashCall}
use Rattle.x7_words.specs.declared.flash_call.FlashCall.TheVariants.{Attached, NotAttached}
use Rattle.x7_words.specs.declared.input.Failed.{Failed as FailedCall}
use Rattle.x7_words.specs.declared.input.SelectFault.{SelectFault}
use Rattle.x7_files.specs.File.{DoneAndCalled, KnowsOfFile, ReadStopsAt, ReadsAt, WhileOpen, WriteStopsAt, WritesAt}
use Rattle.x7_files.specs.declared.file.CalledFile.{CalledFile}
use Rattle.x7_files.specs.declared.file_call.FileCall.TheVariants.{Kept, KeepFailed}
use Rattle.x7_files.specs.Refusal.{absences_after, faults_after}

-- Options that ask to read and to write a file, and for nothing else: a file that is opened with them keeps its bytes,
-- each write goes to its place, and no file is made.
pub record AsksReadAndWriteAlone (options : OpenOptions) : Type 0 where
  pub read : asks_read options ≡ true
  pub write : asks_write options ≡ true
  pub append : asks_append options ≡ false
  pub truncate : asks_truncate options ≡ false
  pub create : asks_create options ≡ false
  pub create_new : asks_create_new options ≡ false

-- the end of an opened file was found at place `extent`: the number of the file's bytes, as far as the file knows its
-- place and its bytes; they stay
abbrev pub EndsAt : {F : Type 0} → KnowsOfFile F → ℕ → F → F → Type 0
EndsAt t extent opened file =
    IfSome (t.position opened) (λ _. IfSome (t.bytes opened) (λ all. extent ≡ length all)) × Keeps (t.bytes opened) (t.bytes file)

-- a file was opened, and its end was found at place `extent`; the calls that are made of it begin with none
abbrev pub IsExtent : {F : Type 0} → KnowsOfFile F → ℕ → Option (CalledFile F) → Type 0
IsExtent t extent None = ⊥
IsExtent {F} t extent (Some file) = ((opened : F) × EndsAt t extent opened file.file) × (file.calls ≡ [])

-- What an erase does by its answer. Ok: it wrote FF over the sector, and the disk has that. Else it stopped within the
-- write, or at the wait for the disk.
abbrev pub ErasesFrom : {F : Type 0} → KnowsOfFile F → ℕ → Result (Unit {0}) FailedCall → CalledFile F → CalledFile F → Type 0
ErasesFrom t place (Ok _) old new = DoneAndCalled (WritesAt t place erased_sector) Kept old new
ErasesFrom t place (Err _) old new =
    WriteStopsAt t place erased_sector old new ⊎ DoneAndCalled (WritesAt t place erased_sector) KeepFailed old new

module _ {F : Type 0} (reads writes : KnowsOfFile F) where
  -- the bytes from the place on were read, and then each of them AND the given one was written there
  pub record ClearsAt (place : ℕ) (given : List ℕ) (old new : CalledFile F) : Type 0 where
    pub before : List ℕ
    pub between : CalledFile F
    pub length : length before ≡ length given
    pub read : ReadsAt reads place before old between
    pub written : WritesAt writes place (zip_with bit_and before given) between new

  -- the bytes from the place on were read, and the write of each of them AND the given one failed
  pub record StopsAfterRead (place : ℕ) (given : List ℕ) (old new : CalledFile F) : Type 0 where
    pub before : List ℕ
    pub between : CalledFile F
    pub length : length before ≡ length given
    pub read : ReadsAt reads place before old between
    pub stops : WriteStopsAt writes place (zip_with bit_and before given) between new

  -- what is done to the bytes from the place on, by the answer
  abbrev pub ClearsFrom : ℕ → List ℕ → Result (Unit {0}) FailedCall → CalledFile F → CalledFile F → Type 0
  ClearsFrom place given (Ok _) old new = ClearsAt place given old new
  ClearsFrom place given (Err _) old new = ReadStopsAt reads place (length given) old new ⊎ StopsAfterRead place given old new

  -- the pieces were cleared as `ClearsAt` says, one after the other, the first of them at the place
  abbrev pub ClearsPieces : ℕ → List (List ℕ) → CalledFile F → CalledFile F → Type 0
  ClearsPieces place [] old new = new ≡ old
  ClearsPieces place (piece ∷ pieces) old new =
      (between : CalledFile F) × ClearsAt place piece old between × ClearsPieces (place + length piece) pieces between new

  -- each byte from the place on was made the old one AND the given one, in pieces
  pub record ClearsBits (place : ℕ) (given : List ℕ) (old new : CalledFile F) : Type 0 where
    pub pieces : List (List ℕ)
    pub are : concat pieces ≡ given
    pub each : ClearsPieces place pieces old new

  -- the first of the given bytes were cleared, and the piece after these failed
  pub record ClearingStops (place : ℕ) (given : List ℕ) (old new : CalledFile F) : Type 0 where
    pub prefix : List ℕ
    pub piece : List ℕ
    pub after : List ℕ
    pub are : given ≡ prefix ++ piece ++ after
    pub between : CalledFile F
    pub cleared : ClearsBits place prefix old between
    pub stops : ClearsFrom (place + length prefix) piece (Err (record {})) between new

  -- What a program does by its answer. Ok: it cleared the bits, and the disk has that. Else it stopped within a piece,
  -- or at the wait for the disk.
  abbrev pub ProgramsFrom : ℕ → List ℕ → Result (Unit {0}) FailedCall → CalledFile F → CalledFile F → Type 0
  ProgramsFrom place given (Ok _) old new = DoneAndCalled (ClearsBits place given) Kept old new
  ProgramsFrom place given (Err _) old new =
      ClearingStops place given old new ⊎ DoneAndCalled (ClearsBits place given) KeepFailed old new

-- a file as a flash; each count stops at 2^64 - 1
pub record RealFlash (F : Type 0) : Type 0 where
  -- the open file, if any is
  pub file : Option F
  -- why the last attach opened no file
  pub refusal : Option ErrorKind
  -- how many bytes the file had that was attached last, as it was attached
  pub extent : ℕ
  -- how many faults there were
  pub faults : ℕ
  -- how many absences there were
  pub absences : ℕ
  -- how many faults of writes there were
  pub write_faults : ℕ
  -- its calls with their answers, the newest last
  pub calls : List FlashCall

-- what is known of a file as a flash: its size and its calls, and nothing of what it holds
abbrev pub known_flash : {F : Type 0} → RealFlash F → FlashState
known_flash f = record {
  bytes = None;
  extent = f.extent;
  attached = is_some f.file;
  faults = f.faults;
  absences = f.absences;
  write_faults = f.write_faults;
  calls = f.calls;
}

-- the flash after an attach with this answer, which opened the file that the new one has: each fault and each absence
-- is counted once
abbrev pub after_attach : {F : Type 0} → RealFlash F → List ℕ → Result (Unit {0}) SelectFault → RealFlash F → RealFlash F
after_attach old name (Ok _) new =
    record old {
      file = new.file;
      extent = new.extent;
      refusal = new.refusal;
      calls = old.calls ++ Attached name new.extent ∷ [];
    }
after_attach old name (Err fault) new =
    record old {
      file = None;
      refusal = new.refusal;
      faults = faults_after fault old.faults;
      absences = absences_after fault old.absences;
      calls = old.calls ++ NotAttached name fault ∷ [];
    }

-- A write of the attached file was tried, which is one call, and left it open. What it did is as was asked, by the
-- answer; where that isn't Ok a fault of writes is counted.
pub record TriesWrite {F : Type 0} (asked : Result (Unit {0}) FailedCall → F → F → Type 0) (call : Result (Unit {0}) FailedCall → FlashCall) (old : RealFlash F) (answer : Result (Unit {0}) FailedCall) (new : RealFlash F) : Type 0 where
  pub written : WhileOpen (asked answer) old.file new.file
  pub is_open : is_some new.file ≡ true
  pub no_fault : OnOk answer (new ≡ record old { file = new.file; calls = old.calls ++ call answer ∷ [] })
  pub failed : OnErr answer (new ≡ record old { file = new.file; write_faults = raised old.write_faults; calls = old.calls ++ call answer ∷ [] })
  pub write_faults : IsLaterCount old.write_faults new.write_faults
