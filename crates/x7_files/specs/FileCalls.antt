-- The calls of a file of the system, or of a writer, with their answers (this project's choice).
use Rattle.std.specs.Prelude.{◌≡◌, ◌<◌, ℕ, List, [], ◌∷◌, ◌++◌, length, take, Result, Ok, Err}
use Rattle.std.specs.declared.io.ErrorKind.{ErrorKind}
use Rattle.std.specs.declared.io.ErrorKind.TheVariants.{Interrupted}
use Rattle.x7_words.specs.declared.input.Failed.{Failed}
use Rattle.x7_files.specs.declared.file_call.FileCall.{FileCall}
use Rattle.x7_files.specs.declared.file_call.FileCall.TheVariants.{Sought, SeekFailed, Gave, ReadFailed, Took, WriteFailed, Kept, KeepFailed}

-- ---- a call by its answer

-- to go to the place
abbrev pub seek_answered : ℕ → Result (Unit {0}) Failed → FileCall
seek_answered place (Ok _) = Sought place
seek_answered place (Err _) = SeekFailed place

-- to read, after which the buffer holds these bytes
abbrev pub read_answered : List ℕ → Result ℕ ErrorKind → FileCall
read_answered buffer (Ok n) = Gave (take n buffer)
read_answered buffer (Err kind) = ReadFailed kind

-- to write these bytes
abbrev pub write_answered : List ℕ → Result ℕ ErrorKind → FileCall
write_answered bytes (Ok n) = Took (take n bytes)
write_answered bytes (Err kind) = WriteFailed kind

-- to wait until the disk has what was written
abbrev pub keep_answered : Result (Unit {0}) Failed → FileCall
keep_answered (Ok _) = Kept
keep_answered (Err _) = KeepFailed

-- ---- calls one after another

-- further calls were made, and they are as is said
pub record AddsCalls (Are : List FileCall → Type 0) (old new : List FileCall) : Type 0 where
  pub calls : List FileCall
  pub added : new ≡ old ++ calls
  pub are : Are calls

-- reads gave these bytes: each gave some, save those that a signal interrupted
abbrev pub ReadsGive : List ℕ → List FileCall → Type 0
ReadsGive bytes [] = bytes ≡ []
ReadsGive bytes (Gave some ∷ calls) = (0 < length some) × ((rest : List ℕ) × (bytes ≡ some ++ rest) × ReadsGive rest calls)
ReadsGive bytes (ReadFailed kind ∷ calls) = (kind ≡ Interrupted) × ReadsGive bytes calls
ReadsGive bytes (call ∷ calls) = ⊥

-- writes took these bytes: each took some, save those that a signal interrupted
abbrev pub WritesTake : List ℕ → List FileCall → Type 0
WritesTake bytes [] = bytes ≡ []
WritesTake bytes (Took some ∷ calls) = (0 < length some) × ((rest : List ℕ) × (bytes ≡ some ++ rest) × WritesTake rest calls)
WritesTake bytes (WriteFailed kind ∷ calls) = (kind ≡ Interrupted) × WritesTake bytes calls
WritesTake bytes (call ∷ calls) = ⊥

-- a read failed, or gave no byte
abbrev pub StopsReading : FileCall → Type 0
StopsReading (Gave bytes) = bytes ≡ []
StopsReading (ReadFailed kind) = Unit {0}
StopsReading call = ⊥

-- a write failed, or took no byte
abbrev pub StopsWriting : FileCall → Type 0
StopsWriting (Took bytes) = bytes ≡ []
StopsWriting (WriteFailed kind) = Unit {0}
StopsWriting call = ⊥

-- the last of the calls stopped the work of those before it: after it there is none
pub record StopsAtLast (Before : List FileCall → Type 0) (Stops : FileCall → Type 0) (calls : List FileCall) : Type 0 where
  pub before : List FileCall
  pub last : FileCall
  pub are : calls ≡ before ++ last ∷ []
  pub went : Before before
  pub stops : Stops last

-- one write of these bytes was made with this answer: an Err where it failed, or took none
abbrev pub WritesOnce : List ℕ → Result ℕ Failed → List FileCall → List FileCall → Type 0
WritesOnce bytes (Ok n) old new = new ≡ old ++ Took (take n bytes) ∷ []
WritesOnce bytes (Err _) old new = (last : FileCall) × StopsWriting last × (new ≡ old ++ last ∷ [])
