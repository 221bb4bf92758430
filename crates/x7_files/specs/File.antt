-- An open file of the system: what it tells, and what calls that read and write it do (this project's choice).
use Rattle.std.specs.Prelude.{◌≡◌, ◌<◌, ◌⊎◌, ℕ, List, [], ◌∷◌, ◌++◌, length, Option, Some, IfSome, Result, Ok, Err}
use Rattle.std.specs.Io.KnownBytes.{Appends, Consumes}
use Rattle.std.specs.Io.Seek.{StaysAt}
use Rattle.x7_words.specs.declared.input.Failed.{Failed}
use Rattle.x7_files.specs.FileCalls.{AddsCalls, ReadsGive, StopsAtLast, StopsReading, StopsWriting, WritesTake}
use Rattle.x7_files.specs.declared.file.CalledFile.{CalledFile}
use Rattle.x7_files.specs.declared.file_call.FileCall.{FileCall}
use Rattle.x7_files.specs.declared.file_call.FileCall.TheVariants.{Sought, SeekFailed}

-- what is known of a file of this type
pub record KnowsOfFile (F : Type 0) : Type 0 where
  -- the place, in bytes, at which the next read or write begins
  pub position : F → Option ℕ
  -- bytes of the file: those that reads will give, or those that were written, or all
  pub bytes : F → Option (List ℕ)

-- what a file tells of its place, and of its bytes
abbrev pub file_tells : {F : Type 0} → (F → Option ℕ) → (F → Option (List ℕ)) → KnowsOfFile F
file_tells position bytes = record { position = position; bytes = bytes }

-- A seek to the place went there, if the file knows where it is; and the call was made.
abbrev pub GoesTo : {F : Type 0} → (F → Option ℕ) → ℕ → CalledFile F → CalledFile F → Type 0
GoesTo position place old there =
    IfSome (position old.file) (λ _. position there.file ≡ Some place) × (there.calls ≡ old.calls ++ Sought place ∷ [])

-- a seek to the place failed, and the file stays where it is, if it knows that
abbrev pub StaysAway : {F : Type 0} → (F → Option ℕ) → ℕ → CalledFile F → CalledFile F → Type 0
StaysAway position place old new =
    StaysAt (position old.file) (position new.file) × (new.calls ≡ old.calls ++ SeekFailed place ∷ [])

-- calls were made of a file that are as is said, and gave these bytes, as far as the file knows what is left of it
abbrev pub ReadsOn : {F : Type 0} → (F → Option (List ℕ)) → (List FileCall → Type 0) → List ℕ → CalledFile F → CalledFile F → Type 0
ReadsOn remaining Are bytes old new = Consumes (remaining old.file) (remaining new.file) bytes × AddsCalls Are old.calls new.calls

-- reads of a file gave these bytes
abbrev pub ReadsBytes : {F : Type 0} → (F → Option (List ℕ)) → List ℕ → CalledFile F → CalledFile F → Type 0
ReadsBytes remaining bytes = ReadsOn remaining (ReadsGive bytes) bytes

-- reads of a file gave these bytes, and a last one failed or gave none
abbrev pub ReadsBytesAndStops : {F : Type 0} → (F → Option (List ℕ)) → List ℕ → CalledFile F → CalledFile F → Type 0
ReadsBytesAndStops remaining bytes = ReadsOn remaining (StopsAtLast (ReadsGive bytes) StopsReading) bytes

-- reads of a file gave less than was wanted, and a last one failed or gave none
abbrev pub ReadsShort : {F : Type 0} → (F → Option (List ℕ)) → ℕ → CalledFile F → CalledFile F → Type 0
ReadsShort remaining wanted old new =
    (given : List ℕ) × (length given < wanted) × ReadsBytesAndStops remaining given old new

-- calls were made of a file that are as is said, and took these bytes, as far as the file knows what it was given
abbrev pub WritesOn : {F : Type 0} → (F → Option (List ℕ)) → (List FileCall → Type 0) → List ℕ → CalledFile F → CalledFile F → Type 0
WritesOn contents Are bytes old new = Appends (contents old.file) (contents new.file) bytes × AddsCalls Are old.calls new.calls

-- writes of a file took these bytes
abbrev pub WritesBytes : {F : Type 0} → (F → Option (List ℕ)) → List ℕ → CalledFile F → CalledFile F → Type 0
WritesBytes contents bytes = WritesOn contents (WritesTake bytes) bytes

-- writes of a file took these bytes, and a last one failed or took none
abbrev pub WritesBytesAndStops : {F : Type 0} → (F → Option (List ℕ)) → List ℕ → CalledFile F → CalledFile F → Type 0
WritesBytesAndStops contents bytes = WritesOn contents (StopsAtLast (WritesTake bytes) StopsWriting) bytes

-- Writes of a file took the first of these bytes, but not all of them, and a last one failed or took none.
pub record WritesShort {F : Type 0} (contents : F → Option (List ℕ)) (bytes : List ℕ) (old new : CalledFile F) : Type 0 where
  pub taken : List ℕ
  pub after : List ℕ
  pub are : bytes ≡ taken ++ after
  pub short : 0 < length after
  pub written : WritesBytesAndStops contents taken old new

module _ {F : Type 0} (t : KnowsOfFile F) where
  -- A file was read from the place on, and gave these bytes: as far as the file knows its place and what is left of it.
  abbrev pub ReadsAt : ℕ → List ℕ → CalledFile F → CalledFile F → Type 0
  ReadsAt place bytes old new = (there : CalledFile F) × GoesTo t.position place old there × ReadsBytes t.bytes bytes there new

  -- a read of so many bytes from the place on failed: to go there, or by a last read, before which others gave fewer
  abbrev pub ReadStopsAt : ℕ → ℕ → CalledFile F → CalledFile F → Type 0
  ReadStopsAt place wanted old new =
      StaysAway t.position place old new
      ⊎ ((there : CalledFile F) × GoesTo t.position place old there × ReadsShort t.bytes wanted there new)

  -- A file was written from the place on with these bytes: as far as the file knows its place and what it was given.
  abbrev pub WritesAt : ℕ → List ℕ → CalledFile F → CalledFile F → Type 0
  WritesAt place bytes old new = (there : CalledFile F) × GoesTo t.position place old there × WritesBytes t.bytes bytes there new

  -- a write of these bytes from the place on failed: to go there, or by a last write, before which others took the
  -- first of them
  abbrev pub WriteStopsAt : ℕ → List ℕ → CalledFile F → CalledFile F → Type 0
  WriteStopsAt place bytes old new =
      StaysAway t.position place old new
      ⊎ ((there : CalledFile F) × GoesTo t.position place old there × WritesShort t.bytes bytes there new)

  -- what a read into a buffer, which then holds these bytes, does by its answer
  abbrev pub ReadsFrom : ℕ → List ℕ → Result (Unit {0}) Failed → CalledFile F → CalledFile F → Type 0
  ReadsFrom place buffer (Ok _) = ReadsAt place buffer
  ReadsFrom place buffer (Err _) = ReadStopsAt place (length buffer)

  -- what a write of these bytes does by its answer
  abbrev pub WritesFrom : ℕ → List ℕ → Result (Unit {0}) Failed → CalledFile F → CalledFile F → Type 0
  WritesFrom place bytes (Ok _) = WritesAt place bytes
  WritesFrom place bytes (Err _) = WriteStopsAt place bytes

-- what was asked of a file was done, and then this call was made, as the last one
pub record DoneAndCalled {F : Type 0} (Asked : CalledFile F → CalledFile F → Type 0) (call : FileCall) (old new : CalledFile F) : Type 0 where
  pub done : CalledFile F
  pub asked : Asked old done
  pub called : new ≡ record done { calls = done.calls ++ call ∷ [] }

-- a file was open before and is open after, and `holds` of these two states
abbrev pub WhileOpen : {F : Type 0} → (F → F → Type 0) → Option F → Option F → Type 0
WhileOpen holds (Some old) (Some new) = holds old new
WhileOpen holds old new = ⊥
