-- Files of the system as inputs, and what is known of them (this project's choice).
use Rattle.std.specs.Prelude.{◌≡◌, ◌<◌, ℕ, Bool, true, false, List, [], ◌∷◌, ◌++◌, length, take, Option, None, Some, Result, Ok, Err}
use Rattle.std.specs.Io.KnownBytes.{Consumes, IsAtEnd}
use Rattle.std.specs.declared.io.ErrorKind.{ErrorKind}
use Rattle.x7_words.specs.Count.{IsLaterCount, added, ends_counted, raised}
use Rattle.x7_words.specs.Input.{InputsState}
use Rattle.x7_words.specs.declared.input.SelectFault.{SelectFault}
use Rattle.x7_files.specs.Agreement.{NamedBytes, with_fault, with_open, with_read, with_refusal}
use Rattle.x7_files.specs.Refusal.{absences_after, faults_after}
use Rattle.x7_files.specs.declared.agreement.Agreement.{Agreement}
use Rattle.x7_files.specs.declared.file_call.FileCall.{FileCall}
use Rattle.x7_files.specs.declared.file_call.FileCall.TheVariants.{Gave, ReadFailed}

-- files as inputs; each count stops at 2^64 - 1
pub record RealInputs : Type 0 where
  -- whether all that selects and reads gave agrees with a map from names to bytes, and what follows from that
  pub agreement : Agreement
  -- whether a file is open
  pub selected : Bool
  -- the bytes that reads of the open file will give, where its reader knows them
  pub rest : Option (List ℕ)
  -- why the last select opened no file
  pub refusal : Option ErrorKind
  -- the reads that were made of files with their answers, the newest last
  pub calls : List FileCall
  -- how many selects there were
  pub selects : ℕ
  -- how many reads gave nothing
  pub ends : ℕ
  -- how many bytes were given since the last select
  pub given : ℕ
  -- how many faults there were
  pub faults : ℕ
  -- how many absences there were
  pub absences : ℕ

-- neither the count of faults nor that of absences fell, and both fit a u64
pub record CountsFaults (old new : RealInputs) : Type 0 where
  pub faults : IsLaterCount old.faults new.faults
  pub absences : IsLaterCount old.absences new.absences

-- what is known where this is true
abbrev pub known_if : {A : Type 0} → Bool → A → Option A
known_if true a = Some a
known_if false a = None

-- what the map has left, where it agrees
abbrev pub left_if : Bool → Option (List ℕ) → Option (List ℕ)
left_if true left = left
left_if false left = None

-- what is known of files as inputs, in hindsight: that they hold what the map says, as long as all that they gave
-- agrees with it
abbrev pub known_inputs : NamedBytes → RealInputs → InputsState
known_inputs map f = record {
  contents = known_if f.agreement.agrees map;
  selected = f.selected;
  rest = left_if f.agreement.agrees f.agreement.left;
  asked = f.agreement.asked;
  selects = f.selects;
  ends = f.ends;
  given = f.given;
  faults = f.faults;
  absences = f.absences;
}

-- what is left of an open file, where its reader knows that; nothing where no file is open
abbrev pub unread_of : {F : Type 0} → (F → Option (List ℕ)) → Option F → Option (List ℕ)
unread_of remaining None = None
unread_of remaining (Some file) = remaining file

-- what an open of a file came to
pub record Opening : Type 0 where
  -- the bytes that reads of the opened file will give, where its reader knows them
  pub rest : Option (List ℕ)
  -- why no file was opened
  pub refusal : Option ErrorKind

-- what the open of the last select came to
abbrev pub opening_of : RealInputs → Opening
opening_of f = record { rest = f.rest; refusal = f.refusal }

-- the files after a select of this name, whose open came to this, with this answer: each fault and each absence is
-- counted once
abbrev pub after_select : NamedBytes → RealInputs → List ℕ → Opening → Result (Unit {0}) SelectFault → RealInputs
after_select map f name opening (Ok _) =
    record f {
      agreement = with_open map name f.agreement;
      selected = true;
      rest = opening.rest;
      refusal = opening.refusal;
      selects = raised f.selects;
      given = 0;
    }
after_select map f name opening (Err fault) =
    record f {
      agreement = with_refusal name f.agreement;
      selected = false;
      rest = None;
      refusal = opening.refusal;
      selects = raised f.selects;
      given = 0;
      faults = faults_after fault f.faults;
      absences = absences_after fault f.absences;
    }

-- the files after one read, which put n bytes at the start of the buffer
abbrev pub after_read : RealInputs → Option (List ℕ) → List ℕ → ℕ → RealInputs
after_read f rest buf n =
    record f {
      agreement = with_read (take n buf) (length buf) f.agreement;
      rest = rest;
      calls = f.calls ++ Gave (take n buf) ∷ [];
      ends = ends_counted n f.ends;
      given = added f.given n;
    }

-- the files after a read that failed by an error of this kind: no file is open
abbrev pub after_failed_read : RealInputs → ErrorKind → RealInputs
after_failed_read f kind =
    record f {
      agreement = with_fault f.agreement;
      selected = false;
      rest = None;
      calls = f.calls ++ ReadFailed kind ∷ [];
      faults = raised f.faults;
    }

-- one read was made, and failed
abbrev pub FailsToRead : RealInputs → RealInputs → Type 0
FailsToRead old new = (kind : ErrorKind) × (new ≡ after_failed_read old kind)

-- a read put n bytes at the start of the buffer and took them from the file, as far as its reader knows its bytes; it
-- gave none only at the end, or where the buffer is empty
abbrev pub ReadGives : Option (List ℕ) → Option (List ℕ) → List ℕ → ℕ → Type 0
ReadGives old new buf n = Consumes old new (take n buf) × (n ≡ 0 → 0 < length buf → IsAtEnd new)
