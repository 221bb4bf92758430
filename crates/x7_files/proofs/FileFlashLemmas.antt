-- Lemmas on a file as a flash: what it counts is what a caller of any flash may know.
use Rattle.std.proofs.Common.{◌≡◌, ◌≤◌, ℕ, ◌+◌, List, [], ◌∷◌, ◌++◌, length, subst, true, false, Option, None, Some, Result, Ok, Err, OnOk, OnErr, IfErr, is_some, bit_and, inr, refl, sym, ap, ◌∙◌, arith}
use Rattle.std.proofs.lemmas.List.{append-nil, length-append}
use Rattle.std.proofs.lemmas.List.Folds.{concat-append}
use Rattle.std.specs.List.{concat}
use Rattle.x7_words.specs.Count.{HasRisen, raised}
use Rattle.x7_words.specs.Flash.{OnlyReads, OnlyWrites, FlashRefuses, erased_sector, names_asked, zip_with}
use Rattle.x7_words.proofs.CountLemmas.{raised_risen}
use Rattle.x7_words.specs.FlashHistory.{CallsFor, NoFlashFault, attach_call}
use Rattle.x7_words.specs.declared.flash_call.FlashCall.{FlashCall}
use Rattle.x7_words.specs.declared.flash_call.FlashCall.TheVariants.{Read, ReadFailed}
use Rattle.x7_ghost.specs.Answered.{read_call}
use Rattle.x7_files.specs.File.{KnowsOfFile, ReadsAt, WritesAt, WritesFrom}
use Rattle.x7_files.specs.Flash.{ClearsAt, ClearsBits, ClearsFrom, ClearsPieces, ErasesFrom, IsExtent, ProgramsFrom, RealFlash, after_attach, known_flash}
use Rattle.x7_files.specs.FileCalls.{keep_answered}
use Rattle.x7_files.specs.declared.file.CalledFile.{CalledFile}
use Rattle.x7_words.specs.declared.input.Failed.{Failed as FailedCall}
use Rattle.x7_words.specs.declared.input.SelectFault.{SelectFault}
use Rattle.x7_words.specs.declared.input.SelectFault.TheVariants.{Missing, Failed}

-- ---- an attach

-- a file whose end was sought is open
open_extent : {F : Type 0} → (t : KnowsOfFile F) (extent : ℕ) (file : Option (CalledFile F)) → IsExtent t extent file → is_some file ≡ true
open_extent t extent None e = absurd e
open_extent t extent (Some file) e = refl

-- an attach that is Ok attaches
pub attached_ok : {F : Type 0} → (t : KnowsOfFile F) (extent : ℕ) (file : Option (CalledFile F)) (answer : Result (Unit {0}) SelectFault) → OnOk answer (IsExtent t extent file) → OnOk answer (is_some file ≡ true)
attached_ok t extent file (Ok _) e = open_extent t extent file e
attached_ok t extent file (Err fault) e = tt

-- an attach that is not Ok attaches nothing
pub attached_err : {F : Type 0} → (old new : RealFlash F) (name : List ℕ) (answer : Result (Unit {0}) SelectFault) → new ≡ after_attach old name answer new → OnErr answer (is_some new.file ≡ false)
attached_err old new name (Ok _) e = tt
attached_err old new name (Err _) e = ap (λ f. is_some f.file) e

-- an attach that is not Ok counts what it answers
pub attached_refused : {F : Type 0} → (old new : RealFlash F) (name : List ℕ) (answer : Result (Unit {0}) SelectFault) → new ≡ after_attach old name answer new → IfErr answer (FlashRefuses (known_flash old) (known_flash new))
attached_refused old new name (Ok _) e = tt
attached_refused old new name (Err Missing) e = raised_risen old.absences new.absences (ap (λ f. f.absences) e)
attached_refused old new name (Err Failed) e = raised_risen old.faults new.faults (ap (λ f. f.faults) e)

-- an attach leaves the count of faults of writes
pub attach_write_faults : {F : Type 0} → (old new : RealFlash F) (name : List ℕ) (answer : Result (Unit {0}) SelectFault) → new ≡ after_attach old name answer new → new.write_faults ≡ old.write_faults
attach_write_faults old new name (Ok _) e = ap (λ f. f.write_faults) e
attach_write_faults old new name (Err _) e = ap (λ f. f.write_faults) e

-- an attach that is Ok counts nothing
pub attached_quiet : {F : Type 0} → (old new : RealFlash F) (name : List ℕ) (answer : Result (Unit {0}) SelectFault) → new ≡ after_attach old name answer new → OnOk answer (NoFlashFault (known_flash old) (known_flash new))
attached_quiet old new name (Ok _) e = record { faults = ap (λ f. f.faults) e; absences = ap (λ f. f.absences) e }
attached_quiet old new name (Err _) e = tt

-- an attach is one call
pub attach_called : {F : Type 0} → (old new : RealFlash F) (name : List ℕ) (answer : Result (Unit {0}) SelectFault) → new ≡ after_attach old name answer new → new.calls ≡ old.calls ++ attach_call name new.extent answer ∷ []
attach_called old new name (Ok _) e = ap (λ f. f.calls) e
attach_called old new name (Err _) e = ap (λ f. f.calls) e

-- ---- a call of an attached flash

-- a call is added, and the flash stays attached
called_by : {F : Type 0} → (old new : RealFlash F) (call : FlashCall) → new.calls ≡ old.calls ++ call ∷ [] → new.extent ≡ old.extent → is_some new.file ≡ is_some old.file → CallsFor call (known_flash old) (known_flash new)
called_by old new call c s a = λ i. record { calls = c i; size = s i; attached = a i }

-- ---- a read

-- a read that fails counts a fault
pub failed_read_at : {F : Type 0} → (old new : RealFlash F) (file : Option F) (calls : List FlashCall) (answer : Result (Unit {0}) FailedCall) → OnErr answer (new ≡ record old { file = file; faults = raised old.faults; calls = calls }) → OnErr answer (HasRisen old.faults new.faults)
failed_read_at old new file calls (Ok _) e = tt
failed_read_at old new file calls (Err _) e = raised_risen old.faults new.faults (ap (λ f. f.faults) e)

-- a read that is Ok counts no fault
pub quiet_read_at : {F : Type 0} → (old new : RealFlash F) (file : Option F) (calls : List FlashCall) (answer : Result (Unit {0}) FailedCall) → OnOk answer (new ≡ record old { file = file; calls = calls }) → OnOk answer (new.faults ≡ old.faults)
quiet_read_at old new file calls (Ok _) e = ap (λ f. f.faults) e
quiet_read_at old new file calls (Err _) e = tt

-- of a read nothing is known
pub unknown_read_at : (answer : Result (Unit {0}) FailedCall) → OnOk answer (Unit {0})
unknown_read_at (Ok _) = tt
unknown_read_at (Err _) = tt

-- a read leaves all but the file, the count of faults and the calls
read_keeps : {F A : Type 0} → (part : RealFlash F → A) → ((f : RealFlash F) (file : Option F) (n : ℕ) (calls : List FlashCall) → part (record f { file = file; faults = n; calls = calls }) ≡ part f)
    → (old new : RealFlash F) (file : Option F) (calls : List FlashCall) (answer : Result (Unit {0}) FailedCall)
    → OnOk answer (new ≡ record old { file = file; calls = calls }) → OnErr answer (new ≡ record old { file = file; faults = raised old.faults; calls = calls }) → part new ≡ part old
read_keeps part same old new file calls (Ok _) o e = ap part o ∙ same old file old.faults calls
read_keeps part same old new file calls (Err _) o e = ap part e ∙ same old file (raised old.faults) calls

-- a read is one call
pub read_called : {F : Type 0} → (old new : RealFlash F) (place size : ℕ) (buffer : List ℕ) (answer : Result (Unit {0}) FailedCall) → is_some old.file ≡ true → is_some new.file ≡ true → length buffer ≡ size
    → OnOk answer (new ≡ record old { file = new.file; calls = old.calls ++ read_call place buffer answer ∷ [] }) → OnErr answer (new ≡ record old { file = new.file; faults = raised old.faults; calls = old.calls ++ read_call place buffer answer ∷ [] })
    → OnOk answer (CallsFor (Read place buffer) (known_flash old) (known_flash new)) × OnErr answer (CallsFor (ReadFailed place size) (known_flash old) (known_flash new))
read_called old new place size buffer (Ok _) was is l o e = (called_by old new (Read place buffer) (ap (λ f. f.calls) o) (ap (λ f. f.extent) o) (is ∙ sym was), tt)
read_called old new place size buffer (Err _) was is l o e =
    (tt, called_by old new (ReadFailed place size) (ap (λ f. f.calls) e ∙ ap (λ n. old.calls ++ ReadFailed place n ∷ []) l) (ap (λ f. f.extent) e) (is ∙ sym was))

pub only_reads : {F : Type 0} → (old new : RealFlash F) (calls : List FlashCall) (answer : Result (Unit {0}) FailedCall) → is_some old.file ≡ true → is_some new.file ≡ true
    → OnOk answer (new ≡ record old { file = new.file; calls = calls }) → OnErr answer (new ≡ record old { file = new.file; faults = raised old.faults; calls = calls }) → old.faults ≤ new.faults
    → names_asked new.calls ≡ names_asked old.calls → OnlyReads (known_flash old) (known_flash new)
only_reads old new calls answer was is o e rises names = record {
  bytes = refl;
  extent = read_keeps (λ f. f.extent) (λ f file n calls. refl) old new new.file calls answer o e;
  attached = is ∙ sym was;
  names = names;
  faults = rises;
  absences = read_keeps (λ f. f.absences) (λ f file n calls. refl) old new new.file calls answer o e;
  write_faults = read_keeps (λ f. f.write_faults) (λ f file n calls. refl) old new new.file calls answer o e;
}

-- ---- a write

-- a piece more is cleared
pieces_more : {F : Type 0} → (reads writes : KnowsOfFile F) (place : ℕ) (pieces : List (List ℕ)) (piece : List ℕ) (old between new : CalledFile F) → ClearsPieces reads writes place pieces old between
    → ClearsAt reads writes (place + length (concat pieces)) piece between new → ClearsPieces reads writes place (pieces ++ piece ∷ []) old new
pieces_more {F} reads writes place [] piece old between new same one =
    let here : place + 0 ≡ place = omega arith in
    (new, subst (λ file. ClearsAt reads writes place piece file new) same (subst (λ at. ClearsAt reads writes at piece between new) here one), refl)
pieces_more {F} reads writes place (first ∷ pieces) piece old between new (then, cleared, others) one =
    let there : place + length (first ++ concat pieces) ≡ place + length first + length (concat pieces) = omega (arith, length-append first (concat pieces)) in
    (then, cleared, pieces_more reads writes (place + length first) pieces piece then between new others (subst (λ at. ClearsAt reads writes at piece between new) there one))

pub clears_more : {F : Type 0} → (reads writes : KnowsOfFile F) (place at : ℕ) (prefix piece given : List ℕ) (old between new : CalledFile F) → ClearsBits reads writes place prefix old between → at ≡ place + length prefix → ClearsAt reads writes at piece between new
    → given ≡ prefix ++ piece → ClearsBits reads writes place given old new
clears_more {F} reads writes place at prefix piece given old between new c is one both = record {
  pieces = c.pieces ++ piece ∷ [];
  are = concat-append c.pieces (piece ∷ []) ∙ ap (λ s. concat c.pieces ++ s) (append-nil piece) ∙ ap (λ s. s ++ piece) c.are ∙ sym both;
  each = pieces_more reads writes place c.pieces piece old between new c.each (subst (λ n. ClearsAt reads writes n piece between new) (is ∙ ap (λ s. place + length s) (sym c.are)) one);
}

-- the sector was written, and the wait for the disk is the last call
pub erased_by : {F : Type 0} → (t : KnowsOfFile F) (place : ℕ) (old done new : CalledFile F) (answer : Result (Unit {0}) FailedCall) → WritesAt t place erased_sector old done
    → new ≡ record done { calls = done.calls ++ keep_answered answer ∷ [] } → ErasesFrom t place answer old new
erased_by t place old done new (Ok _) w e = record { done = done; asked = w; called = e }
erased_by t place old done new (Err _) w e = inr (record { done = done; asked = w; called = e })

-- the bits were cleared, and the wait for the disk is the last call
pub programmed_by : {F : Type 0} → (reads writes : KnowsOfFile F) (place : ℕ) (given : List ℕ) (old done new : CalledFile F) (answer : Result (Unit {0}) FailedCall) → ClearsBits reads writes place given old done
    → new ≡ record done { calls = done.calls ++ keep_answered answer ∷ [] } → ProgramsFrom reads writes place given answer old new
programmed_by reads writes place given old done new (Ok _) c e = record { done = done; asked = c; called = e }
programmed_by reads writes place given old done new (Err _) c e = inr (record { done = done; asked = c; called = e })

-- a piece was read, and written back
pub cleared_by : {F : Type 0} → (reads writes : KnowsOfFile F) (place : ℕ) (given before : List ℕ) (old between new : CalledFile F) (answer : Result (Unit {0}) FailedCall) → length before ≡ length given
    → ReadsAt reads place before old between → WritesFrom writes place (zip_with bit_and before given) answer between new → ClearsFrom reads writes place given answer old new
cleared_by reads writes place given before old between new (Ok _) l r w = record { before = before; between = between; length = l; read = r; written = w }
cleared_by reads writes place given before old between new (Err _) l r w = inr (record { before = before; between = between; length = l; read = r; stops = w })

-- a write that fails counts a fault of writes
pub failed_write : {F : Type 0} → (old new : RealFlash F) (file : Option F) (calls : List FlashCall) (answer : Result (Unit {0}) FailedCall) → OnErr answer (new ≡ record old { file = file; write_faults = raised old.write_faults; calls = calls }) → OnErr answer (HasRisen old.write_faults new.write_faults)
failed_write old new file calls (Ok _) e = tt
failed_write old new file calls (Err _) e = raised_risen old.write_faults new.write_faults (ap (λ f. f.write_faults) e)

-- a write that is Ok counts no fault of writes
pub quiet_write : {F : Type 0} → (old new : RealFlash F) (file : Option F) (calls : List FlashCall) (answer : Result (Unit {0}) FailedCall) → OnOk answer (new ≡ record old { file = file; calls = calls }) → OnOk answer (new.write_faults ≡ old.write_faults)
quiet_write old new file calls (Ok _) e = ap (λ f. f.write_faults) e
quiet_write old new file calls (Err _) e = tt

-- a write leaves all but the file, the count of faults of writes and the calls
write_keeps : {F A : Type 0} → (part : RealFlash F → A) → ((f : RealFlash F) (file : Option F) (n : ℕ) (calls : List FlashCall) → part (record f { file = file; write_faults = n; calls = calls }) ≡ part f)
    → (old new : RealFlash F) (file : Option F) (calls : List FlashCall) (answer : Result (Unit {0}) FailedCall)
    → OnOk answer (new ≡ record old { file = file; calls = calls }) → OnErr answer (new ≡ record old { file = file; write_faults = raised old.write_faults; calls = calls }) → part new ≡ part old
write_keeps part same old new file calls (Ok _) o e = ap part o ∙ same old file old.write_faults calls
write_keeps part same old new file calls (Err _) o e = ap part e ∙ same old file (raised old.write_faults) calls

-- a write is one call
pub write_called : {F : Type 0} → (old new : RealFlash F) (call : Result (Unit {0}) FailedCall → FlashCall) (answer : Result (Unit {0}) FailedCall) → is_some old.file ≡ true → is_some new.file ≡ true
    → OnOk answer (new ≡ record old { file = new.file; calls = old.calls ++ call answer ∷ [] }) → OnErr answer (new ≡ record old { file = new.file; write_faults = raised old.write_faults; calls = old.calls ++ call answer ∷ [] })
    → OnOk answer (CallsFor (call (Ok tt)) (known_flash old) (known_flash new)) × OnErr answer (CallsFor (call (Err (record {}))) (known_flash old) (known_flash new))
write_called old new call (Ok _) was is o e = (called_by old new (call (Ok tt)) (ap (λ f. f.calls) o) (ap (λ f. f.extent) o) (is ∙ sym was), tt)
write_called old new call (Err _) was is o e = (tt, called_by old new (call (Err (record {}))) (ap (λ f. f.calls) e) (ap (λ f. f.extent) e) (is ∙ sym was))

pub only_writes : {F : Type 0} → (old new : RealFlash F) (calls : List FlashCall) (answer : Result (Unit {0}) FailedCall) → is_some old.file ≡ true → is_some new.file ≡ true
    → OnOk answer (new ≡ record old { file = new.file; calls = calls }) → OnErr answer (new ≡ record old { file = new.file; write_faults = raised old.write_faults; calls = calls }) → old.write_faults ≤ new.write_faults
    → names_asked new.calls ≡ names_asked old.calls → OnlyWrites (known_flash old) (known_flash new)
only_writes old new calls answer was is o e rises names = record {
  extent = write_keeps (λ f. f.extent) (λ f file n calls. refl) old new new.file calls answer o e;
  attached = is ∙ sym was;
  names = names;
  faults = write_keeps (λ f. f.faults) (λ f file n calls. refl) old new new.file calls answer o e;
  absences = write_keeps (λ f. f.absences) (λ f file n calls. refl) old new new.file calls answer o e;
  write_faults = rises;
}

-- of a write nothing is known
pub unknown_written : (answer : Result (Unit {0}) FailedCall) (known : Option (List ℕ)) → OnOk answer (known ≡ known)
unknown_written (Ok _) known = refl
unknown_written (Err _) known = tt

pub unknown_torn : (answer : Result (Unit {0}) FailedCall) (known : Option (List ℕ)) → OnErr answer (known ≡ known)
unknown_torn (Ok _) known = tt
unknown_torn (Err _) known = refl
