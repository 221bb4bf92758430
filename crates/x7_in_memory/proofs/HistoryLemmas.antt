-- Lemmas on what calls of a flash in memory did to it.
use Rattle.std.proofs.Common.{◌≡◌, ◌≤◌, ℕ, ◌+◌, List, [], ◌∷◌, ◌++◌, Some, Result, Ok, Err, OnOk, OnErr, is_err, length, slice_range, ap, sym, subst, ◌∙◌, append_assoc, append-nil}
use Rattle.x7_words.specs.Flash.{IsTorn, cleared, erased_sector, replaced, sector_place}
use Rattle.x7_words.specs.FlashHistory.{IsHistory, Makes, attach_call}
use Rattle.x7_words.specs.declared.flash_call.FlashCall.{FlashCall}
use Rattle.x7_words.specs.declared.input.Failed.{Failed as FailedCall}
use Rattle.x7_words.specs.declared.input.SelectFault.{SelectFault}
use Rattle.x7_ghost.specs.Answered.{erase_call, program_call, read_call}
use Rattle.x7_in_memory.specs.History.{AreCallsOf, GivesWhatWasWritten, IsCallOf}
use Rattle.x7_in_memory.specs.Memory.{FlashInMemory, after_flash_write, after_memory_attach, after_read_at, flash_write_fails, with_call}
use Rattle.x7_in_memory.proofs.MemoryFlashLemmas.{promised}

-- ---- one call

-- a call that writes nothing
unwritten_call : (call : FlashCall) (old new : FlashInMemory) → new.history ≡ old.history ++ call ∷ [] → Makes call old.bytes new.bytes → IsCallOf call old new
unwritten_call call old new h makes = record { kept = h; makes = makes }

pub attach_is_call : (old new : FlashInMemory) (name : List ℕ) (answer : Result (Unit {0}) SelectFault) → new ≡ with_call (attach_call name (length old.bytes) answer) (after_memory_attach old name) → IsCallOf (attach_call name (length old.bytes) answer) old new
attach_is_call old new name (Ok _) e = unwritten_call _ old new (ap (λ f. f.history) e) (ap (λ f. f.bytes) e)
attach_is_call old new name (Err fault) e = unwritten_call _ old new (ap (λ f. f.history) e) (ap (λ f. f.bytes) e)

pub read_is_call : (old new : FlashInMemory) (place size : ℕ) (buffer : List ℕ) (answer : Result (Unit {0}) FailedCall) → new ≡ with_call (read_call place buffer answer) (after_read_at old)
    → length buffer ≡ size → OnOk answer (buffer ≡ slice_range old.bytes place (place + size)) → IsCallOf (read_call place buffer answer) old new
read_is_call old new place size buffer (Ok _) e l is =
    unwritten_call _ old new (ap (λ f. f.history) e) (ap (λ f. f.bytes) e, is ∙ ap (λ n. slice_range old.bytes place (place + n)) (sym l))
read_is_call old new place size buffer (Err _) e l is = unwritten_call _ old new (ap (λ f. f.history) e) (ap (λ f. f.bytes) e)

-- what a call that writes a target at a place says of the bytes
record WritesTarget (call : Result (Unit {0}) FailedCall → FlashCall) (place : ℕ) (target old : List ℕ) : Type 0 where
  pub whole : (new : List ℕ) → new ≡ replaced place target old → Makes (call (Ok tt)) old new
  pub torn : (new : List ℕ) → IsTorn place target old new → Makes (call (Err (record {}))) old new

write_is_call : (old new : FlashInMemory) (place : ℕ) (target : List ℕ) (within : place + length target ≤ length old.bytes) (call : Result (Unit {0}) FailedCall → FlashCall) (answer : Result (Unit {0}) FailedCall) → WritesTarget call place target old.bytes
    → is_err answer ≡ flash_write_fails old → new ≡ with_call (call answer) (after_flash_write old place target) → IsCallOf (call answer) old new
write_is_call old new place target within call answer writes a e =
    let p = promised old new place target within (call answer) e answer a in
    record { kept = ap (λ f. f.history) e; makes = by answer p.written p.torn }
  where
    by : (r : Result (Unit {0}) FailedCall) → OnOk r (Some new.bytes ≡ Some (replaced place target old.bytes)) → OnErr r ((now : List ℕ) × (Some new.bytes ≡ Some now) × IsTorn place target old.bytes now) → Makes (call r) old.bytes new.bytes
    by (Ok _) w t = writes.whole new.bytes (cc)
    by (Err _) w (now, is, torn) = writes.torn new.bytes (subst (λ n. IsTorn place target old.bytes n) (cc) torn)

erase_writes : (sector : ℕ) (old : List ℕ) → WritesTarget (erase_call sector) (sector_place sector) erased_sector old
erase_writes sector old = record { whole = λ new is. is; torn = λ new torn. torn }

program_writes : (place : ℕ) (given old : List ℕ) → WritesTarget (program_call place given) place (cleared place given old) old
program_writes place given old = record { whole = λ new is. is; torn = λ new torn. torn }

pub erase_is_call : (old new : FlashInMemory) (sector : ℕ) (within : sector_place sector + length erased_sector ≤ length old.bytes) (answer : Result (Unit {0}) FailedCall)
    → is_err answer ≡ flash_write_fails old → new ≡ with_call (erase_call sector answer) (after_flash_write old (sector_place sector) erased_sector) → IsCallOf (erase_call sector answer) old new
erase_is_call old new sector within answer a e = write_is_call old new (sector_place sector) erased_sector within (erase_call sector) answer (erase_writes sector old.bytes) a e

pub program_is_call : (old new : FlashInMemory) (place : ℕ) (given : List ℕ) (within : place + length (cleared place given old.bytes) ≤ length old.bytes) (answer : Result (Unit {0}) FailedCall)
    → is_err answer ≡ flash_write_fails old → new ≡ with_call (program_call place given answer) (after_flash_write old place (cleared place given old.bytes)) → IsCallOf (program_call place given answer) old new
program_is_call old new place given within answer a e = write_is_call old new place (cleared place given old.bytes) within (program_call place given) answer (program_writes place given old.bytes) a e

-- ---- calls one after the other

calls_kept : (calls : List FlashCall) (old new : FlashInMemory) → AreCallsOf calls old new → new.history ≡ old.history ++ calls
calls_kept [] old new e = ap (λ f. f.history) e ∙ sym (append-nil old.history)
calls_kept (call ∷ calls) old new (mid, one, others) = calls_kept calls mid new others ∙ ap (λ h. h ++ calls) one.kept ∙ append_assoc old.history (call ∷ []) calls

calls_make : (calls : List FlashCall) (old new : FlashInMemory) → AreCallsOf calls old new → IsHistory calls old.bytes new.bytes
calls_make [] old new e = ap (λ f. f.bytes) e
calls_make (call ∷ calls) old new (mid, one, others) = (mid.bytes, one.makes, calls_make calls mid new others)

pub gives_what_was_written : (calls : List FlashCall) (old new : FlashInMemory) → AreCallsOf calls old new → GivesWhatWasWritten calls old new
gives_what_was_written calls old new are = record { kept = calls_kept calls old new are; bytes = calls_make calls old new are }
