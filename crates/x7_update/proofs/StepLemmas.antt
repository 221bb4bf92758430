-- Lemmas on the steps of an update: what they count, and that one step after another is a step.
use Rattle.std.proofs.Common.{◌≡◌, ℕ, ◌≤◌, List, length, true, false, Result, Ok, Err, IfErr, OnOk, refl, sym, subst, ◌∙◌, arith}
use Rattle.x7_words.specs.Flash.{FlashState, OnlyReads, OnlyWrites}
use Rattle.x7_words.proofs.CountLemmas.{risen_from}
use Rattle.x7_words.proofs.FlashLemmas.{reads_at, reads_on}
use Rattle.x7_words.proofs.FollowLemmas.{follow_none, follow_on}
use Rattle.x7_packets.specs.FlashSlot.{sector_size}
use Rattle.x7_update.specs.Layout.{CanStandAt, IsUpdatableSize}
use Rattle.x7_update.specs.Slots.{HasTarget, TargetFits}
use Rattle.x7_update.specs.Writing.{CanVerify, CountsFault, IsReadStep, IsWriteStep, IsWrong, OnlyUses}
use Rattle.x7_update.specs.declared.fault.UpdateFault.{UpdateFault}
use Rattle.x7_update.specs.declared.fault.UpdateFault.TheVariants.{Differs, Failed, NoLayout, NoMemory, TooLong}
use Rattle.x7_update.specs.declared.slots.UpdateTarget.{UpdateTarget}

-- what holds whatever the answer is
pub on_ok : {E : Type 0} (P : Type 0) (answer : Result (Unit {0}) E) → P → OnOk answer P
on_ok P (Ok _) p = p
on_ok P (Err _) p = tt

-- what follows of an error, whatever it is
pub if_err_map : {A E : Type 0} (P Q : E → Type 0) (answer : Result A E) → ((error : E) → P error → Q error) → IfErr answer P → IfErr answer Q
if_err_map P Q (Ok _) f p = tt
if_err_map P Q (Err error) f p = f error p

-- ---- steps

pub write_none : (s : FlashState) → IsWriteStep s s
write_none s = record { follows = follow_none s; only = record { extent = refl; attached = refl; names = refl; faults = refl; absences = refl; write_faults = omega arith } }

writes_on : (a b c : FlashState) → OnlyWrites a b → OnlyWrites b c → OnlyWrites a c
writes_on a b c p q = record {
  extent = q.extent ∙ p.extent;
  attached = q.attached ∙ p.attached;
  names = q.names ∙ p.names;
  faults = q.faults ∙ p.faults;
  absences = q.absences ∙ p.absences;
  write_faults = omega (arith, p.write_faults, q.write_faults);
}

pub write_on : (a b c : FlashState) → IsWriteStep a b → IsWriteStep b c → IsWriteStep a c
write_on a b c p q = record { follows = follow_on a b c p.follows q.follows; only = writes_on a b c p.only q.only }

pub read_none : (s : FlashState) → IsReadStep s s
read_none s = record { follows = follow_none s; only = reads_at s }

pub read_on : (a b c : FlashState) → IsReadStep a b → IsReadStep b c → IsReadStep a c
read_on a b c p q = record { follows = follow_on a b c p.follows q.follows; only = reads_on a b c p.only q.only }

-- ---- uses

pub uses_read : (a b : FlashState) → OnlyReads a b → OnlyUses a b
uses_read a b p = record { extent = p.extent; attached = p.attached; names = p.names; absences = p.absences; faults = p.faults; write_faults = omega (arith, p.write_faults) }

pub uses_write : (a b : FlashState) → OnlyWrites a b → OnlyUses a b
uses_write a b p = record { extent = p.extent; attached = p.attached; names = p.names; absences = p.absences; faults = omega (arith, p.faults); write_faults = p.write_faults }

pub uses_on : (a b c : FlashState) → OnlyUses a b → OnlyUses b c → OnlyUses a c
uses_on a b c p q = record {
  extent = q.extent ∙ p.extent;
  attached = q.attached ∙ p.attached;
  names = q.names ∙ p.names;
  absences = q.absences ∙ p.absences;
  faults = omega (arith, p.faults, q.faults);
  write_faults = omega (arith, p.write_faults, q.write_faults);
}

-- ---- what a step finds after a read

pub still_found : (old new : FlashState) (target : UpdateTarget) → OnlyReads old new → HasTarget old target → HasTarget new target
still_found old new target only found = record { attached = only.attached ∙ found.attached; fits = subst (λ n. TargetFits n target) (sym only.extent) found.fits }

pub can_still_verify : (old new : FlashState) (update : ℕ) (stream buffer after : List ℕ) → OnlyReads old new → length after ≡ sector_size → CanVerify old update stream buffer → CanVerify new update stream after
can_still_verify old new update stream buffer after only long can = record {
  attached = only.attached ∙ can.attached;
  size = subst IsUpdatableSize (sym only.extent) can.size;
  place = subst (λ n. CanStandAt n update) (sym only.extent) can.place;
  fits = omega (arith, only.extent, can.fits);
  buffer_is = long;
}

-- ---- what is counted

pub counts_before : (a b c : FlashState) (fault : UpdateFault) → OnlyUses a b → CountsFault b c fault → CountsFault a c fault
counts_before a b c (Failed true) u h = risen_from a.write_faults b.write_faults c.write_faults u.write_faults h
counts_before a b c (Failed false) u h = risen_from a.faults b.faults c.faults u.faults h
counts_before a b c (Differs at wrote read) u h = tt
counts_before a b c TooLong u h = tt
counts_before a b c (NoLayout at) u h = tt
counts_before a b c NoMemory u h = tt

-- a fault that was counted after some steps
pub counts_since : {A : Type 0} (a b c : FlashState) (answer : Result A UpdateFault) → OnlyUses a b → IfErr answer (CountsFault b c) → IfErr answer (CountsFault a c)
counts_since a b c answer u h = if_err_map (CountsFault b c) (CountsFault a c) answer (λ fault. counts_before a b c fault u) h

-- a byte that differs is counted nowhere
pub wrong_counts : (from : ℕ) (piece : List ℕ) (place : ℕ) (buffer : List ℕ) (old new : FlashState) (answer : Result (Unit {0}) UpdateFault) → IfErr answer (IsWrong from piece place buffer) → IfErr answer (CountsFault old new)
wrong_counts from piece place buffer old new (Ok _) w = tt
wrong_counts from piece place buffer old new (Err (Differs at wrote read)) w = tt
wrong_counts from piece place buffer old new (Err (Failed true)) w = absurd w
wrong_counts from piece place buffer old new (Err (Failed false)) w = absurd w
wrong_counts from piece place buffer old new (Err TooLong) w = tt
wrong_counts from piece place buffer old new (Err (NoLayout at)) w = tt
wrong_counts from piece place buffer old new (Err NoMemory) w = tt
