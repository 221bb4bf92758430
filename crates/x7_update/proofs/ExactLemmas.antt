-- Lemmas on refusals: a flash that can be updated is refused for none, and what is left is want of memory.
use Rattle.std.proofs.Common.{◌≡◌, ℕ, inl, inr, true, false, List, None, Some, Result, Ok, Err, IfErr, length, get_or, refl, ap, sym, ◌∙◌, arith}
use Rattle.x7_words.specs.Flash.{FlashState}
use Rattle.x7_update.specs.Layout.{IsUpdatable, LeadsToUpdate}
use Rattle.x7_update.specs.Fault.{HasNoCause, DiffersAt, HasCause, IsTooLong, NoLayoutAt, bad_first, bad_place, bad_size, bad_slot, last_taken}
use Rattle.x7_update.specs.declared.fault.UpdateFault.{UpdateFault}
use Rattle.x7_update.specs.declared.fault.UpdateFault.TheVariants.{Differs, Failed, NoLayout, NoMemory, TooLong}
use Rattle.x7_words.proofs.FollowLemmas.{known_at}

differs_not : (flash : List ℕ) (slot place : ℕ) → LeadsToUpdate flash slot → DiffersAt flash slot place → ⊥
differs_not flash slot place leads d = d.differs (ap (λ p. get_or flash p 0) d.is ∙ leads d.i d.after_switch d.within)

-- a flash that can be updated has no place that shows that it can't
pub updatable_or_not : (flash : List ℕ) (place : ℕ) → IsUpdatable flash → NoLayoutAt (length flash) flash place → ⊥
updatable_or_not flash place l (bad_size n is) = n l.size
updatable_or_not flash place l (bad_first sized d) = differs_not flash 0 place (l.slots.leads 0 (omega arith)) d
updatable_or_not flash place l (bad_place sized leads n is) = n l.slots.place
updatable_or_not flash place l (bad_slot begins slot h to (inl d)) = differs_not flash slot place (l.slots.leads slot h) d
updatable_or_not flash place l (bad_slot begins slot h to (inr b)) =
    let same = l.slots.one_open b.1.other slot (omega (arith, b.1.before, h)) h b.1.first b.1.second in
    absurd (omega (arith, same, b.1.before))
updatable_or_not flash place l (last_taken begins good taken is) = taken l.slots.last_free

-- a flash that can be updated is refused for want of memory alone
pub only_memory : (stream : List ℕ) (old new : FlashState) (fault : UpdateFault) → HasCause stream old new fault → HasNoCause stream old new → fault ≡ NoMemory
only_memory stream old new (Failed true) cause can = absurd (can.writes cause.0)
only_memory stream old new (Failed false) cause can = absurd (can.reads cause.0)
only_memory stream old new TooLong cause can =
    let long = known_at old.bytes (IsTooLong stream) cause can.flash can.known in
    absurd (omega (arith, long.passes, can.fits))
only_memory stream old new (NoLayout place) cause can =
    absurd (updatable_or_not can.flash place can.updatable (known_at old.bytes (λ flash. NoLayoutAt (length flash) flash place) cause can.flash can.known))
only_memory stream old new (Differs at wrote read) cause can = let both : None ≡ Some can.flash = sym cause ∙ can.known in cc
only_memory stream old new NoMemory cause can = refl

pub if_only_memory : {A : Type 0} (stream : List ℕ) (old new : FlashState) (answer : Result A UpdateFault) → IfErr answer (HasCause stream old new) → IfErr answer (λ fault. HasNoCause stream old new → fault ≡ NoMemory)
if_only_memory stream old new (Ok _) cause = tt
if_only_memory stream old new (Err fault) cause = only_memory stream old new fault cause
