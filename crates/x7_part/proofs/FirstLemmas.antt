-- The first fault that checks find, check by check.
use Rattle.std.proofs.Common.{◌≡◌, List, [], ◌∷◌, Option, None, Some, refl}
use Rattle.x7_part.specs.declared.fault.PartFault.{PartFault}
use Rattle.x7_part.specs.PartChecks.{first_of}

-- a check that found nothing, before others
pub passes : (o found : Option PartFault) (checks : List (Option PartFault)) → None ≡ o → found ≡ first_of checks → found ≡ first_of (o ∷ checks)
passes o found checks none e = rw (← none) e

-- the check that found the fault
pub stops : (o : Option PartFault) (fault : PartFault) (checks : List (Option PartFault)) → Some fault ≡ o → Some fault ≡ first_of (o ∷ checks)
stops o fault checks e = rw (← e) refl

pub first_alone : (o : Option PartFault) → o ≡ first_of (o ∷ [])
first_alone None = refl
first_alone (Some fault) = refl
