use Rattle.std.proofs.Common.{◌≡◌, drop}
use Rattle.x7_part.specs.Slot.{slots_from}
use Rattle.x7_pipeline.specs.FarAsRead.{first_address}
use Rattle.x7_pipeline.proofs.place.far_at.Given as goal

-- the slots that were passed over hold no frame
abbrev pub invariant-loop-place : goal.invariant-loop-place
invariant-loop-place l = first_address (drop l.place (slots_from l.part l.base)) ≡ first_address (drop l.n (slots_from l.part l.base))
