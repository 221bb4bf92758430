-- The image of the full stream of a plan and an update stream (the layout of an image is this project's choice).
use Rattle.std.specs.Prelude.{ℕ, ◌≤◌, ◌++◌, List, length}
use Rattle.x7_part.specs.Part.{PartData}
use Rattle.x7_part.specs.Ranges.{IsPart}
use Rattle.x7_memory.specs.Plan.{IsPlanFor, PlanData}
use Rattle.x7_planner.specs.FullStream.{full_stream}
use Rattle.x7_boot.specs.Image.{flash_limit, image_of, image_size, place_after_golden}
use Rattle.x7_recovery.specs.OpenSlot.{OpenFlash, image_of_flash}

-- where the update stands after the full stream of a plan
abbrev pub place_after : PartData → PlanData → ℕ
place_after part golden = place_after_golden (length (full_stream part golden))

-- the image of the full stream of a plan, as golden stream, and an update
abbrev pub golden_image : PartData → PlanData → List ℕ → List ℕ
golden_image part golden update = image_of part.start_unit (full_stream part golden) update

-- the part's numbers are in range, the golden plan is one for it, and the image of the plan's full stream and the
-- update is no larger than a flash may be
pub record HasImage (part : PartData) (golden : PlanData) (update : List ℕ) : Type 0 where
  pub is_part : IsPart part
  pub plan : IsPlanFor part golden
  pub fits : image_size (length (full_stream part golden)) (length update) ≤ flash_limit

-- a flash that begins with the image of the full stream of a plan and an update, whatever follows: its first slot as
-- the open one, which leads to the update
abbrev pub flash_of_image : PartData → PlanData → List ℕ → List ℕ → OpenFlash
flash_of_image part golden update more = image_of_flash part (golden_image part golden update ++ more) (place_after part golden)
