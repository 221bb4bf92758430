-- What `plan full` writes: a binary stream, which is made as it is written (this project's choice).
use Rattle.std.specs.Prelude.{◌≡◌, ℕ, ◌≤◌, false}
use Rattle.x7_part.specs.Part.{PartData, frame_words}
use Rattle.x7_memory.specs.Plan.{AreAddressed, PlanData}
use Rattle.x7_planner.specs.FullStream.{full_stream}
use Rattle.x7_planner.specs.FullStreamPieces.{piece_limit}
use Rattle.x7_forms.specs.Known.{Answer}

-- a part, and a plan for it
pub record PlanFor : Type 0 where
  pub part : PartData
  pub plan : PlanData

-- a full text fits: its plan is one for its part, and its buffer of `capacity` bytes has room for a piece
pub record FullTextFits (t : PlanFor) (capacity : ℕ) : Type 0 where
  pub width : t.plan.width ≡ frame_words t.part
  pub addresses : AreAddressed t.part t.plan.rows
  pub room : piece_limit ≤ capacity

-- the answer of `plan full`: the full stream of the plan
abbrev pub full_answer : PlanFor → Answer
full_answer t = record { stopped = false; text = full_stream t.part t.plan }
