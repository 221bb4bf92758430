-- A small part and a plan without frames, which show that what the laws ask of parts, plans and images can hold (this
-- project's choice). The part is made up; its IDCODE is that of the xc7a35t.
use Rattle.std.specs.Prelude.{[], ◌∷◌}
use Rattle.x7_part.specs.Part.{PartData}
use Rattle.x7_memory.specs.Plan.{PlanData}

-- a part of two rows, each with one column of two frames
abbrev pub tiny : PartData
tiny = record {
  name = 0x74 ∷ [];
  idcode = 0x0362D093;
  mode = 1;
  bus_width = 0;
  lock = 0;
  matched = 0;
  frame_words = 101;
  field_widths = record { minor = 7; column = 10; row = 5; half = 1; block = 3 };
  start_unit = 1;
  rows = record { block = 0; half = 0; row = 0; minors = 2 ∷ [] } ∷ record { block = 0; half = 1; row = 0; minors = 2 ∷ [] } ∷ [];
}

-- a plan of no frame
abbrev pub nothing_planned : PlanData
nothing_planned = record { width = 101; rows = [] }
