-- The place of an address among the rows of a plan, or the place where it would go, from 0 (this project's choice).
use Rattle.std.specs.Prelude.{◌≡◌, ℕ, ◌<◌, ◌≤◌, List, length, slice_index_or}
use Rattle.x7_memory.specs.Plan.{PlanRow}

-- the row at place i has the address
pub record IsRowPlace (rows : List PlanRow) (far i : ℕ) : Type 0 where
  pub inside : i < length rows
  pub same : (d : PlanRow) → (slice_index_or rows i d).far ≡ far

-- the address would go to place i: the rows before have smaller addresses, and those from place i on greater ones
pub record IsInsertPlace (rows : List PlanRow) (far i : ℕ) : Type 0 where
  pub inside : i ≤ length rows
  pub smaller : (j : ℕ) (d : PlanRow) → j < i → (slice_index_or rows j d).far < far
  pub greater : (j : ℕ) (d : PlanRow) → i ≤ j → j < length rows → far < (slice_index_or rows j d).far
