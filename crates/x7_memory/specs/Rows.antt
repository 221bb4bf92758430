-- Rows as their fields hold them: the words of all frames in one list, and each row's address and the number of its
-- first word there (this project's choice).
use Rattle.std.specs.Prelude.{ℕ, ◌+◌, ◌≤◌, List, length, map, take, drop, All}
use Rattle.x7_memory.specs.declared.rows.StoredRow.{StoredRow}
use Rattle.x7_memory.specs.declared.rows.Rows.TheInside.{Inside}
use Rattle.x7_memory.specs.Plan.{PlanRow, PlanData, IsDraft}

-- a row with its words, `width` of them from number `start` on in the list, whose first word has number 0
abbrev pub row_in : ℕ → List ℕ → StoredRow → PlanRow
row_in width words row = record { far = row.far; words = take width (drop row.start words) }

-- all rows, each with its words
abbrev pub rows_in : ℕ → List ℕ → List StoredRow → List PlanRow
rows_in width words rows = map (row_in width words) rows

-- the width and the rows, each with its words, that the fields hold
abbrev pub rows_seen : Inside → PlanData
rows_seen kept = record { width = kept.width; rows = rows_in kept.width kept.words.items kept.rows.items }

-- the list holds each row's words, `width` of them, and these and the row's address have 32 bits
pub record AreKept (width : ℕ) (words : List ℕ) (rows : List StoredRow) : Type 0 where
  pub inside : All (λ row. row.start + width ≤ length words) rows
  pub draft : IsDraft record { width = width; rows = rows_in width words rows }
