-- Why a planner refuses (this project's choice).
use Rattle.std.specs.Prelude.{◌≡◌, ◌⊎◌, ℕ, ◌<◌, ◌≤◌, List, [], ◌∷◌, ◌++◌, length, Contains}
use Rattle.x7_part.specs.AddressOrder.{addresses_in}
use Rattle.x7_part.specs.Part.{PartData}
use Rattle.x7_part.specs.Slot.{slots_from}
use Rattle.x7_memory.specs.Plan.{AreAddressed, PlanRow, PlanData}
use Rattle.x7_planner.specs.declared.fault.PlanFault.{PlanFault}
use Rattle.x7_planner.specs.declared.fault.PlanFault.TheVariants as fault

-- `address` is that of the first planned frame whose address the part lacks
pub record IsFirstForeign (part : PartData) (rows : List PlanRow) (address : ℕ) : Type 0 where
  pub before : List PlanRow
  pub row : PlanRow
  pub after : List PlanRow
  pub split : rows ≡ before ++ row ∷ after
  pub addressed : AreAddressed part before
  pub foreign : ¬ Contains (addresses_in part) row.far
  pub address_is : address ≡ row.far

-- n slots can be read from an address: it is the part's, and n is at least one, and no more than there are slots from
-- it on
pub record CanRead (part : PartData) (address n : ℕ) : Type 0 where
  pub has : Contains (addresses_in part) address
  pub at_least_one : 0 < n
  pub within : n ≤ length (slots_from part address)

-- n is 0, or more than there are slots from the address on; from an address that the part lacks there are none
abbrev pub IsOutOfRange : PartData → ℕ → ℕ → Type 0
IsOutOfRange part address n = (n ≡ 0) ⊎ (length (slots_from part address) < n)

-- with this fault a full stream of the plan is refused; want of memory is none of these faults
abbrev pub IsFullFault : PartData → PlanData → PlanFault → Type 0
IsFullFault part plan (fault.Foreign address) = IsFirstForeign part plan.rows address
IsFullFault part plan _ = ⊥

-- with this fault a partial stream of the plan is refused; want of memory is none of these faults
abbrev pub IsPartialFault : PartData → PlanData → PlanFault → Type 0
IsPartialFault part plan fault.Empty = plan.rows ≡ []
IsPartialFault part plan (fault.Foreign address) = IsFirstForeign part plan.rows address
IsPartialFault part plan _ = ⊥

-- with this fault a read stream of n slots from an address is refused; want of memory is none of these faults
abbrev pub IsReadFault : PartData → ℕ → ℕ → PlanFault → Type 0
IsReadFault part address n (fault.Foreign a) = (a ≡ address) × (¬ Contains (addresses_in part) address)
IsReadFault part address n (fault.Range m) = (m ≡ n) × Contains (addresses_in part) address × IsOutOfRange part address n
IsReadFault part address n _ = ⊥
