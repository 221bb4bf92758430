-- What the words of a command ask for, with the names in them (this project's choice). The constructors are named as
-- the variants of `Form` (`src/form.rt`). A file that uses them imports this module `as form`, and writes `form.List`.
use Rattle.std.specs.Prelude.{ℕ, List as ListOf}

-- what the words ask for, with the names that they give; `far` is a frame address, `slot_count` a number of slots to
-- read
pub data AskedForm : Type 0 where
  List : (stream : ListOf ℕ) → AskedForm
  Asm : (text : ListOf ℕ) → AskedForm
  Play : (part : ListOf ℕ) (streams : ListOf (ListOf ℕ)) → AskedForm
  Debug : (part stream script : ListOf ℕ) → AskedForm
  Svf : (part text : ListOf ℕ) → AskedForm
  PlanFull : (part frames : ListOf ℕ) → AskedForm
  PlanPartial : (part frames : ListOf ℕ) → AskedForm
  PlanRead : (part : ListOf ℕ) (far slot_count : ℕ) → AskedForm
  Gen : (part : ListOf ℕ) (seed : ℕ) → AskedForm
  Image : (golden update : ListOf ℕ) → AskedForm
  ImageFor : (part golden update : ListOf ℕ) → AskedForm
  Boot : (part flash : ListOf ℕ) → AskedForm
  Update : (flash stream : ListOf ℕ) → AskedForm
  Mcs : (image : ListOf ℕ) → AskedForm
  Unmcs : (text : ListOf ℕ) → AskedForm
