-- Inputs by name, whose bytes may be known or not (this project's choice).
-- The bytes of a file are not known: no clause says what a file of the system holds. Those of an input in memory are.
use Rattle.std.specs.Prelude.{◌≡◌, ℕ, Bool, true, false, List, [], ◌++◌, ◌+◌, ◌≤◌, ◌<◌, ◌^◌, ◌⊎◌, length, Option, None, Some, IfSome}
use Rattle.x7_words.specs.Count.{HasRisen}
use Rattle.x7_words.specs.declared.input.SelectFault.{SelectFault}
use Rattle.x7_words.specs.declared.input.SelectFault.TheVariants.{Missing, Failed}

-- a bound on the bytes of a text or stream that is taken
abbrev pub taken_bytes_limit : ℕ
taken_bytes_limit = 2 ^ 63

-- what inputs have come to
pub record InputsState : Type 0 where
  -- the map from names to bytes, as long as it is known: in memory always, and for files while all that selects and
  -- reads gave agrees with it; `None` for a name without an input
  pub contents : Option (List ℕ → Option (List ℕ))
  -- whether an input is selected
  pub selected : Bool
  -- what is left of the selected input, where that is known
  pub rest : Option (List ℕ)
  -- the name of the last select, where it is kept
  pub asked : Option (List ℕ)
  -- how often an input was asked for, by a count that may stop at the last u64
  pub selects : ℕ
  -- how often a read gave nothing, by a count that may stop at the last u64
  pub ends : ℕ
  -- how many bytes were given since the last select, by a count that may stop at the last u64; a fault doesn't raise it
  pub given : ℕ
  -- how often a select or a read has failed
  pub faults : ℕ
  -- how often a name was missing
  pub absences : ℕ

-- the rest is all bytes of the input of this name, where the map is known
abbrev pub RestIsWhole : Option (List ℕ → Option (List ℕ)) → List ℕ → Option (List ℕ) → Type 0
RestIsWhole None name rest = Unit {0}
RestIsWhole (Some map) name rest = (bytes : List ℕ) × (map name ≡ Some bytes) × (rest ≡ Some bytes)

-- the map is known and has no such name
abbrev pub MapLacks : Option (List ℕ → Option (List ℕ)) → List ℕ → Type 0
MapLacks None name = ⊥
MapLacks (Some map) name = map name ≡ None

-- a map that is known is the one that was known before
abbrev pub StillKnown : Option (List ℕ → Option (List ℕ)) → Option (List ℕ → Option (List ℕ)) → Type 0
StillKnown old None = Unit {0}
StillKnown old (Some map) = old ≡ Some map

-- bytes before the known ones; where none are known the result isn't known either
abbrev pub preceded : List ℕ → Option (List ℕ) → Option (List ℕ)
preceded bytes None = None
preceded bytes (Some rest) = Some (bytes ++ rest)

-- while the map is known, the rest before was these bytes and then the rest after
abbrev pub TakenBy : Option (List ℕ → Option (List ℕ)) → Option (List ℕ) → List ℕ → Option (List ℕ) → Type 0
TakenBy None old bytes new = Unit {0}
TakenBy (Some map) old bytes new = old ≡ preceded bytes new

-- a rest that is known is empty
abbrev pub AtEnd : Option (List ℕ) → Type 0
AtEnd None = Unit {0}
AtEnd (Some rest) = rest ≡ []

-- every name keeps its bytes, as long as they are known, and the counts of faults and of absences don't fall
pub record InputsStay (old new : InputsState) : Type 0 where
  pub map : StillKnown old.contents new.contents
  pub faults : old.faults ≤ new.faults
  pub absences : old.absences ≤ new.absences

-- the counts of faults and of absences fit a u64
abbrev pub InputCountsFit : InputsState → Type 0
InputCountsFit state = (state.faults < 2 ^ 64) × (state.absences < 2 ^ 64)

-- the inputs failed: their count of faults has risen
abbrev pub InputsFail : InputsState → InputsState → Type 0
InputsFail old new = HasRisen old.faults new.faults

-- no fault and no absence was counted
pub record NoInputFault (old new : InputsState) : Type 0 where
  pub faults : new.faults ≡ old.faults
  pub absences : new.absences ≡ old.absences

-- the name is missing: the map is known and lacks it, or the count of absences has risen
abbrev pub MissesInput : InputsState → List ℕ → InputsState → Type 0
MissesInput old name new = MapLacks new.contents name ⊎ HasRisen old.absences new.absences

-- the input of this name is selected, at its first byte
pub record OpensInput (old : InputsState) (name : List ℕ) (new : InputsState) : Type 0 where
  pub selected : new.selected ≡ true
  pub found : RestIsWhole new.contents name new.rest

-- the name is that of the last select, where that is kept, and no byte was given since
pub record AsksForName (name : List ℕ) (new : InputsState) : Type 0 where
  pub asked : IfSome new.asked (λ kept. kept ≡ name)
  pub given : new.given ≡ 0

-- no input was asked for, and at most one more read gave nothing
pub record AsksForNoInput (old new : InputsState) : Type 0 where
  pub asked : new.asked ≡ old.asked
  pub selects : new.selects ≡ old.selects
  pub ends : new.ends ≤ old.ends + 1

-- at most one input was asked for, and no more reads gave nothing
pub record AsksOnce (old new : InputsState) : Type 0 where
  pub selects : new.selects ≤ old.selects + 1
  pub ends : new.ends ≤ old.ends

-- at most this many inputs were asked for, and at most as many more reads gave nothing
pub record AsksAtMost (old : InputsState) (count : ℕ) (new : InputsState) : Type 0 where
  pub selects : new.selects ≤ old.selects + count
  pub ends : new.ends ≤ old.ends + count

-- the bytes were taken from the selected input, and at most as many are counted as given; the input stays selected and
-- was not asked for again
pub record TakesInput (old : InputsState) (bytes : List ℕ) (new : InputsState) : Type 0 where
  pub selected : new.selected ≡ true
  pub taken : TakenBy new.contents old.rest bytes new.rest
  pub given : new.given ≤ old.given + length bytes
  pub selects : new.selects ≡ old.selects

-- a read failed: the count of faults has risen, no input is selected, and the counts of bytes given and of reads that
-- gave nothing have not risen
pub record ReadFails (old new : InputsState) : Type 0 where
  pub faults : InputsFail old new
  pub selected : new.selected ≡ false
  pub given : new.given ≤ old.given
  pub ends : new.ends ≤ old.ends

-- what caused the fault of a select that was refused: the name is missing, or the inputs failed
abbrev pub InputsRefuse : InputsState → List ℕ → InputsState → SelectFault → Type 0
InputsRefuse old name new Missing = MissesInput old name new
InputsRefuse old name new Failed = InputsFail old new
