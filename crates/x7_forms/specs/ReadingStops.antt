-- At which input reading stops (this project's choice).
use Rattle.std.specs.Prelude.{◌≡◌, ◌+◌, ◌-◌, ◌⊎◌, ℕ, List, [], ◌∷◌, ◌++◌, Option, None, Some, length}
use Rattle.x7_words.specs.Input.{AsksAtMost, InputsState}
use Rattle.x7_forms.specs.Event.{Event, no_memory}
use Rattle.x7_forms.specs.Turn.{IsLastAsked}

-- an input by its name, and the most bytes that it may have
pub record Limited : Type 0 where
  pub name : List ℕ
  pub limit : ℕ

-- the input of this name, which may have this many bytes
abbrev pub limited : ℕ → List ℕ → Limited
limited limit name = record { name = name; limit = limit }

-- how many bytes an input is known to have, 0 where nothing is known of it
abbrev pub size_of : Option (List ℕ) → ℕ
size_of None = 0
size_of (Some bytes) = length bytes

-- how many bytes the input of this name is known to have, 0 where nothing is known of it
abbrev pub size_in : Option (List ℕ → Option (List ℕ)) → List ℕ → ℕ
size_in None name = 0
size_in (Some map) name = size_of (map name)

-- inputs that are within a limit together: each may have what those before it leave of the limit, as far as they are
-- known
abbrev pub limited_together : Option (List ℕ → Option (List ℕ)) → ℕ → List (List ℕ) → List Limited
limited_together contents limit [] = []
limited_together contents limit (name ∷ names) = limited limit name ∷ limited_together contents (limit - size_in contents name) names

-- want of memory, or an event of this name
abbrev pub IsAbout : List ℕ → Event → Type 0
IsAbout name event = (event ≡ no_memory) ⊎ (event.concerned ≡ name)

-- Reading stopped at one of these inputs, which the event names: it is the last that was asked for, where that is kept,
-- and no more than a byte over its limit was given of it. No more inputs were asked for than stand up to and with it,
-- nor more ends of inputs read.
pub record StopsAt (inputs : List Limited) (old now : InputsState) (event : Event) : Type 0 where
  pub before : List Limited
  pub input : Limited
  pub after : List Limited
  pub among : inputs ≡ before ++ input ∷ after
  pub concerns : event.concerned ≡ input.name
  pub last_asked : IsLastAsked input.name input.limit now
  pub asks : AsksAtMost old (length before + 1) now

-- want of memory, or reading stopped at one of these inputs, which the event names
abbrev pub StopsAmong : List Limited → InputsState → InputsState → Event → Type 0
StopsAmong inputs old now event = (event ≡ no_memory) ⊎ StopsAt inputs old now event
