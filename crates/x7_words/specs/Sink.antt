-- Bytes that are written one after the other, which may be known or not (this project's choice).
use Rattle.std.specs.Prelude.{◌≡◌, ℕ, List, ◌++◌, ◌≤◌, ◌<◌, ◌^◌, Option, None, Some, ◌⊎◌}
use Rattle.x7_words.specs.Count.{HasRisen}

-- what a sink has come to
pub record SinkState : Type 0 where
  -- the bytes written so far, where they are known
  pub written : Option (List ℕ)
  -- how often a write has failed
  pub faults : ℕ

-- the known bytes with further ones at their end; where none are known the result isn't known either
abbrev pub appended : Option (List ℕ) → List ℕ → Option (List ℕ)
appended None bytes = None
appended (Some old) bytes = Some (old ++ bytes)

-- a prefix of the bytes was put at the end of what was known
abbrev pub PutsPrefix : Option (List ℕ) → List ℕ → Option (List ℕ) → Type 0
PutsPrefix old bytes new = (prefix : List ℕ) × ((back : List ℕ) × (bytes ≡ prefix ++ back) × (new ≡ appended old prefix))

-- the whole text was put at the end
abbrev pub PutsAll : SinkState → List ℕ → SinkState → Type 0
PutsAll old text new = new.written ≡ appended old.written text

-- a prefix of the text was put at the end
abbrev pub PutsSome : SinkState → List ℕ → SinkState → Type 0
PutsSome old text new = PutsPrefix old.written text new.written

-- the sink failed: its count of faults has risen
abbrev pub SinkFails : SinkState → SinkState → Type 0
SinkFails old new = HasRisen old.faults new.faults

-- the count of faults doesn't fall, and fits a u64 where it did before
pub record SinkFaultsNeverFall (old new : SinkState) : Type 0 where
  pub faults : old.faults ≤ new.faults
  pub fits : old.faults < 2 ^ 64 → new.faults < 2 ^ 64

-- the whole text was put at the end, or a prefix of it and the sink failed
abbrev pub PutsOrFails : SinkState → List ℕ → SinkState → Type 0
PutsOrFails old text new = PutsAll old text new ⊎ (SinkFails old new × PutsSome old text new)
