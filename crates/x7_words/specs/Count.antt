-- Counts of 64 bits that never fall, and stop at 2^64 - 1 (this project's choice).
use Rattle.std.specs.Prelude.{◌≡◌, ℕ, ◌<◌, ◌≤◌, ◌⊎◌, ◌^◌, ◌+◌, ◌-◌, min, if◌then◌else◌, ◌==◌}

-- the count rose, or it stands at 2^64 - 1, where counts stop
abbrev pub HasRisen : ℕ → ℕ → Type 0
HasRisen old new = (old < new) ⊎ (new + 1 ≡ 2 ^ 64)

-- the second is a later value of the same count of 64 bits, which never falls
pub record IsLaterCount (old new : ℕ) : Type 0 where
  pub never_falls : old ≤ new
  pub fits : new < 2 ^ 64

-- the next count, which stops at 2^64 - 1
abbrev pub raised : ℕ → ℕ
raised count = min (count + 1) (2 ^ 64 - 1)

-- the count raised by `more`, which stops at 2^64 - 1
abbrev pub added : ℕ → ℕ → ℕ
added count more = min (count + more) (2 ^ 64 - 1)

-- the count of reads that gave nothing, after a read that gave this many bytes
abbrev pub ends_counted : ℕ → ℕ → ℕ
ends_counted given count = if given == 0 then raised count else count
