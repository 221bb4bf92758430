-- What stood last in a history: an access of one kind, and since then none that ends it (this project's choice).
use Rattle.std.specs.Prelude.{◌≡◌, Bool, false, [], ◌∷◌, ◌++◌}
use Rattle.x7_packets.specs.History.{Access, Entry, History}

-- none of the newer accesses ends what stood, each judged by the history before it
abbrev pub NoneSince : (History → Access → Bool) → History → History → Type 0
NoneSince ends [] older = Unit {0}
NoneSince ends (e ∷ newer) older = (ends (newer ++ older) e.access ≡ false) × NoneSince ends newer older

-- an access of a history was of a kind, and none since then ends what it began
pub record Since (Is : History → Access → Type 0) (ends : History → Access → Bool) (h : History) : Type 0 where
  pub newer : History
  pub latest : Entry
  pub older : History
  pub split : h ≡ newer ++ latest ∷ older
  pub kind_is : Is older latest.access
  pub lasts : NoneSince ends newer (latest ∷ older)
