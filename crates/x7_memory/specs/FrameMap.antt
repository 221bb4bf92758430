-- Maps from frame addresses to frames, and one map over another (this project's choice).
use Rattle.std.specs.Prelude.{◌≡◌, ℕ, List, Option, Some, None, ◌⊎◌, if◌then◌else◌, ◌==◌}
use Rattle.std.specs.Option.{option_or}

-- a map: the frame at an address, none where the map has no frame
abbrev pub FrameMap : Type 0
FrameMap = ℕ → Option (List ℕ)

-- the map p over the map m: p's frame where p has one at the address, else m's
abbrev pub override : FrameMap → FrameMap → FrameMap
override m p far = option_or (p far) (m far)

-- the map without a frame
abbrev pub no_frames : FrameMap
no_frames far = None

-- the map with one frame, at the address `at`
abbrev pub single_frame : ℕ → List ℕ → FrameMap
single_frame at words far = if far == at then Some words else None

-- no address has a frame in both maps
abbrev pub AreDisjoint : FrameMap → FrameMap → Type 0
AreDisjoint p q = (far : ℕ) → (p far ≡ None) ⊎ (q far ≡ None)

-- the maps have the same frames
abbrev pub HaveSameFrames : FrameMap → FrameMap → Type 0
HaveSameFrames m n = (far : ℕ) → m far ≡ n far
