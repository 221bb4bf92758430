-- Positions in a stream (how many of its bytes, from the first on, a new device took), and to which one an order
-- `until` leads (this project's choice).
use Rattle.std.specs.Prelude.{◌≡◌, ℕ, ◌+◌, ◌-◌, ◌<◌, ◌≤◌, ◌==◌, Bool, true, false, List, take, unwrap_or}
use Rattle.std.specs.List.{find, range_with_len}
use Rattle.x7_part.specs.Part.{PartData}
use Rattle.x7_memory.specs.FrameMap.{FrameMap}
use Rattle.x7_engine.specs.declared.snapshot.End.{End}
use Rattle.x7_engine.specs.declared.snapshot.End.TheVariants as at_end
use Rattle.x7_engine.specs.declared.snapshot.Snapshot.{Snapshot}
use Rattle.x7_engine.specs.Kept.{on_the_bench}
use Rattle.x7_engine.specs.State.{memory_of_bytes, state_of, taken_of}
use Rattle.x7_debug.specs.declared.order.Stop.{Stop}
use Rattle.x7_debug.specs.declared.order.Stop.TheVariants as stop

-- the last position: how many bytes the stream has, or how many up to and with the one at which the device stops
abbrev pub last_of : PartData → List ℕ → ℕ
last_of part stream = taken_of part on_the_bench stream

-- the state of the device at position n, but its memory; its attempt isn't wrapped (`false`), since no flash boots it
abbrev pub state_at_position : PartData → List ℕ → ℕ → Snapshot
state_at_position part stream n = state_of part on_the_bench false (take n stream)

-- the frames of the device at position n
abbrev pub memory_at_position : PartData → List ℕ → ℕ → FrameMap
memory_at_position part stream n = memory_of_bytes part on_the_bench (take n stream)

-- the bytes end in a session of the stream: after a sync word, no DESYNC has ended it, and the device hasn't stopped
abbrev pub ends_in_session : End → Bool
ends_in_session at_end.Synced = true
ends_in_session _ = false

-- the bytes end in a gap of the stream, where the sync word is searched, and the device hasn't stopped
abbrev pub ends_in_gap : End → Bool
ends_in_gap at_end.Searching = true
ends_in_gap _ = false

-- the bytes end where a fault or an obeyed IPROG stopped the device
abbrev pub ends_at_stop : End → Bool
ends_at_stop (at_end.Iprog wbstar) = true
ends_at_stop (at_end.Fault fault) = true
ends_at_stop _ = false

-- the stop of an order `until` holds where the bytes end as `end` says, with startup in phase `phase`
abbrev pub holds_in : Stop → End → ℕ → Bool
holds_in stop.Synced end phase = ends_in_session end
holds_in stop.Searching end phase = ends_in_gap end
holds_in stop.Stopped end phase = ends_at_stop end
holds_in (stop.Phase wanted) end phase = phase == wanted

-- the stop holds at position n of the stream
abbrev pub holds_at : PartData → List ℕ → Stop → ℕ → Bool
holds_at part stream stop n = holds_in stop (state_at_position part stream n).end (state_at_position part stream n).phase

-- the phase of startup is 0 at each position before n, and n isn't past the last one: a phase above 0 comes at position
-- n at the soonest
pub record BeginsAtSoonest (part : PartData) (stream : List ℕ) (n : ℕ) : Type 0 where
  pub within : n ≤ last_of part stream
  pub zero : (k : ℕ) → k < n → (state_at_position part stream k).phase ≡ 0

-- n is the least position after `at` where the stop holds
pub record IsLeastAfter (part : PartData) (stream : List ℕ) (stop : Stop) (at n : ℕ) : Type 0 where
  pub after : at < n
  pub within : n ≤ last_of part stream
  pub holds : holds_at part stream stop n ≡ true
  pub before : (k : ℕ) → at < k → k < n → holds_at part stream stop k ≡ false

-- the stop holds at no position after `at`, up to and with the last
abbrev pub HoldsNowhereAfter : PartData → List ℕ → Stop → ℕ → Type 0
HoldsNowhereAfter part stream stop at = (k : ℕ) → at < k → k ≤ last_of part stream → holds_at part stream stop k ≡ false

-- the positions after `at`, up to and with the last
abbrev pub later_than : PartData → List ℕ → ℕ → List ℕ
later_than part stream at = range_with_len (at + 1) (last_of part stream - at)

-- the least position after `at` where the stop holds, and the last position where there is none
abbrev pub until_of : PartData → List ℕ → Stop → ℕ → ℕ
until_of part stream stop at = unwrap_or (find (holds_at part stream stop) (later_than part stream at)) (last_of part stream)
