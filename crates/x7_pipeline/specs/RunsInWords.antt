-- Runs, written frames and FAR in other words, for the laws of this crate (this project's choice).
use Rattle.std.specs.Prelude.{◌≡◌, ◌≢◌, ℕ, ◌+◌, ◌*◌, ◌<◌, ◌≤◌, ◌⊎◌, List, [], ◌++◌, length, slice_index_or, reverse, Option, Some, None, All}
use Rattle.std.specs.List.{filter_map, flat_map, zip}
use Rattle.x7_part.specs.Part.{PartData, frame_words}
use Rattle.x7_part.specs.Slot.{slots_from}
use Rattle.x7_part.specs.declared.slot.Slot.{Slot}
use Rattle.x7_part.specs.declared.slot.Slot.TheVariants.{Frame, Pad, End}
use Rattle.x7_memory.specs.FrameMap.{FrameMap}
use Rattle.x7_memory.specs.Plan.{PlanRow}
use Rattle.x7_pipeline.specs.FarAsRead.{last_address}
use Rattle.x7_pipeline.specs.Runs.{GetsPairs, frames_of, written_frames, onto, rest_of}
use Rattle.x7_pipeline.specs.RunWritten.{RunWritten}

-- a run, whose newest word stands first, is whole frames of `width` words, the newest first, and after them a shorter
-- rest, whose oldest word stands first
pub record AreCutFrom (width : ℕ) (run : List ℕ) (frames : List (List ℕ)) (rest : List ℕ) : Type 0 where
  pub joined : reverse run ≡ flat_map (λ frame. frame) (reverse frames) ++ rest
  pub each : All (λ frame. length frame ≡ width) frames
  pub short : length rest < width

-- a slot and its frame as a pair of an address and a frame, none at a pad and past the last slot
abbrev pub pair_of : Slot × List ℕ → Option PlanRow
pair_of (Frame far, words) = Some record { far = far; words = words }
pair_of (Pad, words) = None
pair_of (End, words) = None

-- frames, the oldest first, at the slots from a base in order, those at pads and past the last slot left out
abbrev pub placed_from : PartData → ℕ → List (List ℕ) → List PlanRow
placed_from part base frames = filter_map pair_of (zip (slots_from part base) frames)

-- the memory is another one with what a run has written
abbrev pub HasRun : PartData → ℕ → List ℕ → FrameMap → FrameMap → Type 0
HasRun part base run under memory = GetsPairs (written_frames part base run) under memory

-- what writing words leaves where none is refused
abbrev pub all_written : List ℕ → List ℕ → RunWritten
all_written words run = record { run = onto words run; count = length words; fault = None }

-- the place in a readback, in words from 0, of word `i` of frame `n` after the pad frame, `i` and `n` from 0
abbrev pub place_in : PartData → ℕ → ℕ → ℕ
place_in part n i = frame_words part * (1 + n) + i

-- the newest word completes a frame past the last slot
abbrev pub Overruns : PartData → ℕ → List ℕ → Type 0
Overruns part base run = (rest_of (frame_words part) run ≡ []) × (length (slots_from part base) < length (frames_of (frame_words part) run))

-- ---- FAR within a run or a readback

-- a slot is no frame's: it is a pad, or past the last slot
abbrev pub HasNoFrame : Slot → Type 0
HasNoFrame slot = (far : ℕ) → slot ≢ Frame far

-- an address is the first one at or after slot n, from 0
pub record IsFirstAddress (slots : List Slot) (n far : ℕ) : Type 0 where
  pub place : ℕ
  pub no_sooner : n ≤ place
  pub there : slice_index_or slots place End ≡ Frame far
  pub none_before : (earlier : ℕ) → n ≤ earlier → earlier < place → HasNoFrame (slice_index_or slots earlier End)

-- no address is at or after slot n, from 0
abbrev pub HasNoAddress : List Slot → ℕ → Type 0
HasNoAddress slots n = (place : ℕ) → n ≤ place → HasNoFrame (slice_index_or slots place End)

-- FAR stands at slot n, from 0, of those from a base on: it is the first address there or after, and the part's last
-- one where there is none
abbrev pub FarStandsAt : PartData → ℕ → ℕ → ℕ → Type 0
FarStandsAt part base n far = IsFirstAddress (slots_from part base) n far ⊎ (HasNoAddress (slots_from part base) n × (far ≡ last_address part))
