-- The faults that HistoryFlow defines, in other words: what an access lacks (law `refusals_have_causes`; UG470, frame
-- address register and frame data registers).
use Rattle.std.specs.Prelude.{◌≡◌, ℕ, ◌==◌, ◌&&◌, not, Bool, true, false, List, [], ◌∷◌, is_some}
use Rattle.x7_packets.specs.History.{Access, History}
use Rattle.x7_part.specs.Part.{PartData}
use Rattle.x7_pipeline.specs.Copies.{is_mfw}
use Rattle.x7_pipeline.specs.FarAsRead.{is_frame_address}
use Rattle.x7_pipeline.specs.RunsInWords.{Overruns}
use Rattle.x7_flow.specs.Asking.{Asked, AddsWord, CopiesSource, Reads}
use Rattle.x7_flow.specs.HistoryFlow.{Flow, asked_after, base_of, flow_of, asks_copy, run_of}

-- a run has no word
abbrev pub is_empty : List ℕ → Bool
is_empty [] = true
is_empty (w ∷ run) = false

-- what is asked needs an address: the first word of a run, a copy for which there is a source, or a read of some words
abbrev pub needs_address : Asked → Flow → Bool
needs_address (AddsWord w) f = is_empty f.run
needs_address CopiesSource f = is_mfw f.command && is_some f.source
needs_address (Reads count) f = not (count == 0)
needs_address _ f = false

-- an access after a history needs an address, and the base, `far`, is none
abbrev pub LacksAddress : PartData → History → Access → ℕ → Type 0
LacksAddress part h access far =
    (needs_address (asked_after part.idcode h access) (flow_of part h) ≡ true) × (is_frame_address part (base_of part h) ≡ false) × (far ≡ base_of part h)

-- an access after a history is a copy, and there is no frame to copy: the command isn't MFW, or MFW took none
abbrev pub LacksSource : PartData → History → Access → Type 0
LacksSource part h access =
    (asks_copy (asked_after part.idcode h access) ≡ true) × ((is_mfw (flow_of part h).command && is_some (flow_of part h).source) ≡ false)

-- an access after a history writes this word of frame data, and the base is an address
pub record WritesWord (part : PartData) (h : History) (access : Access) (w : ℕ) : Type 0 where
  pub word : asked_after part.idcode h access ≡ AddsWord w
  pub address : is_frame_address part (base_of part h) ≡ true

-- the slots from the base are used up by the frames of the run, and this word completes one more
abbrev pub LacksSlot : PartData → History → ℕ → Type 0
LacksSlot part h w = Overruns part (base_of part h) (w ∷ run_of part h)

-- a history has a run only where its base is an address of the part
abbrev pub RunsAtAddress : PartData → History → Type 0
RunsAtAddress part h = is_frame_address part (base_of part h) ≡ false → run_of part h ≡ []
