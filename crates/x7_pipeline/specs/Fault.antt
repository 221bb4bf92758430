-- The faults of runs, copies and readbacks, as functions of what a pipeline stands for (UG470, frame data input
-- register, multi-frame write register and readback; when a word is refused is this project's choice).
use Rattle.std.specs.Prelude.{ℕ, ◌+◌, ◌==◌, ◌&&◌, nat_le, Bool, if◌then◌else◌, List, [], ◌∷◌, length, Option, Some, None, is_some}
use Rattle.x7_part.specs.Part.{PartData, frame_words}
use Rattle.x7_part.specs.Slot.{slots_from}
use Rattle.x7_regs.specs.declared.command.Command.{Command}
use Rattle.x7_pipeline.specs.declared.fault.RunFault.{RunFault}
use Rattle.x7_pipeline.specs.declared.fault.RunFault.TheVariants.{Address, Overrun, Multi}
use Rattle.x7_pipeline.specs.Runs.{rest_of, frames_of}
use Rattle.x7_pipeline.specs.FarAsRead.{is_frame_address}
use Rattle.x7_pipeline.specs.Copies.{is_mfw}

-- the fault of a base: Address where it is no address, else none
unfoldable pub address_fault : PartData → ℕ → Option RunFault
address_fault part base = if is_frame_address part base then None else Some (Address base)

-- the next word of a run completes a frame
abbrev pub completes : PartData → List ℕ → Bool
completes part run = length (rest_of (frame_words part) run) + 1 == frame_words part

-- each slot from the base on has its frame already
abbrev pub has_filled : PartData → ℕ → List ℕ → Bool
has_filled part base run = nat_le (length (slots_from part base)) (length (frames_of (frame_words part) run))

-- the fault of one word more in a run: Address at the first word, where the base is no address, and Overrun at the last
-- word of a frame past the last slot
unfoldable pub write_fault : PartData → ℕ → List ℕ → Option RunFault
write_fault part base [] = address_fault part base
write_fault part base (w ∷ run) =
    if completes part (w ∷ run) && has_filled part base (w ∷ run) then Some Overrun else None

-- the fault of a copy: Multi where the command isn't MFW or there is no source, else Address where the base is no
-- address
unfoldable pub copy_fault : PartData → Command → ℕ → Option (List ℕ) → Option RunFault
copy_fault part command base source =
    if is_mfw command && is_some source then address_fault part base else Some Multi

-- the fault of a read of one word or more, where `given` words of the readback were read before: Address where there
-- were none and the base is no address
unfoldable pub readback_fault : PartData → ℕ → ℕ → Option RunFault
readback_fault part base given = if given == 0 then address_fault part base else None

-- the fault of `count` words of a readback passed over at once, none where `count` is 0
unfoldable pub drop_fault : PartData → ℕ → ℕ → ℕ → Option RunFault
drop_fault part base given count = if count == 0 then None else readback_fault part base given
