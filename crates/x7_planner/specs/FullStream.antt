-- The stream of a whole configuration: the planned frames, and zeros at all other addresses (this project's choice).
use Rattle.std.specs.Prelude.{ℕ, ◌+◌, ◌*◌, List, [], ◌∷◌, ◌++◌, length, replicate, slice_index, unwrap_or}
use Rattle.std.specs.List.{flat_map}
use Rattle.x7_part.specs.AddressOrder.{addresses_in}
use Rattle.x7_part.specs.Limits.{most_frames, most_rows}
use Rattle.x7_part.specs.Part.{PartData, frame_words}
use Rattle.x7_part.specs.Slot.{pads_after_row, slots_in}
use Rattle.x7_part.specs.declared.slot.Slot.{Slot}
use Rattle.x7_part.specs.declared.slot.Slot.TheVariants.{Frame, Pad, End}
use Rattle.x7_memory.specs.Plan.{PlanData, planned}
use Rattle.x7_regs.specs.declared.command.Command.TheVariants.{Desync, Lfrm, Rcrc, Shutdown, Start, Wcfg}
use Rattle.x7_regs.specs.declared.register.Reg.TheVariants.{Cor0, Ctl0, Far, Idcode, Mask}
use Rattle.x7_packets.specs.PacketWords.{command, frame_data_headers, no_op, write_one}
use Rattle.x7_planner.specs.ControlWords.{ctl0_word, ctl0_mask_word, cor0_word}
use Rattle.x7_planner.specs.Writer.{StreamPiece, Words, Check, opening_words, stream_of}

-- a frame of zeros
abbrev pub zero_frame : PartData → List ℕ
zero_frame part = replicate (frame_words part) 0

-- what stands at a slot: the planned frame, and zeros at a pad, at an unplanned address and past the last slot
abbrev pub frame_at_slot : PartData → PlanData → Slot → List ℕ
frame_at_slot part plan (Frame address) = unwrap_or (planned plan.rows address) (zero_frame part)
frame_at_slot part plan Pad = zero_frame part
frame_at_slot part plan End = zero_frame part

-- the most slots of a part: its frames, and two pads after each row
abbrev pub most_slots : ℕ
most_slots = most_frames + pads_after_row * most_rows

-- the words of all slots in order
abbrev pub words_of_slots : PartData → PlanData → List Slot → List ℕ
words_of_slots part plan places = flat_map (frame_at_slot part plan) places

-- what a full stream writes between its opening words and the frame data: SHUTDOWN, RCRC, a no-op, the IDCODE, COR0,
-- MASK and CTL0, WCFG, the part's first address, and the headers of the frame data
abbrev pub full_control_words : PartData → List ℕ
full_control_words part =
    command Shutdown ++ (command Rcrc ++ (no_op ∷ (write_one Idcode part.idcode ++ (write_one Cor0 cor0_word ++ (write_one Mask ctl0_mask_word ++ (write_one Ctl0 ctl0_word
    ++ (command Wcfg ++ (write_one Far (slice_index (addresses_in part) 0) ++ frame_data_headers (frame_words part * length (slots_in part))))))))))

-- what stands before the frame data of a full stream
abbrev pub full_opening : PartData → List ℕ
full_opening part = opening_words ++ full_control_words part

-- LFRM, which ends the frame data, and START
abbrev pub start_words : List ℕ
start_words = command Lfrm ++ command Start

-- how many no-ops a full stream ends with
abbrev pub full_ending_no_ops : ℕ
full_ending_no_ops = 16

-- DESYNC, which ends the session, and no-ops
abbrev pub full_ending : List ℕ
full_ending = command Desync ++ replicate full_ending_no_ops no_op

-- the pieces of the full stream of a plan
abbrev pub full_pieces : PartData → PlanData → List StreamPiece
full_pieces part plan =
    Words (full_opening part) ∷ Words (words_of_slots part plan (slots_in part)) ∷ Check ∷ Words start_words ∷ Check ∷ Words full_ending ∷ []

-- the full stream of a plan
abbrev pub full_stream : PartData → PlanData → List ℕ
full_stream part plan = stream_of (full_pieces part plan)
