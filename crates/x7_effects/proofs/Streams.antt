-- The streams that a planner makes: of a whole plan, of a plan's frames alone, and of a readback.
use Rattle.std.specs.Prelude.{ℕ, ◌+◌, ◌*◌, ◌^◌, ◌<◌, List, [], ◌∷◌, ◌++◌, length, slice_index, All}
use Rattle.std.specs.List.{flat_map, AllByRecursion}
use Rattle.x7_regs.specs.Command.{code_of}
use Rattle.x7_regs.specs.Register.{number_of}
use Rattle.x7_regs.specs.declared.command.Command.{Command}
use Rattle.x7_regs.specs.declared.register.Reg.{Reg}
use Rattle.x7_regs.specs.declared.command.Command.TheVariants.{Lfrm, Mfw, Rcfg, Rcrc, Shutdown, Start, Wcfg}
use Rattle.x7_regs.specs.declared.register.Reg.TheVariants.{Cmd, Cor0, Ctl0, Far, Fdri, Fdro, Idcode, Mask, Mfwr}
use Rattle.x7_words.specs.Word.{AreWords}
use Rattle.x7_part.specs.AddressOrder.{addresses_in}
use Rattle.x7_part.specs.Part.{PartData, frame_words}
use Rattle.x7_part.specs.Slot.{slots_in}
use Rattle.x7_memory.specs.Plan.{PlanRow, PlanData, planned_addresses}
use Rattle.x7_effects.proofs.Items.{Noop, Write, WriteLong, ReadLong, bytes_of_words, closed, bus_width_head}
use Rattle.x7_effects.proofs.Checking.{Piece, Put, Check, with_checks, at_first}
use Rattle.x7_planner.specs.PartialStream.{Section, Copies, Rows}
use Rattle.x7_effects.proofs.Frames.{joined, frames_at, row_frames}
use Rattle.x7_planner.specs.FullStream.{zero_frame}

-- a command, and one word written to a register
abbrev pub command : Command → Piece
command c = Put (Write (number_of Cmd) (code_of c ∷ []))

abbrev pub one : Reg → ℕ → Piece
one register word = Put (Write (number_of register) (word ∷ []))

-- pieces between the head with its sync word and a DESYNC with this many no-ops
abbrev pub stream_of : List Piece → ℕ → List ℕ
stream_of pieces noops = bytes_of_words (closed bus_width_head (with_checks at_first pieces) noops)

-- a whole plan, by the idcode, the first address and the words of all slots from there on: SHUTDOWN, RCRC, a no-op, the
-- idcode, COR0, MASK and CTL0, WCFG, FAR, the words, a check, LFRM, START and a check
abbrev pub full_with : ℕ → ℕ → List ℕ → List Piece
full_with idcode first words =
    Put Noop ∷ command Shutdown ∷ command Rcrc ∷ Put Noop ∷ one Idcode idcode ∷ one Cor0 0x02003FE5 ∷ one Mask 0x501 ∷ one Ctl0 0x101
    ∷ command Wcfg ∷ one Far first ∷ Put (WriteLong (number_of Fdri) words) ∷ Check ∷ command Lfrm ∷ command Start ∷ Check ∷ []

abbrev pub full_pieces : PartData → PlanData → List Piece
full_pieces part plan = full_with part.idcode (slice_index (addresses_in part) 0) (joined (frames_at part plan (slots_in part)))

abbrev pub full_stream : PartData → PlanData → List ℕ
full_stream part plan = stream_of (full_pieces part plan) 16

abbrev pub copy_pieces : ℕ → List Piece
copy_pieces far = one Far far ∷ one Mfwr 0 ∷ []

abbrev pub section_pieces : PartData → Section → List Piece
section_pieces part (Copies words fars) = command Wcfg ∷ one Far (slice_index fars 0) ∷ Put (WriteLong (number_of Fdri) words) ∷ command Mfw ∷ flat_map copy_pieces fars
section_pieces part (Rows rows) = command Wcfg ∷ one Far (slice_index (planned_addresses rows) 0) ∷ Put (WriteLong (number_of Fdri) (joined (row_frames rows ++ zero_frame part ∷ []))) ∷ []

abbrev pub sections_pieces : PartData → List Section → List Piece
sections_pieces part sections = flat_map (section_pieces part) sections

abbrev pub partial_pieces : PartData → List Section → List Piece
partial_pieces part sections = Put Noop ∷ command Rcrc ∷ Put Noop ∷ one Idcode part.idcode ∷ (sections_pieces part sections ++ Check ∷ [])

-- a readback of this many words, and of n slots, from an address on
abbrev pub read_with : ℕ → ℕ → List Piece
read_with far count = Put Noop ∷ command Rcrc ∷ Put Noop ∷ command Rcfg ∷ one Far far ∷ Put (ReadLong (number_of Fdro) count) ∷ []

abbrev pub read_pieces : PartData → ℕ → ℕ → List Piece
read_pieces part far n = read_with far (frame_words part * (n + 1))

abbrev pub read_stream : PartData → ℕ → ℕ → List ℕ
read_stream part far n = stream_of (read_pieces part far n) 4

-- the words of rows are words
abbrev pub HaveWords : List PlanRow → Type 0
HaveWords rows = All (λ row. AreWords row.words) rows

-- a section that can be written
abbrev pub IsSection : PartData → Section → Type 0
IsSection part (Copies words fars) = (length words < 2 ^ 27) × AreWords words × AreWords fars
IsSection part (Rows rows) = (length (joined (row_frames rows ++ zero_frame part ∷ [])) < 2 ^ 27) × HaveWords rows × AreWords (planned_addresses rows)

abbrev pub AreSections : PartData → List Section → Type 0
AreSections part sections = AllByRecursion (IsSection part) sections
