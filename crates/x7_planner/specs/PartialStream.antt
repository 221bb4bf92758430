-- The stream of a partial reconfiguration: the planned frames alone, contents at three addresses or more by copies, the
-- others in bursts (this project's choice; UG470, multi-frame write register).
use Rattle.std.specs.Prelude.{◌≡◌, ℕ, ◌+◌, ◌-◌, ◌*◌, ◌<◌, ◌≤◌, ◌==◌, ◌&&◌, nat_le, not, bytes_eq, Bool, true, false, if◌then◌else◌, List, [], ◌∷◌, ◌++◌, length, map, replicate, slice_index, slice_index_or, All, Contains, Some}
use Rattle.std.specs.List.{filter, flat_map}
use Rattle.x7_part.specs.Part.{PartData, frame_words}
use Rattle.x7_part.specs.Slot.{slot_after}
use Rattle.x7_part.specs.declared.slot.Slot.{Slot}
use Rattle.x7_part.specs.declared.slot.Slot.TheVariants.{Frame, Pad, End}
use Rattle.x7_memory.specs.Plan.{AreApart, PlanRow, planned, planned_addresses}
use Rattle.x7_regs.specs.declared.command.Command.TheVariants.{Desync, Mfw, Rcrc, Wcfg}
use Rattle.x7_regs.specs.declared.register.Reg.TheVariants.{Far, Idcode, Mfwr}
use Rattle.x7_packets.specs.PacketWords.{command, frame_data_headers, no_op, write_one}
use Rattle.x7_planner.specs.Writer.{Words, Check, ending_no_ops, opening_words, stream_of}
use Rattle.x7_planner.specs.FullStream.{zero_frame}

-- what a partial stream writes from one WCFG up to the next, or to its ending: a content at its first address and
-- copies of it, or frames from an address on
pub data Section : Type 0 where
  Copies : (words : List ℕ) (fars : List ℕ) → Section
  Rows : (rows : List PlanRow) → Section

-- the rows that have a content
abbrev pub with_content : List ℕ → List PlanRow → List PlanRow
with_content words rows = filter (λ row. bytes_eq row.words words) rows

-- the addresses that have a content, in the order of the rows
abbrev pub addresses_with : List ℕ → List PlanRow → List ℕ
addresses_with words rows = planned_addresses (with_content words rows)

-- the fewest addresses at which a content stands that is written once and copied
abbrev pub least_group_size : ℕ
least_group_size = 3

-- words are the content of `least_group_size` addresses or more
abbrev pub are_shared : List PlanRow → List ℕ → Bool
are_shared all words = nat_le least_group_size (length (with_content words all))

-- a row's content stands at `least_group_size` addresses or more
abbrev pub is_shared : List PlanRow → PlanRow → Bool
is_shared all r = are_shared all r.words

-- a row's content stands at `least_group_size` addresses or more, and the row is the first of them
abbrev pub is_first_of_group : List PlanRow → PlanRow → Bool
is_first_of_group all r = is_shared all r && (slice_index (addresses_with r.words all) 0 == r.far)

-- the groups of all rows whose first row is one of `rows`, in the order of these; a group is a content that stands at
-- `least_group_size` addresses or more, with these addresses
abbrev pub groups_led : List PlanRow → List PlanRow → List Section
groups_led all [] = []
groups_led all (r ∷ rows) =
    if is_first_of_group all r then Copies r.words (addresses_with r.words all) ∷ groups_led all rows else groups_led all rows

-- the rows whose content stands at fewer than `least_group_size` addresses
abbrev pub rows_not_shared : List PlanRow → List PlanRow → List PlanRow
rows_not_shared all rows = filter (λ row. not (is_shared all row)) rows

-- the slot is the frame at this address
abbrev pub is_frame : ℕ → Slot → Bool
is_frame address (Frame a) = a == address
is_frame address Pad = false
is_frame address End = false

-- the slot right after that of the first address is the frame at the second one, the next address of the same row of
-- the part
abbrev pub follows : PartData → ℕ → ℕ → Bool
follows part a b = is_frame b (slot_after part a 1)

-- bursts with a planned frame more before them: it joins the first burst where the first address of that burst follows
-- its own
abbrev pub with_row : PartData → PlanRow → List (List PlanRow) → List (List PlanRow)
with_row part r [] = (r ∷ []) ∷ []
with_row part r ([] ∷ bursts) = (r ∷ []) ∷ bursts
with_row part r ((s ∷ burst) ∷ bursts) = if follows part r.far s.far then (r ∷ s ∷ burst) ∷ bursts else (r ∷ []) ∷ (s ∷ burst) ∷ bursts

-- the longest bursts of rows whose addresses follow one another
abbrev pub bursts_of : PartData → List PlanRow → List (List PlanRow)
bursts_of part [] = []
bursts_of part (r ∷ rows) = with_row part r (bursts_of part rows)

-- the longest burst that rows begin with has `count` of them: each follows the one before it, and the next one doesn't
pub record IsBurstLength (part : PartData) (rows : List PlanRow) (count : ℕ) : Type 0 where
  pub at_least_one : 0 < count
  pub inside : count ≤ length rows
  pub joined : (k : ℕ) (d : PlanRow) → k + 1 < count → follows part (slice_index_or rows k d).far (slice_index_or rows (k + 1) d).far ≡ true
  pub ends : (d : PlanRow) → count < length rows → follows part (slice_index_or rows (count - 1) d).far (slice_index_or rows count d).far ≡ false

-- the sections of a plan's rows: the groups, and then the bursts of the other rows
abbrev pub sections_of : PartData → List PlanRow → List Section
sections_of part rows = groups_led rows rows ++ map Rows (bursts_of part (rows_not_shared rows rows))

-- what copies the source to an address: a FAR load, and a word of MFWR
abbrev pub copy_words : ℕ → List ℕ
copy_words address = write_one Far address ++ write_one Mfwr 0

-- the words of frames in order
abbrev pub frames_words : List PlanRow → List ℕ
frames_words rows = flat_map (λ row. row.words) rows

-- the words of a section: a content at its first address, and copies of it to each of its addresses, the first too; or
-- frames from an address on, and a frame of zeros
abbrev pub section_words : PartData → Section → List ℕ
section_words part (Copies words fars) =
    command Wcfg ++ (write_one Far (slice_index fars 0) ++ (frame_data_headers (frame_words part) ++ (words ++ (command Mfw ++ flat_map copy_words fars))))
section_words part (Rows rows) =
    command Wcfg ++ (write_one Far (slice_index (planned_addresses rows) 0)
    ++ (frame_data_headers (frame_words part * (length rows + 1)) ++ (frames_words rows ++ zero_frame part)))

-- what a partial stream begins with, before its sections
abbrev pub partial_opening : PartData → List ℕ
partial_opening part = opening_words ++ (command Rcrc ++ (no_op ∷ write_one Idcode part.idcode))

-- the words of the groups of all rows of a plan whose first row is one of `rows`
abbrev pub groups_words : PartData → List PlanRow → List PlanRow → List ℕ
groups_words part all rows = flat_map (section_words part) (groups_led all rows)

-- the words of the longest bursts of rows
abbrev pub bursts_words : PartData → List PlanRow → List ℕ
bursts_words part rows = flat_map (section_words part) (map Rows (bursts_of part rows))

-- the end of the session, and no-ops
abbrev pub partial_ending : List ℕ
partial_ending = command Desync ++ replicate ending_no_ops no_op

-- the partial stream of a plan's rows
abbrev pub partial_stream : PartData → List PlanRow → List ℕ
partial_stream part rows = stream_of (Words (partial_opening part ++ flat_map (section_words part) (sections_of part rows)) ∷ Check ∷ Words partial_ending ∷ [])

-- ---- what the sections put, in other words

-- what a section puts, in order: addresses with their frames
abbrev pub pairs_of : Section → List PlanRow
pairs_of (Copies words fars) = map (λ far. record { far = far; words = words }) fars
pairs_of (Rows rows) = rows

-- what sections put, in order
abbrev pub pairs_in : List Section → List PlanRow
pairs_in sections = flat_map pairs_of sections

-- pairs write each of these rows once, with its frame, and no other address
pub record WritesOnce (rows pairs : List PlanRow) : Type 0 where
  pub frames : All (λ pair. planned rows pair.far ≡ Some pair.words) pairs
  pub each : (address : ℕ) → Contains (planned_addresses rows) address → Contains (planned_addresses pairs) address
  pub once : AreApart pairs

-- the rows of bursts in order
abbrev pub joined_bursts : List (List PlanRow) → List PlanRow
joined_bursts bursts = flat_map (λ burst. burst) bursts

-- the last address of a burst's rows, 0 without rows
abbrev pub last_far : List PlanRow → ℕ
last_far [] = 0
last_far (r ∷ []) = r.far
last_far (r ∷ s ∷ burst) = last_far (s ∷ burst)

-- the first address of a burst's rows, 0 without rows
abbrev pub first_far : List PlanRow → ℕ
first_far [] = 0
first_far (r ∷ burst) = r.far

-- the rows are a burst: there are some, and their addresses follow one another
abbrev pub IsBurst : PartData → List PlanRow → Type 0
IsBurst part [] = ⊥
IsBurst part (r ∷ []) = Unit {0}
IsBurst part (r ∷ s ∷ burst) = (follows part r.far s.far ≡ true) × IsBurst part (s ∷ burst)

-- each of these is a burst, and none follows the one before it
abbrev pub AreLongest : PartData → List (List PlanRow) → Type 0
AreLongest part [] = Unit {0}
AreLongest part (burst ∷ []) = IsBurst part burst
AreLongest part (burst ∷ next ∷ bursts) = IsBurst part burst × (follows part (last_far burst) (first_far next) ≡ false) × AreLongest part (next ∷ bursts)
