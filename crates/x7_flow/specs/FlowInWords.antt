-- The flow that HistoryFlow defines, in other words: each of its values by a recursion of its own (law
-- `flows_go_by_accesses`; this project's choice).
use Rattle.std.specs.Prelude.{ℕ, ◌+◌, ◌==◌, ◌&&◌, if◌then◌else◌, List, [], ◌∷◌, Option, None}
use Rattle.x7_packets.specs.History.{Access, Write, Read, History, command_held, writes}
use Rattle.x7_part.specs.Part.{PartData, frame_words}
use Rattle.x7_regs.specs.declared.command.Command.TheVariants as command
use Rattle.x7_regs.specs.declared.register.Reg.TheVariants as reg
use Rattle.x7_regs.specs.Command.{code_of}
use Rattle.x7_regs.specs.Register.{number_of}
use Rattle.x7_pipeline.specs.Runs.{frames_of}
use Rattle.x7_pipeline.specs.FarAsRead.{is_frame_address, loaded_base}
use Rattle.x7_pipeline.specs.Copies.{newest_of}
use Rattle.x7_flow.specs.FrameAccess.{reads_frame_data, writes_frame_data}
use Rattle.x7_flow.specs.Stretches.{access_begins_stretch}
use Rattle.x7_flow.specs.HistoryFlow.{base_of}

-- a run with the word of a write, and as it was after another access
abbrev pub run_with_word : Access → List ℕ → List ℕ
run_with_word (Write register w) run = w ∷ run
run_with_word _ run = run

-- how many words a read asks for, and 0 for another access
abbrev pub count_asked : Access → ℕ
count_asked (Read register count) = count
count_asked _ = 0

-- the words of frame data that were written in the last stretch, the newest first: after the latest write to CMD or
-- FAR, or where there is none from the beginning on
unfoldable pub words_written : ℕ → History → List ℕ
words_written idcode [] = []
words_written idcode (e ∷ h) =
    if access_begins_stretch e.access then [] else
    if writes_frame_data idcode h e.access then run_with_word e.access (words_written idcode h) else words_written idcode h

-- the base after an access: the address of a FAR load, for a command FAR as read before it, and else the old base
abbrev pub base_after : PartData → Access → ℕ → ℕ → ℕ
base_after part (Write register w) far old = if register == number_of reg.Cmd then far else if register == number_of reg.Far then loaded_base part w else old
base_after part _ far old = old

-- the sum of the counts of the last stretch's reads of frame data from an address, in words
unfoldable pub sum_of_reads : PartData → History → ℕ
sum_of_reads part [] = 0
sum_of_reads part (e ∷ h) =
    if access_begins_stretch e.access then 0 else
    if reads_frame_data h e.access && is_frame_address part (base_of part h) then sum_of_reads part h + count_asked e.access else sum_of_reads part h

-- under MFW the newest whole frame of the run that the latest write to CMD ended, if the command was WCFG before it;
-- else none
unfoldable pub frame_taken : PartData → History → Option (List ℕ)
frame_taken part [] = None
frame_taken part (e ∷ h) =
    if writes (number_of reg.Cmd) e.access then
    (if command_held (e ∷ h) == code_of command.Mfw && command_held h == code_of command.Wcfg
    then newest_of (frames_of (frame_words part) (words_written part.idcode h)) else None)
    else frame_taken part h
