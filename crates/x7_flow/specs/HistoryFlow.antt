-- What an access asks of the frame pipeline, and the flow and the faults of a history: the definitions (UG470, frame
-- address register and frame data registers). FrameAccess, FlowInWords and NeedsAddress restate them, by laws.
use Rattle.std.specs.Prelude.{◌≡◌, ℕ, ◌+◌, ◌==◌, ◌&&◌, not, Bool, true, false, if◌then◌else◌, List, [], ◌∷◌, Option, None}
use Rattle.x7_packets.specs.History.{Access, Write, Read, Bad, History}
use Rattle.x7_part.specs.Part.{PartData}
use Rattle.x7_regs.specs.declared.register.Reg.TheVariants as reg
use Rattle.x7_regs.specs.Command.{command_by}
use Rattle.x7_regs.specs.Register.{number_of}
use Rattle.x7_pipeline.specs.declared.fault.RunFault.{RunFault}
use Rattle.x7_pipeline.specs.FarAsRead.{far_of, is_frame_address, loaded_base}
pub use Rattle.x7_pipeline.specs.Flow.{Flow, first_flow}
use Rattle.x7_pipeline.specs.Flow.{begun_at, begun_by}
use Rattle.x7_pipeline.specs.Fault.{address_fault, copy_fault, write_fault}
use Rattle.x7_flow.specs.Settings.{Settings, settings_of, takes_frames, takes_copies, gives_frames}
use Rattle.x7_flow.specs.Asking.{Asked, LoadsFar, Commands, AddsWord, CopiesSource, Reads, NothingAsked}

-- ---- what an access asks

-- what a word written to a register asks, under these settings
abbrev pub write_asked : Settings → ℕ → ℕ → Asked
write_asked s register w =
    if register == number_of reg.Far then LoadsFar w else
    if register == number_of reg.Cmd then Commands (command_by w) else
    if register == number_of reg.Fdri && takes_frames s then AddsWord w else
    if register == number_of reg.Mfwr && takes_copies s then CopiesSource else NothingAsked

-- what an access asks, under these settings
abbrev pub asked_under : Settings → Access → Asked
asked_under s (Write register w) = write_asked s register w
asked_under s (Read register count) = if register == number_of reg.Fdro && (not (count == 0) && gives_frames s) then Reads count else NothingAsked
asked_under s (Bad w) = NothingAsked

-- what an access asks after a history
abbrev pub asked_after : ℕ → History → Access → Asked
asked_after idcode h access = asked_under (settings_of idcode h) access

-- what is asked comes from a write to CMD or FAR, after which a stretch begins
abbrev pub begins_stretch : Asked → Bool
begins_stretch (LoadsFar w) = true
begins_stretch (Commands c) = true
begins_stretch _ = false

-- a word of frame data is written
abbrev pub adds_frame_word : Asked → Bool
adds_frame_word (AddsWord w) = true
adds_frame_word _ = false

-- a copy is asked
abbrev pub asks_copy : Asked → Bool
asks_copy CopiesSource = true
asks_copy _ = false

-- frame data is read
abbrev pub asks_frame_read : Asked → Bool
asks_frame_read (Reads count) = true
asks_frame_read _ = false

-- ---- the flow

-- FAR as read, of a flow
abbrev pub far_in : PartData → Flow → ℕ
far_in part f = far_of part f.base f.run f.given

-- the flow after what an access asks; words are given only from an address
abbrev pub flow_by : PartData → Asked → Flow → Flow
flow_by part (LoadsFar w) f = begun_at (loaded_base part w) f
flow_by part (Commands c) f = begun_by part c f
flow_by part (AddsWord w) f = record f { run = w ∷ f.run }
flow_by part (Reads count) f = record f { given = if is_frame_address part f.base then f.given + count else f.given }
flow_by part _ f = f

-- the flow of a history
unfoldable pub flow_of : PartData → History → Flow
flow_of part [] = first_flow
flow_of part (e ∷ h) = flow_by part (asked_after part.idcode h e.access) (flow_of part h)

-- the address at which the run or readback of a history began
abbrev pub base_of : PartData → History → ℕ
base_of part h = (flow_of part h).base

-- the words of the run of a history, the newest first
abbrev pub run_of : PartData → History → List ℕ
run_of part h = (flow_of part h).run

-- the frame that copies put after a history, none without a source
abbrev pub source_of : PartData → History → Option (List ℕ)
source_of part h = (flow_of part h).source

-- how many words the readback of a history gave
abbrev pub count_given : PartData → History → ℕ
count_given part h = (flow_of part h).given

-- the run or readback of a history begins at an address
abbrev pub HasAddress : PartData → History → Type 0
HasAddress part h = is_frame_address part (base_of part h) ≡ true

-- FAR as read after a history
abbrev pub far_read : PartData → History → ℕ
far_read part h = far_in part (flow_of part h)

-- ---- faults

-- the fault by which what is asked is refused, where it is; a read of no words never is
abbrev pub fault_by : PartData → Asked → Flow → Option RunFault
fault_by part (AddsWord w) f = write_fault part f.base f.run
fault_by part CopiesSource f = copy_fault part f.command f.base f.source
fault_by part (Reads count) f = if count == 0 then None else address_fault part f.base
fault_by part _ f = None

-- the fault of an access after a history, none where it isn't refused
abbrev pub frame_fault : PartData → History → Access → Option RunFault
frame_fault part h access = fault_by part (asked_after part.idcode h access) (flow_of part h)
