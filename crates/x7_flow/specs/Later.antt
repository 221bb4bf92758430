-- A history that goes on from settings and a flow: what it makes of them, and the pairs that it puts, the newest first
-- (this project's choice).
use Rattle.std.specs.Prelude.{◌≡◌, ℕ, Bool, true, List, [], ◌∷◌, ◌++◌, Option, None}
use Rattle.x7_packets.specs.History.{History, Write, command_held, entry}
use Rattle.x7_part.specs.Part.{PartData}
use Rattle.x7_memory.specs.Plan.{PlanRow}
use Rattle.x7_regs.specs.declared.register.Reg.TheVariants as reg
use Rattle.x7_regs.specs.Register.{number_of}
use Rattle.x7_regs.specs.Command.{command_with}
use Rattle.x7_pipeline.specs.Copies.{is_mfw}
use Rattle.x7_pipeline.specs.FarAsRead.{loaded_base}
use Rattle.x7_pipeline.specs.Runs.{GetsPairs}
use Rattle.x7_flow.specs.Settings.{Settings, settings_from, settings_of, takes_frames}
use Rattle.x7_flow.specs.HistoryFlow.{Flow, asked_under, flow_by, flow_of, source_of}
use Rattle.x7_flow.specs.FrameMemory.{memory_of, pairs_put}

-- the flow of a history that goes on
unfoldable pub flow_from : PartData → Settings → Flow → History → Flow
flow_from part s f [] = f
flow_from part s f (e ∷ h) = flow_by part (asked_under (settings_from part.idcode s h) e.access) (flow_from part s f h)

-- the pairs that a history that goes on puts, the newest first
unfoldable pub pairs_from : PartData → Settings → Flow → History → List PlanRow
pairs_from part s f [] = []
pairs_from part s f (e ∷ h) = pairs_put part (asked_under (settings_from part.idcode s h) e.access) (flow_from part s f h) ++ pairs_from part s f h

-- the flow right after a FAR load: its command is the one that CMD holds, its base the word's, and only the source is
-- older
abbrev pub flow_loaded : PartData → Settings → Option (List ℕ) → ℕ → Flow
flow_loaded part s source w = record { command = command_with s.command_code; base = loaded_base part w; run = []; source = source; given = 0 }

-- the pairs of a history that goes on from a FAR load of this word
abbrev pub pairs_loaded : PartData → Settings → Option (List ℕ) → ℕ → History → List PlanRow
pairs_loaded part s source w later = pairs_from part s (flow_loaded part s source w) later

-- the pairs that a later history puts after an earlier one
abbrev pub pairs_after : PartData → History → History → List PlanRow
pairs_after part earlier later = pairs_from part (settings_of part.idcode earlier) (flow_of part earlier) later

-- a history, and then a word written to FAR at a place
abbrev pub after_load : ℕ → ℕ → History → History
after_load w place h = entry (Write (number_of reg.Far) w) place ∷ h

-- the pairs of a history that goes on from a FAR load after an earlier history
abbrev pub pairs_after_load : PartData → History → ℕ → History → List PlanRow
pairs_after_load part earlier w later = pairs_loaded part (settings_of part.idcode earlier) (source_of part earlier) w later

-- the pairs after a FAR load where the source of the earlier history doesn't count
abbrev pub pairs_alone : PartData → History → ℕ → History → List PlanRow
pairs_alone part earlier w later = pairs_loaded part (settings_of part.idcode earlier) None w later

-- the command that CMD holds is MFW
abbrev pub has_mfw : History → Bool
has_mfw h = is_mfw (command_with (command_held h))

-- what a history goes on from: a part, settings and a flow
pub record Start : Type 0 where
  pub part : PartData
  pub settings : Settings
  pub flow : Flow

-- the flow of a history that goes on from a start
abbrev pub flow_on : Start → History → Flow
flow_on x later = flow_from x.part x.settings x.flow later

-- the pairs that a history that goes on from a start puts, the newest first
abbrev pub pairs_on : Start → History → List PlanRow
pairs_on x later = pairs_from x.part x.settings x.flow later

-- what a later history goes on from, after one that went on
abbrev pub start_on : Start → History → Start
start_on x later = record { part = x.part; settings = settings_from x.part.idcode x.settings later; flow = flow_on x later }

-- after a history that goes on, words of FDRI begin a run
pub record BeginsRun (x : Start) (later : History) : Type 0 where
  pub takes : takes_frames (settings_from x.part.idcode x.settings later) ≡ true
  pub empty : (flow_on x later).run ≡ []

-- a history's memory is that of another with these pairs put over it
abbrev pub MemoryGets : PartData → History → History → List PlanRow → Type 0
MemoryGets part h earlier pairs = GetsPairs pairs (memory_of part earlier) (memory_of part h)
