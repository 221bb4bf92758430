-- What a flow of a history always has (this project's choice).
use Rattle.std.specs.Prelude.{◌≡◌, false, [], None}
use Rattle.x7_part.specs.Part.{PartData}
use Rattle.x7_regs.specs.Command.{command_with}
use Rattle.x7_pipeline.specs.FarAsRead.{is_frame_address}
use Rattle.x7_pipeline.specs.Copies.{is_mfw, is_wcfg}
use Rattle.x7_flow.specs.Settings.{Settings}
use Rattle.x7_flow.specs.HistoryFlow.{Flow}

-- a flow is sound under settings: its command is the one that CMD holds, only WCFG has a run, only MFW a source, and
-- only an address gives words
pub record IsSound (part : PartData) (s : Settings) (f : Flow) : Type 0 where
  pub command_is : f.command ≡ command_with s.command_code
  pub idle : is_wcfg f.command ≡ false → f.run ≡ []
  pub sourceless : is_mfw f.command ≡ false → f.source ≡ None
  pub nowhere : is_frame_address part f.base ≡ false → f.given ≡ 0
