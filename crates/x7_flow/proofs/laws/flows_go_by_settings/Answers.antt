use Rattle.x7_flow.proofs.SettingsLemmas.{settings_more}
use Rattle.x7_flow.proofs.FlowLemmas.{flow_sound, landed_grows}
use Rattle.x7_flow.proofs.laws.flows_go_by_settings.Goals as goal

pub returns-clause-sound : goal.returns-clause-sound
returns-clause-sound c = flow_sound

pub returns-clause-written_frames : goal.returns-clause-written_frames
returns-clause-written_frames c = landed_grows

pub returns-clause-settings : goal.returns-clause-settings
returns-clause-settings c = settings_more
