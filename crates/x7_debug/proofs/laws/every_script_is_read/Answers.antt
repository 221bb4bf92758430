use Rattle.x7_debug.proofs.EveryScriptLemmas.{has_script}
use Rattle.x7_debug.proofs.laws.every_script_is_read.Goals as goal

pub returns : goal.returns
returns c = has_script
