use Rattle.x7_engine.proofs.TimeoutLemmas.{fires_by_bytes}
use Rattle.x7_engine.proofs.laws.watchdog_fires.Goals as goal

pub returns : goal.returns
returns c = fires_by_bytes
