use Rattle.x7_packets.proofs.SearchLemmas.{stands_after}
use Rattle.x7_packets.proofs.sync.Matcher.after.Goals as goal

pub returns : goal.returns
returns c = λ gap. stands_after gap c.args.bytes.now c.requires
