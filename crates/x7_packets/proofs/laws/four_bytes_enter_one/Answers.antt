use Rattle.x7_packets.proofs.OnceLemmas.{enter_once}
use Rattle.x7_packets.proofs.laws.four_bytes_enter_one.Goals as goal

pub returns : goal.returns
returns c = enter_once
