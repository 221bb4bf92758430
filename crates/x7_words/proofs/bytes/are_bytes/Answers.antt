use Rattle.std.proofs.Common.{◌<◌, arith}
use Rattle.x7_words.proofs.ListLemmas.{all_from_places}
use Rattle.x7_words.proofs.bytes.are_bytes.Goals as goal

pub returns : goal.returns
returns c = all_from_places (λ b. b < 256) c.args.bytes.now (λ k h. omega (arith, c.type_inv.bytes k))
