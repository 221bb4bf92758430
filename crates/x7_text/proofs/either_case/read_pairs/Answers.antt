use Rattle.std.proofs.Common.{length}
use Rattle.x7_text.proofs.DecodeLemmas.{decoded}
use Rattle.x7_text.proofs.either_case.read_pairs.Goals as goal

pub returns-clause-value : goal.returns-clause-value
returns-clause-value c = decoded c.args.digits.now c.decode_to_slice.new.out (length c.args.bytes.now) c.is_ok.result c.decode_to_slice.result c.requires c.decode_to_slice.ensures.value c.is_ok.ensures.value
