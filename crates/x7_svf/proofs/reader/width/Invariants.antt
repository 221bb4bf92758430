use Rattle.std.proofs.Common.{◌≡◌, true, length}
use Rattle.x7_svf.specs.Fields.{are_hex, hex_value}
use Rattle.x7_svf.proofs.reader.width.Given as goal

abbrev pub invariant-loop-rest : goal.invariant-loop-rest
invariant-loop-rest l = record {
  value : hex_value l.digits ≡ hex_value l.rest;
  hex : are_hex l.rest ≡ true;
}

abbrev pub decreases-loop-rest : goal.decreases-loop-rest
decreases-loop-rest l = length l.rest
