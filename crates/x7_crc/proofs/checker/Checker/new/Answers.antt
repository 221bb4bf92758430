use Rattle.std.proofs.Common.{arith}
use Rattle.x7_crc.proofs.checker.Checker.new.Goals as goal

pub returns : goal.returns
returns c = record { within = omega arith; checks = c.new.ensures }
