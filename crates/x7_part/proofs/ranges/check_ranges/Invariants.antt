use Rattle.std.proofs.Common.{◌≡◌, drop}
use Rattle.x7_part.specs.PartChecks.{ranges_fault}
use Rattle.x7_part.proofs.ranges.check_ranges.Given as goal

abbrev pub invariant-loop-test : goal.invariant-loop-test
invariant-loop-test l = ranges_fault l.row (drop l.test-index l.tests) ≡ ranges_fault l.row l.tests
