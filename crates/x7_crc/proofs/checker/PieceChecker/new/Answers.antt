use Rattle.std.proofs.Common.{[], refl, sym}
use Rattle.x7_packets.specs.Reading.{Searching}
use Rattle.x7_crc.proofs.CheckerLemmas.{check_none}
use Rattle.x7_crc.proofs.checker.PieceChecker.new.Goals as goal

pub returns : goal.returns
returns c = record { sessions = []; place = Searching []; stands = c.new.ensures; state = record { check_is = sym check_none; held_is = refl } }
