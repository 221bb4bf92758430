use Rattle.std.proofs.Common.{[], refl, sym, ◌∙◌}
use Rattle.x7_packets.specs.Reading.{Searching}
use Rattle.x7_packets.proofs.StreamLemmas.{first_of, searches, starts}
use Rattle.x7_packets.proofs.stream.Packets.new.Goals as goal

pub returns-clause-stands : goal.returns-clause-stands
returns-clause-stands c = starts _ c.args.first.now c.new-cutter.ensures (sym c.kept-tail.ensures.kept ∙ c.kept-tail.ensures.tail [] [] (Searching []) c.new-cutter.ensures) (first_of _ c.args.first.now c.in_ok-buffer.ensures.items) refl refl

pub returns-clause-fresh : goal.returns-clause-fresh
returns-clause-fresh c = (refl, refl, searches _ c.new-cutter.ensures)
