use Rattle.std.proofs.Common.{refl, subst, List, ℕ, length, ◌+◌, ◌≤◌, sym, ◌∙◌}
use Rattle.x7_packets.specs.Cutter.{CutsRun, between}
use Rattle.x7_packets.proofs.StreamLemmas.{cuts_whole, left_after, taken_of, within_piece}
use Rattle.x7_packets.proofs.stream.Packets.cut_next.Goals as goal

pub returns-in-Some : goal.returns-in-Some
returns-in-Some c =
    let e = c.cut.ensures in
    let i = c.self.inside in
    let piece = between c.deref.result.now i.at i.end in
    let within : i.at + c.cut.new.at ≤ i.end = within_piece i.buffer.items c.deref.result.now i.at i.end c.cut.new.at c.deref.ensures.value c.self.invariant.1 e.within in
    rw (← c.self.view_is) (record {
      run = c.cut.result;
      count = c.cut.new.at;
      cuts = subst (λ t. CutsRun i.cutter c.cut.new.self (between t i.at i.end) c.cut.new.at c.cut.result) c.deref.ensures.value (cuts_whole i.cutter c.cut.new.self piece c.cut.new.at c.cut.result e.nearer e.need e.joined e.run e.lent e.skips e.adds);
      kept = λ bytes sessions place stands. sym c.kept-tail.ensures.kept ∙ c.kept-tail.ensures.tail bytes sessions place stands;
      few = subst (λ (t : List ℕ). length t ≤ 3) c.kept-tail.ensures.kept c.kept-tail.ensures.most;
      left = left_after i.buffer.items i.at i.end c.cut.new.at within;
      bytes = taken_of i.buffer.items i.at i.end c.cut.new.at within;
      is = c.in-Some.ensures.found;
      done = refl;
      failed = refl;
      taken = refl;
    })

pub returns-in-None : goal.returns-in-None
returns-in-None c =
    let e = c.cut.ensures in
    let i = c.self.inside in
    let piece = between c.deref.result.now i.at i.end in
    let within : i.at + c.cut.new.at ≤ i.end = within_piece i.buffer.items c.deref.result.now i.at i.end c.cut.new.at c.deref.ensures.value c.self.invariant.1 e.within in
    rw (← c.self.view_is) (record {
      run = c.cut.result;
      count = c.cut.new.at;
      cuts = subst (λ t. CutsRun i.cutter c.cut.new.self (between t i.at i.end) c.cut.new.at c.cut.result) c.deref.ensures.value (cuts_whole i.cutter c.cut.new.self piece c.cut.new.at c.cut.result e.nearer e.need e.joined e.run e.lent e.skips e.adds);
      kept = λ bytes sessions place stands. sym c.kept-tail.ensures.kept ∙ c.kept-tail.ensures.tail bytes sessions place stands;
      few = subst (λ (t : List ℕ). length t ≤ 3) c.kept-tail.ensures.kept c.kept-tail.ensures.most;
      left = left_after i.buffer.items i.at i.end c.cut.new.at within;
      bytes = taken_of i.buffer.items i.at i.end c.cut.new.at within;
      is = c.in-None.ensures.need;
      done = refl;
      failed = refl;
      taken = refl;
    })
