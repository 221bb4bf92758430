use Rattle.std.proofs.Common.{ℕ, List, ◌++◌, refl, sym, subst}
use Rattle.x7_packets.specs.Nops.{IdlesThrough}
use Rattle.x7_packets.proofs.AtOnceLemmas.{takes_nop}
use Rattle.x7_packets.proofs.NopLemmas.{idles_nops}
use Rattle.x7_packets.proofs.cutter.Cutter.nop_count.Goals as goal

pub returns-clause-takes_no_op : goal.returns-clause-takes_no_op
returns-clause-takes_no_op c = λ some.
    let here = c.if-not-is_at_header.ensures in
    takes_nop c.args.self.now (here.mode refl) (here.kept refl) (here.no_word_due refl)

pub returns-clause-idles : goal.returns-clause-idles
returns-clause-idles c = λ bytes sessions place s.
    let here = c.if-not-is_at_header.ensures in
    subst (λ (t : List ℕ). IdlesThrough c.args.self.now (bytes ++ t) sessions place) (sym c.count_equal.ensures.equal)
    (idles_nops c.count_equal.result c.args.self.now bytes sessions place (here.mode refl) (here.kept refl) (here.no_word_due refl) s)
