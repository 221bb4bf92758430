use Rattle.std.proofs.Common.{List, ℕ, length, refl, subst, sym}
use Rattle.x7_crc.specs.Checker.{CheckerState, KeepsCheckOf}
use Rattle.x7_crc.proofs.CheckerLemmas.{caught_up}
use Rattle.x7_crc.proofs.checker.Checker.check_of.Goals as goal

pub returns : goal.returns
returns c =
    let bytes : List ℕ = c.args.bytes.now in
    let before : CheckerState = record { pieces = c.self.inside.pieces; taken = c.self.inside.taken } in
    let after : CheckerState = record { pieces = c.take.new.self; taken = length c.args.bytes.now } in
    let all = caught_up before after bytes refl (subst (λ s. KeepsCheckOf s bytes) (sym c.self.view_is) c.requires) c.take.ensures in
    record { check = c.check.ensures.value bytes all.0; keeps = all.1 }
