use Rattle.std.proofs.Common.{◌≡◌, ◌-◌, ◌<◌, suc, ℕ, length, take, ap, sym, ◌∙◌, arith}
use Rattle.x7_debug.specs.Journal.{JournalState, oldest_by, records_of}
use Rattle.x7_debug.proofs.JournalLemmas.{oldest_is, some_there}
use Rattle.x7_debug.proofs.journal.Journal.oldest.Goals as goal

pub returns-in-Some : goal.returns-in-Some
returns-in-Some c =
    let count : suc (c.self.inside.count - 1) ≡ c.self.inside.count = omega (arith, c.if-self-eq0.false) in
    c.taken.ensures
    ∙ oldest_is c.args.at c.self.inside.records.items (c.self.inside.count - 1) c.in-Some.undo.now c.in-Some.ensures
    ∙ ap (λ (n : ℕ). oldest_by c.args.at (take n c.self.inside.records.items)) count
    ∙ ap (λ (j : JournalState). oldest_by c.args.at (records_of j)) c.self.view_is

pub returns-in-None : goal.returns-in-None
returns-in-None c =
    let inside : c.self.inside.count - 1 < length c.self.inside.records.items = omega (arith, c.if-self-eq0.false, c.self.invariant.0, c.self.invariant.2) in
    absurd (some_there c.self.inside.records.items (c.self.inside.count - 1) inside (sym c.in-None.ensures))
