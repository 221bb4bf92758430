use Rattle.std.proofs.Common.{◌≤◌, List, ℕ, ap, subst, sym, ◌∙◌}
use Rattle.x7_debug.specs.Journal.{MoveCosts}
use Rattle.x7_debug.specs.SessionFields.{session_of}
use Rattle.x7_debug.specs.Moving.{MayMove}
use Rattle.x7_debug.specs.Position.{last_of}
use Rattle.x7_debug.specs.Session.{SessionState}
use Rattle.x7_debug.proofs.session.Session.move_to.Goals as goal

pub move_to-requires : goal.move_to-requires
move_to-requires c =
    subst (λ (b : List ℕ). MayMove b c.self.inside.device c.self.inside.journal c.args.to) (sym c.deref.ensures.value)
    (record { on = c.self.invariant.on; within = subst (λ (s : SessionState). c.args.to ≤ last_of s.part s.stream) (sym c.self.view_is) c.requires })

pub returns : goal.returns
returns c =
    let there = c.move_to.ensures.at_position in
    let goes : MoveCosts (session_of c.self.inside.device c.self.inside.stream.items c.self.inside.journal) (session_of c.move_to.new.device c.self.inside.stream.items c.move_to.new.journal) =
    subst (λ (b : List ℕ). MoveCosts (session_of c.self.inside.device b c.self.inside.journal) (session_of c.move_to.new.device b c.move_to.new.journal)) c.deref.ensures.value c.move_to.ensures.costs in
    record {
      moves = record {
        there = record { part = there.part ∙ ap (λ (s : SessionState). s.part) c.self.view_is; stream = ap (λ (s : SessionState). s.stream) c.self.view_is; at = there.taken };
        costs = subst (λ (s : SessionState). MoveCosts s (session_of c.move_to.new.device c.self.inside.stream.items c.move_to.new.journal)) c.self.view_is goes;
      };
    }
