use Rattle.std.proofs.Common.{ℕ, List, ◌++◌, ◌-◌, ◌<◌, length, take, drop, refl, sym, ap, subst, arith}
use Rattle.std.proofs.lemmas.Bool.{false≢true}
use Rattle.x7_crc.specs.Checker.{HasTaken}
use Rattle.x7_planner.specs.FullStreamPieces.{FullStreamState, HasGiven, WritesPiece, puts_left}
use Rattle.x7_planner.proofs.FullStreamPiecesLemmas.{given_more}
use Rattle.x7_planner.proofs.full_stream.FullStream.put_next.Goals as goal

pub returns : goal.returns
returns c =
    let s : FullStreamState = record { part = c.self.inside.part.now; plan = c.self.inside.plan.now; next_piece = c.self.inside.next_piece; checker = c.self.inside.checker } in
    let t : FullStreamState = record { part = c.self.inside.part.now; plan = c.self.inside.plan.now; next_piece = c.in-Ok.next_piece; checker = c.take.new.self } in
    let wrote : WritesPiece s c.args.out.now.items c.append_piece.new.out.items c.in-Ok.next_piece = subst (λ x. WritesPiece x c.args.out.now.items c.append_piece.new.out.items c.in-Ok.next_piece) (sym c.self.view_is) c.in-Ok.ensures.writes in
    let less : puts_left t < puts_left s = wrote.fewer c.in_default.not-Nothing in
    record {
      more = λ given h _. given_more s t given c.args.out.now.items c.append_piece.new.out.items c.len-start.result refl refl (omega (arith, c.len-start.ensures, c.args.out.now.ok.0)) wrote
          (λ bytes k. subst (λ (x : List ℕ). HasTaken c.take.new.self (bytes ++ take (length x - c.len-start.result) (drop c.len-start.result x))) c.deref.ensures.value (c.take.ensures bytes k)) (subst (λ x. HasGiven x given) (sym c.self.view_is) h);
      fewer = λ _. subst (λ x. puts_left t < puts_left x) c.self.view_is less;
      end = λ given h e. absurd (false≢true (sym e));
      appends_nothing = λ e. absurd (false≢true (sym e));
      stays_ended = λ e. absurd (false≢true (sym e));
      part = ap (λ x. x.part) c.self.view_is;
      plan = ap (λ x. x.plan) c.self.view_is;
      most = omega (arith, c.in-Ok.ensures.within.within);
      same_piece_next = tt;
      unchanged = tt;
      room = omega (arith, c.append_piece.ensures.within.room);
      no_room = tt;
    }
