use Rattle.std.proofs.Common.{◌≡◌, ◌-◌, ◌++◌, ℕ, true, false, List, length, Option, sym, ap, subst, ◌∙◌, append_assoc, arith}
use Rattle.std.specs.Option.{is_some}
use Rattle.x7_packets.specs.Cutter.{CutterState, between, calls_left}
use Rattle.x7_engine.specs.declared.stop.StopCause.{StopCause}
use Rattle.x7_engine.specs.Standing.{DeviceStandsFor, reads_given}
use Rattle.x7_engine.specs.Turns.{TurnTakes}
use Rattle.x7_engine.specs.UntilStarted.{CommandsLast}
use Rattle.x7_engine.proofs.PassLemmas.{between_join}
use Rattle.x7_engine.proofs.UntilLemmas.{then_commands}
use Rattle.x7_engine.proofs.device.Device.take_next.Goals as goal

-- the bytes of the no-ops, and then those of the run
joined : (c : goal.After-take_run) (bytes : List ℕ)
    → (bytes ++ between c.args.piece.now c.args.at.now c.pass_nops.new.at) ++ between c.args.piece.now c.pass_nops.new.at c.take_run.new.at ≡ bytes ++ between c.args.piece.now c.args.at.now c.take_run.new.at
joined c bytes =
    append_assoc bytes (between c.args.piece.now c.args.at.now c.pass_nops.new.at) (between c.args.piece.now c.pass_nops.new.at c.take_run.new.at)
    ∙ ap (λ (t : List ℕ). bytes ++ t) (between_join c.args.piece.now c.args.at.now c.pass_nops.new.at c.take_run.new.at c.pass_nops.ensures.turned.forward c.take_run.ensures.turned.forward)

turn_taken : (c : goal.After-take_run) → TurnTakes c.args.self.now c.take_run.new.self (between c.args.piece.now c.args.at.now c.take_run.new.at)
turn_taken c =
    let nops : List ℕ = between c.args.piece.now c.args.at.now c.pass_nops.new.at in
    let run : List ℕ = between c.args.piece.now c.pass_nops.new.at c.take_run.new.at in
    record {
      part = c.take_run.ensures.turned.turn.part ∙ c.pass_nops.ensures.turned.turn.part;
      takes = λ part kept wrapped bytes s.
          subst (λ (t : List ℕ). DeviceStandsFor part kept wrapped c.take_run.new.self t) (joined c bytes) (c.take_run.ensures.turned.turn.takes part kept wrapped (bytes ++ nops) (c.pass_nops.ensures.turned.turn.takes part kept wrapped bytes s));
      silent = λ part kept wrapped bytes s.
          ap (reads_given part kept c.take_run.new.self) (sym (joined c bytes))
          ∙ c.take_run.ensures.turned.turn.silent part kept wrapped (bytes ++ nops) (c.pass_nops.ensures.turned.turn.takes part kept wrapped bytes s)
          ∙ c.pass_nops.ensures.turned.turn.silent part kept wrapped bytes s;
      commands = λ part kept wrapped bytes s. (
          let stands = c.pass_nops.ensures.turned.turn.takes part kept wrapped bytes s in
          subst (CommandsLast bytes) (between_join c.args.piece.now c.args.at.now c.pass_nops.new.at c.take_run.new.at c.pass_nops.ensures.turned.forward c.take_run.ensures.turned.forward)
          (then_commands bytes nops run stands.fits (c.pass_nops.ensures.same_history part kept wrapped bytes s) (c.take_run.ensures.turned.turn.commands part kept wrapped (bytes ++ nops) stands)));
    }

pub returns-then-is_some : goal.returns-then-is_some
returns-then-is_some c = record {
  turned = c.pass_nops.ensures.turned;
  used_up = λ e. absurd cc;
  goes_on = λ e f. absurd (let both : true ≡ false = sym c.if-is_some.true ∙ c.is_some.ensures ∙ ap (λ (o : Option StopCause). is_some o) c.stop.ensures ∙ ap (λ (o : Option StopCause). is_some o) f in cc);
}

pub returns : goal.returns
returns c = record {
  turned = let nops = c.pass_nops.ensures.turned in let run = c.take_run.ensures.turned in record {
    forward = omega (arith, nops.forward, run.forward);
    within = run.within;
    taken = omega (arith, nops.forward, run.forward, nops.taken, run.taken);
    fed = omega (arith, nops.forward, run.forward, nops.fed, run.fed);
    turn = turn_taken c;
  };
  used_up = c.take_run.ensures.used_up;
  goes_on = λ e f. (
      let piece : ℕ = length c.args.piece.now in
      let nearer = c.take_run.ensures.goes_on e f in
      let same = ap (λ (k : CutterState). calls_left k (piece - c.pass_nops.new.at)) c.pass_nops.ensures.cutter in
      omega (arith, nearer, same, c.pass_nops.ensures.turned.forward));
}
