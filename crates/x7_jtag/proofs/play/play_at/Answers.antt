use Rattle.std.proofs.Common.{◌≤◌, length}
use Rattle.x7_svf.specs.declared.statement.Statement.{Statement}
use Rattle.x7_jtag.specs.Clocks.{clocks_of}
use Rattle.x7_jtag.specs.Play.{FindsBit, difference, statement_limit}
use Rattle.x7_jtag.specs.Tap.{MakesClocks}
use Rattle.x7_jtag.specs.declared.state.State.{State}
use Rattle.x7_jtag.proofs.PlayLemmas.{none_found, of_found}
use Rattle.x7_jtag.proofs.play.play_at.Goals as goal

pub returns-in-Some-clause-clocks : goal.returns-in-Some-clause-clocks
returns-in-Some-clause-clocks c = λ x e.
    of_found (λ (s : Statement). MakesClocks c.args.tap.now c.args.device.now c.play_statement.new.tap c.play_statement.new.device (λ p. clocks_of p.state s)) _ c.args.svf.now c.args.index _ x c.statement.ensures c.in-Some.is e c.play_statement.ensures.clocks

pub returns-in-Some-clause-most : goal.returns-in-Some-clause-most
returns-in-Some-clause-most c = λ x e. of_found (λ (s : Statement). (t : State) → length (clocks_of t s) ≤ statement_limit) _ c.args.svf.now c.args.index _ x c.statement.ensures c.in-Some.is e c.play_statement.ensures.most

pub returns-in-Some-clause-found : goal.returns-in-Some-clause-found
returns-in-Some-clause-found c = λ x e.
    of_found (λ (s : Statement). FindsBit c.args.tap.now c.args.device.now (λ part p. difference part p s) c.play_statement.result) _ c.args.svf.now c.args.index _ x c.statement.ensures c.in-Some.is e c.play_statement.ensures.found

pub returns-in-None : goal.returns-in-None
returns-in-None c = record {
  clocks = λ x e. none_found c.statement.result c.args.svf.now c.args.index x c.statement.ensures c.in-None.is e;
  most = λ x e. none_found c.statement.result c.args.svf.now c.args.index x c.statement.ensures c.in-None.is e;
  found = λ x e. none_found c.statement.result c.args.svf.now c.args.index x c.statement.ensures c.in-None.is e;
}
