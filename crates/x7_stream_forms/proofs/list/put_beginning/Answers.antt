use Rattle.std.proofs.Common.{[], sym, ◌∙◌}
use Rattle.std.proofs.lemmas.Result.{on_ok_weaker}
use Rattle.x7_words.specs.Sink.{appended}
use Rattle.x7_forms.proofs.ResultLemmas.{err_weaker, from_ok}
use Rattle.x7_stream_forms.proofs.TurnLemmas.{begins_after, line_prefix}
use Rattle.x7_stream_forms.proofs.list.put_beginning.Goals as goal
use Rattle.x7_words.proofs.SinkLemmas.{begins_more}

pub returns-then-is_err-clause-prefix : goal.returns-then-is_err-clause-prefix
returns-then-is_err-clause-prefix g c = λ rest fits. begins_more (g.O.Sink.state c.args.out.now).written (g.O.Sink.state c.write_all.new.sink).written c.args.line.now _ c.write_all.ensures.prefix

pub returns-clause-listed : goal.returns-clause-listed
returns-clause-listed g c =
    let old = (g.O.Sink.state c.args.out.now).written in
    let mid = (g.O.Sink.state c.write_all.new.sink).written in
    let put = from_ok c.write_all.result (sym c.is_err.ensures.value ∙ c.if-is_err.false) c.write_all.ensures.appends in
    on_ok_weaker c.put_turn.result (λ h. h (appended old c.args.line.now) [] (begins_after c.args.lister.now old mid c.args.line.now c.requires.nothing_listed c.requires.clear put)) c.put_turn.ensures.listed

pub returns-clause-prefix : goal.returns-clause-prefix
returns-clause-prefix g c =
    let old = (g.O.Sink.state c.args.out.now).written in
    let mid = (g.O.Sink.state c.write_all.new.sink).written in
    let put = from_ok c.write_all.result (sym c.is_err.ensures.value ∙ c.if-is_err.false) c.write_all.ensures.appends in
    err_weaker c.put_turn.result (λ r p rest fits. line_prefix old (g.O.Sink.state c.put_turn.new.out).written c.args.line.now _
    (p (appended old c.args.line.now) [] rest (begins_after c.args.lister.now old mid c.args.line.now c.requires.nothing_listed c.requires.clear put) fits)) c.put_turn.ensures.prefix

pub returns-clause-no_fault : goal.returns-clause-no_fault
returns-clause-no_fault g c =
    let put = from_ok c.write_all.result (sym c.is_err.ensures.value ∙ c.if-is_err.false) c.write_all.ensures.no_fault in
    on_ok_weaker c.put_turn.result (λ same. same ∙ put) c.put_turn.ensures.no_fault
