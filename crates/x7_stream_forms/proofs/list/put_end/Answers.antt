use Rattle.std.proofs.Common.{sym, ◌∙◌}
use Rattle.x7_stream_forms.proofs.AheadLemmas.{longer_prefix, same_now}
use Rattle.x7_stream_forms.proofs.TurnLemmas.{end_part, end_put, lists_here}
use Rattle.x7_forms.proofs.ResultLemmas.{from_ok}
use Rattle.x7_stream_forms.proofs.list.put_end.Goals as goal

pub returns-then-is_err-clause-prefix : goal.returns-then-is_err-clause-prefix
returns-then-is_err-clause-prefix g c = λ first bytes lists.
    lists_here c.args.lister.now first (g.O.Sink.state c.args.out.now).written bytes lists

pub returns-clause-listed : goal.returns-clause-listed
returns-clause-listed g c = λ first bytes lists.
    let ends = from_ok c.finish.result (sym c.is_err.ensures.value ∙ c.if-is_err.false) c.finish.ensures.finished in
    let put = from_ok c.write_all.result (sym c.is_err-2.ensures.value ∙ c.if-is_err-2.false) c.write_all.ensures.appends in
    end_put c.args.lister.now c.finish.new.self first (g.O.Sink.state c.args.out.now).written (g.O.Sink.state c.write_all.new.sink).written bytes c.text.result.now lists ends c.text.ensures put

pub returns-then-is_err-2-clause-prefix : goal.returns-then-is_err-2-clause-prefix
returns-then-is_err-2-clause-prefix g c = λ first bytes lists.
    let ends = from_ok c.finish.result (sym c.is_err.ensures.value ∙ c.if-is_err.false) c.finish.ensures.finished in
    end_part c.args.lister.now c.finish.new.self first (g.O.Sink.state c.args.out.now).written (g.O.Sink.state c.write_all.new.sink).written bytes c.text.result.now lists ends c.text.ensures c.write_all.ensures.prefix

pub returns-then-is_err-clause-extends : goal.returns-then-is_err-clause-extends
returns-then-is_err-clause-extends g c = same_now (g.O.Sink.state c.args.out.now)

pub returns-clause-extends : goal.returns-clause-extends
returns-clause-extends g c = longer_prefix (g.O.Sink.state c.args.out.now).written (g.O.Sink.state c.write_all.new.sink).written _ c.write_all.ensures.prefix

pub returns-then-is_err-2-clause-extends : goal.returns-then-is_err-2-clause-extends
returns-then-is_err-2-clause-extends g c = longer_prefix (g.O.Sink.state c.args.out.now).written (g.O.Sink.state c.write_all.new.sink).written _ c.write_all.ensures.prefix

pub returns-clause-no_fault : goal.returns-clause-no_fault
returns-clause-no_fault g c = from_ok c.write_all.result (sym c.is_err-2.ensures.value ∙ c.if-is_err-2.false) c.write_all.ensures.no_fault
