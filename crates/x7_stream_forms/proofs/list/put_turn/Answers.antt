use Rattle.std.proofs.Common.{sym, ◌∙◌}
use Rattle.x7_stream_forms.proofs.AheadLemmas.{longer_prefix, same_now}
use Rattle.x7_forms.proofs.ResultLemmas.{from_ok}
use Rattle.x7_stream_forms.proofs.TurnLemmas.{lists_prefix, lists_more, lists_part}
use Rattle.x7_stream_forms.proofs.list.put_turn.Goals as goal

pub returns-then-is_err-clause-prefix : goal.returns-then-is_err-clause-prefix
returns-then-is_err-clause-prefix g c = λ first bytes rest lists fits.
    lists_prefix c.args.lister.now first (g.O.Sink.state c.args.out.now).written bytes _ lists fits

pub returns-then-is_err-2-clause-prefix : goal.returns-then-is_err-2-clause-prefix
returns-then-is_err-2-clause-prefix g c = λ first bytes rest lists fits.
    let feeds = from_ok c.feed.result (sym c.is_err.ensures.value ∙ c.if-is_err.false) c.feed.ensures.stands in
    lists_part c.args.lister.now c.feed.new.self first (g.O.Sink.state c.args.out.now).written (g.O.Sink.state c.write_all.new.sink).written bytes c.args.piece.now rest c.text.result.now lists feeds c.text.ensures c.write_all.ensures.prefix fits

pub returns-clause-listed : goal.returns-clause-listed
returns-clause-listed g c = λ first bytes lists.
    let feeds = from_ok c.feed.result (sym c.is_err.ensures.value ∙ c.if-is_err.false) c.feed.ensures.stands in
    let put = from_ok c.write_all.result (sym c.is_err-2.ensures.value ∙ c.if-is_err-2.false) c.write_all.ensures.appends in
    lists_more c.args.lister.now c.feed.new.self c.clear_text.new.self first (g.O.Sink.state c.args.out.now).written (g.O.Sink.state c.write_all.new.sink).written bytes c.args.piece.now c.text.result.now lists feeds c.text.ensures put c.clear_text.ensures.cleared c.clear_text.ensures.given

pub returns-then-is_err-clause-extends : goal.returns-then-is_err-clause-extends
returns-then-is_err-clause-extends g c = same_now (g.O.Sink.state c.args.out.now)

pub returns-then-is_err-2-clause-extends : goal.returns-then-is_err-2-clause-extends
returns-then-is_err-2-clause-extends g c = longer_prefix (g.O.Sink.state c.args.out.now).written (g.O.Sink.state c.write_all.new.sink).written _ c.write_all.ensures.prefix

pub returns-clause-extends : goal.returns-clause-extends
returns-clause-extends g c = longer_prefix (g.O.Sink.state c.args.out.now).written (g.O.Sink.state c.write_all.new.sink).written _ c.write_all.ensures.prefix

pub returns-clause-no_fault : goal.returns-clause-no_fault
returns-clause-no_fault g c = from_ok c.write_all.result (sym c.is_err-2.ensures.value ∙ c.if-is_err-2.false) c.write_all.ensures.no_fault
