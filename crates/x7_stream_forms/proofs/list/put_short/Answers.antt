use Rattle.std.proofs.Common.{List, ℕ, [], ◌++◌, sym, ap, subst, append-nil, ◌∙◌}
use Rattle.x7_words.specs.Sink.{PutsPrefix, appended}
use Rattle.x7_forms.proofs.ResultLemmas.{from_ok}
use Rattle.x7_stream_forms.proofs.TurnLemmas.{whole_text}
use Rattle.x7_stream_forms.proofs.list.put_short.Goals as goal

pub returns-clause-listed : goal.returns-clause-listed
returns-clause-listed g c =
    let feeds = from_ok c.feed.result (sym c.is_err.ensures.value ∙ c.if-is_err.false) c.feed.ensures.stands in
    let ends = from_ok c.finish.result (sym c.is_err-2.ensures.value ∙ c.if-is_err-2.false) c.finish.ensures.finished in
    let text = whole_text c.args.lister.now c.feed.new.self c.finish.new.self c.args.content.now c.text.result.now c.requires.nothing_listed feeds ends c.text.ensures in
    let put = from_ok c.write_pieces.result (sym c.is_err-3.ensures.value ∙ c.if-is_err-3.false) c.write_pieces.ensures.appends in
    put ∙ ap (λ (t : List ℕ). appended (g.O.Sink.state c.args.out.now).written (c.args.line.now ++ t)) (append-nil c.text.result.now ∙ text)

pub returns-then-is_err-3-clause-prefix : goal.returns-then-is_err-3-clause-prefix
returns-then-is_err-3-clause-prefix g c =
    let feeds = from_ok c.feed.result (sym c.is_err.ensures.value ∙ c.if-is_err.false) c.feed.ensures.stands in
    let ends = from_ok c.finish.result (sym c.is_err-2.ensures.value ∙ c.if-is_err-2.false) c.finish.ensures.finished in
    let text = whole_text c.args.lister.now c.feed.new.self c.finish.new.self c.args.content.now c.text.result.now c.requires.nothing_listed feeds ends c.text.ensures in
    let old = g.O.Sink.state c.args.out.now in
    let new = g.O.Sink.state c.write_pieces.new.sink in
    let put : PutsPrefix old.written (c.args.line.now ++ (c.text.result.now ++ [])) new.written = c.write_pieces.ensures.prefix in
    subst (λ (t : List ℕ). PutsPrefix old.written (c.args.line.now ++ t) new.written) (append-nil c.text.result.now ∙ text) put

pub returns-clause-no_fault : goal.returns-clause-no_fault
returns-clause-no_fault g c = from_ok c.write_pieces.result (sym c.is_err-3.ensures.value ∙ c.if-is_err-3.false) c.write_pieces.ensures.no_fault
