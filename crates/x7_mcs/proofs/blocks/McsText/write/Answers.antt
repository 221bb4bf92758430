use Rattle.std.proofs.Common.{sym, ◌∙◌}
use Rattle.std.proofs.lemmas.Result.{on_ok_weaker}
use Rattle.x7_mcs.proofs.BlockLemmas.{text_begun, text_failed, text_put}
use Rattle.x7_mcs.proofs.blocks.McsText.write.Goals as goal

pub returns-in_err-write_rows-clause-prefix : goal.returns-in_err-write_rows-clause-prefix
returns-in_err-write_rows-clause-prefix g c =
    let s = g.S.Sink in
    text_begun (s.state c.args.out.now).written (s.state c.write_rows.new.out).written c.args.self.now c.deref.result.now (sym c.self.view_is ∙ sym c.deref.ensures.value) c.in_err-write_rows.ensures.prefix

pub returns-clause-whole : goal.returns-clause-whole
returns-clause-whole g c =
    let s = g.S.Sink in
    text_put c.write_all.result (s.state c.args.out.now).written (s.state c.write_rows.new.out).written (s.state c.write_all.new.sink).written c.args.self.now c.deref.result.now (sym c.self.view_is ∙ sym c.deref.ensures.value) c.in_ok-write_rows.ensures.whole c.write_all.ensures.appends

pub returns-clause-prefix : goal.returns-clause-prefix
returns-clause-prefix g c =
    let s = g.S.Sink in
    text_failed (s.state c.args.out.now).written (s.state c.write_rows.new.out).written (s.state c.write_all.new.sink).written c.args.self.now c.deref.result.now (sym c.self.view_is ∙ sym c.deref.ensures.value) c.in_ok-write_rows.ensures.whole c.write_all.ensures.prefix

pub returns-clause-no_fault : goal.returns-clause-no_fault
returns-clause-no_fault g c = on_ok_weaker c.write_all.result (λ same. same ∙ c.in_ok-write_rows.ensures.no_fault) c.write_all.ensures.no_fault
