use Rattle.std.proofs.Common.{ap, ◌∙◌}
use Rattle.std.proofs.lemmas.Result.{on_ok_weaker}
use Rattle.x7_report.specs.Frames.{lines_of_ranks}
use Rattle.x7_report.specs.Reports.{PlayTextState}
use Rattle.x7_report.proofs.LinesLemmas.{report_began, report_failed, report_whole}
use Rattle.x7_report.proofs.streamed.PlayText.write.Goals as goal

pub returns-in_err-write_all-clause-prefix : goal.returns-in_err-write_all-clause-prefix
returns-in_err-write_all-clause-prefix g c =
    let s = g.S.Sink in
    report_began (s.state c.args.out.now).written (s.state c.write_all.new.sink).written c.deref.result.now c.self.inside.head.items
    (lines_of_ranks c.self.inside.device.part c.self.inside.device.registers.frames.memory c.self.inside.ranks.items) c.args.self.now.text c.deref.ensures.value (ap (λ (a : PlayTextState). a.text) c.self.view_is) c.in_err-write_all.ensures.prefix

pub returns-clause-whole : goal.returns-clause-whole
returns-clause-whole g c =
    let s = g.S.Sink in
    on_ok_weaker c.write_lines.result (λ put. report_whole (s.state c.args.out.now).written (s.state c.write_all.new.sink).written (s.state c.write_lines.new.out).written c.part.result.now c.self.inside.device.part c.memory.result.now c.self.inside.device.registers.frames.memory
    c.deref.result.now c.self.inside.head.items c.deref-2.result.now c.self.inside.ranks.items c.args.self.now.text c.part.ensures.stored c.memory.ensures.stored c.deref.ensures.value c.deref-2.ensures.value
    (ap (λ (a : PlayTextState). a.text) c.self.view_is) c.in_ok-write_all.ensures.appends put) c.write_lines.ensures.whole

pub returns-clause-prefix : goal.returns-clause-prefix
returns-clause-prefix g c =
    let s = g.S.Sink in
    report_failed (s.state c.args.out.now).written (s.state c.write_all.new.sink).written (s.state c.write_lines.new.out).written c.part.result.now c.self.inside.device.part c.memory.result.now c.self.inside.device.registers.frames.memory
    c.deref.result.now c.self.inside.head.items c.deref-2.result.now c.self.inside.ranks.items c.args.self.now.text c.part.ensures.stored c.memory.ensures.stored c.deref.ensures.value c.deref-2.ensures.value
    (ap (λ (a : PlayTextState). a.text) c.self.view_is) c.in_ok-write_all.ensures.appends c.write_lines.ensures.prefix

pub returns-clause-no_fault : goal.returns-clause-no_fault
returns-clause-no_fault g c = on_ok_weaker c.write_lines.result (λ same. same ∙ c.in_ok-write_all.ensures.no_fault) c.write_lines.ensures.no_fault
