use Rattle.std.proofs.Common.{[], ◌∙◌, ap, subst, sym}
use Rattle.x7_part.specs.Part.{frame_words}
use Rattle.std.proofs.lemmas.Result.{err_from_is_err_and}
use Rattle.x7_frames.specs.FramesText.{AreGood}
use Rattle.x7_frames.proofs.FrameLinesLemmas.{line_good, line_refused, line_wants}
use Rattle.x7_frames.proofs.frame_lines.FrameLinesTakesLines.take_last.Goals as goal

pub returns-clause-read : goal.returns-clause-read
returns-clause-read c = λ first lines gets text is.
    let new = c.take.new.self in
    let read = line_good first.part c.args.self lines c.args.line.now c.args.line_number gets.number gets.took new c.take.ensures.part c.in_ok-take.ensures.taken in
    record {
      rows = new.rows;
      good = subst (λ ls. AreGood first.part ls new.rows) (sym is) read.1;
      same = c.finish.ensures.same_rows;
      is_plan = c.finish.ensures.plan;
      width = c.finish.ensures.width ∙ ap frame_words read.0;
    }

pub returns-in_err-take-clause-read : goal.returns-in_err-take-clause-read
returns-in_err-take-clause-read c =
    let p = err_from_is_err_and c.from_residual.result c.from_residual.ensures.1 in
    rw (p.1, p.2) (λ first lines gets. line_refused first.part c.args.self lines c.args.line.now c.args.line_number gets.number gets.took c.in_err-take.field-0.0 c.in_err-take.ensures.fault [])

pub returns-in_err-take-clause-memory : goal.returns-in_err-take-clause-memory
returns-in_err-take-clause-memory c =
    let p = err_from_is_err_and c.from_residual.result c.from_residual.ensures.1 in
    rw (p.1, p.2) (λ first lines gets want. line_wants first.part c.args.self lines c.args.line.now c.args.line_number gets.number gets.took (c.in_err-take.ensures.memory want))
