use Rattle.std.proofs.Common.{◌++◌, List, ℕ, false, Option, length, take, sym, ap, subst, ◌∙◌, refl}
use Rattle.x7_regs.specs.declared.boot_status.Cause.{Cause}
use Rattle.x7_engine.specs.ReadBuffer.{ReadBufState}
use Rattle.x7_engine.specs.State.{why_stopped, first_stop_of_bytes}
use Rattle.x7_engine.specs.Stop.{fault_of_stop}
use Rattle.x7_engine.specs.UntilStarted.{taken_until}
use Rattle.x7_engine.specs.Value.{failure_of}
use Rattle.x7_engine.specs.declared.fault.Fault.{Fault}
use Rattle.x7_engine.specs.declared.until_started.UntilStarted.{UntilStarted}
use Rattle.x7_boot.specs.Attempt.{TookPiece, past_in_flash}
use Rattle.x7_boot.specs.declared.attempt.AttemptStep.{AttemptStep}
use Rattle.x7_boot.proofs.TookLemmas.{page_took, ready_fits, step_until}
use Rattle.x7_boot.proofs.attempt.take_page.Goals as goal

pub feed_until_started-requires : goal.feed_until_started-requires
feed_until_started-requires c = ready_fits c.args.device.now (length c.args.page.now) c.requires

pub returns-in-Started : goal.returns-in-Started
returns-in-Started c = λ part kept bytes s going none.
    let fed = c.feed_until_started.ensures in
    let all : List ℕ = bytes ++ take (taken_until (length c.args.page.now) c.feed_until_started.result) c.args.page.now in
    let cause : Option Cause = failure_of (fault_of_stop (why_stopped (first_stop_of_bytes part kept all))) false in
    let dropping = ap (λ (r : ReadBufState). r.most) (fed.gives.words part kept false bytes s).1 ∙ ap (λ (r : ReadBufState). r.most) c.dropping-read.ensures in
    subst (λ (r : UntilStarted). TookPiece (past_in_flash part kept bytes) c.feed_until_started.new.self c.args.page.now (step_until r cause)) c.in-Started.is
    (page_took part kept c.feed_until_started.new.self bytes c.args.page.now c.feed_until_started.new.read c.feed_until_started.result cause fed.takes.within
    (fed.takes.stands part kept false bytes s) (fed.first part kept false bytes s) dropping (fed.answer part kept false bytes s) (fed.started part kept false bytes s) refl)

pub returns : goal.returns
returns c = λ part kept bytes s going none.
    let fed = c.feed_until_started.ensures in
    let all : List ℕ = bytes ++ take (taken_until (length c.args.page.now) c.feed_until_started.result) c.args.page.now in
    let stands = fed.takes.stands part kept false bytes s in
    let cause = c.failure_of.ensures ∙ ap (λ (f : Option Fault). failure_of f false) (c.fault.ensures part kept false all stands) in
    let dropping = ap (λ (r : ReadBufState). r.most) (fed.gives.words part kept false bytes s).1 ∙ ap (λ (r : ReadBufState). r.most) c.dropping-read.ensures in
    subst (λ (x : AttemptStep). TookPiece (past_in_flash part kept bytes) c.feed_until_started.new.self c.args.page.now x) (sym c.step_by.ensures)
    (subst (λ (r : UntilStarted). TookPiece (past_in_flash part kept bytes) c.feed_until_started.new.self c.args.page.now (step_until r c.failure_of.result)) c.in-Fed.is
    (page_took part kept c.feed_until_started.new.self bytes c.args.page.now c.feed_until_started.new.read c.feed_until_started.result c.failure_of.result fed.takes.within
    stands (fed.first part kept false bytes s) dropping (fed.answer part kept false bytes s) (fed.started part kept false bytes s) cause))
