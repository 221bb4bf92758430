use Rattle.std.proofs.Common.{Err, arith}
use Rattle.std.proofs.lemmas.Result.{on_ok_weaker}
use Rattle.x7_planner.specs.FullStream.{full_control_words}
use Rattle.x7_planner.specs.FullStreamPieces.{opening_size, control_words_size}
use Rattle.x7_planner.specs.Writer.{opening_words}
use Rattle.x7_planner.proofs.SlotLemmas.{written_on}
use Rattle.x7_planner.proofs.WithinLemmas.{within_after, within_call, within_handed}
use Rattle.x7_planner.proofs.full_stream.put_opening.Goals as goal

pub returns-clause-appends : goal.returns-clause-appends
returns-clause-appends c =
    on_ok_weaker c.put_control_words.result
    (λ e. written_on c.args.out.now.items c.put_words.new.out.items c.put_control_words.new.out.items opening_words (full_control_words c.args.part.now) c.in_ok-put_words.ensures.appends e) c.put_control_words.ensures.appends

pub returns-in_err-put_words-clause-within : goal.returns-in_err-put_words-clause-within
returns-in_err-put_words-clause-within c = within_handed c.args.out.now c.put_words.new.out c.from_residual.result opening_size c.from_residual.ensures.0 (λ e.
    within_call c.args.out.now c.put_words.new.out (Err e) 40 opening_size tt c.in_err-put_words.ensures.unchanged c.put_words.ensures.room c.in_err-put_words.ensures.no_room (omega arith))

pub returns-clause-within : goal.returns-clause-within
returns-clause-within c =
    within_after c.args.out.now c.put_words.new.out c.put_control_words.new.out c.put_control_words.result _ 40 control_words_size opening_size c.in_ok-put_words.ensures.appends (omega (arith, c.in_ok-put_words.ensures.length)) c.put_words.ensures.room
    c.put_control_words.ensures.within (omega arith)
