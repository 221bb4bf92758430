use Rattle.std.proofs.Common.{◌≡◌, ◌/◌, length, sym, arith}
use Rattle.x7_words.specs.Word.{words_of_bytes}
use Rattle.x7_words.proofs.WordLemmas.{length_words}
use Rattle.x7_flow.specs.HistoryFlow.{flow_of}
use Rattle.x7_flow.specs.Standing.{HasFlow, frames_state, without_due}
use Rattle.x7_flow.proofs.StandingLemmas.{did_copy, no_less, same_flow}
use Rattle.x7_flow.proofs.TakenLemmas.{copies_refused, copies_taken, none_given}
use Rattle.x7_flow.proofs.taking.take_copies.Goals as goal

pub returns-then-is_empty-clause-taken : goal.returns-then-is_empty-clause-taken
returns-then-is_empty-clause-taken c = λ n h t are.
    let none : length c.args.bytes.now ≡ 0 = grind (arith, c.if-is_empty.true, c.is_empty.ensures) in
    none_given c.args.part.now (frames_state c.args.pipeline.now c.args.memory.now) n (words_of_bytes c.args.bytes.now) h (length_words c.args.bytes.now 0 (omega (arith, none))) are

pub returns-in-Ok-clause-taken : goal.returns-in-Ok-clause-taken
returns-in-Ok-clause-taken c = λ n h t are.
    let size : length (words_of_bytes c.args.bytes.now) ≡ length c.args.bytes.now / 4 = length_words c.args.bytes.now (length c.args.bytes.now / 4) (omega (arith, c.requires.whole)) in
    let has : HasFlow c.args.part.now c.args.pipeline.now (flow_of c.args.part.now h) = same_flow c.args.part.now c.args.pipeline.now (without_due 0 (flow_of c.args.part.now h)) (flow_of c.args.part.now h) (sym (no_less (flow_of c.args.part.now h))) are.flow in
    copies_taken c.args.part.now (frames_state c.args.pipeline.now c.args.memory.now) (frames_state c.copy.new.self c.copy.new.memory) n (length c.args.bytes.now / 4) (words_of_bytes c.args.bytes.now) h t
    (grind (arith, size, c.requires.whole, c.if-is_empty.false, c.is_empty.ensures)) (sym size)
    (c.in-Ok.ensures.fault (flow_of c.args.part.now h) has.stands)
    (did_copy c.args.part.now c.args.pipeline.now c.copy.new.self c.args.memory.now c.copy.new.memory c.in-Ok.ensures.same_pipeline c.in-Ok.ensures.put c.in-Ok.ensures.fault) are

pub returns-in-Err-clause-taken : goal.returns-in-Err-clause-taken
returns-in-Err-clause-taken c = λ n h t are.
    let size : length (words_of_bytes c.args.bytes.now) ≡ length c.args.bytes.now / 4 = length_words c.args.bytes.now (length c.args.bytes.now / 4) (omega (arith, c.requires.whole)) in
    let has : HasFlow c.args.part.now c.args.pipeline.now (flow_of c.args.part.now h) = same_flow c.args.part.now c.args.pipeline.now (without_due 0 (flow_of c.args.part.now h)) (flow_of c.args.part.now h) (sym (no_less (flow_of c.args.part.now h))) are.flow in
    rw (c.in-Err.ensures.same_pipeline, c.in-Err.ensures.same_memory)
    (copies_refused c.args.part.now (frames_state c.args.pipeline.now c.args.memory.now) n (words_of_bytes c.args.bytes.now) c.in-Err.fault h t
    (grind (arith, size, c.requires.whole, c.if-is_empty.false, c.is_empty.ensures))
    (c.in-Err.ensures.fault (flow_of c.args.part.now h) has.stands) are)
