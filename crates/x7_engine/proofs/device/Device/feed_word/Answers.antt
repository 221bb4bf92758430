use Rattle.std.proofs.Common.{◌≤◌, ◌++◌, ℕ, List, length, take, arith}
use Rattle.std.proofs.lemmas.List.{length-take}
use Rattle.x7_engine.specs.Past.{past_of}
use Rattle.x7_engine.specs.Standing.{taken_in}
use Rattle.x7_engine.proofs.UndoLemmas.{answers_dropping, leads_back}
use Rattle.x7_engine.proofs.device.Device.feed_word.Goals as goal

pub returns-clause-answer : goal.returns-clause-answer
returns-clause-answer c = λ part kept wrapped bytes s.
    let piece : List ℕ = c.args.piece.now in
    let reads = c.feed-fed.ensures.gives.words part kept wrapped bytes s in
    answers_dropping (past_of part kept wrapped (bytes ++ take (taken_in (length piece) c.feed-fed.result) piece)) c.feed-fed.new.self reads.0 c.dropping-read.result c.feed-fed.new.read c.feed-fed.result c.dropping-read.ensures reads.1
    (c.feed-fed.ensures.answer part kept wrapped bytes s)

pub returns-clause-back : goal.returns-clause-back
returns-clause-back c = λ part kept wrapped bytes s.
    let piece : List ℕ = c.args.piece.now in
    let taken : ℕ = taken_in (length piece) c.feed-fed.result in
    let few : length (take taken piece) ≤ 4 = omega (arith, length-take taken piece, c.requires.within_reach) in
    leads_back part kept wrapped c.save.new.undo c.args.self.now c.feed-fed.new.self bytes (take taken piece) c.save.ensures.saves c.frames_fit.ensures c.requires.no_word_due few s (c.feed-fed.ensures.takes.stands part kept wrapped bytes s)

pub returns-clause-takes : goal.returns-clause-takes
returns-clause-takes c = c.feed-fed.ensures.takes

pub returns-clause-answers_stop : goal.returns-clause-answers_stop
returns-clause-answers_stop c = c.feed-fed.ensures.answers_stop
