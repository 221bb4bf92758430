use Rattle.std.proofs.Common.{◌≡◌, ◌<◌, ◌++◌, ℕ, List, [], false, arith, ap, append-nil, subst, ◌∙◌, length, take}
use Rattle.x7_words.specs.Word.{AreBytes}
use Rattle.x7_words.proofs.ListLemmas.{all_from_places}
use Rattle.x7_engine.specs.Kept.{on_the_bench}
use Rattle.x7_engine.specs.ReadBuffer.{ReadBufState, with_words}
use Rattle.x7_engine.specs.Standing.{taken_in}
use Rattle.x7_engine.proofs.FeedingLemmas.{takes_nothing}
use Rattle.x7_engine.specs.UntilRead.{RoomBefore}
use Rattle.x7_jtag.specs.Queue.{queue_of}
use Rattle.x7_jtag.specs.Tap.{QueueState, reads_taken}
use Rattle.x7_jtag.proofs.GiveLemmas.{gives, given_within, none_got}
use Rattle.x7_jtag.proofs.queue.Queue.give.Goals as goal

pub returns-clause-within : goal.returns-clause-within
returns-clause-within c = omega (arith, c.given_of-count.ensures, given_within c.feed-fed.result _ c.feed-fed.ensures.takes.within)

pub returns-clause-queue : goal.returns-clause-queue
returns-clause-queue c = λ part q s.
    let piece = c.args.bytes.now in
    let fits : AreBytes piece = all_from_places (λ b. b < 256) piece (λ k l. omega (arith, c.type_inv.bytes k)) in
    let bytes = s.holds.bytes in
    let device = s.holds.device in
    let read = c.feed-fed.ensures.gives.words part on_the_bench false bytes device in
    let none : read.0 ≡ [] = none_got read.0 c.feed-fed.new.read (read.1 ∙ ap (λ (b : ReadBufState). with_words b read.0) c.without_room.ensures) c.feed-fed.ensures.gives.within_most in
    let silent : reads_taken part c.feed-fed.new.self (bytes ++ take (taken_in (length piece) c.feed-fed.result) piece) ≡ reads_taken part c.args.device.now bytes =
    read.2 ∙ ap (λ (words : List ℕ). reads_taken part c.args.device.now bytes ++ words) none ∙ append-nil (reads_taken part c.args.device.now bytes) in
    gives part c.args.self.now c.feed.new.self c.args.device.now c.feed-fed.new.self c.feed.new.device q piece c.feed-fed.new.read c.feed-fed.result c.given_of-count.result s
    (omega (arith, c.if-self-gt0.false, ap (λ (q : QueueState). q.bits_left) c.self.view_is)) fits c.feed-fed.ensures.takes.within
    (c.feed-fed.ensures.takes.stands part on_the_bench false bytes device) (c.feed-fed.ensures.answer part on_the_bench false bytes device) silent
    (subst (λ (b : ReadBufState). RoomBefore (record { part = part; kept = on_the_bench; wrapped = false; bytes = bytes }) piece (taken_in (length piece) c.feed-fed.result) (reads_taken part c.args.device.now bytes) b) c.without_room.ensures
    (c.feed-fed.ensures.gives.room part on_the_bench false bytes device)) (takes_nothing part on_the_bench false c.args.device.now c.feed-fed.new.self piece bytes (taken_in (length piece) c.feed-fed.result) c.feed-fed.ensures.takes device) c.given_of-count.ensures
    (λ given held out t. c.feed.ensures.queue part (queue_of given held out) t (λ l. absurd (omega (arith, l))))
