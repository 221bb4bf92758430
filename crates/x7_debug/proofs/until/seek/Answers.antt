use Rattle.std.proofs.Common.{◌≡◌, ◌+◌, ◌<◌, ℕ, false, take, refl, subst, ◌∙◌, arith}
use Rattle.x7_part.specs.Part.{PartData}
use Rattle.x7_engine.specs.Kept.{on_the_bench}
use Rattle.x7_debug.specs.Position.{holds_at}
use Rattle.x7_debug.specs.Session.{StandsAtPosition}
use Rattle.x7_debug.proofs.JournalLemmas.{comes_nowhere, none_there, on_further, stands_of, fed_on}
use Rattle.x7_debug.proofs.PositionLemmas.{holds_is}
use Rattle.x7_debug.proofs.until.seek.Goals as goal

pub loop-stop-init : goal.loop-stop-init
loop-stop-init c = record {
  comes = comes_nowhere c.args.stream.now c.args.device.now c.args.journal.now c.requires.may_move.may.on;
  since = omega arith;
  within = c.requires.may_move.forward;
  none = λ k h j. absurd (omega (arith, h, j));
}

pub returns-then-holds_in-clause-found : goal.returns-then-holds_in-clause-found
returns-then-holds_in-clause-found c = λ q.
    let part : PartData = c.args.device.now.part in
    let stream = c.args.stream.now in
    let n : ℕ = c.loop-stop.device.taken in
    let there : StandsAtPosition part stream c.loop-stop.device n = stands_of c.loop-stop.device.part part stream c.loop-stop.device c.args.journal.now c.loop-stop.invariant.comes.there.part c.loop-stop.invariant.comes.there.on in
    holds_is part stream c.args.stop n c.end.result c.phase.result c.holds_in.result (c.end.ensures part on_the_bench false (take n stream) there.stands) (c.phase.ensures part on_the_bench false (take n stream) there.stands) c.holds_in.ensures ∙ c.if-holds_in.true

pub returns-then-at-bound-clause-none_at_end : goal.returns-then-at-bound-clause-none_at_end
returns-then-at-bound-clause-none_at_end c = λ q.
    let part : PartData = c.args.device.now.part in
    let stream = c.args.stream.now in
    let n : ℕ = c.loop-stop.device.taken in
    let there : StandsAtPosition part stream c.loop-stop.device n = stands_of c.loop-stop.device.part part stream c.loop-stop.device c.args.journal.now c.loop-stop.invariant.comes.there.part c.loop-stop.invariant.comes.there.on in
    let here : holds_at part stream c.args.stop n ≡ false =
    holds_is part stream c.args.stop n c.end.result c.phase.result c.holds_in.result (c.end.ensures part on_the_bench false (take n stream) there.stands) (c.phase.ensures part on_the_bench false (take n stream) there.stands) c.holds_in.ensures ∙ c.if-holds_in.false in
    let same : n ≡ c.args.bound = omega (arith, c.if-at-bound.true, c.taken-at.ensures.stored, c.loop-stop.invariant.within) in
    subst (λ (k : ℕ). holds_at part stream c.args.stop k ≡ false) same here

pub loop-stop-preserved : goal.loop-stop-preserved
loop-stop-preserved c =
    let part : PartData = c.args.device.now.part in
    let stream = c.args.stream.now in
    let n : ℕ = c.loop-stop.device.taken in
    let there : StandsAtPosition part stream c.loop-stop.device n = stands_of c.loop-stop.device.part part stream c.loop-stop.device c.args.journal.now c.loop-stop.invariant.comes.there.part c.loop-stop.invariant.comes.there.on in
    let here : holds_at part stream c.args.stop n ≡ false =
    holds_is part stream c.args.stop n c.end.result c.phase.result c.holds_in.result (c.end.ensures part on_the_bench false (take n stream) there.stands) (c.phase.ensures part on_the_bench false (take n stream) there.stands) c.holds_in.ensures ∙ c.if-holds_in.false in
    let at : c.taken-at.result ≡ n = c.taken-at.ensures.stored in
    let next : c.feed_to.new.device.taken ≡ n + 1 = omega (arith, at, c.feed_to.ensures.at_position.taken) in
    let less : n < c.args.bound = omega (arith, at, c.if-at-bound.false) in
    record {
      comes = record {
        there = record {
          on = on_further c.loop-stop.device.part stream c.loop-stop.device c.feed_to.new.device c.args.journal.now (c.taken-at.result + 1) c.requires.near_newest.undo c.requires.near_newest.older c.loop-stop.invariant.comes.there.on c.requires.near_newest.records c.feed_to.ensures.at_position
              (omega (arith, at)) (omega (arith, at, less, c.requires.near_newest.near));
          part = c.feed_to.ensures.at_position.stands.part_is ∙ c.loop-stop.invariant.comes.there.part;
          taken = refl;
        };
        fed = fed_on c.args.device.now c.loop-stop.device c.feed_to.new.device c.loop-stop.invariant.since (omega (arith, next)) c.loop-stop.invariant.comes.fed c.feed_to.ensures.fed;
      };
      since = omega (arith, next, c.loop-stop.invariant.since);
      within = omega (arith, next, less);
      none = none_there (holds_at part stream c.args.stop) c.args.device.now.taken n c.feed_to.new.device.taken next c.loop-stop.invariant.none here;
    }

pub returns-then-holds_in-clause-at_position : goal.returns-then-holds_in-clause-at_position
returns-then-holds_in-clause-at_position c = c.loop-stop.invariant.comes

pub returns-then-at-bound-clause-at_position : goal.returns-then-at-bound-clause-at_position
returns-then-at-bound-clause-at_position c = c.loop-stop.invariant.comes
