use Rattle.std.proofs.Common.{◌≡◌, ◌-◌, ◌<◌, ◌≤◌, ◌∷◌, ℕ, true, false, max, take, ap, sym, subst, ◌∙◌, arith}
use Rattle.x7_part.specs.Part.{PartData}
use Rattle.x7_debug.specs.Journal.{oldest_by, reach, record_room, records_of}
use Rattle.x7_debug.specs.Moving.{ComesForward}
use Rattle.x7_debug.specs.Position.{holds_at, last_of}
use Rattle.x7_debug.proofs.JournalLemmas.{Reaches, none_between, none_up_to, reaches_first, reaches_last, reaches_whole, comes_nowhere, comes_on}
use Rattle.x7_debug.proofs.PositionLemmas.{until_last, until_there}
use Rattle.x7_debug.proofs.until.forward_until.Goals as goal

pub loop-stop-init : goal.loop-stop-init
loop-stop-init c = record {
  comes = comes_nowhere c.args.stream.now c.args.device.now c.args.journal.now c.requires.on;
  since = omega arith;
  within = omega (arith, c.requires.before);
  none = λ k h j. absurd (omega (arith, h, j));
  reaches = λ l. reaches_first c.args.device.now.part c.args.stream.now c.args.device.now.taken (records_of c.args.journal.now) c.requires.on.leads;
  oldest = λ l. absurd (omega (arith, l));
}

pub seek_word-requires : goal.seek_word-requires
seek_word-requires c =
    let here = c.loop-stop.invariant in
    record {
      on = here.comes.there.on;
      last_is = c.requires.last_is ∙ ap (λ (p : PartData). last_of p c.args.stream.now) (sym here.comes.there.part);
      before = omega (arith, c.loop-stop-test.true, c.taken.ensures.stored);
    }

pub returns-then-seek_word-clause-at_position : goal.returns-then-seek_word-clause-at_position
returns-then-seek_word-clause-at_position c =
    let part : PartData = c.args.device.now.part in
    let stream = c.args.stream.now in
    let from : ℕ = c.args.device.now.taken in
    let n : ℕ = c.loop-stop.device.taken in
    let m : ℕ = c.seek_word.new.device.taken in
    let here = c.loop-stop.invariant in
    let there = c.seek_word.ensures in
    let found : holds_at part stream c.args.stop m ≡ true = subst (λ (p : PartData). holds_at p stream c.args.stop m ≡ true) here.comes.there.part (there.found c.if-seek_word.true) in
    let later : (k : ℕ) → n < k → k < m → holds_at part stream c.args.stop k ≡ false = λ k h j. subst (λ (p : PartData). holds_at p stream c.args.stop k ≡ false) here.comes.there.part (there.none_before k h j) in
    let some : n < c.args.last = omega (arith, c.loop-stop-test.true, c.taken.ensures.stored) in
    let last : oldest_by m (there.recorded.undo ∷ take (record_room - 1) (records_of c.loop-stop.journal)) ≤ max from (m - reach) =
    reaches_last from n m there.recorded.undo (records_of c.loop-stop.journal) there.recorded.saves.values.taken there.forward (here.reaches some) in
    let both : ComesForward stream c.args.device.now c.seek_word.new.device c.seek_word.new.journal m =
    comes_on stream c.args.device.now c.loop-stop.device c.seek_word.new.device c.loop-stop.journal c.seek_word.new.journal n m here.since (omega (arith, there.forward)) here.comes there.at_position in
    record {
      forward = record {
        there = record {
          on = both.there.on;
          part = both.there.part;
          taken = sym (until_there part stream c.args.stop from m (omega (arith, here.since, there.forward)) (omega (arith, there.within, c.requires.last_is)) found
              (none_between (holds_at part stream c.args.stop) from n m here.none later));
        };
        fed = both.fed;
      };
      oldest = omega (arith, ap (oldest_by m) there.recorded.records, last);
    }

pub loop-stop-preserved : goal.loop-stop-preserved
loop-stop-preserved c =
    let part : PartData = c.args.device.now.part in
    let stream = c.args.stream.now in
    let from : ℕ = c.args.device.now.taken in
    let n : ℕ = c.loop-stop.device.taken in
    let m : ℕ = c.seek_word.new.device.taken in
    let same = c.loop-stop.invariant.comes.there.part in
    let some : n < c.args.last = omega (arith, c.loop-stop-test.true, c.taken.ensures.stored) in
    let here : holds_at part stream c.args.stop m ≡ false = subst (λ (p : PartData). holds_at p stream c.args.stop m ≡ false) same (c.seek_word.ensures.none_at_end c.if-seek_word.false) in
    let later : (k : ℕ) → n < k → k < m → holds_at part stream c.args.stop k ≡ false = λ k h j. subst (λ (p : PartData). holds_at p stream c.args.stop k ≡ false) same (c.seek_word.ensures.none_before k h j) in
    let last : oldest_by m (c.seek_word.ensures.recorded.undo ∷ take (record_room - 1) (records_of c.loop-stop.journal)) ≤ max from (m - reach) =
    reaches_last from n m c.seek_word.ensures.recorded.undo (records_of c.loop-stop.journal) c.seek_word.ensures.recorded.saves.values.taken c.seek_word.ensures.forward (c.loop-stop.invariant.reaches some) in
    record {
      comes = comes_on stream c.args.device.now c.loop-stop.device c.seek_word.new.device c.loop-stop.journal c.seek_word.new.journal n m c.loop-stop.invariant.since (omega (arith, c.seek_word.ensures.forward)) c.loop-stop.invariant.comes c.seek_word.ensures.at_position;
      since = omega (arith, c.loop-stop.invariant.since, c.seek_word.ensures.forward);
      within = c.seek_word.ensures.within;
      none = none_up_to (holds_at part stream c.args.stop) from m (none_between (holds_at part stream c.args.stop) from n m c.loop-stop.invariant.none later) here;
      reaches = λ l.
          subst (Reaches from m) (sym c.seek_word.ensures.recorded.records)
          (reaches_whole from n m c.seek_word.ensures.recorded.undo (records_of c.loop-stop.journal) c.seek_word.ensures.recorded.saves.values.taken (c.seek_word.ensures.whole_record c.if-seek_word.false l) (c.loop-stop.invariant.reaches some));
      oldest = λ l. omega (arith, ap (oldest_by m) c.seek_word.ensures.recorded.records, last);
    }

pub returns-clause-at_position : goal.returns-clause-at_position
returns-clause-at_position c =
    let at = c.taken.ensures.stored in
    let here = c.loop-stop.invariant in
    record {
      forward = record {
        there = record {
          on = here.comes.there.on;
          part = here.comes.there.part;
          taken = sym (until_last c.args.device.now.part c.args.stream.now c.args.stop c.args.device.now.taken c.loop-stop.device.taken (omega (arith, c.requires.last_is, at, c.loop-stop-test.false)) (omega (arith, c.requires.last_is, here.within))
              here.since here.none);
        };
        fed = here.comes.fed;
      };
      oldest = here.oldest (omega (arith, c.requires.before, at, c.loop-stop-test.false));
    }
