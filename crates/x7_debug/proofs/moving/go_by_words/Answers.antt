use Rattle.std.proofs.Common.{◌≡◌, ◌+◌, ◌<◌, ◌≤◌, ℕ, ap, sym, subst, ◌∙◌, arith, max, ◌-◌, ◌∷◌, take}
use Rattle.x7_debug.specs.Journal.{oldest_by, records_of}
use Rattle.x7_debug.proofs.JournalLemmas.{Reaches, comes_here, comes_nowhere, comes_on, reaches_first, reaches_last, reaches_now, reaches_whole, within_still}
use Rattle.x7_debug.proofs.moving.go_by_words.Goals as goal

pub loop-device-init : goal.loop-device-init
loop-device-init c = record {
  comes = comes_nowhere c.args.stream.now c.args.device.now c.args.journal.now c.requires.may.on;
  within = c.requires.forward;
  since = omega arith;
  reaches = reaches_first c.args.device.now.part c.args.stream.now c.args.device.now.taken (records_of c.args.journal.now) c.requires.may.on.leads;
}

pub loop-device-preserved : goal.loop-device-preserved
loop-device-preserved c =
    let before : ℕ = c.loop-device.device.taken in
    let to : ℕ = c.feed_recorded.new.device.taken in
    let next : to ≡ before + 4 = omega (arith, c.feed_recorded.ensures.at_position.there.taken, c.taken-next.ensures.stored) in
    record {
      comes = comes_here c.args.stream.now c.args.device.now c.feed_recorded.new.device c.feed_recorded.new.journal (c.taken-next.result + 4)
          (comes_on c.args.stream.now c.args.device.now c.loop-device.device c.feed_recorded.new.device c.loop-device.journal c.feed_recorded.new.journal
          before (c.taken-next.result + 4) c.loop-device.invariant.since (omega (arith, next)) c.loop-device.invariant.comes c.feed_recorded.ensures.at_position);
      within = omega (arith, next, c.loop-device-test.true, c.taken.ensures.stored);
      since = omega (arith, next, c.loop-device.invariant.since);
      reaches = subst (Reaches c.args.device.now.taken to) (sym c.feed_recorded.ensures.recorded.records)
          (reaches_whole c.args.device.now.taken before to c.feed_recorded.ensures.recorded.undo (records_of c.loop-device.journal) c.feed_recorded.ensures.recorded.saves.values.taken next c.loop-device.invariant.reaches);
    }

pub returns-then-taken-to : goal.returns-then-taken-to
returns-then-taken-to c =
    let here = c.loop-device.invariant in
    let there = c.feed_recorded-then-taken-to.ensures.at_position in
    let more = c.feed_recorded-then-taken-to.ensures.recorded in
    let before : ℕ = c.loop-device.device.taken in
    let l : before < c.args.to = omega (arith, c.if-taken-to.true, c.taken-2.ensures.stored) in
    let last : oldest_by c.args.to (more.undo ∷ take 63 (records_of c.loop-device.journal)) ≤ max c.args.device.now.taken (c.args.to - 253) =
    reaches_last c.args.device.now.taken before c.args.to more.undo (records_of c.loop-device.journal) more.saves.values.taken l here.reaches in
    let same : oldest_by c.feed_recorded-then-taken-to.new.device.taken (records_of c.feed_recorded-then-taken-to.new.journal) ≡ oldest_by c.args.to (more.undo ∷ take 63 (records_of c.loop-device.journal)) =
    ap (λ (n : ℕ). oldest_by n (records_of c.feed_recorded-then-taken-to.new.journal)) there.there.taken ∙ ap (oldest_by c.args.to) more.records in
    record {
      at_position = record {
        forward = comes_on c.args.stream.now c.args.device.now c.loop-device.device c.feed_recorded-then-taken-to.new.device c.loop-device.journal c.feed_recorded-then-taken-to.new.journal before c.args.to here.since (omega (arith, l, there.there.taken)) here.comes there;
        oldest = omega (arith, same, last, there.there.taken);
      };
    }

pub returns-else-taken-to : goal.returns-else-taken-to
returns-else-taken-to c =
    let here = c.loop-device.invariant in
    record {
      at_position = record {
        forward = record {
          there = record { on = here.comes.there.on; part = here.comes.there.part; taken = omega (arith, here.within, c.if-taken-to.false, c.taken-2.ensures.stored) };
          fed = here.comes.fed;
        };
        oldest = reaches_now c.args.device.now.taken c.loop-device.device.taken (records_of c.loop-device.journal) here.comes.there.on.few here.reaches;
      };
    }

pub feed_recorded-requires-clause-may_move : goal.feed_recorded-requires-clause-may_move
feed_recorded-requires-clause-may_move c =
    let here = c.loop-device.invariant in
    let next = c.taken-next.ensures.stored in
    record {
      may = record {
        on = here.comes.there.on;
        within = within_still c.args.device.now.part c.loop-device.device.part c.args.stream.now (c.taken-next.result + 4) c.args.to here.comes.there.part (omega (arith, next, c.loop-device-test.true, c.taken.ensures.stored)) c.requires.may.within;
      };
      forward = omega (arith, next);
    }

pub feed_recorded-requires-then-taken-to-clause-may_move : goal.feed_recorded-requires-then-taken-to-clause-may_move
feed_recorded-requires-then-taken-to-clause-may_move c =
    let here = c.loop-device.invariant in
    record {
      may = record {
        on = here.comes.there.on;
        within = within_still c.args.device.now.part c.loop-device.device.part c.args.stream.now c.args.to c.args.to here.comes.there.part (omega arith) c.requires.may.within;
      };
      forward = here.within;
    }
