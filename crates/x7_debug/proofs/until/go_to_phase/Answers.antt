use Rattle.std.proofs.Common.{◌≡◌, ◌≤◌, ◌<◌, ap, sym, subst, ◌∙◌, arith}
use Rattle.x7_part.specs.Part.{PartData}
use Rattle.x7_debug.specs.declared.order.Stop.TheVariants as stop
use Rattle.x7_debug.specs.Position.{last_of, until_of}
use Rattle.x7_debug.proofs.JournalLemmas.{fed_on}
use Rattle.x7_debug.proofs.PositionLemmas.{until_begun, until_near}
use Rattle.x7_debug.proofs.until.go_to_phase.Goals as goal

pub forward_until-requires : goal.forward_until-requires
forward_until-requires c = record { on = c.requires.kept.on; last_is = c.requires.kept.last_is; before = c.requires.before }

pub leap_near-requires : goal.leap_near-requires
leap_near-requires c = record { on = c.requires.kept.on; within = c.requires.kept.begins_is.within }

pub forward_until-requires-2 : goal.forward_until-requires-2
forward_until-requires-2 c =
    let near = c.leap_near.ensures in
    let kept = c.requires.kept in
    record {
      on = near.at_position.there.on;
      last_is = kept.last_is ∙ ap (λ (p : PartData). last_of p c.args.stream.now) (sym near.at_position.there.part);
      before = omega (arith, near.within, kept.begins_is.within, c.requires.before, kept.last_is);
    }

pub returns-clause-at_position : goal.returns-clause-at_position
returns-clause-at_position c =
    let part = c.args.device.now.part in
    let stream = c.args.stream.now in
    let phase = c.args.phase in
    let begins = c.args.outline.begins in
    let from = c.args.device.now.taken in
    let kept = c.requires.kept in
    let near = c.leap_near.ensures in
    let there = c.forward_until-2.ensures in
    let some : 0 < phase = omega (arith, c.if-phase-eq0.false) in
    let led : c.forward_until-2.new.device.taken ≡ until_of part stream (stop.Phase phase) c.leap_near.new.device.taken =
    subst (λ (p : PartData). c.forward_until-2.new.device.taken ≡ until_of p stream (stop.Phase phase) c.leap_near.new.device.taken) near.at_position.there.part there.at_position.forward.there.taken in
    let past : begins ≤ until_of part stream (stop.Phase phase) c.leap_near.new.device.taken = until_begun part stream phase begins kept.begins_is some c.leap_near.new.device.taken in
    record {
      forward = record {
        there = record {
          on = there.at_position.forward.there.on;
          part = there.at_position.forward.there.part ∙ near.at_position.there.part;
          taken = led ∙ sym (until_near part stream phase begins kept.begins_is some from c.leap_near.new.device.taken near.forward
              (omega (arith, near.within, kept.begins_is.within, c.requires.before, kept.last_is)) (λ k h j. omega (arith, near.within, h, j)));
        };
        fed = fed_on c.args.device.now c.leap_near.new.device c.forward_until-2.new.device near.forward (omega (arith, there.forward)) near.at_position.fed there.at_position.forward.fed;
      };
      oldest = omega (arith, there.at_position.oldest, near.within, led, past);
    }
