use Rattle.std.proofs.Common.{◌<◌, ℕ, refl, sym, subst, ◌∙◌, ap, arith}
use Rattle.x7_words.specs.Word.{AreBytes}
use Rattle.x7_words.proofs.ListLemmas.{all_from_places}
use Rattle.x7_debug.specs.declared.order.Stop.{Stop}
use Rattle.x7_debug.specs.declared.order.Stop.TheVariants as to
use Rattle.x7_debug.specs.Journal.{ComesToPosition, records_of}
use Rattle.x7_debug.specs.SessionFields.{session_of}
use Rattle.x7_debug.specs.Position.{until_of}
use Rattle.x7_debug.proofs.JournalLemmas.{goes_nowhere, goes_recorded, oldest_within}
use Rattle.x7_debug.proofs.LeastLemmas.{until_stopped}
use Rattle.x7_debug.proofs.PositionLemmas.{until_last}
use Rattle.x7_debug.proofs.until.go_until.Goals as goal

pub returns-then-taken-outline-clause-costs : goal.returns-then-taken-outline-clause-costs
returns-then-taken-outline-clause-costs c =
    goes_nowhere (session_of c.args.device.now c.args.stream.now c.args.journal.now) (oldest_within c.args.device.now.part c.args.stream.now c.args.device.now.taken (records_of c.args.journal.now) c.requires.on.leads)

pub returns-in-Stopped-clause-at_position : goal.returns-in-Stopped-clause-at_position
returns-in-Stopped-clause-at_position c =
    let part = c.args.device.now.part in
    let stream = c.args.stream.now in
    let fits : AreBytes stream = all_from_places (λ b. b < 256) stream (λ k h. omega (arith, c.type_inv.stream k)) in
    let from : ℕ = c.args.device.now.taken in
    let there = c.move_to.ensures.at_position in
    record {
      on = there.on;
      part = there.part;
      taken = there.taken ∙ c.requires.last_is ∙ sym (until_stopped part stream from fits c.requires.on.at_position.within) ∙ ap (λ (s : Stop). until_of part stream s from) (sym c.in-Stopped.is);
    }

pub returns-in_default : goal.returns-in_default
returns-in_default c =
    let there = c.forward_until.ensures in
    let until : ℕ = until_of c.args.device.now.part c.args.stream.now c.args.stop c.args.device.now.taken in
    record {
      at_position = there.at_position.forward.there;
      costs = goes_recorded c.args.stream.now c.args.device.now c.forward_until.new.device c.args.journal.now c.forward_until.new.journal until c.requires.on there.forward there.at_position;
    }

pub returns-in-Phase : goal.returns-in-Phase
returns-in-Phase c =
    let there = c.go_to_phase.ensures in
    let part = c.args.device.now.part in
    let from = c.args.device.now.taken in
    let until : ℕ = until_of part c.args.stream.now (to.Phase c.in-Phase.phase) from in
    record {
      at_position = subst (λ (s : Stop). ComesToPosition c.args.stream.now c.args.device.now c.go_to_phase.new.device c.go_to_phase.new.journal (until_of part c.args.stream.now s from)) (sym c.in-Phase.is) there.at_position.forward.there;
      costs = goes_recorded c.args.stream.now c.args.device.now c.go_to_phase.new.device c.args.journal.now c.go_to_phase.new.journal until c.requires.on there.forward there.at_position;
    }

pub move_to-requires : goal.move_to-requires
move_to-requires c = record { on = c.requires.on; within = omega (arith, c.requires.last_is) }

pub forward_until-requires : goal.forward_until-requires
forward_until-requires c = record { on = c.requires.on; last_is = c.requires.last_is; before = omega (arith, c.if-taken-outline.false, c.taken.ensures.stored) }

pub returns-then-taken-outline-clause-at_position : goal.returns-then-taken-outline-clause-at_position
returns-then-taken-outline-clause-at_position c =
    let part = c.args.device.now.part in
    let from : ℕ = c.args.device.now.taken in
    let within = c.requires.on.at_position.within in
    record {
      on = c.requires.on;
      part = refl;
      taken = sym (until_last part c.args.stream.now c.args.stop from from (omega (arith, c.if-taken-outline.true, c.requires.last_is, c.taken.ensures.stored)) within (omega arith) (λ k h j. absurd (omega (arith, h, j))));
    }
