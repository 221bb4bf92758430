use Rattle.std.proofs.Common.{◌<◌, ℕ, arith, ap, ◌∙◌, sym, subst}
use Rattle.x7_words.specs.Word.{AreBytes}
use Rattle.x7_words.proofs.ListLemmas.{all_from_places}
use Rattle.x7_jtag.specs.Port.{port_after}
use Rattle.x7_jtag.specs.Tap.{QueueStandsFor, TapState, last_or}
use Rattle.x7_jtag.proofs.ShiftLemmas.{shifts_bytes}
use Rattle.x7_jtag.proofs.tap.Tap.shift_bytes.Goals as goal

pub returns-clause-clocks : goal.returns-clause-clocks
returns-clause-clocks c = λ part cs s.
    let bytes = c.args.bytes.now in
    let fits : AreBytes bytes = all_from_places (λ b. b < 256) bytes (λ k l. omega (arith, c.type_inv.bytes k)) in
    shifts_bytes part c.args.self.now _ c.args.device.now c.offer_all.new.device cs bytes s c.requires.takes fits
    (ap (λ (r : ℕ). record { state = c.self.inside.state; instruction = c.self.inside.instruction; register = r; count = c.self.inside.count; queue = c.offer_all.new.self }) c.last_or-self-inside.ensures
    ∙ ap (λ (t : TapState). record t { register = last_or t.register bytes; queue = c.offer_all.new.self }) c.self.view_is)
    (c.offer_all.ensures.queue part (port_after part cs).queue (subst (λ (t : TapState). QueueStandsFor part t.queue c.args.device.now (port_after part cs).queue) (sym c.self.view_is) s.queue_is))
