use Rattle.std.proofs.Common.{◌≡◌, ℕ, Bool, Option, None, Some, refl, sym, ap, subst, ◌∙◌}
use Rattle.x7_packets.specs.ByHand.{reading_of}
use Rattle.x7_packets.specs.Reading.{is_synced}
use Rattle.x7_packets.proofs.ByHandLemmas.{reading_is}
use Rattle.x7_engine.specs.declared.stop.StopCause.{StopCause}
use Rattle.x7_engine.specs.declared.stop.StopCause.TheVariants as stop
use Rattle.x7_engine.specs.Registers.{word_held}
use Rattle.x7_engine.specs.Standing.{DeviceStandsFor, DeviceState, IsCutterOf}
use Rattle.x7_engine.specs.State.{end_by, history_taken}
use Rattle.x7_engine.proofs.StateLemmas.{why_is}
use Rattle.x7_engine.proofs.device.Device.end.Goals as goal

-- the session counts only where there is no stop
same_end : (d : Option StopCause) (b c : Bool) (w : ℕ) → (d ≡ None → b ≡ c) → end_by d b w ≡ end_by d c w
same_end None b c w f = ap (λ x. end_by None x w) (f refl)
same_end (Some (stop.Fault g)) b c w f = refl
same_end (Some stop.Iprog) b c w f = refl

pub returns : goal.returns
returns c = λ part kept wrapped bytes s.
    let stands = subst (λ (d : DeviceState). DeviceStandsFor part kept wrapped d bytes) (sym c.self.view_is) s in
    let stop = c.self.inside.registers.values.stop in
    let session : stop ≡ None → c.is_synced.result ≡ is_synced (reading_of bytes).place = λ d.
    let cutter : IsCutterOf c.self.inside.cutter bytes = stands.cutter_is d in
    c.is_synced.ensures.synced bytes cutter.sessions cutter.place cutter.stands ∙ ap is_synced (reading_is bytes cutter.sessions cutter.place cutter.stands.reading).1 in
    c.end_by.ensures
    ∙ same_end stop c.is_synced.result (is_synced (reading_of bytes).place) c.value.result session
    ∙ ap (end_by stop (is_synced (reading_of bytes).place)) (c.value.ensures.owing part kept wrapped bytes s)
    ∙ ap (λ (o : Option StopCause). end_by o (is_synced (reading_of bytes).place) (word_held kept 16 (history_taken part kept bytes))) (sym (why_is part kept wrapped _ bytes stands))
