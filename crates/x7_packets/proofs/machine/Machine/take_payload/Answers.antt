use Rattle.std.proofs.Common.{◌≡◌, ◌-◌, ◌/◌, ◌<◌, inl, inr, arith, sym, subst, refl, ap, ◌∙◌, length}
use Rattle.x7_words.specs.Word.{words_of_bytes}
use Rattle.x7_words.proofs.ListLemmas.{all_from_places}
use Rattle.x7_words.proofs.WordLemmas.{length_words, words_fit}
use Rattle.x7_packets.specs.Packet.{payload_steps}
use Rattle.x7_packets.specs.Machine.{HasTakenWords, MachineStandsFor, MachineState}
use Rattle.x7_packets.proofs.TakeLemmas.{calm_words, payload_goes_on}
use Rattle.x7_packets.proofs.AtOnceLemmas.{other_register}
use Rattle.x7_packets.proofs.machine.Machine.take_payload.Goals as goal

pub returns-clause-ends : goal.returns-clause-ends
returns-clause-ends c =
    let same : c.self.inside.register ≡ c.args.self.now.register = ap (λ (m : MachineState). m.register) c.self.view_is in
    sym (calm_words c.args.self.now.register (words_of_bytes c.args.body.now) (λ e. other_register c.self.inside.register _ c.is_cmd.ensures c.if-is_cmd.false (same ∙ e)))

pub returns-clause-grows : goal.returns-clause-grows
returns-clause-grows c = λ ps s.
    let v : MachineState = record { due = c.self.inside.due; register = c.self.inside.register; latest = c.self.inside.latest } in
    let n : MachineState = record { due = c.self.inside.due - length c.args.body.now / 4; register = c.self.inside.register; latest = c.self.inside.latest } in
    let ws = words_of_bytes c.args.body.now in
    let due : c.self.inside.due ≡ c.args.self.now.due = ap (λ (m : MachineState). m.due) c.self.view_is in
    let count : length (words_of_bytes c.args.body.now) ≡ length c.args.body.now / 4 = length_words c.args.body.now (length c.args.body.now / 4) c.requires.whole in
    let fits = words_fit c.args.body.now (all_from_places (λ b. b < 256) c.args.body.now (λ k h. omega (arith, c.type_inv.body k))) in
    elim (subst (λ m. MachineStandsFor m ps) (sym c.self.view_is) s) [
      | inl a ↦ absurd (let z : c.self.inside.due ≡ 0 = a.due in omega (arith, c.requires.within_due, c.requires.not_empty, c.requires.whole))
      | inr a ↦ subst (λ (m : MachineState). HasTakenWords ps (payload_steps m.register (words_of_bytes c.args.body.now)) n) c.self.view_is
          (payload_goes_on v n ps (words_of_bytes c.args.body.now) fits a (other_register c.self.inside.register _ c.is_cmd.ensures c.if-is_cmd.false) (omega (arith, count, c.requires.not_empty, c.requires.whole)) refl refl (omega (arith, count, due, c.requires.within_due)))
    ]
