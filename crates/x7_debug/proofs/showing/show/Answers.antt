use Rattle.std.proofs.Common.{◌≡◌, ℕ, List, ◌++◌, Option, false, inl, inr, take, ap, sym, subst, ◌∙◌}
use Rattle.std.specs.Prelude.{OnOk}
use Rattle.x7_part.specs.Part.{PartData}
use Rattle.x7_memory.specs.PartFrames.{frame_at}
use Rattle.x7_engine.specs.Kept.{on_the_bench}
use Rattle.x7_engine.specs.declared.snapshot.Snapshot.{Snapshot}
use Rattle.x7_report.specs.State.{phase_text, reg_text}
use Rattle.x7_debug.specs.Position.{memory_at_position, state_at_position}
use Rattle.x7_debug.specs.declared.order.Order.{Order}
use Rattle.x7_debug.specs.Showing.{frame_shown, order_shown, position_text}
use Rattle.x7_debug.proofs.showing.show.Goals as goal

pub returns-in-Regs : goal.returns-in-Regs
returns-in-Regs c =
    let session = c.args.session.now in
    let at = c.device-device.ensures.at_position in
    subst (λ (o : Order). OnOk c.reg_lines.result (c.reg_lines.new.out.items ≡ c.args.text.now.items ++ order_shown session.part session.stream session.at o)) (sym c.in-Regs.is)
    (subst (λ (s : Snapshot). OnOk c.reg_lines.result (c.reg_lines.new.out.items ≡ c.args.text.now.items ++ reg_text s))
    (c.state-in-Regs.ensures.value session.part on_the_bench false (take session.at session.stream) at.stands at.no_word_due) c.reg_lines.ensures.appends)

pub returns-in-Phase : goal.returns-in-Phase
returns-in-Phase c =
    let session = c.args.session.now in
    let at = c.device-device.ensures.at_position in
    subst (λ (o : Order). OnOk c.phase_line.result (c.phase_line.new.out.items ≡ c.args.text.now.items ++ order_shown session.part session.stream session.at o)) (sym c.in-Phase.is)
    (subst (λ (s : Snapshot). OnOk c.phase_line.result (c.phase_line.new.out.items ≡ c.args.text.now.items ++ phase_text s))
    (c.state-in-Phase.ensures.value session.part on_the_bench false (take session.at session.stream) at.stands at.no_word_due) c.phase_line.ensures.appends)

pub returns-in-Step : goal.returns-in-Step
returns-in-Step c =
    let session = c.args.session.now in
    let at = c.device-device.ensures.at_position in
    let Shows : Order → Type 0 = λ (o : Order). OnOk c.put_position.result (c.put_position.new.text.items ≡ c.args.text.now.items ++ order_shown session.part session.stream session.at o) in
    let shown : OnOk c.put_position.result (c.put_position.new.text.items ≡ c.args.text.now.items ++ position_text (state_at_position session.part session.stream session.at))
    = subst (λ (s : Snapshot). OnOk c.put_position.result (c.put_position.new.text.items ≡ c.args.text.now.items ++ position_text s))
    (c.state.ensures.value session.part on_the_bench false (take session.at session.stream) at.stands at.no_word_due) c.put_position.ensures in
    elim c.in-Step.is [
      | inl step ↦ subst Shows (sym step.1) shown
      | inr other ↦ elim other [ inl back ↦ subst Shows (sym back.1) shown | inr other ↦ elim other [ inl go ↦ subst Shows (sym go.1) shown | inr until ↦ subst Shows (sym until.1) shown ] ]
    ]

pub returns-in-Frame : goal.returns-in-Frame
returns-in-Frame c =
    let session = c.args.session.now in
    let far = c.in-Frame.far in
    let memory = c.memory.result.now in
    let same : frame_at c.part.result.now memory far ≡ memory_at_position session.part session.stream session.at far
    = ap (λ (p : PartData). frame_at p memory far) (c.part.ensures.stored ∙ c.device-device.ensures.part)
    ∙ c.memory.ensures.shows session.part on_the_bench false (take session.at session.stream) c.device-device.ensures.at_position.stands far in
    subst (λ (o : Order). OnOk c.put_frame_shown.result (c.put_frame_shown.new.text.items ≡ c.args.text.now.items ++ order_shown session.part session.stream session.at o)) (sym c.in-Frame.is)
    (subst (λ (f : Option (List ℕ)). OnOk c.put_frame_shown.result (c.put_frame_shown.new.text.items ≡ c.args.text.now.items ++ frame_shown far f)) same c.put_frame_shown.ensures)
