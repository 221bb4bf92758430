use Rattle.std.proofs.Common.{ap, subst, sym, ◌∙◌}
use Rattle.x7_part.specs.Part.{PartData}
use Rattle.x7_boot.specs.Attempt.{IsDeviceOf}
use Rattle.x7_engine.specs.Standing.{DeviceState, NoWordDue}
use Rattle.x7_forms.proofs.ResultLemmas.{ok_weaker}
use Rattle.x7_device_forms.proofs.BootTextLemmas.{ready_is}
use Rattle.x7_device_forms.proofs.boot.ready_text.Goals as goal

pub returns : goal.returns
returns c = ok_weaker c.new.result (λ text whole. λ part last is due.
    let shown : IsDeviceOf part c.device.result.now last = subst (λ (d : DeviceState). IsDeviceOf part d last) (sym c.device.ensures) is in
    let left : IsDeviceOf part c.into_device.result last = subst (λ (d : DeviceState). IsDeviceOf part d last) (sym c.into_device.ensures) is in
    let none : NoWordDue c.into_device.result = subst (λ (d : DeviceState). NoWordDue d) (sym c.into_device.ensures) due in
    let name = c.name.ensures ∙ ap (λ (p : PartData). p.name) (c.part.ensures.value part last.kept last.wrapped last.bytes shown) in
    ready_is part last c.args.booted.attempts c.attempts.result.now c.args.booted.end c.end.result c.end-2.result c.name.result.now c.boot_lines.new.text.items c.new-head.result.items c.has_failed-stopped.result text
    c.new-head.ensures.items c.in_ok-boot_lines.ensures.appends name c.attempts.ensures c.end.ensures c.has_failed-stopped.ensures c.end-2.ensures (whole part last.kept last.wrapped last.bytes left none)) c.new.ensures.value
