use Rattle.std.proofs.Common.{ap, subst, sym, ◌∙◌}
use Rattle.x7_part.specs.Part.{PartData}
use Rattle.x7_boot.specs.Attempt.{IsDeviceOf}
use Rattle.x7_engine.specs.Standing.{DeviceState, NoWordDue}
use Rattle.x7_device_forms.proofs.BootTextLemmas.{text_is}
use Rattle.x7_device_forms.proofs.boot.boot_text.Goals as goal

pub returns : goal.returns
returns c = λ part last is due.
    let booted = c.args.booted.now in
    let shown : IsDeviceOf part c.device-device.result.now last = subst (λ (d : DeviceState). IsDeviceOf part d last) (sym c.device-device.ensures) is in
    let none : NoWordDue c.device-device.result.now = subst (λ (d : DeviceState). NoWordDue d) (sym c.device-device.ensures) due in
    let name = c.name.ensures ∙ ap (λ (p : PartData). p.name) (c.part.ensures.value part last.kept last.wrapped last.bytes shown) in
    text_is part last booted.attempts c.attempts.result.now booted.end c.end.result c.name.result.now c.boot_lines.new.text.items c.new-text.result.items c.in_ok-report.report.items c.deref.result.now c.put_text.new.text.items
    c.new-text.ensures.items c.in_ok-boot_lines.ensures.appends name c.attempts.ensures c.end.ensures (c.in_ok-report.ensures.value part last.kept last.wrapped last.bytes shown none) c.deref.ensures.value c.in_ok-put_text.ensures.appends
