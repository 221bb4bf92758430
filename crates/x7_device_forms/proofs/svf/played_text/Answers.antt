use Rattle.std.proofs.Common.{◌++◌, List, ℕ, [], false, ap, ◌∙◌}
use Rattle.x7_part.specs.Part.{PartData}
use Rattle.x7_engine.specs.Kept.{on_the_bench}
use Rattle.x7_engine.specs.Standing.{DeviceStandsFor}
use Rattle.x7_jtag.specs.Play.{clocks_played}
use Rattle.x7_jtag.specs.Text.{play_text}
use Rattle.x7_jtag.specs.Shown.{bytes_taken}
use Rattle.x7_jtag.specs.Tap.{TapStandsFor}
use Rattle.x7_jtag.proofs.LawLemmas.{device_is}
use Rattle.x7_forms.proofs.ResultLemmas.{ok_weaker}
use Rattle.x7_device_forms.proofs.SvfLemmas.{played_to, svf_is}
use Rattle.x7_device_forms.proofs.svf.played_text.Goals as goal

pub returns : goal.returns
returns c =
    let part : PartData = c.args.part.now in
    let statements = c.args.svf.now in
    let differ = c.play_svf-differ.result in
    let new : TapStandsFor part c.new-tap.result c.in_ok-device.device [] = c.new-tap.ensures part c.in_ok-device.device c.in_ok-device.ensures.stands in
    let stands : TapStandsFor part c.play_svf-differ.new.tap c.play_svf-differ.new.device (clocks_played statements differ) = c.play_svf-differ.ensures.clocks part new in
    let taken : List ℕ = bytes_taken part (played_to part statements differ) in
    let device : DeviceStandsFor part on_the_bench false c.play_svf-differ.new.device taken = device_is part c.play_svf-differ.new.tap c.play_svf-differ.new.device (clocks_played statements differ) stands in
    ok_weaker c.new-2.result (λ text whole. svf_is part statements c.play_svf-differ.new.tap c.play_svf-differ.new.device differ c.fault.result c.has_stopped-stopped.result c.play_line.new.out.items text
    stands (c.play_svf-differ.ensures.differs part new) (c.fault.ensures part on_the_bench false taken device)
    c.has_stopped-stopped.ensures
    (c.in_ok-play_line.ensures.appends ∙ ap (λ (l : List ℕ). l ++ play_text differ) c.new-line.ensures.items) (whole part on_the_bench false taken device)) c.new-2.ensures.owing
