use Rattle.std.proofs.Common.{refl, Some, map, string_bytes, ap}
use Rattle.x7_forms.specs.Form.{asked_by}
use Rattle.x7_forms.specs.AskedForm as form
use Rattle.x7_forms.specs.Step.{result_by}
use Rattle.x7_stream_forms.specs.FullText.{full_answer}
use Rattle.x7_outcome.specs.Outside.{outside, sources}
use Rattle.x7_outcome.specs.Play.{play_answer}
use Rattle.x7_outcome.specs.Ready.{bytes_answer, mcs_answer, text_answer}
use Rattle.x7_tool.proofs.AnswerLemmas.{unused_output, flash_answered, ready_answered, silent_answered, uses_as}
use Rattle.x7_tool.proofs.FlashLemmas.{uses_read, uses_same}
use Rattle.x7_tool.proofs.StopLemmas.{boot_judges}
use Rattle.x7_tool.proofs.top.answer.Goals as goal

pub returns-in-List-clause-answered : goal.returns-in-List-clause-answered
returns-in-List-clause-answered g c = λ e f.
    let flash = g.F.Flash.state c.args.flash.now in
    let old = outside (g.I.Inputs.state c.args.inputs.now) flash (g.O.Sink.state c.args.out.now) e in
    let new = outside (g.I.Inputs.state c.list.new.inputs) flash (g.O.Sink.state c.list.new.out) f in
    silent_answered _ (form.List c.in-List.stream.now) old new _ _ (ap asked_by c.in-List.is) c.unstopped.ensures (c.list.ensures.answered old new)

pub returns-in-List-clause-flash : goal.returns-in-List-clause-flash
returns-in-List-clause-flash g c = uses_same _ _ (g.F.Flash.state c.args.flash.now)

pub returns-in-Asm-clause-answered : goal.returns-in-Asm-clause-answered
returns-in-Asm-clause-answered g c = λ e f.
    let flash = g.F.Flash.state c.args.flash.now in
    ready_answered _ (form.Asm c.in-Asm.text.now) (outside (g.I.Inputs.state c.args.inputs.now) flash (g.O.Sink.state c.args.out.now) e) (outside (g.I.Inputs.state c.asm.new.inputs) flash (g.O.Sink.state c.put_whole.new.out) f) (result_by bytes_answer c.asm.result) _
    (ap asked_by c.in-Asm.is) refl refl c.asm.ensures c.put_whole.ensures.put

pub returns-in-Asm-clause-flash : goal.returns-in-Asm-clause-flash
returns-in-Asm-clause-flash g c = uses_same _ _ (g.F.Flash.state c.args.flash.now)

pub returns-in-Play-clause-answered : goal.returns-in-Play-clause-answered
returns-in-Play-clause-answered g c = λ e f.
    let flash = g.F.Flash.state c.args.flash.now in
    ready_answered _ (form.Play c.in-Play.part.now (map string_bytes c.in-Play.streams.now)) (outside (g.I.Inputs.state c.args.inputs.now) flash (g.O.Sink.state c.args.out.now) e)
    (outside (g.I.Inputs.state c.play.new.inputs) flash (g.O.Sink.state c.put_whole-in-Play.new.out) f) (result_by play_answer c.play.result) _
    (ap asked_by c.in-Play.is) refl refl c.play.ensures c.put_whole-in-Play.ensures.put

pub returns-in-Play-clause-flash : goal.returns-in-Play-clause-flash
returns-in-Play-clause-flash g c = uses_same _ _ (g.F.Flash.state c.args.flash.now)

pub returns-in-Debug-clause-answered : goal.returns-in-Debug-clause-answered
returns-in-Debug-clause-answered g c = λ e f.
    let flash = g.F.Flash.state c.args.flash.now in
    ready_answered _ (form.Debug c.in-Debug.part.now c.in-Debug.stream.now c.in-Debug.script.now) (outside (g.I.Inputs.state c.args.inputs.now) flash (g.O.Sink.state c.args.out.now) e)
    (outside (g.I.Inputs.state c.debug.new.inputs) flash (g.O.Sink.state c.put_whole-in-Debug.new.out) f) (result_by text_answer c.debug.result) _
    (ap asked_by c.in-Debug.is) refl refl c.debug.ensures c.put_whole-in-Debug.ensures.put

pub returns-in-Debug-clause-flash : goal.returns-in-Debug-clause-flash
returns-in-Debug-clause-flash g c = uses_same _ _ (g.F.Flash.state c.args.flash.now)

pub returns-in-Svf-clause-answered : goal.returns-in-Svf-clause-answered
returns-in-Svf-clause-answered g c = λ e f.
    let flash = g.F.Flash.state c.args.flash.now in
    ready_answered _ (form.Svf c.in-Svf.part.now c.in-Svf.text.now) (outside (g.I.Inputs.state c.args.inputs.now) flash (g.O.Sink.state c.args.out.now) e) (outside (g.I.Inputs.state c.svf.new.inputs) flash (g.O.Sink.state c.put_whole-in-Svf.new.out) f) (result_by play_answer c.svf.result) _
    (ap asked_by c.in-Svf.is) refl refl c.svf.ensures c.put_whole-in-Svf.ensures.put

pub returns-in-Svf-clause-flash : goal.returns-in-Svf-clause-flash
returns-in-Svf-clause-flash g c = uses_same _ _ (g.F.Flash.state c.args.flash.now)

pub returns-in-PlanFull-clause-answered : goal.returns-in-PlanFull-clause-answered
returns-in-PlanFull-clause-answered g c = λ e f.
    let flash = g.F.Flash.state c.args.flash.now in
    ready_answered _ (form.PlanFull c.in-PlanFull.part.now c.in-PlanFull.frames.now) (outside (g.I.Inputs.state c.args.inputs.now) flash (g.O.Sink.state c.args.out.now) e)
    (outside (g.I.Inputs.state c.plan_full.new.inputs) flash (g.O.Sink.state c.put_whole-in-PlanFull.new.out) f) (result_by full_answer c.plan_full.result) _
    (ap asked_by c.in-PlanFull.is) refl refl c.plan_full.ensures c.put_whole-in-PlanFull.ensures.put

pub returns-in-PlanFull-clause-flash : goal.returns-in-PlanFull-clause-flash
returns-in-PlanFull-clause-flash g c = uses_same _ _ (g.F.Flash.state c.args.flash.now)

pub returns-in-PlanPartial-clause-answered : goal.returns-in-PlanPartial-clause-answered
returns-in-PlanPartial-clause-answered g c = λ e f.
    let flash = g.F.Flash.state c.args.flash.now in
    ready_answered _ (form.PlanPartial c.in-PlanPartial.part.now c.in-PlanPartial.frames.now) (outside (g.I.Inputs.state c.args.inputs.now) flash (g.O.Sink.state c.args.out.now) e)
    (outside (g.I.Inputs.state c.plan_partial.new.inputs) flash (g.O.Sink.state c.put_whole-in-PlanPartial.new.out) f) (result_by bytes_answer c.plan_partial.result) _
    (ap asked_by c.in-PlanPartial.is) refl refl c.plan_partial.ensures c.put_whole-in-PlanPartial.ensures.put

pub returns-in-PlanPartial-clause-flash : goal.returns-in-PlanPartial-clause-flash
returns-in-PlanPartial-clause-flash g c = uses_same _ _ (g.F.Flash.state c.args.flash.now)

pub returns-in-PlanRead-clause-answered : goal.returns-in-PlanRead-clause-answered
returns-in-PlanRead-clause-answered g c = λ e f.
    let flash = g.F.Flash.state c.args.flash.now in
    ready_answered _ (form.PlanRead c.in-PlanRead.part.now c.in-PlanRead.far c.in-PlanRead.count) (outside (g.I.Inputs.state c.args.inputs.now) flash (g.O.Sink.state c.args.out.now) e)
    (outside (g.I.Inputs.state c.plan_read.new.inputs) flash (g.O.Sink.state c.put_whole-in-PlanRead.new.out) f) (result_by bytes_answer c.plan_read.result) _
    (ap asked_by c.in-PlanRead.is) refl refl c.plan_read.ensures c.put_whole-in-PlanRead.ensures.put

pub returns-in-PlanRead-clause-flash : goal.returns-in-PlanRead-clause-flash
returns-in-PlanRead-clause-flash g c = uses_same _ _ (g.F.Flash.state c.args.flash.now)

pub returns-in-Gen-clause-answered : goal.returns-in-Gen-clause-answered
returns-in-Gen-clause-answered g c = λ e f.
    let flash = g.F.Flash.state c.args.flash.now in
    ready_answered _ (form.Gen c.in-Gen.part.now c.in-Gen.seed) (outside (g.I.Inputs.state c.args.inputs.now) flash (g.O.Sink.state c.args.out.now) e) (outside (g.I.Inputs.state c.generate.new.inputs) flash (g.O.Sink.state c.put_whole-in-Gen.new.out) f) (result_by bytes_answer c.generate.result) _
    (ap asked_by c.in-Gen.is) refl refl c.generate.ensures c.put_whole-in-Gen.ensures.put

pub returns-in-Gen-clause-flash : goal.returns-in-Gen-clause-flash
returns-in-Gen-clause-flash g c = uses_same _ _ (g.F.Flash.state c.args.flash.now)

pub returns-in-Image-clause-answered : goal.returns-in-Image-clause-answered
returns-in-Image-clause-answered g c = λ e f.
    let flash = g.F.Flash.state c.args.flash.now in
    ready_answered _ (form.Image c.in-Image.golden.now c.in-Image.update.now) (outside (g.I.Inputs.state c.args.inputs.now) flash (g.O.Sink.state c.args.out.now) e) (outside (g.I.Inputs.state c.image.new.inputs) flash (g.O.Sink.state c.put_whole-in-Image.new.out) f) (result_by bytes_answer c.image.result) _
    (ap asked_by c.in-Image.is) refl refl c.image.ensures c.put_whole-in-Image.ensures.put

pub returns-in-Image-clause-flash : goal.returns-in-Image-clause-flash
returns-in-Image-clause-flash g c = uses_same _ _ (g.F.Flash.state c.args.flash.now)

pub returns-in-ImageFor-clause-answered : goal.returns-in-ImageFor-clause-answered
returns-in-ImageFor-clause-answered g c = λ e f.
    let flash = g.F.Flash.state c.args.flash.now in
    ready_answered _ (form.ImageFor c.in-ImageFor.part.now c.in-ImageFor.golden.now c.in-ImageFor.update.now) (outside (g.I.Inputs.state c.args.inputs.now) flash (g.O.Sink.state c.args.out.now) e)
    (outside (g.I.Inputs.state c.image_for.new.inputs) flash (g.O.Sink.state c.put_whole-in-ImageFor.new.out) f) (result_by bytes_answer c.image_for.result) _
    (ap asked_by c.in-ImageFor.is) refl refl c.image_for.ensures c.put_whole-in-ImageFor.ensures.put

pub returns-in-ImageFor-clause-flash : goal.returns-in-ImageFor-clause-flash
returns-in-ImageFor-clause-flash g c = uses_same _ _ (g.F.Flash.state c.args.flash.now)

pub returns-in-Boot-clause-answered : goal.returns-in-Boot-clause-answered
returns-in-Boot-clause-answered g c = λ e f.
    let old = outside (g.I.Inputs.state c.args.inputs.now) (g.F.Flash.state c.args.flash.now) (g.O.Sink.state c.args.out.now) e in
    let new = outside (g.I.Inputs.state c.boot.new.inputs) (g.F.Flash.state c.boot.new.flash) (g.O.Sink.state c.put_whole-in-Boot.new.out) f in
    flash_answered _ (form.Boot c.in-Boot.part.now c.in-Boot.name.now) old new (result_by play_answer c.boot.result) _ (ap asked_by c.in-Boot.is) refl
    (boot_judges c.in-Boot.part.now c.in-Boot.name.now (sources old.inputs old.flash) (sources new.inputs new.flash) (result_by play_answer c.boot.result) old.out new.out _ c.boot.ensures.ready.judges c.put_whole-in-Boot.ensures.put)
    c.boot.ensures.ready (c.boot.ensures.ready.caused old new) c.put_whole-in-Boot.ensures.put

pub returns-in-Boot-clause-flash : goal.returns-in-Boot-clause-flash
returns-in-Boot-clause-flash g c =
    uses_read _ (form.Boot c.in-Boot.part.now c.in-Boot.name.now) c.in-Boot.name.now _ _ _ (ap (λ f. Some (asked_by f)) c.in-Boot.is) refl c.boot.ensures.reads c.boot.ensures.follows c.boot.ensures.left

pub returns-in-Update-clause-answered : goal.returns-in-Update-clause-answered
returns-in-Update-clause-answered g c = λ e f.
    let old = outside (g.I.Inputs.state c.args.inputs.now) (g.F.Flash.state c.args.flash.now) (g.O.Sink.state c.args.out.now) e in
    let new = outside (g.I.Inputs.state c.update.new.inputs) (g.F.Flash.state c.update.new.flash) (g.O.Sink.state c.args.out.now) f in
    silent_answered _ (form.Update c.in-Update.name.now c.in-Update.stream.now) old new _ _ (ap asked_by c.in-Update.is) c.unstopped-in-Update.ensures (c.update.ensures.answered old new refl)

pub returns-in-Update-clause-flash : goal.returns-in-Update-clause-flash
returns-in-Update-clause-flash g c =
    uses_as _ (form.Update c.in-Update.name.now c.in-Update.stream.now) _ _ _ (ap (λ f. Some (asked_by f)) c.in-Update.is) c.update.ensures.flash

pub returns-in-Mcs-clause-answered : goal.returns-in-Mcs-clause-answered
returns-in-Mcs-clause-answered g c = λ e f.
    let flash = g.F.Flash.state c.args.flash.now in
    ready_answered _ (form.Mcs c.in-Mcs.image.now) (outside (g.I.Inputs.state c.args.inputs.now) flash (g.O.Sink.state c.args.out.now) e) (outside (g.I.Inputs.state c.mcs.new.inputs) flash (g.O.Sink.state c.put_whole-in-Mcs.new.out) f) (result_by mcs_answer c.mcs.result) _
    (ap asked_by c.in-Mcs.is) refl refl c.mcs.ensures c.put_whole-in-Mcs.ensures.put

pub returns-in-Mcs-clause-flash : goal.returns-in-Mcs-clause-flash
returns-in-Mcs-clause-flash g c = uses_same _ _ (g.F.Flash.state c.args.flash.now)

pub returns-in-Unmcs-clause-answered : goal.returns-in-Unmcs-clause-answered
returns-in-Unmcs-clause-answered g c = λ e f.
    let flash = g.F.Flash.state c.args.flash.now in
    ready_answered _ (form.Unmcs c.in-Unmcs.text.now) (outside (g.I.Inputs.state c.args.inputs.now) flash (g.O.Sink.state c.args.out.now) e) (outside (g.I.Inputs.state c.unmcs.new.inputs) flash (g.O.Sink.state c.put_whole-in-Unmcs.new.out) f) (result_by bytes_answer c.unmcs.result) _
    (ap asked_by c.in-Unmcs.is) refl refl c.unmcs.ensures c.put_whole-in-Unmcs.ensures.put

pub returns-in-Unmcs-clause-flash : goal.returns-in-Unmcs-clause-flash
returns-in-Unmcs-clause-flash g c = uses_same _ _ (g.F.Flash.state c.args.flash.now)

-- ---- the output fails last

pub returns-in-List-clause-failed_last : goal.returns-in-List-clause-failed_last
returns-in-List-clause-failed_last g c = rw c.unstopped.ensures c.list.ensures.failed_last

pub returns-in-Update-clause-failed_last : goal.returns-in-Update-clause-failed_last
returns-in-Update-clause-failed_last g c = unused_output (g.O.Sink.state c.args.out.now) _
