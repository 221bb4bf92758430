use Rattle.std.proofs.Common.{[], ◌∷◌, None, Some, inl, refl}
use Rattle.x7_forms.specs.AskedForm as form
use Rattle.x7_forms.specs.Event.{event_of}
use Rattle.x7_outcome.specs.Outside.{sources}
use Rattle.x7_outcome.specs.Play.{play_answer}
use Rattle.x7_forms.specs.Step.{CameIn, result_by, step_over}
use Rattle.x7_device_forms.proofs.FlashLemmas.{boot_last, boot_measured, booted_ends, boots_as_read, no_part_last, no_part_measured, part_good, part_refused}
use Rattle.x7_forms.specs.Known.{part_limit}
use Rattle.x7_device_forms.proofs.StopLemmas.{boot_stops, comes_judges, untouched_judges}
use Rattle.x7_words.proofs.FollowLemmas.{follow_none}
use Rattle.x7_outcome.proofs.FlashLemmas.{leaves_same}
use Rattle.x7_outcome.proofs.ReadyLemmas.{at_ok}
use Rattle.x7_outcome.proofs.StopLemmas.{first_stops}
use Rattle.x7_forms.proofs.AskedLemmas.{no_part_about}
use Rattle.x7_forms.specs.ReadingStops.{limited}
use Rattle.x7_forms.proofs.ResultLemmas.{handed_on}
use Rattle.x7_device_forms.proofs.boot.boot.Goals as goal

pub returns-clause-ready : goal.returns-clause-ready
returns-clause-ready g c =
    let old = g.I.Inputs.state c.args.inputs.now in
    let new = g.I.Inputs.state c.read_part.new.inputs in
    let first = g.F.Flash.state c.args.flash.now in
    let last = g.F.Flash.state c.boot_from.new.flash in
    let name = c.args.flash_name.now in
    let part_name = c.args.part_name.now in
    let part = c.in_ok-part.part in
    let made = result_by play_answer c.boot_from.result in
    let C = CameIn (step_over (part_name ∷ []) old new) in
    record {
      caused = λ before after. booted_ends (record before { inputs = old; flash = first }) (record after { inputs = new; flash = last }) name part_name part C made (c.in_ok-part.ensures.caused first.bytes) c.boot_from.ensures.caused;
      as_read = boots_as_read play_answer C name part_name part (sources old first) (sources new last) c.boot_from.result (λ all. c.in_ok-part.ensures.caused (Some all)) c.boot_from.ensures.as_read;
      stops = boot_stops name part_name part old new first last made c.boot_from.ensures.caused;
      measured = boot_measured (Some (form.Boot part_name name)) name part first last made c.boot_from.ensures.caused;
      fails_last = boot_last play_answer name part_name new last c.boot_from.result c.boot_from.ensures.failed (part_good new.contents C name part_name part (c.in_ok-part.ensures.caused None));
      judges = comes_judges part_name name part old new first last made c.boot_from.ensures.caused;
      asks = c.read_part.ensures.asks.once;
      stays = c.read_part.ensures.asks.stays;
      no_fault = at_ok made c.in_ok-part.ensures.no_fault;
    }

pub returns-in_err-part-clause-ready : goal.returns-in_err-part-clause-ready
returns-in_err-part-clause-ready g c = rw (handed_on c.from_residual.result c.in_err-part.field-0.0 c.from_residual.ensures) (let old = g.I.Inputs.state c.args.inputs.now in
    let new = g.I.Inputs.state c.read_part.new.inputs in
    let flash = g.F.Flash.state c.args.flash.now in
    let name = c.args.flash_name.now in
    let part_name = c.args.part_name.now in
    let event = event_of c.in_err-part.field-0.0 in
    record {
      caused = λ before after. part_refused (record before { inputs = old; flash = flash }) (record after { inputs = new; flash = flash }) name part_name event (c.in_err-part.ensures.caused flash.bytes);
      as_read = tt;
      stops = first_stops (form.Boot part_name name) (limited part_limit part_name) [] old new event refl c.read_part.ensures.asks.last c.read_part.ensures.asks.once (no_part_about part_name event c.in_err-part.ensures.named);
      measured = no_part_measured (Some (form.Boot part_name name)) flash part_name event (inl refl) c.in_err-part.ensures.named;
      fails_last = no_part_last (form.Boot part_name name) new flash part_name event (inl refl) c.in_err-part.ensures.named;
      judges = untouched_judges part_name name old new flash event;
      asks = c.read_part.ensures.asks.once;
      stays = c.read_part.ensures.asks.stays;
      no_fault = tt;
    })

pub returns-in_err-part-clause-left : goal.returns-in_err-part-clause-left
returns-in_err-part-clause-left g c = leaves_same (g.F.Flash.state c.args.flash.now)

pub returns-in_err-part-clause-follows : goal.returns-in_err-part-clause-follows
returns-in_err-part-clause-follows g c = follow_none (g.F.Flash.state c.args.flash.now)
