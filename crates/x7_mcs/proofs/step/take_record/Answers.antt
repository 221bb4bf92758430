use Rattle.std.proofs.Common.{Ok, ap, subst, sym, ◌∙◌}
use Rattle.x7_mcs.specs.Flash.{after_data, after_meaning}
use Rattle.x7_mcs.specs.Readings.{CallComesTo, flash_reading_at}
use Rattle.x7_mcs.proofs.step.take_record.Goals as goal

pub returns-in-Start : goal.returns-in-Start
returns-in-Start c = λ xs h.
    record { records = xs; came = ap (after_meaning c.args.line_number (flash_reading_at c.args.context xs) c.args.bytes.now) (sym c.in_ok-meaning_of.ensures.meaning ∙ ap Ok c.in-Start.is); holds = h }

pub returns-in-End : goal.returns-in-End
returns-in-End c = λ xs h.
    record { records = xs; came = ap (after_meaning c.args.line_number (flash_reading_at c.args.context xs) c.args.bytes.now) (sym c.in_ok-meaning_of.ensures.meaning ∙ ap Ok c.in-End.is); holds = h }

pub returns-in-Base : goal.returns-in-Base
returns-in-Base c = λ xs h.
    record { records = xs; came = ap (after_meaning c.args.line_number (flash_reading_at c.args.context xs) c.args.bytes.now) (sym c.in_ok-meaning_of.ensures.meaning ∙ ap Ok c.in-Base.is); holds = h }

pub returns-in-Data : goal.returns-in-Data
returns-in-Data c = λ xs h.
    let n = c.args.line_number in
    let r = flash_reading_at c.args.context xs in
    let image = c.take_data.new.image in
    subst (λ m. CallComesTo c.take_data.result (after_meaning n r c.args.bytes.now m) image) (ap Ok (sym c.in-Data.is) ∙ c.in_ok-meaning_of.ensures.meaning)
    (subst (λ content. CallComesTo c.take_data.result (after_data n r c.in-Data.address content) image) c.record_data.ensures.content (c.take_data.ensures xs h))
