use Rattle.std.proofs.Common.{◌<◌, rules, arith, ap, inl, inr}
use Rattle.std.specs.Prelude.{Err}
use Rattle.x7_boot.specs.Boot.{ReadsInBoot}
use Rattle.x7_boot.specs.Image.{flash_limit}
use Rattle.x7_boot.specs.Reads.{answers_since}
use Rattle.x7_forms.specs.Event.{event_of}
use Rattle.x7_device_forms.proofs.FlashLemmas.{reads_on}
use Rattle.x7_device_forms.proofs.BootTextLemmas.{boot_follows, boot_leaves, text_as_read, text_boots, short_flash, fault_boots}
use Rattle.x7_outcome.proofs.FlashLemmas.{attached_follows, attached_leaves}
use Rattle.x7_forms.proofs.ResultLemmas.{handed_on}
use Rattle.x7_device_forms.proofs.boot.boot_from.Goals as goal

pub returns-in_err-attach-clause-caused : goal.returns-in_err-attach-clause-caused
returns-in_err-attach-clause-caused g c = rw (handed_on c.from_residual.result c.in_err-attach.field-0.0 c.from_residual.ensures) (inr (inl c.in_err-attach.ensures.refused))

pub returns-in-Ok-clause-reads : goal.returns-in-Ok-clause-reads
returns-in-Ok-clause-reads g c = let f = g.F.Flash in
    reads_on c.args.flash_name.now (f.state c.args.flash.now) (f.state c.attach.new.flash) (f.state c.boot.new.flash) c.in_ok-attach.ensures.reads c.in-Ok.ensures.only_reads

pub returns-in-Err-clause-reads : goal.returns-in-Err-clause-reads
returns-in-Err-clause-reads g c = let f = g.F.Flash in
    reads_on c.args.flash_name.now (f.state c.args.flash.now) (f.state c.attach.new.flash) (f.state c.boot.new.flash) c.in_ok-attach.ensures.reads c.in-Err.ensures.only_reads

pub returns-in-Err-clause-caused : goal.returns-in-Err-clause-caused
returns-in-Err-clause-caused g c = let f = g.F.Flash in
    let b = c.in-Err.ensures in
    fault_boots c.args.flash_name.now c.args.part.now (f.state c.args.flash.now) (f.state c.attach.new.flash) (f.state c.boot.new.flash) c.in-Err.fault (event_of c.refusal_of.result)
    c.in_ok-attach.ensures.reads c.in_ok-attach.ensures.asks c.in_ok-attach.ensures.sized b.only_reads c.refusal_of.ensures (λ e. b.failed (search (rules, e))) (λ e. b.too_large.0 (ap Err e))

pub returns-in-Ok-clause-caused : goal.returns-in-Ok-clause-caused
returns-in-Ok-clause-caused g c = let f = g.F.Flash in
    let mid = f.state c.attach.new.flash in
    let b = c.in-Ok.ensures in
    let small : flash_limit < mid.extent → ⊥ = λ large. grind (arith, b.too_large.1 large) in
    text_boots c.args.flash_name.now c.args.part.now (f.state c.args.flash.now) mid (f.state c.boot.new.flash) c.in-Ok.booted c.text_of.result
    c.in_ok-attach.ensures.reads (short_flash mid c.in_ok-attach.ensures.sized small) b.booted b.no_word_due c.text_of.ensures.text c.text_of.ensures.refused (grind (arith, b.only_reads.extent, small))

-- ---- what was called

pub returns-in_err-attach-clause-left : goal.returns-in_err-attach-clause-left
returns-in_err-attach-clause-left g c = λ all found h. attached_leaves c.args.flash_name.now (g.F.Flash.state c.args.flash.now) (g.F.Flash.state c.attach.new.flash) all found c.in_err-attach.ensures.called_alone h

pub returns-in-Ok-clause-left : goal.returns-in-Ok-clause-left
returns-in-Ok-clause-left g c = let f = g.F.Flash in
    boot_leaves c.args.flash_name.now c.args.part.now (answers_since (f.state c.attach.new.flash) (f.state c.boot.new.flash)) (f.state c.args.flash.now) (f.state c.attach.new.flash) (f.state c.boot.new.flash) c.in_ok-attach.ensures.called c.in-Ok.ensures.called

pub returns-in-Err-clause-left : goal.returns-in-Err-clause-left
returns-in-Err-clause-left g c = let f = g.F.Flash in
    boot_leaves c.args.flash_name.now c.args.part.now (answers_since (f.state c.attach.new.flash) (f.state c.boot.new.flash)) (f.state c.args.flash.now) (f.state c.attach.new.flash) (f.state c.boot.new.flash) c.in_ok-attach.ensures.called c.in-Err.ensures.called

pub returns-in-Ok-clause-as_read : goal.returns-in-Ok-clause-as_read
returns-in-Ok-clause-as_read g c = let f = g.F.Flash in
    let mid = f.state c.attach.new.flash in
    let b = c.in-Ok.ensures in
    let small : flash_limit < mid.extent → ⊥ = λ large. grind (arith, b.too_large.1 large) in
    text_as_read c.args.flash_name.now c.args.part.now (ReadsInBoot c.args.part.now (answers_since mid (f.state c.boot.new.flash))) (f.state c.args.flash.now) mid (f.state c.boot.new.flash) c.in-Ok.booted c.text_of.result
    c.in_ok-attach.ensures.called b.called b.as_read b.no_word_due c.text_of.ensures.text (grind (arith, b.only_reads.extent, small))

pub returns-in_err-attach-clause-follows : goal.returns-in_err-attach-clause-follows
returns-in_err-attach-clause-follows g c = attached_follows c.args.flash_name.now (g.F.Flash.state c.args.flash.now) (g.F.Flash.state c.attach.new.flash) c.attach.ensures.stays c.in_err-attach.ensures.called_alone

pub returns-in-Ok-clause-follows : goal.returns-in-Ok-clause-follows
returns-in-Ok-clause-follows g c = let f = g.F.Flash in
    boot_follows c.args.flash_name.now c.args.part.now (answers_since (f.state c.attach.new.flash) (f.state c.boot.new.flash)) (f.state c.args.flash.now) (f.state c.attach.new.flash) (f.state c.boot.new.flash) c.attach.ensures.stays c.in_ok-attach.ensures.called c.in-Ok.ensures.only_reads.bytes c.in-Ok.ensures.called

pub returns-in-Err-clause-follows : goal.returns-in-Err-clause-follows
returns-in-Err-clause-follows g c = let f = g.F.Flash in
    boot_follows c.args.flash_name.now c.args.part.now (answers_since (f.state c.attach.new.flash) (f.state c.boot.new.flash)) (f.state c.args.flash.now) (f.state c.attach.new.flash) (f.state c.boot.new.flash) c.attach.ensures.stays c.in_ok-attach.ensures.called c.in-Err.ensures.only_reads.bytes c.in-Err.ensures.called
