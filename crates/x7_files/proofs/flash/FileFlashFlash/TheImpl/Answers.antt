use Rattle.std.proofs.Common.{None, refl, length}
use Rattle.x7_ghost.specs.Answered.{erase_call, program_call}
use Rattle.x7_files.proofs.FileFlashLemmas.{attached_ok, attached_refused, attached_err, attached_quiet, attach_called, attach_write_faults, failed_read_at, failed_write, only_reads, only_writes, quiet_read_at, quiet_write, read_called, write_called, unknown_read_at, unknown_torn, unknown_written}
use Rattle.x7_words.proofs.FlashLemmas.{answer_asks_none}
use Rattle.x7_files.specs.Flash.{known_flash}
use Rattle.x7_files.proofs.flash.FileFlashFlash.TheImpl.Goals as goal

pub attach-tells : goal.attach-tells
attach-tells g c =
    let old = c.args.self.now in
    let new = c.new.self.now in
    record {
      attached = attached_ok _ new.extent new.file c.result c.ensures.extent;
      refused = attached_refused old new c.args.name.now c.result c.ensures.after;
      not_attached = attached_err old new c.args.name.now c.result c.ensures.after;
      no_fault = attached_quiet old new c.args.name.now c.result c.ensures.after;
      called = attach_called old new c.args.name.now c.result c.ensures.after;
      stays = record {
        bytes = refl;
        faults = c.ensures.faults.never_falls;
        absences = c.ensures.absences.never_falls;
        write_faults = attach_write_faults old new c.args.name.now c.result c.ensures.after;
      };
      known_length = tt;
      bytes = tt;
      fits = (c.ensures.faults.fits, c.ensures.absences.fits);
    }

pub read_at-tells : goal.read_at-tells
read_at-tells g c =
    let old = c.args.self.now in
    let new = c.new.self.now in
    let buffer = c.new.buf.now in
    let called = read_called old new c.args.place (length c.args.buf.now) buffer c.result c.requires.attached c.ensures.is_open c.ensures.length c.ensures.no_fault c.ensures.failed in
    record {
      read = unknown_read_at c.result;
      length = c.ensures.length;
      no_fault = quiet_read_at old new new.file _ c.result c.ensures.no_fault;
      failed = failed_read_at old new new.file _ c.result c.ensures.failed;
      read_call = called.0;
      failed_call = called.1;
      only = only_reads old new _ c.result c.requires.attached c.ensures.is_open c.ensures.no_fault c.ensures.failed c.ensures.faults.never_falls (answer_asks_none c.result _ _ (known_flash old) (known_flash new) refl refl called.0 called.1);
      known_length = tt;
      fits = c.ensures.faults.fits;
    }

pub erase-tells : goal.erase-tells
erase-tells g c =
    let old = c.args.self.now in
    let new = c.new.self.now in
    let called = write_called old new (erase_call c.args.sector) c.result c.requires.attached c.ensures.is_open c.ensures.no_fault c.ensures.failed in
    record {
      erased = unknown_written c.result None;
      torn = unknown_torn c.result None;
      failed = failed_write old new new.file _ c.result c.ensures.failed;
      no_fault = quiet_write old new new.file _ c.result c.ensures.no_fault;
      erase_call = called.0;
      failed_call = called.1;
      only = only_writes old new _ c.result c.requires.attached c.ensures.is_open c.ensures.no_fault c.ensures.failed c.ensures.write_faults.never_falls (answer_asks_none c.result _ _ (known_flash old) (known_flash new) refl refl called.0 called.1);
      known_length = tt;
      fits = c.ensures.write_faults.fits;
    }

pub program-tells : goal.program-tells
program-tells g c =
    let old = c.args.self.now in
    let new = c.new.self.now in
    let called = write_called old new (program_call c.args.place c.args.given.now) c.result c.requires.attached c.ensures.is_open c.ensures.no_fault c.ensures.failed in
    record {
      programmed = unknown_written c.result None;
      torn = unknown_torn c.result None;
      failed = failed_write old new new.file _ c.result c.ensures.failed;
      no_fault = quiet_write old new new.file _ c.result c.ensures.no_fault;
      program_call = called.0;
      failed_call = called.1;
      only = only_writes old new _ c.result c.requires.attached c.ensures.is_open c.ensures.no_fault c.ensures.failed c.ensures.write_faults.never_falls (answer_asks_none c.result _ _ (known_flash old) (known_flash new) refl refl called.0 called.1);
      known_length = tt;
      fits = c.ensures.write_faults.fits;
    }
