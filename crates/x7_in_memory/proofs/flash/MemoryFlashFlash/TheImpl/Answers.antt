use Rattle.std.proofs.Common.{rules, ◌+◌, ◌*◌, ◌≤◌, length, refl, arith}
use Rattle.x7_ghost.specs.Answered.{erase_call, program_call}
use Rattle.x7_words.specs.Flash.{cleared, erased_sector}
use Rattle.x7_in_memory.specs.Memory.{known_flash}
use Rattle.x7_words.proofs.FlashLemmas.{answer_asks_none, length_cleared, length_erased_sector}
use Rattle.x7_in_memory.proofs.MemoryFlashLemmas.{attach_called, attach_quiet, attach_stays, promised, read_called, read_stays, write_called, write_stays}
use Rattle.x7_in_memory.proofs.flash.MemoryFlashFlash.TheImpl.Goals as goal

pub erase-tells : goal.erase-tells
erase-tells c =
    let old = c.args.self.now in
    let new = c.new.self.now in
    let p = promised old new (c.args.sector * 65536) erased_sector (omega (arith, length_erased_sector, c.requires.within)) (erase_call c.args.sector c.result) c.ensures.after c.result c.ensures.answer in
    let called = write_called old new (c.args.sector * 65536) erased_sector (erase_call c.args.sector) c.result c.ensures.after p.extent in
    record {
      erased = p.written;
      torn = p.torn;
      failed = p.failed;
      no_fault = p.quiet;
      erase_call = called.0;
      failed_call = called.1;
      only = write_stays old new _ (c.args.sector * 65536) erased_sector c.ensures.after p.extent c.ensures.write_faults.never_falls (answer_asks_none c.result _ _ (known_flash old) (known_flash new) refl refl called.0 called.1);
      known_length = refl;
      fits = c.ensures.write_faults.fits;
    }

pub program-tells : goal.program-tells
program-tells c =
    let old = c.args.self.now in
    let new = c.new.self.now in
    let target = cleared c.args.place c.args.given.now old.bytes in
    let within : c.args.place + length target ≤ length old.bytes = omega (arith, length_cleared c.args.place c.args.given.now old.bytes c.requires.within, c.requires.within) in
    let p = promised old new c.args.place target within (program_call c.args.place c.args.given.now c.result) c.ensures.after c.result c.ensures.answer in
    let called = write_called old new c.args.place target (program_call c.args.place c.args.given.now) c.result c.ensures.after p.extent in
    record {
      programmed = p.written;
      torn = p.torn;
      failed = p.failed;
      no_fault = p.quiet;
      program_call = called.0;
      failed_call = called.1;
      only = write_stays old new _ c.args.place target c.ensures.after p.extent c.ensures.write_faults.never_falls (answer_asks_none c.result _ _ (known_flash old) (known_flash new) refl refl called.0 called.1);
      known_length = refl;
      fits = c.ensures.write_faults.fits;
    }

pub attach-tells : goal.attach-tells
attach-tells c =
    let old = c.args.self.now in
    let new = c.new.self.now in
    record {
      attached = search rules;
      refused = search rules;
      not_attached = search rules;
      no_fault = attach_quiet old new c.args.name.now _ c.result c.ensures.answer c.ensures.after;
      called = attach_called old new c.args.name.now c.result c.ensures.after;
      stays = attach_stays old new c.args.name.now _ c.ensures.after c.ensures.faults.never_falls c.ensures.absences.never_falls;
      known_length = refl;
      bytes = c.ensures.bytes;
      fits = (c.ensures.faults.fits, c.ensures.absences.fits);
    }

pub read_at-tells : goal.read_at-tells
read_at-tells c =
    let old = c.args.self.now in
    let new = c.new.self.now in
    let called = read_called old new c.args.place (length c.args.buf.now) c.new.buf.now c.result c.ensures.after c.ensures.length in
    record {
      read = search rules;
      length = c.ensures.length;
      no_fault = search rules;
      failed = search rules;
      read_call = called.0;
      failed_call = called.1;
      only = read_stays old new _ c.ensures.after c.ensures.faults.never_falls (answer_asks_none c.result _ _ (known_flash old) (known_flash new) refl refl called.0 called.1);
      known_length = refl;
      fits = c.ensures.faults.fits;
    }
