use Rattle.std.proofs.Common.{◌*◌, refl}
use Rattle.x7_packets.specs.FlashSlot.{flash_slot_size}
use Rattle.x7_update.specs.Layout.{open_switch}
use Rattle.x7_words.specs.declared.flash_call.FlashCall.TheVariants.{Programmed, ProgramFailed}
use Rattle.x7_words.proofs.FollowLemmas.{follow_program}
use Rattle.x7_update.specs.Made.{write_failed}
use Rattle.x7_update.proofs.MadeLemmas.{err_here}
use Rattle.x7_words.specs.FlashHistory.{history_of}
use Rattle.x7_update.proofs.switch.open_free_slot.Goals as goal

pub returns-clause-writes : goal.returns-clause-writes
returns-clause-writes g c =
    let p = c.program.ensures in
    record {
      follows = follow_program c.program.result (flash_slot_size * c.args.slot) open_switch (g.F.Flash.state c.args.flash.now) (g.F.Flash.state c.program.new.self) p.programmed p.torn p.program_call p.failed_call;
      only = p.only;
    }

pub returns-clause-failed_calls : goal.returns-clause-failed_calls
returns-clause-failed_calls g c =
    let place = flash_slot_size * c.args.slot in
    err_here (Programmed place open_switch) (ProgramFailed place open_switch) (history_of (g.F.Flash.state c.args.flash.now)) (history_of (g.F.Flash.state c.program.new.self)) write_failed c.program.result refl c.program.ensures.failed_call
