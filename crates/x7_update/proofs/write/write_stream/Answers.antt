use Rattle.std.proofs.Common.{◌/◌, [], ◌∷◌, refl}
use Rattle.x7_packets.specs.FlashSlot.{sector_size}
use Rattle.x7_words.specs.FlashHistory.{history_of}
use Rattle.x7_words.specs.declared.flash_call.FlashCall.TheVariants.{Programmed, ProgramFailed}
use Rattle.x7_words.proofs.FollowLemmas.{follow_program}
use Rattle.x7_update.specs.UpdateCalls.{erasing, sectors_from}
use Rattle.x7_update.specs.Made.{write_failed}
use Rattle.x7_update.proofs.MadeLemmas.{err_here, err_on, ok_on, on_err, stops_more}
use Rattle.x7_update.proofs.StepLemmas.{write_on}
use Rattle.x7_update.proofs.write.write_stream.Goals as goal

pub returns-clause-writes : goal.returns-clause-writes
returns-clause-writes g c =
    let mid = g.F.Flash.state c.erase_from.new.flash in
    let last = g.F.Flash.state c.program.new.self in
    let p = c.program.ensures in
    write_on (g.F.Flash.state c.args.flash.now) mid last c.erase_from.ensures.writes
    (record { follows = follow_program c.program.result c.args.place c.args.stream.now mid last p.programmed p.torn p.program_call p.failed_call; only = p.only })

-- ---- calls

pub returns-clause-written_calls : goal.returns-clause-written_calls
returns-clause-written_calls g c =
    let first = history_of (g.F.Flash.state c.args.flash.now) in
    ok_on first (history_of (g.F.Flash.state c.erase_from.new.flash)) (history_of (g.F.Flash.state c.program.new.self))
    (erasing (c.args.place / sector_size) (sectors_from c.args.place first.size)) (Programmed c.args.place c.args.stream.now ∷ []) c.in_ok-erase_from.ensures.erased_calls c.program.result c.program.ensures.program_call

pub returns-clause-failed_calls : goal.returns-clause-failed_calls
returns-clause-failed_calls g c =
    let first = history_of (g.F.Flash.state c.args.flash.now) in
    let mid = history_of (g.F.Flash.state c.erase_from.new.flash) in
    let last = history_of (g.F.Flash.state c.program.new.self) in
    let call = Programmed c.args.place c.args.stream.now in
    err_on first mid last (erasing (c.args.place / sector_size) (sectors_from c.args.place first.size)) (call ∷ []) c.in_ok-erase_from.ensures.erased_calls write_failed c.program.result
    (err_here call (ProgramFailed c.args.place c.args.stream.now) mid last write_failed c.program.result refl c.program.ensures.failed_call)

pub returns-in_err-erase_from-clause-failed_calls : goal.returns-in_err-erase_from-clause-failed_calls
returns-in_err-erase_from-clause-failed_calls g c =
    let first = history_of (g.F.Flash.state c.args.flash.now) in
    on_err _ c.from_residual.result (stops_more (erasing (c.args.place / sector_size) (sectors_from c.args.place first.size)) (Programmed c.args.place c.args.stream.now ∷ []) first (history_of (g.F.Flash.state c.erase_from.new.flash)) write_failed c.in_err-erase_from.ensures.failed_calls)
