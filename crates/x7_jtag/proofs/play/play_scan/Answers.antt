use Rattle.std.proofs.Common.{◌++◌, ◌-◌, ◌^◌, arith}
use Rattle.x7_jtag.specs.Clocks.{from_reset, shift_clocks, to_shift}
use Rattle.x7_jtag.specs.Port.{port_after}
use Rattle.x7_jtag.proofs.PlayLemmas.{ready_in_shift, ready_left, ready_shifted, scan_ends, scan_finds}
use Rattle.x7_jtag.proofs.play.play_scan.Goals as goal

pub to_shift-requires : goal.to_shift-requires
to_shift-requires c = ready_left c.args.tap.now c.leave_reset.new.tap c.args.device.now c.leave_reset.new.device (2 ^ 33) 4 c.requires c.leave_reset.ensures (omega arith)

pub shift-found-requires : goal.shift-found-requires
shift-found-requires c =
    let r1 = ready_left c.args.tap.now c.leave_reset.new.tap c.args.device.now c.leave_reset.new.device (2 ^ 33) (2 ^ 33 - 1) c.requires c.leave_reset.ensures (omega arith) in
    ready_in_shift c.leave_reset.new.tap c.to_shift.new.tap c.leave_reset.new.device c.to_shift.new.device (2 ^ 33 - 1) (2 ^ 32) c.args.scan.now.register r1 c.to_shift.ensures (omega arith)

pub walk-requires : goal.walk-requires
walk-requires c =
    let r1 = ready_left c.args.tap.now c.leave_reset.new.tap c.args.device.now c.leave_reset.new.device (2 ^ 33) (2 ^ 33 - 1) c.requires c.leave_reset.ensures (omega arith) in
    let r2 = ready_in_shift c.leave_reset.new.tap c.to_shift.new.tap c.leave_reset.new.device c.to_shift.new.device (2 ^ 33 - 1) (2 ^ 33 - 5) c.args.scan.now.register r1 c.to_shift.ensures (omega arith) in
    ready_shifted c.to_shift.new.tap c.shift-found.new.tap c.to_shift.new.device c.shift-found.new.device (2 ^ 33 - 5) 2 c.args.scan.now.tdi r2 c.shift-found.ensures.clocks (omega (arith, c.shift-found.ensures.most))

pub returns-clause-clocks : goal.returns-clause-clocks
returns-clause-clocks c = λ part cs s.
    let t = (port_after part cs).state in
    scan_ends part c.walk.new.tap c.walk.new.device cs t c.args.scan.now
    (c.walk.ensures part (((cs ++ from_reset t) ++ to_shift c.args.scan.now.register) ++ shift_clocks c.args.scan.now.tdi)
    (c.shift-found.ensures.clocks part ((cs ++ from_reset t) ++ to_shift c.args.scan.now.register) (c.to_shift.ensures part (cs ++ from_reset t) (c.leave_reset.ensures part cs s))))

pub returns-clause-found : goal.returns-clause-found
returns-clause-found c = λ part cs s.
    let t = (port_after part cs).state in
    scan_finds part cs c.args.scan.now c.shift-found.result
    (c.shift-found.ensures.found part ((cs ++ from_reset t) ++ to_shift c.args.scan.now.register) (c.to_shift.ensures part (cs ++ from_reset t) (c.leave_reset.ensures part cs s)))
