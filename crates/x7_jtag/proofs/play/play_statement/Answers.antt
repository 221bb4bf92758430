use Rattle.std.proofs.Common.{◌^◌, [], arith, ◌++◌, append-nil, ap, length, ◌∙◌, sym}
use Rattle.x7_svf.specs.declared.statement.Statement.{Statement}
use Rattle.x7_svf.specs.declared.statement.Statement.TheVariants as statement
use Rattle.x7_jtag.specs.Clocks.{clocks_of, from_reset}
use Rattle.x7_jtag.specs.Play.{difference}
use Rattle.x7_jtag.specs.Port.{port_after}
use Rattle.x7_jtag.proofs.PlayLemmas.{leave_length, of_statement, ready_left, ready_less, idle_ends, short_scan, stands_at}
use Rattle.x7_jtag.proofs.play.play_statement.Goals as goal

pub walk-requires : goal.walk-requires
walk-requires c = ready_less c.args.tap.now c.args.device.now (2 ^ 33) 5 (omega arith) c.requires

pub leave_reset-requires : goal.leave_reset-requires
leave_reset-requires c = ready_less c.args.tap.now c.args.device.now (2 ^ 33) 1 (omega arith) c.requires

pub leave_reset-requires-in-IdleClocks : goal.leave_reset-requires-in-IdleClocks
leave_reset-requires-in-IdleClocks c = ready_less c.args.tap.now c.args.device.now (2 ^ 33) 1 (omega arith) c.requires

pub idle-requires : goal.idle-requires
idle-requires c = ready_left c.args.tap.now c.leave_reset-in-IdleClocks.new.tap c.args.device.now c.leave_reset-in-IdleClocks.new.device (2 ^ 33) (2 ^ 32) c.requires c.leave_reset-in-IdleClocks.ensures (omega arith)

pub returns-in-IdleClocks-clause-clocks : goal.returns-in-IdleClocks-clause-clocks
returns-in-IdleClocks-clause-clocks c = λ part cs s.
    let t = (port_after part cs).state in
    of_statement part c.idle.new.tap c.idle.new.device cs t (statement.IdleClocks c.in-IdleClocks.count) c.args.statement.now c.in-IdleClocks.is
    (idle_ends part c.idle.new.tap c.idle.new.device cs t c.in-IdleClocks.count (c.idle.ensures.clocks part (cs ++ from_reset t) (c.leave_reset-in-IdleClocks.ensures part cs s)))

pub returns-in-IdleClocks-clause-found : goal.returns-in-IdleClocks-clause-found
returns-in-IdleClocks-clause-found c = λ part cs s. ap (difference part (port_after part cs)) (sym c.in-IdleClocks.is)

pub returns-in-Scan-clause-clocks : goal.returns-in-Scan-clause-clocks
returns-in-Scan-clause-clocks c = λ part cs s.
    of_statement part c.play_scan.new.tap c.play_scan.new.device cs (port_after part cs).state (statement.Scan c.in-Scan.scan) c.args.statement.now c.in-Scan.is (c.play_scan.ensures.clocks part cs s)

pub returns-in-Scan-clause-found : goal.returns-in-Scan-clause-found
returns-in-Scan-clause-found c = λ part cs s. c.play_scan.ensures.found part cs s ∙ ap (difference part (port_after part cs)) (sym c.in-Scan.is)

pub returns-in-Scan-clause-most : goal.returns-in-Scan-clause-most
returns-in-Scan-clause-most c = λ s. short_scan s c.in-Scan.scan c.args.statement.now c.in-Scan.is c.play_scan.ensures.most

pub returns-in-Reset : goal.returns-in-Reset
returns-in-Reset c = record {
  clocks = λ part cs s. of_statement part c.walk.new.tap c.walk.new.device cs (port_after part cs).state statement.Reset c.args.statement.now c.in-Reset.is (c.walk.ensures part cs s);
  most = λ s. omega (arith, ap (λ (x : Statement). length (clocks_of s x)) c.in-Reset.is);
  found = λ part cs s. ap (difference part (port_after part cs)) (sym c.in-Reset.is);
}

pub returns-in-Idle : goal.returns-in-Idle
returns-in-Idle c = record {
  clocks = λ part cs s. of_statement part c.leave_reset.new.tap c.leave_reset.new.device cs (port_after part cs).state statement.Idle c.args.statement.now c.in-Idle.is (c.leave_reset.ensures part cs s);
  most = λ s. omega (arith, ap (λ (x : Statement). length (clocks_of s x)) c.in-Idle.is, leave_length s);
  found = λ part cs s. ap (difference part (port_after part cs)) (sym c.in-Idle.is);
}

pub returns-in-Nothing : goal.returns-in-Nothing
returns-in-Nothing c = record {
  clocks = λ part cs s.
      of_statement part c.args.tap.now c.args.device.now cs (port_after part cs).state statement.Nothing c.args.statement.now c.in-Nothing.is (stands_at part c.args.tap.now c.args.device.now cs (cs ++ []) (sym (append-nil cs)) s);
  most = λ s. omega (arith, ap (λ (x : Statement). length (clocks_of s x)) c.in-Nothing.is);
  found = λ part cs s. ap (difference part (port_after part cs)) (sym c.in-Nothing.is);
}
