use Rattle.std.proofs.Common.{◌<◌, ◌==◌, ◌+◌, ◌-◌, ◌^◌, ◌++◌, ℕ, take, length, arith, ap}
use Rattle.x7_jtag.specs.Clocks.{clock, shift_clocks}
use Rattle.x7_jtag.specs.Play.{tdo_differs_at}
use Rattle.x7_jtag.specs.Port.{port_after}
use Rattle.x7_jtag.proofs.PlayLemmas.{found_ends, found_on, ready_clocked, ready_fits, shift_ends, shift_on, shown_is}
use Rattle.x7_jtag.proofs.play.shift_from.Goals as goal

pub clock-shown-requires : goal.clock-shown-requires
clock-shown-requires c = ready_fits c.loop-i.tap c.loop-i.device (2 ^ 32 - c.loop-i.i) c.loop-i.invariant.ready (omega (arith, c.loop-i-test.true, c.len-count.type_inv))

pub loop-i-preserved : goal.loop-i-preserved
loop-i-preserved c =
    let inside : c.loop-i.i < length c.args.scan.now.tdi = omega (arith, c.loop-i-test.true, c.len-count.ensures) in
    record {
      stands = λ part cs s.
          shift_on part c.loop-i.tap c.clock-shown.new.self c.loop-i.device c.clock-shown.new.device cs c.args.scan.now.tdi c.loop-i.i (c.loop-i.i + 1) _ c.scan_bit.result
          (c.loop-i.invariant.stands part cs s) inside (omega arith) (ap (λ (n : ℕ). c.loop-i.i == n - 1) c.len-count.ensures) c.scan_bit.ensures
          (c.clock-shown.ensures.clocks part (cs ++ take c.loop-i.i (shift_clocks c.args.scan.now.tdi)) (c.loop-i.invariant.stands part cs s));
      found = λ part cs s.
          found_on (tdo_differs_at part (port_after part cs) c.args.scan.now) c.loop-i.found c.first_found-found.result (length c.args.scan.now.tdi) c.loop-i.i (c.loop-i.i + 1) c.differs_from_wanted.result _ inside (omega arith) (c.loop-i.invariant.found part cs s)
          (shown_is part cs c.args.scan.now c.loop-i.i c.clock-shown.result c.differs_from_wanted.result (c.clock-shown.ensures.tdo part (cs ++ take c.loop-i.i (shift_clocks c.args.scan.now.tdi)) (c.loop-i.invariant.stands part cs s)) c.differs_from_wanted.ensures) c.first_found-found.ensures;
      ready = ready_clocked c.loop-i.tap c.clock-shown.new.self c.loop-i.device c.clock-shown.new.device (2 ^ 32 - c.loop-i.i) (2 ^ 32 - (c.loop-i.i + 1)) (clock _ c.scan_bit.result) c.loop-i.invariant.ready c.clock-shown.ensures.clocks (omega (arith, c.loop-i-test.true, c.len-count.type_inv));
    }

pub returns-clause-clocks : goal.returns-clause-clocks
returns-clause-clocks c = λ part cs s. shift_ends part c.loop-i.tap c.loop-i.device cs c.args.scan.now.tdi c.loop-i.i (omega (arith, c.loop-i-test.false, c.len-count.ensures)) (c.loop-i.invariant.stands part cs s)

pub returns-clause-found : goal.returns-clause-found
returns-clause-found c = λ part cs s.
    found_ends (tdo_differs_at part (port_after part cs) c.args.scan.now) c.loop-i.found (length c.args.scan.now.tdi) c.loop-i.i _ (omega (arith, c.loop-i-test.false, c.len-count.ensures)) (c.loop-i.invariant.found part cs s)
