use Rattle.std.proofs.Common.{◌≡◌, ◌*◌, ◌-◌, ◌^◌, ◌++◌, ℕ, take, drop, length, arith, ap, sym, ◌∙◌}
use Rattle.x7_svf.specs.Bits.{bytes_bits}
use Rattle.x7_jtag.specs.Clocks.{shift_clocks}
use Rattle.x7_jtag.proofs.PlayLemmas.{bytes_on, ready_bytes, ready_holds}
use Rattle.x7_jtag.proofs.play.shift_bytes.Goals as goal

pub shift_bytes-requires-clause-fits : goal.shift_bytes-requires-clause-fits
shift_bytes-requires-clause-fits c = ready_holds c.loop-at.tap c.loop-at.device (2 ^ 32 - c.loop-at.at) (length c.as_slice-bytes.result.now) c.loop-at.invariant.ready (omega (arith, c.as_slice-bytes.ensures.fits))

pub loop-at-preserved : goal.loop-at-preserved
loop-at-preserved c =
    let bytes = c.as_slice-bytes.result.now in
    let count : length bytes ≡ length c.bytes_from-piece.result.items = ap length c.as_slice-bytes.ensures.value in
    record {
      stands = λ part cs s.
          bytes_on part c.shift_bytes.new.self c.shift_bytes.new.device cs c.args.scan.now.tdi bytes c.loop-at.at _
          (ap bytes_bits c.as_slice-bytes.ensures.value ∙ c.bytes_from-piece.ensures.bits ∙ ap (λ (n : ℕ). take (8 * n) (drop c.loop-at.at c.args.scan.now.tdi)) (sym count)) (omega (arith, c.bytes_from-piece.ensures.within, count)) (omega arith)
          (c.shift_bytes.ensures.clocks part (cs ++ take c.loop-at.at (shift_clocks c.args.scan.now.tdi)) (c.loop-at.invariant.stands part cs s));
      takes = c.shift_bytes.ensures.takes;
      whole = omega (arith, c.loop-at.invariant.whole);
      within = omega (arith, c.bytes_from-piece.ensures.within, count);
      ready = ready_bytes c.loop-at.tap c.shift_bytes.new.self c.loop-at.device c.shift_bytes.new.device (2 ^ 32 - c.loop-at.at) _ bytes c.loop-at.invariant.ready c.shift_bytes.ensures.clocks (omega (arith, c.bytes_from-piece.ensures.within, count));
    }
