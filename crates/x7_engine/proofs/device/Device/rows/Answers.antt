use Rattle.std.proofs.Common.{ℕ, get_or, ap, ◌∙◌, arith}
use Rattle.std.proofs.lemmas.List.{length-set}
use Rattle.x7_regs.specs.declared.register.Reg.TheVariants.{Crc}
use Rattle.x7_engine.specs.Past.{past_of, value_owing_at}
use Rattle.x7_engine.specs.Shown.{shown_registers}
use Rattle.x7_engine.specs.Standing.{frames_due}
use Rattle.x7_engine.proofs.ShownLemmas.{row_more, rows_all}
use Rattle.x7_engine.proofs.device.Device.rows.Goals as goal

pub loop-i-preserved : goal.loop-i-preserved
loop-i-preserved c = record {
  long = length-set c.loop-i.rows c.loop-i.i _ ∙ c.loop-i.invariant.long;
  so_far = λ part kept wrapped bytes s.
      let value = value_owing_at (past_of part kept wrapped bytes) (frames_due c.args.self.now.registers.values.due) in
      row_more value c.loop-i.rows _ c.loop-i.i Crc (omega (arith, c.loop-i.invariant.long)) (omega arith) (c.loop-i.invariant.so_far part kept wrapped bytes s) (ap (λ (word : ℕ). (get_or shown_registers c.loop-i.i Crc, word)) (c.value.ensures.owing part kept wrapped bytes s));
}

pub returns : goal.returns
returns c = λ part kept wrapped bytes s.
    rows_all (value_owing_at (past_of part kept wrapped bytes) (frames_due c.args.self.now.registers.values.due)) c.loop-i.rows c.loop-i.i c.loop-i.invariant.long (omega (arith, c.loop-i-test.false)) (c.loop-i.invariant.so_far part kept wrapped bytes s)
