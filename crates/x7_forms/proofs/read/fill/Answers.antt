use Rattle.std.proofs.Common.{◌+◌, ◌-◌, ◌∙◌, length, length-take-le, refl, arith}
use Rattle.std.proofs.lemmas.Slice.{overwrites, take-put_mid}
use Rattle.x7_words.proofs.CountLemmas.{risen_from}
use Rattle.x7_words.proofs.InputLemmas.{stays_on, takes_as, takes_on}
use Rattle.x7_forms.proofs.ReadLemmas.{filled, no_fault_on}
use Rattle.x7_forms.proofs.read.fill.Goals as goal

pub loop-at-preserved : goal.loop-at-preserved
loop-at-preserved g c =
    let i = c.loop-at.invariant in
    let read = c.in-Ok.ensures in
    let at = c.loop-at.at in
    let part = take-put_mid at (length c.loop-at.buffer - at) c.loop-at.buffer c.read.new.buf (at + length c.read.new.buf) refl i.within in
    record {
      within = grind (arith, overwrites, read.length, read.within);
      length = grind (arith, overwrites, read.length, i.length);
      took = takes_as _ _ _ _ (filled c.loop-at.buffer c.read.new.buf _ at c.in-Ok.count i.within (omega (arith, read.length, read.within)) part) (takes_on _ _ _ _ _ c.read.ensures.stays i.took read.read);
      asked = c.read.ensures.asks.asked ∙ i.asked;
      ends = omega (arith, i.ends, read.no_end (omega arith));
      inputs = stays_on _ _ _ i.inputs read.stays;
      no_fault = no_fault_on _ _ _ i.no_fault read.no_fault;
    }

pub returns-in-Err-clause-failed : goal.returns-in-Err-clause-failed
returns-in-Err-clause-failed g c =
    let i = g.I.Inputs in
    let v = c.loop-at.invariant in
    record {
      risen = risen_from (i.state c.args.inputs.now).faults (i.state c.loop-at.inputs).faults (i.state c.read.new.self).faults v.inputs.faults c.in-Err.ensures.failed.faults;
      selected = c.in-Err.ensures.failed.selected;
      given = omega (arith, v.took.given, c.in-Err.ensures.failed.given, length-take-le c.loop-at.at c.loop-at.buffer v.within, v.length, c.loop-at-test.true);
    }

pub returns-in-Err-clause-gives : goal.returns-in-Err-clause-gives
returns-in-Err-clause-gives g c =
    let v = c.loop-at.invariant in
    record {
      asked = c.read.ensures.asks.asked ∙ v.asked;
      selects = c.read.ensures.asks.selects ∙ v.took.selects;
      ends = omega (arith, v.ends, c.read.ensures.asks.ends);
      given = omega (arith, v.took.given, c.in-Err.ensures.failed.given, length-take-le c.loop-at.at c.loop-at.buffer v.within, v.within, v.length);
      stays = stays_on _ _ _ v.inputs c.read.ensures.stays;
    }

pub returns-clause-fills : goal.returns-clause-fills
returns-clause-fills g c =
    let v = c.loop-at.invariant in
    record { takes = v.took; within = v.within; end = λ few. absurd (omega (arith, few, c.loop-at-test.false)); no_end_read = λ all. v.ends }

pub returns-clause-gives : goal.returns-clause-gives
returns-clause-gives g c =
    let v = c.loop-at.invariant in
    record { asked = v.asked; selects = v.took.selects; ends = omega (arith, v.ends); given = omega (arith, v.took.given, length-take-le c.loop-at.at c.loop-at.buffer v.within, v.within, v.length); stays = v.inputs }
