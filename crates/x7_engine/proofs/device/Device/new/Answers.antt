use Rattle.std.proofs.Common.{[], false, refl, sym, subst, ap}
use Rattle.x7_packets.specs.Reading.{Searching}
use Rattle.x7_part.specs.Part.{PartData}
use Rattle.x7_flow.specs.Standing.{FramesFit}
use Rattle.x7_engine.specs.declared.due.Due.{Due}
use Rattle.x7_engine.specs.Kept.{on_the_bench}
use Rattle.x7_engine.specs.Past.{past_of}
use Rattle.x7_engine.specs.Standing.{DeviceStandsFor, due_count, registers_in, words_still_due}
use Rattle.x7_engine.specs.Stop.{stop_at_place}
use Rattle.x7_engine.proofs.device.Device.new.Goals as goal

-- the device that took nothing
first : (c : goal.After-new-3) → DeviceStandsFor c.args.part.now on_the_bench false (record { part = c.in_ok-part.part; cutter = c.new-2.result; registers = registers_in c.new-3.result; wrapped = false; taken = 0; fed = 0 }) []
first c = record {
  fits = tt;
  part_is = c.in_ok-part.ensures;
  wrapped_is = refl;
  taken_is = refl;
  stop_is = sym (ap (stop_at_place 0) c.new-3.ensures.going);
  registers_are = c.new-3.ensures.stands c.args.part.now c.in_ok-frames.ensures.stands;
  cutter_is = λ _. record { sessions = []; place = Searching []; stands = c.new-2.ensures };
  due_are = record { given = []; all = sym (ap (λ (d : Due). words_still_due c.args.part.now [] d) c.new-3.ensures.no_word_due) };
  none_due_at_stop = λ why q. ap due_count c.new-3.ensures.no_word_due;
}

pub invariant_of-result : goal.invariant_of-result
invariant_of-result c = record {
  frames = subst (λ (p : PartData). FramesFit p c.new-3.result.frames) (sym c.in_ok-part.ensures) (subst (FramesFit c.args.part.now) (sym c.new-3.ensures.frames) c.in_ok-frames.ensures.part);
  past = record { past = past_of c.args.part.now on_the_bench false []; has = first c };
}

pub returns-clause-stands : goal.returns-clause-stands
returns-clause-stands c = first c
