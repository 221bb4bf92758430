use Rattle.std.proofs.Common.{[], false, refl, sym, subst, ap}
use Rattle.x7_packets.specs.Reading.{Searching}
use Rattle.x7_part.specs.Part.{PartData}
use Rattle.x7_flow.specs.Standing.{FramesFit}
use Rattle.x7_engine.specs.declared.due.Due.{Due}
use Rattle.x7_engine.specs.Past.{past_of}
use Rattle.x7_engine.specs.Standing.{DeviceStandsFor, DeviceState, due_count, registers_in, words_still_due}
use Rattle.x7_engine.specs.Stop.{stop_at_place}
use Rattle.x7_engine.proofs.device.Device.reset.Goals as goal

-- the device that took nothing
first : (c : goal.After-self-3-1) → DeviceStandsFor c.args.self.now.part c.args.keep false (record { part = c.self.inside.part; cutter = c.new-self-inside.result; registers = registers_in c.reset.new.self; wrapped = false; taken = 0; fed = c.self.inside.fed }) []
first c =
    let fit : FramesFit c.args.self.now.part c.self.inside.registers.frames = subst (λ (p : PartData). FramesFit p c.self.inside.registers.frames) (ap (λ (d : DeviceState). d.part) c.self.view_is) c.self.invariant.frames in
    record {
      fits = tt;
      part_is = ap (λ (d : DeviceState). d.part) c.self.view_is;
      wrapped_is = refl;
      taken_is = refl;
      stop_is = sym (ap (stop_at_place 0) c.reset.ensures.going);
      registers_are = c.reset.ensures.stands c.args.self.now.part fit;
      cutter_is = λ _. record { sessions = []; place = Searching []; stands = c.new-self-inside.ensures };
      due_are = record { given = []; all = sym (ap (λ (d : Due). words_still_due c.args.self.now.part [] d) c.reset.ensures.no_word_due) };
      none_due_at_stop = λ why q. ap due_count c.reset.ensures.no_word_due;
    }

pub invariant_of-self : goal.invariant_of-self
invariant_of-self c = record {
  frames = c.reset.ensures.frames c.self.inside.part c.self.invariant.frames;
  past = record { past = past_of c.args.self.now.part c.args.keep false []; has = first c };
}

pub returns-clause-stands : goal.returns-clause-stands
returns-clause-stands c = first c
