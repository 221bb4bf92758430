use Rattle.std.proofs.Common.{[], refl, sym, ap}
use Rattle.x7_packets.specs.Reading.{Searching}
use Rattle.x7_memory.specs.PartFrames.{zero_frames}
use Rattle.x7_flow.specs.Standing.{frames_state}
use Rattle.x7_flow.proofs.StandingLemmas.{begins_so}
use Rattle.x7_engine.specs.declared.due.Due.{Due}
use Rattle.x7_engine.specs.Standing.{due_count, words_still_due}
use Rattle.x7_engine.specs.Stop.{stop_at_place}
use Rattle.x7_engine.proofs.device.undo.Undo.new.Goals as goal

pub returns-clause-device : goal.returns-clause-device
returns-clause-device c = record {
  fits = tt;
  part_is = refl;
  wrapped_is = refl;
  taken_is = refl;
  stop_is = sym (ap (stop_at_place 0) c.new-3.ensures.going);
  registers_are = c.new-3.ensures.stands c.args.part.now (frames_state c.in_ok-frames.frames.pipeline (zero_frames c.args.part.now)) (begins_so c.args.part.now c.in_ok-frames.frames.pipeline (zero_frames c.args.part.now) c.in_ok-frames.ensures.pipeline refl);
  cutter_is = λ _. record { sessions = []; place = Searching []; stands = c.new-2.ensures };
  due_are = record { given = []; all = sym (ap (λ (d : Due). words_still_due c.args.part.now [] d) c.new-3.ensures.no_word_due) };
  none_due_at_stop = λ why q. ap due_count c.new-3.ensures.no_word_due;
}
