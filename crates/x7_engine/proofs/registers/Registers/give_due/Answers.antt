use Rattle.std.proofs.Common.{ℕ, subst, ap}
use Rattle.x7_packets.specs.History.{History}
use Rattle.x7_flow.specs.Standing.{FramesStandFor}
use Rattle.x7_engine.specs.Standing.{frames_due, frames_history, registers_in}
use Rattle.x7_engine.proofs.FeedLemmas.{gave_frames, got_frames}
use Rattle.x7_engine.proofs.registers.Registers.give_due.Goals as goal

pub give_frames-left-requires-clause-due : goal.give_frames-left-requires-clause-due
give_frames-left-requires-clause-due c =
    let h : History = frames_history c.args.self.now.values.stop c.requires.history.history in
    record { history = h; stands = subst (λ (k : ℕ). FramesStandFor c.args.part.now c.args.self.now.frames h k) (ap frames_due c.in-Frames.is) c.requires.history.stands.frames.stands }

pub returns-in-Frames : goal.returns-in-Frames
returns-in-Frames c = record {
  full = c.give_frames-left.ensures.full;
  going = c.requires.going;
  frames = c.give_frames-left.ensures.frames;
  stands = λ kept h n s.
      gave_frames c.args.part.now kept (registers_in c.args.self.now) c.give_frames-left.new.frames h n c.in-Frames.count c.give_frames-left.result c.requires.going c.in-Frames.is c.give_frames-left.ensures.within (c.give_frames-left.ensures.stands h) s;
  given = λ kept h n s.
      got_frames c.args.part.now kept (registers_in c.args.self.now) h n c.in-Frames.count c.give_frames-left.result c.args.read.now c.give_frames-left.new.read c.requires.going c.in-Frames.is (c.give_frames-left.ensures.given h) s;
}
