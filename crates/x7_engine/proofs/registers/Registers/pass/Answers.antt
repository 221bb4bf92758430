use Rattle.std.proofs.Common.{◌≡◌, ◌∷◌, Option, None, refl, sym, ap, ◌∙◌, arith}
use Rattle.x7_packets.specs.History.{Write, entry}
use Rattle.x7_flow.proofs.TakenLemmas.{other_access}
use Rattle.x7_engine.specs.declared.stop.StopCause.{StopCause}
use Rattle.x7_engine.specs.Standing.{counted_in, registers_in}
use Rattle.x7_engine.specs.Stop.{first_stop_of_history, stop_at_place}
use Rattle.x7_engine.proofs.ClockLemmas.{stop_of_access}
use Rattle.x7_engine.proofs.FrameLemmas.{frames_none, standing_frames, none_among}
use Rattle.x7_engine.proofs.PlainLemmas.{IsPlain, clock_plain, why_none, plain_asks, plain_is}
use Rattle.x7_engine.proofs.registers.Registers.pass.Goals as goal

pub returns : goal.returns
returns c = λ part ready. record {
  enters = λ kept h place next s. (
      let p : IsPlain c.args.plain.register = plain_is c.args.plain.register c.args.plain.plain in
      let q = p.quiet in
      let going : first_stop_of_history part kept h place ≡ None = s.stop ∙ ap (stop_at_place place) ready.going in
      record {
        places = (next.0, omega arith, next.1);
        words = c.write.ensures kept h place s.words;
        controls = record { ctl0 = rw q.ctl0 s.controls.ctl0; ctl1 = rw q.ctl1 s.controls.ctl1 };
        progress = c.pass.ensures part.idcode h place s.progress;
        kind = s.kind;
        before = s.before;
        clock = clock_plain part kept (registers_in c.args.self.now).values.clock h c.args.plain.register c.args.word place q s.clock;
        stop = stop_of_access part kept h (Write c.args.plain.register c.args.word) place going ∙ ap (stop_at_place place) (sym (why_none part kept h c.args.plain.register c.args.word p)) ∙ sym (ap (stop_at_place place) ready.going);
        frames = frames_none part c.args.self.now.frames c.args.self.now.values.stop (entry (Write c.args.plain.register c.args.word) place ∷ h) c.args.self.now.values.due ready.going ready.no_word_due
            (other_access part c.args.self.now.frames h (entry (Write c.args.plain.register c.args.word) place)
            (plain_asks part.idcode h c.args.plain.register c.args.word p) (standing_frames part c.args.self.now.frames c.args.self.now.values.stop h c.args.self.now.values.due ready.going ready.no_word_due s.frames));
        due_kind = none_among c.args.self.now.values.due (entry (Write c.args.plain.register c.args.word) place ∷ h) ready.no_word_due;
      });
  counts = λ n. ap (λ (o : Option StopCause). counted_in o n) ready.going;
  leaves = record { due = refl; frames = ready.frames };
}
