use Rattle.std.proofs.Common.{◌≡◌, ℕ, ◌∷◌, None, refl, sym, ap, subst, ◌∙◌, arith}
use Rattle.x7_packets.specs.History.{Access, Write, command_held, entry, executed_by, last_word}
use Rattle.x7_regs.specs.Register.{number_of}
use Rattle.x7_engine.specs.Registers.{takes_shutdown}
use Rattle.x7_part.specs.Part.{PartData}
use Rattle.x7_flow.specs.Standing.{FramesStandFor}
use Rattle.x7_engine.specs.Standing.{AreLastWords, FramesAre, IsProgress, progress_in}
use Rattle.x7_engine.specs.Stop.{first_stop_of_history, stop_at_place}
use Rattle.x7_engine.proofs.ClockLemmas.{stop_of_access}
use Rattle.x7_engine.proofs.FrameLemmas.{access_frames, why_is, none_frames, standing_frames, none_among}
use Rattle.x7_engine.proofs.registers.Registers.write.Goals as goal

pub returns : goal.returns
returns c = record {
  enters = λ kept h place next s. (
      let part : PartData = c.args.part.now in
      let e : c.idcode-idcode.result ≡ part.idcode = c.idcode-idcode.ensures.value in
      let access : Access = Write (number_of c.args.reg) c.args.word in
      let command : c.executed-executed.result ≡ executed_by (command_held h) access = c.executed-executed.ensures ∙ ap (λ (k : ℕ). executed_by k access) (c.settings-settings.ensures.held part kept h place s) in
      let progress : IsProgress c.idcode-idcode.result (progress_in c.args.self.now.values.progress) h = subst (λ (i : ℕ). IsProgress i (progress_in c.args.self.now.values.progress) h) (sym e) s.progress in
      let taken : c.write-taken.result ≡ takes_shutdown h access = c.write-taken.ensures.takes h command progress in
      let cor0 : c.held-cor0.result ≡ last_word 9 0 h = c.held-cor0.ensures kept h s.words in
      let going : first_stop_of_history part kept h place ≡ None = s.stop ∙ ap (stop_at_place place) c.requires.may_take.going in
      let are : FramesStandFor part c.args.self.now.frames h 0 = standing_frames part c.args.self.now.frames c.args.self.now.values.stop h c.args.self.now.values.due c.requires.may_take.going c.requires.may_take.no_word_due s.frames in
      let refused = c.write-refused.ensures.fault h (c.settings-settings.ensures.after part kept h place s) are in
      let why = c.why_by_write-why.ensures.value kept h place s command in
      let after = c.write-refused.ensures.stands h (c.settings-settings.ensures.after part kept h place s) are place in
      record {
        places = (next.0, omega arith, next.1);
        words = subst (λ (r : ℕ). AreLastWords kept c.write-2.new.self.last (entry (Write r c.args.word) place ∷ h)) c.number.ensures.value (c.write-2.ensures kept h place s.words);
        controls = c.write.ensures h place (c.held-mask.ensures kept h s.words) s.controls;
        progress = subst (λ (i : ℕ). IsProgress i (progress_in c.write-taken.new.self) (entry access place ∷ h)) e (c.write-taken.ensures.stands h place command progress);
        kind = s.kind;
        before = s.before;
        clock = c.write-3.ensures place part kept h (record { executed_is = command; takes_shutdown_is = taken; cor0_is = cor0 }) s.clock;
        stop = stop_of_access part kept h access place going ∙ ap (stop_at_place place) (sym (why_is part kept h access c.why_by_write-why.result c.first_cause-self.result c.write-refused.result refused why c.first_cause-self.ensures.value));
        frames = subst (λ (n : ℕ). FramesAre part c.write-refused.new.self c.first_cause-self.result (entry access place ∷ h) n) (sym (none_frames c.args.self.now.values.due c.requires.may_take.no_word_due))
            (access_frames part kept c.args.self.now.frames c.write-refused.new.self h (entry access place) c.why_by_write-why.result c.first_cause-self.result c.write-refused.result are after refused why c.first_cause-self.ensures.value);
        due_kind = none_among c.args.self.now.values.due (entry access place ∷ h) c.requires.may_take.no_word_due;
      });
  counts = λ n. c.first_cause-self.ensures.counts n (c.why_by_write-why.ensures.counts n);
  leaves = record { due = refl; frames = c.write-refused.ensures.part };
}
