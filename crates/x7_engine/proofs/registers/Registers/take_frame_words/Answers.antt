use Rattle.std.proofs.Common.{◌≡◌, ◌+◌, ◌*◌, ◌/◌, ◌≤◌, ℕ, true, List, length, take, None, refl, sym, ap, subst, ◌∙◌, arith}
use Rattle.std.proofs.lemmas.List.{length-take-le, take-take}
use Rattle.x7_words.specs.Word.{words_of_bytes}
use Rattle.x7_packets.specs.History.{History, entered_all}
use Rattle.x7_packets.specs.Packet.{payload_steps}
use Rattle.x7_packets.proofs.GrowthLemmas.{placed_within}
use Rattle.x7_part.specs.Part.{PartData}
use Rattle.x7_flow.specs.Controls.{has_idcode}
use Rattle.x7_flow.specs.Standing.{FramesStandFor}
use Rattle.x7_flow.specs.WordsTaken.{NoneRefused, with_words_to, words_to}
use Rattle.x7_regs.specs.declared.register.Reg.{Reg}
use Rattle.x7_regs.specs.Register.{number_of}
use Rattle.x7_engine.specs.Course.{course_at}
use Rattle.x7_engine.specs.Clock.{ClockState, ClockTakes, clock_in, newest_place}
use Rattle.x7_engine.specs.Standing.{AreLastWords, IsProgress, controls_in, progress_in, registers_in}
use Rattle.x7_engine.specs.Watching.{first_firing}
use Rattle.x7_engine.proofs.DataLemmas.{data_none, data_quiet, given}
use Rattle.x7_engine.proofs.FiringLemmas.{firing_less, ticks_quiet}
use Rattle.x7_engine.proofs.FrameLemmas.{frames_none, standing_frames, none_among}
use Rattle.x7_engine.proofs.PlainLemmas.{Clocked, IsQuiet, clocked_all, controls_stay, words_prefix}
use Rattle.x7_engine.proofs.TurnLemmas.{newest_within, ticked}
use Rattle.x7_engine.proofs.registers.Registers.take_frame_words.Goals as goal
use Rattle.x7_words.proofs.WordLemmas.{words_count}

pub returns : goal.returns
returns c = record {
  within = (
      let b : ℕ = c.before_firing.result / 4 in
      let inner : length (take (b * 4) c.args.bytes.now) ≡ b * 4 = length-take-le (b * 4) c.args.bytes.now (omega (arith, c.before_firing.ensures.within)) in
      omega (arith, inner, c.count_taken-taken.ensures.within, c.write_bytes-count.ensures.within, c.before_firing.ensures.within));
  whole = omega arith;
  going = c.requires.may_take.going;
  leaves = record { due = refl; frames = c.write_bytes-count.ensures.fits };
  enters = λ kept h n s. (
      let part : PartData = c.args.part.now in
      let bytes : List ℕ = c.args.bytes.now in
      let r : Reg = c.args.reg in
      let register : ℕ = number_of r in
      let b : ℕ = c.before_firing.result / 4 in
      let k : ℕ = c.count_taken-taken.result in
      let m : ℕ = n + k * 4 in
      let looked : List ℕ = words_of_bytes (take (b * 4) bytes) in
      let prefix : List ℕ = words_of_bytes (take (k * 4) bytes) in
      let all : History = entered_all n (payload_steps register prefix) h in
      let clock : ClockState = clock_in c.bytes.new.self in
      let inner : length (take (b * 4) bytes) ≡ b * 4 = length-take-le (b * 4) bytes (omega (arith, c.before_firing.ensures.within)) in
      let few : k ≤ b = omega (arith, inner, c.count_taken-taken.ensures.within, c.write_bytes-count.ensures.within) in
      let same : take k looked ≡ prefix = ap (take k) (words_prefix b bytes) ∙ take-take k b (words_of_bytes bytes) few ∙ sym (words_prefix k bytes) in
      let size : length prefix ≡ k = words_count (take (k * 4) bytes) ∙ omega (arith, length-take-le (k * 4) bytes (omega (arith, few, c.before_firing.ensures.within))) in
      let newest : newest_place h ≤ n = newest_within n h s.places in
      let none : first_firing part kept h n (k * 4) ≡ None = firing_less part kept h n (k * 4) c.before_firing.result (omega (arith, few)) (c.before_firing.ensures.none_fires kept h n newest s.clock) in
      let ticks : ClockTakes (course_at part kept h n) clock (k * 4) None = ticks_quiet part kept clock h n (k * 4) c.bytes.result none (c.bytes.ensures.takes kept h n newest s.clock) in
      let after = ticked part kept (registers_in c.args.self.now) clock h n (k * 4) m refl c.requires.may_take.going s ticks in
      let are : FramesStandFor part c.args.self.now.frames h 0 = standing_frames part c.args.self.now.frames c.args.self.now.values.stop h c.args.self.now.values.due c.requires.may_take.going c.requires.may_take.no_word_due s.frames in
      let words = given part c.write_bytes-count.new.self h (words_to r n (take (b * 4) bytes)) c.write_bytes-count.result (c.write_bytes-count.ensures.taken n h (c.settings-settings.ensures.after part kept h n s) are) in
      let before : take _ looked ≡ prefix = ap (λ (j : ℕ). take j looked) (sym c.count_taken-taken.ensures.value) ∙ same in
      let unrefused : NoneRefused part r n prefix h = subst (λ (x : List ℕ). NoneRefused part r n x h) before words.0 in
      let frames : FramesStandFor part c.write_bytes-count.new.self all 0 = subst (λ (x : List ℕ). FramesStandFor part c.write_bytes-count.new.self (with_words_to r n x h) 0) before words.1 in
      let quiet : IsQuiet register = data_quiet r c.requires.register in
      let matched : has_idcode part.idcode h ≡ true = sym s.progress.has_idcode ∙ c.requires.has_idcode in
      let start : Clocked part kept clock c.args.self.now.values.stop h n m = record { places = s.places; clock = after.clock; stop = after.stop } in
      let clocked : Clocked part kept clock c.args.self.now.values.stop all (n + 4 * length prefix) m = clocked_all part kept clock c.args.self.now.values.stop register n m prefix h quiet (data_none part kept r n prefix h c.requires.register matched unrefused) (omega (arith, size)) start in
      record {
        places = placed_within (n + 4 * length prefix) m all (omega (arith, size)) clocked.places;
        words = subst (λ (x : ℕ). AreLastWords kept c.pass_all-2.new.self.last (entered_all n (payload_steps x prefix) h)) c.number-2.ensures.value (c.pass_all-2.ensures kept h n s.words);
        controls = controls_stay (controls_in c.args.self.now.values.controls) register n prefix h quiet s.controls;
        progress = subst (λ (x : ℕ). IsProgress part.idcode (progress_in c.pass_all.new.self) (entered_all n (payload_steps x prefix) h)) c.number.ensures.value (c.pass_all.ensures part.idcode h n s.progress);
        kind = s.kind;
        before = s.before;
        clock = clocked.clock;
        stop = clocked.stop;
        frames = frames_none part c.write_bytes-count.new.self c.args.self.now.values.stop all c.args.self.now.values.due c.requires.may_take.going c.requires.may_take.no_word_due frames;
        due_kind = none_among c.args.self.now.values.due all c.requires.may_take.no_word_due;
      });
}
