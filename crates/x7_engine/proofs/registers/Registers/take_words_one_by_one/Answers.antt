use Rattle.std.proofs.Common.{◌≡◌, ◌+◌, ◌-◌, ◌/◌, ◌<◌, ℕ, true, false, List, [], ◌∷◌, ◌++◌, length, take, Option, None, refl, sym, ap, subst, ◌∙◌, arith}
use Rattle.std.specs.Option.{is_some}
use Rattle.x7_words.specs.Word.{words_of_bytes}
use Rattle.x7_engine.specs.Standing.{RegistersStandFor, registers_in}
use Rattle.x7_regs.specs.Register.{number_of}
use Rattle.x7_engine.specs.declared.stop.StopCause.{StopCause}
use Rattle.x7_engine.proofs.BodyLemmas.{chunk_word, chunks_are, word_after, word_on, words_all}
use Rattle.x7_engine.proofs.TurnLemmas.{none_there}
use Rattle.x7_engine.proofs.registers.Registers.take_words_one_by_one.Goals as goal
use Rattle.x7_words.proofs.WordLemmas.{words_count}

pub loop-word-init : goal.loop-word-init
loop-word-init c = record {
  going = c.requires.may_take.going;
  count = refl;
  due = refl;
  frames = c.requires.may_take.frames;
  stands = λ kept h n s. let none : n ≡ n + 0 = omega arith in subst (λ (m : ℕ). RegistersStandFor c.args.part.now kept (registers_in c.args.self.now) h m) none s;
}

pub returns-then-is_some : goal.returns-then-is_some
returns-then-is_some c = record {
  takes = record {
    within = (
        let all : length (words_of_bytes c.args.bytes.now) ≡ length c.as_chunks.result.0.now = chunks_are c.args.bytes.now c.as_chunks.result.0.now c.as_chunks.ensures.front in
        omega (arith, all, words_count c.args.bytes.now, c.loop-word-test.true, c.loop-word.invariant.count));
    takes_some = λ l. let some : c.take_word-left.result < 4 = c.take_word-left.ensures.takes_some (omega arith) in omega (arith, some);
    goes_on = λ e. absurd (let both : true ≡ false = sym c.if-is_some.true ∙ c.is_some.ensures ∙ ap (λ (o : Option StopCause). is_some o) e in cc);
  };
  leaves = record { due = c.take_word-left.ensures.leaves.due ∙ c.loop-word.invariant.due; frames = c.take_word-left.ensures.leaves.frames };
  enters = λ kept h n s. (
      let ws : List ℕ = words_of_bytes c.args.bytes.now in
      let word : take (c.loop-word.word-index + 1) ws ≡ take c.loop-word.word-index ws ++ c.word_of.result ∷ [] =
      chunk_word c.args.bytes.now c.as_chunks.result.0.now c.loop-word.word-index c.word_of.result c.as_chunks.ensures.front c.loop-word-test.true c.word_of.ensures.value in
      let few : c.loop-word.word-index < length ws = let all : length ws ≡ length c.as_chunks.result.0.now = chunks_are c.args.bytes.now c.as_chunks.result.0.now c.as_chunks.ensures.front in omega (arith, all, c.loop-word-test.true) in
      word_after c.args.part.now kept (registers_in c.loop-word.self) (registers_in c.take_word-left.new.self) (number_of c.args.reg) n c.loop-word.word-index c.word_of.result c.take_word-left.result c.loop-word.taken (n + (c.loop-word.taken + (4 - c.take_word-left.result))) ws h
      word few c.loop-word.invariant.count c.take_word-left.ensures.left.within refl (c.take_word-left.ensures.enters kept) (c.loop-word.invariant.stands kept h n s));
}

pub loop-word-preserved : goal.loop-word-preserved
loop-word-preserved c =
    let ws : List ℕ = words_of_bytes c.args.bytes.now in
    let word : take (c.loop-word.word-index + 1) ws ≡ take c.loop-word.word-index ws ++ c.word_of.result ∷ [] =
    chunk_word c.args.bytes.now c.as_chunks.result.0.now c.loop-word.word-index c.word_of.result c.as_chunks.ensures.front c.loop-word-test.true c.word_of.ensures.value in
    let few : c.loop-word.word-index < length ws = let all : length ws ≡ length c.as_chunks.result.0.now = chunks_are c.args.bytes.now c.as_chunks.result.0.now c.as_chunks.ensures.front in omega (arith, all, c.loop-word-test.true) in
    let going : c.take_word-left.new.self.values.stop ≡ None = none_there c.take_word-left.new.self.values.stop (sym c.is_some.ensures ∙ c.if-is_some.false) in
    let none : c.take_word-left.result ≡ 0 = c.take_word-left.ensures.left.goes_on going in
    record {
      going = going;
      count = omega (arith, c.loop-word.invariant.count, none);
      due = c.take_word-left.ensures.leaves.due ∙ c.loop-word.invariant.due;
      frames = c.take_word-left.ensures.leaves.frames;
      stands = λ kept h n s.
          word_on c.args.part.now kept (registers_in c.loop-word.self) (registers_in c.take_word-left.new.self) (number_of c.args.reg) n c.loop-word.word-index c.word_of.result c.take_word-left.result c.loop-word.taken (n + (c.loop-word.taken + (4 - c.take_word-left.result))) ws h
          word few c.loop-word.invariant.count none refl going (c.take_word-left.ensures.enters kept) (c.loop-word.invariant.stands kept h n s);
    }

pub returns : goal.returns
returns c = record {
  takes = (
      let all : length (words_of_bytes c.args.bytes.now) ≡ length c.as_chunks.result.0.now = chunks_are c.args.bytes.now c.as_chunks.result.0.now c.as_chunks.ensures.front in
      let size : length (words_of_bytes c.args.bytes.now) ≡ length c.args.bytes.now / 4 = words_count c.args.bytes.now in
      record { within = omega (arith, all, size); takes_some = λ l. omega (arith, all, size, l); goes_on = λ e. omega (arith, all, size) });
  leaves = record { due = c.loop-word.invariant.due; frames = c.loop-word.invariant.frames };
  enters = λ kept h n s. (
      let all : length (words_of_bytes c.args.bytes.now) ≡ length c.as_chunks.result.0.now = chunks_are c.args.bytes.now c.as_chunks.result.0.now c.as_chunks.ensures.front in
      words_all c.args.part.now kept (registers_in c.loop-word.self) (number_of c.args.reg) n c.loop-word.word-index (n + c.loop-word.taken) (words_of_bytes c.args.bytes.now) h (omega (arith, all, c.loop-word-test.false)) c.loop-word.invariant.going (c.loop-word.invariant.stands kept h n s));
}
