use Rattle.std.proofs.Common.{◌≡◌, ◌+◌, ◌-◌, ℕ, [], refl, sym, subst, arith}
use Rattle.x7_flow.specs.Standing.{FramesStandFor, HaveDue, words_due}
use Rattle.x7_engine.specs.Readout.{GotAllBut}
use Rattle.x7_engine.proofs.FeedLemmas.{got_dropped, got_more, one_due, words_none}
use Rattle.x7_engine.proofs.readout.give_frames.Goals as goal

pub returns-then-drops-clause-given : goal.returns-then-drops-clause-given
returns-then-drops-clause-given c = λ h s. got_dropped (words_due c.args.part.now h c.args.count) c.args.read.now (c.drops.ensures c.if-drops.true)

pub returns-then-drops-clause-stands : goal.returns-then-drops-clause-stands
returns-then-drops-clause-stands c = λ h s.
    let all : 0 + c.args.count ≡ c.args.count = omega arith in
    c.drop_words.ensures.stands h 0 (subst (FramesStandFor c.args.part.now c.args.frames.now h) (sym all) s)

pub drop_words-requires : goal.drop_words-requires
drop_words-requires c =
    let due = c.requires.due in
    record {
      fits = c.requires.frames;
      due = (0, record { history = due.history; stands = subst (FramesStandFor c.args.part.now c.args.frames.now due.history) (let all : c.args.count ≡ 0 + c.args.count = omega arith in all) due.stands });
    }

pub read_word-requires : goal.read_word-requires
read_word-requires c =
    let due = c.loop-i.invariant.due in
    record {
      fits = c.loop-i.invariant.frames;
      due = (c.args.count - (c.loop-i.i + 1), record { history = due.history; stands = one_due c.args.part.now c.loop-i.frames due.history c.args.count c.loop-i.i c.loop-i-test.true due.stands });
    }

pub loop-i-init : goal.loop-i-init
loop-i-init c =
    let all : c.args.count ≡ c.args.count - 0 = omega arith in
    record {
      within = omega arith;
      frames = c.requires.frames;
      due = subst (HaveDue c.args.part.now c.args.frames.now) all c.requires.due;
      given = λ h s. subst (λ (k : ℕ). GotAllBut (words_due c.args.part.now h k) (words_due c.args.part.now h c.args.count) c.args.read.now c.args.read.now) all
          (record { more = []; read_is = words_none c.args.read.now; words_are = refl });
      stands = λ h s. subst (FramesStandFor c.args.part.now c.args.frames.now h) all s;
    }

pub push-requires : goal.push-requires
push-requires c = record { room = c.is_full.ensures.no c.if-is_full.false }

pub returns-then-is_full : goal.returns-then-is_full
returns-then-is_full c = record {
  within = omega arith;
  full = λ l. c.is_full.ensures.yes c.if-is_full.true;
  given = c.loop-i.invariant.given;
  stands = c.loop-i.invariant.stands;
  frames = c.loop-i.invariant.frames;
}

pub returns : goal.returns
returns c =
    let none : c.args.count - c.loop-i.i ≡ 0 = omega (arith, c.loop-i.invariant.within, c.loop-i-test.false) in
    record {
      within = omega arith;
      full = λ l. absurd (omega (arith, l));
      given = λ h s. subst (λ (k : ℕ). GotAllBut (words_due c.args.part.now h k) (words_due c.args.part.now h c.args.count) c.args.read.now c.loop-i.read) none (c.loop-i.invariant.given h s);
      stands = λ h s. subst (FramesStandFor c.args.part.now c.loop-i.frames h) none (c.loop-i.invariant.stands h s);
      frames = c.loop-i.invariant.frames;
    }

pub loop-i-preserved : goal.loop-i-preserved
loop-i-preserved c = record {
  within = omega (arith, c.loop-i-test.true);
  frames = c.read_word.ensures.part;
  due = record {
    history = c.loop-i.invariant.due.history;
    stands = c.read_word.ensures.stands c.loop-i.invariant.due.history (c.args.count - (c.loop-i.i + 1)) (one_due c.args.part.now c.loop-i.frames c.loop-i.invariant.due.history c.args.count c.loop-i.i c.loop-i-test.true c.loop-i.invariant.due.stands);
  };
  given = λ h s. got_more c.args.part.now c.loop-i.frames h c.args.count c.loop-i.i c.read_word.result c.args.read.now c.loop-i.read c.push.new.self c.loop-i-test.true
      (c.loop-i.invariant.given h s) (c.loop-i.invariant.stands h s) (c.read_word.ensures.word h) c.push.ensures;
  stands = λ h s. c.read_word.ensures.stands h (c.args.count - (c.loop-i.i + 1)) (one_due c.args.part.now c.loop-i.frames h c.args.count c.loop-i.i c.loop-i-test.true (c.loop-i.invariant.stands h s));
}
