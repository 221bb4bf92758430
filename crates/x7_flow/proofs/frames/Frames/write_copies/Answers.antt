use Rattle.std.proofs.Common.{◌∙◌, ◌/◌, length, sym, subst, arith}
use Rattle.x7_words.specs.Word.{words_of_bytes}
use Rattle.x7_flow.specs.Standing.{FramesState, FramesStandFor}
use Rattle.x7_words.proofs.WordLemmas.{length_words}
use Rattle.x7_flow.proofs.TakenLemmas.{copies_folded}
use Rattle.x7_flow.proofs.frames.Frames.write_copies.Goals as goal

pub returns-then-takes_copies : goal.returns-then-takes_copies
returns-then-takes_copies c = record {
  taken = λ n h settings are.
      c.take_copies.ensures.taken n h (sym (c.takes_copies.ensures.after c.args.part.now.idcode h settings) ∙ c.if-takes_copies.true)
      (subst (λ (f : FramesState). FramesStandFor c.args.part.now f h 0) (sym c.self.view_is) are);
  within = c.take_copies.ensures.within;
  fits = c.take_copies.ensures.part;
}

pub returns : goal.returns
returns c = record {
  taken = λ n h settings are.
      copies_folded c.args.part.now c.args.self.now n _ (words_of_bytes c.args.bytes.now) h (sym (c.takes_copies.ensures.after c.args.part.now.idcode h settings) ∙ c.if-takes_copies.false) (sym (length_words c.args.bytes.now (length c.args.bytes.now / 4) (omega (arith, c.requires.whole)))) are;
  within = omega arith;
  fits = c.requires.fits;
}
