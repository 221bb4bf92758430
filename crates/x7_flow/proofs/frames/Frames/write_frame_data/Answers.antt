use Rattle.std.proofs.Common.{◌∙◌, ◌/◌, length, sym, subst, arith}
use Rattle.x7_words.specs.Word.{words_of_bytes}
use Rattle.x7_flow.specs.Standing.{FramesState, FramesStandFor}
use Rattle.x7_words.proofs.WordLemmas.{length_words}
use Rattle.x7_flow.proofs.TakenLemmas.{data_folded, words_taken}
use Rattle.x7_flow.proofs.frames.Frames.write_frame_data.Goals as goal

pub returns-then-takes_frames : goal.returns-then-takes_frames
returns-then-takes_frames c = record {
  taken = λ n h settings are.
      words_taken c.args.part.now c.self.inside.pipeline c.write_bytes.new.self c.self.inside.memory c.write_bytes.new.memory c.args.bytes.now n c.write_bytes.result h
      c.write_bytes.ensures.stands c.write_bytes.ensures.lands c.write_bytes.ensures.count c.write_bytes.ensures.fault
      (sym (c.takes_frames.ensures.after c.args.part.now.idcode h settings) ∙ c.if-takes_frames.true)
      (subst (λ (f : FramesState). FramesStandFor c.args.part.now f h 0) (sym c.self.view_is) are);
  within = c.write_bytes.ensures.within;
  fits = c.write_bytes.ensures.part;
}

pub returns : goal.returns
returns c = record {
  taken = λ n h settings are.
      data_folded c.args.part.now c.args.self.now n _ (words_of_bytes c.args.bytes.now) h (sym (c.takes_frames.ensures.after c.args.part.now.idcode h settings) ∙ c.if-takes_frames.false) (sym (length_words c.args.bytes.now (length c.args.bytes.now / 4) (omega (arith, c.requires.whole)))) are;
  within = omega arith;
  fits = c.requires.fits;
}
