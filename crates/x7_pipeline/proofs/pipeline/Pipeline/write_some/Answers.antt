use Rattle.x7_pipeline.proofs.FrameLemmas.{passes_one, first_word}
use Rattle.x7_pipeline.proofs.pipeline.Pipeline.write_some.Goals as goal

pub returns-in-Ok-clause-stands : goal.returns-in-Ok-clause-stands
returns-in-Ok-clause-stands c = λ f s.
    let word = first_word c.args.bytes.now c.word_of-word.result c.requires.word c.word_of-word.ensures.value in
    rw (← word) (c.in-Ok.ensures.stands f s)

pub returns-in-Ok-clause-passes : goal.returns-in-Ok-clause-passes
returns-in-Ok-clause-passes c = λ f s.
    let word = first_word c.args.bytes.now c.word_of-word.result c.requires.word c.word_of-word.ensures.value in
    rw (← word) (passes_one c.args.part.now f.base c.word_of-word.result f.run (c.in-Ok.ensures.fault f s))
