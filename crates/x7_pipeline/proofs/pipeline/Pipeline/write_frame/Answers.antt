use Rattle.std.proofs.Common.{ap, arith, length}
use Rattle.x7_words.proofs.WordLemmas.{words_count}
use Rattle.x7_pipeline.specs.Pipeline.{PipelineData}
use Rattle.x7_pipeline.proofs.pipeline.Pipeline.write_frame.Goals as goal

pub invariant_of-self : goal.invariant_of-self
invariant_of-self c =
    let i = c.self.invariant in
    let room = c.set_frame.ensures.room in
    let held = i.newest_room in
    let wide = ap (λ (v : PipelineData). v.width) c.self.view_is in
    let size = c.requires.frame in
    let count = words_count c.args.bytes.now in
    let long = ap length c.set_frame.ensures.words in
    record {
      some = i.some;
      narrow = i.narrow;
      short = i.short;
      rest_room = i.rest_room;
      newest_room = omega arith;
      source_room = i.source_room;
      newest_whole = λ some. (omega arith);
      source_whole = i.source_whole;
    }
