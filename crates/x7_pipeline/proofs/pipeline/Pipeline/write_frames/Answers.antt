use Rattle.std.proofs.Common.{◌≡◌, ◌+◌, ◌-◌, ◌*◌, ◌∙◌, ap, sym, arith, Some, drop, length, take}
use Rattle.std.proofs.lemmas.List.{length-drop}
use Rattle.x7_words.specs.Word.{words_of_bytes}
use Rattle.x7_memory.specs.PartFrames.{frame_at}
use Rattle.x7_part.specs.Slot.{slots_from}
use Rattle.x7_pipeline.specs.Pipeline.{PipelineData}
use Rattle.x7_pipeline.proofs.FrameLemmas.{frame_wide, went_more, whole, words_taken}
use Rattle.std.proofs.lemmas.Bool.{lt-ltb}
use Rattle.x7_pipeline.proofs.SlotLemmas.{has_address}
use Rattle.x7_pipeline.proofs.pipeline.Pipeline.write_frames.Goals as goal

pub place_of-first-requires : goal.place_of-first-requires
place_of-first-requires c =
    let slot = c.requires.slot in
    record { address = rw (ap (λ (v : PipelineData). v.base) c.self.view_is) (has_address c.args.part.now c.args.self.now.base (lt-ltb 0 (length (slots_from c.args.part.now c.args.self.now.base)) (omega arith))) }

pub frames-init : goal.frames-init
frames-init c =
    let some = c.self.invariant.some in
    let wide = ap (λ (v : PipelineData). v.width) c.self.view_is in
    let frame = c.requires.frame in
    let held = c.write_frame.ensures.newest in
    record {
      part = c.write_frame.ensures.part;
      some = omega arith;
      within = omega arith;
      whole = omega arith;
      begins = ap (λ (v : PipelineData). v.rest) held ∙ c.requires.begins;
      base = ap (λ (v : PipelineData). v.base) held;
      width = ap (λ (v : PipelineData). v.width) held;
      went = λ command base run source given s.
          whole c.args.part.now c.args.self.now c.write_frame.new.self (frame_at c.args.part.now c.args.memory.now) (frame_at c.args.part.now c.write_frame.new.memory) command base run source given
          (words_of_bytes (take (4 * c.self.inside.width) c.args.bytes.now)) s c.requires.begins (frame_wide c.self.inside.width c.args.bytes.now (omega arith) ∙ wide) c.requires.slot held
          (λ none far. ap (λ memory. frame_at c.args.part.now memory far) (c.write_frame.ensures.puts_nothing none)) c.write_frame.ensures.put;
    }

pub frames-preserved : goal.frames-preserved
frames-preserved c =
    let wide = ap (λ (v : PipelineData). v.width) c.self.view_is in
    let next = c.has_next.ensures c.frames-test.true in
    let fits = next.0 in
    let free = next.1 in
    let size : c.frames.at + 4 * c.self.inside.width - c.frames.at ≡ 4 * c.self.inside.width = omega arith in
    let held = c.write_frame-in-frames.ensures.newest
    ∙ ap (λ n. record c.frames.self { newest = Some (words_of_bytes (take n (drop c.frames.at c.args.bytes.now))); frame_count = c.frames.self.frame_count + 1 }) size in
    let before = c.frames.invariant in
    let first = before.some in
    let within = before.within in
    let whole_words = before.whole in
    let left : length (drop c.frames.at c.args.bytes.now) ≡ length c.args.bytes.now - c.frames.at = length-drop c.frames.at c.args.bytes.now in
    let slots : c.slot_count-frame_limit.result ≡ length (slots_from c.args.part.now c.frames.self.base) =
    c.slot_count-frame_limit.ensures.value ∙ ap (λ b. length (slots_from c.args.part.now b)) (ap (λ (v : PipelineData). v.base) c.self.view_is ∙ sym before.base) in
    record {
      part = c.write_frame-in-frames.ensures.part;
      some = omega arith;
      within = omega arith;
      whole = omega arith;
      begins = ap (λ (v : PipelineData). v.rest) held ∙ before.begins;
      base = ap (λ (v : PipelineData). v.base) held ∙ before.base;
      width = ap (λ (v : PipelineData). v.width) held ∙ before.width;
      went = went_more c.args.part.now c.args.self.now c.frames.self c.write_frame-in-frames.new.self (frame_at c.args.part.now c.args.memory.now) (frame_at c.args.part.now c.frames.memory)
          (frame_at c.args.part.now c.write_frame-in-frames.new.memory) (words_of_bytes (take c.frames.at c.args.bytes.now)) (words_of_bytes (take (4 * c.self.inside.width) (drop c.frames.at c.args.bytes.now))) _
          (words_taken c.frames.at (4 * c.self.inside.width) c.args.bytes.now whole_words (omega arith)) before.went
          (λ command base run source given s.
          whole c.args.part.now c.frames.self c.write_frame-in-frames.new.self (frame_at c.args.part.now c.frames.memory) (frame_at c.args.part.now c.write_frame-in-frames.new.memory) command base run source given
          (words_of_bytes (take (4 * c.self.inside.width) (drop c.frames.at c.args.bytes.now))) s before.begins
          (frame_wide c.self.inside.width (drop c.frames.at c.args.bytes.now) (omega arith) ∙ wide ∙ sym before.width) (omega arith) held
          (λ none far. ap (λ memory. frame_at c.args.part.now memory far) (c.write_frame-in-frames.ensures.puts_nothing none)) c.write_frame-in-frames.ensures.put);
    }

pub returns-clause-stands : goal.returns-clause-stands
returns-clause-stands c = λ f s. (c.frames.invariant.went f.command f.base f.run f.source f.given s).stands

pub returns-clause-passes : goal.returns-clause-passes
returns-clause-passes c = λ f s. (c.frames.invariant.went f.command f.base f.run f.source f.given s).passes
