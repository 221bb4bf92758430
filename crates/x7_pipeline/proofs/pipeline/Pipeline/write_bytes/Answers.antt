use Rattle.std.proofs.Common.{◌≡◌, ◌-◌, ◌/◌, drop, length, ap, sym, refl, arith}
use Rattle.std.proofs.lemmas.List.{length-drop}
use Rattle.x7_words.specs.Word.{words_of_bytes}
use Rattle.x7_memory.specs.PartFrames.{frame_at}
use Rattle.x7_pipeline.specs.Flow.{with_run}
use Rattle.x7_pipeline.specs.RunWritten.{RunWritten}
use Rattle.x7_pipeline.proofs.FrameLemmas.{goes_left, goes_through, refused_here}
use Rattle.x7_pipeline.proofs.WordLemmas.{goes_first, ends_whole}
use Rattle.x7_pipeline.proofs.pipeline.Pipeline.write_bytes.Goals as goal

pub pieces-init : goal.pieces-init
pieces-init c = record {
  part = c.requires.part;
  within = omega arith;
  whole = refl;
  goes = goes_first c.args.part.now c.args.self.now (frame_at c.args.part.now c.args.memory.now) (words_of_bytes c.args.bytes.now) (words_of_bytes c.args.bytes.now) refl;
}

pub pieces-preserved : goal.pieces-preserved
pieces-preserved c =
    let left : length (drop c.pieces.at c.args.bytes.now) ≡ length c.args.bytes.now - c.pieces.at = length-drop c.pieces.at c.args.bytes.now in
    let words = c.in-Ok.ensures.words in
    let before = c.pieces.invariant.within in
    let whole = c.pieces.invariant.whole in
    let some = words.0 in
    let fits = words.1 in
    let inside = words.2 in
    let same = ap length c.split_at.ensures.back in
    record {
      part = c.in-Ok.ensures.part;
      within = omega arith;
      whole = omega arith;
      goes = goes_left c.args.part.now c.args.self.now c.pieces.self c.write_some.new.self (frame_at c.args.part.now c.args.memory.now) (frame_at c.args.part.now c.pieces.memory) (frame_at c.args.part.now c.write_some.new.memory)
          (words_of_bytes c.args.bytes.now) c.args.bytes.now c.split_at.result.1.now c.pieces.at c.in-Ok.taken c.split_at.ensures.back c.pieces.invariant.goes whole fits inside
          c.in-Ok.ensures.stands c.in-Ok.ensures.lands c.in-Ok.ensures.passes;
    }

pub returns-in-Err-clause-stands : goal.returns-in-Err-clause-stands
returns-in-Err-clause-stands c = λ f s.
    let left : length (drop c.pieces.at c.args.bytes.now) ≡ length c.args.bytes.now - c.pieces.at = length-drop c.pieces.at c.args.bytes.now in
    let whole = c.pieces.invariant.whole in
    let all = c.requires.whole in
    let before = c.pieces-test.true in
    let r = c.pieces.invariant.goes f.command f.base f.run f.source f.given s in
    let e = refused_here c.args.part.now f.base f.run r.longer (words_of_bytes c.args.bytes.now) c.args.bytes.now c.pieces.at c.in-Err.fault r.later whole (omega arith)
    (c.in-Err.ensures.fault (with_run r.longer f) r.stands) in
    rw (ap (λ (w : RunWritten). w.run) e, c.in-Err.ensures.refused.unchanged) r.stands

pub returns-in-Err-clause-lands : goal.returns-in-Err-clause-lands
returns-in-Err-clause-lands c = λ f s.
    let left : length (drop c.pieces.at c.args.bytes.now) ≡ length c.args.bytes.now - c.pieces.at = length-drop c.pieces.at c.args.bytes.now in
    let whole = c.pieces.invariant.whole in
    let all = c.requires.whole in
    let before = c.pieces-test.true in
    let r = c.pieces.invariant.goes f.command f.base f.run f.source f.given s in
    let e = refused_here c.args.part.now f.base f.run r.longer (words_of_bytes c.args.bytes.now) c.args.bytes.now c.pieces.at c.in-Err.fault r.later whole (omega arith)
    (c.in-Err.ensures.fault (with_run r.longer f) r.stands) in
    rw (ap (λ (w : RunWritten). w.run) e, c.in-Err.ensures.refused.same_memory) r.lands

pub returns-in-Err-clause-count : goal.returns-in-Err-clause-count
returns-in-Err-clause-count c = λ f s.
    let left : length (drop c.pieces.at c.args.bytes.now) ≡ length c.args.bytes.now - c.pieces.at = length-drop c.pieces.at c.args.bytes.now in
    let whole = c.pieces.invariant.whole in
    let all = c.requires.whole in
    let before = c.pieces-test.true in
    let r = c.pieces.invariant.goes f.command f.base f.run f.source f.given s in
    let e = refused_here c.args.part.now f.base f.run r.longer (words_of_bytes c.args.bytes.now) c.args.bytes.now c.pieces.at c.in-Err.fault r.later whole (omega arith)
    (c.in-Err.ensures.fault (with_run r.longer f) r.stands) in
    sym (ap (λ (w : RunWritten). w.count) e)

pub returns-in-Err-clause-fault : goal.returns-in-Err-clause-fault
returns-in-Err-clause-fault c = λ f s.
    let left : length (drop c.pieces.at c.args.bytes.now) ≡ length c.args.bytes.now - c.pieces.at = length-drop c.pieces.at c.args.bytes.now in
    let whole = c.pieces.invariant.whole in
    let all = c.requires.whole in
    let before = c.pieces-test.true in
    let r = c.pieces.invariant.goes f.command f.base f.run f.source f.given s in
    let e = refused_here c.args.part.now f.base f.run r.longer (words_of_bytes c.args.bytes.now) c.args.bytes.now c.pieces.at c.in-Err.fault r.later whole (omega arith)
    (c.in-Err.ensures.fault (with_run r.longer f) r.stands) in
    sym (ap (λ (w : RunWritten). w.fault) e)

pub returns-clause-stands : goal.returns-clause-stands
returns-clause-stands c = λ f s.
    let r = goes_through c.args.part.now c.args.self.now c.pieces.self (frame_at c.args.part.now c.args.memory.now) (frame_at c.args.part.now c.pieces.memory) (words_of_bytes c.args.bytes.now) c.args.bytes.now c.pieces.at
    c.pieces.invariant.goes (omega (arith, c.pieces-test.false)) f.command f.base f.run f.source f.given s in
    let e = ends_whole c.args.part.now f.base f.run r.longer (words_of_bytes c.args.bytes.now) (c.pieces.at / 4) r.later in
    rw (ap (λ (w : RunWritten). w.run) e) r.stands

pub returns-clause-lands : goal.returns-clause-lands
returns-clause-lands c = λ f s.
    let r = goes_through c.args.part.now c.args.self.now c.pieces.self (frame_at c.args.part.now c.args.memory.now) (frame_at c.args.part.now c.pieces.memory) (words_of_bytes c.args.bytes.now) c.args.bytes.now c.pieces.at
    c.pieces.invariant.goes (omega (arith, c.pieces-test.false)) f.command f.base f.run f.source f.given s in
    let e = ends_whole c.args.part.now f.base f.run r.longer (words_of_bytes c.args.bytes.now) (c.pieces.at / 4) r.later in
    rw (ap (λ (w : RunWritten). w.run) e) r.lands

pub returns-clause-count : goal.returns-clause-count
returns-clause-count c = λ f s.
    let r = goes_through c.args.part.now c.args.self.now c.pieces.self (frame_at c.args.part.now c.args.memory.now) (frame_at c.args.part.now c.pieces.memory) (words_of_bytes c.args.bytes.now) c.args.bytes.now c.pieces.at
    c.pieces.invariant.goes (omega (arith, c.pieces-test.false)) f.command f.base f.run f.source f.given s in
    let e = ends_whole c.args.part.now f.base f.run r.longer (words_of_bytes c.args.bytes.now) (c.pieces.at / 4) r.later in
    sym (ap (λ (w : RunWritten). w.count) e)

pub returns-clause-fault : goal.returns-clause-fault
returns-clause-fault c = λ f s.
    let r = goes_through c.args.part.now c.args.self.now c.pieces.self (frame_at c.args.part.now c.args.memory.now) (frame_at c.args.part.now c.pieces.memory) (words_of_bytes c.args.bytes.now) c.args.bytes.now c.pieces.at
    c.pieces.invariant.goes (omega (arith, c.pieces-test.false)) f.command f.base f.run f.source f.given s in
    let e = ends_whole c.args.part.now f.base f.run r.longer (words_of_bytes c.args.bytes.now) (c.pieces.at / 4) r.later in
    sym (ap (λ (w : RunWritten). w.fault) e)
