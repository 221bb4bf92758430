use Rattle.std.proofs.Common.{◌+◌, ◌∙◌, [], length, ap, refl, sym, arith, eq-eqb, Some, None, Vec, ◌==◌, if◌then◌else◌}
use Rattle.std.proofs.lemmas.Bool.{eqb-true, lt-ltb}
use Rattle.x7_memory.specs.PartFrames.{frame_at}
use Rattle.x7_pipeline.specs.FarAsRead.{is_frame_address}
use Rattle.x7_part.specs.Slot.{slots_from}
use Rattle.x7_pipeline.specs.PipelineFields.{pipeline_seen}
use Rattle.x7_pipeline.specs.Pipeline.{PipelineData}
use Rattle.x7_pipeline.proofs.SlotLemmas.{has_address}
use Rattle.x7_pipeline.proofs.StateLemmas.{alike, goes_on, completes_frame, lands_nothing, lands_frame, nowhere, somewhere, write_refused, write_allowed, overrun_refused, kept_now}
use Rattle.x7_pipeline.proofs.pipeline.Pipeline.write.Goals as goal

pub returns-then-writes_nowhere-clause-fault : goal.returns-then-writes_nowhere-clause-fault
returns-then-writes_nowhere-clause-fault c = λ f s.
    let t = nowhere _ _ (is_frame_address c.args.part.now c.args.self.now.base) (sym c.writes_nowhere.ensures ∙ c.if-writes_nowhere.true) in
    rw (ap (λ (v : PipelineData). v.base) c.self.view_is)
    (write_refused c.args.part.now c.args.self.now f.command f.base f.run f.source f.given s (eqb-true c.args.self.now.frame_count 0 t.0) (eqb-true (length c.args.self.now.rest) 0 t.1) t.2)

pub returns-then-len-self-clause-stands : goal.returns-then-len-self-clause-stands
returns-then-len-self-clause-stands c = λ f s.
    goes_on c.args.part.now (pipeline_seen c.self.inside) _ c.args.word f.command f.base f.run f.source f.given
    (alike c.args.part.now c.args.self.now (pipeline_seen c.self.inside) f.command f.base f.run f.source f.given c.self.view_is s)
    (omega arith) (ap (λ rest. record (pipeline_seen c.self.inside) { rest = rest }) c.push_word.ensures.items)

pub returns-then-len-self-clause-lands : goal.returns-then-len-self-clause-lands
returns-then-len-self-clause-lands c = λ f s.
    lands_nothing c.args.part.now (pipeline_seen c.self.inside) c.args.word f.command f.base f.run f.source f.given (frame_at c.args.part.now c.args.memory.now) (frame_at c.args.part.now c.args.memory.now)
    (alike c.args.part.now c.args.self.now (pipeline_seen c.self.inside) f.command f.base f.run f.source f.given c.self.view_is s)
    (omega arith) (λ far. refl)

pub returns-then-len-self-clause-fault : goal.returns-then-len-self-clause-fault
returns-then-len-self-clause-fault c = λ f s.
    write_allowed c.args.part.now c.args.self.now f.command f.base f.run f.source f.given s
    (λ none_whole no_rest. somewhere _ _ (is_frame_address c.args.part.now c.args.self.now.base) (sym c.writes_nowhere.ensures ∙ c.if-writes_nowhere.false)
    (eq-eqb c.args.self.now.frame_count 0 none_whole) (eq-eqb (length c.args.self.now.rest) 0 no_rest))
    (λ full.
    let rest = ap (λ (v : PipelineData). length v.rest) c.self.view_is in
    let width = ap (λ (v : PipelineData). v.width) c.self.view_is in absurd (omega arith))

pub returns-then-slot_count-self-clause-fault : goal.returns-then-slot_count-self-clause-fault
returns-then-slot_count-self-clause-fault c = λ f s.
    let rest = ap (λ (v : PipelineData). length v.rest) c.self.view_is in
    let width = ap (λ (v : PipelineData). v.width) c.self.view_is in
    let count = ap (λ (v : PipelineData). v.frame_count) c.self.view_is in
    let places = ap (λ (v : PipelineData). length (slots_from c.args.part.now v.base)) c.self.view_is in
    let short = c.self.invariant.short in
    let slots = c.slot_count.ensures.value in
    overrun_refused c.args.part.now c.args.self.now f.command f.base f.run f.source f.given s
    (λ none_whole no_rest. somewhere _ _ (is_frame_address c.args.part.now c.args.self.now.base) (sym c.writes_nowhere.ensures ∙ c.if-writes_nowhere.false)
    (eq-eqb c.args.self.now.frame_count 0 none_whole) (eq-eqb (length c.args.self.now.rest) 0 no_rest))
    (omega arith) (omega arith)

pub place_of-first-requires : goal.place_of-first-requires
place_of-first-requires c =
    let slots = c.slot_count.ensures.value in
    record { address = has_address c.args.part.now c.self.inside.base (lt-ltb 0 (length (slots_from c.args.part.now c.self.inside.base)) (omega arith)) }

pub returns-clause-stands : goal.returns-clause-stands
returns-clause-stands c = λ f s.
    let short = c.self.invariant.short in
    let slots = c.slot_count.ensures.value in
    let place = ap (λ (v : PipelineData). v.base) c.self.view_is ∙ s.base_is in
    completes_frame c.args.part.now (pipeline_seen c.self.inside) _ c.args.word f.command f.base f.run f.source f.given
    (alike c.args.part.now c.args.self.now (pipeline_seen c.self.inside) f.command f.base f.run f.source f.given c.self.view_is s)
    (omega arith) (rw (← place) (omega arith))
    (ap (λ rest. record (pipeline_seen c.self.inside) { rest = rest; newest = (if c.self.inside.frame_count + 1 == 0 then None else Some c.swap.new.y.items); frame_count = c.self.inside.frame_count + 1 }) c.clear.ensures.items
    ∙ ap (λ newest. record (pipeline_seen c.self.inside) { rest = []; newest = newest; frame_count = c.self.inside.frame_count + 1 })
    (kept_now c.self.inside.frame_count c.swap.new.y.items ∙ ap (λ (v : Vec _ _). Some v.items) c.swap.ensures.y_after ∙ ap Some c.push_word-2.ensures.items))

pub returns-clause-lands : goal.returns-clause-lands
returns-clause-lands c = λ f s.
    let rest = ap (λ (v : PipelineData). length v.rest) c.self.view_is in
    let width = ap (λ (v : PipelineData). v.width) c.self.view_is in
    let short = c.self.invariant.short in
    lands_frame c.args.part.now c.args.self.now c.args.word f.command f.base f.run f.source f.given (frame_at c.args.part.now c.args.memory.now) (frame_at c.args.part.now c.put_newest.new.memory) s
    (omega arith)
    (λ none far. ap (λ memory. frame_at c.args.part.now memory far) (c.put_newest.ensures.puts_nothing none))
    c.put_newest.ensures.put

pub returns-clause-fault : goal.returns-clause-fault
returns-clause-fault c = λ f s.
    let count = ap (λ (v : PipelineData). v.frame_count) c.self.view_is in
    let places = ap (λ (v : PipelineData). length (slots_from c.args.part.now v.base)) c.self.view_is in
    let slots = c.slot_count.ensures.value in
    write_allowed c.args.part.now c.args.self.now f.command f.base f.run f.source f.given s
    (λ none_whole no_rest. somewhere _ _ (is_frame_address c.args.part.now c.args.self.now.base) (sym c.writes_nowhere.ensures ∙ c.if-writes_nowhere.false)
    (eq-eqb c.args.self.now.frame_count 0 none_whole) (eq-eqb (length c.args.self.now.rest) 0 no_rest))
    (λ full. omega arith)
