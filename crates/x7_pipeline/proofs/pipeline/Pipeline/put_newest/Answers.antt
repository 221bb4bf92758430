use Rattle.std.proofs.Common.{◌≡◌, ◌-◌, ◌∙◌, ap, refl, sym, get_or}
use Rattle.x7_memory.specs.PartFrames.{frame_at}
use Rattle.x7_part.specs.declared.slot.Slot.TheVariants.{End}
use Rattle.x7_part.specs.Slot.{slots_from}
use Rattle.x7_pipeline.specs.Pipeline.{PipelineData}
use Rattle.x7_pipeline.proofs.StateLemmas.{put_frame, put_no_frame, kept_is, kept_none}
use Rattle.x7_pipeline.proofs.pipeline.Pipeline.put_newest.Goals as goal

pub returns-in-Some-clause-puts_nothing : goal.returns-in-Some-clause-puts_nothing
returns-in-Some-clause-puts_nothing c = λ e.
    let kept = ap (λ (v : PipelineData). v.newest) c.self.view_is in
    absurd (c.if-self-eq0.false (kept_none c.self.inside.frame_count c.self.inside.newest.items c.args.self.now.newest kept e))

pub returns-in-Some-clause-put : goal.returns-in-Some-clause-put
returns-in-Some-clause-put c = λ frame e.
    let kept = ap (λ (v : PipelineData). v.newest) c.self.view_is in
    let same : c.deref.result.now ≡ frame = c.deref.ensures.value ∙ kept_is c.self.inside.frame_count c.self.inside.newest.items frame c.args.self.now.newest kept e in
    let count : c.self.inside.frame_count ≡ c.args.self.now.frame_count = ap (λ (v : PipelineData). v.frame_count) c.self.view_is in
    let slot = sym c.in-Some.ensures.found.1 ∙ c.requires.place.same (c.self.inside.frame_count - 1) ∙ ap (λ n. get_or (slots_from c.args.part.now c.args.self.now.base) (n - 1) End) count in
    put_frame _ _ frame (frame_at c.args.part.now c.args.memory.now) (frame_at c.args.part.now c.put_at_rank.new.self) slot (rw (← same) c.put_at_rank.ensures.put)

pub returns-in_default : goal.returns-in_default
returns-in_default c =
    let count : c.self.inside.frame_count ≡ c.args.self.now.frame_count = ap (λ (v : PipelineData). v.frame_count) c.self.view_is in
    let slot = c.requires.place.same (c.self.inside.frame_count - 1) ∙ ap (λ n. get_or (slots_from c.args.part.now c.args.self.now.base) (n - 1) End) count in
    record {
      puts_nothing = λ e. refl;
      put = λ frame e. put_no_frame _ frame (frame_at c.args.part.now c.args.memory.now) (frame_at c.args.part.now c.args.memory.now) (λ far is. c.in_default.ensures.no_frame far (slot ∙ is)) (λ a. refl);
      memory = c.requires.part.frames_fit;
    }
