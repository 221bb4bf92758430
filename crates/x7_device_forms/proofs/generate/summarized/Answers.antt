use Rattle.std.proofs.Common.{false, sym, subst, ap, ◌∙◌}
use Rattle.x7_memory.specs.FrameMap.{HaveSameFrames, FrameMap}
use Rattle.x7_memory.specs.PartFrames.{frame_at}
use Rattle.x7_engine.specs.declared.snapshot.Snapshot.{Snapshot}
use Rattle.x7_engine.specs.Kept.{on_the_bench}
use Rattle.x7_playing.specs.Playing.{play_state}
use Rattle.x7_device_forms.proofs.GenerateLemmas.{summary_is, sure}
use Rattle.x7_playing.proofs.PlayerLemmas.{played_all}
use Rattle.x7_device_forms.proofs.generate.summarized.Goals as goal

pub returns : goal.returns
returns c = λ part stream took.
    let p = c.args.player.now in
    let on = sure p.is_over_limit part stream (play_state p.device p.buffer p.reads.items) took.2 took.0 in
    let all = played_all part stream p.device p.reads.items on.0 on.1 in
    let stands = all.stands in
    let state = c.state.ensures.value part on_the_bench false all.prefix stands all.no_word_due ∙ sym all.state in
    let memory = subst (λ (m : FrameMap). HaveSameFrames (frame_at part c.memory.result.now) m) (sym all.memory) (c.memory.ensures.shows part on_the_bench false all.prefix stands) in
    summary_is c.part-part.result.now part c.name.result.now c.args.seed c.args.planned c.args.size _ _ c.memory.result.now stream c.new-text.result.items c.put_summary.new.text.items
    c.name.ensures (c.part-part.ensures.value part on_the_bench false all.prefix stands) took.1 (ap (λ (r : Snapshot). r.phase) state) c.memory_sum.ensures memory c.new-text.ensures.items c.in_ok-put_summary.ensures
