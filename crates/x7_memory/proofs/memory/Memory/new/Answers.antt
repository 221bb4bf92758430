use Rattle.std.proofs.Common.{◌∙◌, refl, sym, subst, arith}
use Rattle.x7_memory.specs.PartFrames.{AreFramesOf}
use Rattle.x7_memory.proofs.ZeroLemmas.{new_zeros, none_seen, none_room, zeros_are}
use Rattle.x7_memory.proofs.memory.Memory.new.Goals as goal

pub invariant_of-result : goal.invariant_of-result
invariant_of-result c =
    let least = c.words-width.ensures.least in
    none_room _ c.words-width.result c.frames-frame_count.result (omega arith) c.words-width.ensures.most c.frames-frame_count.ensures.most refl refl c.in_ok-words.ensures.items c.in_ok-numbers.ensures.items
    c.in_ok-words.ensures.room

pub returns-clause-zeros : goal.returns-clause-zeros
returns-clause-zeros c =
    none_seen c.words-width.result c.frames-frame_count.result c.in_ok-words.words.items c.in_ok-numbers.numbers.items c.in_ok-words.ensures.items c.in_ok-numbers.ensures.items
    ∙ new_zeros c.args.part.now c.words-width.result c.frames-frame_count.result c.words-width.ensures.value c.frames-frame_count.ensures.value

pub returns-clause-part : goal.returns-clause-part
returns-clause-part c =
    subst (λ frames. AreFramesOf c.args.part.now frames)
    (sym (none_seen c.words-width.result c.frames-frame_count.result c.in_ok-words.words.items c.in_ok-numbers.numbers.items c.in_ok-words.ensures.items c.in_ok-numbers.ensures.items
    ∙ new_zeros c.args.part.now c.words-width.result c.frames-frame_count.result c.words-width.ensures.value c.frames-frame_count.ensures.value))
    (zeros_are c.args.part.now c.frames-frame_count.ensures.order)
