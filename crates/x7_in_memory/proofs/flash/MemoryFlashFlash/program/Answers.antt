use Rattle.std.proofs.Common.{List, [], ◌∷◌, ◌++◌, ap, ◌∙◌, arith}
use Rattle.x7_words.specs.Flash.{cleared}
use Rattle.x7_words.specs.declared.flash_call.FlashCall.{FlashCall}
use Rattle.x7_words.proofs.FlashLemmas.{length_cleared}
use Rattle.x7_ghost.specs.Answered.{program_call}
use Rattle.x7_in_memory.specs.Memory.{FlashInMemory, after_flash_write}
use Rattle.x7_in_memory.proofs.HistoryLemmas.{program_is_call}
use Rattle.x7_in_memory.proofs.flash.MemoryFlashFlash.program.Goals as goal

pub returns-clause-is_call : goal.returns-clause-is_call
returns-clause-is_call c =
    let old = c.args.self.now in
    let target = cleared c.args.place c.args.given.now old.bytes in
    let long = length_cleared c.args.place c.args.given.now old.bytes c.requires.within in
    let after = after_flash_write old c.args.place target in
    let call = program_call c.args.place c.args.given.now c.try_program-answer.result in
    let is = c.self.view_is ∙ c.try_program-answer.ensures.after in
    let kept = c.program.ensures ∙ ap (λ (f : FlashInMemory). f.history ++ call ∷ []) is in
    program_is_call old _ c.args.place c.args.given.now (omega (arith, long, c.requires.within)) c.try_program-answer.result c.try_program-answer.ensures.answer
    (ap (λ (f : FlashInMemory). record f { history = c.program.new.self }) is ∙ ap (λ (h : List FlashCall). record after { history = h }) kept)
