use Rattle.std.proofs.Common.{◌*◌, List, [], ◌∷◌, ◌++◌, ap, ◌∙◌, arith}
use Rattle.x7_words.specs.Flash.{erased_sector}
use Rattle.x7_words.specs.declared.flash_call.FlashCall.{FlashCall}
use Rattle.x7_words.proofs.FlashLemmas.{length_erased_sector}
use Rattle.x7_ghost.specs.Answered.{erase_call}
use Rattle.x7_in_memory.specs.Memory.{FlashInMemory, after_flash_write}
use Rattle.x7_in_memory.proofs.HistoryLemmas.{erase_is_call}
use Rattle.x7_in_memory.proofs.flash.MemoryFlashFlash.erase.Goals as goal

pub returns-clause-is_call : goal.returns-clause-is_call
returns-clause-is_call c =
    let old = c.args.self.now in
    let after = after_flash_write old (c.args.sector * 65536) erased_sector in
    let call = erase_call c.args.sector c.try_erase-answer.result in
    let is = c.self.view_is ∙ c.try_erase-answer.ensures.after in
    let kept = c.erase.ensures ∙ ap (λ (f : FlashInMemory). f.history ++ call ∷ []) is in
    erase_is_call old _ c.args.sector (omega (arith, length_erased_sector, c.requires.within)) c.try_erase-answer.result c.try_erase-answer.ensures.answer
    (ap (λ (f : FlashInMemory). record f { history = c.erase.new.self }) is ∙ ap (λ (h : List FlashCall). record after { history = h }) kept)
