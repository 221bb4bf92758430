use Rattle.std.proofs.Common.{◌≡◌, ◌+◌, ◌*◌, ◌≤◌, false, length, is_err, ap, sym, ◌∙◌, arith}
use Rattle.std.proofs.lemmas.List.{with_items_is}
use Rattle.x7_words.specs.Flash.{erased_sector}
use Rattle.x7_words.proofs.FlashLemmas.{length_erased_sector}
use Rattle.x7_in_memory.specs.Memory.{FlashInMemory, flash_call_fails, written}
use Rattle.x7_in_memory.proofs.MemoryFlashLemmas.{written_after}
use Rattle.x7_in_memory.proofs.TornLemmas.{put_back, written_is_torn}
use Rattle.x7_in_memory.proofs.flash.MemoryFlash.try_erase.Goals as goal

pub returns-clause-after : goal.returns-clause-after
returns-clause-after c =
    let old = c.args.self.now in
    let place = c.args.sector * 65536 in
    let torn = c.in_ok-torn.torn in
    let d = c.as_mut_slice-bytes.result.now in
    let begins = c.self.view_is ∙ c.begin_write.ensures.begun in
    let same : d ≡ old.bytes = c.as_mut_slice-bytes.ensures.value ∙ ap (λ (x : FlashInMemory). x.bytes) begins in
    let within : place + 65536 ≤ length d = omega (arith, ap length same, c.requires.within) in
    let fits : place + length erased_sector ≤ length d = omega (arith, length_erased_sector, within) in
    let put = put_back torn place 65536 erased_sector d c.erase_in_place.new.bytes length_erased_sector within c.erase_in_place.ensures in
    let items = with_items_is c.self.inside.bytes _ (ap length put ∙ (written_is_torn torn place erased_sector d fits).size ∙ c.as_mut_slice-bytes.ensures.len) in
    let allowed : flash_call_fails old ≡ false = sym c.begin_write.ensures.answer ∙ ap is_err c.in_ok-torn.was in
    written_after old _ _ place erased_sector torn begins allowed c.in_ok-torn.ensures.torn (items ∙ put ∙ ap (written torn place erased_sector) same)
