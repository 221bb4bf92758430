use Rattle.std.proofs.Common.{◌≡◌, ◌+◌, ◌≤◌, false, length, is_err, ap, sym, ◌∙◌, arith}
use Rattle.std.proofs.lemmas.List.{with_items_is}
use Rattle.x7_words.specs.Flash.{cleared}
use Rattle.x7_words.proofs.FlashLemmas.{length_cleared}
use Rattle.x7_in_memory.specs.Memory.{FlashInMemory, flash_call_fails, written}
use Rattle.x7_in_memory.proofs.MemoryFlashLemmas.{written_after}
use Rattle.x7_in_memory.proofs.TornLemmas.{put_back, written_is_torn}
use Rattle.x7_in_memory.proofs.flash.MemoryFlash.try_program.Goals as goal

pub returns-clause-after : goal.returns-clause-after
returns-clause-after c =
    let old = c.args.self.now in
    let place = c.args.place in
    let given = c.args.given.now in
    let torn = c.in_ok-torn.torn in
    let d = c.deref_mut.result.now in
    let begins = c.self.view_is ∙ c.begin_write.ensures.begun in
    let same : d ≡ old.bytes = c.deref_mut.ensures.value ∙ ap (λ (x : FlashInMemory). x.bytes) begins in
    let within : place + length given ≤ length d = omega (arith, ap length same, c.requires.within) in
    let long = length_cleared place given d within in
    let fits : place + length (cleared place given d) ≤ length d = omega (arith, long, within) in
    let put = put_back torn place (length given) (cleared place given d) d c.program_in_place.new.bytes long within c.program_in_place.ensures in
    let items = with_items_is c.self.inside.bytes _ (ap length put ∙ (written_is_torn torn place (cleared place given d) d fits).size ∙ c.deref_mut.ensures.len) in
    let allowed : flash_call_fails old ≡ false = sym c.begin_write.ensures.answer ∙ ap is_err c.in_ok-torn.was in
    written_after old _ _ place (cleared place given old.bytes) torn begins allowed c.in_ok-torn.ensures.torn (items ∙ put ∙ ap (λ x. written torn place (cleared place given x) x) same)
