use Rattle.std.proofs.Common.{◌+◌, ◌++◌, ◌∙◌, ◌∷◌, ◌≡◌, List, [], ap, arith, length, length-append, subst, sym}
use Rattle.std.specs.List.{AllByRecursion}
use Rattle.circular_buffer.specs.Buffer.{Buffer}
use Rattle.x7_words.proofs.ListLemmas.{all_append}
use Rattle.x7_engine.specs.Undo.{IsUndoOf, UndoState}
use Rattle.x7_debug.proofs.JournalLemmas.{keep_all}
use Rattle.x7_debug.proofs.journal.Journal.new.Goals as goal

pub loop-preserved : goal.loop-preserved
loop-preserved c =
    let Of : UndoState → Type 0 = IsUndoOf c.args.part.now in
    let i = c.loop.invariant in
    let items : List UndoState = c.loop.records.items in
    let more : List UndoState = items ++ c.in_ok-new.field-0 ∷ [] in
    let longer : length more ≡ length items + 1 = length-append items (c.in_ok-new.field-0 ∷ []) in
    let pushed : c.push_back.new.self.items ≡ more = ap (λ (b : Buffer UndoState). b.items) c.push_back.ensures.items ∙ keep_all c.loop.records.capacity more (omega (arith, longer, i.count, i.room, c.loop-test.true)) in
    record {
      count = ap length pushed ∙ longer ∙ ap (λ n. n + 1) i.count;
      room = ap (λ (b : Buffer UndoState). b.capacity) c.push_back.ensures.items ∙ i.room;
      fit = subst (AllByRecursion Of) (sym pushed) (all_append Of items (c.in_ok-new.field-0 ∷ []) i.fit (c.in_ok-new.ensures.part, tt));
    }
