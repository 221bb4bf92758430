use Rattle.std.proofs.Common.{◌≡◌, ◌-◌, ◌<◌, ◌∷◌, List, length, take, refl, ap, sym, subst, ◌∙◌, arith}
use Rattle.std.specs.List.{AllByRecursion}
use Rattle.circular_buffer.specs.Buffer.{Buffer}
use Rattle.x7_words.specs.Word.{AreBytes}
use Rattle.x7_words.proofs.ListLemmas.{all_append, all_from_places, all_take}
use Rattle.x7_engine.specs.ReadBuffer.{dropping}
use Rattle.x7_engine.specs.Undo.{IsUndoOf, UndoState}
use Rattle.x7_debug.specs.Journal.{JournalState, records_of}
use Rattle.x7_debug.proofs.FeedLemmas.{fed_none_due, fed_stands}
use Rattle.x7_debug.proofs.JournalLemmas.{get_all, records_more}
use Rattle.x7_debug.proofs.journal.Journal.feed.Goals as goal

pub feed_word-requires-clause-undo : goal.feed_word-requires-clause-undo
feed_word-requires-clause-undo c =
    let all : AllByRecursion (IsUndoOf c.args.device.now.part) c.self.inside.records.items = subst (λ (j : JournalState). AllByRecursion (IsUndoOf c.args.device.now.part) j.all) (sym c.self.view_is) c.requires.records in
    get_all (IsUndoOf c.args.device.now.part) c.self.inside.records.items (length c.self.inside.records.items - 1) c.in-Some.undo c.in-Some.ensures.value all

pub returns-clause-records : goal.returns-clause-records
returns-clause-records c =
    let Of : UndoState → Type 0 = IsUndoOf c.args.device.now.part in
    let items : List UndoState = c.self.inside.records.items in
    let all : AllByRecursion Of items = subst (λ (j : JournalState). AllByRecursion Of j.all) (sym c.self.view_is) c.requires.records in
    let rest : List UndoState = take (length items - 1) items in
    let pushed : c.push_front.new.self.items ≡ take c.pop_back.new.self.capacity (c.feed_word.new.undo ∷ rest) =
    ap (λ (b : Buffer UndoState). b.items) c.push_front.ensures.items
    ∙ ap (λ (b : Buffer UndoState). take c.pop_back.new.self.capacity (c.feed_word.new.undo ∷ b.items)) c.in-Some.ensures.items in
    subst (AllByRecursion Of) (sym pushed) (all_take Of c.pop_back.new.self.capacity (c.feed_word.new.undo ∷ rest) (c.feed_word.ensures.undo, all_take Of (length items - 1) items all))

pub returns-clause-recorded : goal.returns-clause-recorded
returns-clause-recorded c =
    let items : List UndoState = c.self.inside.records.items in
    let popped : c.pop_back.new.self.items ≡ take (length items - 1) items = ap (λ (b : Buffer UndoState). b.items) c.in-Some.ensures.items in
    let room : c.pop_back.new.self.capacity ≡ 64 = ap (λ (b : Buffer UndoState). b.capacity) c.in-Some.ensures.items ∙ c.self.invariant.1 in
    let pushed : c.push_front.new.self.items ≡ take c.pop_back.new.self.capacity (c.feed_word.new.undo ∷ take (length items - 1) items) =
    ap (λ (b : Buffer UndoState). b.items) c.push_front.ensures.items ∙ ap (λ (t : List UndoState). take c.pop_back.new.self.capacity (c.feed_word.new.undo ∷ t)) popped in
    record {
      undo = c.feed_word.new.undo;
      saves = c.feed_word.ensures.saves;
      records = records_more items c.push_front.new.self.items c.feed_word.new.undo c.self.inside.count c.min-self-inside.result c.pop_back.new.self.capacity pushed room c.self.invariant.0 c.self.invariant.2 c.min-self-inside.ensures
          ∙ ap (λ (j : JournalState). c.feed_word.new.undo ∷ take 63 (records_of j)) c.self.view_is;
    }

pub returns-clause-takes : goal.returns-clause-takes
returns-clause-takes c = λ part kept wrapped bytes s.
    let piece = c.args.piece.now in
    let fits : AreBytes piece = all_from_places (λ b. b < 256) piece (λ k h. omega (arith, c.type_inv.piece k)) in (
      fed_stands part kept wrapped bytes piece c.feed_word.new.self dropping c.feed_word.result (all_append (λ b. b < 256) bytes piece s.fits fits) refl (c.feed_word.ensures.takes.stands part kept wrapped bytes s) (c.feed_word.ensures.answer part kept wrapped bytes s),
      fed_none_due part kept wrapped bytes piece c.feed_word.new.self dropping c.feed_word.result refl (c.feed_word.ensures.answer part kept wrapped bytes s),
    )

pub returns-clause-fed : goal.returns-clause-fed
returns-clause-fed c = record {
  never_less = omega (arith, c.feed_word.ensures.takes.fed);
  most = omega (arith, c.feed_word.ensures.takes.fed, c.feed_word.ensures.takes.taken);
}
