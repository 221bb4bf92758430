use Rattle.std.proofs.Common.{◌≡◌, ◌∙◌, ◌*◌, ◌<◌, [], ap, refl, sym, arith, get_or}
use Rattle.std.specs.Prelude.{slice_set}
use Rattle.std.proofs.lemmas.Grind.{get_or_default_zero}
use Rattle.x7_memory.specs.Flat.{words_with_frame}
use Rattle.x7_memory.proofs.MemoryLemmas.{is_rank, new_width, own_number, over_seen, over_room, none_seen, first_room, first_seen, first_fields, stored_few, next_room}
use Rattle.x7_memory.proofs.ZeroLemmas.{zeros_alike}
use Rattle.x7_memory.proofs.memory.Memory.put_at.Goals as goal

pub write_over-requires : goal.write_over-requires
write_over-requires c =
    let r = is_rank c.self.inside c.args.rank c.self.invariant (rw c.self.view_is c.requires.rank) in
    let number = c.index-number.ensures ∙ get_or_default_zero c.self.inside.numbers.items c.args.rank c.index-number.result.now r.inside in
    let wide = new_width c.self.inside c.args.rank c.args.words.now _ c.self.invariant r c.self.view_is (c.requires.width []) in
    let end = r.end in let whole = c.self.invariant.whole in
    rw number (omega arith)

pub invariant_of-self : goal.invariant_of-self
invariant_of-self c =
    let r = is_rank c.self.inside c.args.rank c.self.invariant (rw c.self.view_is c.requires.rank) in
    let number = c.index-number.ensures ∙ get_or_default_zero c.self.inside.numbers.items c.args.rank c.index-number.result.now r.inside in
    let wide = new_width c.self.inside c.args.rank c.args.words.now _ c.self.invariant r c.self.view_is (c.requires.width []) in
    let own : 0 < get_or c.self.inside.numbers.items c.args.rank 0 = own_number number c.if-number-ne0.true in
    let items = c.write_over.ensures.items ∙ ap (λ k. words_with_frame (c.self.inside.width * k) c.args.words.now c.self.inside.words.items) number in
    over_room c.self.inside _ c.args.rank c.args.words.now c.self.invariant r own wide refl refl refl (let room = c.write_over.ensures.room in omega arith) items

pub returns-then-number-ne0 : goal.returns-then-number-ne0
returns-then-number-ne0 c =
    let r = is_rank c.self.inside c.args.rank c.self.invariant (rw c.self.view_is c.requires.rank) in
    let number = c.index-number.ensures ∙ get_or_default_zero c.self.inside.numbers.items c.args.rank c.index-number.result.now r.inside in
    let wide = new_width c.self.inside c.args.rank c.args.words.now _ c.self.invariant r c.self.view_is (c.requires.width []) in
    let own : 0 < get_or c.self.inside.numbers.items c.args.rank 0 = own_number number c.if-number-ne0.true in
    let items = c.write_over.ensures.items ∙ ap (λ k. words_with_frame (c.self.inside.width * k) c.args.words.now c.self.inside.words.items) number in
    over_seen c.self.inside c.args.rank c.write_over.new.words.items c.args.words.now c.self.invariant r own wide items
    ∙ ap (λ m. slice_set m c.args.rank c.args.words.now) c.self.view_is

pub returns-then-are_zeros : goal.returns-then-are_zeros
returns-then-are_zeros c =
    let r = is_rank c.self.inside c.args.rank c.self.invariant (rw c.self.view_is c.requires.rank) in
    let number = c.index-number.ensures ∙ get_or_default_zero c.self.inside.numbers.items c.args.rank c.index-number.result.now r.inside in
    let wide = new_width c.self.inside c.args.rank c.args.words.now _ c.self.invariant r c.self.view_is (c.requires.width []) in
    let none : get_or c.self.inside.numbers.items c.args.rank 0 ≡ 0 = sym number ∙ c.if-number-ne0.false in
    sym c.self.view_is ∙ none_seen c.self.inside c.args.rank c.args.words.now c.self.invariant r none wide (zeros_alike c.args.words.now (sym c.are_zeros.ensures ∙ c.if-are_zeros.true))
    ∙ ap (λ m. slice_set m c.args.rank c.args.words.now) c.self.view_is

pub overflow_add-self : goal.overflow_add-self
overflow_add-self c =
    let r = is_rank c.self.inside c.args.rank c.self.invariant (rw c.self.view_is c.requires.rank) in
    let number = c.index-number.ensures ∙ get_or_default_zero c.self.inside.numbers.items c.args.rank c.index-number.result.now r.inside in
    let few = stored_few c.self.inside c.self.invariant in let limit = c.self.invariant.ranks in
    record { fits = omega arith }

pub append-requires : goal.append-requires
append-requires c =
    let r = is_rank c.self.inside c.args.rank c.self.invariant (rw c.self.view_is c.requires.rank) in
    let number = c.index-number.ensures ∙ get_or_default_zero c.self.inside.numbers.items c.args.rank c.index-number.result.now r.inside in
    let wide = new_width c.self.inside c.args.rank c.args.words.now _ c.self.invariant r c.self.view_is (c.requires.width []) in
    let none : get_or c.self.inside.numbers.items c.args.rank 0 ≡ 0 = sym number ∙ c.if-number-ne0.false in
    let first = first_room c.self.inside c.args.rank c.self.invariant r none in
    let room = next_room c.self.inside c.self.invariant first in
    let whole = c.self.invariant.whole in
    omega arith

pub invariant_of-self-2 : goal.invariant_of-self-2
invariant_of-self-2 c =
    let r = is_rank c.self.inside c.args.rank c.self.invariant (rw c.self.view_is c.requires.rank) in
    let number = c.index-number.ensures ∙ get_or_default_zero c.self.inside.numbers.items c.args.rank c.index-number.result.now r.inside in
    let wide = new_width c.self.inside c.args.rank c.args.words.now _ c.self.invariant r c.self.view_is (c.requires.width []) in
    let none : get_or c.self.inside.numbers.items c.args.rank 0 ≡ 0 = sym number ∙ c.if-number-ne0.false in
    first_fields c.self.inside _ c.args.rank c.args.words.now c.self.invariant r none wide refl refl refl c.append.ensures.room c.append.ensures.items

pub returns : goal.returns
returns c =
    let r = is_rank c.self.inside c.args.rank c.self.invariant (rw c.self.view_is c.requires.rank) in
    let wide = new_width c.self.inside c.args.rank c.args.words.now _ c.self.invariant r c.self.view_is (c.requires.width []) in
    first_seen c.self.inside c.args.rank c.append.new.words.items _ c.args.words.now c.self.invariant r wide c.append.ensures.items refl
    ∙ ap (λ m. slice_set m c.args.rank c.args.words.now) c.self.view_is
