use Rattle.std.proofs.Common.{◌++◌, ◌/◌, ◌∙◌, ap, sym, List, ℕ, arith, append_assoc, length}
use Rattle.std.specs.List.{flat_map}
use Rattle.std.specs.Simd.{first_chunks}
use Rattle.x7_text.specs.Digits.{hex_word}
use Rattle.x7_report.proofs.DigitLemmas.{digits_by_blocks}
use Rattle.x7_report.proofs.frames.put_digits.Goals as goal

pub returns : goal.returns
returns c =
    let ws = c.args.words.now in
    let n = length ws / 8 in
    let f : List ℕ → List ℕ = λ block. flat_map hex_word block in
    let first = c.put_blocks.ensures.appends in
    let second = c.put_digits_one_by_one.ensures.appends in
    let blocks = c.as_chunks.ensures.front_len in
    let rest = c.as_chunks.ensures.back_len in
    let early = first.within in
    let late = second.within in
    let room = first.room in
    let more = second.room in
    record {
      appends = record {
        items = second.items ∙ ap (λ (t : List ℕ). t ++ f c.as_chunks.result.1.now) first.items
            ∙ append_assoc c.args.out.now.items (flat_map f c.as_chunks.result.0.now) (f c.as_chunks.result.1.now)
            ∙ ap (λ (t : List ℕ). c.args.out.now.items ++ t)
            (ap (λ (t : List (List ℕ)). flat_map f t ++ f c.as_chunks.result.1.now) c.as_chunks.ensures.front
            ∙ ap (λ (t : List ℕ). flat_map f (first_chunks 8 n ws) ++ f t) c.as_chunks.ensures.back ∙ sym (digits_by_blocks n ws (omega arith)));
        within = omega arith;
        room = omega arith;
      };
    }
