use Rattle.std.proofs.Common.{ℕ, ◌+◌, ◌-◌, ◌++◌, refl, arith, ap, ◌∙◌}
use Rattle.x7_words.specs.Word.{bytes_of_word}
use Rattle.x7_listing.specs.Line.{Write}
use Rattle.x7_listing.proofs.asm.fast.QuickLemmas.{stays, takes_line}
use Rattle.x7_listing.proofs.asm.fast.quick.read_write_line.Goals as goal

pub returns : goal.returns
returns c =
    record {
      takes = takes_line (Write c.in-Some.register c.in-Some.count) _ _ c.args.text.now c.args.out.now.items c.put_word_bytes.new.out.items 6
          (8 + c.place_of-space.result - 6) (8 + c.place_of-space.result) (8 + c.place_of-space.result + 1) c.in-Some.ensures.0 tt refl
          (c.is_same.ensures.0 c.if-not-is_same.false) c.in-Some.ensures.1 (omega arith) (omega arith) c.if-text-space-ne10.false (omega arith)
          (c.put_word_bytes.ensures.appends.items ∙ ap (λ (h : ℕ). c.args.out.now.items ++ bytes_of_word h) c.type1_write_header.ensures);
      room = stays c.put_word_bytes.ensures.appends (omega arith);
    }
