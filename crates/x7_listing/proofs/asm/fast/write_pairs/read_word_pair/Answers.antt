use Rattle.std.proofs.Common.{ℕ, ◌+◌, ◌-◌, ◌++◌, arith, ap, ◌∙◌}
use Rattle.x7_words.specs.Word.{bytes_of_word}
use Rattle.x7_listing.proofs.asm.fast.QuickLemmas.{stays}
use Rattle.x7_listing.proofs.asm.fast.WritePairsLemmas.{takes_word}
use Rattle.x7_listing.proofs.asm.fast.write_pairs.read_word_pair.Goals as goal

pub returns : goal.returns
returns c =
    let word = c.in-Some-word_of_hex.word in
    record {
      takes = takes_word c.args.register c.in-Some-word_of_hex.word c.in-Some.size (c.in-Some.size + 8 - c.in-Some.size) c.args.text.now c.args.out.now.items c.put_two_words.new.out.items c.requires.register (omega arith) (omega (arith, c.in-Some.ensures.0, c.told-text))
          (c.in-Some.ensures.1 ∙ c.write_row.ensures) (omega arith) (c.in-Some-word_of_hex.ensures) c.if-text-size-ne10.false
          (c.put_two_words.ensures.appends.items ∙ ap (λ (h : ℕ). c.args.out.now.items ++ (bytes_of_word h ++ bytes_of_word word)) c.type1_write_header.ensures);
      room = stays c.put_two_words.ensures.appends (omega arith);
    }
