use Rattle.std.proofs.Common.{ℕ, ◌++◌, arith, ap, ◌∙◌}
use Rattle.x7_words.specs.Word.{bytes_of_word}
use Rattle.x7_packets.specs.PacketWords.{type1_write_header}
use Rattle.x7_listing.proofs.asm.fast.QuickLemmas.{stays}
use Rattle.x7_listing.proofs.asm.fast.WritePairsLemmas.{takes_command}
use Rattle.x7_listing.proofs.asm.fast.write_pairs.read_command_pair.Goals as goal

pub returns : goal.returns
returns c = record {
  takes = takes_command c.args.code c.in-Some.size c.args.text.now c.args.out.now.items c.put_two_words.new.out.items c.requires.code
      (omega (arith, c.in-Some.ensures.0, c.told-text)) (c.in-Some.ensures.1 ∙ c.command_row.ensures)
      (c.put_two_words.ensures.appends.items ∙ ap (λ (h : ℕ). c.args.out.now.items ++ (bytes_of_word h ++ bytes_of_word c.args.code))
      (c.type1_write_header.ensures ∙ ap (λ (r : ℕ). type1_write_header r 1) c.number.ensures.value));
  room = stays c.put_two_words.ensures.appends (omega arith);
}
