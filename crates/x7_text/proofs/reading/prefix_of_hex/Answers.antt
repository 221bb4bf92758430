use Rattle.std.proofs.Common.{◌<◌, ◌*◌, ap, length, sym, take, ◌∙◌}
use Rattle.x7_words.proofs.ListLemmas.{all_from_places}
use Rattle.x7_text.proofs.PrefixLemmas.{prefix_back}
use Rattle.x7_text.proofs.reading.prefix_of_hex.Goals as goal

pub returns : goal.returns
returns c = record {
  most = c.same_prefix_size.ensures.most;
  length = c.bytes_of_digits-bytes.ensures.length;
  bytes = all_from_places (λ b. b < 256) c.bytes_of_digits-bytes.result (λ k l. c.bytes_of_digits-bytes.ensures.bytes k);
  digits = c.same_prefix_size.ensures.same ∙ ap (take c.same_prefix_size.result) c.hex_of_block.ensures;
  longest = λ bs all within are. c.same_prefix_size.ensures.longest (2 * length bs) within
      (sym (ap (take (2 * length bs)) c.hex_of_block.ensures ∙ prefix_back c.args.block.now c.bytes_of_digits-bytes.result bs all c.bytes_of_digits-bytes.ensures.value are));
}
