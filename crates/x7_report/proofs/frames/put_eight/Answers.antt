use Rattle.std.proofs.Common.{◌++◌, ◌<◌, ◌^◌, ◌∙◌, ap, List, ℕ, rules}
use Rattle.std.specs.List.{flat_map}
use Rattle.x7_text.specs.Digits.{hex_byte}
use Rattle.x7_words.proofs.ListLemmas.{all_from_places}
use Rattle.x7_report.proofs.DigitLemmas.{digits_by_bytes}
use Rattle.x7_report.proofs.frames.put_eight.Goals as goal

pub returns : goal.returns
returns c = record {
  appends = record {
    items = c.put.ensures.appends.items
        ∙ ap (λ (t : List ℕ). c.args.out.now.items ++ t) (c.hex_of_block.ensures ∙ ap (flat_map hex_byte) c.bytes_of_words.ensures
        ∙ digits_by_bytes c.args.words.now (all_from_places (λ w. w < 2 ^ 32) c.args.words.now (λ k h. c.fits-words k)));
    within = search rules;
    room = c.put.ensures.appends.room;
  };
}
