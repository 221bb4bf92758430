use Rattle.std.proofs.Common.{ℕ, List, [], ◌∷◌, codes, ◌++◌, ap, ◌∙◌}
use Rattle.std.specs.List.{flat_map}
use Rattle.x7_words.specs.Characters.{line_end_byte, space_byte}
use Rattle.x7_text.specs.Digits.{hex_word}
use Rattle.x7_frames.proofs.TextLemmas.{line_put}
use Rattle.x7_frames.proofs.text.put_frame_line.Goals as goal

pub returns : goal.returns
returns c =
    line_put c.args.text.now.items c.reserve.new.self.items c.put.new.text.items c.put-2.new.text.items c.put-3.new.text.items c.reserve-2.new.self.items c.put_words.new.text.items c.put-4.new.text.items
    (codes "frame ") (hex_word c.args.far) (space_byte ∷ []) (flat_map hex_word c.args.words.now) (line_end_byte ∷ [])
    c.reserve.ensures.items c.put.ensures.appends.items (c.put-2.ensures.appends.items ∙ ap (λ (t : List ℕ). c.put.new.text.items ++ t) c.hex_of_word.ensures) c.put-3.ensures.appends.items
    c.reserve-2.ensures.items c.put_words.ensures.appends.items c.put-4.ensures.appends.items
