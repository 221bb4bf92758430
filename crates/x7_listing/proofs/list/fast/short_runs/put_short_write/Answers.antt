use Rattle.std.proofs.Common.{◌≡◌, ◌∙◌, ◌*◌, [], ◌++◌, true, ap, arith, drop, refl, sym, take}
use Rattle.x7_words.specs.Word.{words_of_bytes}
use Rattle.x7_packets.specs.PacketWords.{type1_write_header}
use Rattle.x7_packets.specs.declared.header.Step.TheVariants.{Open}
use Rattle.x7_text.specs.Row.{close}
use Rattle.x7_listing.specs.HeadLine.{text_of_head}
use Rattle.x7_listing.proofs.list.fast.AtOnceLemmas.{prefix_of_prefix, short_listed, short_written}
use Rattle.x7_listing.proofs.list.fast.OnSheetLemmas.{after_text}
use Rattle.x7_listing.proofs.SessionLemmas.{data_place, data_listed, is_data}
use Rattle.x7_listing.proofs.list.fast.short_runs.put_short_write.Goals as goal

pub returns-clause-listed : goal.returns-clause-listed
returns-clause-listed c = λ old new x text given before bytes s.
    let prefix : take (4 * c.args.write.count) c.first_64.result.now ≡ take (4 * c.args.write.count) (drop 4 c.args.rest.now) = prefix_of_prefix _ c.args.write.count
    (drop 4 c.args.rest.now) c.first_64.result.now (omega (arith, c.args.write.short)) (omega (arith, c.requires.long)) c.first_64.ensures in
    short_listed old new true true c.args.in_line.count _ c.args.in_line.count c.args.write.register c.args.write.count [] []
    (text ++ take c.args.len c.args.sheet.now) _ given before bytes c.args.rest.now (words_of_bytes (take (4 * c.args.write.count) c.first_64.result.now))
    c.args.rest x (ap words_of_bytes prefix) (λ k. refl) refl
    (c.put_words-end.ensures.shows.count ∙ sym (data_place c.args.write.register 0 (words_of_bytes (take (4 * c.args.write.count) c.first_64.result.now)) (is_data c.args.write.register x.other)))
    (short_written (text ++ take c.args.len c.args.sheet.now) (text ++ take c.put_head-start.result c.put_head-start.new.sheet) _ (close c.args.in_line.count ++ text_of_head (Open c.args.write.register c.args.write.count) (type1_write_header c.args.write.register c.args.write.count)) _ _
    (after_text text (take c.args.len c.args.sheet.now) _ _ c.put_head-start.ensures.appends) (after_text text (take c.put_head-start.result c.put_head-start.new.sheet) _ _ c.put_words-end.ensures.shows.text)
    (sym (data_listed c.args.write.register 0 (words_of_bytes (take (4 * c.args.write.count) c.first_64.result.now)) (is_data c.args.write.register x.other)))) s
