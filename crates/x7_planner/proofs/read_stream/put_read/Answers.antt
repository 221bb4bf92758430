use Rattle.std.proofs.Common.{◌≡◌, ℕ, List, [], ◌∷◌, ◌++◌, ◌∙◌, ap, replicate}
use Rattle.std.specs.List.{flat_map}
use Rattle.std.proofs.lemmas.Result.{on_ok_weaker}
use Rattle.x7_regs.specs.declared.command.Command.TheVariants.{Desync, Rcfg, Rcrc}
use Rattle.x7_regs.specs.declared.register.Reg.TheVariants.{Far}
use Rattle.x7_packets.specs.PacketWords.{command, frame_read_headers, no_op, write_one}
use Rattle.x7_planner.specs.Writer.{bytes_of_words, ending_no_ops, opening_words}
use Rattle.x7_planner.proofs.SlotLemmas.{and_packet, last_packet, packets_written, written_on}
use Rattle.x7_planner.proofs.read_stream.put_read.Goals as goal

pub returns : goal.returns
returns c =
    let old = c.args.out.now.items in
    let opened = c.put_words.new.out.items in
    let cleared = c.put_words-2.new.out.items in
    let waited = c.put_words-3.new.out.items in
    let asked = c.put_packets.new.out.items in
    let begin : List ℕ = (opening_words ++ command Rcrc) ++ no_op ∷ [] in
    let packets : List (List ℕ) = command Rcfg ∷ write_one Far c.args.far ∷ frame_read_headers c.args.word_count ∷ command Desync ∷ [] in
    let begun : waited ≡ old ++ bytes_of_words begin =
    written_on old cleared waited (opening_words ++ command Rcrc) (no_op ∷ [])
    (written_on old opened cleared opening_words (command Rcrc) c.in_ok-put_words.ensures.appends (c.in_ok-put_words-2.ensures.appends ∙ ap (λ t. opened ++ bytes_of_words t) c.command.ensures)) c.in_ok-put_words-3.ensures.appends in
    let told : asked ≡ old ++ bytes_of_words (begin ++ flat_map (λ packet. packet) packets) =
    written_on old waited asked begin (flat_map (λ packet. packet) packets) begun
    (packets_written waited asked (and_packet c.command-2.ensures (and_packet c.write_one.ensures (and_packet c.frame_read_headers.ensures (last_packet c.command-3.ensures)))) c.in_ok-put_packets.ensures.appends) in
    on_ok_weaker c.put_words-4.result (λ e. written_on old asked c.put_words-4.new.out.items (begin ++ flat_map (λ packet. packet) packets) (replicate ending_no_ops no_op) told e) c.put_words-4.ensures.appends
