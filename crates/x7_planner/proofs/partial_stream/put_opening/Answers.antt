use Rattle.std.proofs.Common.{ℕ, [], ◌∙◌, ◌∷◌, ◌++◌, ap}
use Rattle.std.proofs.lemmas.Result.{on_ok_weaker}
use Rattle.x7_regs.specs.declared.command.Command.TheVariants.{Rcrc}
use Rattle.x7_regs.specs.declared.register.Reg.TheVariants.{Idcode}
use Rattle.x7_packets.specs.PacketWords.{command, no_op, write_one}
use Rattle.x7_planner.specs.Writer.{bytes_of_words, opening_words}
use Rattle.x7_planner.proofs.SlotLemmas.{written_on}
use Rattle.x7_planner.proofs.partial_stream.put_opening.Goals as goal

pub returns : goal.returns
returns c =
    let opened = c.put_words.new.out.items in
    let cleared = c.put_words-2.new.out.items in
    let waited = c.put_words-3.new.out.items in
    let new = c.put_words-4.new.out.items in
    on_ok_weaker c.put_words-4.result
    (λ e. written_on c.args.out.now.items opened new opening_words (command Rcrc ++ (no_op ∷ write_one Idcode c.args.part.now.idcode)) c.in_ok-put_words.ensures.appends
    (written_on opened waited new (command Rcrc ++ no_op ∷ []) (write_one Idcode c.args.part.now.idcode)
    (written_on opened cleared waited (command Rcrc) (no_op ∷ []) (c.in_ok-put_words-2.ensures.appends ∙ ap (λ t. opened ++ bytes_of_words t) c.command.ensures) c.in_ok-put_words-3.ensures.appends)
    (e ∙ ap (λ t. waited ++ bytes_of_words t) (c.write_one.ensures ∙ ap (λ (i : ℕ). write_one Idcode i) c.idcode.ensures.value))))
    c.put_words-4.ensures.appends
