use Rattle.std.proofs.Common.{◌∙◌, ◌++◌, ap, replicate}
use Rattle.std.proofs.lemmas.Result.{on_ok_weaker}
use Rattle.x7_regs.specs.declared.command.Command.TheVariants.{Desync}
use Rattle.x7_packets.specs.PacketWords.{command, no_op}
use Rattle.x7_planner.specs.Writer.{bytes_of_words, ending_no_ops}
use Rattle.x7_planner.proofs.BurstLemmas.{stream_written}
use Rattle.x7_planner.proofs.SlotLemmas.{written_on}
use Rattle.x7_planner.proofs.partial_stream.put_partial.Goals as goal

pub returns : goal.returns
returns c =
    let checked = c.put_check.new.out.items in
    let new = c.put_words-2.new.out.items in
    on_ok_weaker c.put_words-2.result
    (λ e. stream_written c.args.part.now c.args.plan.now.rows c.args.out.now.items c.put_opening.new.out.items c.put_sections.new.out.items checked new c.requires.none c.in_ok-put_opening.ensures c.in_ok-put_sections.ensures
    c.in_ok-put_check.ensures
    (written_on checked c.put_words.new.out.items new (command Desync) (replicate ending_no_ops no_op) (c.in_ok-put_words.ensures.appends ∙ ap (λ t. checked ++ bytes_of_words t) c.command.ensures) e))
    c.put_words-2.ensures.appends
