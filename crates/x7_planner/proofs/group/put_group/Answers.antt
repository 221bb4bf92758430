use Rattle.std.proofs.Common.{◌∙◌, ◌++◌, ap}
use Rattle.std.proofs.lemmas.Result.{on_ok_weaker}
use Rattle.x7_memory.specs.Plan.{planned_addresses}
use Rattle.x7_planner.specs.Content.{planned_rows}
use Rattle.x7_planner.specs.PartialStream.{with_content}
use Rattle.x7_planner.specs.Writer.{bytes_of_words}
use Rattle.x7_planner.proofs.GroupLemmas.{first_far, group_written}
use Rattle.x7_planner.proofs.SlotLemmas.{and_packet, last_packet, packets_written}
use Rattle.x7_planner.proofs.group.put_group.Goals as goal

pub returns : goal.returns
returns c =
    on_ok_weaker c.put_copies.result
    (λ e. group_written c.args.part.now c.args.out.now.items c.put_packets.new.out.items c.put_words.new.out.items c.put_words-2.new.out.items c.put_copies.new.out.items c.args.words.now
    (planned_addresses (with_content c.args.words.now (planned_rows c.args.by_content.now.frames.now))) _ c.words.result c.words.ensures.value
    (first_far c.args.by_content.now.frames.now c.args.words.now c.args.start _ c.requires.together c.requires.first)
    (packets_written c.args.out.now.items c.put_packets.new.out.items (and_packet c.command.ensures (and_packet c.write_one.ensures (last_packet c.frame_data_headers.ensures))) c.in_ok-put_packets.ensures.appends) c.in_ok-put_words.ensures.appends
    (c.in_ok-put_words-2.ensures.appends ∙ ap (λ t. c.put_words.new.out.items ++ bytes_of_words t) c.command-2.ensures) e)
    c.put_copies.ensures
