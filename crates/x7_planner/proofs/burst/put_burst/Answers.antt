use Rattle.std.proofs.Common.{ℕ, replicate, length, sym, ap, ◌∙◌, ◌++◌}
use Rattle.std.proofs.lemmas.List.{length-map}
use Rattle.std.proofs.lemmas.Result.{on_ok_weaker}
use Rattle.x7_planner.specs.Content.{planned_row, planned_rows}
use Rattle.x7_planner.specs.Writer.{bytes_of_words}
use Rattle.x7_planner.proofs.BurstLemmas.{first_address, burst_written}
use Rattle.x7_planner.proofs.SlotLemmas.{and_packet, last_packet, packets_written}
use Rattle.x7_planner.proofs.burst.put_burst.Goals as goal

pub returns : goal.returns
returns c =
    on_ok_weaker c.put_words.result
    (λ e. burst_written c.args.part.now c.args.out.now.items c.put_packets.new.out.items c.put_frames.new.out.items c.put_words.new.out.items (planned_rows c.args.burst.now) _ c.words.result (length c.args.burst.now) c.words.ensures.value
    (first_address c.args.burst.now _ c.requires.at_least_one) (sym (length-map c.args.burst.now planned_row))
    (packets_written c.args.out.now.items c.put_packets.new.out.items (and_packet c.command.ensures (and_packet c.write_one.ensures (last_packet c.frame_data_headers.ensures))) c.in_ok-put_packets.ensures.appends) c.in_ok-put_frames.ensures
    (e ∙ ap (λ t. c.put_frames.new.out.items ++ bytes_of_words t) (c.zeros.ensures.words ∙ ap (λ (n : ℕ). replicate n 0) (c.words-2.ensures.value ∙ sym c.words.ensures.value))))
    c.put_words.ensures.appends
