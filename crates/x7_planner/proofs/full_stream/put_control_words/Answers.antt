use Rattle.std.proofs.Common.{◌≡◌, ℕ, ◌*◌, List, [], ◌∷◌, ◌++◌, ◌∙◌, length, get_or, Err, ap, ap₂, arith}
use Rattle.std.specs.List.{flat_map}
use Rattle.std.proofs.lemmas.Result.{on_ok_weaker}
use Rattle.x7_part.specs.AddressOrder.{addresses_in}
use Rattle.x7_part.specs.Part.{frame_words}
use Rattle.x7_part.specs.Slot.{slots_in}
use Rattle.x7_regs.specs.declared.command.Command.TheVariants.{Rcrc, Shutdown, Wcfg}
use Rattle.x7_regs.specs.declared.register.Reg.TheVariants.{Cor0, Ctl0, Far, Idcode, Mask}
use Rattle.x7_packets.specs.PacketWords.{command, frame_data_headers, no_op, write_one}
use Rattle.x7_planner.specs.ControlWords.{ctl0_word, ctl0_mask_word, cor0_word}
use Rattle.x7_planner.specs.FullStreamPieces.{control_words_size}
use Rattle.x7_planner.specs.Writer.{bytes_of_words}
use Rattle.x7_planner.proofs.SlotLemmas.{and_packet, last_packet, packets_written, written_on}
use Rattle.x7_planner.proofs.WithinLemmas.{within_after, within_call, within_handed}
use Rattle.x7_planner.proofs.full_stream.put_control_words.Goals as goal

pub returns-clause-appends : goal.returns-clause-appends
returns-clause-appends c =
    let part = c.args.part.now in
    let old = c.args.out.now.items in
    let cleared = c.put_packets.new.out.items in
    let waited = c.put_words.new.out.items in
    let new = c.put_packets-2.new.out.items in
    let control_words : List (List ℕ) =
    write_one Idcode part.idcode ∷ write_one Cor0 cor0_word ∷ write_one Mask ctl0_mask_word ∷ write_one Ctl0 ctl0_word ∷ command Wcfg ∷ write_one Far (get_or (addresses_in part) 0 0) ∷ frame_data_headers (frame_words part * length (slots_in part)) ∷ [] in
    let named : _ ≡ control_words =
    and_packet (c.write_one.ensures ∙ ap (λ (i : ℕ). write_one Idcode i) c.idcode.ensures.value)
    (and_packet c.write_one-2.ensures
    (and_packet c.write_one-3.ensures
    (and_packet c.write_one-4.ensures
    (and_packet c.command-3.ensures
    (and_packet (c.write_one-5.ensures ∙ ap (λ (a : ℕ). write_one Far a) c.first_address.ensures.first)
    (last_packet (c.frame_data_headers.ensures ∙ ap₂ (λ (w n : ℕ). frame_data_headers (w * n)) c.words.ensures.value c.slot_count.ensures.count))))))) in
    let begun : waited ≡ old ++ bytes_of_words ((command Shutdown ++ command Rcrc) ++ no_op ∷ []) =
    written_on old cleared waited (command Shutdown ++ command Rcrc) (no_op ∷ []) (packets_written old cleared (and_packet c.command.ensures (last_packet c.command-2.ensures)) c.in_ok-put_packets.ensures.appends) c.in_ok-put_words.ensures.appends in
    on_ok_weaker c.put_packets-2.result
    (λ e. written_on old waited new ((command Shutdown ++ command Rcrc) ++ no_op ∷ []) (flat_map (λ packet. packet) control_words) begun (packets_written waited new named e))
    c.put_packets-2.ensures.appends

pub returns-in_err-put_packets-clause-within : goal.returns-in_err-put_packets-clause-within
returns-in_err-put_packets-clause-within c = within_handed c.args.out.now c.put_packets.new.out c.from_residual.result control_words_size c.from_residual.ensures.0 (λ e.
    within_call c.args.out.now c.put_packets.new.out (Err e) 16 control_words_size tt c.in_err-put_packets.ensures.unchanged c.put_packets.ensures.room c.in_err-put_packets.ensures.no_room (omega arith))

pub returns-in_err-put_words-clause-within : goal.returns-in_err-put_words-clause-within
returns-in_err-put_words-clause-within c = within_handed c.args.out.now c.put_words.new.out c.from_residual-in_err-put_words.result control_words_size c.from_residual-in_err-put_words.ensures.0 (λ e.
    within_after c.args.out.now c.put_packets.new.out c.put_words.new.out (Err e) _ 16 4 control_words_size c.in_ok-put_packets.ensures.appends (omega (arith, c.in_ok-put_packets.ensures.length)) c.put_packets.ensures.room
    (within_call c.put_packets.new.out c.put_words.new.out (Err e) 4 4 tt c.in_err-put_words.ensures.unchanged c.put_words.ensures.room c.in_err-put_words.ensures.no_room (omega arith)) (omega arith))

pub returns-clause-within : goal.returns-clause-within
returns-clause-within c =
    within_after c.args.out.now c.put_packets.new.out c.put_packets-2.new.out c.put_packets-2.result _ 16 60 control_words_size c.in_ok-put_packets.ensures.appends (omega (arith, c.in_ok-put_packets.ensures.length)) c.put_packets.ensures.room
    (within_after c.put_packets.new.out c.put_words.new.out c.put_packets-2.new.out c.put_packets-2.result _ 4 56 60 c.in_ok-put_words.ensures.appends (omega (arith, c.in_ok-put_words.ensures.length)) c.put_words.ensures.room
    (within_call c.put_words.new.out c.put_packets-2.new.out c.put_packets-2.result 56 56 c.put_packets-2.ensures.length c.put_packets-2.ensures.unchanged c.put_packets-2.ensures.room c.put_packets-2.ensures.no_room (omega arith)) (omega arith)) (omega arith)
