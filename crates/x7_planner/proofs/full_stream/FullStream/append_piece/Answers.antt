use Rattle.std.proofs.Common.{ℕ, ◌*◌, List, [], ◌∷◌, ◌++◌, length, Err, replicate, refl, sym, ap, subst, ◌∙◌, arith}
use Rattle.x7_crc.specs.Checker.{HasTaken}
use Rattle.x7_regs.specs.declared.command.Command.TheVariants.{Desync, Lfrm, Start}
use Rattle.x7_packets.specs.PacketWords.{command, no_op}
use Rattle.x7_planner.specs.FullStream.{full_ending_no_ops, full_opening}
use Rattle.x7_planner.specs.FullStreamPieces.{FullStreamState, piece_limit}
use Rattle.x7_planner.specs.Writer.{bytes_of_words}
use Rattle.x7_planner.proofs.FullStreamPiecesLemmas.{wrote_check, wrote_ending, wrote_nothing, wrote_opening, wrote_start}
use Rattle.x7_planner.specs.declared.full_stream.NextPiece.TheVariants as next
use Rattle.x7_planner.proofs.SlotLemmas.{and_packet, last_packet, packets_written, written_on}
use Rattle.x7_planner.proofs.WithinLemmas.{within_after, within_call, within_handed}
use Rattle.x7_planner.proofs.full_stream.FullStream.append_piece.Goals as goal

pub returns-in_ok-put_opening-in-Opening-clause-writes : goal.returns-in_ok-put_opening-in-Opening-clause-writes
returns-in_ok-put_opening-in-Opening-clause-writes c =
    wrote_opening c.args.self.now c.args.out.now.items c.put_opening.new.out.items (sym (ap (λ s. s.next_piece) c.self.view_is) ∙ c.in-Opening.is)
    (c.in_ok-put_opening-in-Opening.ensures.appends ∙ ap (λ (x : FullStreamState). c.args.out.now.items ++ bytes_of_words (full_opening x.part)) c.self.view_is)

pub returns-in_err-put_opening-in-Opening-clause-within : goal.returns-in_err-put_opening-in-Opening-clause-within
returns-in_err-put_opening-in-Opening-clause-within c = within_handed c.args.out.now c.put_opening.new.out c.from_residual.result piece_limit c.from_residual.ensures.0 (λ e.
    let w = c.in_err-put_opening-in-Opening.ensures.within in record { within = tt; failed = w.failed; room = w.room; no_room = (let n = w.no_room in omega (arith, n)) })

pub returns-in_ok-put_words-in-Check-clause-writes : goal.returns-in_ok-put_words-in-Check-clause-writes
returns-in_ok-put_words-in-Check-clause-writes c =
    wrote_check c.args.self.now c.args.out.now.items c.put_words.new.out.items next.Check next.Start c.check.result refl refl (omega arith) (sym (ap (λ s. s.next_piece) c.self.view_is) ∙ c.in-Check.is)
    (λ bytes k. c.check.ensures.value bytes (subst (λ (x : FullStreamState). HasTaken x.checker bytes) (sym c.self.view_is) k))
    (c.in_ok-put_words-in-Check.ensures.appends ∙ ap (λ (t : List ℕ). c.args.out.now.items ++ bytes_of_words t) c.write_one.ensures)

pub returns-in_err-put_words-in-Check-clause-within : goal.returns-in_err-put_words-in-Check-clause-within
returns-in_err-put_words-in-Check-clause-within c = within_handed c.args.out.now c.put_words.new.out c.from_residual-in_err-put_words-in-Check.result piece_limit c.from_residual-in_err-put_words-in-Check.ensures.0 (λ e.
    within_call c.args.out.now c.put_words.new.out (Err e) (4 * length c.write_one.result) piece_limit tt c.in_err-put_words-in-Check.ensures.unchanged c.put_words.ensures.room c.in_err-put_words-in-Check.ensures.no_room (omega (arith, ap length c.write_one.ensures)))

pub returns-in_ok-put_packets-in-Start-clause-writes : goal.returns-in_ok-put_packets-in-Start-clause-writes
returns-in_ok-put_packets-in-Start-clause-writes c =
    wrote_start c.args.self.now c.args.out.now.items c.put_packets.new.out.items (sym (ap (λ s. s.next_piece) c.self.view_is) ∙ c.in-Start.is)
    (packets_written c.args.out.now.items c.put_packets.new.out.items {named = command Lfrm ∷ command Start ∷ []} (and_packet c.command.ensures (last_packet c.command-in-Start.ensures)) c.in_ok-put_packets-in-Start.ensures.appends)

pub returns-in_err-put_packets-in-Start-clause-within : goal.returns-in_err-put_packets-in-Start-clause-within
returns-in_err-put_packets-in-Start-clause-within c = within_handed c.args.out.now c.put_packets.new.out c.from_residual-in_err-put_packets-in-Start.result piece_limit c.from_residual-in_err-put_packets-in-Start.ensures.0 (λ e.
    within_call c.args.out.now c.put_packets.new.out (Err e) 16 piece_limit tt c.in_err-put_packets-in-Start.ensures.unchanged c.put_packets.ensures.room c.in_err-put_packets-in-Start.ensures.no_room (omega arith))

pub returns-in_ok-put_words-in-LastCheck-clause-writes : goal.returns-in_ok-put_words-in-LastCheck-clause-writes
returns-in_ok-put_words-in-LastCheck-clause-writes c =
    wrote_check c.args.self.now c.args.out.now.items c.put_words-in-LastCheck.new.out.items next.LastCheck next.Desync c.check-in-LastCheck.result refl refl (omega arith) (sym (ap (λ s. s.next_piece) c.self.view_is) ∙ c.in-LastCheck.is)
    (λ bytes k. c.check-in-LastCheck.ensures.value bytes (subst (λ (x : FullStreamState). HasTaken x.checker bytes) (sym c.self.view_is) k))
    (c.in_ok-put_words-in-LastCheck.ensures.appends ∙ ap (λ (t : List ℕ). c.args.out.now.items ++ bytes_of_words t) c.write_one-in-LastCheck.ensures)

pub returns-in_err-put_words-in-LastCheck-clause-within : goal.returns-in_err-put_words-in-LastCheck-clause-within
returns-in_err-put_words-in-LastCheck-clause-within c = within_handed c.args.out.now c.put_words-in-LastCheck.new.out c.from_residual-in_err-put_words-in-LastCheck.result piece_limit c.from_residual-in_err-put_words-in-LastCheck.ensures.0 (λ e.
    within_call c.args.out.now c.put_words-in-LastCheck.new.out (Err e) (4 * length c.write_one-in-LastCheck.result) piece_limit tt c.in_err-put_words-in-LastCheck.ensures.unchanged c.put_words-in-LastCheck.ensures.room c.in_err-put_words-in-LastCheck.ensures.no_room (omega (arith, ap length c.write_one-in-LastCheck.ensures)))

pub returns-in_ok-put_words-in-Desync-2-clause-writes : goal.returns-in_ok-put_words-in-Desync-2-clause-writes
returns-in_ok-put_words-in-Desync-2-clause-writes c =
    wrote_ending c.args.self.now c.args.out.now.items c.put_words-in-Desync-2.new.out.items (sym (ap (λ s. s.next_piece) c.self.view_is) ∙ c.in-Desync.is)
    (written_on c.args.out.now.items c.put_words-in-Desync.new.out.items c.put_words-in-Desync-2.new.out.items (command Desync) (replicate full_ending_no_ops no_op)
    (c.in_ok-put_words-in-Desync.ensures.appends ∙ ap (λ (t : List ℕ). c.args.out.now.items ++ bytes_of_words t) c.command-in-Desync.ensures) c.in_ok-put_words-in-Desync-2.ensures.appends)

pub returns-in_err-put_words-in-Desync-clause-within : goal.returns-in_err-put_words-in-Desync-clause-within
returns-in_err-put_words-in-Desync-clause-within c = within_handed c.args.out.now c.put_words-in-Desync.new.out c.from_residual-in_err-put_words-in-Desync.result piece_limit c.from_residual-in_err-put_words-in-Desync.ensures.0 (λ e.
    within_call c.args.out.now c.put_words-in-Desync.new.out (Err e) (4 * length c.command-in-Desync.result) piece_limit tt c.in_err-put_words-in-Desync.ensures.unchanged c.put_words-in-Desync.ensures.room c.in_err-put_words-in-Desync.ensures.no_room (omega (arith, ap length c.command-in-Desync.ensures)))

pub returns-in_err-put_words-in-Desync-2-clause-within : goal.returns-in_err-put_words-in-Desync-2-clause-within
returns-in_err-put_words-in-Desync-2-clause-within c = within_handed c.args.out.now c.put_words-in-Desync-2.new.out c.from_residual-in_err-put_words-in-Desync-2.result piece_limit c.from_residual-in_err-put_words-in-Desync-2.ensures.0 (λ e.
    within_after c.args.out.now c.put_words-in-Desync.new.out c.put_words-in-Desync-2.new.out (Err e) _ 8 64 piece_limit c.in_ok-put_words-in-Desync.ensures.appends (omega (arith, c.in_ok-put_words-in-Desync.ensures.length, ap length c.command-in-Desync.ensures)) c.put_words-in-Desync.ensures.room
    (within_call c.put_words-in-Desync.new.out c.put_words-in-Desync-2.new.out (Err e) 64 64 tt c.in_err-put_words-in-Desync-2.ensures.unchanged c.put_words-in-Desync-2.ensures.room c.in_err-put_words-in-Desync-2.ensures.no_room (omega arith)) (omega arith))

pub returns-in-Nothing-clause-writes : goal.returns-in-Nothing-clause-writes
returns-in-Nothing-clause-writes c = wrote_nothing c.args.self.now c.args.out.now.items c.args.out.now.items (sym (ap (λ s. s.next_piece) c.self.view_is) ∙ c.in-Nothing.is) refl
