use Rattle.std.proofs.Common.{◌≡◌, ap, subst, ◌∙◌}
use Rattle.x7_planner.specs.FullStreamPieces.{FullStreamState, WritesPiece}
use Rattle.x7_planner.specs.declared.full_stream.NextPiece.TheVariants.{Check, Slot}
use Rattle.x7_planner.proofs.FullStreamPiecesLemmas.{inside_at, wrote_frames, wrote_slots}
use Rattle.x7_planner.proofs.full_stream.FullStream.append_frames.Goals as goal

pub returns-then-end-count-clause-writes : goal.returns-then-end-count-clause-writes
returns-then-end-count-clause-writes c =
    let s : FullStreamState = record { part = c.self.inside.part.now; plan = c.self.inside.plan.now; next_piece = c.self.inside.next_piece; checker = c.self.inside.checker } in
    let at : s.next_piece ≡ Slot c.args.slot_number = ap (λ x. x.next_piece) c.self.view_is ∙ c.requires in
    subst (λ x. WritesPiece x c.args.out.now.items c.put_slots.new.out.items Check) c.self.view_is
    (wrote_frames s c.args.out.now.items c.put_slots.new.out.items c.args.slot_number c.slot_count-count.result c.min-end.result at (inside_at s c.args.slot_number at c.self.invariant) c.slot_count-count.ensures.count c.min-end.ensures c.if-end-count.true c.in_ok-put_slots.ensures.appends)

pub returns-else-end-count-clause-writes : goal.returns-else-end-count-clause-writes
returns-else-end-count-clause-writes c =
    let s : FullStreamState = record { part = c.self.inside.part.now; plan = c.self.inside.plan.now; next_piece = c.self.inside.next_piece; checker = c.self.inside.checker } in
    let at : s.next_piece ≡ Slot c.args.slot_number = ap (λ x. x.next_piece) c.self.view_is ∙ c.requires in
    subst (λ x. WritesPiece x c.args.out.now.items c.put_slots.new.out.items (Slot c.min-end.result)) c.self.view_is
    (wrote_slots s c.args.out.now.items c.put_slots.new.out.items c.args.slot_number c.slot_count-count.result c.min-end.result at (inside_at s c.args.slot_number at c.self.invariant) c.slot_count-count.ensures.count c.min-end.ensures c.if-end-count.false c.in_ok-put_slots.ensures.appends)
