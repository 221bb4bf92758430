use Rattle.std.proofs.Common.{arith}
use Rattle.x7_planner.proofs.SlotLemmas.{read_fits}
use Rattle.x7_planner.proofs.read_stream.readback.Goals as goal

pub overflow_add-slot_count : goal.overflow_add-slot_count
overflow_add-slot_count c =
    let f = read_fits c.args.part.now c.args.far c.words.result c.args.slot_count c.frames-frames.ensures.part (c.is_address.ensures.listed.0 c.if-not-is_address.false) c.words.ensures.most (omega (arith, c.if-from-slots_from.false, c.slots_from.ensures, c.from.ensures)) in
    omega (arith, f.0)

pub overflow_mul-words : goal.overflow_mul-words
overflow_mul-words c =
    let f = read_fits c.args.part.now c.args.far c.words.result c.args.slot_count c.frames-frames.ensures.part (c.is_address.ensures.listed.0 c.if-not-is_address.false) c.words.ensures.most (omega (arith, c.if-from-slots_from.false, c.slots_from.ensures, c.from.ensures)) in
    omega (arith, f.1)

pub read_of-requires : goal.read_of-requires
read_of-requires c =
    let f = read_fits c.args.part.now c.args.far c.words.result c.args.slot_count c.frames-frames.ensures.part (c.is_address.ensures.listed.0 c.if-not-is_address.false) c.words.ensures.most (omega (arith, c.if-from-slots_from.false, c.slots_from.ensures, c.from.ensures)) in
    f.1
