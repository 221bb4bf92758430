use Rattle.std.proofs.Common.{◌≡◌, ◌∙◌, ◌*◌, ◌+◌, ap, arith, length, length-take, sym, take, take-take}
use Rattle.x7_packets.specs.Cutter.{CutterState}
use Rattle.x7_packets.specs.Nops.{nop_bytes}
use Rattle.x7_listing.proofs.list.fast.OnSheetLemmas.{put_within}
use Rattle.x7_listing.proofs.list.fast.short_runs.take_next.Goals as goal

pub returns-in-Some-clause-takes : goal.returns-in-Some-clause-takes
returns-in-Some-clause-takes c =
    let w = c.in-Some.ensures.writes in
    let size = c.put_one_write.ensures.size in
    put_within _ _ c.args.rest.now _ _ _ 42 (omega (arith, size)) (omega (arith, size, w.begins.whole)) (omega (arith, ap length w.none_kept)) c.put_one_write.ensures.within (omega (arith, size)) (omega arith)

pub returns-in-Some-clause-listed : goal.returns-in-Some-clause-listed
returns-in-Some-clause-listed c =
    rw c.put_one_write.ensures.size (c.put_one_write.ensures.listed c.args.cutter.now c.take_write.new.self c.args.rest.now c.in-Some.ensures.writes)

pub returns-in-Some-take_short_write-clause-takes : goal.returns-in-Some-take_short_write-clause-takes
returns-in-Some-take_short_write-clause-takes c =
    let w = c.in-Some-take_short_write.ensures.writes in
    let size = c.put_short_write.ensures.size in
    put_within _ _ c.args.rest.now _ _ _ 190 (omega (arith, size)) (omega (arith, size, w.few, w.long)) (omega (arith, ap length w.none_kept)) c.put_short_write.ensures.within (omega (arith, size, w.some)) (omega arith)

pub returns-in-Some-take_short_write-clause-listed : goal.returns-in-Some-take_short_write-clause-listed
returns-in-Some-take_short_write-clause-listed c =
    rw c.put_short_write.ensures.size
    (c.put_short_write.ensures.listed c.args.cutter.now c.take_short_write.new.self (rw c.in_default.ensures.unchanged at c.in-Some-take_short_write.ensures.writes))

pub returns-then-nops-gt0-clause-takes : goal.returns-then-nops-gt0-clause-takes
returns-then-nops-gt0-clause-takes c =
    let n = c.nop_count-nops in
    let size = c.put_few_nops.ensures.size in
    let same = c.in_default-take_short_write.ensures.unchanged ∙ c.in_default.ensures.unchanged in
    put_within _ _ c.args.rest.now _ _ _ (4 * n.result + 1) (omega (arith, size, c.if-nops-gt0.true)) (omega (arith, size, n.ensures.within, length-take c.min.result c.args.rest.now, c.min.ensures)) (omega (arith, ap (λ (k : CutterState). length k.kept) same)) c.put_few_nops.ensures.within
    (omega (arith, size, c.if-nops-gt0.true)) (omega (arith, n.ensures.within, length-take c.min.result c.args.rest.now, c.min.ensures, c.requires.room))

pub returns-then-nops-gt0-clause-listed : goal.returns-then-nops-gt0-clause-listed
returns-then-nops-gt0-clause-listed c =
    let n = c.nop_count-nops in
    let unchanged = c.in_default-take_short_write.ensures.unchanged in
    let nops : take (4 * n.result) c.args.rest.now ≡ nop_bytes n.result = sym (take-take (4 * n.result) c.min.result c.args.rest.now (omega (arith, n.ensures.within, length-take c.min.result c.args.rest.now))) ∙ n.ensures.nops in
    rw (c.put_few_nops.ensures.size, unchanged, c.in_default.ensures.unchanged, nops)
    (c.put_few_nops.ensures.listed c.args.cutter.now (rw (unchanged, c.in_default.ensures.unchanged) at (n.ensures.takes_no_op c.if-nops-gt0.true)))

pub returns-clause-takes : goal.returns-clause-takes
returns-clause-takes c =
    let w = c.in-Some-take_gap.ensures.ends_gap in
    let size = c.put_gap.ensures.size in
    put_within _ _ c.args.rest.now _ _ _ 74 (omega (arith, size)) (omega (arith, size, w.near, w.long)) (omega (arith, ap length w.none_kept)) c.put_gap.ensures.within (omega (arith, size)) (omega arith)

pub returns-clause-listed : goal.returns-clause-listed
returns-clause-listed c =
    rw c.put_gap.ensures.size
    (c.put_gap.ensures.listed c.args.cutter.now c.take_gap.new.self (rw (c.in_default-take_short_write.ensures.unchanged, c.in_default.ensures.unchanged) at c.in-Some-take_gap.ensures.ends_gap))
