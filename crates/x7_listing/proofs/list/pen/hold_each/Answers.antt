use Rattle.std.proofs.Common.{◌++◌, ap, append-nil, arith, subst, sym, take, take_all}
use Rattle.x7_listing.specs.Lister.{GapListed}
use Rattle.x7_listing.proofs.GapLemmas.{gap_step}
use Rattle.x7_listing.proofs.list.pen.hold_each.Goals as goal

pub loop-byte-init : goal.loop-byte-init
loop-byte-init c = record {
  room = record { within = omega arith; room = omega arith };
  listed = λ given start gap g. subst (GapListed (given ++ c.args.text.now.items) start c.args.pen.in_line (take c.args.pen.count c.args.pen.held)) (sym (append-nil gap)) g;
}

pub loop-byte-preserved : goal.loop-byte-preserved
loop-byte-preserved c = record {
  room = record { within = omega (arith, c.hold-now.ensures.room.within, c.loop-byte.invariant.room.within); room = omega (arith, c.hold-now.ensures.room.room, c.loop-byte.invariant.room.room) };
  listed = λ given start gap g. gap_step _ start _ _ gap c.args.bytes.now _ c.loop-byte-test.true (c.hold-now.ensures.listed given start _ (c.loop-byte.invariant.listed given start gap g));
}

pub returns-clause-listed : goal.returns-clause-listed
returns-clause-listed c = λ given start gap g.
    subst (GapListed (given ++ c.loop-byte.text.items) start c.loop-byte.now.in_line (take c.loop-byte.now.count c.loop-byte.now.held))
    (ap (λ t. gap ++ t) (take_all c.loop-byte.byte-index c.args.bytes.now (omega arith))) (c.loop-byte.invariant.listed given start gap g)
