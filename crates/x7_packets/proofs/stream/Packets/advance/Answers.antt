use Rattle.std.proofs.Common.{◌≡◌, inl, inr, refl, Bool, true, false, [], ◌++◌, length, ap, sym, subst, ◌∙◌, ◌<◌, arith}
use Rattle.x7_words.proofs.CountLemmas.{risen_from}
use Rattle.x7_words.proofs.InputLemmas.{stays_at, stays_on, taken_before, taken_none, taken_on}
use Rattle.x7_packets.specs.PacketsState.{PacketsState}
use Rattle.x7_packets.specs.Stream.{TookBytes, CutsNext}
use Rattle.x7_packets.proofs.StreamLemmas.{asks_nothing, asks_not, asks_on, asks_once, gives_again, gives_end, gives_up, most_read, never_waits, no_fault_at, no_fault_on, reads_none, reads_on, room_none, room_on, run_is_not_last, tells_run, turns_fewer}
use Rattle.x7_packets.proofs.stream.Packets.advance.Goals as goal

pub returns-then-self-clause-gives_up : goal.returns-then-self-clause-gives_up
returns-then-self-clause-gives_up g c = record { more = []; later = (g.I.Inputs.state c.args.inputs.now).rest; taken = taken_none (g.I.Inputs.state c.args.inputs.now).contents (g.I.Inputs.state c.args.inputs.now).rest; most = omega arith; reads = reads_none c.args.self.now; failed = sym (ap (λ (p : PacketsState). p.has_failed) c.self.view_is) ∙ c.if-self.true }

pub returns-then-self-2-clause-gives_run : goal.returns-then-self-2-clause-gives_run
returns-then-self-2-clause-gives_run g c = λ r e.
    let end = c.requires.end (sym (ap (λ (p : PacketsState). p.is_done) c.self.view_is) ∙ c.if-self-2.true) in
    rw (← c.self.view_is) (gives_again _ _ r c.if-self-2.true c.if-self.false end e)

pub loop-self-init : goal.loop-self-init
loop-self-init g c =
    let good : c.args.self.now.has_failed ≡ false = sym (ap (λ (p : PacketsState). p.has_failed) c.self.view_is) ∙ c.if-self.false in
    record {
      selected = c.requires.selected good;
      inputs = stays_at _;
      no_fault = no_fault_at _;
      good = good;
      on = sym (ap (λ (p : PacketsState). p.is_done) c.self.view_is) ∙ c.if-self-2.false;
      reads = ([], taken_none (g.I.Inputs.state c.args.inputs.now).contents (g.I.Inputs.state c.args.inputs.now).rest, reads_none c.args.self.now);
      room = room_none c.args.self.now;
      asks = asks_nothing _;
      waits = λ _. (refl, refl);
    }

pub returns-then-cut_next-clause-gives_run : goal.returns-then-cut_next-clause-gives_run
returns-then-cut_next-clause-gives_run g c = λ r last.
    let i = c.loop-self.invariant in
    let s : CutsNext c.loop-self.self c.cut_next.new.self true = subst (λ (b : Bool). CutsNext c.loop-self.self c.cut_next.new.self b) c.if-cut_next.true c.cut_next.ensures in
    record {
      more = i.reads.0;
      taken = i.reads.1;
      most = most_read c.args.self.now c.loop-self.self i.reads.0 i.reads.2 i.room;
      tells = tells_run c.args.self.now c.loop-self.self c.cut_next.new.self i.reads.0 r s i.on i.good last i.reads.2;
      end = λ e. absurd (run_is_not_last c.loop-self.self c.cut_next.new.self r s last e);
    }

pub returns-in-Err-clause-gives_up : goal.returns-in-Err-clause-gives_up
returns-in-Err-clause-gives_up g c =
    let i = c.loop-self.invariant in
    let s : CutsNext c.loop-self.self c.cut_next.new.self false = subst (λ (b : Bool). CutsNext c.loop-self.self c.cut_next.new.self b) c.if-cut_next.false c.cut_next.ensures in
    let first = g.I.Inputs.state c.args.inputs.now in
    let mid = g.I.Inputs.state c.loop-self.inputs in
    let now = g.I.Inputs.state c.fill.new.inputs in
    let taken = taken_before mid.contents now.contents first.rest i.reads.0 mid.rest c.in-Err.ensures.inputs.map i.reads.1 in
    gives_up c.args.self.now c.loop-self.self c.cut_next.new.self c.fill.new.self first now i.reads.0 mid.rest s taken i.on i.reads.2 i.room c.in-Err.ensures.loses_bytes

pub returns-then-not-more-clause-gives_run : goal.returns-then-not-more-clause-gives_run
returns-then-not-more-clause-gives_run g c = λ r last.
    let i = c.loop-self.invariant in
    let s : CutsNext c.loop-self.self c.cut_next.new.self false = subst (λ (b : Bool). CutsNext c.loop-self.self c.cut_next.new.self b) c.if-cut_next.false c.cut_next.ensures in
    let f = c.in-Ok.ensures.fills in
    let end = f.end c.if-not-more.true in
    gives_end c.args.self.now c.loop-self.self c.cut_next.new.self c.fill.new.self c.finish.new.self i.reads.0 f.piece _ _ _ r s i.on i.good i.reads.2 i.room c.in-Ok.ensures.inputs i.reads.1 f.taken f.is end.0 end.1 c.finish.ensures.tail c.finish.ensures.end last

pub loop-self-preserved : goal.loop-self-preserved
loop-self-preserved g c =
    let i = c.loop-self.invariant in
    let s : CutsNext c.loop-self.self c.cut_next.new.self false = subst (λ (b : Bool). CutsNext c.loop-self.self c.cut_next.new.self b) c.if-cut_next.false c.cut_next.ensures in
    let f = c.in-Ok.ensures.fills in
    let o = c.in-Ok.ensures in
    let some : 0 < length f.piece = f.some c.if-not-more.false in
    let first = g.I.Inputs.state c.args.inputs.now in
    let mid = g.I.Inputs.state c.loop-self.inputs in
    let now = g.I.Inputs.state c.fill.new.inputs in
    record {
      selected = o.selected;
      inputs = stays_on _ _ _ i.inputs o.inputs;
      no_fault = no_fault_on _ _ _ i.no_fault o.no_fault;
      good = ap (λ (p : PacketsState). p.has_failed) f.is ∙ s.failed ∙ i.good;
      on = ap (λ (p : PacketsState). p.is_done) f.is ∙ s.done ∙ i.on;
      reads = (
        i.reads.0 ++ f.piece,
        taken_on now.contents first.rest mid.rest now.rest i.reads.0 f.piece (taken_before mid.contents now.contents first.rest i.reads.0 mid.rest o.inputs.map i.reads.1) f.taken,
        subst (λ (p : PacketsState). TookBytes c.args.self.now p (i.reads.0 ++ f.piece)) (sym f.is) (reads_on c.args.self.now c.loop-self.self c.cut_next.new.self i.reads.0 f.piece s i.on i.reads.2),
      );
      room = room_on c.args.self.now c.loop-self.self c.cut_next.new.self c.fill.new.self i.reads.0 f.piece s f.is f.most i.reads.2 i.room;
      asks = asks_on _ _ _ i.asks o.asks (o.no_end c.if-not-more.false);
      waits = λ r. absurd (never_waits c.args.self.now c.loop-self.self c.cut_next.new.self s i.waits r);
    }

pub loop-self-smaller : goal.loop-self-smaller
loop-self-smaller g c =
    let s : CutsNext c.loop-self.self c.cut_next.new.self false = subst (λ (b : Bool). CutsNext c.loop-self.self c.cut_next.new.self b) c.if-cut_next.false c.cut_next.ensures in
    let f = c.in-Ok.ensures.fills in
    turns_fewer c.loop-self.self c.cut_next.new.self c.fill.new.self s f.piece f.is (f.some c.if-not-more.false)

pub returns-then-self-clause-call : goal.returns-then-self-clause-call
returns-then-self-clause-call g c = record {
  failed = inl (sym (ap (λ (p : PacketsState). p.has_failed) c.self.view_is) ∙ c.if-self.true);
  no_fault = tt;
  selected = tt;
  stays = λ e. tt;
  asks = asks_not _ _ (asks_nothing _);
  inputs = stays_at _;
}

pub returns-then-self-2-clause-call : goal.returns-then-self-2-clause-call
returns-then-self-2-clause-call g c =
    let good : c.args.self.now.has_failed ≡ false = sym (ap (λ (p : PacketsState). p.has_failed) c.self.view_is) ∙ c.if-self.false in
    record {
      failed = tt;
      no_fault = no_fault_at _;
      selected = c.requires.selected good;
      stays = λ e. absurd (let both : true ≡ false = sym e ∙ good in cc);
      asks = asks_not _ _ (asks_nothing _);
      inputs = stays_at _;
    }

pub returns-then-cut_next-clause-call : goal.returns-then-cut_next-clause-call
returns-then-cut_next-clause-call g c =
    let good : c.args.self.now.has_failed ≡ false = sym (ap (λ (p : PacketsState). p.has_failed) c.self.view_is) ∙ c.if-self.false in
    record {
      failed = tt;
      no_fault = c.loop-self.invariant.no_fault;
      selected = c.loop-self.invariant.selected;
      stays = λ e. absurd (let both : true ≡ false = sym e ∙ good in cc);
      asks = asks_not _ _ c.loop-self.invariant.asks;
      inputs = c.loop-self.invariant.inputs;
    }

pub returns-then-not-more-clause-call : goal.returns-then-not-more-clause-call
returns-then-not-more-clause-call g c =
    let good : c.args.self.now.has_failed ≡ false = sym (ap (λ (p : PacketsState). p.has_failed) c.self.view_is) ∙ c.if-self.false in
    record {
      failed = tt;
      no_fault = no_fault_on _ _ _ c.loop-self.invariant.no_fault c.in-Ok.ensures.no_fault;
      selected = c.in-Ok.ensures.selected;
      stays = λ e. absurd (let both : true ≡ false = sym e ∙ good in cc);
      asks = asks_once _ _ _ c.loop-self.invariant.asks c.in-Ok.ensures.asks;
      inputs = stays_on _ _ _ c.loop-self.invariant.inputs c.in-Ok.ensures.inputs;
    }

pub returns-in-Err-clause-call : goal.returns-in-Err-clause-call
returns-in-Err-clause-call g c = record {
  failed = inr (risen_from _ _ _ c.loop-self.invariant.inputs.faults c.in-Err.ensures.failed);
  no_fault = tt;
  selected = tt;
  stays = λ e. tt;
  asks = asks_once _ _ _ c.loop-self.invariant.asks c.in-Err.ensures.asks;
  inputs = stays_on _ _ _ c.loop-self.invariant.inputs c.in-Err.ensures.inputs;
}

pub returns-then-cut_next-clause-ready : goal.returns-then-cut_next-clause-ready
returns-then-cut_next-clause-ready g c = λ r. (c.loop-self.invariant.waits r).1

pub returns-in-Err-clause-ready : goal.returns-in-Err-clause-ready
returns-in-Err-clause-ready g c = λ r.
    let s : CutsNext c.loop-self.self c.cut_next.new.self false = subst (λ (b : Bool). CutsNext c.loop-self.self c.cut_next.new.self b) c.if-cut_next.false c.cut_next.ensures in
    absurd (never_waits c.args.self.now c.loop-self.self c.cut_next.new.self s c.loop-self.invariant.waits r)

pub returns-then-not-more-clause-ready : goal.returns-then-not-more-clause-ready
returns-then-not-more-clause-ready g c = λ r.
    let s : CutsNext c.loop-self.self c.cut_next.new.self false = subst (λ (b : Bool). CutsNext c.loop-self.self c.cut_next.new.self b) c.if-cut_next.false c.cut_next.ensures in
    absurd (never_waits c.args.self.now c.loop-self.self c.cut_next.new.self s c.loop-self.invariant.waits r)
