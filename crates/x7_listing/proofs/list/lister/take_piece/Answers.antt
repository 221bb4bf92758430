use Rattle.std.proofs.Common.{◌≡◌, ◌+◌, ◌-◌, ◌<◌, ◌++◌, ap, append-nil, arith, drop, length, refl, subst, take, Vec, vec_capacity, vec_len, ℕ}
use Rattle.std.specs.declared.alloc.Global.{Global}
use Rattle.x7_packets.specs.Cutter.{calls_left, CutterState, run_bytes}
use Rattle.x7_crc.proofs.CheckerLemmas.{used_up}
use Rattle.x7_listing.specs.Pens.{lister_with}
use Rattle.x7_listing.specs.Lister.{HasListedJust}
use Rattle.x7_listing.specs.declared.list.pen.state.Pen.TheVariants.{Session}
use Rattle.x7_listing.proofs.list.fast.AtOnceLemmas.{rest_length, seam}
use Rattle.x7_listing.proofs.list.ListerLemmas.{goes_less, run_length, listed_as, took, took_all}
use Rattle.x7_listing.proofs.list.lister.take_piece.Goals as goal
use Rattle.x7_packets.proofs.StreamLemmas.{one_sync}

pub loop-taken-init : goal.loop-taken-init
loop-taken-init c = record {
  within = omega arith;
  room = omega (arith, one_sync c.args.cutter.now.mode, c.requires);
  has_listed = λ given before bytes s. rw append-nil s;
}

pub returns-in-Need : goal.returns-in-Need
returns-in-Need c = record {
  rests = λ given before bytes s.
      let used = used_up _ _ _ _ c.in-Need.is c.cut-run.ensures.nearer in
      took_all _ _ _ _ _ _ _ _ _ given before bytes c.args.piece.now
      (listed_as c.loop-taken.cutter c.take_short.new.cutter c.loop-taken.text c.take_short.new.text _ _ _ given before _ (c.in_default.ensures.same_cutter)
      (c.in_default.ensures.same_text) (c.loop-taken.invariant.has_listed given before bytes s)) c.cut-run.ensures.forward (omega (arith, used)) c.in-Need.is
      c.cut-run.ensures.adds;
}

pub put_run-now-requires : goal.put_run-now-requires
put_run-now-requires c =
    let same : c.take_short.new.cutter ≡ c.loop-taken.cutter = c.in_default.ensures.same_cutter in
    let text : c.take_short.new.text ≡ c.loop-taken.text = c.in_default.ensures.same_text in
    let long : length c.take_short.new.cutter.kept + (c.cut-run.new.at - c.loop-taken.at) ≡ length (run_bytes c.cut-run.result) + length c.cut-run.new.self.kept = run_length _ _ _ c.args.piece.now _ _ c.cut-run.ensures.forward c.cut-run.ensures.within c.cut-run.ensures.joined in
    record {
      run = c.cut-run.ensures.run;
      room = omega (arith, long, ap (λ (k : CutterState). length k.kept) same, ap (λ (t : Vec ℕ Global). vec_len t) text, ap (λ (t : Vec ℕ Global). vec_capacity t) text, c.cut-run.ensures.within, c.cut-run.ensures.forward, c.loop-taken.invariant.room);
    }

pub loop-taken-preserved : goal.loop-taken-preserved
loop-taken-preserved c =
    let same : c.take_short.new.cutter ≡ c.loop-taken.cutter = c.in_default.ensures.same_cutter in
    let text : c.take_short.new.text ≡ c.loop-taken.text = c.in_default.ensures.same_text in
    let long : length c.take_short.new.cutter.kept + (c.cut-run.new.at - c.loop-taken.at) ≡ length (run_bytes c.cut-run.result) + length c.cut-run.new.self.kept = run_length _ _ _ c.args.piece.now _ _ c.cut-run.ensures.forward c.cut-run.ensures.within c.cut-run.ensures.joined in
    let less : calls_left c.cut-run.new.self (length c.args.piece.now - c.cut-run.new.at) < calls_left c.take_short.new.cutter (length c.args.piece.now - c.loop-taken.at) = goes_less _ _ _ _ c.in_default-run.not-Need c.cut-run.ensures.nearer in
    let calls : calls_left c.take_short.new.cutter (length c.args.piece.now - c.loop-taken.at) ≡ calls_left c.loop-taken.cutter (length c.args.piece.now - c.loop-taken.at) = ap (λ (k : CutterState). calls_left k (length c.args.piece.now - c.loop-taken.at)) same in
    record {
      within = c.cut-run.ensures.within;
      room = omega (
        arith,
        long,
        less,
        calls,
        ap (λ (k : CutterState). length k.kept) same,
        ap (λ (t : Vec ℕ Global). vec_len t) text,
        ap (λ (t : Vec ℕ Global). vec_capacity t) text,
        c.cut-run.ensures.within,
        c.cut-run.ensures.forward,
        c.loop-taken.invariant.room,
        c.put_run-now.ensures.room.within,
        c.put_run-now.ensures.room.room,
      );
      has_listed = λ given before bytes s.
          took _ _ _ _ _ _ _ _ _ _ _ _ _ given before bytes c.args.piece.now
          (listed_as c.loop-taken.cutter c.take_short.new.cutter c.loop-taken.text c.take_short.new.text _ _ _ given before _ (c.in_default.ensures.same_cutter)
          (c.in_default.ensures.same_text) (c.loop-taken.invariant.has_listed given before bytes s)) c.cut-run.ensures.forward c.cut-run.ensures.adds
          c.cut-run.ensures.run (c.put_run-now.ensures.listed given);
    }

pub loop-taken-preserved-in-Some : goal.loop-taken-preserved-in-Some
loop-taken-preserved-in-Some c =
    let taken = c.in-Some.ensures.takes in
    let left : length (take (length c.args.piece.now - c.loop-taken.at) (drop c.loop-taken.at c.args.piece.now)) ≡ length c.args.piece.now - c.loop-taken.at = rest_length c.args.piece.now c.loop-taken.at c.loop-taken.invariant.within in
    record {
      within = omega (arith, left, taken.within, c.loop-taken.invariant.within);
      room = omega (arith, left, taken.within, taken.at_least_one, taken.kept, taken.grown, one_sync c.take_short.new.cutter.mode, c.loop-taken.invariant.within, c.loop-taken.invariant.room, c.take_short.ensures.room);
      has_listed = λ given before bytes s.
          subst (HasListedJust (lister_with c.take_short.new.cutter (Session c.in-Some.taken.in_line) c.take_short.new.text.items) given before)
          (seam c.args.piece.now bytes _ c.loop-taken.at c.in-Some.taken.size c.loop-taken.invariant.within refl)
          (c.in-Some.ensures.listed given before (bytes ++ take c.loop-taken.at c.args.piece.now) (c.loop-taken.invariant.has_listed given before bytes s));
    }
