use Rattle.std.proofs.Common.{◌≡◌, ◌-◌, ◌++◌, append-nil, arith, drop, length, refl, subst, take}
use Rattle.x7_listing.specs.Pens.{lister_with}
use Rattle.x7_listing.specs.Lister.{HasListedJust}
use Rattle.x7_listing.specs.declared.list.pen.state.Pen.{Pen}
use Rattle.x7_listing.specs.declared.list.pen.state.Pen.TheVariants.{Session}
use Rattle.x7_listing.proofs.list.fast.AtOnceLemmas.{rest_length, seam}
use Rattle.x7_listing.proofs.list.fast.short_runs.take_short.Goals as goal

pub loop-len-init : goal.loop-len-init
loop-len-init c = record {
  within = omega arith;
  first = λ e. (refl, refl);
  kept = omega arith;
  inside = omega arith;
  few = omega arith;
  has_listed = λ given before bytes s.
      rw (append-nil bytes, append-nil c.args.text.now.items)
      (subst (λ (p : Pen). HasListedJust (lister_with c.args.cutter.now p c.args.text.now.items) given before bytes) c.in-Session.is s);
}

pub loop-len-preserved : goal.loop-len-preserved
loop-len-preserved c =
    let next = c.in-Some.ensures.takes in
    let left : length (take (length c.args.rest.now - c.loop-len.at) (drop c.loop-len.at c.args.rest.now)) ≡ length c.args.rest.now - c.loop-len.at = rest_length c.args.rest.now c.loop-len.at c.loop-len.invariant.within in
    record {
      within = omega (arith, left, next.within, c.loop-len.invariant.within);
      first = λ e. absurd (omega (arith, e, next.at_least_a_word));
      kept = omega (arith, next.kept, c.loop-len.invariant.kept);
      inside = next.inside;
      few = omega (arith, next.grown, c.loop-len.invariant.few);
      has_listed = λ given before bytes s.
          subst (HasListedJust (lister_with c.take_next.new.cutter (Session c.in-Some.next.in_line) (c.args.text.now.items ++ take c.in-Some.next.len c.take_next.new.sheet)) given before)
          (seam c.args.rest.now bytes _ c.loop-len.at c.in-Some.next.size c.loop-len.invariant.within refl)
          (c.in-Some.ensures.listed c.args.text.now.items given before (bytes ++ take c.loop-len.at c.args.rest.now) (c.loop-len.invariant.has_listed given before bytes s));
    }
