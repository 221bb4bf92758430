use Rattle.std.proofs.Common.{◌≡◌, ◌+◌, ◌<◌, ◌≤◌, ℕ, sym, subst, ◌∙◌, None, arith, refl}
use Rattle.x7_engine.specs.Clock.{newest_place, IsClock, clock_in}
use Rattle.x7_engine.specs.Watching.{first_firing}
use Rattle.x7_engine.proofs.ClockLemmas.{first_is, none_more}
use Rattle.x7_engine.proofs.clock.Clock.bytes_one_by_one.Goals as goal

pub loop-i-init : goal.loop-i-init
loop-i-init c = record {
  within = omega arith;
  clock = λ kept h n l s. let none : n + 0 ≡ n = omega arith in (subst (λ (k : ℕ). IsClock c.args.part.now kept (clock_in c.args.self.now) h k) (sym none) s, refl);
}

pub returns-then-byte : goal.returns-then-byte
returns-then-byte c = record {
  within = let few : c.loop-i.i < c.args.count = c.loop-i-test.true in (omega arith, omega (arith, few));
  takes = λ kept h n l s. (
      let before = c.loop-i.invariant.clock kept h n l s in
      let sum : n + c.loop-i.i + 1 ≡ n + (c.loop-i.i + 1) = omega arith in
      let within : newest_place h ≤ n + c.loop-i.i = omega (arith, l) in
      let few : c.loop-i.i < c.args.count = c.loop-i-test.true in (
        omega arith,
        omega (arith, few),
        subst (λ (k : ℕ). IsClock c.args.part.now kept (clock_in c.byte.new.self) h k) sum (c.byte.ensures.stands kept h (n + c.loop-i.i) within before.0),
        first_is c.args.part.now kept h n c.loop-i.i c.args.count few before.1 (sym (c.byte.ensures.fires kept h (n + c.loop-i.i) within before.0) ∙ c.if-byte.true),
      ));
}

pub loop-i-preserved : goal.loop-i-preserved
loop-i-preserved c = record {
  within = let few : c.loop-i.i < c.args.count = c.loop-i-test.true in omega (arith, few);
  clock = λ kept h n l s.
      let before = c.loop-i.invariant.clock kept h n l s in
      let sum : n + c.loop-i.i + 1 ≡ n + (c.loop-i.i + 1) = omega arith in
      let within : newest_place h ≤ n + c.loop-i.i = omega (arith, l) in (
        subst (λ (k : ℕ). IsClock c.args.part.now kept (clock_in c.byte.new.self) h k) sum (c.byte.ensures.stands kept h (n + c.loop-i.i) within before.0),
        none_more c.args.part.now kept h n c.loop-i.i before.1 (sym (c.byte.ensures.fires kept h (n + c.loop-i.i) within before.0) ∙ c.if-byte.false),
      );
}

pub returns-then-startup_ended : goal.returns-then-startup_ended
returns-then-startup_ended c = record {
  within = c.bytes_after_end.ensures.within;
  takes = λ kept h n l s. (
      let before = c.loop-i.invariant.clock kept h n l s in
      let sum : n + c.loop-i.i + 1 ≡ n + (c.loop-i.i + 1) = omega arith in
      let within : newest_place h ≤ n + c.loop-i.i = omega (arith, l) in
      let clock = subst (λ (k : ℕ). IsClock c.args.part.now kept (clock_in c.byte.new.self) h k) sum (c.byte.ensures.stands kept h (n + c.loop-i.i) within before.0) in
      let none = none_more c.args.part.now kept h n c.loop-i.i before.1 (sym (c.byte.ensures.fires kept h (n + c.loop-i.i) within before.0) ∙ c.if-byte.false) in
      c.bytes_after_end.ensures.takes kept h n (record { newest = l; none_fires = none; ended = sym (c.startup_ended.ensures.value c.args.part.now h (n + (c.loop-i.i + 1)) clock.startup) ∙ c.if-startup_ended.true; stands = clock }));
}

pub bytes_after_end-requires : goal.bytes_after_end-requires
bytes_after_end-requires c = let few : c.loop-i.i < c.args.count = c.loop-i-test.true in omega (arith, few)

pub returns : goal.returns
returns c = record {
  within = tt;
  takes = λ kept h n l s.
      let all : c.loop-i.i ≡ c.args.count = omega (arith, c.loop-i.invariant.within, c.loop-i-test.false) in
      subst (λ (k : ℕ). IsClock c.args.part.now kept (clock_in c.loop-i.self) h (n + k) × (first_firing c.args.part.now kept h n k ≡ None)) all (c.loop-i.invariant.clock kept h n l s);
}
