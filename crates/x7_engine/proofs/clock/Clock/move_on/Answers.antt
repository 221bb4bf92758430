use Rattle.std.proofs.Common.{◌≡◌, ◌+◌, ◌∙◌, Bool, true, false, refl}
use mathlib.Core.Bool.{beq}
use Rattle.x7_engine.specs.Startup.{startup_ended}
use Rattle.x7_engine.proofs.ClockLemmas.{ends_alike}
use Rattle.x7_engine.proofs.clock.Clock.move_on.Goals as goal

-- two answers that are equal by `==`
same : (a b : Bool) → beq a b ≡ true → a ≡ b
same true true e = refl
same false false e = refl
same true false e = absurd cc
same false true e = absurd cc

pub returns-then-eos-ends_within : goal.returns-then-eos-ends_within
returns-then-eos-ends_within c = record {
  within = c.bytes_alike.ensures.within;
  takes = λ kept h n l s. (
      let now : c.startup_ended-eos.result ≡ startup_ended c.args.part.now h n = c.startup_ended-eos.ensures.value c.args.part.now h n s.startup in
      let alike : c.startup_ended-eos.result ≡ c.ends_within.result = same c.startup_ended-eos.result c.ends_within.result c.if-eos-ends_within.true in
      let then : c.startup_ended-eos.result ≡ startup_ended c.args.part.now h (n + c.args.count) = alike ∙ c.ends_within.ensures kept h n l s in
      c.bytes_alike.ensures.takes kept h n (record { newest = l; each = λ i m. ends_alike c.args.part.now h n c.args.count i c.startup_ended-eos.result l now then m; stands = s }));
}
