use Rattle.std.proofs.Common.{◌≡◌, ◌+◌, ◌<◌, ◌≤◌, ℕ, sym, subst, arith}
use Rattle.x7_startup.specs.Watchdog.{WatchesFor}
use Rattle.x7_engine.specs.Clock.{newest_place}
use Rattle.x7_engine.specs.Startup.{startup_ended}
use Rattle.x7_engine.specs.Kept.{is_fallback}
use Rattle.x7_engine.specs.Watching.{watch_calls}
use Rattle.x7_engine.proofs.ClockLemmas.{alike_fires, alike_quiet, calls_alike, startup_bytes}
use Rattle.x7_engine.proofs.clock.Clock.bytes_alike.Goals as goal

pub returns-in_default-clause-takes : goal.returns-in_default-clause-takes
returns-in_default-clause-takes c = λ kept h n a.
    let l : newest_place h ≤ n = a.newest in
    let f : (i : ℕ) → i < c.args.count → startup_ended c.args.part.now h (n + i + 1) ≡ c.args.eos = a.each in
    let q = c.in_default.ensures.none_fires (is_fallback kept.kind) kept.timer (watch_calls c.args.part.now h n) a.stands.watchdog in (
      record {
        startup = startup_bytes c.args.part.now h n c.args.count c.lock.result c.matched.result c.args.self.now.startup c.bytes-in_default.new.self c.lock.ensures c.matched.ensures c.bytes-in_default.ensures.stands l a.stands.startup;
        watchdog = subst (λ t. WatchesFor (is_fallback kept.kind) kept.timer c.bytes.new.self t) (sym (calls_alike c.args.part.now h n c.args.count c.args.eos l f)) q.0;
      },
      alike_quiet c.args.part.now kept h n c.args.count c.args.eos l f q.1,
    )

pub returns-clause-takes : goal.returns-clause-takes
returns-clause-takes c = λ kept h n a.
    let l : newest_place h ≤ n = a.newest in
    let f : (i : ℕ) → i < c.args.count → startup_ended c.args.part.now h (n + i + 1) ≡ c.args.eos = a.each in
    let q = c.in-Some.ensures.fires (is_fallback kept.kind) kept.timer (watch_calls c.args.part.now h n) a.stands.watchdog in
    let few : c.in-Some.k ≤ c.args.count = q.1 in (
      q.0,
      few,
      record {
        startup = startup_bytes c.args.part.now h n c.in-Some.k c.lock-2.result c.matched-2.result c.args.self.now.startup c.bytes-2.new.self c.lock-2.ensures c.matched-2.ensures c.bytes-2.ensures.stands l a.stands.startup;
        watchdog = subst (λ t. WatchesFor (is_fallback kept.kind) kept.timer c.bytes.new.self t) (sym (calls_alike c.args.part.now h n c.in-Some.k c.args.eos l (λ i m. f i (omega (arith, m, few))))) q.3;
      },
      alike_fires c.args.part.now kept h n c.in-Some.k c.args.count c.args.eos l f q.0 few q.2 q.4,
    )
