-- The boot of a flash that was left in an update, where the golden stream is the full stream of a plan: that is a
-- golden stream that starts.
use Rattle.std.proofs.Common.{List, ℕ, ap, sym, subst, ◌∙◌}
use Rattle.x7_memory.specs.FrameMap.{HaveSameFrames, FrameMap}
use Rattle.x7_memory.specs.Plan.{total}
use Rattle.x7_regs.specs.declared.register.Reg.TheVariants.{Bootsts}
use Rattle.x7_engine.specs.Shown.{with_values, word_in}
use Rattle.x7_engine.specs.declared.snapshot.Snapshot.{Snapshot}
use Rattle.x7_boot.specs.Attempt.{BootAttempt}
use Rattle.x7_boot.specs.Boot.{BootedState, IsBoot}
use Rattle.x7_update.specs.After.{MayBeLeft}
use Rattle.x7_recovery.specs.Golden as any
use Rattle.x7_recovery.specs.Golden.{BootsAlike, StartsAlike, StartsAsPlanned, UpdatingByAttempt}
use Rattle.x7_boot.specs.BootCourse.{BootCourse}
use Rattle.x7_recovery.specs.Recovery.{BootsAs, IsPrepared, StartsGolden, Updating, as_after, as_before, golden}
use Rattle.x7_recovery.proofs.GoldenLemmas.{found_alike, full_golden}

planned_starts : (u : Updating) (t : BootAttempt) (c : BootCourse) → StartsAsPlanned u t → StartsAlike u.part t c → StartsGolden u.part u.golden c
unfolding with_values
planned_starts u t c p s = record {
  attempts_are = s.attempts_are;
  started = s.started;
  memory = subst (λ (m : FrameMap). HaveSameFrames m (total u.part u.golden)) (sym s.memory) p.memory;
  bootsts = ap (λ (r : Snapshot). word_in Bootsts r.registers) s.registers ∙ p.bootsts;
}

pub found_boots : (u : Updating) (found : List ℕ) (b : BootedState) → IsPrepared u → MayBeLeft u.stream u.flash found → IsBoot u.part found b → BootsAs u found b
found_boots u found b p left boot =
    let g : (t : BootAttempt) × StartsAsPlanned u t = full_golden u p in
    let v : UpdatingByAttempt = record { part = u.part; flash = u.flash; stream = u.stream; golden = g.0 } in
    by g (found_alike v found b (record { updatable = p.updatable; golden = g.1.golden }) left boot)
  where
    by : (g : (t : BootAttempt) × StartsAsPlanned u t) → BootsAlike (record { part = u.part; flash = u.flash; stream = u.stream; golden = g.0 }) found b → BootsAs u found b
    by g (any.as_before before) = as_before before
    by g (any.golden boot s) = golden boot (planned_starts u g.0 _ g.1 s)
    by g (any.as_after done boot) = as_after done boot
