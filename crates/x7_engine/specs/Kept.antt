-- What a device keeps over a reset (this project's choice): three registers, and
-- what the boot history says of its attempts.
use Rattle.std.specs.Prelude.{◌≡◌, ℕ, ◌==◌, if◌then◌else◌, Bool, true, false, None, List}
use Rattle.x7_regs.specs.declared.boot_status.Kind.{Kind}
use Rattle.x7_regs.specs.declared.boot_status.Kind.TheVariants.{Bench, Power, Iprog, Fallback}
use Rattle.x7_regs.specs.declared.register.Reg.{Reg}
use Rattle.x7_regs.specs.declared.register.Reg.TheVariants.{Wbstar, Timer, Bootsts, Bspi}
use Rattle.x7_regs.specs.Register.{number_of}
use Rattle.x7_engine.specs.declared.kept.Kept.{Kept}
use Rattle.x7_engine.specs.declared.snapshot.End.TheVariants as at_end
use Rattle.x7_engine.specs.declared.snapshot.Snapshot.{Snapshot}
use Rattle.x7_engine.specs.Shown.{with_word_in}

-- what a device on the bench, which no flash boots, keeps over its reset: nothing
abbrev pub on_the_bench : Kept
on_the_bench = record { wbstar = 0; timer = 0; bspi = 0; kind = Bench; before = None }

-- the word that a register has kept, and 0 for one that keeps none
abbrev pub kept_word : Kept → ℕ → ℕ
kept_word kept register =
    if register == number_of Wbstar then kept.wbstar else
    if register == number_of Timer then kept.timer else
    if register == number_of Bspi then kept.bspi else 0

-- whether the attempt is a fallback, which has no watchdog and ignores IPROG
abbrev pub is_fallback : Kind → Bool
is_fallback Bench = false
is_fallback Power = false
is_fallback Iprog = false
is_fallback Fallback = true

-- two attempts are fallbacks, by what their devices kept
abbrev pub AreFallbacks : Kept → Kept → Type 0
AreFallbacks one other = (is_fallback one.kind ≡ true) × (is_fallback other.kind ≡ true)

-- the rows of registers with 0 in those of the four that show what was kept over the reset
abbrev pub rows_without_kept : List (Reg × ℕ) → List (Reg × ℕ)
rows_without_kept rows = with_word_in Wbstar 0 (with_word_in Timer 0 (with_word_in Bootsts 0 (with_word_in Bspi 0 rows)))

-- the state without what shows what was kept over the reset: these registers, and the end, which may show WBSTAR
abbrev pub without_kept : Snapshot → Snapshot
without_kept r = record r { end = at_end.Searching; registers = rows_without_kept r.registers }
