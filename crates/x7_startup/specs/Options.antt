-- The startup fields of COR0: phases and their codes (UG470, configuration options register 0).
use Rattle.std.specs.Prelude.{ℕ}
use Rattle.x7_regs.specs.StartupOptions.{done_cycle, gts_cycle, gwe_cycle, lock_cycle, match_cycle}
use Rattle.x7_words.specs.Word.{field_of}

-- DONE_CYCLE, bits 14:12: the code of the phase in which DONE rises
abbrev pub done_cycle_of : ℕ → ℕ
done_cycle_of = field_of done_cycle 3

-- MATCH_CYCLE, bits 11:9: the phase, 0 to 6, that waits for the impedance (DCI) to match; none waits at 7
abbrev pub match_cycle_of : ℕ → ℕ
match_cycle_of = field_of match_cycle 3

-- LOCK_CYCLE, bits 8:6: the phase, 0 to 6, that waits for the clocks (MMCM) to lock; none waits at 7
abbrev pub lock_cycle_of : ℕ → ℕ
lock_cycle_of = field_of lock_cycle 3

-- GTS_CYCLE, bits 5:3: the code of the phase in which GTS_CFG_B rises
abbrev pub gts_cycle_of : ℕ → ℕ
gts_cycle_of = field_of gts_cycle 3

-- GWE_CYCLE, bits 2:0: the code of the phase in which GWE rises
abbrev pub gwe_cycle_of : ℕ → ℕ
gwe_cycle_of = field_of gwe_cycle 3
