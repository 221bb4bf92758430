-- The phases in which the lines DONE, GTS_CFG_B and GWE rise, and these lines in a phase (UG470, startup; codes 6 and 7
-- are this project's choice).
--
--     code             0  1  2  3  4  5  6             7
--     DONE             1  2  3  4  5  6  6             6
--     GTS_CFG_B, GWE   1  2  3  4  5  6  DONE's phase  never
use Rattle.std.specs.Prelude.{◌≡◌, ◌==◌, ℕ, ◌+◌, Bool, false, not, nat_lt, Option, Some, None, if◌then◌else◌}
use Rattle.x7_startup.specs.Options.{done_cycle_of, gts_cycle_of, gwe_cycle_of}

-- the phase in which DONE rises, by DONE_CYCLE
abbrev pub done_phase : ℕ → ℕ
done_phase code = if nat_lt code 6 then code + 1 else 6

-- the phase in which GTS_CFG_B or GWE rises, by DONE's phase and by GTS_CYCLE or GWE_CYCLE; none where it never does
abbrev pub line_phase : ℕ → ℕ → Option ℕ
line_phase done code = if nat_lt code 6 then Some (code + 1) else if code == 6 then Some done else None

-- whether a line is 1 in a phase: from the phase on in which it rises, if it rises
abbrev pub is_high : Option ℕ → ℕ → Bool
is_high None phase = false
is_high (Some rise) phase = not (nat_lt phase rise)

-- DONE in a phase, by the COR0 that startup began with; 0 where startup hasn't begun
abbrev pub done_line : Option ℕ → ℕ → Bool
done_line None phase = false
done_line (Some cor0) phase = is_high (Some (done_phase (done_cycle_of cor0))) phase

-- GTS_CFG_B in a phase, by the COR0 that startup began with; 0 where startup hasn't begun
abbrev pub gts_line : Option ℕ → ℕ → Bool
gts_line None phase = false
gts_line (Some cor0) phase = is_high (line_phase (done_phase (done_cycle_of cor0)) (gts_cycle_of cor0)) phase

-- GWE in a phase, by the COR0 that startup began with; 0 where startup hasn't begun
abbrev pub gwe_line : Option ℕ → ℕ → Bool
gwe_line None phase = false
gwe_line (Some cor0) phase = is_high (line_phase (done_phase (done_cycle_of cor0)) (gwe_cycle_of cor0)) phase

-- these are DONE, GTS_CFG_B and GWE in a phase, by the COR0 that startup began with, if it has begun
pub record AreLines (begun_with : Option ℕ) (phase : ℕ) (done gts gwe : Bool) : Type 0 where
  pub done_is : done ≡ done_line begun_with phase
  pub gts_is : gts ≡ gts_line begun_with phase
  pub gwe_is : gwe ≡ gwe_line begun_with phase
