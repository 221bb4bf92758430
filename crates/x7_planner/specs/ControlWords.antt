-- The words of COR0, MASK and CTL0 that a full stream writes (UG470, configuration options register 0, control register
-- 0 and its mask register; their values are this project's choice).
use Rattle.std.specs.Prelude.{ℕ, ◌+◌, ◌*◌, ◌^◌}
use Rattle.x7_regs.specs.Control.{config_fallback, glutmask_b, gts_user_b}
use Rattle.x7_regs.specs.StartupOptions.{done_cycle, done_pipe, gts_cycle, gwe_cycle, lock_cycle, match_cycle}

-- COR0 02003FE5: DONE_PIPE is 1; DONE rises in phase 4 (DONE_CYCLE), GTS_CFG_B in phase 5 (GTS_CYCLE), GWE in phase 6
-- (GWE_CYCLE); no phase waits (MATCH_CYCLE, LOCK_CYCLE)
abbrev pub cor0_word : ℕ
cor0_word =
    2 ^ done_pipe + 3 * 2 ^ done_cycle + 7 * 2 ^ match_cycle + 7 * 2 ^ lock_cycle + 4 * 2 ^ gts_cycle + 5 * 2 ^ gwe_cycle

-- MASK 00000501: the bits of CTL0 that are written
abbrev pub ctl0_mask_word : ℕ
ctl0_mask_word = 2 ^ config_fallback + 2 ^ glutmask_b + 2 ^ gts_user_b

-- CTL0 00000101: GLUTMASK_B, so that readback shows memories in logic, and GTS_USER_B, so that outputs are as startup
-- says; a failed attempt falls back
abbrev pub ctl0_word : ℕ
ctl0_word = 2 ^ glutmask_b + 2 ^ gts_user_b
