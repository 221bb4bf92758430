-- The fields of configuration options register 0 by which startup goes (UG470, configuration options register 0), each
-- by the number of its lowest bit.
use Rattle.std.specs.Prelude.{ℕ}

-- the bit of DONE_PIPE in COR0: 1 where startup looks at DONE a clock later
abbrev pub done_pipe : ℕ
done_pipe = 25

-- the lowest bit of DONE_CYCLE in COR0, three bits: the code of the phase in which DONE rises
abbrev pub done_cycle : ℕ
done_cycle = 12

-- the lowest bit of MATCH_CYCLE in COR0, three bits: the phase that waits for the impedance (DCI) to match; 7 is no
-- wait
abbrev pub match_cycle : ℕ
match_cycle = 9

-- the lowest bit of LOCK_CYCLE in COR0, three bits: the phase that waits for the clocks (MMCM) to lock; 7 is no wait
abbrev pub lock_cycle : ℕ
lock_cycle = 6

-- the lowest bit of GTS_CYCLE in COR0, three bits: the code of the phase in which GTS_CFG_B rises
abbrev pub gts_cycle : ℕ
gts_cycle = 3

-- the lowest bit of GWE_CYCLE in COR0, three bits: the code of the phase in which GWE rises
abbrev pub gwe_cycle : ℕ
gwe_cycle = 0
