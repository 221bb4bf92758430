-- The clocks that statements make (this project's profile of SVF; IEEE 1149.1, the controller's states).
use Rattle.std.specs.Prelude.{Bool, true, false, List, [], ◌∷◌, ◌++◌, map, replicate}
use Rattle.x7_jtag.specs.declared.state.State.{State}
use Rattle.x7_jtag.specs.declared.state.State.TheVariants as state
use Rattle.x7_jtag.specs.State.{PortClock, state_after}
use Rattle.x7_svf.specs.declared.statement.ScannedRegister.{ScannedRegister}
use Rattle.x7_svf.specs.declared.statement.ScannedRegister.TheVariants as scanned
use Rattle.x7_svf.specs.declared.statement.Statement.{Statement}
use Rattle.x7_svf.specs.declared.statement.Statement.TheVariants as statement

-- a clock with these values of TMS and TDI
abbrev pub clock : Bool → Bool → PortClock
clock tms tdi = record { tms = tms; tdi = tdi }

-- what leads from Test-Logic-Reset to Run-Test/Idle, one clock of TMS 0 and TDI 0; in any other state no clock
abbrev pub from_reset : State → List PortClock
from_reset state.TestLogicReset = clock false false ∷ []
from_reset _ = []

-- the clocks that shift all bits of a scan: one for each bit, which is its TDI, with TMS 1 at the last and TMS 0 before
abbrev pub shift_clocks : List Bool → List PortClock
shift_clocks [] = []
shift_clocks (b ∷ []) = clock true b ∷ []
shift_clocks (b ∷ c ∷ bs) = clock false b ∷ shift_clocks (c ∷ bs)

-- clocks of TMS 0 that shift `bits`: those of `shift_clocks` where a bit still follows
abbrev pub inner_clocks : List Bool → List PortClock
inner_clocks bits = map (clock false) bits

-- the clocks from Run-Test/Idle to Shift-IR, for the instruction register, or to Shift-DR, for a data register
abbrev pub to_shift : ScannedRegister → List PortClock
to_shift scanned.Instruction = clock true false ∷ clock true false ∷ clock false false ∷ clock false false ∷ []
to_shift scanned.Data = clock true false ∷ clock false false ∷ clock false false ∷ []

-- the clocks from Exit1-IR or Exit1-DR to Run-Test/Idle
abbrev pub from_exit : List PortClock
from_exit = clock true false ∷ clock false false ∷ []

-- the clocks of a statement that begins in state `s`; each statement of a text begins and ends in Test-Logic-Reset or
-- in Run-Test/Idle
abbrev pub clocks_of : State → Statement → List PortClock
clocks_of s statement.Reset = replicate 5 (clock true false)
clocks_of s statement.Idle = from_reset s
clocks_of s (statement.IdleClocks n) = from_reset s ++ replicate n (clock false false)
clocks_of s (statement.Scan scan) = from_reset s ++ to_shift scan.register ++ shift_clocks scan.tdi ++ from_exit
clocks_of s statement.Nothing = []

-- the clocks of statements, one after another, of which the first begins in state `s`
abbrev pub clocks : State → List Statement → List PortClock
clocks s [] = []
clocks s (m ∷ ms) = clocks_of s m ++ clocks (state_after s (clocks_of s m)) ms
