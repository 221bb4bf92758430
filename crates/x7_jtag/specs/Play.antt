-- Playing statements: their clocks, up to and with the first scan whose TDO differs from the wanted bits (this
-- project's profile of SVF). Statements count from 1, bits and clocks of a scan from 0.
use Rattle.std.specs.Prelude.{ℕ, zero, suc, ◌+◌, ◌-◌, ◌&&◌, not, Bool, true, false, if◌then◌else◌, List, [], ◌∷◌, ◌++◌, length, take, map, fold, Option, Some, None, ◌≡◌, ◌≤◌, ◌^◌}
use Rattle.std.specs.List.{slice_get}
use Rattle.x7_part.specs.Part.{PartData}
use Rattle.x7_jtag.specs.declared.play.Differ.{Differ}
use Rattle.x7_svf.specs.declared.statement.Scan.{Scan}
use Rattle.x7_svf.specs.declared.statement.Statement.{Statement}
use Rattle.x7_svf.specs.declared.statement.Statement.TheVariants as statement
use Rattle.x7_jtag.specs.Clocks.{clock, clocks, clocks_of, from_reset, shift_clocks, to_shift}
use Rattle.x7_jtag.specs.Port.{Port, after_clock, new_port, port_after, tdo_of}
use Rattle.x7_engine.specs.Standing.{DeviceState}
use Rattle.x7_jtag.specs.State.{PortClock, test_logic_reset}
use Rattle.x7_jtag.specs.Tap.{TapStandsFor, TapState}

-- a bit, and 0 where there is none
abbrev pub bit_or_0 : Option Bool → Bool
bit_or_0 None = false
bit_or_0 (Some b) = b

-- bit i of a scan's bits, and 0 past the last
abbrev pub scan_bit : List Bool → ℕ → Bool
scan_bit bits i = bit_or_0 (slice_get bits i)

-- whether bit i counts: all do where there is no mask
abbrev pub counts : Option (List Bool) → ℕ → Bool
counts None i = true
counts (Some mask) i = scan_bit mask i

-- two bits differ
abbrev pub bits_differ : Bool → Bool → Bool
bits_differ true b = not b
bits_differ false b = b

-- the port after clocks, where `p` is the port before the first
abbrev pub after_clocks : PartData → Port → List PortClock → Port
after_clocks part p cs = fold (after_clock part) p cs

-- TDO at shift clock i of a scan of the bits `tdi`, where the port `p` before shift clock 0 is in Shift-DR or Shift-IR
abbrev pub tdo_at : PartData → Port → List Bool → ℕ → Bool
tdo_at part p tdi i = tdo_of part (after_clocks part p (take i (shift_clocks tdi)))

-- whether the bit that is shown differs from the wanted one, where bits are wanted and bit i counts
abbrev pub differs_from_wanted : Option (List Bool) → Option (List Bool) → ℕ → Bool → Bool
differs_from_wanted None mask i shown = false
differs_from_wanted (Some tdo) mask i shown = counts mask i && bits_differ (scan_bit tdo i) shown

-- the first bit found that differs: bit i, if it differs, where none was found before
abbrev pub first_found : Option ℕ → Bool → ℕ → Option ℕ
first_found None differs i = if differs then Some i else None
first_found (Some first) differs i = Some first

-- the least of n numbers from `from` on at which `holds` is true, where there is one
abbrev pub least : (ℕ → Bool) → ℕ → ℕ → Option ℕ
least holds from zero = None
least holds from (suc n) = if holds from then Some from else least holds (from + 1) n

-- whether TDO differs at shift clock i from what is wanted, where `p` is the port before shift clock 0
abbrev pub tdo_differs_at : PartData → Port → Scan → ℕ → Bool
tdo_differs_at part p s i = differs_from_wanted s.tdo s.mask i (tdo_at part p s.tdi i)

-- the least bit from `first` on at which TDO of a scan differs, where `p` is the port before shift clock 0
abbrev pub difference_from : PartData → Port → Scan → ℕ → Option ℕ
difference_from part p s first = least (tdo_differs_at part p s) first (length s.tdi - first)

-- the least differing bit of a statement, where `p` is the port before it; none but a scan has one
abbrev pub difference : PartData → Port → Statement → Option ℕ
difference part p (statement.Scan s) = difference_from part (after_clocks part p (from_reset p.state ++ to_shift s.register)) s 0
difference part p _ = None

-- statement n with its bit, where it differs, and else what a later one comes to
abbrev pub first_by : Option ℕ → ℕ → Option Differ → Option Differ
first_by None n later = later
first_by (Some bit) n later = Some (record { statement = n; bit = bit })

-- the first of statements that differs, with its least differing bit, where the first of all has number n
abbrev pub first_from : PartData → Port → ℕ → List Statement → Option Differ
first_from part p n [] = None
first_from part p n (s ∷ ss) = first_by (difference part p s) n (first_from part (after_clocks part p (clocks_of p.state s)) (n + 1) ss)

-- the first of a text's statements that differs, by its number from 1, with its least differing bit
abbrev pub first_difference : PartData → List Statement → Option Differ
first_difference part ss = first_from part new_port 1 ss

-- the statements that are played: all, or those up to and with the one that differs
abbrev pub statements_played : List Statement → Option Differ → List Statement
statements_played ss None = ss
statements_played ss (Some differ) = take differ.statement ss

-- the clocks of the statements that are played
abbrev pub clocks_played : List Statement → Option Differ → List PortClock
clocks_played ss result = clocks test_logic_reset (statements_played ss result)

-- the port after the clocks of the statements that are played
abbrev pub port_played : PartData → List Statement → Port
port_played part ss = port_after part (clocks_played ss (first_difference part ss))

-- clocks of TDI 0 that walk from state to state, with the values `path` of TMS
abbrev pub walk_clocks : List Bool → List PortClock
walk_clocks path = map (λ tms. clock tms false) path

-- ---- what a step finds, and what holds after clocks

-- the bit that a step found is `sought` of the port before the step
abbrev pub FindsBit : TapState → DeviceState → (PartData → Port → Option ℕ) → Option ℕ → Type 0
FindsBit tap device sought found =
    (part : PartData) (cs : List PortClock) → TapStandsFor part tap device cs → found ≡ sought part (port_after part cs)

-- `Fact` holds of the clocks before `made`, for each list of clocks that a tap and its device may have made and that
-- ends with `made`
abbrev pub AfterClocks : TapState → DeviceState → List PortClock → (PartData → List PortClock → Type 0) → Type 0
AfterClocks tap device made Fact =
    (part : PartData) (cs : List PortClock) → TapStandsFor part tap device (cs ++ made) → Fact part cs

-- ---- what a tap and a device are ready for

-- a new tap and a new device
abbrev pub AreNew : TapState → DeviceState → Type 0
AreNew tap device = (part : PartData) × TapStandsFor part tap device []

-- a bound on idle clocks and on the bits of a scan: a count of 32 bits is below it
abbrev pub count_limit : ℕ
count_limit = 2 ^ 32

-- a bound on the clocks of a statement: idle clocks or those of a scan's bits, and a few on the way there and back
abbrev pub statement_limit : ℕ
statement_limit = 2 ^ 33

-- A tap and its device, which were new before some clocks, may make `more` clocks more: with those before they are at
-- most 2^62. A device takes no more bytes than there were clocks, and so never more than it can count.
pub record MayClock (tap : TapState) (device : DeviceState) (more : ℕ) : Type 0 where
  pub part : PartData
  pub before : List PortClock
  pub stands : TapStandsFor part tap device before
  pub few : length before + more ≤ 2 ^ 62
