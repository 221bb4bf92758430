-- Statements whose digits are saved apart (this project's choice).
use Rattle.std.specs.Prelude.{◌≡◌, ℕ, ◌≤◌, ⊤, List, length, map, Option, Some, None, IfSome}
use Rattle.std.specs.List.{AllByRecursion}
use Rattle.x7_svf.specs.Bits.{bits_of}
use Rattle.x7_svf.specs.Fields.{bits_if}
use Rattle.x7_svf.specs.Span.{digits_if, bytes_in, span_end_if, span_end}
use Rattle.x7_svf.specs.declared.statement.Statement.{Statement}
use Rattle.x7_svf.specs.declared.statement.Statement.TheVariants as statement
use Rattle.x7_svf.specs.declared.stored.StoredScan.{StoredScan}
use Rattle.x7_svf.specs.declared.stored.StoredStatement.{StoredStatement}
use Rattle.x7_svf.specs.declared.stored.StoredStatement.TheVariants as stored

-- the scan that is stored, with the bits of each field, whose digits are among those saved
abbrev pub scan_in : List ℕ → StoredScan → Statement
scan_in saved s = statement.Scan (record { register = s.register; tdi = bits_of s.bit_count (bytes_in saved s.tdi); tdo = bits_if s.bit_count (digits_if saved s.tdo); mask = bits_if s.bit_count (digits_if saved s.mask) })

-- a statement, the digits of whose scan are saved
abbrev pub statement_in : List ℕ → StoredStatement → Statement
statement_in saved stored.Reset = statement.Reset
statement_in saved stored.Idle = statement.Idle
statement_in saved (stored.IdleClocks n) = statement.IdleClocks n
statement_in saved (stored.Scan s) = scan_in saved s
statement_in saved stored.Nothing = statement.Nothing

-- the statement that is stored, if one is
abbrev pub stored_if : List ℕ → Option StoredStatement → Option Statement
stored_if saved None = None
stored_if saved (Some s) = Some (statement_in saved s)

-- the statements that are stored
abbrev pub statements_in : List ℕ → List StoredStatement → List Statement
statements_in saved ss = map (statement_in saved) ss

-- the digits of a stored statement are among the first n bytes saved
abbrev pub IsStoredWithin : ℕ → StoredStatement → Type 0
IsStoredWithin n (stored.Scan s) = (span_end s.tdi ≤ n) × (span_end_if s.tdo ≤ n) × (span_end_if s.mask ≤ n)
IsStoredWithin n _ = ⊤

-- the digits of all stored statements are among the first n bytes saved
abbrev pub AreStoredWithin : ℕ → List StoredStatement → Type 0
AreStoredWithin n ss = AllByRecursion (IsStoredWithin n) ss

-- over the saved digits, the stored statement stands for this statement, and none for none; its digits are among them
abbrev pub IsStored : List ℕ → Option StoredStatement → Option Statement → Type 0
IsStored saved o s = (stored_if saved o ≡ s) × IfSome o (IsStoredWithin (length saved))
