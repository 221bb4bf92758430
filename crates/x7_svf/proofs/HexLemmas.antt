-- The digits of a scan's fields are hexadecimal.
use Rattle.std.specs.Prelude.{IfSome}
use Rattle.std.proofs.Common.{◌≡◌, ◌&&◌, nat_lt, Bool, true, false, if◌then◌else◌, List, [], ◌∷◌, ℕ, length, Option, Some, None, refl, subst, sym}
use Rattle.x7_svf.specs.Token.{Token, Word, Open, Close, End}
use Rattle.x7_svf.specs.Fields.{ScanFields, are_hex, field_by_name, is_none, joined_digits, no_fields, scan_fields, with_field, with_fields, with_named_field}
use Rattle.x7_svf.specs.Scanner.{AreHexFields}
use Rattle.x7_svf.specs.declared.fields.ScanField.{ScanField}
use Rattle.x7_svf.specs.declared.fields.ScanField.TheVariants as field

hex_if : (b : Bool) (g : ScanFields) → AreHexFields g → IfSome (if b then Some g else None) AreHexFields
hex_if true g h = h
hex_if false g h = tt

hex_field : (f : ScanFields) (k : ScanField) (ds : List ℕ) → are_hex ds ≡ true → AreHexFields f → IfSome (with_field f k ds) AreHexFields
hex_field f field.Tdi ds e h = hex_if (is_none f.tdi) (record f { tdi = Some ds }) (record { tdi = e; tdo = h.tdo; mask = h.mask; smask = h.smask })
hex_field f field.Tdo ds e h = hex_if (is_none f.tdo) (record f { tdo = Some ds }) (record { tdi = h.tdi; tdo = e; mask = h.mask; smask = h.smask })
hex_field f field.Mask ds e h = hex_if (is_none f.mask) (record f { mask = Some ds }) (record { tdi = h.tdi; tdo = h.tdo; mask = e; smask = h.smask })
hex_field f field.Smask ds e h = hex_if (is_none f.smask) (record f { smask = Some ds }) (record { tdi = h.tdi; tdo = h.tdo; mask = h.mask; smask = e })

hex_named : (f : ScanFields) (o : Option ScanField) (ds : List ℕ) → AreHexFields f → IfSome (with_named_field f o ds) AreHexFields
hex_named f None ds h = tt
hex_named f (Some k) ds h = by (are_hex ds) (nat_lt 0 (length ds)) refl
  where
    by : (a b : Bool) → are_hex ds ≡ a → IfSome (if a && b then with_field f k ds else None) AreHexFields
    by true true e = hex_field f k ds e h
    by true false e = tt
    by false b e = tt

hex_with : (o : Option ScanFields) (ts : List Token) → IfSome o AreHexFields → IfSome (with_fields o ts) AreHexFields
hex_with None ts h = tt
hex_with (Some f) [] h = h
hex_with (Some f) (Open ∷ ts) h = tt
hex_with (Some f) (Close ∷ ts) h = tt
hex_with (Some f) (End ∷ ts) h = tt
hex_with (Some f) (Word n ∷ []) h = tt
hex_with (Some f) (Word n ∷ Word v ∷ ts) h = tt
hex_with (Some f) (Word n ∷ Close ∷ ts) h = tt
hex_with (Some f) (Word n ∷ End ∷ ts) h = tt
hex_with (Some f) (Word n ∷ Open ∷ []) h = tt
hex_with (Some f) (Word n ∷ Open ∷ Open ∷ ts) h = tt
hex_with (Some f) (Word n ∷ Open ∷ Close ∷ ts) h = tt
hex_with (Some f) (Word n ∷ Open ∷ End ∷ ts) h = tt
hex_with (Some f) (Word n ∷ Open ∷ Word d ∷ []) h = tt
hex_with (Some f) (Word n ∷ Open ∷ Word d ∷ Word v ∷ ts) h = tt
hex_with (Some f) (Word n ∷ Open ∷ Word d ∷ Open ∷ ts) h = tt
hex_with (Some f) (Word n ∷ Open ∷ Word d ∷ End ∷ ts) h = tt
hex_with (Some f) (Word n ∷ Open ∷ Word d ∷ Close ∷ ts) h = hex_with (with_named_field f (field_by_name n) d) ts (hex_named f (field_by_name n) d h)

pub hex_scanned : (ts : List Token) (f : ScanFields) → Some f ≡ scan_fields ts → AreHexFields f
hex_scanned ts f e =
    let all : IfSome (scan_fields ts) AreHexFields = hex_with (Some no_fields) (joined_digits ts) (record { tdi = tt; tdo = tt; mask = tt; smask = tt }) in
    subst (λ (o : Option ScanFields). IfSome o AreHexFields) (sym e) all
