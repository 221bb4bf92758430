-- How a scan's fields are read token by token, and what is known of their digits (this project's choice).
use Rattle.std.specs.Prelude.{◌≡◌, ◌<◌, ◌≤◌, ℕ, ◌^◌, nat_lt, true, ⊤, if◌then◌else◌, List, [], ◌++◌, Option, Some, None, length}
use Rattle.x7_svf.specs.Token.{Token, Word, Open, Close}
use Rattle.x7_svf.specs.Fields.{ScanFields, are_hex, field_by_name, with_field}
use Rattle.x7_svf.specs.declared.fields.ScanField.{ScanField}

-- where a reader of a scan stands: between fields, after a field's name, or inside its brackets after these digits
pub data ScanPlace : Type 0 where
  Between : ScanPlace
  Named : (field : ScanField) → ScanPlace
  Inside : (field : ScanField) (digits : List ℕ) → ScanPlace

-- where a reader of a scan stands, and the fields so far
pub record Scanning : Type 0 where
  pub at : ScanPlace
  pub fields : ScanFields

-- after a field's name its brackets come next; none where the word named no field
abbrev pub after_name : ScanFields → Option ScanField → Option Scanning
after_name f None = None
after_name f (Some k) = Some (record { at = Named k; fields = f })

-- the fields with one more; none where that field has no digit, or is among them already
abbrev pub closed_field : ScanFields → ScanField → List ℕ → Option ScanFields
closed_field f k ds = if nat_lt 0 (length ds) then with_field f k ds else None

-- after the brackets of a field another field may come
abbrev pub after_field : Option ScanFields → Option Scanning
after_field None = None
after_field (Some f) = Some (record { at = Between; fields = f })

-- where a reader of a scan stands after one token more, and the fields then; none where no scan goes on so
abbrev pub scan_step : ScanPlace → ScanFields → Token → Option Scanning
scan_step Between f (Word w) = after_name f (field_by_name w)
scan_step (Named k) f Open = Some (record { at = Inside k []; fields = f })
scan_step (Inside k ds) f (Word w) = if are_hex w then Some (record { at = Inside k (ds ++ w); fields = f }) else None
scan_step (Inside k ds) f Close = after_field (closed_field f k ds)
scan_step _ f _ = None

-- ---- digits

-- the digits of a field, if it has any, are hexadecimal
abbrev pub AreHexIf : Option (List ℕ) → Type 0
AreHexIf None = ⊤
AreHexIf (Some ds) = are_hex ds ≡ true

-- the digits of all fields are hexadecimal
pub record AreHexFields (f : ScanFields) : Type 0 where
  pub tdi : AreHexIf f.tdi
  pub tdo : AreHexIf f.tdo
  pub mask : AreHexIf f.mask
  pub smask : AreHexIf f.smask

-- the bits are the least count whose power of two is above the value
pub record IsWidth (value bits : ℕ) : Type 0 where
  pub above : value < 2 ^ bits
  pub least : (n : ℕ) → value < 2 ^ n → bits ≤ n
