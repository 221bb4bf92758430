-- The fields of a scan, and what the scan says (this project's profile of SVF). After the number of bits come the
-- fields, in any order and each at most once: a field's name, `(`, hexadecimal digits, at least one, which blanks may
-- part, and `)`.
use Rattle.std.specs.Prelude.{ℕ, ◌+◌, ◌*◌, ◌^◌, ◌==◌, ◌&&◌, nat_lt, Bool, true, false, if◌then◌else◌, List, [], ◌∷◌, ◌++◌, Option, Some, None, codes, length}
use Rattle.std.specs.List.{list_all}
use Rattle.x7_words.specs.Characters.{digit_number, is_hex_digit}
use Rattle.x7_svf.specs.Token.{Token, Word, Open, Close, End}
use Rattle.x7_svf.specs.Bits.{bits_of}
use Rattle.x7_svf.specs.Words.{is_keyword, number_within}
use Rattle.x7_svf.specs.declared.statement.ScannedRegister.{ScannedRegister}
use Rattle.x7_svf.specs.declared.statement.Statement.{Statement}
use Rattle.x7_svf.specs.declared.statement.Statement.TheVariants as statement
use Rattle.x7_svf.specs.declared.fields.ScanField.{ScanField}
use Rattle.x7_svf.specs.declared.fields.ScanField.TheVariants as field

-- the field of a name, in either case; none where the word is no field's name
abbrev pub field_by_name : List ℕ → Option ScanField
field_by_name w =
    if is_keyword w (codes "TDI") then Some field.Tdi
    else (if is_keyword w (codes "TDO") then Some field.Tdo
    else (if is_keyword w (codes "MASK") then Some field.Mask
    else (if is_keyword w (codes "SMASK") then Some field.Smask else None)))

-- a word of hexadecimal digits alone
abbrev pub are_hex : List ℕ → Bool
are_hex w = list_all is_hex_digit w

-- the digits of each field, none of one that is left out
pub record ScanFields : Type 0 where
  pub tdi : Option (List ℕ)
  pub tdo : Option (List ℕ)
  pub mask : Option (List ℕ)
  pub smask : Option (List ℕ)

-- no field
abbrev pub no_fields : ScanFields
no_fields = record { tdi = None; tdo = None; mask = None; smask = None }

-- a field has no digits: it is left out
abbrev pub is_none : Option (List ℕ) → Bool
is_none None = true
is_none (Some ds) = false

-- the fields with one more; none where that field is among them already
abbrev pub with_field : ScanFields → ScanField → List ℕ → Option ScanFields
with_field f field.Tdi ds = if is_none f.tdi then Some (record f { tdi = Some ds }) else None
with_field f field.Tdo ds = if is_none f.tdo then Some (record f { tdo = Some ds }) else None
with_field f field.Mask ds = if is_none f.mask then Some (record f { mask = Some ds }) else None
with_field f field.Smask ds = if is_none f.smask then Some (record f { smask = Some ds }) else None

-- ---- the fields of tokens

-- a word before tokens: words of hexadecimal digits, which blanks part, are one
abbrev pub digits_before : List ℕ → List Token → List Token
digits_before w (Word v ∷ ts) = if are_hex w && are_hex v then Word (w ++ v) ∷ ts else Word w ∷ Word v ∷ ts
digits_before w ts = Word w ∷ ts

-- tokens, of which words of hexadecimal digits side by side are one
abbrev pub joined_digits : List Token → List Token
joined_digits [] = []
joined_digits (Word w ∷ ts) = digits_before w (joined_digits ts)
joined_digits (Open ∷ ts) = Open ∷ joined_digits ts
joined_digits (Close ∷ ts) = Close ∷ joined_digits ts
joined_digits (End ∷ ts) = End ∷ joined_digits ts

-- the fields with one more; none where its name is no field's, its digits aren't hexadecimal or are none, or the field
-- is among them already
abbrev pub with_named_field : ScanFields → Option ScanField → List ℕ → Option ScanFields
with_named_field f None ds = None
with_named_field f (Some k) ds = if are_hex ds && nat_lt 0 (length ds) then with_field f k ds else None

-- the fields with those of tokens, each at most once and in any order: its name, `(`, its digits and `)`; none where
-- the tokens aren't such fields
abbrev pub with_fields : Option ScanFields → List Token → Option ScanFields
with_fields None ts = None
with_fields (Some f) [] = Some f
with_fields (Some f) (Word name ∷ Open ∷ Word digits ∷ Close ∷ ts) = with_fields (with_named_field f (field_by_name name) digits) ts
with_fields (Some f) _ = None

-- the fields that the tokens after the number of bits say; none where they aren't fields, or one stands twice
abbrev pub scan_fields : List Token → Option ScanFields
scan_fields ts = with_fields (Some no_fields) (joined_digits ts)

-- ---- values

-- the value of digits, the first the highest
abbrev pub hex_value : List ℕ → ℕ
hex_value [] = 0
hex_value (c ∷ cs) = digit_number c * 2 ^ (4 * length cs) + hex_value cs

-- the value of a field's digits, if it has any, fits n bits
abbrev pub fits : ℕ → Option (List ℕ) → Bool
fits n None = true
fits n (Some ds) = nat_lt (hex_value ds) (2 ^ n)

-- the values of all fields fit n bits
abbrev pub fields_fit : ℕ → ScanFields → Bool
fields_fit n f = fits n f.tdi && fits n f.tdo && fits n f.mask && fits n f.smask

-- the n lowest bits of a field; none where it is left out
abbrev pub bits_if : ℕ → Option (List ℕ) → Option (List Bool)
bits_if n None = None
bits_if n (Some ds) = Some (bits_of n ds)

-- the scan of n bits by its fields and the digits of TDI; none where TDI is left out. SMASK isn't looked at
abbrev pub with_tdi : ScannedRegister → ℕ → ScanFields → Option (List ℕ) → Option Statement
with_tdi register n f None = None
with_tdi register n f (Some ds) = Some (statement.Scan (record { register = register; tdi = bits_of n ds; tdo = bits_if n f.tdo; mask = bits_if n f.mask }))

-- the scan of n bits by its fields; none where the value of one doesn't fit, or TDI is left out
abbrev pub scan_by : ScannedRegister → ℕ → Option ScanFields → Option Statement
scan_by register n None = None
scan_by register n (Some f) = if fields_fit n f then with_tdi register n f f.tdi else None

-- the most bits of a scan
abbrev pub most_scan_bits : ℕ
most_scan_bits = 2 ^ 29

-- how many bits a scan has, by the number that was read; none for 0, and where no number was read
abbrev pub positive_count : Option ℕ → Option ℕ
positive_count None = None
positive_count (Some n) = if n == 0 then None else Some n

-- the scan of this many bits, by the tokens after their number; none where no number was read
abbrev pub scan_if : ScannedRegister → Option ℕ → List Token → Option Statement
scan_if register None ts = None
scan_if register (Some n) ts = scan_by register n (scan_fields ts)

-- the scan of the tokens after SIR or SDR
abbrev pub scan_of : ScannedRegister → List Token → Option Statement
scan_of register [] = None
scan_of register (Word n ∷ ts) = scan_if register (positive_count (number_within most_scan_bits n)) ts
scan_of register (Open ∷ ts) = None
scan_of register (Close ∷ ts) = None
scan_of register (End ∷ ts) = None
