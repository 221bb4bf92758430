-- Reading a header from left to right, field by field, with the first fault that is met (not in UG470: the form that
-- the vendor's tool writes), and how many bytes to read next of one that is read in pieces (this project's choice).
use Rattle.std.specs.Prelude.{◌≡◌, ℕ, ◌+◌, ◌-◌, ◌*◌, ◌<◌, List, [], ◌∷◌, ◌++◌, length, take, drop, Result, Ok, Err, nat_le, nat_lt, nat_eq, max, ◌==◌, if◌then◌else◌}
use Rattle.std.specs.List.{starts_with}
use Rattle.x7_words.specs.Word.{word_of_bytes}
use Rattle.x7_header.specs.Header.{fixed_bytes, fixed_size, FieldKind, Field, header_fields, HeaderContents}
use Rattle.x7_header.specs.declared.fault.HeaderFault.{HeaderFault}
use Rattle.x7_header.specs.declared.fault.HeaderFault.TheVariants as fault

-- a step of reading, and after it another by what the first gave, unless that met a fault
infixl 10 ◌>>=◌
abbrev pub ◌>>=◌ : {A B : Type 0} → Result A HeaderFault → (A → Result B HeaderFault) → Result B HeaderFault
(Ok x) >>= f = f x
(Err e) >>= f = Err e

-- What a call returned is what a reading gives: its fault, or its value as `view` shows it.
abbrev pub ReturnsAs : {X Y : Type 0} → (X → Y) → Result X HeaderFault → Result Y HeaderFault → Type 0
ReturnsAs view (Ok x) reading = reading ≡ Ok (view x)
ReturnsAs view (Err e) reading = reading ≡ Err e

-- Each reading below is of the bytes that are left of an input, from their first on. `total` is how many bytes the
-- whole input has; the place of a fault counts from the input's first byte.

-- the bytes after the letter that is due at the beginning, or the fault that the bytes end there or have another
abbrev pub after_letter : ℕ → ℕ → List ℕ → Result (List ℕ) HeaderFault
after_letter total letter [] = Err (fault.Cut total)
after_letter total letter (first ∷ bytes) = if first == letter then Ok bytes else Err (fault.Field (total - length (first ∷ bytes)))

-- the first `count` bytes and those after them, or the fault that there are fewer
abbrev pub first_bytes : ℕ → ℕ → List ℕ → Result (List ℕ × List ℕ) HeaderFault
first_bytes total count bytes = if nat_le count (length bytes) then Ok (take count bytes, drop count bytes) else Err (fault.Cut total)

-- the content of a field, read after its letter, and the bytes after it
abbrev pub content_at : ℕ → FieldKind → List ℕ → Result (List ℕ × List ℕ) HeaderFault
content_at total FieldKind.Four bytes = first_bytes total 4 bytes
content_at total FieldKind.Counted (high ∷ low ∷ bytes) = first_bytes total (high * 256 + low) bytes
content_at total FieldKind.Counted (high ∷ []) = Err (fault.Cut total)
content_at total FieldKind.Counted [] = Err (fault.Cut total)

-- the content of a field, and the bytes after it
unfoldable pub field_at : ℕ → Field → List ℕ → Result (List ℕ × List ℕ) HeaderFault
field_at total field bytes = do
  after ← after_letter total field.letter bytes
  content_at total field.kind after

-- the content of each of the fields, and the bytes after them
unfoldable pub fields_at : ℕ → List Field → List ℕ → Result (List (List ℕ) × List ℕ) HeaderFault
fields_at total [] bytes = Ok ([], bytes)
fields_at total (field ∷ fields) bytes = do
  first ← field_at total field bytes
  others ← fields_at total fields first.1
  Ok (first.0 ∷ others.0, others.1)

-- what a header holds, by the contents of its five fields in their order; of fewer contents the value has no meaning
abbrev pub contents_from : List (List ℕ) → HeaderContents
contents_from (a ∷ b ∷ c ∷ d ∷ length ∷ more) = record { a = a; b = b; c = c; d = d; data_length = word_of_bytes length }
contents_from _ = record { a = []; b = []; c = []; d = []; data_length = 0 }

-- the bytes after the fixed ones, or the fault that the bytes don't begin with these
abbrev pub after_fixed_bytes : List ℕ → Result (List ℕ) HeaderFault
after_fixed_bytes bytes = if starts_with nat_eq bytes fixed_bytes then Ok (drop (length fixed_bytes) bytes) else Err fault.Raw

-- what the fields of a header hold, and at which place of the input they end
unfoldable pub header_fields_at : ℕ → List ℕ → Result (HeaderContents × ℕ) HeaderFault
header_fields_at total bytes = do
  read ← fields_at total header_fields bytes
  Ok (contents_from read.0, total - length read.1)

-- what the header's fields hold, and the header's size in bytes
unfoldable pub header_at : List ℕ → Result (HeaderContents × ℕ) HeaderFault
header_at bytes = do
  after ← after_fixed_bytes bytes
  header_fields_at (length bytes) after

-- ---- bytes that wait for more

-- with fewer than `count` bytes more than these the input ends inside the field; where `count` is 0 nothing is said
abbrev pub FieldWaits : Field → List ℕ → ℕ → Type 0
FieldWaits field bytes count = (total : ℕ) (more : List ℕ) → length more < count → field_at total field (bytes ++ more) ≡ Err (fault.Cut total)

-- with fewer than `count` bytes more than these, which stand after the fixed ones, the input ends inside the fields;
-- where `count` is 0 nothing is said
abbrev pub HeaderFieldsWait : List ℕ → ℕ → Type 0
HeaderFieldsWait bytes count = (total : ℕ) (more : List ℕ) → length more < count → header_fields_at total (bytes ++ more) ≡ Err (fault.Cut total)

-- with fewer than `count` bytes more than these the input ends inside the header; where `count` is 0 nothing is said
abbrev pub HeaderWaits : List ℕ → ℕ → Type 0
HeaderWaits bytes count = (more : List ℕ) → length more < count → header_at (bytes ++ more) ≡ Err (fault.Cut (length (bytes ++ more)))

-- ---- how many bytes are lacked of what is being read: the fixed bytes, or a field's letter, count, text or number

-- how many bytes a prefix of a field of text lacks of the part in which it ends: the letter, the count, or the text
abbrev pub text_lacks : List ℕ → ℕ
text_lacks [] = 1
text_lacks (letter ∷ []) = 2
text_lacks (letter ∷ high ∷ []) = 1
text_lacks (letter ∷ high ∷ low ∷ bytes) = high * 256 + low - length bytes

-- how many bytes a prefix of a field of a number lacks of the part in which it ends: the letter, or the four bytes
abbrev pub number_lacks : List ℕ → ℕ
number_lacks [] = 1
number_lacks (letter ∷ bytes) = 4 - length bytes

-- how many bytes a prefix of a field of this kind lacks of the part in which it ends
abbrev pub lacks_of : FieldKind → List ℕ → ℕ
lacks_of FieldKind.Counted = text_lacks
lacks_of FieldKind.Four = number_lacks

-- how many bytes are lacked where the reading of a field gave this: `lack` where the field is cut, what `later` says of
-- the bytes after it where it is whole, and 0 where its letter is wrong
abbrev pub lacks_by : ℕ → Result (List ℕ × List ℕ) HeaderFault → (List ℕ → ℕ) → ℕ
lacks_by lack (Ok field) later = later field.1
lacks_by lack (Err (fault.Cut total)) later = lack
lacks_by lack (Err (fault.Field place)) later = 0
lacks_by lack (Err fault.Raw) later = 0

-- the field of a text of this letter
abbrev pub text_of_letter : ℕ → Field
text_of_letter letter = record { letter = letter; kind = FieldKind.Counted }

-- the field of a number of this letter
abbrev pub number_of_letter : ℕ → Field
number_of_letter letter = record { letter = letter; kind = FieldKind.Four }

-- how many bytes are lacked from the text of this letter on: of its field, or, where that is whole, what `later` says
-- of the bytes after it
abbrev pub lack_from_text : ℕ → List ℕ → (List ℕ → ℕ) → ℕ
lack_from_text letter bytes later = lacks_by (text_lacks bytes) (field_at (length bytes) (text_of_letter letter) bytes) later

-- how many bytes are lacked from the number of this letter on: of its field, or, where that is whole, what `later` says
-- of the bytes after it
abbrev pub lack_from_number : ℕ → List ℕ → (List ℕ → ℕ) → ℕ
lack_from_number letter bytes later = lacks_by (number_lacks bytes) (field_at (length bytes) (number_of_letter letter) bytes) later

-- how many bytes the first of these fields lacks that isn't whole: 0 where its letter is wrong, or where all are whole
abbrev pub fields_lack : List Field → List ℕ → ℕ
fields_lack [] bytes = 0
fields_lack (field ∷ fields) bytes = lacks_by (lacks_of field.kind bytes) (field_at (length bytes) field bytes) (fields_lack fields)

-- how many bytes a header's fields lack, by what the reading of the fixed bytes gave: 0 where these are wrong
abbrev pub lacks_after : Result (List ℕ) HeaderFault → ℕ
lacks_after (Ok after) = fields_lack header_fields after
lacks_after (Err f) = 0

-- how many bytes to read next of an input that begins with these: what the fixed bytes lack, or what the fields lack,
-- and one where nothing is lacked
abbrev pub wanted : List ℕ → ℕ
wanted bytes = if nat_lt (length bytes) fixed_size then fixed_size - length bytes else max 1 (lacks_after (after_fixed_bytes bytes))
