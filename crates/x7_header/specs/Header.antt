-- The header before a stream's data, as a list of fields (not in UG470: the form that the vendor's tool writes).
use Rattle.std.specs.Prelude.{◌≡◌, ◌≢◌, ◌≤◌, ◌+◌, ◌*◌, ◌-◌, ℕ, ◌/◌, ◌%◌, ◌<◌, ◌^◌, List, [], ◌∷◌, ◌++◌, length, drop}
use Rattle.x7_words.specs.Word.{AreBytes, bytes_of_word}
use Rattle.x7_header.specs.declared.header.Head.{Head}

-- the bytes before a header's first field
abbrev pub fixed_bytes : List ℕ
fixed_bytes = 0x00 ∷ 0x09 ∷ 0x0F ∷ 0xF0 ∷ 0x0F ∷ 0xF0 ∷ 0x0F ∷ 0xF0 ∷ 0x0F ∷ 0xF0 ∷ 0x00 ∷ 0x00 ∷ 0x01 ∷ []

-- how many bytes stand before the first field
abbrev pub fixed_size : ℕ
fixed_size = 13

-- the most bytes of a text: its count has two bytes
abbrev pub longest_text : ℕ
longest_text = 65535

-- the most bytes of a header: the fixed ones, four texts with a letter and a count each, and a number with its letter
abbrev pub longest_header : ℕ
longest_header = fixed_size + 4 * (3 + longest_text) + 5

-- what stands after a field's letter
pub data FieldKind : Type 0 where
  -- the number of the bytes that follow, in two bytes, the highest first, and these bytes
  Counted : FieldKind
  -- four bytes: a number, the highest first
  Four : FieldKind

-- a field of a header: its letter, and what stands after that
pub record Field : Type 0 where
  pub letter : ℕ
  pub kind : FieldKind

-- the fields of a header in their order: design, part, date and time, and how many bytes the data has
abbrev pub header_fields : List Field
header_fields =
    record { letter = 0x61; kind = FieldKind.Counted }
    ∷ record { letter = 0x62; kind = FieldKind.Counted }
    ∷ record { letter = 0x63; kind = FieldKind.Counted }
    ∷ record { letter = 0x64; kind = FieldKind.Counted }
    ∷ record { letter = 0x65; kind = FieldKind.Four }
    ∷ []

-- a content fits a field of this kind: a text of at most 65,535 bytes, or four bytes
abbrev pub FitsFieldKind : FieldKind → List ℕ → Type 0
FitsFieldKind FieldKind.Counted content = length content < 2 ^ 16
FitsFieldKind FieldKind.Four content = length content ≡ 4

-- the bytes between a field's letter and its content: the count of a text, none before a number
abbrev pub bytes_of_count : FieldKind → List ℕ → List ℕ
bytes_of_count FieldKind.Counted content = length content / 256 ∷ length content % 256 ∷ []
bytes_of_count FieldKind.Four content = []

-- the bytes of a field with this content: its letter, the count of a text, and the content
abbrev pub field_bytes : Field → List ℕ → List ℕ
field_bytes field content = field.letter ∷ (bytes_of_count field.kind content ++ content)

-- the bytes of fields one after another, each with its content
abbrev pub fields_bytes : List Field → List (List ℕ) → List ℕ
fields_bytes (field ∷ fields) (content ∷ contents) = field_bytes field content ++ fields_bytes fields contents
fields_bytes (field ∷ fields) [] = []
fields_bytes [] contents = []

-- there is one content for each of the fields, and it fits the field
abbrev pub FitFields : List Field → List (List ℕ) → Type 0
FitFields (field ∷ fields) (content ∷ contents) = FitsFieldKind field.kind content × FitFields fields contents
FitFields (field ∷ fields) [] = ⊥
FitFields [] (content ∷ contents) = ⊥
FitFields [] [] = Unit {0}

-- the bytes are whole fields, the first ones of these, and then a byte that isn't the next field's letter; `left` bytes
-- stand from it on
pub record HasOtherLetter (fields : List Field) (bytes : List ℕ) (left : ℕ) : Type 0 where
  pub done : List Field
  pub contents : List (List ℕ)
  pub next : Field
  pub later : List Field
  pub other : ℕ
  pub rest : List ℕ
  pub fields_are : fields ≡ done ++ next ∷ later
  pub hold : FitFields done contents
  pub bytes_are : bytes ≡ fields_bytes done contents ++ other ∷ rest
  pub left_is : left ≡ length (other ∷ rest)
  pub differs : other ≢ next.letter

-- the bytes before the place begin a header whose next letter is due there, and another byte stands there
abbrev pub HasOtherLetterAt : List ℕ → ℕ → Type 0
HasOtherLetterAt bytes place =
    (after : List ℕ) × (bytes ≡ fixed_bytes ++ after) × (place ≤ length bytes) × HasOtherLetter header_fields after (length bytes - place)

-- what the fields of a header hold, by their letters: the design (a), the part (b), the date (c), the time (d), and (e)
-- how many bytes the header says that the data has
pub record HeaderContents : Type 0 where
  pub a : List ℕ
  pub b : List ℕ
  pub c : List ℕ
  pub d : List ℕ
  pub data_length : ℕ

-- the contents of a header's fields in their order
abbrev pub contents_in_order : HeaderContents → List (List ℕ)
contents_in_order x = x.a ∷ x.b ∷ x.c ∷ x.d ∷ bytes_of_word x.data_length ∷ []

-- the contents fit the fields of a header: four texts of at most 65,535 bytes, and a length of 32 bits
pub record FitHeaderFields (x : HeaderContents) : Type 0 where
  pub a : length x.a < 2 ^ 16
  pub b : length x.b < 2 ^ 16
  pub c : length x.c < 2 ^ 16
  pub d : length x.d < 2 ^ 16
  pub data_length : x.data_length < 2 ^ 32

-- the bytes of the header with these contents
abbrev pub header_bytes : HeaderContents → List ℕ
header_bytes x = fixed_bytes ++ fields_bytes header_fields (contents_in_order x)

-- the header with these contents and of this size stands at the beginning of the bytes
abbrev pub BeginsWith : HeaderContents → ℕ → List ℕ → Type 0
BeginsWith x size bytes = FitHeaderFields x × (bytes ≡ header_bytes x ++ drop size bytes) × (size ≡ length (header_bytes x))

-- the input ends inside a header: its fixed bytes are there, and some header begins with the whole input and goes on
pub record EndsInHeader (bytes : List ℕ) : Type 0 where
  pub header : HeaderContents
  pub after : List ℕ
  pub next : ℕ
  pub missing : List ℕ
  pub fit_header : FitHeaderFields header
  pub fixed_are : bytes ≡ fixed_bytes ++ after
  pub goes_on : header_bytes header ≡ bytes ++ next ∷ missing
  pub missing_are : AreBytes (next ∷ missing)

-- what a head holds, wherever it lies
abbrev pub contents_of : Head → HeaderContents
contents_of head = record { a = head.a.now; b = head.b.now; c = head.c.now; d = head.d.now; data_length = head.length }
