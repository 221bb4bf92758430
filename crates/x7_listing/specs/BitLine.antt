-- The line of a `.bit` header (this project's choice).
use Rattle.std.specs.Prelude.{◌≡◌, ◌≢◌, ℕ, ◌<◌, ◌^◌, ◌==◌, Bool, true, false, if◌then◌else◌, List, [], ◌∷◌, ◌++◌, length, slice_index, codes, decimal}
use Rattle.std.specs.List.{flat_map}
use Rattle.x7_words.specs.Word.{AreBytes}
use Rattle.x7_header.specs.Header.{HeaderContents, FitHeaderFields, header_bytes}
use Rattle.x7_text.specs.Digits.{hex_byte}
use Rattle.x7_words.specs.Characters.{space_byte}

-- the text of a header's field: two hex digits for each byte, or `-` where it holds nothing
abbrev pub field_text : List ℕ → List ℕ
field_text [] = codes "-"
field_text (x ∷ xs) = flat_map hex_byte (x ∷ xs)

-- a line as a header has it, without its end: four texts, and the length of the data in bytes
abbrev pub bit_line : List ℕ → List ℕ → List ℕ → List ℕ → ℕ → List ℕ
bit_line a b c d data_length =
    codes "bit " ++ (a ++ space_byte ∷ (b ++ space_byte ∷ (c ++ space_byte ∷ (d ++ space_byte ∷ decimal data_length))))

-- the text of a header's line, without its end: the four fields and the length of the data in bytes
abbrev pub bit_text : HeaderContents → List ℕ
bit_text x = bit_line (field_text x.a) (field_text x.b) (field_text x.c) (field_text x.d) x.data_length

-- a header can hold these contents: each field is of bytes, as many as its length can say, and the length of the data
-- is a number of 32 bits
pub record FitsHeader (x : HeaderContents) : Type 0 where
  pub fields_fit : FitHeaderFields x
  pub a : AreBytes x.a
  pub b : AreBytes x.b
  pub c : AreBytes x.c
  pub d : AreBytes x.d

-- a field of a header can hold these bytes: fewer than 65,536
pub record IsField (field : List ℕ) : Type 0 where
  pub bytes : AreBytes field
  pub short : length field < 2 ^ 16

-- the text is that of this field
abbrev pub IsTextOfField : List ℕ → List ℕ → Type 0
IsTextOfField text field = IsField field × (text ≡ field_text field)

-- the texts are those of these two fields
abbrev pub AreTextsOfFields : List ℕ → List ℕ → List ℕ → List ℕ → Type 0
AreTextsOfFields text other a b = IsTextOfField text a × IsTextOfField other b

-- one of the texts is no field's
abbrev pub AreNoTwoFields : List ℕ → List ℕ → Type 0
AreNoTwoFields text other = (a b : List ℕ) → IsField a → IsField b → text ≡ field_text a → other ≢ field_text b

-- `bytes` are those of a header whose line is `line`
pub record IsHeaderOf (line bytes : List ℕ) : Type 0 where
  pub header : HeaderContents
  pub fits : FitsHeader header
  pub text : line ≡ bit_text header
  pub bytes_are : bytes ≡ header_bytes header

-- no byte of the text is a space
abbrev pub has_no_space : List ℕ → Bool
has_no_space [] = true
has_no_space (c ∷ cs) = if c == space_byte then false else has_no_space cs

-- the first space stands at this place
abbrev pub IsFirstSpace : List ℕ → ℕ → Type 0
IsFirstSpace text at = (at < length text) × (slice_index text at ≡ space_byte) × ((j : ℕ) → j < at → slice_index text j ≢ space_byte)

-- `text` is what stands before the first space of `all`, and `rest` what stands after it
pub record IsCutAtSpace (all text rest : List ℕ) : Type 0 where
  pub parts : all ≡ text ++ space_byte ∷ rest
  pub free : has_no_space text ≡ true

-- `line` is a header's line with these texts, none of which has a space, and this length, a number of 32 bits
pub record IsBitLine (line a b c d : List ℕ) (data_length : ℕ) : Type 0 where
  pub line_is : line ≡ bit_line a b c d data_length
  pub free_a : has_no_space a ≡ true
  pub free_b : has_no_space b ≡ true
  pub free_c : has_no_space c ≡ true
  pub free_d : has_no_space d ≡ true
  pub is_word : data_length < 2 ^ 32
