-- Words of 32 bits, the bytes that they are read from, and their bit fields (UG470, bitstream loading).
use Rattle.std.specs.Prelude.{◌≡◌, ℕ, ◌+◌, ◌*◌, ◌/◌, ◌%◌, ◌^◌, ◌<◌, Bool, false, true, List, [], ◌∷◌, length}
use Rattle.std.specs.List.{AllByRecursion}

-- the word of four bytes, the first the highest; 0 for fewer bytes
abbrev pub word_of_bytes : List ℕ → ℕ
word_of_bytes [] = 0
word_of_bytes (a ∷ []) = 0
word_of_bytes (a ∷ b ∷ []) = 0
word_of_bytes (a ∷ b ∷ c ∷ []) = 0
word_of_bytes (a ∷ b ∷ c ∷ d ∷ _) = a * 2 ^ 24 + b * 2 ^ 16 + c * 2 ^ 8 + d

-- the four bytes of a word, the highest first
abbrev pub bytes_of_word : ℕ → List ℕ
bytes_of_word word = word / 2 ^ 24 % 256 ∷ word / 2 ^ 16 % 256 ∷ word / 2 ^ 8 % 256 ∷ word % 256 ∷ []

-- the words of whole groups of four bytes; a shorter rest is no word
abbrev pub words_of_bytes : List ℕ → List ℕ
words_of_bytes [] = []
words_of_bytes (a ∷ []) = []
words_of_bytes (a ∷ b ∷ []) = []
words_of_bytes (a ∷ b ∷ c ∷ []) = []
words_of_bytes (a ∷ b ∷ c ∷ d ∷ bs) = word_of_bytes (a ∷ b ∷ c ∷ d ∷ []) ∷ words_of_bytes bs

-- the bytes are those of whole words: their number is a multiple of four
abbrev pub AreWholeWords : List ℕ → Type 0
AreWholeWords bytes = length bytes % 4 ≡ 0

-- each number of the list is a byte
abbrev pub AreBytes : List ℕ → Type 0
AreBytes numbers = AllByRecursion (λ number. number < 256) numbers

-- each number of the list is a word of 32 bits
abbrev pub AreWords : List ℕ → Type 0
AreWords numbers = AllByRecursion (λ number. number < 2 ^ 32) numbers

-- the number in `width` bits of a word, from bit `low` up
abbrev pub field_of : ℕ → ℕ → ℕ → ℕ
field_of low width word = word / 2 ^ low % 2 ^ width

-- a bit as a number: 1 where it is set
abbrev pub number_of_bit : Bool → ℕ
number_of_bit false = 0
number_of_bit true = 1
