-- What a statement of words alone says (this project's profile of SVF).
use Rattle.std.specs.Prelude.{ℕ, ◌==◌, ◌||◌, ◌&&◌, not, nat_le, nat_lt, Bool, true, if◌then◌else◌, List, [], ◌∷◌, Option, Some, None, codes, length}
use Rattle.std.specs.List.{list_all}
use Rattle.std.specs.Str.{str_eq_ignore_ascii_case}
use Rattle.std.specs.Str.Parse.{digits_value}
use Rattle.x7_words.specs.Characters.{exponent_byte, is_decimal_digit, minus_byte, plus_byte, point_byte, return_byte}
use Rattle.x7_svf.specs.Token.{Token, Word, Open, Close, End}
use Rattle.x7_svf.specs.declared.statement.Statement.{Statement}
use Rattle.x7_svf.specs.declared.statement.Statement.TheVariants as statement

-- the word is this keyword, in either case
abbrev pub is_keyword : List ℕ → List ℕ → Bool
is_keyword word key = str_eq_ignore_ascii_case word key

-- the number of a word of decimal digits, one at least and leading zeros allowed, where it is within a limit
abbrev pub number_within : ℕ → List ℕ → Option ℕ
number_within limit word = if nat_lt 0 (length word) && list_all is_decimal_digit word && nat_le (digits_value 10 word) limit then Some (digits_value 10 word) else None

-- the most clocks of a RUNTEST: 2^24
abbrev pub most_idle_clocks : ℕ
most_idle_clocks = 16777216

-- a byte that may stand in a time: a digit, `.`, `E`, `+` or `-`
abbrev pub is_time_byte : ℕ → Bool
is_time_byte byte = is_decimal_digit byte || byte == point_byte || byte == exponent_byte || byte == plus_byte || byte == minus_byte

-- a word of a time, one byte at least
abbrev pub is_time : List ℕ → Bool
is_time word = nat_lt 0 (length word) && list_all is_time_byte word

-- a byte that a word without meaning may hold: any but 0D
abbrev pub is_free_byte : ℕ → Bool
is_free_byte byte = not (byte == return_byte)

-- a word without 0D
abbrev pub is_free_word : List ℕ → Bool
is_free_word word = list_all is_free_byte word

-- a word before others, if these are words
abbrev pub word_before : List ℕ → Option (List (List ℕ)) → Option (List (List ℕ))
word_before word None = None
word_before word (Some words) = Some (word ∷ words)

-- the words of tokens, where there is no bracket among them
abbrev pub words_of : List Token → Option (List (List ℕ))
words_of [] = Some []
words_of (Word word ∷ ts) = word_before word (words_of ts)
words_of (Open ∷ ts) = None
words_of (Close ∷ ts) = None
words_of (End ∷ ts) = None

-- a statement, where the condition is met
abbrev pub some_if : Bool → Statement → Option Statement
some_if is_met said = if is_met then Some said else None

-- this number of idle clocks, if there is a number
abbrev pub idle_clocks_by : Option ℕ → Option Statement
idle_clocks_by None = None
idle_clocks_by (Some count) = Some (statement.IdleClocks count)

-- as many idle clocks as the digits say, where the condition is met and they are a decimal number of 2^24 at most
abbrev pub idle_clocks_if : Bool → List ℕ → Option Statement
idle_clocks_if is_met digits = if is_met then idle_clocks_by (number_within most_idle_clocks digits) else None

-- the statement of the words after STATE
abbrev pub state_statement : List (List ℕ) → Option Statement
state_statement (word ∷ []) = if is_keyword word (codes "RESET") then Some statement.Reset else some_if (is_keyword word (codes "IDLE")) statement.Idle
state_statement _ = None

-- the statement of the words after RUNTEST
abbrev pub runtest_statement : List (List ℕ) → Option Statement
runtest_statement (count ∷ unit ∷ []) =
    if is_keyword unit (codes "TCK") then idle_clocks_by (number_within most_idle_clocks count) else some_if (is_keyword unit (codes "SEC") && is_time count) statement.Nothing
runtest_statement (state ∷ count ∷ unit ∷ []) = idle_clocks_if (is_keyword state (codes "IDLE") && is_keyword unit (codes "TCK")) count
runtest_statement (count ∷ unit ∷ time ∷ second ∷ []) = idle_clocks_if (is_keyword unit (codes "TCK") && is_time time && is_keyword second (codes "SEC")) count
runtest_statement _ = None

-- the statement of the words after ENDIR or ENDDR: IDLE alone
abbrev pub end_state_statement : List (List ℕ) → Option Statement
end_state_statement (word ∷ []) = some_if (is_keyword word (codes "IDLE")) statement.Nothing
end_state_statement _ = None

-- the statement of the words after HIR, HDR, TIR or TDR, the bits of other devices in the chain: 0 alone, as no other
-- device stands in the chain
abbrev pub chain_statement : List (List ℕ) → Option Statement
chain_statement (word ∷ []) = some_if (is_keyword word (codes "0")) statement.Nothing
chain_statement _ = None

-- the statement of the words after TRST
abbrev pub trst_statement : List (List ℕ) → Option Statement
trst_statement (word ∷ []) = some_if (is_free_word word) statement.Nothing
trst_statement _ = None

-- the statement of a keyword and the words after it
abbrev pub statement_of_words : List ℕ → List (List ℕ) → Option Statement
statement_of_words key words =
    if is_keyword key (codes "STATE") then state_statement words
    else (if is_keyword key (codes "RUNTEST") then runtest_statement words
    else (if is_keyword key (codes "ENDIR") || is_keyword key (codes "ENDDR") then end_state_statement words
    else (if is_keyword key (codes "HIR") || is_keyword key (codes "HDR") || is_keyword key (codes "TIR") || is_keyword key (codes "TDR") then chain_statement words
    else (if is_keyword key (codes "TRST") then trst_statement words else None))))

-- the statement of a keyword and the tokens after it, where these are words
abbrev pub statement_if_words : List ℕ → Option (List (List ℕ)) → Option Statement
statement_if_words key None = None
statement_if_words key (Some words) = statement_of_words key words

-- a token that is a word without 0D, or no word
abbrev pub is_free_token : Token → Bool
is_free_token (Word word) = is_free_word word
is_free_token _ = true
