-- Bytes by where they are saved: the fields of a scan, and words (this project's choice).
use Rattle.std.specs.Prelude.{◌≡◌, ◌≤◌, ℕ, ◌+◌, ⊤, List, [], ◌∷◌, length, take, drop, Option, Some, None}
use Rattle.x7_svf.specs.Fields.{ScanFields}
use Rattle.x7_svf.specs.Scanner.{ScanPlace, Between, Named, Inside, Scanning}
use Rattle.x7_svf.specs.declared.span.Span.{Span}
use Rattle.x7_svf.specs.declared.fields.ScannerPlace.{ScannerPlace}
use Rattle.x7_svf.specs.declared.fields.ScannerPlace.TheVariants as place
use Rattle.x7_svf.specs.declared.fields.FieldSpans.{FieldSpans}
use Rattle.x7_svf.specs.declared.fields.Scanner.{Scanner}
use Rattle.x7_svf.specs.declared.words.SavedWords.{SavedWords}
use Rattle.x7_svf.specs.declared.words.SavedWords.TheVariants as words

-- the bytes at a place among those saved
abbrev pub bytes_in : List ℕ → Span → List ℕ
bytes_in saved s = take s.count (drop s.from saved)

-- the digits of a field, if it has any
abbrev pub digits_if : List ℕ → Option Span → Option (List ℕ)
digits_if saved None = None
digits_if saved (Some s) = Some (bytes_in saved s)

-- the fields of a scan whose digits are saved
abbrev pub fields_of : List ℕ → FieldSpans → ScanFields
fields_of saved g = record { tdi = digits_if saved g.tdi; tdo = digits_if saved g.tdo; mask = digits_if saved g.mask; smask = digits_if saved g.smask }

-- the fields of a scan whose digits are saved; none where no scan goes on so
abbrev pub fields_if : List ℕ → Option FieldSpans → Option ScanFields
fields_if saved None = None
fields_if saved (Some g) = Some (fields_of saved g)

-- where a reader of a scan stands; inside brackets after the digits saved from a place on
abbrev pub scan_place_of : List ℕ → ScannerPlace → ScanPlace
scan_place_of saved place.Between = Between
scan_place_of saved (place.Named k) = Named k
scan_place_of saved (place.Inside k from) = Inside k (drop from saved)

-- where a reader of a scan stands, and the fields so far, if a scan goes on so
abbrev pub scanning_of : List ℕ → Option Scanner → Option Scanning
scanning_of saved None = None
scanning_of saved (Some s) = Some (record { at = scan_place_of saved s.place; fields = fields_of saved s.spans })

-- ---- what is saved stays

-- the bytes saved later begin with those saved before
abbrev pub StaysSaved : List ℕ → List ℕ → Type 0
StaysSaved prefix all = take (length prefix) all ≡ prefix

-- where the bytes of a span end among those saved
abbrev pub span_end : Span → ℕ
span_end s = s.from + s.count

-- where the digits of a field end, and 0 where it has none
abbrev pub span_end_if : Option Span → ℕ
span_end_if None = 0
span_end_if (Some s) = span_end s

-- the digits of all fields are among the first n bytes saved
abbrev pub AreWithin : ℕ → FieldSpans → Type 0
AreWithin n g = (span_end_if g.tdi ≤ n) × (span_end_if g.tdo ≤ n) × (span_end_if g.mask ≤ n) × (span_end_if g.smask ≤ n)

-- the digits of the open field, if there is one, begin among the first n bytes saved, or at their end
abbrev pub IsPlaceWithin : ℕ → ScannerPlace → Type 0
IsPlaceWithin n place.Between = ⊤
IsPlaceWithin n (place.Named k) = ⊤
IsPlaceWithin n (place.Inside k from) = from ≤ n

-- the digits of all fields are among the first n bytes saved, and those of the open field begin there, or at their
-- end
abbrev pub IsWithin : ℕ → Scanner → Type 0
IsWithin n s = IsPlaceWithin n s.place × AreWithin n s.spans

-- ---- words

-- the words at these places, in order
abbrev pub words_saved : List ℕ → SavedWords → List (List ℕ)
words_saved saved words.None = []
words_saved saved (words.One a) = bytes_in saved a ∷ []
words_saved saved (words.Two a b) = bytes_in saved a ∷ bytes_in saved b ∷ []
words_saved saved (words.Three a b c) = bytes_in saved a ∷ bytes_in saved b ∷ bytes_in saved c ∷ []
words_saved saved (words.Four a b c d) = bytes_in saved a ∷ bytes_in saved b ∷ bytes_in saved c ∷ bytes_in saved d ∷ []

-- the words are among the first n bytes saved
abbrev pub AreWordsWithin : ℕ → SavedWords → Type 0
AreWordsWithin n words.None = ⊤
AreWordsWithin n (words.One a) = span_end a ≤ n
AreWordsWithin n (words.Two a b) = (span_end a ≤ n) × (span_end b ≤ n)
AreWordsWithin n (words.Three a b c) = (span_end a ≤ n) × (span_end b ≤ n) × (span_end c ≤ n)
AreWordsWithin n (words.Four a b c d) = (span_end a ≤ n) × (span_end b ≤ n) × (span_end c ≤ n) × (span_end d ≤ n)
