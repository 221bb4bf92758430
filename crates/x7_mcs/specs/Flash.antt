-- The flash bytes that a text gives (Intel HEX; the order of faults is this project's choice). Lines count from 1.
use Rattle.std.specs.Prelude.{ℕ, ◌+◌, ◌==◌, Bool, true, false, if◌then◌else◌, List, [], ◌∷◌, Option, None, Some, Result, Ok, Err}
use Rattle.x7_words.specs.Characters.{colon_byte}
use Rattle.x7_mcs.specs.declared.fault.McsFault.{McsFault}
use Rattle.x7_mcs.specs.declared.fault.McsFault.TheVariants as fault
use Rattle.x7_mcs.specs.declared.record.Meaning.{Meaning}
use Rattle.x7_mcs.specs.declared.record.Meaning.TheVariants as meaning
use Rattle.x7_mcs.specs.Lines.{lines_of}
use Rattle.x7_mcs.specs.Record.{record_data, meaning_of, bytes_of_pairs}
use Rattle.x7_mcs.specs.DataRecords.{DataRecord, records_image, with_record}

-- what lines give: the base that stands, in bytes, whether a record 01 stood, and the data records, the last first
pub record FlashReading : Type 0 where
  pub base : ℕ
  pub has_ended : Bool
  pub records : List DataRecord

-- what lines give, by its parts
abbrev pub mcs_reading : ℕ → Bool → List DataRecord → FlashReading
mcs_reading base has_ended records = record { base = base; has_ended = has_ended; records = records }

-- what a text gives before its first line: base 0 and no record
abbrev pub of_no_line : FlashReading
of_no_line = mcs_reading 0 false []

-- a reading with other records, or the fault in their place
abbrev pub with_records : FlashReading → Result (List DataRecord) McsFault → Result FlashReading McsFault
with_records r (Ok xs) = Ok (mcs_reading r.base r.has_ended xs)
with_records r (Err f) = Err f

-- what lines give with the data of line n at an address, which counts from the base that stands
abbrev pub after_data : ℕ → FlashReading → ℕ → List ℕ → Result FlashReading McsFault
after_data n r address content = with_records r (with_record n r.records (record { place = r.base + address; bytes = content }))

-- what lines give with the record of line n, which has these bytes and says this
abbrev pub after_meaning : ℕ → FlashReading → List ℕ → Result Meaning McsFault → Result FlashReading McsFault
after_meaning n r bs (Err f) = Err f
after_meaning n r bs (Ok meaning.Start) = Ok r
after_meaning n r bs (Ok meaning.End) = Ok (mcs_reading r.base true r.records)
after_meaning n r bs (Ok (meaning.Base base)) = Ok (mcs_reading base r.has_ended r.records)
after_meaning n r bs (Ok (meaning.Data address)) = after_data n r address (record_data bs)

-- what lines give with the record of line n, whose digits may be no pairs
abbrev pub after_bytes : ℕ → FlashReading → Option (List ℕ) → Result FlashReading McsFault
after_bytes n r None = Err (fault.Line n)
after_bytes n r (Some bs) = after_meaning n r bs (meaning_of n r.has_ended bs)

-- what lines give with line n: an empty line means nothing, and any other is `:` and pairs of digits
abbrev pub after_line : ℕ → FlashReading → List ℕ → Result FlashReading McsFault
after_line n r [] = Ok r
after_line n r (c ∷ cs) = if c == colon_byte then after_bytes n r (bytes_of_pairs cs) else Err (fault.Line n)

-- what comes after a reading, or the reading's fault: the first fault stays
abbrev pub and_then : Result FlashReading McsFault → (FlashReading → Result FlashReading McsFault) → Result FlashReading McsFault
and_then (Err f) more = Err f
and_then (Ok r) more = more r

-- what lines give with more of them from line n on, or the first bad line's fault
abbrev pub after_lines : ℕ → FlashReading → List (List ℕ) → Result FlashReading McsFault
after_lines n r [] = Ok r
after_lines n r (t ∷ ts) = and_then (after_line n r t) (λ s. after_lines (n + 1) s ts)

-- what the lines of a text gave, or their fault, or `NoEnd` where no record 01 was among them
abbrev pub with_end : Result FlashReading McsFault → Result FlashReading McsFault
with_end (Err f) = Err f
with_end (Ok r) = if r.has_ended then Ok r else Err fault.NoEnd

-- what a text gives, or its first bad line's fault, or `NoEnd`
abbrev pub flash_reading : List ℕ → Result FlashReading McsFault
flash_reading text = with_end (after_lines 1 of_no_line (lines_of text))

-- the flash bytes of a reading's records, or the reading's fault
abbrev pub flash_in : Result FlashReading McsFault → Result (List ℕ) McsFault
flash_in (Err f) = Err f
flash_in (Ok r) = Ok (records_image r.records)

-- the flash bytes of a text, or its fault
abbrev pub mcs_of : List ℕ → Result (List ℕ) McsFault
mcs_of text = flash_in (flash_reading text)
