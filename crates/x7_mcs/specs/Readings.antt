-- What a call does to an image and to a context: the base, and whether a record 01 has come (this project's choice).
use Rattle.std.specs.Prelude.{◌≡◌, ◌⊎◌, ℕ, List, ◌∷◌, Result, Ok, Err, MatchResult}
use Rattle.x7_mcs.specs.Flash.{FlashReading, after_meaning, mcs_reading}
use Rattle.x7_mcs.specs.DataRecords.{DataRecord, with_record}
use Rattle.x7_mcs.specs.Record.{meaning_of}
use Rattle.x7_mcs.specs.Image.{HoldsRecords}
use Rattle.x7_mcs.specs.declared.fault.McsFault.{McsFault}
use Rattle.x7_mcs.specs.declared.fault.McsFault.TheVariants as fault
use Rattle.x7_mcs.specs.declared.image.Image.{Image}
use Rattle.x7_mcs.specs.declared.step.Context.{Context}

-- the image has these records
abbrev pub ImageHolds : Image → List DataRecord → Type 0
ImageHolds image records = HoldsRecords records image.bytes.items image.marks.items

-- ---- a record's data

-- the data record of these bytes, from this place on
abbrev pub data_at : ℕ → List ℕ → DataRecord
data_at place bytes = record { place = place; bytes = bytes }

-- the record of line n may stand after these records, and the image has it beside them
abbrev pub IsRecordTaken : Image → ℕ → List DataRecord → DataRecord → Type 0
IsRecordTaken image n records r = (with_record n records r ≡ Ok (r ∷ records)) × ImageHolds image (r ∷ records)

-- the record of line n is refused with this fault, or memory is wanting for one that may stand after these records
abbrev pub IsRecordRefused : ℕ → List DataRecord → DataRecord → McsFault → Type 0
IsRecordRefused n records r f = ((f ≡ fault.NoMemory) × (with_record n records r ≡ Ok (r ∷ records))) ⊎ (with_record n records r ≡ Err f)

-- the record of line n was taken into the image, which had these records, or refused; or memory is wanting for it
abbrev pub TakesRecord : Result (Unit {0}) McsFault → Image → ℕ → List DataRecord → DataRecord → Type 0
TakesRecord result image n records r = MatchResult result (λ _. IsRecordTaken image n records r) (λ f. IsRecordRefused n records r f)

-- ---- the lines so far

-- what the lines so far gave: a context's base and whether a record 01 has come, and these records
abbrev pub flash_reading_at : Context → List DataRecord → FlashReading
flash_reading_at context records = mcs_reading context.base context.has_ended records

-- what lines give with the record of line n, by its bytes, after this context and these records
abbrev pub after_record : ℕ → Context → List DataRecord → List ℕ → Result FlashReading McsFault
after_record n context records bytes = after_meaning n (flash_reading_at context records) bytes (meaning_of n context.has_ended bytes)

-- a reading came to this context and to records that the image has
pub record CameTo (reading : Result FlashReading McsFault) (context : Context) (image : Image) : Type 0 where
  pub records : List DataRecord
  pub came : reading ≡ Ok (flash_reading_at context records)
  pub holds : ImageHolds image records

-- a reading has no fault
abbrev pub HasNoFault : Result FlashReading McsFault → Type 0
HasNoFault reading = (r : FlashReading) × (reading ≡ Ok r)

-- a call gave this fault for a reading: the reading's, or want of memory where the reading has no fault
abbrev pub FailsAsReading : Result FlashReading McsFault → McsFault → Type 0
FailsAsReading reading f = ((f ≡ fault.NoMemory) × HasNoFault reading) ⊎ (reading ≡ Err f)

-- a call came to what this reading comes to, and the image has its records; or it failed as `FailsAsReading` says
abbrev pub CallComesTo : Result Context McsFault → Result FlashReading McsFault → Image → Type 0
CallComesTo result reading image = MatchResult result (λ c. CameTo reading c image) (λ f. FailsAsReading reading f)
