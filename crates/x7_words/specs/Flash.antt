-- A flash's bytes, which may be known or not, and what a write does to them (this project's choice).
-- A file's bytes are not known: no clause says what a file of the system holds. Those of a flash in memory are known.
use Rattle.std.specs.Prelude.{◌≡◌, ◌≤◌, ◌<◌, ◌^◌, ◌+◌, ◌*◌, ◌⊎◌, ℕ, Bool, List, [], ◌∷◌, length, get_or, replicate, slice_range, bit_and, Option, None, Some}
use Rattle.std.specs.Int.{bit_at}
use Rattle.std.specs.List.{splice}
use Rattle.x7_words.specs.Count.{HasRisen}
use Rattle.x7_words.specs.Word.{AreBytes}
use Rattle.x7_words.specs.declared.flash_call.FlashCall.{FlashCall}
use Rattle.x7_words.specs.declared.flash_call.FlashCall.TheVariants.{Attached, NotAttached}
use Rattle.x7_words.specs.declared.input.SelectFault.{SelectFault}
use Rattle.x7_words.specs.declared.input.SelectFault.TheVariants.{Missing, Failed}

-- how many bytes a sector has, which one erase sets to FF
abbrev pub sector_size : ℕ
sector_size = 65536

-- `sector_size`, as a number that unfolds only where a proof says so: else a check would count out an erased sector
unfoldable pub folded_sector_size : ℕ
folded_sector_size = sector_size

-- what an erase sets each byte to
abbrev pub erased_byte : ℕ
erased_byte = 0xFF

-- the place, in bytes, at which the sector of this number begins; sectors count from 0
abbrev pub sector_place : ℕ → ℕ
sector_place sector = sector * sector_size

-- the most bytes of a flash: 128 MiB
abbrev pub flash_limit : ℕ
flash_limit = 134217728

-- what a flash has come to
pub record FlashState : Type 0 where
  -- the flash's bytes, where they are known
  pub bytes : Option (List ℕ)
  -- the number of the flash's bytes, known or not
  pub extent : ℕ
  -- whether the flash is attached
  pub attached : Bool
  -- how often an attach or a read has failed
  pub faults : ℕ
  -- how often the name was missing
  pub absences : ℕ
  -- how often an erase or a program has failed
  pub write_faults : ℕ
  -- the calls so far with their answers, the newest last
  pub calls : List FlashCall

-- `P` holds of the bytes, where they are known
abbrev pub IfKnown : Option (List ℕ) → (List ℕ → Type 0) → Type 0
IfKnown None P = Unit {0}
IfKnown (Some bytes) P = P bytes

-- the extent is the number of bytes, where they are known
abbrev pub ExtentIsLength : FlashState → Type 0
ExtentIsLength state = IfKnown state.bytes (λ all. state.extent ≡ length all)

-- where a flash's contents are known, each of their numbers is a byte
abbrev pub KnownAreBytes : FlashState → Type 0
KnownAreBytes state = IfKnown state.bytes AreBytes

-- ---- attaching and reading

-- the names under which a flash was asked for by these calls, the newest last
abbrev pub names_asked : List FlashCall → List (List ℕ)
names_asked [] = []
names_asked (Attached name size ∷ calls) = name ∷ names_asked calls
names_asked (NotAttached name fault ∷ calls) = name ∷ names_asked calls
names_asked (call ∷ calls) = names_asked calls

-- the bytes stay, no write failed, and the counts of faults and of absences do not fall
pub record KeepsBytes (old new : FlashState) : Type 0 where
  pub bytes : new.bytes ≡ old.bytes
  pub faults : old.faults ≤ new.faults
  pub absences : old.absences ≤ new.absences
  pub write_faults : new.write_faults ≡ old.write_faults

-- nothing changed but the calls and the count of faults, which does not fall; and the flash was asked for no name
pub record OnlyReads (old new : FlashState) : Type 0 where
  pub bytes : new.bytes ≡ old.bytes
  pub extent : new.extent ≡ old.extent
  pub attached : new.attached ≡ old.attached
  pub names : names_asked new.calls ≡ names_asked old.calls
  pub faults : old.faults ≤ new.faults
  pub absences : new.absences ≡ old.absences
  pub write_faults : new.write_faults ≡ old.write_faults

-- the counts of faults and of absences fit a u64
abbrev pub FlashCountsFit : FlashState → Type 0
FlashCountsFit state = (state.faults < 2 ^ 64) × (state.absences < 2 ^ 64)

-- the flash failed: its count of faults has risen
abbrev pub FlashFails : FlashState → FlashState → Type 0
FlashFails old new = HasRisen old.faults new.faults

-- why a flash was not attached: its name is missing, or the flash failed; the count of absences, or of faults, has
-- risen
abbrev pub FlashRefuses : FlashState → FlashState → SelectFault → Type 0
FlashRefuses old new Missing = HasRisen old.absences new.absences
FlashRefuses old new Failed = FlashFails old new

-- ---- writing

-- a sector with each bit 1
abbrev pub erased_sector : List ℕ
erased_sector = replicate folded_sector_size erased_byte

-- the bytes, of which those from the place on are replaced by as many of the piece
abbrev pub replaced : ℕ → List ℕ → List ℕ → List ℕ
replaced place piece bytes = splice bytes place (place + length piece) piece

-- the bytes after an erase of this sector: each of its bits is 1
abbrev pub erased : ℕ → List ℕ → List ℕ
erased sector bytes = replaced (sector_place sector) erased_sector bytes

-- the values of a function at the pairs of two lists, as many as the shorter one has
abbrev pub zip_with : (ℕ → ℕ → ℕ) → List ℕ → List ℕ → List ℕ
zip_with f [] ys = []
zip_with f (x ∷ xs) [] = []
zip_with f (x ∷ xs) (y ∷ ys) = f x y ∷ zip_with f xs ys

-- what a program of the given bytes brings to its range: each byte the old one AND the given one, so that a bit can be
-- made 0, but not 1
abbrev pub cleared : ℕ → List ℕ → List ℕ → List ℕ
cleared place given bytes = zip_with bit_and (slice_range bytes place (place + length given)) given

-- the bytes after a program of the given ones at the place
abbrev pub programmed : ℕ → List ℕ → List ℕ → List ℕ
programmed place given bytes = replaced place (cleared place given bytes) bytes

-- What may be found within a write of the target at the place: each bit of the write's range is the old one or the
-- target's, and all else is old. So bytes stay bytes, where the target is of bytes.
pub record IsTorn (place : ℕ) (target old found : List ℕ) : Type 0 where
  pub size : length found ≡ length old
  pub outside : (i : ℕ) → (i < place) ⊎ (place + length target ≤ i) → get_or found i 0 ≡ get_or old i 0
  pub inside : (i bit : ℕ) → i < length target →
      (bit_at (get_or found (place + i) 0) bit ≡ bit_at (get_or old (place + i) 0) bit)
      ⊎ (bit_at (get_or found (place + i) 0) bit ≡ bit_at (get_or target i 0) bit)

-- Bytes that are known stay so, and are then in this relation to what they were; bytes that aren't known still aren't.
abbrev pub BecomesBytes : (List ℕ → List ℕ → Type 0) → Option (List ℕ) → Option (List ℕ) → Type 0
BecomesBytes Relates None new = new ≡ None
BecomesBytes Relates (Some all) new = (now : List ℕ) × (new ≡ Some now) × Relates all now

-- after a write that failed the bytes, where they are known, are torn
abbrev pub TornFrom : ℕ → (List ℕ → List ℕ) → Option (List ℕ) → Option (List ℕ) → Type 0
TornFrom place target old new = BecomesBytes (λ all now. IsTorn place (target all) all now) old new

-- nothing changed but the bytes, the calls and the count of write faults, which does not fall; and the flash was asked for
-- no name
pub record OnlyWrites (old new : FlashState) : Type 0 where
  pub extent : new.extent ≡ old.extent
  pub attached : new.attached ≡ old.attached
  pub names : names_asked new.calls ≡ names_asked old.calls
  pub faults : new.faults ≡ old.faults
  pub absences : new.absences ≡ old.absences
  pub write_faults : old.write_faults ≤ new.write_faults

-- a write failed: the count of write faults has risen
abbrev pub WriteFails : FlashState → FlashState → Type 0
WriteFails old new = HasRisen old.write_faults new.write_faults
