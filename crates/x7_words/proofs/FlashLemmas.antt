-- Lemmas on a flash's bytes and on what a write leaves of them, for the crates that write a flash.
use Rattle.std.proofs.Common.{◌≡◌, ℕ, zero, suc, ◌+◌, ◌-◌, ◌^◌, ◌<◌, ◌≤◌, ◌⊎◌, inl, inr, ⊎_elim, List, [], ◌∷◌, ◌++◌, length, get_or, take, drop, slice_range, refl, ap, sym, subst, ◌∙◌, arith, Result, Ok, Err, OnOk, OnErr, length-append, length-drop, take-append-drop, bit_and}
use Rattle.std.specs.Int.{bit_at}
use Rattle.std.proofs.lemmas.Bool.{cases_lt}
use Rattle.std.proofs.lemmas.List.{length-take-le, length-replicate, get_or_append_left, get_or-append_right, get_or-take, get_or-drop, get_or-replicate, ext_get_or}
use Rattle.std.proofs.lemmas.Nat.{and_mask}
use Rattle.std.proofs.lemmas.Nat.Bits.{bit_at_above, bit_at_and, bit_at_ones, bit_at_ones_above, bit_at-lt, same_from_bits}
use Rattle.x7_words.specs.Flash.{FlashState, OnlyReads, folded_sector_size, erased_sector, names_asked, replaced, cleared, zip_with, IsTorn}
use Rattle.x7_words.specs.FlashHistory.{CallsFor, attach_call}
use Rattle.x7_words.specs.declared.flash_call.FlashCall.{FlashCall}
use Rattle.x7_words.specs.declared.flash_call.FlashCall.TheVariants.{Attached, NotAttached, Read, ReadFailed, Erased, EraseFailed, Programmed, ProgramFailed}
use Rattle.x7_words.specs.declared.input.SelectFault.{SelectFault}
use Rattle.x7_words.specs.Word.{AreBytes}
use Rattle.x7_words.proofs.ListLemmas.{all_append, all_back, all_from_places, all_take}
use Rattle.x7_words.proofs.ZipLemmas.{length_zip_with}

pub folded_sector_size_is : folded_sector_size ≡ 65536
unfolding folded_sector_size
folded_sector_size_is = refl

pub length_erased_sector : length erased_sector ≡ 65536
length_erased_sector = length-replicate folded_sector_size 255 ∙ folded_sector_size_is

pub get_or_erased_sector : (i : ℕ) → i < 65536 → get_or erased_sector i 0 ≡ 255
get_or_erased_sector i h = get_or-replicate folded_sector_size i 255 0 (omega (arith, folded_sector_size_is))

pub length_slice_range : (all : List ℕ) (place count : ℕ) → place + count ≤ length all → length (slice_range all place (place + count)) ≡ count
length_slice_range all place count h =
    length-take-le (place + count - place) (drop place all) (omega (arith, length-drop place all)) ∙ omega arith

pub get_or_slice_range : (all : List ℕ) (place count i : ℕ) → i < count → get_or (slice_range all place (place + count)) i 0 ≡ get_or all (place + i) 0
get_or_slice_range all place count i h =
    get_or-take (place + count - place) (drop place all) i 0 (omega arith) ∙ get_or-drop place all i 0

-- a piece in the place of as many bytes
module _ (place : ℕ) (piece all : List ℕ) (within : place + length piece ≤ length all) where
  pub length_replaced : length (replaced place piece all) ≡ length all
  length_replaced =
      length-append (take place all) (piece ++ drop (place + length piece) all)
      ∙ omega (arith, length-append piece (drop (place + length piece) all), length-take-le place all (omega arith), length-drop (place + length piece) all)

  pub get_or_replaced_below : (i : ℕ) → i < place → get_or (replaced place piece all) i 0 ≡ get_or all i 0
  get_or_replaced_below i h =
      get_or_append_left (take place all) (piece ++ drop (place + length piece) all) 0 i (omega (arith, length-take-le place all (omega arith)))
      ∙ get_or-take place all i 0 h

  pub get_or_replaced_inside : (i : ℕ) → i < length piece → get_or (replaced place piece all) (place + i) 0 ≡ get_or piece i 0
  get_or_replaced_inside i h =
      get_or-append_right (take place all) (piece ++ drop (place + length piece) all) place (place + i) 0 (length-take-le place all (omega arith)) (omega arith)
      ∙ ap (λ k. get_or (piece ++ drop (place + length piece) all) k 0) back
      ∙ get_or_append_left piece (drop (place + length piece) all) 0 i h
    where
      back : place + i - place ≡ i
      back = omega arith

  pub get_or_replaced_above : (i : ℕ) → place + length piece ≤ i → get_or (replaced place piece all) i 0 ≡ get_or all i 0
  get_or_replaced_above i h =
      get_or-append_right (take place all) (piece ++ drop (place + length piece) all) place i 0 (length-take-le place all (omega arith)) (omega arith)
      ∙ get_or-append_right piece (drop (place + length piece) all) (length piece) (i - place) 0 refl (omega arith)
      ∙ get_or-drop (place + length piece) all (i - place - length piece) 0
      ∙ ap (λ k. get_or all k 0) back
    where
      back : place + length piece + (i - place - length piece) ≡ i
      back = omega arith

  pub get_or_replaced_outside : (i : ℕ) → (i < place) ⊎ (place + length piece ≤ i) → get_or (replaced place piece all) i 0 ≡ get_or all i 0
  get_or_replaced_outside i (inl h) = get_or_replaced_below i h
  get_or_replaced_outside i (inr h) = get_or_replaced_above i h

-- the old bytes put back
pub replaced_back : (place : ℕ) (piece all : List ℕ) → place + length piece ≤ length all → replaced place (slice_range all place (place + length piece)) (replaced place piece all) ≡ all
replaced_back place piece all within = ext_get_or 0 (replaced place old now) all (length_replaced place old now fits ∙ length_now) each
  where
    old : List ℕ
    old = slice_range all place (place + length piece)

    length_old : length old ≡ length piece
    length_old = length_slice_range all place (length piece) within

    now : List ℕ
    now = replaced place piece all

    length_now : length now ≡ length all
    length_now = length_replaced place piece all within

    fits : place + length old ≤ length now
    fits = omega (arith, length_old, length_now, within)

    each : (i : ℕ) → i < length (replaced place old now) → get_or (replaced place old now) i 0 ≡ get_or all i 0
    each i h = elim (cases_lt i place) [
      | inl below ↦ get_or_replaced_below place old now fits i below ∙ get_or_replaced_below place piece all within i below
      | inr from ↦ elim (cases_lt i (place + length piece)) [
        | inl to ↦
            let k = i - place in
            let at : place + k ≡ i = omega arith in
            ap (λ n. get_or (replaced place old now) n 0) (sym at)
            ∙ get_or_replaced_inside place old now fits k (omega (arith, length_old, at))
            ∙ get_or_slice_range all place (length piece) k (omega (arith, at))
            ∙ ap (λ n. get_or all n 0) at
        | inr above ↦ get_or_replaced_above place old now fits i (omega (arith, length_old, above)) ∙ get_or_replaced_above place piece all within i above
      ]
    ]

pub length_cleared : (place : ℕ) (given all : List ℕ) → place + length given ≤ length all → length (cleared place given all) ≡ length given
length_cleared place given all within = length_zip_with bit_and (slice_range all place (place + length given)) given (length_slice_range all place (length given) within)

-- the old bytes may be found within a write
pub old_is_torn : (place : ℕ) (target old : List ℕ) → IsTorn place target old old
old_is_torn place target old = record { size = refl; outside = λ i h. refl; inside = λ i bit h. inl refl }

-- the bytes with the target in its range may be found within a write
pub target_is_torn : (place : ℕ) (target old : List ℕ) → place + length target ≤ length old → IsTorn place target old (replaced place target old)
target_is_torn place target old within = record {
  size = length_replaced place target old within;
  outside = λ i h. get_or_replaced_outside place target old within i h;
  inside = λ i bit h. inr (ap (λ v. bit_at v bit) (get_or_replaced_inside place target old within i h));
}

-- ---- bytes

-- a number of a list of bytes, or the 0 past its end, is a byte
pub byte_at : (bytes : List ℕ) (i : ℕ) → AreBytes bytes → get_or bytes i 0 < 256
byte_at [] i h = omega arith
byte_at (b ∷ bytes) zero h = h.0
byte_at (b ∷ bytes) (suc i) h = byte_at bytes i h.1

-- a number whose bits from bit 8 up are 0 is a byte
pub byte_of_bits : (n : ℕ) → ((bit : ℕ) → 8 ≤ bit → bit_at n bit ≡ 0) → n < 256
byte_of_bits n none = let masked = same_from_bits n (bit_and n (2 ^ 8 - 1)) each in omega (arith, masked, and_mask n 8)
  where
    each : (bit : ℕ) → bit_at n bit ≡ bit_at (bit_and n (2 ^ 8 - 1)) bit
    each bit = elim (cases_lt bit 8) [
      | inl low ↦ omega (arith, bit_at_and n (2 ^ 8 - 1) bit, bit_at_ones 8 bit low, bit_at-lt n bit)
      | inr high ↦ omega (arith, none bit high, bit_at_and n (2 ^ 8 - 1) bit, bit_at_ones_above 8 bit high)
    ]

-- of bytes that are written with bytes a write leaves bytes
pub torn_bytes : (place : ℕ) (target old found : List ℕ) → AreBytes target → AreBytes old → IsTorn place target old found → AreBytes found
torn_bytes place target old found t o torn = all_from_places (λ b. b < 256) found (λ i h. each i)
  where
    inside : (k : ℕ) → k < length target → get_or found (place + k) 0 < 256
    inside k h =
        byte_of_bits (get_or found (place + k) 0) (λ bit high. ⊎_elim
        (λ e. e ∙ bit_at_above (get_or old (place + k) 0) 8 bit (byte_at old (place + k) o) high)
        (λ e. e ∙ bit_at_above (get_or target k 0) 8 bit (byte_at target k t) high)
        (torn.inside k bit h))

    each : (i : ℕ) → get_or found i 0 < 256
    each i = elim (cases_lt i place) [
      | inl below ↦ omega (arith, torn.outside i (inl below), byte_at old i o)
      | inr from ↦ elim (cases_lt i (place + length target)) [
        | inl to ↦ let at : place + (i - place) ≡ i = omega arith in subst (λ n. get_or found n 0 < 256) at (inside (i - place) (omega arith))
        | inr above ↦ omega (arith, torn.outside i (inr above), byte_at old i o)
      ]
    ]

pub bytes_erased_sector : AreBytes erased_sector
bytes_erased_sector = all_from_places (λ b. b < 256) erased_sector (λ i h. omega (arith, get_or_erased_sector i (omega (arith, h, length_erased_sector))))

bytes_and : (xs ys : List ℕ) → AreBytes ys → AreBytes (zip_with bit_and xs ys)
bytes_and [] ys h = tt
bytes_and (x ∷ xs) [] h = tt
bytes_and (x ∷ xs) (y ∷ ys) h = (byte_of_bits (bit_and x y) (λ bit high. omega (arith, bit_at_and x y bit, bit_at_above y 8 bit h.0 high)), bytes_and xs ys h.1)

pub bytes_cleared : (place : ℕ) (given all : List ℕ) → AreBytes given → AreBytes (cleared place given all)
bytes_cleared place given all h = bytes_and (slice_range all place (place + length given)) given h

pub bytes_drop : (n : ℕ) (bytes : List ℕ) → AreBytes bytes → AreBytes (drop n bytes)
bytes_drop n bytes h = all_back (λ b. b < 256) (take n bytes) (drop n bytes) (subst AreBytes (sym (take-append-drop n bytes)) h)

pub bytes_replaced : (place : ℕ) (piece all : List ℕ) → AreBytes piece → AreBytes all → AreBytes (replaced place piece all)
bytes_replaced place piece all p h =
    all_append (λ b. b < 256) (take place all) (piece ++ drop (place + length piece) all) (all_take (λ b. b < 256) place all h)
    (all_append (λ b. b < 256) piece (drop (place + length piece) all) p (bytes_drop (place + length piece) all h))

-- ---- calls that only read

-- where nothing was read, nothing changed
pub reads_at : (s : FlashState) → OnlyReads s s
reads_at s = record { bytes = refl; extent = refl; attached = refl; names = refl; faults = omega arith; absences = refl; write_faults = refl }

-- one read and then another
pub reads_on : (a b c : FlashState) → OnlyReads a b → OnlyReads b c → OnlyReads a c
reads_on a b c p q = record {
  bytes = q.bytes ∙ p.bytes;
  extent = q.extent ∙ p.extent;
  attached = q.attached ∙ p.attached;
  names = q.names ∙ p.names;
  faults = omega (arith, p.faults, q.faults);
  absences = q.absences ∙ p.absences;
  write_faults = q.write_faults ∙ p.write_faults;
}

-- ---- the names that calls ask for

-- a call that attaches nothing asks for no name
pub asks_none : (calls : List FlashCall) (call : FlashCall) → names_asked (call ∷ []) ≡ [] → names_asked (calls ++ call ∷ []) ≡ names_asked calls
asks_none [] call none = none
asks_none (Attached name size ∷ calls) call none = ap (λ names. name ∷ names) (asks_none calls call none)
asks_none (NotAttached name fault ∷ calls) call none = ap (λ names. name ∷ names) (asks_none calls call none)
asks_none (Read place bytes ∷ calls) call none = asks_none calls call none
asks_none (ReadFailed place count ∷ calls) call none = asks_none calls call none
asks_none (Erased sector ∷ calls) call none = asks_none calls call none
asks_none (EraseFailed sector ∷ calls) call none = asks_none calls call none
asks_none (Programmed place given ∷ calls) call none = asks_none calls call none
asks_none (ProgramFailed place given ∷ calls) call none = asks_none calls call none

-- an attach asks for its name
pub asks_name : (calls : List FlashCall) (name : List ℕ) (size : ℕ) (answer : Result (Unit {0}) SelectFault) → names_asked (calls ++ attach_call name size answer ∷ []) ≡ names_asked calls ++ name ∷ []
asks_name [] name size (Ok done) = refl
asks_name [] name size (Err fault) = refl
asks_name (Attached other count ∷ calls) name size answer = ap (λ names. other ∷ names) (asks_name calls name size answer)
asks_name (NotAttached other fault ∷ calls) name size answer = ap (λ names. other ∷ names) (asks_name calls name size answer)
asks_name (Read place bytes ∷ calls) name size answer = asks_name calls name size answer
asks_name (ReadFailed place count ∷ calls) name size answer = asks_name calls name size answer
asks_name (Erased sector ∷ calls) name size answer = asks_name calls name size answer
asks_name (EraseFailed sector ∷ calls) name size answer = asks_name calls name size answer
asks_name (Programmed place given ∷ calls) name size answer = asks_name calls name size answer
asks_name (ProgramFailed place given ∷ calls) name size answer = asks_name calls name size answer

-- a call that attaches nothing, whatever it answers, asks for no name
pub answer_asks_none : {A E : Type 0} → (answer : Result A E) (done failed : FlashCall) (old new : FlashState) → names_asked (done ∷ []) ≡ [] → names_asked (failed ∷ []) ≡ []
    → OnOk answer (CallsFor done old new) → OnErr answer (CallsFor failed old new) → names_asked new.calls ≡ names_asked old.calls
answer_asks_none (Ok value) done failed old new d f is none = ap (λ h. names_asked h.calls) is ∙ asks_none old.calls done d
answer_asks_none (Err error) done failed old new d f none is = ap (λ h. names_asked h.calls) is ∙ asks_none old.calls failed f
