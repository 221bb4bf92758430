-- Lemmas on what steps have called: one step after another.
use Rattle.std.proofs.Common.{◌≡◌, ℕ, zero, suc, ◌+◌, ◌-◌, ◌<◌, ◌≤◌, Bool, true, false, List, [], ◌∷◌, ◌++◌, Result, Ok, Err, OnOk, OnErr, IfErr, length, get_or, slice_range, append_assoc, append-nil, refl, ap, sym, ◌∙◌, arith}
use Rattle.std.proofs.lemmas.List.{ext_get_or}
use Rattle.x7_words.specs.Flash.{sector_size, sector_place}
use Rattle.x7_words.proofs.FlashLemmas.{get_or_slice_range, length_slice_range}
use Rattle.x7_words.specs.declared.flash_call.FlashCall.{FlashCall}
use Rattle.x7_words.specs.declared.flash_call.FlashCall.TheVariants.{Read, Erased}
use Rattle.x7_update.specs.UpdateCalls.{erasing, reading, padded}
use Rattle.x7_words.specs.FlashHistory.{FlashHistory, with_calls}
use Rattle.x7_update.specs.Made.{Stops, Breaks}
use Rattle.x7_update.specs.Writing.{IsWrong, ReadsWanted, wanted_at}
use Rattle.x7_update.specs.declared.fault.UpdateFault.{UpdateFault}
use Rattle.x7_update.specs.declared.fault.UpdateFault.TheVariants.{Differs, Failed, NoLayout, NoMemory, TooLong}
use Rattle.x7_update.proofs.WearLemmas.{length_padded, padded_wanted}

-- ---- one step after another

abbrev history_of : List FlashCall → ℕ → Bool → FlashHistory
history_of calls size attached = record { calls = calls; size = size; attached = attached }

pub calls_none : (a : FlashHistory) → a ≡ with_calls a []
calls_none a = ap (λ l. history_of l a.size a.attached) (sym (append-nil a.calls))

pub calls_on : (xs ys : List FlashCall) (a b c : FlashHistory) → b ≡ with_calls a xs → c ≡ with_calls b ys → c ≡ with_calls a (xs ++ ys)
calls_on xs ys a b c p q = q ∙ ap (λ h. with_calls h ys) p ∙ ap (λ l. history_of l a.size a.attached) (append_assoc a.calls xs ys)

pub stops_on : (xs ys : List FlashCall) (a b c : FlashHistory) (fault : UpdateFault) → b ≡ with_calls a xs → Stops ys b c fault → Stops (xs ++ ys) a c fault
stops_on xs ys a b c fault p s = record {
  before = xs ++ s.before;
  next = s.next;
  after = s.after;
  is = ap (λ l. xs ++ l) s.is ∙ sym (append_assoc xs s.before (s.next ∷ s.after));
  call = s.call;
  made = calls_on xs (s.before ++ s.call ∷ []) a b c p s.made ∙ ap (λ l. with_calls a l) (sym (append_assoc xs s.before (s.call ∷ [])));
  breaks = s.breaks;
}

pub stops_more : (xs ys : List FlashCall) (a b : FlashHistory) (fault : UpdateFault) → Stops xs a b fault → Stops (xs ++ ys) a b fault
stops_more xs ys a b fault s = record {
  before = s.before;
  next = s.next;
  after = s.after ++ ys;
  is = ap (λ l. l ++ ys) s.is ∙ append_assoc s.before (s.next ∷ s.after) ys;
  call = s.call;
  made = s.made;
  breaks = s.breaks;
}

-- the first call of a plan ended it
pub stops_here : (next call : FlashCall) (after : List FlashCall) (a b : FlashHistory) (fault : UpdateFault) → b ≡ with_calls a (call ∷ []) → Breaks fault next call → Stops (next ∷ after) a b fault
stops_here next call after a b fault made breaks = record { before = []; next = next; after = after; is = refl; call = call; made = made; breaks = breaks }

-- ---- answers

pub on_err : {T E : Type 0} (P : Type 0) (answer : Result T E) → P → OnErr answer P
on_err P (Ok _) p = tt
on_err P (Err _) p = p

module _ {E : Type 0} (a b c : FlashHistory) (xs ys : List FlashCall) (before : b ≡ with_calls a xs) where
  pub ok_on : (answer : Result (Unit {0}) E) → OnOk answer (c ≡ with_calls b ys) → OnOk answer (c ≡ with_calls a (xs ++ ys))
  ok_on (Ok _) q = calls_on xs ys a b c before q
  ok_on (Err _) q = tt

  pub err_on : (fault : UpdateFault) (answer : Result (Unit {0}) E) → OnErr answer (Stops ys b c fault) → OnErr answer (Stops (xs ++ ys) a c fault)
  err_on fault (Ok _) s = tt
  err_on fault (Err _) s = stops_on xs ys a b c fault before s

pub if_err_on : (a b c : FlashHistory) (xs ys : List FlashCall) → b ≡ with_calls a xs → (answer : Result (Unit {0}) UpdateFault) → IfErr answer (Stops ys b c) → IfErr answer (Stops (xs ++ ys) a c)
if_err_on a b c xs ys before (Ok _) s = tt
if_err_on a b c xs ys before (Err fault) s = stops_on xs ys a b c fault before s

pub err_here : {E : Type 0} (next call : FlashCall) (a b : FlashHistory) (fault : UpdateFault) (answer : Result (Unit {0}) E) → Breaks fault next call → OnErr answer (b ≡ with_calls a (call ∷ [])) → OnErr answer (Stops (next ∷ []) a b fault)
err_here next call a b fault (Ok _) breaks made = tt
err_here next call a b fault (Err _) breaks made = stops_here next call [] a b fault made breaks

-- ---- sectors in two parts

pub erasing_split : (sector n m : ℕ) → erasing sector (n + m) ≡ erasing sector n ++ erasing (sector + n) m
erasing_split sector zero m =
    let none : 0 + m ≡ m = omega arith in
    let same : sector ≡ sector + 0 = omega arith in
    ap (λ k. erasing sector k) none ∙ ap (λ s. erasing s m) same
erasing_split sector (suc n) m =
    let more : suc n + m ≡ suc (n + m) = omega arith in
    let next : suc sector + n ≡ sector + suc n = omega arith in
    ap (λ k. erasing sector k) more ∙ ap (λ l. Erased sector ∷ l) (erasing_split (suc sector) n m ∙ ap (λ s. erasing (suc sector) n ++ erasing s m) next)

pub erasing_last : (first sector : ℕ) → first ≤ sector → erasing first (sector + 1 - first) ≡ erasing first (sector - first) ++ Erased sector ∷ []
erasing_last first sector h =
    let count : sector + 1 - first ≡ sector - first + 1 = omega arith in
    let at : first + (sector - first) ≡ sector = omega arith in
    ap (λ k. erasing first k) count ∙ erasing_split first (sector - first) 1 ∙ ap (λ s. erasing first (sector - first) ++ erasing s 1) at

pub erasing_split_at : (first sector end : ℕ) → first ≤ sector → sector < end → erasing first (end - first) ≡ erasing first (sector - first) ++ Erased sector ∷ erasing (suc sector) (end - suc sector)
erasing_split_at first sector end h k =
    let count : end - first ≡ sector - first + suc (end - suc sector) = omega arith in
    let at : first + (sector - first) ≡ sector = omega arith in
    ap (λ n. erasing first n) count ∙ erasing_split first (sector - first) (suc (end - suc sector)) ∙ ap (λ s. erasing first (sector - first) ++ erasing s (suc (end - suc sector))) at

module _ (size : ℕ) (stream : List ℕ) (place : ℕ) where
  abbrev each : ℕ → ℕ → List FlashCall
  each sector count = reading size stream place sector count

  pub reading_split : (sector n m : ℕ) → each sector (n + m) ≡ each sector n ++ each (sector + n) m
  reading_split sector zero m =
      let none : 0 + m ≡ m = omega arith in
      let same : sector ≡ sector + 0 = omega arith in
      ap (λ k. each sector k) none ∙ ap (λ s. each s m) same
  reading_split sector (suc n) m =
      let more : suc n + m ≡ suc (n + m) = omega arith in
      let next : suc sector + n ≡ sector + suc n = omega arith in
      ap (λ k. each sector k) more ∙ reading_one sector n m (reading_split (suc sector) n m ∙ ap (λ s. each (suc sector) n ++ each s m) next)
    where
      reading_one : (sector n m : ℕ) → each (suc sector) (n + m) ≡ each (suc sector) n ++ each (sector + suc n) m → each sector (suc (n + m)) ≡ each sector (suc n) ++ each (sector + suc n) m
      reading_one sector n m e =
          ap (λ l. Read (sector_place sector) (slice_range (padded stream (size - place)) (sector_place sector - place) (sector_place sector - place + sector_size)) ∷ l) e

  pub reading_last : (first sector : ℕ) → first ≤ sector → each first (sector + 1 - first) ≡ each first (sector - first) ++ each sector 1
  reading_last first sector h =
      let count : sector + 1 - first ≡ sector - first + 1 = omega arith in
      let at : first + (sector - first) ≡ sector = omega arith in
      ap (λ k. each first k) count ∙ reading_split first (sector - first) 1 ∙ ap (λ s. each first (sector - first) ++ each s 1) at

  pub reading_split_at : (first sector end : ℕ) → first ≤ sector → sector < end → each first (end - first) ≡ each first (sector - first) ++ (each sector 1 ++ each (sector + 1) (end - (sector + 1)))
  reading_split_at first sector end h k =
      let count : end - first ≡ sector - first + (1 + (end - (sector + 1))) = omega arith in
      let at : first + (sector - first) ≡ sector = omega arith in
      ap (λ n. each first n) count
      ∙ reading_split first (sector - first) (1 + (end - (sector + 1)))
      ∙ ap (λ s. each first (sector - first) ++ each s (1 + (end - (sector + 1)))) at
      ∙ ap (λ l. each first (sector - first) ++ l) (reading_split sector 1 (end - (sector + 1)))

-- ---- what was read, compared

module _ (from : ℕ) (piece : List ℕ) (place : ℕ) (wanted buffer : List ℕ) (long : length buffer ≡ length wanted) (each_is : (k : ℕ) → k < length wanted → wanted_at from piece (place + k) ≡ get_or wanted k 0) where
  compared_same : ReadsWanted from piece place buffer → buffer ≡ wanted
  compared_same h = ext_get_or 0 buffer wanted long (λ k l. h k l ∙ each_is k (omega (arith, long, l)))

  compared_other : (fault : UpdateFault) → IsWrong from piece place buffer fault → Breaks fault (Read place wanted) (Read place buffer)
  compared_other (Differs at wrote read) w = record {
    place = place;
    wanted = wanted;
    bytes = buffer;
    is_next = refl;
    is = refl;
    long = long;
    i = w.0;
    within = w.1;
    there = w.2;
    wants = w.3 ∙ ap (wanted_at from piece) w.2 ∙ each_is w.0 (omega (arith, long, w.1));
    gave = w.4;
    differs = w.5;
    first = λ k h. w.6 k h ∙ each_is k (omega (arith, h, w.1, long));
  }
  compared_other (Failed true) w = absurd w
  compared_other (Failed false) w = absurd w
  compared_other TooLong w = absurd w
  compared_other (NoLayout at) w = absurd w
  compared_other NoMemory w = absurd w

  module _ (a b : FlashHistory) (made : b ≡ with_calls a (Read place buffer ∷ [])) where
    pub compared_ok : (answer : Result (Unit {0}) UpdateFault) → OnOk answer (ReadsWanted from piece place buffer) → OnOk answer (b ≡ with_calls a (Read place wanted ∷ []))
    compared_ok (Ok _) h = made ∙ ap (λ l. with_calls a (Read place l ∷ [])) (compared_same h)
    compared_ok (Err _) h = tt

    pub compared_err : (answer : Result (Unit {0}) UpdateFault) → IfErr answer (IsWrong from piece place buffer) → IfErr answer (Stops (Read place wanted ∷ []) a b)
    compared_err (Ok _) h = tt
    compared_err (Err fault) h = stops_here (Read place wanted) (Read place buffer) [] a b fault made (compared_other fault h)

-- what is wanted in a sector
pub sector_wanted : (size : ℕ) (stream : List ℕ) (place sector k : ℕ) → place ≤ sector_place sector → sector_place sector + sector_size ≤ size → place + length stream ≤ size → k < sector_size
    → wanted_at place stream (sector_place sector + k) ≡ get_or (slice_range (padded stream (size - place)) (sector_place sector - place) (sector_place sector - place + sector_size)) k 0
sector_wanted size stream place sector k from within fits h =
    let there : place + (sector_place sector - place + k) ≡ sector_place sector + k = omega arith in
    sym (get_or_slice_range (padded stream (size - place)) (sector_place sector - place) sector_size k h
    ∙ padded_wanted place stream (size - place) (sector_place sector - place + k) (omega arith)
    ∙ ap (λ n. wanted_at place stream n) there)

pub sector_long : (size : ℕ) (stream : List ℕ) (place sector : ℕ) → place ≤ sector_place sector → sector_place sector + sector_size ≤ size → place + length stream ≤ size
    → length (slice_range (padded stream (size - place)) (sector_place sector - place) (sector_place sector - place + sector_size)) ≡ sector_size
sector_long size stream place sector from within fits =
    length_slice_range (padded stream (size - place)) (sector_place sector - place) sector_size (omega (arith, length_padded stream (size - place) (omega arith)))
