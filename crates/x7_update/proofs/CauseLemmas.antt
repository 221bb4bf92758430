-- Lemmas on known bytes: what an update left of them, or why it was refused, follows from its calls.
use Rattle.std.proofs.Common.{◌≡◌, ℕ, ◌+◌, ◌<◌, ◌≤◌, inl, inr, List, [], ◌∷◌, ◌++◌, Option, None, Some, true, false, Result, Ok, Err, OnOk, IfErr, length, get_or, slice_range, refl, ap, sym, subst, ◌∙◌, arith}
use Rattle.std.proofs.lemmas.List.{append_cancel_left}
use Rattle.x7_words.specs.Flash.{BecomesBytes, ExtentIsLength, FlashState, IfKnown}
use Rattle.x7_words.specs.FlashHistory.{FlashHistory, FollowsCalls, IsHistory, history_of, with_calls}
use Rattle.x7_words.specs.Word.{AreBytes}
use Rattle.x7_words.specs.declared.flash_call.FlashCall.{FlashCall}
use Rattle.x7_words.specs.declared.flash_call.FlashCall.TheVariants.{Read}
use Rattle.x7_words.proofs.FlashLemmas.{get_or_slice_range}
use Rattle.x7_words.proofs.FollowLemmas.{becomes_at, becomes_map, known_all, known_at}
use Rattle.x7_packets.specs.FlashSlot.{sector_size}
use Rattle.x7_update.specs.After.{IsAfterUpdate}
use Rattle.x7_update.specs.Fault.{CanBeUpdatedWith, HasCause, IsTooLong, NoLayoutAt, UntouchedForWant, bad_size}
use Rattle.x7_update.specs.Layout.{HasSlots, IsUpdatable, IsUpdatableSize, update_place}
use Rattle.x7_update.specs.Made.{HasStopped, HasUpdated, IsRefused, ReadFirst, Stops}
use Rattle.x7_update.specs.Slots.{IsTargetIn}
use Rattle.x7_update.specs.UpdateCalls.{target_in, update_calls}
use Rattle.x7_update.specs.Writing.{Becomes, CountsFault}
use Rattle.x7_update.specs.declared.fault.UpdateFault.{UpdateFault}
use Rattle.x7_update.specs.declared.fault.UpdateFault.TheVariants.{Differs, Failed, NoLayout, NoMemory, TooLong}
use Rattle.x7_update.proofs.MadeLemmas.{calls_on}
use Rattle.x7_update.proofs.TransferLemmas.{no_layout_same}
use Rattle.x7_update.proofs.WholeLemmas.{honest_never_differs, honest_target, updated_becomes}

module _ (stream : List ℕ) (bytes : AreBytes stream) (old new : FlashState) (counted : ExtentIsLength old) (f : FollowsCalls old new) where
  -- the history of the flash before the calls
  abbrev pub first : FlashHistory
  first = history_of old

  size_of : (all : List ℕ) → old.bytes ≡ Some all → length all ≡ old.extent
  size_of all e = sym (known_at old.bytes (λ all. old.extent ≡ length all) counted all e)

  -- known bytes are what these calls make of them
  made_by : (calls : List FlashCall) → history_of new ≡ with_calls first calls → BecomesBytes (IsHistory calls) old.bytes new.bytes
  made_by calls are =
      let same : f.calls ≡ calls = append_cancel_left old.calls f.calls calls (sym f.made ∙ ap (λ h. h.calls) are) in
      subst (λ l. BecomesBytes (IsHistory l) old.bytes new.bytes) same f.bytes

  -- ---- an update that is done

  updated_target : (u : HasUpdated stream first (history_of new)) (all : List ℕ) → old.bytes ≡ Some all → IsTargetIn (length all) all (target_in u.first_sector)
  updated_target u all e =
      let m = becomes_at (IsHistory (update_calls old.extent u.first_sector stream)) old.bytes new.bytes (made_by (update_calls old.extent u.first_sector stream) u.made) all e in
      honest_target stream bytes first (history_of new) u.first_sector all u.whole u.room.sized u.room.has (size_of all e) m.2.1.1

  -- known bytes are updated
  pub updated_known : (answer : Result (Unit {0}) UpdateFault) → OnOk answer (HasUpdated stream first (history_of new)) → OnOk answer (Becomes old new (IsAfterUpdate stream))
  updated_known (Ok _) u =
      becomes_map (IsHistory (update_calls old.extent u.first_sector stream)) (IsAfterUpdate stream) old.bytes new.bytes
      (λ all now e h. updated_becomes stream bytes first (history_of new) u all now (size_of all e) h) (made_by (update_calls old.extent u.first_sector stream) u.made)
  updated_known (Err _) u = tt

  -- known bytes could be updated
  pub updatable_known : (answer : Result (Unit {0}) UpdateFault) → OnOk answer (HasUpdated stream first (history_of new)) → OnOk answer (IfKnown old.bytes IsUpdatable)
  updatable_known (Ok _) u = known_all old.bytes IsUpdatable (λ all e. let t = updated_target u all e in record { size = t.sized; slots = t.has })
  updatable_known (Err _) u = tt

  -- ---- an update that is refused

  stopped_calls : (fault : UpdateFault) (s : HasStopped stream first (history_of new) fault) → history_of new ≡ with_calls first (Read 0 s.first_sector ∷ (s.stops.before ++ s.stops.call ∷ []))
  stopped_calls fault s = calls_on (Read 0 s.first_sector ∷ []) (s.stops.before ++ s.stops.call ∷ []) first (with_calls first (Read 0 s.first_sector ∷ [])) (history_of new) refl s.stops.made

  stopped_can : (fault : UpdateFault) → HasStopped stream first (history_of new) fault → IfKnown old.bytes (CanBeUpdatedWith stream)
  stopped_can fault s = known_all old.bytes (CanBeUpdatedWith stream) (λ all e.
      let calls = Read 0 s.first_sector ∷ (s.stops.before ++ s.stops.call ∷ []) in
      let m = becomes_at (IsHistory calls) old.bytes new.bytes (made_by calls (stopped_calls fault s)) all e in
      let size = size_of all e in
      let t = honest_target stream bytes first (history_of new) s.first_sector all s.whole s.room.sized s.room.has size m.2.1.1 in
      record { updatable = record { size = t.sized; slots = t.has }; fits = omega (arith, t.update, s.room.fits, size) })

  differs_unknown : (at wrote read : ℕ) → HasStopped stream first (history_of new) (Differs at wrote read) → old.bytes ≡ None
  differs_unknown at wrote read s = go old.bytes refl
    where
      calls : List FlashCall
      calls = Read 0 s.first_sector ∷ (s.stops.before ++ s.stops.call ∷ [])

      go : (known : Option (List ℕ)) → old.bytes ≡ known → old.bytes ≡ None
      go None e = e
      go (Some all) e =
          let m = becomes_at (IsHistory calls) old.bytes new.bytes (made_by calls (stopped_calls (Differs at wrote read) s)) all e in
          absurd (honest_never_differs stream bytes first (history_of new) at wrote read s all m.0 (size_of all e) m.2)

  -- the first sector was read as it is
  read_same : (first_sector : List ℕ) → ReadFirst first (history_of new) first_sector → (all : List ℕ) → old.bytes ≡ Some all → (i : ℕ) → i < sector_size → get_or first_sector i 0 ≡ get_or all i 0
  read_same first_sector r all e i h =
      let m = becomes_at (IsHistory (Read 0 first_sector ∷ [])) old.bytes new.bytes (made_by (Read 0 first_sector ∷ []) r.made) all e in
      let at : 0 + i ≡ i = omega arith in
      ap (λ b. get_or b i 0) m.2.1.1 ∙ get_or_slice_range all 0 (length first_sector) i (omega (arith, r.whole, h)) ∙ ap (λ k. get_or all k 0) at

  too_long_known : (first_sector : List ℕ) → ReadFirst first (history_of new) first_sector → IsUpdatableSize old.extent → HasSlots old.extent first_sector → old.extent < update_place first_sector + length stream → IfKnown old.bytes (IsTooLong stream)
  too_long_known first_sector r sized has long = known_all old.bytes (IsTooLong stream) (λ all e.
      let m = becomes_at (IsHistory (Read 0 first_sector ∷ [])) old.bytes new.bytes (made_by (Read 0 first_sector ∷ []) r.made) all e in
      let size = size_of all e in
      let t = honest_target stream bytes first (history_of new) first_sector all r.whole sized has size m.2.1.1 in
      record { updatable = record { size = t.sized; slots = t.has }; passes = omega (arith, t.update, long, size) })

  pub cause_of : (fault : UpdateFault) → new.extent ≡ old.extent → IsRefused stream first (history_of new) fault → CountsFault old new fault → HasCause stream old new fault
  cause_of (Failed true) same (inl s) counts = (counts, subst IsUpdatableSize (sym same) s.room.sized, stopped_can (Failed true) s)
  cause_of (Failed true) same (inr read) counts = let no : true ≡ false = read.reading in absurd (cc)
  cause_of (Failed false) same (inl s) counts = (counts, subst IsUpdatableSize (sym same) s.room.sized)
  cause_of (Failed false) same (inr read) counts = (counts, subst IsUpdatableSize (sym same) read.sized)
  cause_of (Differs at wrote read) same s counts = differs_unknown at wrote read s
  cause_of TooLong same r counts = too_long_known r.0 r.1 r.2 r.3 r.4
  cause_of (NoLayout place) same (inl r) counts = known_all old.bytes (λ flash. NoLayoutAt (length flash) flash place) (λ all e. bad_size (λ good. r.0 (subst IsUpdatableSize (size_of all e) good)) (r.1 ∙ sym (size_of all e)))
  cause_of (NoLayout place) same (inr r) counts =
      known_all old.bytes (λ flash. NoLayoutAt (length flash) flash place) (λ all e. subst (λ n. NoLayoutAt n all place) (sym (size_of all e)) (no_layout_same r.0 all (read_same r.0 r.1 all e) old.extent place r.2))
  cause_of NoMemory same r counts = tt

  -- why an update is refused
  pub refused_cause : {A : Type 0} (answer : Result A UpdateFault) → new.extent ≡ old.extent → IfErr answer (IsRefused stream first (history_of new)) → IfErr answer (CountsFault old new) → IfErr answer (HasCause stream old new)
  refused_cause (Ok _) same r counts = tt
  refused_cause (Err fault) same r counts = cause_of fault same r counts

-- a step that stopped a plan wanted no memory
pub stop_wants_none : (plan : List FlashCall) (a b : FlashHistory) (old new : FlashState) (answer : Result (Unit {0}) UpdateFault) → IfErr answer (Stops plan a b) → IfErr answer (UntouchedForWant old new)
stop_wants_none plan a b old new (Ok _) s = tt
stop_wants_none plan a b old new (Err fault) s = λ e. absurd (let t : Stops plan a b NoMemory = subst (λ x. Stops plan a b x) e s in t.breaks)
