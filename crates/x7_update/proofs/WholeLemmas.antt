-- Lemmas on an update as a whole: its steps make its calls.
use Rattle.std.proofs.Common.{◌≡◌, ℕ, ◌+◌, ◌<◌, ◌≤◌, inl, inr, ⊎_elim, List, [], ◌∷◌, ◌++◌, true, false, Result, Ok, Err, OnOk, IfErr, length, get_or, slice_range, append_assoc, refl, ap, sym, subst, ◌∙◌, arith}
use Rattle.x7_words.specs.Word.{AreBytes}
use Rattle.x7_words.proofs.FlashLemmas.{get_or_slice_range}
use Rattle.x7_packets.specs.FlashSlot.{sector_size}
use Rattle.x7_update.specs.After.{IsAfterUpdate, MayBeLeft, untouched}
use Rattle.x7_update.specs.Layout.{HasSlots, IsUpdatableSize, update_place}
use Rattle.x7_update.specs.Slots.{IsTargetIn}
use Rattle.x7_words.specs.declared.flash_call.FlashCall.{FlashCall}
use Rattle.x7_words.specs.declared.flash_call.FlashCall.TheVariants.{Attached, NotAttached, Read, ReadFailed, Erased, EraseFailed, Programmed, ProgramFailed}
use Rattle.x7_update.specs.Plan.{EndsEarly, Follows}
use Rattle.x7_words.specs.FlashHistory.{IsHistory, MayLeave, FlashHistory, with_calls}
use Rattle.x7_update.specs.UpdateCalls.{calls_after, opening, replacing, target_in, update_calls, verifying}
use Rattle.x7_update.specs.Made.{Breaks, HasStopped, HasUpdated, IsRefused, LeavesAny, ReadFirst, Stops}
use Rattle.x7_update.specs.declared.fault.UpdateFault.{UpdateFault}
use Rattle.x7_update.specs.declared.fault.UpdateFault.TheVariants.{Differs, Failed, NoLayout, NoMemory, TooLong}
use Rattle.x7_update.specs.declared.slots.UpdateTarget.{UpdateTarget}
use Rattle.x7_update.proofs.MadeLemmas.{calls_none, calls_on, stops_more, stops_on}
use Rattle.x7_update.proofs.TargetCallLemmas.{one_target, target_in_is}
use Rattle.x7_update.proofs.CallLemmas.{follows_leaves}
use Rattle.x7_update.proofs.TransferLemmas.{finds_same}
use Rattle.x7_update.proofs.UpdateCallLemmas.{update_becomes, update_leaves}
use Rattle.x7_update.proofs.HonestLemmas.{AreWhole, calls_whole, reads_as_planned, update_happens}

pub stopped_refused : (stream : List ℕ) (old new : FlashHistory) (fault : UpdateFault) → HasStopped stream old new fault → IsRefused stream old new fault
stopped_refused stream old new (Failed writing) s = inl s
stopped_refused stream old new (Differs at wrote read) s = s
stopped_refused stream old new TooLong s = absurd s.stops.breaks
stopped_refused stream old new (NoLayout place) s = absurd s.stops.breaks
stopped_refused stream old new NoMemory s = absurd s.stops.breaks

module _ (first_sector stream : List ℕ) (target : UpdateTarget) (first mid : FlashHistory) (read : ReadFirst first mid first_sector) (found : IsTargetIn first.size first_sector target) (fits : target.place + length stream ≤ first.size) where
  plan_is : replacing first.size stream target ++ (verifying first.size stream target ++ opening target.slots.next) ≡ calls_after first.size stream (target_in first_sector)
  plan_is =
      sym (append_assoc (replacing first.size stream target) (verifying first.size stream target) (opening target.slots.next))
      ∙ ap (λ t. calls_after first.size stream t) (one_target first.size first_sector target found)

  stopped : (last : FlashHistory) (fault : UpdateFault) → Stops (replacing first.size stream target ++ (verifying first.size stream target ++ opening target.slots.next)) mid last fault → HasStopped stream first last fault
  stopped last fault s = record {
    first_sector = first_sector;
    whole = read.whole;
    room = record { sized = found.sized; has = found.has; fits = omega (arith, fits, found.update) };
    stops = subst (λ h. Stops (calls_after first.size stream (target_in first_sector)) h last fault) read.made (subst (λ l. Stops l mid last fault) plan_is s);
  }

  -- the stream was not written
  pub replace_stopped : (last : FlashHistory) (fault : UpdateFault) → Stops (replacing first.size stream target) mid last fault → HasStopped stream first last fault
  replace_stopped last fault s = stopped last fault (stops_more (replacing first.size stream target) (verifying first.size stream target ++ opening target.slots.next) mid last fault s)

  module _ (then : FlashHistory) (replaced : then ≡ with_calls mid (replacing first.size stream target)) where
    end_stopped : (last : FlashHistory) (fault : UpdateFault) → Stops (verifying first.size stream target ++ opening target.slots.next) then last fault → HasStopped stream first last fault
    end_stopped last fault s = stopped last fault (stops_on (replacing first.size stream target) (verifying first.size stream target ++ opening target.slots.next) mid then last fault replaced s)

    -- the end, where it is refused
    pub end_refused : (last : FlashHistory) (answer : Result (Unit {0}) UpdateFault) → IfErr answer (Stops (verifying first.size stream target ++ opening target.slots.next) then last) → IfErr answer (IsRefused stream first last)
    end_refused last (Ok _) s = tt
    end_refused last (Err fault) s = stopped_refused stream first last fault (end_stopped last fault s)

    -- all was done
    pub all_done : (last : FlashHistory) (answer : Result (Unit {0}) UpdateFault) → OnOk answer (last ≡ with_calls then (verifying first.size stream target ++ opening target.slots.next)) → OnOk answer (HasUpdated stream first last)
    all_done last (Err fault) made = tt
    all_done last (Ok _) made = record {
      first_sector = first_sector;
      whole = read.whole;
      room = record { sized = found.sized; has = found.has; fits = omega (arith, fits, found.update) };
      made = calls_on (Read 0 first_sector ∷ []) (replacing first.size stream target ++ (verifying first.size stream target ++ opening target.slots.next)) first mid last read.made
          (calls_on (replacing first.size stream target) (verifying first.size stream target ++ opening target.slots.next) mid then last replaced made)
          ∙ ap (λ l. with_calls first (Read 0 first_sector ∷ l)) plan_is;
    }

-- ---- what a power loss may leave

breaks_early : (fault : UpdateFault) (next call : FlashCall) → Breaks fault next call → EndsEarly call next
breaks_early (Failed true) (Erased sector) call b = subst (λ c. EndsEarly c (Erased sector)) (sym b) refl
breaks_early (Failed true) (Programmed place given) call b = subst (λ c. EndsEarly c (Programmed place given)) (sym b) refl
breaks_early (Failed true) (Attached name size) call b = absurd b
breaks_early (Failed true) (NotAttached name why) call b = absurd b
breaks_early (Failed true) (Read place bytes) call b = absurd b
breaks_early (Failed true) (ReadFailed place count) call b = absurd b
breaks_early (Failed true) (EraseFailed sector) call b = absurd b
breaks_early (Failed true) (ProgramFailed place given) call b = absurd b
breaks_early (Failed false) next call b = subst (λ c. EndsEarly c next) (sym b.is) (b.wanted, b.is_next, refl)
breaks_early (Differs at wrote read) next call b = subst (λ c. EndsEarly c next) (sym b.is) (b.wanted, b.is_next, b.long)
breaks_early TooLong next call b = absurd b
breaks_early (NoLayout place) next call b = absurd b
breaks_early NoMemory next call b = absurd b

follows_to : (before after : List FlashCall) (next call : FlashCall) → EndsEarly call next → Follows (before ++ call ∷ []) (before ++ next ∷ after)
follows_to [] after next call e = inr (refl, e)
follows_to (x ∷ before) after next call e = inl (refl, follows_to before after next call e)

stops_follows : (plan : List FlashCall) (old new : FlashHistory) (fault : UpdateFault) (s : Stops plan old new fault) → Follows (s.before ++ s.call ∷ []) plan
stops_follows plan old new fault s = subst (λ p. Follows (s.before ++ s.call ∷ []) p) (sym s.is) (follows_to s.before s.after s.next s.call (breaks_early fault s.next s.call s.breaks))

module _ (stream : List ℕ) (bytes : AreBytes stream) (old new : FlashHistory) where
  -- where an update of a flash that gave this first sector goes
  pub honest_target : (first_sector flash : List ℕ) → length first_sector ≡ sector_size → IsUpdatableSize old.size → HasSlots old.size first_sector → length flash ≡ old.size → first_sector ≡ slice_range flash 0 (0 + length first_sector)
      → IsTargetIn (length flash) flash (target_in first_sector)
  honest_target first_sector flash whole sized has size gave =
      let target = target_in first_sector in
      let same : (i : ℕ) → i < sector_size → get_or first_sector i 0 ≡ get_or flash i 0 =
      λ i h. let at : 0 + i ≡ i = omega arith in ap (λ b. get_or b i 0) gave ∙ get_or_slice_range flash 0 (length first_sector) i (omega (arith, whole, h)) ∙ ap (λ k. get_or flash k 0) at in
      subst (λ n. IsTargetIn n flash target) (sym size) (finds_same first_sector flash same old.size target (target_in_is old.size first_sector sized has))

  -- the calls of a whole update
  plan_leaves : (first_sector : List ℕ) → length first_sector ≡ sector_size → IsUpdatableSize old.size → HasSlots old.size first_sector → update_place first_sector + length stream ≤ old.size
      → (flash found : List ℕ) → AreBytes flash → length flash ≡ old.size → MayLeave (update_calls old.size first_sector stream) flash found → MayBeLeft stream flash found
  plan_leaves first_sector whole sized has fits flash found are size (inl w) = untouched w
  plan_leaves first_sector whole sized has fits flash found are size (inr m) =
      let target = target_in first_sector in
      let found_there = honest_target first_sector flash whole sized has size m.1.1 in
      let plan : MayLeave (update_calls (length flash) first_sector stream) flash found = subst (λ n. MayLeave (update_calls n first_sector stream) flash found) (sym size) (inr m) in
      update_leaves flash stream target found_there (omega (arith, fits, size)) bytes first_sector found are plan

  updated_leaves : HasUpdated stream old new → LeavesAny stream old new
  updated_leaves u = record { calls = update_calls old.size u.first_sector stream; made = u.made; leaves = plan_leaves u.first_sector u.whole u.room.sized u.room.has u.room.fits }

  stopped_leaves : (fault : UpdateFault) → HasStopped stream old new fault → LeavesAny stream old new
  stopped_leaves fault s = record {
    calls = Read 0 s.first_sector ∷ (s.stops.before ++ s.stops.call ∷ []);
    made = calls_on (Read 0 s.first_sector ∷ []) (s.stops.before ++ s.stops.call ∷ []) old (with_calls old (Read 0 s.first_sector ∷ [])) new refl s.stops.made;
    leaves = λ flash found are size m. plan_leaves s.first_sector s.whole s.room.sized s.room.has s.room.fits flash found are size
        (follows_leaves (Read 0 s.first_sector ∷ (s.stops.before ++ s.stops.call ∷ [])) (update_calls old.size s.first_sector stream) flash found
        (inl (refl, stops_follows (calls_after old.size stream (target_in s.first_sector)) (with_calls old (Read 0 s.first_sector ∷ [])) new fault s.stops)) m);
  }

  read_leaves : (first_sector : List ℕ) → ReadFirst old new first_sector → LeavesAny stream old new
  read_leaves first_sector r = record {
    calls = Read 0 first_sector ∷ [];
    made = r.made;
    leaves = λ flash found are size m. untouched (⊎_elim (λ w. w) (λ n. n.2 ∙ n.1.0) m);
  }

  nothing_leaves : new ≡ old → LeavesAny stream old new
  nothing_leaves same = record { calls = []; made = same ∙ calls_none old; leaves = λ flash found are size m. untouched m }

  pub refused_leaves : (fault : UpdateFault) → IsRefused stream old new fault → LeavesAny stream old new
  refused_leaves (Failed writing) (inl s) = stopped_leaves (Failed writing) s
  refused_leaves (Failed writing) (inr f) = record {
    calls = ReadFailed 0 sector_size ∷ [];
    made = f.made;
    leaves = λ flash found are size m. untouched (⊎_elim (λ w. w) (λ n. n.2 ∙ n.1) m);
  }
  refused_leaves (Differs at wrote read) s = stopped_leaves (Differs at wrote read) s
  refused_leaves TooLong r = read_leaves r.0 r.1
  refused_leaves (NoLayout place) (inl n) = nothing_leaves n.2
  refused_leaves (NoLayout place) (inr r) = read_leaves r.0 r.1
  refused_leaves NoMemory same = nothing_leaves same

  -- whatever the answer is
  pub answer_leaves : {T : Type 0} (answer : Result T UpdateFault) → OnOk answer (HasUpdated stream old new) → IfErr answer (IsRefused stream old new) → LeavesAny stream old new
  answer_leaves (Ok _) u r = updated_leaves u
  answer_leaves (Err fault) u r = refused_leaves fault r

  -- ---- of a flash that gives what it holds

  -- all was done: it is updated
  pub updated_becomes : (u : HasUpdated stream old new) (flash now : List ℕ) → length flash ≡ old.size → IsHistory (update_calls old.size u.first_sector stream) flash now → IsAfterUpdate stream flash now
  updated_becomes u flash now size h =
      let t = honest_target u.first_sector flash u.whole u.room.sized u.room.has size h.1.1 in
      update_becomes flash stream (target_in u.first_sector) t (omega (arith, t.update, u.room.fits, size)) bytes u.first_sector now (subst (λ n. IsHistory (update_calls n u.first_sector stream) flash now) (sym size) h)

  -- no byte differs
  pub honest_never_differs : (at wrote read : ℕ) (s : HasStopped stream old new (Differs at wrote read)) (flash now : List ℕ) → length flash ≡ old.size
      → IsHistory (Read 0 s.first_sector ∷ (s.stops.before ++ s.stops.call ∷ [])) flash now → ⊥
  honest_never_differs at wrote read s flash now size h =
      let target = target_in s.first_sector in
      let b = s.stops.breaks in
      let t = honest_target s.first_sector flash s.whole s.room.sized s.room.has size h.1.1 in
      let done = update_happens flash stream target t (omega (arith, t.update, s.room.fits, size)) bytes s.first_sector h.1.1 in
      let plan_of : calls_after (length flash) stream target ≡ s.stops.before ++ Read b.place b.wanted ∷ s.stops.after =
      ap (λ n. calls_after n stream target) size ∙ s.stops.is ∙ ap (λ c. s.stops.before ++ c ∷ s.stops.after) b.is_next in
      let whole : AreWhole (s.stops.before ++ Read b.place b.wanted ∷ s.stops.after) = subst AreWhole plan_of (calls_whole (length flash) s.first_sector stream target) in
      let answers : IsHistory (s.stops.before ++ Read b.place b.wanted ∷ s.stops.after) flash done.0 =
      subst (λ l. IsHistory l flash done.0) plan_of (subst (λ f. IsHistory (calls_after (length flash) stream target) f done.0) done.1.1.0 done.1.2) in
      let gave : IsHistory (s.stops.before ++ Read b.place b.bytes ∷ []) flash now =
      subst (λ c. IsHistory (s.stops.before ++ c ∷ []) flash now) b.is (subst (λ f. IsHistory (s.stops.before ++ s.stops.call ∷ []) f now) h.1.0 h.2) in
      let same : b.bytes ≡ b.wanted = reads_as_planned s.stops.before s.stops.after b.place b.wanted b.bytes flash now done.0 b.long whole answers gave in
      b.differs (b.wants ∙ sym (ap (λ l. get_or l b.i 0) same) ∙ sym b.gave)
