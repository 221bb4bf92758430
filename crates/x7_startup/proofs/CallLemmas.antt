-- One call more at the end of a list of calls of a startup.
use Rattle.std.proofs.Common.{◌≡◌, ℕ, zero, suc, ◌+◌, ◌/◌, ◌%◌, ◌<◌, ◌≤◌, min, Bool, true, false, List, [], ◌∷◌, ◌++◌, replicate, Some, None, if◌then◌else◌, refl, sym, ap, ◌∙◌, arith}
use Rattle.std.proofs.Math.Nat.{zero-add}
use Rattle.std.specs.Bool.{then_some}
use Rattle.std.specs.Option.{option_or}
use Rattle.x7_startup.specs.Phases.{wait_of, IsPhase, tick_limit}
use Rattle.x7_startup.specs.Startup.{IsPhaseOf, Call, Arm, Desync, Byte, DropBack, StartupProgress, NotBegun, Begun, has_shutdown, since_shutdown, bytes_among, is_armed, progress_from, progress_of, StartupState, StoresAt, StandsForCalls}
use Rattle.x7_startup.specs.Ticks.{PassesTicks}
use Rattle.x7_startup.proofs.PhaseLemmas.{phase_first, phase_rises, one_phase}
use Rattle.x7_startup.proofs.TickLemmas.{reached}

has_shutdown_push : (calls t : List Call) → has_shutdown t ≡ false → has_shutdown (calls ++ t) ≡ has_shutdown calls
has_shutdown_push [] t h = h
has_shutdown_push (Arm ∷ calls) t h = has_shutdown_push calls t h
has_shutdown_push (Desync c ∷ calls) t h = has_shutdown_push calls t h
has_shutdown_push (Byte ∷ calls) t h = has_shutdown_push calls t h
has_shutdown_push (DropBack ∷ calls) t h = refl

has_shutdown_last : (calls : List Call) → has_shutdown (calls ++ DropBack ∷ []) ≡ true
has_shutdown_last [] = refl
has_shutdown_last (Arm ∷ calls) = has_shutdown_last calls
has_shutdown_last (Desync c ∷ calls) = has_shutdown_last calls
has_shutdown_last (Byte ∷ calls) = has_shutdown_last calls
has_shutdown_last (DropBack ∷ calls) = refl

since_none : (t : List Call) → has_shutdown t ≡ false → since_shutdown t ≡ t
since_none [] h = refl
since_none (c ∷ t) h = rw h refl

pub choice : {X : Type 0} → (b : Bool) (x y z : List X) → (if b then x ++ z else y ++ z) ≡ (if b then x else y) ++ z
choice true x y z = refl
choice false x y z = refl

pub since_push : (calls t : List Call) → has_shutdown t ≡ false → since_shutdown (calls ++ t) ≡ since_shutdown calls ++ t
since_push [] t h = since_none t h
since_push (c ∷ calls) t h =
    rw (has_shutdown_push (c ∷ calls) t h, since_push calls t h)
    (choice (has_shutdown (c ∷ calls)) (since_shutdown calls) (c ∷ calls) t)

pub since_last : (calls : List Call) → since_shutdown (calls ++ DropBack ∷ []) ≡ []
since_last [] = refl
since_last (c ∷ calls) = rw (has_shutdown_last (c ∷ calls)) (since_last calls)

pub armed_arm : (a : Bool) (calls : List Call) → is_armed a (calls ++ Arm ∷ []) ≡ true
armed_arm a [] = refl
armed_arm a (Arm ∷ calls) = armed_arm true calls
armed_arm a (Desync c ∷ calls) = armed_arm false calls
armed_arm a (Byte ∷ calls) = armed_arm a calls
armed_arm a (DropBack ∷ calls) = armed_arm a calls

pub armed_desync : (a : Bool) (calls : List Call) (d : ℕ) → is_armed a (calls ++ Desync d ∷ []) ≡ false
armed_desync a [] d = refl
armed_desync a (Arm ∷ calls) d = armed_desync true calls d
armed_desync a (Desync c ∷ calls) d = armed_desync false calls d
armed_desync a (Byte ∷ calls) d = armed_desync a calls d
armed_desync a (DropBack ∷ calls) d = armed_desync a calls d

armed_same : (a : Bool) (n : ℕ) → is_armed a (replicate n Byte) ≡ a
armed_same a zero = refl
armed_same a (suc n) = armed_same a n

pub armed_bytes : (a : Bool) (calls : List Call) (n : ℕ) → is_armed a (calls ++ replicate n Byte) ≡ is_armed a calls
armed_bytes a [] n = armed_same a n
armed_bytes a (Arm ∷ calls) n = armed_bytes true calls n
armed_bytes a (Desync c ∷ calls) n = armed_bytes false calls n
armed_bytes a (Byte ∷ calls) n = armed_bytes a calls n
armed_bytes a (DropBack ∷ calls) n = armed_bytes a calls n

bytes_only : (n : ℕ) → bytes_among (replicate n Byte) ≡ n
bytes_only zero = refl
bytes_only (suc n) = let ih : bytes_among (replicate n Byte) ≡ n = bytes_only n in omega arith

count_more : (calls : List Call) (n : ℕ) → bytes_among (calls ++ replicate n Byte) ≡ bytes_among calls + n
count_more [] n = bytes_only n ∙ sym (zero-add n)
count_more (Arm ∷ calls) n = count_more calls n
count_more (Desync c ∷ calls) n = count_more calls n
count_more (Byte ∷ calls) n = let ih : bytes_among (calls ++ replicate n Byte) ≡ bytes_among calls + n = count_more calls n in omega arith
count_more (DropBack ∷ calls) n = count_more calls n

count_arm : (calls : List Call) → bytes_among (calls ++ Arm ∷ []) ≡ bytes_among calls
count_arm [] = refl
count_arm (Arm ∷ calls) = count_arm calls
count_arm (Desync c ∷ calls) = count_arm calls
count_arm (Byte ∷ calls) = ap (λ x. x + 1) (count_arm calls)
count_arm (DropBack ∷ calls) = count_arm calls

count_desync : (calls : List Call) (d : ℕ) → bytes_among (calls ++ Desync d ∷ []) ≡ bytes_among calls
count_desync [] d = refl
count_desync (Arm ∷ calls) d = count_desync calls d
count_desync (Desync c ∷ calls) d = count_desync calls d
count_desync (Byte ∷ calls) d = ap (λ x. x + 1) (count_desync calls d)
count_desync (DropBack ∷ calls) d = count_desync calls d

-- the progress this many bytes later
abbrev pub further : ℕ → StartupProgress → StartupProgress
further n NotBegun = NotBegun
further n (Begun cor0 bytes) = Begun cor0 (bytes + n)

start_never : (a : Bool) (n : ℕ) → progress_from a (replicate n Byte) ≡ NotBegun
start_never a zero = refl
start_never true (suc n) = start_never true n
start_never false (suc n) = start_never false n

pub start_bytes : (a : Bool) (calls : List Call) (n : ℕ) → progress_from a (calls ++ replicate n Byte) ≡ further n (progress_from a calls)
start_bytes a [] n = start_never a n
start_bytes true (Arm ∷ calls) n = start_bytes true calls n
start_bytes false (Arm ∷ calls) n = start_bytes true calls n
start_bytes true (Desync c ∷ calls) n = ap (Begun c) (count_more calls n)
start_bytes false (Desync c ∷ calls) n = start_bytes false calls n
start_bytes true (Byte ∷ calls) n = start_bytes true calls n
start_bytes false (Byte ∷ calls) n = start_bytes false calls n
start_bytes true (DropBack ∷ calls) n = start_bytes true calls n
start_bytes false (DropBack ∷ calls) n = start_bytes false calls n

pub start_arm : (a : Bool) (calls : List Call) → progress_from a (calls ++ Arm ∷ []) ≡ progress_from a calls
start_arm true [] = refl
start_arm false [] = refl
start_arm true (Arm ∷ calls) = start_arm true calls
start_arm false (Arm ∷ calls) = start_arm true calls
start_arm true (Desync c ∷ calls) = ap (Begun c) (count_arm calls)
start_arm false (Desync c ∷ calls) = start_arm false calls
start_arm true (Byte ∷ calls) = start_arm true calls
start_arm false (Byte ∷ calls) = start_arm false calls
start_arm true (DropBack ∷ calls) = start_arm true calls
start_arm false (DropBack ∷ calls) = start_arm false calls

-- the progress after a DESYNC
abbrev pub progress_after_desync : StartupProgress → Bool → ℕ → StartupProgress
progress_after_desync (Begun cor0 bytes) armed d = Begun cor0 bytes
progress_after_desync NotBegun true d = Begun d 0
progress_after_desync NotBegun false d = NotBegun

pub start_desync : (a : Bool) (calls : List Call) (d : ℕ) → progress_from a (calls ++ Desync d ∷ []) ≡ progress_after_desync (progress_from a calls) (is_armed a calls) d
start_desync true [] d = refl
start_desync false [] d = refl
start_desync true (Arm ∷ calls) d = start_desync true calls d
start_desync false (Arm ∷ calls) d = start_desync true calls d
start_desync true (Desync c ∷ calls) d = ap (Begun c) (count_desync calls d)
start_desync false (Desync c ∷ calls) d = start_desync false calls d
start_desync true (Byte ∷ calls) d = start_desync true calls d
start_desync false (Byte ∷ calls) d = start_desync false calls d
start_desync true (DropBack ∷ calls) d = start_desync true calls d
start_desync false (DropBack ∷ calls) d = start_desync false calls d

-- ---- what a call leaves

armed_so : (lock_ticks match_ticks : ℕ) (s : StartupState) (armed : Bool) (progress : StartupProgress) → StoresAt lock_ticks match_ticks s progress → StoresAt lock_ticks match_ticks (record s { armed = armed }) progress
armed_so lock_ticks match_ticks s armed progress h = record { begun_with_is = h.begun_with_is; tick_bytes_are = h.tick_bytes_are; ticks_are = h.ticks_are; phase_is = h.phase_is }

pub arm_stands : (lock_ticks match_ticks : ℕ) (s : StartupState) (calls : List Call) → StandsForCalls lock_ticks match_ticks s calls →
    StandsForCalls lock_ticks match_ticks (record s { armed = true }) (calls ++ Arm ∷ [])
arm_stands lock_ticks match_ticks s calls h =
    let e = since_push calls (Arm ∷ []) refl in
    record {
      armed_is = sym (ap (is_armed false) e ∙ armed_arm false (since_shutdown calls));
      stores = rw (e, start_arm false (since_shutdown calls)) (armed_so lock_ticks match_ticks s true (progress_of calls) h.stores);
    }

pub drop_stands : (lock_ticks match_ticks : ℕ) (calls : List Call) →
    StandsForCalls lock_ticks match_ticks (record { armed = false; begun_with = None; tick_bytes = 0; ticks = 0; phase = 0 }) (calls ++ DropBack ∷ [])
drop_stands lock_ticks match_ticks calls =
    let e = since_last calls in
    record {
      armed_is = sym (ap (is_armed false) e);
      stores = rw e record { begun_with_is = refl; tick_bytes_are = refl; ticks_are = refl; phase_is = refl };
    }

desync_stores : (lock_ticks match_ticks : ℕ) (s : StartupState) (progress : StartupProgress) (armed : Bool) (d : ℕ) → StoresAt lock_ticks match_ticks s progress →
    StoresAt lock_ticks match_ticks (record s { armed = false; begun_with = option_or s.begun_with (then_some armed d) }) (progress_after_desync progress armed d)
desync_stores lock_ticks match_ticks s NotBegun true d h =
    let none : s.begun_with ≡ None = h.begun_with_is in
    let first : s.phase ≡ 0 = h.phase_is in
    record {
      begun_with_is = rw none refl;
      tick_bytes_are = h.tick_bytes_are;
      ticks_are = h.ticks_are;
      phase_is = rw first (phase_first (wait_of lock_ticks match_ticks d));
    }
desync_stores lock_ticks match_ticks s NotBegun false d h =
    let none : s.begun_with ≡ None = h.begun_with_is in
    record { begun_with_is = rw none refl; tick_bytes_are = h.tick_bytes_are; ticks_are = h.ticks_are; phase_is = h.phase_is }
desync_stores lock_ticks match_ticks s (Begun cor0 bytes) armed d h =
    let some : s.begun_with ≡ Some cor0 = h.begun_with_is in
    record { begun_with_is = rw some refl; tick_bytes_are = h.tick_bytes_are; ticks_are = h.ticks_are; phase_is = h.phase_is }

pub desync_stands : (lock_ticks match_ticks : ℕ) (s : StartupState) (calls : List Call) (d : ℕ) → StandsForCalls lock_ticks match_ticks s calls →
    StandsForCalls lock_ticks match_ticks (record s { armed = false; begun_with = option_or s.begun_with (then_some s.armed d) }) (calls ++ Desync d ∷ [])
desync_stands lock_ticks match_ticks s calls d h =
    let e = since_push calls (Desync d ∷ []) refl in
    record {
      armed_is = sym (ap (is_armed false) e ∙ armed_desync false (since_shutdown calls) d);
      stores = rw (e, start_desync false (since_shutdown calls) d, ← h.armed_is)
          (desync_stores lock_ticks match_ticks s (progress_of calls) s.armed d h.stores);
    }

no_shutdown : (n : ℕ) → has_shutdown (replicate n Byte) ≡ false
no_shutdown zero = refl
no_shutdown (suc n) = no_shutdown n

idle : (lock_ticks match_ticks : ℕ) (s : StartupState) (progress : StartupProgress) (n : ℕ) → s.begun_with ≡ None → StoresAt lock_ticks match_ticks s progress → StoresAt lock_ticks match_ticks s (further n progress)
idle lock_ticks match_ticks s NotBegun n none h = h
idle lock_ticks match_ticks s (Begun cor0 bytes) n none h =
    let some : s.begun_with ≡ Some cor0 = h.begun_with_is in absurd (cc (none, some))

-- bytes at a startup that hasn't begun
pub idle_stands : (lock_ticks match_ticks : ℕ) (s : StartupState) (calls : List Call) (n : ℕ) → s.begun_with ≡ None → StandsForCalls lock_ticks match_ticks s calls →
    StandsForCalls lock_ticks match_ticks s (calls ++ replicate n Byte)
idle_stands lock_ticks match_ticks s calls n none h =
    let e = since_push calls (replicate n Byte) (no_shutdown n) in
    record {
      armed_is = h.armed_is ∙ sym (ap (is_armed false) e ∙ armed_bytes false (since_shutdown calls) n);
      stores = rw (e, start_bytes false (since_shutdown calls) n)
          (idle lock_ticks match_ticks s (progress_of calls) n none h.stores);
    }

goes_on : (lock_ticks match_ticks : ℕ) (s : StartupState) (progress : StartupProgress) (n cor0 more tick_bytes ticks phase : ℕ) → s.begun_with ≡ Some cor0 →
    more ≡ (s.tick_bytes + n) / 4 → tick_bytes ≡ (s.tick_bytes + n) % 4 →
    PassesTicks (wait_of lock_ticks match_ticks cor0) (reached s.ticks s.phase) more (reached ticks phase) → StoresAt lock_ticks match_ticks s progress →
    StoresAt lock_ticks match_ticks (record s { tick_bytes = tick_bytes; ticks = ticks; phase = phase }) (further n progress)
goes_on lock_ticks match_ticks s NotBegun n cor0 more tick_bytes ticks phase some m q passes h =
    let none : s.begun_with ≡ None = h.begun_with_is in absurd (cc (some, none))
goes_on lock_ticks match_ticks s (Begun c b) n cor0 more tick_bytes ticks phase some m q passes h =
    let was : s.begun_with ≡ Some c = h.begun_with_is in
    let same : c ≡ cor0 = cc (some, was) in
    let before : s.tick_bytes ≡ b % 4 = h.tick_bytes_are in
    let all : b / 4 + more ≡ (b + n) / 4 = omega arith in
    let p : IsPhase (wait_of lock_ticks match_ticks c) (b / 4) s.phase = h.phase_is in
    let r = passes (b / 4) h.ticks_are (rw same at p) in
    let t : ticks ≡ min ((b + n) / 4) tick_limit = rw (← all) r.0 in
    let f : IsPhase (wait_of lock_ticks match_ticks cor0) ((b + n) / 4) phase = rw all at r.1 in
    record { begun_with_is = was; tick_bytes_are = omega arith; ticks_are = t; phase_is = rw same f }

-- bytes at a startup that has begun
pub running_stands : (lock_ticks match_ticks : ℕ) (s : StartupState) (calls : List Call) (n cor0 more tick_bytes ticks phase : ℕ) → s.begun_with ≡ Some cor0 →
    more ≡ (s.tick_bytes + n) / 4 → tick_bytes ≡ (s.tick_bytes + n) % 4 →
    PassesTicks (wait_of lock_ticks match_ticks cor0) (reached s.ticks s.phase) more (reached ticks phase) → StandsForCalls lock_ticks match_ticks s calls →
    StandsForCalls lock_ticks match_ticks (record s { tick_bytes = tick_bytes; ticks = ticks; phase = phase }) (calls ++ replicate n Byte)
running_stands lock_ticks match_ticks s calls n cor0 more tick_bytes ticks phase begun m q passes h =
    let e = since_push calls (replicate n Byte) (no_shutdown n) in
    record {
      armed_is = h.armed_is ∙ sym (ap (is_armed false) e ∙ armed_bytes false (since_shutdown calls) n);
      stores = rw (e, start_bytes false (since_shutdown calls) n)
          (goes_on lock_ticks match_ticks s (progress_of calls) n cor0 more tick_bytes ticks phase begun m q passes h.stores);
    }

-- a byte that ends no tick
pub within_tick : (lock_ticks match_ticks : ℕ) (s : StartupState) (calls : List Call) (cor0 : ℕ) → s.begun_with ≡ Some cor0 → s.tick_bytes < 3 →
    StandsForCalls lock_ticks match_ticks s calls → StandsForCalls lock_ticks match_ticks (record s { tick_bytes = s.tick_bytes + 1 }) (calls ++ Byte ∷ [])
within_tick lock_ticks match_ticks s calls cor0 begun small h =
    running_stands lock_ticks match_ticks s calls 1 cor0 0 (s.tick_bytes + 1) s.ticks s.phase begun (omega arith) (omega arith)
    (λ t e p. let z : t + 0 ≡ t = omega arith in rw z (e, p)) h

-- ---- how far startup is, and whether it is armed, after one call more

pub progress_arm : (calls : List Call) → progress_of (calls ++ Arm ∷ []) ≡ progress_of calls
progress_arm calls = ap (progress_from false) (since_push calls (Arm ∷ []) refl) ∙ start_arm false (since_shutdown calls)

pub progress_desync : (calls : List Call) (d : ℕ) → progress_of (calls ++ Desync d ∷ []) ≡ progress_after_desync (progress_of calls) (is_armed false (since_shutdown calls)) d
progress_desync calls d = ap (progress_from false) (since_push calls (Desync d ∷ []) refl) ∙ start_desync false (since_shutdown calls) d

pub progress_drop : (calls : List Call) → progress_of (calls ++ DropBack ∷ []) ≡ NotBegun
progress_drop calls = ap (progress_from false) (since_last calls)

pub is_armed_arm : (calls : List Call) → is_armed false (since_shutdown (calls ++ Arm ∷ [])) ≡ true
is_armed_arm calls = ap (is_armed false) (since_push calls (Arm ∷ []) refl) ∙ armed_arm false (since_shutdown calls)

pub is_armed_desync : (calls : List Call) (d : ℕ) → is_armed false (since_shutdown (calls ++ Desync d ∷ [])) ≡ false
is_armed_desync calls d = ap (is_armed false) (since_push calls (Desync d ∷ []) refl) ∙ armed_desync false (since_shutdown calls) d

pub is_armed_drop : (calls : List Call) → is_armed false (since_shutdown (calls ++ DropBack ∷ [])) ≡ false
is_armed_drop calls = ap (is_armed false) (since_last calls)

pub is_armed_bytes : (calls : List Call) (n : ℕ) → is_armed false (since_shutdown (calls ++ replicate n Byte)) ≡ is_armed false (since_shutdown calls)
is_armed_bytes calls n = ap (is_armed false) (since_push calls (replicate n Byte) (no_shutdown n)) ∙ armed_bytes false (since_shutdown calls) n

pub progress_bytes : (calls : List Call) (n : ℕ) → progress_of (calls ++ replicate n Byte) ≡ further n (progress_of calls)
progress_bytes calls n = ap (progress_from false) (since_push calls (replicate n Byte) (no_shutdown n)) ∙ start_bytes false (since_shutdown calls) n

never_falls : (lock_ticks match_ticks : ℕ) (progress : StartupProgress) (n p q : ℕ) → IsPhaseOf lock_ticks match_ticks progress p → IsPhaseOf lock_ticks match_ticks (further n progress) q → p ≤ q
never_falls lock_ticks match_ticks NotBegun n p q h k = let first : p ≡ 0 = h in omega arith
never_falls lock_ticks match_ticks (Begun cor0 bytes) n p q h k = phase_rises (wait_of lock_ticks match_ticks cor0) (bytes / 4) ((bytes + n) / 4) p q (omega arith) h k

-- by bytes alone the phase never falls, so phase 7 lasts
pub phase_never_falls : (lock_ticks match_ticks : ℕ) (calls : List Call) (n p q : ℕ) → IsPhaseOf lock_ticks match_ticks (progress_of calls) p →
    IsPhaseOf lock_ticks match_ticks (progress_of (calls ++ replicate n Byte)) q → p ≤ q
phase_never_falls lock_ticks match_ticks calls n p q h k = never_falls lock_ticks match_ticks (progress_of calls) n p q h (rw (progress_bytes calls n) at k)

one_phase_of : (lock_ticks match_ticks : ℕ) (progress : StartupProgress) (p q : ℕ) → IsPhaseOf lock_ticks match_ticks progress p → IsPhaseOf lock_ticks match_ticks progress q → p ≡ q
one_phase_of lock_ticks match_ticks NotBegun p q h k = let first : p ≡ 0 = h in let second : q ≡ 0 = k in omega arith
one_phase_of lock_ticks match_ticks (Begun cor0 bytes) p q h k = one_phase (wait_of lock_ticks match_ticks cor0) (bytes / 4) p q h k

-- a list of calls has at most one phase
pub one_phase_after : (lock_ticks match_ticks : ℕ) (calls : List Call) (p q : ℕ) → IsPhaseOf lock_ticks match_ticks (progress_of calls) p → IsPhaseOf lock_ticks match_ticks (progress_of calls) q → p ≡ q
one_phase_after lock_ticks match_ticks calls p q h k = one_phase_of lock_ticks match_ticks (progress_of calls) p q h k
