-- Startup over a history that grows: what it is after each access, by what that asks of it.
use Rattle.std.proofs.Common.{◌≡◌, ◌/◌, ◌+◌, ◌-◌, ◌≤◌, ◌⊎◌, inl, inr, ℕ, Bool, true, false, Option, List, [], ◌∷◌, ◌++◌, refl, sym, ap, ap₂, subst, ◌∙◌, append-nil, arith}
use Rattle.x7_packets.specs.History.{Access, History, entry}
use Rattle.x7_part.specs.Part.{PartData}
use Rattle.x7_startup.specs.Phases.{IsPhase, first_tick_of, wait_of}
use Rattle.x7_startup.specs.Startup.{Begun, Call, NotBegun, StartupProgress, cor0_of, is_armed, progress_of, since_shutdown}
use Rattle.x7_startup.specs.Startup as call
use Rattle.x7_startup.specs.Lines.{done_line, gts_line, gwe_line}
use Rattle.x7_startup.specs.declared.lines.Lines.{Lines}
use Rattle.x7_startup.proofs.CallLemmas.{progress_after_desync, further, is_armed_arm, is_armed_bytes, is_armed_desync, is_armed_drop, progress_arm, progress_bytes, progress_desync, progress_drop}
use Rattle.x7_startup.proofs.PhaseLemmas.{one_phase}
use Rattle.x7_engine.specs.Clock.{newest_place}
use Rattle.x7_engine.specs.Startup.{phase_by, phase_of, startup_call, startup_calls, startup_progress}
use Rattle.x7_engine.specs.Value.{lines_by}
use Rattle.x7_engine.proofs.ClockLemmas.{last_of, phase_rises, startup_entered, startup_more}
use Rattle.x7_engine.proofs.StartupLemmas.{phase_is}

-- whether startup is armed after n bytes, and how far it is
pub record HasStartup (h : History) (n : ℕ) (armed : Bool) (progress : StartupProgress) : Type 0 where
  pub armed_is : is_armed false (since_shutdown (startup_calls h n)) ≡ armed
  pub progress_is : startup_progress h n ≡ progress

pub startup_bytes : (h : History) (n m : ℕ) (armed : Bool) (progress : StartupProgress) → newest_place h ≤ n → n ≤ m → HasStartup h n armed progress → HasStartup h m armed (further (m - n) progress)
startup_bytes h n m armed progress l k s =
    let sum : n + (m - n) ≡ m = omega (arith, k) in
    subst (λ (x : ℕ). HasStartup h x armed (further (m - n) progress)) sum (record {
      armed_is = ap (λ (t : List Call). is_armed false (since_shutdown t)) (startup_more h n (m - n) l) ∙ is_armed_bytes (startup_calls h n) (m - n) ∙ s.armed_is;
      progress_is = ap progress_of (startup_more h n (m - n) l) ∙ progress_bytes (startup_calls h n) (m - n) ∙ ap (further (m - n)) s.progress_is;
    })

-- the calls of startup with those of one access more
entered_by : (h : History) (access : Access) (place : ℕ) (calls : List Call) → startup_call h access ≡ calls → startup_calls (entry access place ∷ h) place ≡ startup_calls h place ++ calls
entered_by h access place calls e = startup_entered h access place ∙ ap (λ (t : List Call). startup_calls h place ++ t) e

-- an access that asks nothing of startup leaves it as it was
pub startup_none : (h : History) (access : Access) (place : ℕ) (armed : Bool) (progress : StartupProgress) → startup_call h access ≡ [] → HasStartup h place armed progress → HasStartup (entry access place ∷ h) place armed progress
startup_none h access place armed progress e s =
    let same : startup_calls (entry access place ∷ h) place ≡ startup_calls h place = entered_by h access place [] e ∙ append-nil (startup_calls h place) in
    record {
      armed_is = ap (λ (t : List Call). is_armed false (since_shutdown t)) same ∙ s.armed_is;
      progress_is = ap progress_of same ∙ s.progress_is;
    }

-- START arms startup
pub startup_armed : (h : History) (access : Access) (place : ℕ) (armed : Bool) (progress : StartupProgress) → startup_call h access ≡ call.Arm ∷ [] → HasStartup h place armed progress → HasStartup (entry access place ∷ h) place true progress
startup_armed h access place armed progress e s =
    let calls : startup_calls (entry access place ∷ h) place ≡ startup_calls h place ++ call.Arm ∷ [] = entered_by h access place (call.Arm ∷ []) e in
    record {
      armed_is = ap (λ (t : List Call). is_armed false (since_shutdown t)) calls ∙ is_armed_arm (startup_calls h place);
      progress_is = ap progress_of calls ∙ progress_arm (startup_calls h place) ∙ s.progress_is;
    }

-- a shutdown that is taken leaves startup not begun
pub startup_dropped : (h : History) (access : Access) (place : ℕ) → startup_call h access ≡ call.DropBack ∷ [] → HasStartup (entry access place ∷ h) place false NotBegun
startup_dropped h access place e =
    let calls : startup_calls (entry access place ∷ h) place ≡ startup_calls h place ++ call.DropBack ∷ [] = entered_by h access place (call.DropBack ∷ []) e in
    record {
      armed_is = ap (λ (t : List Call). is_armed false (since_shutdown t)) calls ∙ is_armed_drop (startup_calls h place);
      progress_is = ap progress_of calls ∙ progress_drop (startup_calls h place);
    }

-- DESYNC begins an armed startup that hasn't begun, and leaves it unarmed
pub startup_desynced : (h : History) (access : Access) (place cor0 : ℕ) (armed : Bool) (progress : StartupProgress) → startup_call h access ≡ call.Desync cor0 ∷ [] → HasStartup h place armed progress
    → HasStartup (entry access place ∷ h) place false (progress_after_desync progress armed cor0)
startup_desynced h access place cor0 armed progress e s =
    let calls : startup_calls (entry access place ∷ h) place ≡ startup_calls h place ++ call.Desync cor0 ∷ [] = entered_by h access place (call.Desync cor0 ∷ []) e in
    record {
      armed_is = ap (λ (t : List Call). is_armed false (since_shutdown t)) calls ∙ is_armed_desync (startup_calls h place) cor0;
      progress_is = ap progress_of calls ∙ progress_desync (startup_calls h place) cor0
          ∙ ap (λ (p : StartupProgress). progress_after_desync p (is_armed false (since_shutdown (startup_calls h place))) cor0) s.progress_is
          ∙ ap (λ (b : Bool). progress_after_desync progress b cor0) s.armed_is;
    }

-- DESYNC is the newest access, or there is none: startup isn't armed
pub never_armed : (n : ℕ) → is_armed false (since_shutdown (startup_calls [] n)) ≡ false
never_armed n = is_armed_bytes [] n

pub disarmed : (h : History) (access : Access) (place n cor0 : ℕ) → startup_call h access ≡ call.Desync cor0 ∷ [] → place ≤ n → is_armed false (since_shutdown (startup_calls (entry access place ∷ h) n)) ≡ false
disarmed h access place n cor0 e l =
    let here : HasStartup (entry access place ∷ h) place false (progress_after_desync (startup_progress h place) (is_armed false (since_shutdown (startup_calls h place))) cor0) =
    startup_desynced h access place cor0 (is_armed false (since_shutdown (startup_calls h place))) (startup_progress h place) e (record { armed_is = refl; progress_is = refl }) in
    (startup_bytes (entry access place ∷ h) place n false _ (omega arith) l here).armed_is

-- ---- startup that hasn't begun and isn't armed, or has ended: the phase, and the COR0 that it began with

-- startup has ended in a history and in a progress, with one COR0
pub record HasEndedAs (part : PartData) (startup : StartupProgress) (h : History) (n : ℕ) : Type 0 where
  pub seven : phase_of part h n ≡ 7
  pub before : phase_by part startup ≡ 7
  pub same : cor0_of (startup_progress h n) ≡ cor0_of startup

abbrev pub IsStill : PartData → StartupProgress → History → ℕ → Type 0
IsStill part startup h n = (HasStartup h n false NotBegun × (startup ≡ NotBegun)) ⊎ HasEndedAs part startup h n

pub still_phase : (part : PartData) (startup : StartupProgress) (h : History) (n : ℕ) → IsStill part startup h n → phase_of part h n ≡ phase_by part startup
still_phase part startup h n (inl s) = ap (phase_by part) (s.0.progress_is ∙ sym s.1)
still_phase part startup h n (inr s) = s.seven ∙ sym s.before

-- the lines by COR0 and the phase
abbrev pub lines_at : Option ℕ → ℕ → Lines
lines_at cor0 phase = record { done = done_line cor0 phase; gts = gts_line cor0 phase; gwe = gwe_line cor0 phase }

pub still_lines : (part : PartData) (startup : StartupProgress) (h : History) (n : ℕ) → IsStill part startup h n → lines_by part (startup_progress h n) ≡ lines_by part startup
still_lines part startup h n (inl s) = ap (lines_by part) (s.0.progress_is ∙ sym s.1)
still_lines part startup h n (inr s) = ap₂ lines_at s.same (s.seven ∙ sym s.before)

pub still_rests : (part : PartData) (startup : StartupProgress) (h : History) (n : ℕ) → IsStill part startup h n → (startup_progress h n ≡ NotBegun) ⊎ (phase_of part h n ≡ 7)
still_rests part startup h n (inl s) = inl s.0.progress_is
still_rests part startup h n (inr s) = inr s.seven

ended_bytes : (part : PartData) (h : History) (n m : ℕ) → newest_place h ≤ n → n ≤ m → phase_of part h n ≡ 7 → phase_of part h m ≡ 7
ended_bytes part h n m l k e =
    let sum : n + (m - n) ≡ m = omega (arith, k) in
    let rises : phase_of part h n ≤ phase_of part h (n + (m - n)) = phase_rises part h n (m - n) l in
    let most : phase_of part h (n + (m - n)) ≤ 7 = last_of part (startup_progress h (n + (m - n))) in
    let end : phase_of part h (n + (m - n)) ≡ 7 = omega (arith, rises, most, e) in
    subst (λ (x : ℕ). phase_of part h x ≡ 7) sum end

further_cor0 : (n : ℕ) (p : StartupProgress) → cor0_of (further n p) ≡ cor0_of p
further_cor0 n NotBegun = refl
further_cor0 n (Begun c bytes) = refl

cor0_bytes : (h : History) (n m : ℕ) → newest_place h ≤ n → n ≤ m → cor0_of (startup_progress h m) ≡ cor0_of (startup_progress h n)
cor0_bytes h n m l k =
    let sum : n + (m - n) ≡ m = omega (arith, k) in
    ap (λ (x : ℕ). cor0_of (startup_progress h x)) (sym sum)
    ∙ ap (λ (t : List Call). cor0_of (progress_of t)) (startup_more h n (m - n) l)
    ∙ ap cor0_of (progress_bytes (startup_calls h n) (m - n))
    ∙ further_cor0 (m - n) (startup_progress h n)

pub still_bytes : (part : PartData) (startup : StartupProgress) (h : History) (n m : ℕ) → newest_place h ≤ n → n ≤ m → IsStill part startup h n → IsStill part startup h m
still_bytes part startup h n m l k (inl s) = inl (startup_bytes h n m false NotBegun l k s.0, s.1)
still_bytes part startup h n m l k (inr s) = inr (record { seven = ended_bytes part h n m l k s.seven; before = s.before; same = cor0_bytes h n m l k ∙ s.same })

pub still_none : (part : PartData) (startup : StartupProgress) (h : History) (access : Access) (place : ℕ) → startup_call h access ≡ [] → IsStill part startup h place → IsStill part startup (entry access place ∷ h) place
still_none part startup h access place e (inl s) = inl (startup_none h access place false NotBegun e s.0, s.1)
still_none part startup h access place e (inr s) =
    let same : startup_calls (entry access place ∷ h) place ≡ startup_calls h place = entered_by h access place [] e ∙ append-nil (startup_calls h place) in
    inr (record {
      seven = ap (λ (t : List Call). phase_by part (progress_of t)) same ∙ s.seven;
      before = s.before;
      same = ap (λ (t : List Call). cor0_of (progress_of t)) same ∙ s.same;
    })

-- startup that has ended stays as it is over DESYNC
goes_on : (part : PartData) (progress : StartupProgress) (armed : Bool) (cor0 : ℕ) → phase_by part progress ≡ 7 → progress_after_desync progress armed cor0 ≡ progress
goes_on part NotBegun armed cor0 e = absurd (omega (arith, e))
goes_on part (Begun c bytes) armed cor0 e = refl

pub still_desynced : (part : PartData) (startup : StartupProgress) (h : History) (access : Access) (place cor0 : ℕ) → startup_call h access ≡ call.Desync cor0 ∷ [] → IsStill part startup h place → IsStill part startup (entry access place ∷ h) place
still_desynced part startup h access place cor0 e (inl s) = inl (startup_desynced h access place cor0 false NotBegun e s.0, s.1)
still_desynced part startup h access place cor0 e (inr s) =
    let calls : startup_calls (entry access place ∷ h) place ≡ startup_calls h place ++ call.Desync cor0 ∷ [] = entered_by h access place (call.Desync cor0 ∷ []) e in
    let armed : Bool = is_armed false (since_shutdown (startup_calls h place)) in
    let progress : startup_progress (entry access place ∷ h) place ≡ startup_progress h place =
    ap progress_of calls ∙ progress_desync (startup_calls h place) cor0 ∙ goes_on part (startup_progress h place) armed cor0 s.seven in
    inr (record { seven = ap (phase_by part) progress ∙ s.seven; before = s.before; same = ap cor0_of progress ∙ s.same })

-- ---- the startup of a full stream: COR0 waits in no phase, so seven ticks end it

no_waits : (lock matched : ℕ) → first_tick_of (wait_of lock matched 0x02003FE5) 7 ≡ 7
unfolding first_tick_of
no_waits lock matched = refl

pub ends_in_seven : (part : PartData) (bytes : ℕ) → 28 ≤ bytes → phase_by part (Begun 0x02003FE5 bytes) ≡ 7
ends_in_seven part bytes l =
    let wait : ℕ → ℕ = wait_of part.lock part.matched 0x02003FE5 in
    let seven : IsPhase wait (bytes / 4) 7 = record { most = omega arith; begun = omega (arith, l, no_waits part.lock part.matched); greatest = λ p small come. small } in
    one_phase wait (bytes / 4) (phase_by part (Begun 0x02003FE5 bytes)) 7 (phase_is part (Begun 0x02003FE5 bytes)) seven
