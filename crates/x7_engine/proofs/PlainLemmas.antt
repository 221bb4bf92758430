-- Lemmas on words written to a register that has no effect beside the check.
use Rattle.std.proofs.Common.{◌≡◌, ◌==◌, ◌&&◌, ◌||◌, ◌+◌, ◌-◌, ◌*◌, ◌%◌, ◌^◌, ◌<◌, ◌≤◌, ℕ, zero, suc, Bool, true, false, if◌then◌else◌, Option, None, Some, [], ◌∷◌, ◌++◌, List, length, take, map, replicate, refl, sym, ap, subst, ◌∙◌, append-nil, arith}
use Rattle.std.proofs.Math.Seq.{take-length}
use Rattle.std.proofs.lemmas.List.{length-map, map-append, take-map, take_more}
use Rattle.std.proofs.lemmas.Option.{get_or_from_slice_get, slice_get_within}
use Rattle.std.specs.List.{slice_get}
use Rattle.std.specs.Option.{option_or}
use Rattle.x7_words.specs.Word.{word_of_bytes, words_of_bytes}
use Rattle.x7_packets.specs.History.{Access, History, Placed, Write, command_held, entered_all, entry, executed_by, until}
use Rattle.x7_packets.specs.Packet.{payload_steps}
use Rattle.x7_packets.specs.CheckedWrites.{clears}
use Rattle.x7_packets.proofs.GrowthLemmas.{placed_within, until_placed}
use Rattle.x7_packets.proofs.HistoryLemmas.{kept_all}
use Rattle.x7_part.specs.Part.{PartData}
use Rattle.x7_startup.specs.Startup.{StandsForCalls, progress_of}
use Rattle.x7_startup.specs.Startup as call
use Rattle.x7_startup.specs.Watchdog.{Watched, WatchesFor, watched_count, is_on, timer_value_of}
use Rattle.x7_flow.specs.Asking.{Asked, NothingAsked}
use Rattle.x7_flow.specs.HistoryFlow.{asked_after, fault_by, flow_of, frame_fault}
use Rattle.x7_engine.specs.declared.fault.Fault.TheVariants as fault
use Rattle.x7_engine.specs.declared.kept.Kept.{Kept}
use Rattle.x7_engine.specs.declared.stop.StopCause.{StopCause}
use Rattle.x7_engine.specs.declared.stop.StopCause.TheVariants as stop
use Rattle.x7_engine.specs.Clock.{ClockState, IsClock, newest_place}
use Rattle.x7_engine.specs.Kept.{is_fallback}
use Rattle.x7_flow.specs.Controls.{has_idcode, same_idcode}
use Rattle.x7_engine.specs.Registers.{has_ghigh_after, has_effect, has_ghigh, clears_check, is_controlling, is_pending, is_pending_after, takes_shutdown, word_held, wrote_iprog}
use Rattle.x7_engine.specs.Standing.{AreControls, ControlsState, counted_in}
use Rattle.x7_engine.specs.Startup.{startup_ended, phase_by, startup_call, startup_calls}
use Rattle.x7_engine.specs.State.{last_counted}
use Rattle.x7_engine.specs.Stop.{why_besides_frames, why_by_frames, why_at_access, first_stop_of_history, stop_at_place, stop_at_firing}
use Rattle.x7_engine.specs.Watching.{fired_or, watchdog_fires, first_firing, timer_held, watch_call, watch_calls, watched_bytes}
use Rattle.x7_engine.proofs.ClockLemmas.{startup_entered, startup_more, stop_more_bytes, watch_entered, watch_more}
use Rattle.x7_engine.proofs.TurnLemmas.{prefix_until, newest_within}
use Rattle.std.proofs.lemmas.Bool.{or_parts}

-- words of the register move no flag, no register under MASK and no clock, and are just folded into the check
pub record IsQuiet (register : ℕ) : Type 0 where
  pub crc : (register == 0) ≡ false
  pub far : (register == 1) ≡ false
  pub cmd : (register == 4) ≡ false
  pub ctl0 : (register == 5) ≡ false
  pub lout : (register == 8) ≡ false
  pub idcode : (register == 12) ≡ false
  pub timer : (register == 17) ≡ false
  pub ctl1 : (register == 24) ≡ false

-- the register is none of those whose words have an effect
pub record IsPlain (register : ℕ) : Type 0 where
  pub quiet : IsQuiet register
  pub fdri : (register == 2) ≡ false
  pub mfwr : (register == 10) ≡ false
  pub cbc : (register == 11) ≡ false

pub quiet_is : (register : ℕ) → is_controlling register ≡ false → IsQuiet register
quiet_is register e =
    let crc = or_parts (register == 0) _ e in
    let far = or_parts (register == 1) _ crc.1 in
    let cmd = or_parts (register == 4) _ far.1 in
    let ctl0 = or_parts (register == 5) _ cmd.1 in
    let lout = or_parts (register == 8) _ ctl0.1 in
    let idcode = or_parts (register == 12) _ lout.1 in
    let timer = or_parts (register == 17) _ idcode.1 in
    let ctl1 = or_parts (register == 24) _ timer.1 in
    record { crc = crc.0; far = far.0; cmd = cmd.0; ctl0 = ctl0.0; lout = lout.0; idcode = idcode.0; timer = timer.0; ctl1 = ctl1.0 }

pub plain_is : (register : ℕ) → has_effect register ≡ false → IsPlain register
plain_is register e =
    let fdri = or_parts (register == 2) _ e in
    let mfwr = or_parts (register == 10) _ fdri.1 in
    let cbc = or_parts (register == 11) _ mfwr.1 in
    record { quiet = quiet_is register cbc.1; fdri = fdri.0; mfwr = mfwr.0; cbc = cbc.0 }

pub fdri_quiet : IsQuiet 2
fdri_quiet = record { crc = refl; far = refl; cmd = refl; ctl0 = refl; lout = refl; idcode = refl; timer = refl; ctl1 = refl }

pub mfwr_quiet : IsQuiet 10
mfwr_quiet = record { crc = refl; far = refl; cmd = refl; ctl0 = refl; lout = refl; idcode = refl; timer = refl; ctl1 = refl }

-- a word written to a quiet register executes no command, and clears no check
pub executes_none : (held register w : ℕ) → IsQuiet register → executed_by held (Write register w) ≡ None
executes_none held register w p = rw (p.cmd, p.far) refl

pub clears_none : (h : History) (register w : ℕ) → IsQuiet register → clears h (Write register w) ≡ false
clears_none h register w p = rw (executes_none (command_held h) register w p, p.crc) refl

-- a word written to a plain register asks nothing of the frames
pub plain_asks : (idcode : ℕ) (h : History) (register w : ℕ) → IsPlain register → asked_after idcode h (Write register w) ≡ NothingAsked
plain_asks idcode h register w p = let q = p.quiet in rw (q.far, q.cmd, p.fdri, p.mfwr) refl

own_none : (part : PartData) (kept : Kept) (h : History) (register w : ℕ) → IsPlain register → why_besides_frames part kept h (Write register w) ≡ None
own_none part kept h register w p = let q = p.quiet in rw (executes_none (command_held h) register w q, q.crc, p.fdri, q.cmd, q.ctl0, p.mfwr, p.cbc, q.idcode) refl

pub why_none : (part : PartData) (kept : Kept) (h : History) (register w : ℕ) → IsPlain register → None ≡ why_at_access part kept h (Write register w)
why_none part kept h register w p =
    sym (ap (λ (o : Option StopCause). option_or o (why_by_frames (frame_fault part h (Write register w)))) (own_none part kept h register w p)
    ∙ ap (λ (a : Asked). why_by_frames (fault_by part a (flow_of part h))) (plain_asks part.idcode h register w p))

-- the flags are those of the history
pub record AreFlags (idcode : ℕ) (matched pending ghigh iprog : Bool) (h : History) : Type 0 where
  pub matched_is : matched ≡ has_idcode idcode h
  pub pending_is : pending ≡ is_pending h
  pub ghigh_is : ghigh ≡ has_ghigh h
  pub iprog_is : iprog ≡ wrote_iprog h

-- the flags stay after a word written to a quiet register
pub flags_more : (idcode : ℕ) (matched pending ghigh iprog : Bool) (h : History) (register w place : ℕ) → IsQuiet register → AreFlags idcode matched pending ghigh iprog h → AreFlags idcode matched pending ghigh iprog (entry (Write register w) place ∷ h)
flags_more idcode matched pending ghigh iprog h register w place p s =
    let none : executed_by (command_held h) (Write register w) ≡ None = executes_none (command_held h) register w p in
    let cleared : clears_check h (Write register w) ≡ false = rw (none, p.crc) refl in
    record {
      matched_is = s.matched_is ∙ sym (ap (λ b. b && same_idcode idcode w || has_idcode idcode h) p.idcode);
      pending_is = s.pending_is ∙ sym (ap (λ o. is_pending_after o (clears_check h (Write register w)) (is_pending h)) none ∙ ap (λ b. is_pending_after None b (is_pending h)) cleared);
      ghigh_is = s.ghigh_is ∙ sym (ap (λ o. has_ghigh_after o (takes_shutdown h (Write register w)) (has_ghigh h)) none ∙ ap (λ b. has_ghigh_after None (b && is_pending h) (has_ghigh h)) cleared);
      iprog_is = s.iprog_is ∙ sym (ap (λ b. b && w % 2 ^ 5 == 15 || wrote_iprog h) p.cmd);
    }

-- an access that asks nothing of startup and of the watchdog leaves the clock
pub clock_other : (part : PartData) (kept : Kept) (c : ClockState) (h : History) (access : Access) (place : ℕ) → startup_call h access ≡ [] → watch_call h access ≡ [] → IsClock part kept c h place → IsClock part kept c (entry access place ∷ h) place
clock_other part kept c h access place start watch s =
    let calls : startup_calls (entry access place ∷ h) place ≡ startup_calls h place = startup_entered h access place ∙ ap (λ t. startup_calls h place ++ t) start ∙ append-nil (startup_calls h place) in
    let watched : watch_calls part (entry access place ∷ h) place ≡ watch_calls part h place = watch_entered part h access place ∙ ap (λ t. watch_calls part h place ++ t) watch ∙ append-nil (watch_calls part h place) in
    record {
      startup = subst (λ t. StandsForCalls part.lock part.matched c.startup t) (sym calls) s.startup;
      watchdog = subst (λ t. WatchesFor (is_fallback kept.kind) kept.timer c.watchdog t) (sym watched) s.watchdog;
    }

-- a word written to a quiet register asks nothing of the clock
pub clock_plain : (part : PartData) (kept : Kept) (c : ClockState) (h : History) (register w place : ℕ) → IsQuiet register → IsClock part kept c h place → IsClock part kept c (entry (Write register w) place ∷ h) place
clock_plain part kept c h register w place p s =
    let start : startup_call h (Write register w) ≡ [] = rw (executes_none (command_held h) register w p, p.crc) refl in
    let watch : watch_call h (Write register w) ≡ [] = rw (executes_none (command_held h) register w p, p.timer) refl in
    clock_other part kept c h (Write register w) place start watch s

-- of words written to a register the last one is held, and other registers hold what they held
pub word_held_all : (kept : Kept) (r register n last : ℕ) (prefix : List ℕ) (h : History) → word_held kept r (entered_all n (payload_steps register (prefix ++ last ∷ [])) h) ≡ (if register == r then last else word_held kept r h)
word_held_all kept r register n last [] h = refl
word_held_all kept r register n last (x ∷ prefix) h =
    word_held_all kept r register (n + 4) last prefix (entry (Write register x) (n + 4) ∷ h)
    ∙ elim (register == r) as (λ b. (if b then last else if b then x else word_held kept r h) ≡ (if b then last else word_held kept r h)) [ true ↦ refl | false ↦ refl ]

-- the chunks up to the last one, and the last one
chunks_last : (chunks : List (List ℕ)) (last : List ℕ) → slice_get chunks (length chunks - 1) ≡ Some last → chunks ≡ take (length chunks - 1) chunks ++ last ∷ []
chunks_last chunks last e =
    let within : length chunks - 1 < length chunks = slice_get_within chunks (length chunks - 1) last e in
    let whole : length chunks - 1 + 1 ≡ length chunks = omega arith in
    sym (take-length chunks)
    ∙ ap (λ (k : ℕ). take k chunks) (sym whole)
    ∙ take_more chunks (length chunks - 1) [] within
    ∙ ap (λ x. take (length chunks - 1) chunks ++ x ∷ []) (get_or_from_slice_get chunks (length chunks - 1) last [] e)

pub words_last : (chunks : List (List ℕ)) (last : List ℕ) (w : ℕ) → slice_get chunks (length chunks - 1) ≡ Some last → w ≡ word_of_bytes last
    → map word_of_bytes chunks ≡ map word_of_bytes (take (length chunks - 1) chunks) ++ w ∷ []
words_last chunks last w e f =
    ap (map word_of_bytes) (chunks_last chunks last e)
    ∙ map-append word_of_bytes (take (length chunks - 1) chunks) (last ∷ [])
    ∙ ap (λ x. map word_of_bytes (take (length chunks - 1) chunks) ++ x ∷ []) (sym f)

-- registers under MASK stay after words written to a quiet register
pub controls_stay : (d : ControlsState) (register n : ℕ) (ws : List ℕ) (h : History) → IsQuiet register → AreControls d h → AreControls d (entered_all n (payload_steps register ws) h)
controls_stay d register n ws h p s =
    kept_all (AreControls d) register (λ (h : History) (w place : ℕ) (s : AreControls d h). record { ctl0 = rw p.ctl0 s.ctl0; ctl1 = rw p.ctl1 s.ctl1 }) n ws h s

-- the flags stay after words written to a quiet register
pub flags_stay : (idcode : ℕ) (matched pending ghigh iprog : Bool) (register n : ℕ) (ws : List ℕ) (h : History) → IsQuiet register → AreFlags idcode matched pending ghigh iprog h → AreFlags idcode matched pending ghigh iprog (entered_all n (payload_steps register ws) h)
flags_stay idcode matched pending ghigh iprog register n ws h p s =
    kept_all (AreFlags idcode matched pending ghigh iprog) register (λ (h : History) (w place : ℕ) (s : AreFlags idcode matched pending ghigh iprog h). flags_more idcode matched pending ghigh iprog h register w place p s) n ws h s

-- ---- words of a quiet or plain register, after bytes that the clock took already

plain_calls : (h : History) (register w : ℕ) → IsQuiet register → startup_call h (Write register w) ≡ []
plain_calls h register w p = rw (executes_none (command_held h) register w p, p.crc) refl

plain_watches : (h : History) (register w : ℕ) → IsQuiet register → watch_call h (Write register w) ≡ []
plain_watches h register w p = rw (executes_none (command_held h) register w p, p.timer) refl

plain_startup : (h : History) (register w place m : ℕ) → IsQuiet register → newest_place h ≤ place → place ≤ m → startup_calls (entry (Write register w) place ∷ h) m ≡ startup_calls h m
plain_startup h register w place m p l k =
    let sum : place + (m - place) ≡ m = omega (arith, k) in
    ap (λ t. (startup_calls h place ++ t) ++ replicate (m - place) call.Byte) (plain_calls h register w p)
    ∙ ap (λ t. t ++ replicate (m - place) call.Byte) (append-nil (startup_calls h place))
    ∙ sym (startup_more h place (m - place) l)
    ∙ ap (startup_calls h) sum

plain_ended : (part : PartData) (h : History) (register w place m : ℕ) → IsQuiet register → newest_place h ≤ place → place ≤ m → startup_ended part (entry (Write register w) place ∷ h) m ≡ startup_ended part h m
plain_ended part h register w place m p l k = ap (λ t. phase_by part (progress_of t) == 7) (plain_startup h register w place m p l k)

plain_watched : (part : PartData) (h : History) (register w place count : ℕ) → IsQuiet register → newest_place h ≤ place → watched_bytes part (entry (Write register w) place ∷ h) place count ≡ watched_bytes part h place count
plain_watched part h register w place zero p l = refl
plain_watched part h register w place (suc count) p l =
    ap (λ t. t ++ Watched (startup_ended part (entry (Write register w) place ∷ h) (place + count + 1)) ∷ []) (plain_watched part h register w place count p l)
    ∙ ap (λ (b : Bool). watched_bytes part h place count ++ Watched b ∷ []) (plain_ended part h register w place (place + count + 1) p l (omega arith))

plain_watch : (part : PartData) (h : History) (register w place m : ℕ) → IsQuiet register → newest_place h ≤ place → place ≤ m → watch_calls part (entry (Write register w) place ∷ h) m ≡ watch_calls part h m
plain_watch part h register w place m p l k =
    let sum : place + (m - place) ≡ m = omega (arith, k) in
    ap (λ t. (watch_calls part h place ++ t) ++ watched_bytes part (entry (Write register w) place ∷ h) place (m - place)) (plain_watches h register w p)
    ∙ ap (λ t. t ++ watched_bytes part (entry (Write register w) place ∷ h) place (m - place)) (append-nil (watch_calls part h place))
    ∙ ap (λ t. watch_calls part h place ++ t) (plain_watched part h register w place (m - place) p l)
    ∙ sym (watch_more part h place (m - place) l)
    ∙ ap (watch_calls part h) sum

plain_fires : (part : PartData) (kept : Kept) (h : History) (register w place m : ℕ) → IsQuiet register → newest_place h ≤ place → place ≤ m → watchdog_fires part kept (entry (Write register w) place ∷ h) m ≡ watchdog_fires part kept h m
plain_fires part kept h register w place m p l k =
    let timer : timer_held kept (entry (Write register w) place ∷ h) ≡ timer_held kept h = rw p.timer refl in
    ap (λ (t : ℕ). is_on (is_fallback kept.kind) t (startup_ended part (entry (Write register w) place ∷ h) m) && watched_count (is_fallback kept.kind) kept.timer (watch_calls part (entry (Write register w) place ∷ h) m) == timer_value_of t * 4) timer
    ∙ ap (λ (b : Bool). is_on (is_fallback kept.kind) (timer_held kept h) b && watched_count (is_fallback kept.kind) kept.timer (watch_calls part (entry (Write register w) place ∷ h) m) == timer_value_of (timer_held kept h) * 4) (plain_ended part h register w place m p l k)
    ∙ ap (λ t. is_on (is_fallback kept.kind) (timer_held kept h) (startup_ended part h m) && watched_count (is_fallback kept.kind) kept.timer t == timer_value_of (timer_held kept h) * 4) (plain_watch part h register w place m p l k)

plain_firing : (part : PartData) (kept : Kept) (h : History) (register w place count : ℕ) → IsQuiet register → newest_place h ≤ place → first_firing part kept (entry (Write register w) place ∷ h) place count ≡ first_firing part kept h place count
plain_firing part kept h register w place zero p l = refl
plain_firing part kept h register w place (suc count) p l =
    ap (λ (o : Option ℕ). fired_or o (watchdog_fires part kept (entry (Write register w) place ∷ h) (place + count + 1)) (place + count + 1)) (plain_firing part kept h register w place count p l)
    ∙ ap (λ (b : Bool). fired_or (first_firing part kept h place count) b (place + count + 1)) (plain_fires part kept h register w place (place + count + 1) p l (omega arith))

plain_stop : (part : PartData) (kept : Kept) (h : History) (register w place m : ℕ) → IsQuiet register → why_at_access part kept h (Write register w) ≡ None → newest_place h ≤ place → place ≤ m → first_stop_of_history part kept (entry (Write register w) place ∷ h) m ≡ first_stop_of_history part kept h m
plain_stop part kept h register w place m p none l k =
    let sum : place + (m - place) ≡ m = omega (arith, k) in
    ap (λ (o : Option StopCause). option_or (first_stop_of_history part kept h place) (option_or (stop_at_place place o) (stop_at_firing (first_firing part kept (entry (Write register w) place ∷ h) place (m - place))))) none
    ∙ ap (λ (o : Option ℕ). option_or (first_stop_of_history part kept h place) (stop_at_firing o)) (plain_firing part kept h register w place (m - place) p l)
    ∙ sym (stop_more_bytes part kept h place (m - place) l)
    ∙ ap (first_stop_of_history part kept h) sum

-- the clock and the stop after m bytes are those of a history
pub record Clocked (part : PartData) (kept : Kept) (c : ClockState) (d : Option StopCause) (h : History) (n m : ℕ) : Type 0 where
  pub places : Placed n h
  pub clock : IsClock part kept c h m
  pub stop : first_stop_of_history part kept h m ≡ stop_at_place m d

-- words that stop nothing, each after those before it
abbrev pub NoneStop : PartData → Kept → ℕ → ℕ → List ℕ → History → Type 0
NoneStop part kept register n [] h = Unit {0}
NoneStop part kept register n (w ∷ ws) h = (why_at_access part kept h (Write register w) ≡ None) × NoneStop part kept register (n + 4) ws (entry (Write register w) (n + 4) ∷ h)

pub plain_none : (part : PartData) (kept : Kept) (register n : ℕ) (ws : List ℕ) (h : History) → IsPlain register → NoneStop part kept register n ws h
plain_none part kept register n [] h p = tt
plain_none part kept register n (w ∷ ws) h p = (sym (why_none part kept h register w p), plain_none part kept register (n + 4) ws (entry (Write register w) (n + 4) ∷ h) p)

clocked_more : (part : PartData) (kept : Kept) (c : ClockState) (d : Option StopCause) (h : History) (n m register w : ℕ)
    → IsQuiet register → why_at_access part kept h (Write register w) ≡ None → n + 4 ≤ m → Clocked part kept c d h n m → Clocked part kept c d (entry (Write register w) (n + 4) ∷ h) (n + 4) m
clocked_more part kept c d h n m register w p none l s =
    let before : newest_place h ≤ n + 4 = omega (arith, newest_within n h s.places) in
    record {
      places = (omega arith, omega arith, placed_within n (n + 4 - 1) h (omega arith) s.places);
      clock = record {
        startup = subst (λ t. StandsForCalls part.lock part.matched c.startup t) (sym (plain_startup h register w (n + 4) m p before l)) s.clock.startup;
        watchdog = subst (λ t. WatchesFor (is_fallback kept.kind) kept.timer c.watchdog t) (sym (plain_watch part h register w (n + 4) m p before l)) s.clock.watchdog;
      };
      stop = plain_stop part kept h register w (n + 4) m p none before l ∙ s.stop;
    }

pub clocked_all : (part : PartData) (kept : Kept) (c : ClockState) (d : Option StopCause) (register n m : ℕ) (ws : List ℕ) (h : History) → IsQuiet register → NoneStop part kept register n ws h → n + 4 * length ws ≤ m → Clocked part kept c d h n m
    → Clocked part kept c d (entered_all n (payload_steps register ws) h) (n + 4 * length ws) m
clocked_all part kept c d register n m [] h p none l s = let same : n ≡ n + 0 = omega arith in subst (λ (k : ℕ). Clocked part kept c d h k m) same s
clocked_all part kept c d register n m (w ∷ ws) h p none l s =
    let place : n + 4 + 4 * length ws ≡ n + 4 * length (w ∷ ws) = omega arith in
    subst (λ (k : ℕ). Clocked part kept c d (entered_all (n + 4) (payload_steps register ws) (entry (Write register w) (n + 4) ∷ h)) k m) place
    (clocked_all part kept c d register (n + 4) m ws (entry (Write register w) (n + 4) ∷ h) p none.1 (omega (arith, l)) (clocked_more part kept c d h n m register w p none.0 (omega (arith, l)) s))

-- the accesses of the words that end before a byte
pub prefix_all : (n k m : ℕ) (register : ℕ) (ws : List ℕ) (h : History) → k ≤ length ws → n + 4 * k ≤ m → m < n + 4 * k + 4 → Placed (n + 4 * k) (entered_all n (payload_steps register (take k ws)) h)
    → until m (entered_all n (payload_steps register ws) h) ≡ entered_all n (payload_steps register (take k ws)) h
prefix_all n k m register ws h l a b p =
    let steps : length (payload_steps register ws) ≡ length ws = length-map ws _ in
    prefix_until n k m (payload_steps register ws) h (omega (arith, steps, l)) b
    ∙ ap (λ t. until m (entered_all n t h)) (take-map _ k ws)
    ∙ until_placed m (entered_all n (payload_steps register (take k ws)) h) (placed_within (n + 4 * k) m (entered_all n (payload_steps register (take k ws)) h) a p)

-- the words of the first bytes
pub words_prefix : (k : ℕ) (bytes : List ℕ) → words_of_bytes (take (k * 4) bytes) ≡ take k (words_of_bytes bytes)
words_prefix zero bytes = refl
words_prefix (suc k) bytes = ap (λ (n : ℕ). words_of_bytes (take n bytes)) next ∙ by bytes (words_prefix k)
  where
    next : suc k * 4 ≡ suc (suc (suc (suc (k * 4))))
    next = omega arith

    by : (bytes : List ℕ) → ((bytes : List ℕ) → words_of_bytes (take (k * 4) bytes) ≡ take k (words_of_bytes bytes)) → words_of_bytes (take (suc (suc (suc (suc (k * 4))))) bytes) ≡ take (suc k) (words_of_bytes bytes)
    by [] f = refl
    by (a ∷ []) f = refl
    by (a ∷ b ∷ []) f = refl
    by (a ∷ b ∷ c ∷ []) f = refl
    by (a ∷ b ∷ c ∷ d ∷ rest) f = ap (λ t. word_of_bytes (a ∷ b ∷ c ∷ d ∷ []) ∷ t) (f rest)

-- the byte up to which words count, after some bytes
pub counted_after : (d : Option StopCause) (n count left : ℕ) → ((why : StopCause) → d ≡ Some why → (why ≡ stop.Fault fault.Watchdog) × (left < count)) → counted_in d (n + (count - left)) ≡ n + counted_in d (count - left)
counted_after None n count left f = refl
counted_after (Some why) n count left f =
    let w : (why ≡ stop.Fault fault.Watchdog) × (left < count) = f why refl in
    ap (λ (l : StopCause). last_counted l (n + (count - left))) w.0 ∙ omega (arith, w.1) ∙ sym (ap (λ (l : StopCause). n + last_counted l (count - left)) w.0)
