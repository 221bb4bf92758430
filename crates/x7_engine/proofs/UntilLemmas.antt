-- Lemmas on specs/UntilStarted: in a turn startup begins at the last byte at the soonest, and where it has begun, it
-- ends some bytes later at the soonest.
use Rattle.std.proofs.Common.{◌≡◌, ◌==◌, ◌+◌, ◌-◌, ◌/◌, ◌<◌, ◌≤◌, ◌⊎◌, inl, inr, ℕ, Bool, true, false, if◌then◌else◌, Option, None, Some, List, [], ◌∷◌, ◌++◌, length, take, drop, refl, ap, sym, subst, ◌∙◌, append_assoc, append-nil, arith, length-append}
use Rattle.std.specs.Option.{is_some}
use Rattle.std.specs.Prelude.{◌&&◌, ◌||◌, not, nat_lt}
use Rattle.std.proofs.Math.Seq.{take-add, take-append_seam}
use Rattle.std.proofs.lemmas.Bool.{cases_lt}
use Rattle.std.proofs.lemmas.List.{drop-take, length-drop, length-take-le, take-append-drop, take-take}
use Rattle.x7_words.specs.Word.{AreBytes, words_of_bytes}
use Rattle.x7_words.proofs.ListLemmas.{all_prefix}
use Rattle.x7_packets.specs.declared.cutter.Cut.{Cut}
use Rattle.x7_packets.specs.declared.cutter.Cut.TheVariants.{Body, Head, Need, Skip, Sync, Word}
use Rattle.x7_packets.specs.declared.header.Step.TheVariants as step
use Rattle.x7_packets.specs.Cutter.{CutterState, CutterStandsFor, IsLent, IsRun, AfterRun, between, run_steps}
use Rattle.x7_packets.specs.History.{Access, Bad, History, Placed, Read, Write, command_held, entered_all, entry, executes, history_of, is_command, last_word, next_word, until, writes}
use Rattle.x7_packets.specs.Packet.{payload_steps}
use Rattle.x7_packets.specs.Reading.{Place, EndedSession}
use Rattle.x7_packets.proofs.GrowthLemmas.{prefix_of, placed_of, placed_within, until_placed}
use Rattle.x7_packets.proofs.HistoryLemmas.{cut_enters, kept_all, next_word_is}
use Rattle.x7_part.specs.Part.{PartData}
use Rattle.x7_startup.specs.Startup.{Call, Arm, Desync, DropBack, StartupProgress, NotBegun, Begun, StandsForCalls, cor0_of, progress_of}
use Rattle.x7_startup.proofs.CallLemmas.{further, progress_arm, progress_bytes, progress_drop}
use Rattle.x7_engine.specs.declared.fed.Fed.{Fed}
use Rattle.x7_engine.specs.declared.kept.Kept.{Kept}
use Rattle.x7_engine.specs.declared.stop.StopCause.{StopCause}
use Rattle.x7_engine.specs.declared.until_started.UntilStarted.{UntilStarted}
use Rattle.x7_engine.specs.declared.until_started.UntilStarted.TheVariants as until
use Rattle.x7_engine.specs.SoonestEnd.{soonest_end}
use Rattle.x7_engine.specs.Registers.{takes_shutdown}
use Rattle.x7_engine.specs.ReadBuffer.{ReadBufState}
use Rattle.x7_engine.specs.Past.{AnswersAt, AnswersUntilAt, Past}
use Rattle.x7_engine.specs.Standing.{DeviceStandsFor, DeviceState, EndsWords, NoWordDue, taken_in}
use Rattle.x7_engine.specs.Startup.{phase_by, phase_of, startup_call, startup_calls, startup_progress}
use Rattle.x7_engine.specs.State.{history_by, history_taken, state_of, first_stop_of_bytes, taken_by, taken_of}
use Rattle.x7_engine.specs.Stop.{Stopped, stop_at_place}
use Rattle.x7_engine.specs.UntilStarted.{AreOtherWrites, CommandsLast, HasNotBegun, IsOtherWrite, NoneBegun, NoneStarted, has_started, says_started, taken_until}
use Rattle.x7_engine.proofs.ClockLemmas.{last_of}
use Rattle.x7_engine.proofs.DeviceLemmas.{ends_words, length_between}
use Rattle.x7_engine.proofs.FeedLemmas.{taken_more}
use Rattle.x7_engine.proofs.PhaseLemmas.{phase_later}
use Rattle.x7_engine.proofs.StateLemmas.{no_stop_before, stop_is_final_stop, taken_is}
use Rattle.x7_engine.proofs.TurnLemmas.{prefix_until, step_until}

-- ---- accesses that write no CMD begin no startup

-- an access that doesn't write CMD executes no DESYNC
no_desync : (h : History) (access : Access) → writes 4 access ≡ false → executes 13 h access ≡ false
no_desync h (Read r n) e = refl
no_desync h (Bad w) e = refl
no_desync h (Write r w) e = rw e (by (r == 1) (command_held h == 13) (command_held h == 15) refl)
  where
    by : (one x y : Bool) → (command_held h == 13) ≡ x → is_command 13 (if one && not (x || y) then Some (command_held h) else None) ≡ false
    by false x y f = refl
    by true true y f = refl
    by true false true f = refl
    by true false false f = f

no_command : (access : Access) → IsOtherWrite access → writes 4 access ≡ false
no_command (Write r w) e = e
no_command (Read r n) e = absurd e
no_command (Bad w) e = absurd e

-- bytes alone begin no startup
bytes_begin_none : (k : ℕ) (p : StartupProgress) → p ≡ NotBegun → further k p ≡ NotBegun
bytes_begin_none k p e = ap (further k) e

none_before_bytes : (k : ℕ) (p : StartupProgress) → further k p ≡ NotBegun → p ≡ NotBegun
none_before_bytes k NotBegun e = refl
none_before_bytes k (Begun c m) e = absurd (cc)

unbegun_at_any : (h : History) (n m : ℕ) → startup_progress h n ≡ NotBegun → startup_progress h m ≡ NotBegun
unbegun_at_any [] n m e = progress_bytes [] m
unbegun_at_any (x ∷ h) n m e =
    let calls : List Call = startup_calls h x.place ++ startup_call h x.access in
    progress_bytes calls (m - x.place) ∙ bytes_begin_none (m - x.place) (progress_of calls) (none_before_bytes (n - x.place) (progress_of calls) (sym (progress_bytes calls (n - x.place)) ∙ e))

-- the call of an access that executes no DESYNC begins no startup
called : (calls : List Call) (arms drops desyncs : Bool) (d : ℕ) → desyncs ≡ false → progress_of calls ≡ NotBegun
    → progress_of (calls ++ (if arms then Arm ∷ [] else if drops then DropBack ∷ [] else if desyncs then Desync d ∷ [] else [])) ≡ NotBegun
called calls true drops desyncs d e p = progress_arm calls ∙ p
called calls false true desyncs d e p = progress_drop calls
called calls false false true d e p = absurd (cc)
called calls false false false d e p = ap progress_of (append-nil calls) ∙ p

unbegun_later : (newer h : History) → AreOtherWrites newer → ((n : ℕ) → startup_progress h n ≡ NotBegun) → (m : ℕ) → startup_progress (newer ++ h) m ≡ NotBegun
unbegun_later [] h w f m = f m
unbegun_later (x ∷ newer) h w f m =
    let old : History = newer ++ h in
    let calls : List Call = startup_calls old x.place ++ startup_call old x.access in
    let here : progress_of calls ≡ NotBegun =
    called (startup_calls old x.place) (executes 5 old x.access) (takes_shutdown old x.access) (executes 13 old x.access) (last_word 9 0 old) (no_desync old x.access (no_command x.access w.0)) (unbegun_later newer h w.1 f x.place) in
    progress_bytes calls (m - x.place) ∙ bytes_begin_none (m - x.place) (progress_of calls) here

-- ---- the accesses of a run

-- a history has newer accesses that write other registers than CMD
abbrev IsQuieter : History → History → Type 0
IsQuieter h all = (newer : History) × (all ≡ newer ++ h) × AreOtherWrites newer

-- newer accesses up to a byte still write other registers than CMD
quieter_until : (m : ℕ) (newer h : History) → until m h ≡ h → AreOtherWrites newer → IsQuieter h (until m (newer ++ h))
quieter_until m [] h e w = ([], e, tt)
quieter_until m (x ∷ newer) h e w = by (nat_lt m x.place) (quieter_until m newer h e w.1)
  where
    by : (b : Bool) → IsQuieter h (until m (newer ++ h)) → IsQuieter h (if b then until m (newer ++ h) else x ∷ (newer ++ h))
    by true q = q
    by false q = (x ∷ newer, refl, w)

-- words written to a register other than CMD
quieter_body : (register from : ℕ) (ws : List ℕ) (h : History) → (register == 4) ≡ false → IsQuieter h (entered_all from (payload_steps register ws) h)
quieter_body register from ws h e =
    kept_all (IsQuieter h) register (λ x w place q. (entry (Write register w) place ∷ q.0, ap (λ t. entry (Write register w) place ∷ t) q.1, (e, q.2))) from ws h ([], refl, tt)

quieter_run : (run : Cut) (from n count m : ℕ) (h : History) → Placed n h → n ≤ m → m < n + count → IsRun run → EndsWords run from n count → IsQuieter h (until m (entered_all from (run_steps run) h))
quieter_run Need from n count m h p l k r e = ([], until_placed m h (placed_within n m h l p), tt)
quieter_run (Skip bs) from n count m h p l k r e = ([], until_placed m h (placed_within n m h l p), tt)
quieter_run Sync from n count m h p l k r e = ([], until_placed m h (placed_within n m h l p), tt)
quieter_run (Head w s) from n count m h p l k r e = ([], step_until n m (from + 4) s h p l (omega (arith, k, e.1)), tt)
quieter_run (Word register w) from n count m h p l k r e = ([], step_until n m (from + 4) (step.Payload register w) h p l (omega (arith, k, e.1)), tt)
quieter_run (Body register bs) from n count m h p l k r e = by (register == 4) refl
  where
    all : History
    all = entered_all from (payload_steps register (words_of_bytes bs.now)) h

    here : until m h ≡ h
    here = until_placed m h (placed_within n m h l p)

    by : (b : Bool) → (register == 4) ≡ b → IsQuieter h (until m all)
    by true f =
        let is : register ≡ 4 = grind (arith, f) in
        let one : length bs.now ≡ 4 = r.3 is in
        ([], prefix_until from 0 m (payload_steps register (words_of_bytes bs.now)) h (omega arith) (omega (arith, k, e.0, e.1, one)) ∙ here, tt)
    by false f =
        let q : IsQuieter h all = quieter_body register from (words_of_bytes bs.now) h f in
        subst (λ (x : History). IsQuieter h (until m x)) (sym q.1) (quieter_until m q.0 h here q.2)

pub run_commands : (c n : CutterState) (bytes cut : List ℕ) (sessions : List EndedSession) (place : Place) (run : Cut) (left : ℕ) → CutterStandsFor c bytes sessions place → AfterRun c n (bytes ++ cut) sessions place run → IsRun run → IsLent c left run
    → CommandsLast bytes cut
run_commands c n bytes cut sessions place run left s w r i = λ k l.
    let from : ℕ = next_word sessions place in
    let all : History = entered_all from (run_steps run) (history_of bytes) in
    let whole : history_of (bytes ++ cut) ≡ all = cut_enters c n bytes cut sessions place run from s w (next_word_is bytes sessions place s.reading) in
    let joined : (bytes ++ take k cut) ++ drop k cut ≡ bytes ++ cut = append_assoc bytes (take k cut) (drop k cut) ∙ ap (λ (t : List ℕ). bytes ++ t) (take-append-drop k cut) in
    let fits : AreBytes ((bytes ++ take k cut) ++ drop k cut) = subst AreBytes (sym joined) w.stands.reading.fits in
    let here : AreBytes bytes = all_prefix (λ b. b < 256) bytes cut w.stands.reading.fits in
    let m : ℕ = length (bytes ++ take k cut) in
    let prefix : history_of (bytes ++ take k cut) ≡ until m all = sym (prefix_of (bytes ++ take k cut) (drop k cut) fits) ∙ ap (until m) (ap history_of joined ∙ whole) in
    let few : length (take k cut) ≡ k = length-take-le k cut (omega (arith, l)) in
    let count : m ≡ length bytes + k = omega (arith, length-append bytes (take k cut), few) in
    let q : IsQuieter (history_of bytes) (until m all) =
    quieter_run run from (length bytes) (length cut) m (history_of bytes) (placed_of bytes here) (omega (arith, count)) (omega (arith, count, l)) r (ends_words c n bytes cut sessions place run left s w r i) in
    (q.0, ◌∙◌ {c = q.0 ++ history_of bytes} prefix q.1, q.2)

-- where of bytes none but the last ends a command, so it is of a prefix of them
pub prefix_commands : (bytes cut more rest : List ℕ) → cut ≡ more ++ rest → CommandsLast bytes cut → CommandsLast bytes more
prefix_commands bytes cut more rest e f = λ k l.
    let longer : length cut ≡ length more + length rest = ap length e ∙ length-append more rest in
    let same : take k cut ≡ take k more = ap (take k) e ∙ take_prefix k more rest (omega (arith, l)) in
    subst (λ (t : List ℕ). IsQuieter (history_of bytes) (history_of (bytes ++ t))) same (f k (omega (arith, l, longer)))
  where
    take_prefix : (k : ℕ) (a b : List ℕ) → k ≤ length a → take k (a ++ b) ≡ take k a
    take_prefix k a b l =
        let all : take (length a) (a ++ b) ≡ a = take-append_seam a b in
        sym (take-take k (length a) (a ++ b) l) ∙ ap (take k) all

-- of bytes that enter no access none ends a command
pub quiet_commands : (bytes more : List ℕ) → AreBytes (bytes ++ more) → history_of (bytes ++ more) ≡ history_of bytes → CommandsLast bytes more
quiet_commands bytes more fits e = λ k l.
    let joined : (bytes ++ take k more) ++ drop k more ≡ bytes ++ more = append_assoc bytes (take k more) (drop k more) ∙ ap (λ (t : List ℕ). bytes ++ t) (take-append-drop k more) in
    let here : AreBytes bytes = all_prefix (λ b. b < 256) bytes more fits in
    let m : ℕ = length (bytes ++ take k more) in
    let prefix : history_of (bytes ++ take k more) ≡ until m (history_of bytes) =
    sym (prefix_of (bytes ++ take k more) (drop k more) (subst AreBytes (sym joined) fits)) ∙ ap (until m) (ap history_of joined ∙ e) in
    ([], prefix ∙ until_placed m (history_of bytes) (placed_within (length bytes) m (history_of bytes) (omega (arith, length-append bytes (take k more))) (placed_of bytes here)), tt)

-- of bytes without an access and then bytes of a run none but the last ends a command
pub then_commands : (bytes quiet more : List ℕ) → AreBytes (bytes ++ quiet) → history_of (bytes ++ quiet) ≡ history_of bytes → CommandsLast (bytes ++ quiet) more → CommandsLast bytes (quiet ++ more)
then_commands bytes quiet more fits e f = λ k l. elim (cases_lt k (length quiet)) [
  | inl before ↦
      let same : take k (quiet ++ more) ≡ take k quiet = ap (take k) refl ∙ prefix k before in
      subst (λ (t : List ℕ). IsQuieter (history_of bytes) (history_of (bytes ++ t))) (sym same) (quiet_commands bytes quiet fits e k before)
  | inr after ↦
      let j : ℕ = k - length quiet in
      let sum : length quiet + j ≡ k = omega (arith, after) in
      let all : length (quiet ++ more) ≡ length quiet + length more = length-append quiet more in
      let q : IsQuieter (history_of (bytes ++ quiet)) (history_of ((bytes ++ quiet) ++ take j more)) = f j (omega (arith, l, all, after)) in
      let place : (bytes ++ quiet) ++ take j more ≡ bytes ++ take k (quiet ++ more) =
      append_assoc bytes quiet (take j more) ∙ ap (λ (t : List ℕ). bytes ++ t) (sym (back j) ∙ ap (λ (i : ℕ). take i (quiet ++ more)) sum) in
      (q.0, ap history_of (sym place) ∙ q.1 ∙ ap (λ (h : History). q.0 ++ h) e, q.2)
]
  where
    prefix : (k : ℕ) → k < length quiet → take k (quiet ++ more) ≡ take k quiet
    prefix k l = let all : take (length quiet) (quiet ++ more) ≡ quiet = take-append_seam quiet more in sym (take-take k (length quiet) (quiet ++ more) (omega (arith, l))) ∙ ap (take k) all

    drop_past : (a b : List ℕ) → drop (length a) (a ++ b) ≡ b
    drop_past [] b = refl
    drop_past (x ∷ a) b = drop_past a b

    take_past : (a b : List ℕ) (j : ℕ) → take (length a + j) (a ++ b) ≡ a ++ take j b
    take_past a b j = take-add (length a) j (a ++ b) ∙ ap (λ (t : List ℕ). t ++ take j (drop (length a) (a ++ b))) (take-append_seam a b) ∙ ap (λ (t : List ℕ). a ++ take j t) (drop_past a b)

    back : (j : ℕ) → take (length quiet + j) (quiet ++ more) ≡ quiet ++ take j more
    back j = take_past quiet more j

-- ---- startup hasn't ended before the last byte of a turn

-- the phase where nothing stopped the device
pub phase_going : (part : PartData) (kept : Kept) (wrapped : Bool) (bytes : List ℕ) → first_stop_of_bytes part kept bytes ≡ None → (state_of part kept wrapped bytes).phase ≡ phase_of part (history_of bytes) (length bytes)
phase_going part kept wrapped bytes none = ap (λ (o : Option Stopped). phase_by part (startup_progress (history_by o (history_of bytes)) (taken_by o (length bytes)))) none

-- no stop comes before the last byte taken
pub going_before : (part : PartData) (kept : Kept) (wrapped : Bool) (d : DeviceState) (bytes more : List ℕ) → DeviceStandsFor part kept wrapped d (bytes ++ more) → 0 < length more → first_stop_of_bytes part kept bytes ≡ None
going_before part kept wrapped d bytes more s some = by (first_stop_of_bytes part kept bytes) refl
  where
    at_last : (o : Option StopCause) (t : Stopped) → stop_at_place (length (bytes ++ more)) o ≡ Some t → t.place ≡ length (bytes ++ more)
    at_last None t e = absurd (cc)
    at_last (Some why) t e = cc

    by : (o : Option Stopped) → first_stop_of_bytes part kept bytes ≡ o → first_stop_of_bytes part kept bytes ≡ None
    by None e = e
    by (Some t) e =
        let stays : first_stop_of_bytes part kept (bytes ++ more) ≡ Some t = stop_is_final_stop part kept bytes more t s.fits e in
        let last : t.place ≡ length (bytes ++ more) = at_last d.registers.values.stop t (sym s.stop_is ∙ stays) in
        let count : length (bytes ++ more) ≡ length bytes + length more = length-append bytes more in
        no_stop_before part kept bytes more t s.fits stays (omega (arith, last, count, some))

below_seven : (p : ℕ) → p < 7 → (p == 7) ≡ false
below_seven p l = grind arith

not_seven : (p : ℕ) → p ≤ 7 → (p == 7) ≡ false → p < 7
not_seven p l e = grind arith

-- where startup hasn't begun it doesn't begin before the last byte of a turn
unbegun_in_turn : (part : PartData) (kept : Kept) (wrapped : Bool) (d : DeviceState) (bytes more : List ℕ) → first_stop_of_bytes part kept bytes ≡ None → DeviceStandsFor part kept wrapped d (bytes ++ more)
    → CommandsLast bytes more → HasNotBegun part kept bytes → NoneBegun part kept bytes more (length more)
unbegun_in_turn part kept wrapped d bytes more going s f unbegun k l =
    let prefix : List ℕ = take k more in
    let left : length (drop k more) ≡ length more - k = length-drop k more in
    let joined : (bytes ++ prefix) ++ drop k more ≡ bytes ++ more = append_assoc bytes prefix (drop k more) ∙ ap (λ (t : List ℕ). bytes ++ t) (take-append-drop k more) in
    let all : DeviceStandsFor part kept wrapped d ((bytes ++ prefix) ++ drop k more) = subst (DeviceStandsFor part kept wrapped d) (sym joined) s in
    let none : first_stop_of_bytes part kept (bytes ++ prefix) ≡ None = going_before part kept wrapped d (bytes ++ prefix) (drop k more) all (omega (arith, left, l)) in
    let first : startup_progress (history_of bytes) (length bytes) ≡ NotBegun = subst (λ (o : Option Stopped). startup_progress (history_by o (history_of bytes)) (taken_by o (length bytes)) ≡ NotBegun) going unbegun in
    let q = f k l in
    let still : startup_progress (history_of (bytes ++ prefix)) (length (bytes ++ prefix)) ≡ NotBegun =
    ap (λ (h : History). startup_progress h (length (bytes ++ prefix))) q.1
    ∙ unbegun_later q.0 (history_of bytes) q.2 (λ n. unbegun_at_any (history_of bytes) (length bytes) n first) (length (bytes ++ prefix)) in
    ap (λ (o : Option Stopped). startup_progress (history_by o (history_of (bytes ++ prefix))) (taken_by o (length (bytes ++ prefix)))) none ∙ still

pub none_started : (part : PartData) (kept : Kept) (wrapped : Bool) (d : DeviceState) (bytes more : List ℕ) → first_stop_of_bytes part kept bytes ≡ None → DeviceStandsFor part kept wrapped d (bytes ++ more) → has_started part kept bytes ≡ false
    → CommandsLast bytes more → HasNotBegun part kept bytes ⊎ (length more ≤ soonest_end (state_of part kept wrapped bytes).phase) → NoneStarted part kept bytes more (length more)
none_started part kept wrapped d bytes more going s not f b = λ k l.
    let prefix : List ℕ = take k more in
    let few : length prefix ≡ k = length-take-le k more (omega (arith, l)) in
    let left : length (drop k more) ≡ length more - k = length-drop k more in
    let joined : (bytes ++ prefix) ++ drop k more ≡ bytes ++ more = append_assoc bytes prefix (drop k more) ∙ ap (λ (t : List ℕ). bytes ++ t) (take-append-drop k more) in
    let all : DeviceStandsFor part kept wrapped d ((bytes ++ prefix) ++ drop k more) = subst (DeviceStandsFor part kept wrapped d) (sym joined) s in
    let none : first_stop_of_bytes part kept (bytes ++ prefix) ≡ None = going_before part kept wrapped d (bytes ++ prefix) (drop k more) all (omega (arith, left, l)) in
    let fits : AreBytes (bytes ++ prefix) = all_prefix (λ b. b < 256) (bytes ++ prefix) (drop k more) all.fits in
    let now : (state_of part kept false (bytes ++ prefix)).phase ≡ phase_of part (history_of (bytes ++ prefix)) (length (bytes ++ prefix)) = phase_going part kept false (bytes ++ prefix) none in
    let low : phase_of part (history_of (bytes ++ prefix)) (length (bytes ++ prefix)) < 7 = elim b [
      | inl unbegun ↦
          let zero_is : phase_of part (history_of (bytes ++ prefix)) (length (bytes ++ prefix)) ≡ 0 = sym now ∙ ap (phase_by part) (unbegun_in_turn part kept wrapped d bytes more going s f unbegun k l) in
          omega (arith, zero_is)
      | inr soon ↦
          let later : phase_of part (history_of (bytes ++ prefix)) (length (bytes ++ prefix)) ≤ phase_of part (history_of bytes) (length bytes) + (length prefix + 3) / 4 = phase_later part bytes prefix fits in
          let first : (state_of part kept wrapped bytes).phase ≡ phase_of part (history_of bytes) (length bytes) = phase_going part kept wrapped bytes going in
          let most : (state_of part kept false bytes).phase ≤ 7 = last_of part (startup_progress (history_taken part kept bytes) (taken_of part kept bytes)) in
          let below : (state_of part kept wrapped bytes).phase < 7 = not_seven (state_of part kept false bytes).phase most not in
          omega (arith, later, first, below, few, soon, l)
    ] in
    below_seven (state_of part kept false (bytes ++ prefix)).phase (subst (λ (p : ℕ). p < 7) (sym now) low)

-- ---- turns of a piece

-- a part of a piece's prefix is that part of the piece
pub between_before : (piece : List ℕ) (end from to : ℕ) → from ≤ to → to ≤ end → between (take end piece) from to ≡ between piece from to
between_before piece end from to l m =
    let sum : from + (end - from) ≡ end = omega (arith, l, m) in
    let few : to - from ≤ end - from = omega (arith, l, m) in
    ap (λ (k : ℕ). between (take k piece) from to) (sym sum)
    ∙ ap (take (to - from)) (drop-take from (end - from) piece)
    ∙ take-take (to - from) (end - from) (drop from piece) few

-- a part of the slice that a turn is given is that part of the piece
slice_long : (piece : List ℕ) (end : ℕ) → end ≤ length piece → length (take end piece) ≡ end
slice_long piece end l = length-take-le end piece l

pub in_slice : (piece : List ℕ) (end from to : ℕ) → end ≤ length piece → from ≤ to → to ≤ length (take end piece) → between (take end piece) from to ≡ between piece from to
in_slice piece end from to m l k = between_before piece end from to l (omega (arith, k, slice_long piece end m))

turn_stands : (part : PartData) (kept : Kept) (wrapped : Bool) (d : DeviceState) (bytes piece : List ℕ) (end from to : ℕ) → end ≤ length piece → from ≤ to → to ≤ length (take end piece)
    → DeviceStandsFor part kept wrapped d (bytes ++ between (take end piece) from to) → DeviceStandsFor part kept wrapped d (bytes ++ between piece from to)
turn_stands part kept wrapped d bytes piece end from to m l k s = subst (λ (t : List ℕ). DeviceStandsFor part kept wrapped d (bytes ++ t)) (in_slice piece end from to m l k) s

pub turn_first : (part : PartData) (kept : Kept) (wrapped : Bool) (d e : DeviceState) (bytes piece : List ℕ) (end from to : ℕ) → end ≤ length piece → from ≤ to → to ≤ length (take end piece) → d.registers.values.stop ≡ None
    → DeviceStandsFor part kept wrapped d bytes → DeviceStandsFor part kept wrapped e (bytes ++ between (take end piece) from to) → CommandsLast bytes (between (take end piece) from to)
    → HasNotBegun part kept bytes ⊎ (end ≤ from + soonest_end (state_of part kept wrapped bytes).phase) → has_started part kept bytes ≡ false → NoneStarted part kept bytes (between piece from to) (to - from)
turn_first part kept wrapped d e bytes piece end from to m l k going s after f b not =
    let more : List ℕ = between piece from to in
    let most : to ≤ end = omega (arith, k, slice_long piece end m) in
    let count : length more ≡ to - from = length_between piece from to l (omega (arith, most, m)) in
    let same : between (take end piece) from to ≡ more = in_slice piece end from to m l k in
    let soon : HasNotBegun part kept bytes ⊎ (length more ≤ soonest_end (state_of part kept wrapped bytes).phase) = elim b [ inl unbegun ↦ inl unbegun | inr few ↦ inr (omega (arith, few, count, most)) ] in
    subst (NoneStarted part kept bytes more) count
    (none_started part kept wrapped e bytes more (s.stop_is ∙ ap (stop_at_place (length bytes)) going) (turn_stands part kept wrapped e bytes piece end from to m l k after) not (subst (CommandsLast bytes) same f) soon)

-- what holds at each byte of a piece before a place, and at each from there up to a later one, holds at all of them
pub holds_on : (P : List ℕ → Type 0) (bytes piece : List ℕ) (from to : ℕ) → from ≤ to → ((k : ℕ) → k < from → P (bytes ++ take k piece))
    → ((k : ℕ) → k < to - from → P ((bytes ++ take from piece) ++ take k (between piece from to))) → (k : ℕ) → k < to → P (bytes ++ take k piece)
holds_on P bytes piece from to l f g k m = elim (cases_lt k from) [
  | inl before ↦ f k before
  | inr after ↦
      let j : ℕ = k - from in
      let here : take j (between piece from to) ≡ between piece from k = take-take j (to - from) (drop from piece) (omega (arith, m, after)) in
      let all : (bytes ++ take from piece) ++ take j (between piece from to) ≡ bytes ++ take k piece = ap (λ (t : List ℕ). (bytes ++ take from piece) ++ t) here ∙ taken_more bytes piece from k after in
      subst P all (g j (omega (arith, m, after)))
]

pub none_on : (part : PartData) (kept : Kept) (bytes piece : List ℕ) (from to : ℕ) → from ≤ to → NoneStarted part kept bytes piece from → NoneStarted part kept (bytes ++ take from piece) (between piece from to) (to - from) → NoneStarted part kept bytes piece to
none_on part kept bytes piece from to l f g = holds_on (λ t. has_started part kept t ≡ false) bytes piece from to l f g

-- a turn of a device in which startup hasn't begun
pub unbegun_on : (part : PartData) (kept : Kept) (wrapped : Bool) (d e : DeviceState) (bytes piece : List ℕ) (from to : ℕ) → from ≤ to → to ≤ length piece → d.registers.values.stop ≡ None → DeviceStandsFor part kept wrapped d (bytes ++ take from piece)
    → DeviceStandsFor part kept wrapped e ((bytes ++ take from piece) ++ between piece from to) → CommandsLast (bytes ++ take from piece) (between piece from to) → HasNotBegun part kept (bytes ++ take from piece)
    → NoneBegun part kept bytes piece from → NoneBegun part kept bytes piece to
unbegun_on part kept wrapped d e bytes piece from to l m going s after f unbegun before =
    let taken : List ℕ = bytes ++ take from piece in
    let count : length (between piece from to) ≡ to - from = length_between piece from to l m in
    holds_on (λ t. HasNotBegun part kept t) bytes piece from to l before
    (λ k n. unbegun_in_turn part kept wrapped e taken (between piece from to) (s.stop_is ∙ ap (stop_at_place (length taken)) going) after f unbegun k (omega (arith, n, count)))

-- ---- what a device keeps of it

-- startup that the device keeps as not begun hasn't begun
pub unbegun : (part : PartData) (kept : Kept) (wrapped : Bool) (d : DeviceState) (bytes : List ℕ) → DeviceStandsFor part kept wrapped d bytes → is_some d.registers.values.clock.startup.begun_with ≡ false → HasNotBegun part kept bytes
unbegun part kept wrapped d bytes s e =
    let n : ℕ = taken_of part kept bytes in
    let stands : StandsForCalls part.lock part.matched d.registers.values.clock.startup (startup_calls (history_taken part kept bytes) n) =
    subst (λ (k : ℕ). StandsForCalls part.lock part.matched d.registers.values.clock.startup (startup_calls (history_taken part kept bytes) k)) (sym (taken_is part kept wrapped d bytes s)) s.registers_are.clock.startup in
    by (startup_progress (history_taken part kept bytes) n) (ap is_some (sym stands.stores.begun_with_is) ∙ e)
  where
    by : (p : StartupProgress) → is_some (cor0_of p) ≡ false → p ≡ NotBegun
    by NotBegun f = refl
    by (Begun c m) f = absurd (cc)

-- ---- what is answered at a place of a piece

taken_answer : (b : Bool) (answer : Fed) (length at : ℕ) → taken_in length answer ≡ at → taken_until length (if b then until.Started at else until.Fed answer) ≡ at
taken_answer true answer length at e = refl
taken_answer false answer length at e = e

pub count_is : (r : UntilStarted) (b : Bool) (answer : Fed) (length at : ℕ) → r ≡ (if b then until.Started at else until.Fed answer) → taken_in length answer ≡ at → taken_until length r ≡ at
count_is r b answer length at e f = ap (taken_until length) e ∙ taken_answer b answer length at f

pub says_answer : (b : Bool) (answer : Fed) (at : ℕ) → says_started (if b then until.Started at else until.Fed answer) ≡ b
says_answer true answer at = refl
says_answer false answer at = refl

pub answers_until : (p : Past) (d : DeviceState) (read : ReadBufState) (b : Bool) (answer : Fed) (at : ℕ) → NoWordDue d → AnswersAt p d read answer → AnswersUntilAt p d read (if b then until.Started at else until.Fed answer)
answers_until p d read true answer at due a = due
answers_until p d read false answer at due a = a
