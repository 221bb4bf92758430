-- The check after a written word, a run and a piece.
use Rattle.std.proofs.Common.{◌≡◌, ◌==◌, ◌||◌, ◌≤◌, ◌<◌, ◌^◌, Bool, ◌+◌, ◌-◌, ◌*◌, ℕ, true, false, [], ◌∷◌, ◌++◌, List, length, take, drop, refl, sym, ap, subst, ◌∙◌, lit<, arith, append_assoc, take_all, length-drop, length-append}
use Rattle.std.proofs.lemmas.List.{take-append-drop, take-append-le}
use Rattle.x7_words.proofs.ListLemmas.{take_up_to}
use Rattle.x7_packets.specs.Cutter.{between, CutterState, CutterStandsFor, ComesNearer, run_steps, AfterRun}
use Rattle.x7_packets.specs.History.{command_held, entered_all, entry, executes, History, history_of, next_word, Write}
use Rattle.x7_packets.specs.Packet.{payload_steps}
use Rattle.x7_packets.specs.Reading.{Place, EndedSession}
use Rattle.x7_packets.specs.CheckedWrites.{clears, checked_writes, write_to}
use Rattle.x7_packets.specs.declared.cutter.Cut.{Cut}
use Rattle.x7_packets.specs.declared.cutter.Cut.TheVariants.{Need}
use Rattle.x7_packets.proofs.HistoryLemmas.{cut_enters, next_word_is}
use Rattle.x7_crc.specs.RunningCheck.{in_order, running_check}
use Rattle.x7_crc.specs.Check.{check_after, check_after_one, writes_to}
use Rattle.x7_crc.proofs.CheckLemmas.{check_after_append, check_after_none, check_after_fits, check_of_more}
use Rattle.x7_crc.specs.Checker.{steers_check, HaveChecked, HasTaken, IsCheckState, CheckerState, KeepsCheckOf}

pub check_none : running_check [] ≡ 0
check_none = check_after_none 0 (lit< tt)

pub check_cleared : (h : History) (register word place : ℕ) → clears h (Write register word) ≡ true → running_check (entry (Write register word) place ∷ h) ≡ 0
check_cleared h register word place e = rw e (check_after_none 0 (lit< tt))

pub check_folded : (h : History) (register word place : ℕ) → clears h (Write register word) ≡ false → (register == 8) ≡ false → running_check (entry (Write register word) place ∷ h) ≡ check_after_one (running_check h) register word
check_folded h register word place e n = rw (e, n) (sym (check_of_more (running_check h) (in_order (checked_writes h)) (write_to register word ∷ []) refl))

-- a write that executes RCRC
pub check_reset : (h : History) (register word place : ℕ) → executes 7 h (Write register word) ≡ true → running_check (entry (Write register word) place ∷ h) ≡ 0
check_reset h register word place e = check_cleared h register word place (ap (λ b. b || (register == 0)) e)

-- a history with one payload word more
pub entered_more : (register n : ℕ) (ws : List ℕ) (w : ℕ) (h : History) → entered_all n (payload_steps register (ws ++ w ∷ [])) h ≡ entry (Write register w) (n + 4 * length ws + 4) ∷ entered_all n (payload_steps register ws) h
entered_more register n [] w h = let e : n + 4 ≡ n + 4 * 0 + 4 = omega arith in ap (λ (k : ℕ). entry (Write register w) k ∷ h) e
entered_more register n (v ∷ ws) w h = let e : n + 4 + 4 * length ws + 4 ≡ n + 4 * length (v ∷ ws) + 4 = omega arith in
    entered_more register (n + 4) ws w (entry (Write register v) (n + 4) ∷ h) ∙ ap (λ (k : ℕ). entry (Write register w) k ∷ entered_all (n + 4) (payload_steps register ws) (entry (Write register v) (n + 4) ∷ h)) e

-- a call of the cutter, and the state after its run
pub took : (c d : CutterState) (run : Cut) (check held check2 held2 at to : ℕ) (bytes piece : List ℕ)
    → HaveChecked c check held (bytes ++ take at piece) → at ≤ to
    → ((bs : List ℕ) (sessions : List EndedSession) (spot : Place) → CutterStandsFor c bs sessions spot → AfterRun c d (bs ++ between piece at to) sessions spot run)
    → ((h : History) (n : ℕ) → IsCheckState check held h → IsCheckState check2 held2 (entered_all n (run_steps run) h))
    → HaveChecked d check2 held2 (bytes ++ take to piece)
took c d run check held check2 held2 at to bytes piece s h went after =
    let old : List ℕ = bytes ++ take at piece in
    let more : List ℕ = between piece at to in
    let w : AfterRun c d (bytes ++ take at piece ++ between piece at to) s.sessions s.place run = went (bytes ++ take at piece) s.sessions s.place s.stands in
    let n : ℕ = next_word s.sessions s.place in
    let grown : history_of (bytes ++ take at piece ++ between piece at to) ≡ entered_all (next_word s.sessions s.place) (run_steps run) (history_of (bytes ++ take at piece)) =
    cut_enters c d (bytes ++ take at piece) (between piece at to) s.sessions s.place run (next_word s.sessions s.place) s.stands w (next_word_is (bytes ++ take at piece) s.sessions s.place s.stands.reading) in
    let e : bytes ++ take at piece ++ between piece at to ≡ bytes ++ take to piece = append_assoc bytes (take at piece) (between piece at to) ∙ ap (λ t. bytes ++ t) (take_up_to piece at to h) in
    let all : HaveChecked d check2 held2 (bytes ++ take at piece ++ between piece at to) = record {
      sessions = w.new_sessions;
      place = w.new_place;
      stands = w.stands;
      state = subst (λ (g : History). IsCheckState check2 held2 g) (sym grown) (after (history_of (bytes ++ take at piece)) (next_word s.sessions s.place) s.state);
    } in
    subst (λ t. HaveChecked d check2 held2 t) e all

-- the last call, with the piece used up
pub took_all : (c d : CutterState) (run : Cut) (check held at to : ℕ) (bytes piece : List ℕ)
    → HaveChecked c check held (bytes ++ take at piece) → at ≤ to → length piece ≤ to → run ≡ Need
    → ((bs : List ℕ) (sessions : List EndedSession) (spot : Place) → CutterStandsFor c bs sessions spot → AfterRun c d (bs ++ between piece at to) sessions spot run)
    → HaveChecked d check held (bytes ++ piece)
took_all c d run check held at to bytes piece s h full is went =
    let went2 : (bs : List ℕ) (sessions : List EndedSession) (spot : Place) → CutterStandsFor c bs sessions spot → AfterRun c d (bs ++ between piece at to) sessions spot Need =
    λ bs sessions spot t. subst (λ r. AfterRun c d (bs ++ between piece at to) sessions spot r) is (went bs sessions spot t) in
    subst (λ t. HaveChecked d check held (bytes ++ t)) (take_all to piece full) (took c d Need check held check held at to bytes piece s h went2 (λ g n t. t))

-- the bytes after those taken are taken, and so all are
pub caught_up : (c d : CheckerState) (bytes : List ℕ) → d.taken ≡ length bytes → KeepsCheckOf c bytes
    → ((bs : List ℕ) → HasTaken c.pieces bs → HasTaken d.pieces (bs ++ take (length bytes - c.taken) (drop c.taken bytes)))
    → HasTaken d.pieces bytes × KeepsCheckOf d bytes
caught_up c d bytes f k took =
    let rest : take (length bytes - c.taken) (drop c.taken bytes) ≡ drop c.taken bytes = take_all (length bytes - c.taken) (drop c.taken bytes) (omega (arith, length-drop c.taken bytes)) in
    let whole : take c.taken bytes ++ take (length bytes - c.taken) (drop c.taken bytes) ≡ bytes = ap (λ t. take c.taken bytes ++ t) rest ∙ take-append-drop c.taken bytes in
    let all : HasTaken d.pieces bytes = subst (λ t. HasTaken d.pieces t) whole (took (take c.taken bytes) k.checks) in
    (all, record { within = omega (arith, f); checks = subst (λ t. HasTaken d.pieces t) (sym (take_all d.taken bytes (omega (arith, f)))) all })

-- a checker of some bytes is one of longer bytes that begin with them
pub still_keeps : (c : CheckerState) (bytes more new : List ℕ) → new ≡ bytes ++ more → KeepsCheckOf c bytes → KeepsCheckOf c new
still_keeps c bytes more new e k =
    subst (λ t. KeepsCheckOf c t) (sym e) (record { within = omega (arith, k.within, length-append bytes more); checks = subst (λ t. HasTaken c.pieces t) (sym (take-append-le c.taken bytes more k.within)) k.checks })

-- a call that needs more bytes has used the piece up
pub used_up : (run : Cut) (left before after : ℕ) → run ≡ Need → ComesNearer run left before after → left ≡ 0
used_up run left before after e g = rw e at g

none_of : (a b c d : Bool) → (a || b || c || d) ≡ false → (a ≡ false) × (b ≡ false) × (c ≡ false) × (d ≡ false)
none_of true b c d e = absurd cc
none_of false true c d e = absurd cc
none_of false false true d e = absurd cc
none_of false false false true e = absurd cc
none_of false false false false e = (refl, refl, refl, refl)

plain_open : (register : ℕ) (h : History) (w : ℕ) → (register == 0) ≡ false → (register == 1) ≡ false → (register == 4) ≡ false → clears h (Write register w) ≡ false
plain_open register h w a b d = rw (d, b, a) refl

pub check_fits : (h : History) → running_check h < 2 ^ 32
check_fits h = check_after_fits 0 (in_order (checked_writes h))

pub check_all_folded : (register n : ℕ) (ws : List ℕ) (h : History) → (register == 8) ≡ false → ((h : History) (w : ℕ) → clears h (Write register w) ≡ false)
    → running_check (entered_all n (payload_steps register ws) h) ≡ check_after (running_check h) (writes_to register ws)
check_all_folded register n [] h e f = sym (check_after_none (running_check h) (check_fits h))
check_all_folded register n (w ∷ ws) h e f =
    check_all_folded register (n + 4) ws (entry (Write register w) (n + 4) ∷ h) e f
    ∙ ap (λ (c : ℕ). check_after c (writes_to register ws)) (check_folded h register w (n + 4) (f h w) e)
    ∙ sym (check_after_append (running_check h) (write_to register w ∷ []) (writes_to register ws) (check_fits h))

held_one : (register : ℕ) (w place : ℕ) (h : History) → (register == 4) ≡ false → command_held (entry (Write register w) place ∷ h) ≡ command_held h
held_one register w place h e = rw e refl

held_all : (register n : ℕ) (ws : List ℕ) (h : History) → (register == 4) ≡ false → command_held (entered_all n (payload_steps register ws) h) ≡ command_held h
held_all register n [] h e = refl
held_all register n (w ∷ ws) h e = held_all register (n + 4) ws (entry (Write register w) (n + 4) ∷ h) e ∙ held_one register w (n + 4) h e

pub plain_words : (register n check held folded : ℕ) (ws : List ℕ) (h : History) → steers_check register ≡ false → folded ≡ check_after check (writes_to register ws) → IsCheckState check held h → IsCheckState folded held (entered_all n (payload_steps register ws) h)
plain_words register n check held folded ws h plain e s =
    let p = none_of (register == 0) (register == 1) (register == 4) (register == 8) plain in
    record {
      check_is = e ∙ ap (λ (c : ℕ). check_after c (writes_to register ws)) s.check_is ∙ sym (check_all_folded register n ws h p.3 (λ g w. plain_open register g w p.0 p.1 p.2));
      held_is = s.held_is ∙ sym (held_all register n ws h p.2);
    }
