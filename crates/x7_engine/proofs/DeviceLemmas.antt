-- Lemmas on specs/Standing: a device takes one run more.
use Rattle.std.proofs.Common.{◌≡◌, ◌+◌, ◌-◌, ◌*◌, ◌/◌, ◌<◌, ◌≤◌, ℕ, Option, None, Some, List, [], ◌∷◌, ◌++◌, length, take, drop, ap, sym, subst, ◌∙◌, append_assoc, arith, length-append, length-drop, Bool}
use Rattle.std.proofs.Math.Seq.{take-append_seam}
use Rattle.std.proofs.lemmas.List.{length-map, length-take-le, take-append-drop, take-take}
use Rattle.x7_words.specs.Word.{AreBytes, words_of_bytes}
use Rattle.x7_words.proofs.ListLemmas.{all_prefix}
use Rattle.x7_packets.specs.declared.cutter.Cut.{Cut}
use Rattle.x7_packets.specs.declared.cutter.Cut.TheVariants.{Body, Head, Need, Skip, Sync, Word}
use Rattle.x7_packets.specs.Mode.{Mode}
use Rattle.x7_packets.specs.declared.header.Step.{Step}
use Rattle.x7_packets.specs.declared.header.Step.TheVariants as step
use Rattle.x7_packets.specs.Cutter.{AtPlace, between, CutterState, CutterStandsFor, IsLent, IsRun, LongerSession, AfterRun, run_bytes, run_steps}
use Rattle.x7_packets.specs.History.{History, Placed, entered_all, history_of, next_word, until}
use Rattle.x7_packets.specs.Packet.{Packet, payload_steps}
use Rattle.x7_packets.specs.Reading.{EndedSession, IsReading, Place, Searching, Synced, tail_of}
use Rattle.x7_packets.proofs.GrowthLemmas.{prefix_of, placed_of}
use Rattle.x7_packets.proofs.HistoryLemmas.{cut_enters, next_word_is, words_end}
use Rattle.x7_part.specs.Part.{PartData}
use Rattle.x7_engine.specs.declared.kept.Kept.{Kept}
use Rattle.x7_engine.specs.declared.stop.StopCause.{StopCause}
use Rattle.x7_engine.specs.Standing.{DeviceStandsFor, DeviceState, EndsWords, FitsWithin, IsCutterOf, RegistersStandFor, counted_in, due_count, reads_given, words_still_due}
use Rattle.x7_engine.specs.State.{history_by, history_taken, reads_of, first_stop_of_bytes}
use Rattle.x7_engine.specs.Stop.{Stopped, first_stop_of_history, stop_at_place}
use Rattle.x7_engine.specs.Value.{read_out}
use Rattle.x7_engine.proofs.FrameLemmas.{length_left}
use Rattle.x7_engine.proofs.TurnLemmas.{history_until, no_rest, stop_until}
use Rattle.x7_words.proofs.WordLemmas.{words_count}

-- the words given, where all that is read out are these and some more that are due
prefix_given : (known rest : List ℕ) (due : ℕ) → length rest ≡ due → take (length (known ++ rest) - due) (known ++ rest) ≡ known
prefix_given known rest due e =
    let count : length (known ++ rest) - due ≡ length known = omega (arith, length-append known rest, e) in
    ap (λ (n : ℕ). take n (known ++ rest)) count ∙ take-append_seam known rest

pub given_by : (part : PartData) (kept : Kept) (d : DeviceState) (bytes known : List ℕ) (h : History) → reads_of part kept bytes ≡ known ++ words_still_due part h d.registers.values.due → reads_given part kept d bytes ≡ known
given_by part kept d bytes known h e =
    ap (λ (t : List ℕ). take (length t - due_count d.registers.values.due) t) e ∙ prefix_given known (words_still_due part h d.registers.values.due) (due_count d.registers.values.due) (length_left part h d.registers.values.due)

-- a part of a piece, cut at a place in it
pub between_prefix : (piece : List ℕ) (from at left : ℕ) → from ≤ at - left → between piece from at ≡ between piece from (at - left) ++ drop (at - left - from) (between piece from at)
between_prefix piece from at left l =
    let less : at - left - from ≤ at - from = omega arith in
    sym (take-append-drop (at - left - from) (between piece from at))
    ∙ ap (λ t. t ++ drop (at - left - from) (between piece from at)) (take-take (at - left - from) (at - from) (drop from piece) less)

pub length_between : (piece : List ℕ) (from to : ℕ) → from ≤ to → to ≤ length piece → length (between piece from to) ≡ to - from
length_between piece from to l m = length-take-le (to - from) (drop from piece) (omega (arith, length-drop from piece))

-- a lent payload has no more bytes than were taken of the piece
pub holds_run : (c n : CutterState) (run : Cut) (left count : ℕ) (cut : List ℕ) → IsLent c left run → c.kept ++ cut ≡ run_bytes run ++ n.kept → count ≡ length cut → FitsWithin run count
holds_run c n Need left count cut k e l = tt
holds_run c n (Skip bs) left count cut k e l = tt
holds_run c n Sync left count cut k e l = tt
holds_run c n (Head w s) left count cut k e l = tt
holds_run c n (Word r w) left count cut k e l = tt
holds_run c n (Body r bs) left count cut k e l = omega (arith, ap length e, length-append c.kept cut, length-append bs.now n.kept, ap length k.0, l)

-- a cutter that keeps no byte stands in a session without a tail
no_tail : (c : CutterState) (m : Mode) (gap tail : List ℕ) (packets : List Packet) → AtPlace c m (Synced gap packets tail) → c.kept ≡ [] → tail ≡ []
no_tail c Mode.Searching gap tail packets a e = absurd a
no_tail c Mode.SyncFound gap tail packets a e = a.1
no_tail c Mode.Synced gap tail packets a e = a.1 ∙ e

-- a session's words end where the bytes do
words_place : (n : CutterState) (bytes gap tail : List ℕ) (packets : List Packet) (more : List (ℕ × Step)) (sessions new_sessions : List EndedSession) (new : Place) → CutterStandsFor n bytes new_sessions new → LongerSession gap packets more sessions new_sessions new
    → length bytes ≡ next_word sessions (Synced gap packets tail) + 4 * length more
words_place n bytes gap tail packets more sessions new_sessions new s l =
    let ends : (next_word new_sessions new ≡ next_word sessions (Synced gap packets tail) + 4 * length more) × (tail_of new ≡ []) = words_end gap tail packets more sessions new_sessions new l in
    omega (arith, next_word_is bytes new_sessions new s.reading, ap length ends.1, ends.0)

body_words : (register : ℕ) (bs : List ℕ) → length (payload_steps register (words_of_bytes bs)) ≡ length bs / 4
body_words register bs = length-map (words_of_bytes bs) _ ∙ words_count bs

pub one_word_ends : (n : CutterState) (bytes cut gap tail : List ℕ) (packets : List Packet) (s : ℕ × Step) (sessions new_sessions : List EndedSession) (new : Place) → IsReading bytes sessions (Synced gap packets tail) → CutterStandsFor n (bytes ++ cut) new_sessions new
    → LongerSession gap packets (s ∷ []) sessions new_sessions new → (let from : ℕ = next_word sessions (Synced gap packets tail) in (length bytes < from + 4) × (from + 4 ≡ length bytes + length cut))
one_word_ends n bytes cut gap tail packets s sessions new_sessions new r k l =
    let few : length tail < 4 = r.ends.3 in
    (omega (arith, next_word_is bytes sessions (Synced gap packets tail) r, few), omega (arith, words_place n (bytes ++ cut) gap tail packets (s ∷ []) sessions new_sessions new k l, length-append bytes cut))

-- the words of a run end where its bytes do
pub ends_words : (c n : CutterState) (bytes cut : List ℕ) (sessions : List EndedSession) (place : Place) (run : Cut) (left : ℕ) → CutterStandsFor c bytes sessions place → AfterRun c n (bytes ++ cut) sessions place run → IsRun run → IsLent c left run
    → EndsWords run (next_word sessions place) (length bytes) (length cut)
ends_words c n bytes cut sessions place Need left s w r k = tt
ends_words c n bytes cut sessions place (Skip bs) left s w r k = tt
ends_words c n bytes cut sessions place Sync left s w r k = tt
ends_words c n bytes cut sessions (Searching gap) (Head x t) left s w r k = absurd w.adds
ends_words c n bytes cut sessions (Synced gap packets tail) (Head x t) left s w r k = one_word_ends n bytes cut gap tail packets (x, t) sessions w.new_sessions w.new_place s.reading w.stands w.adds
ends_words c n bytes cut sessions (Searching gap) (Word register x) left s w r k = absurd w.adds
ends_words c n bytes cut sessions (Synced gap packets tail) (Word register x) left s w r k = one_word_ends n bytes cut gap tail packets (x, step.Payload register x) sessions w.new_sessions w.new_place s.reading w.stands w.adds
ends_words c n bytes cut sessions (Searching gap) (Body register bs) left s w r k = absurd w.adds
ends_words c n bytes cut sessions (Synced gap packets tail) (Body register bs) left s w r k =
    let p : ℕ = next_word sessions (Synced gap packets tail) in
    let ss : List (ℕ × Step) = payload_steps register (words_of_bytes bs.now) in
    let first : p ≡ length bytes = omega (arith, next_word_is bytes sessions (Synced gap packets tail) s.reading, ap length (no_tail c c.mode gap tail packets s.at k.0)) in
    let all : length (bytes ++ cut) ≡ p + 4 * length ss = words_place n (bytes ++ cut) gap tail packets ss sessions w.new_sessions w.new_place w.stands w.adds in
    (first, omega (arith, all, first, body_words register bs.now, length-append bytes cut, r.2))

-- the history of all bytes is taken where there is no stop
pub going_taken : (part : PartData) (kept : Kept) (bytes : List ℕ) → first_stop_of_bytes part kept bytes ≡ None → history_taken part kept bytes ≡ history_of bytes
going_taken part kept bytes e = ap (λ (o : Option Stopped). history_by o (history_of bytes)) e

-- the device after a run more
pub turned : (part : PartData) (kept : Kept) (wrapped : Bool) (d e : DeviceState) (bytes cut more rest : List ℕ) (run : Cut) (count left room : ℕ) → DeviceStandsFor part kept wrapped d bytes → d.registers.values.stop ≡ None
    → ((sessions : List EndedSession) (place : Place) → CutterStandsFor d.cutter bytes sessions place → AfterRun d.cutter e.cutter (bytes ++ cut) sessions place run)
    → ((h : History) (from n : ℕ) → EndsWords run from n count → RegistersStandFor part kept d.registers h n → RegistersStandFor part kept e.registers (until (counted_in e.registers.values.stop (n + (count - left))) (entered_all from (run_steps run) h)) (n + (count - left)))
    → ((h : History) (from n : ℕ) → EndsWords run from n count → RegistersStandFor part kept d.registers h n
    → read_out part kept (until (counted_in e.registers.values.stop (n + (count - left))) (entered_all from (run_steps run) h))
    ≡ read_out part kept h ++ words_still_due part (until (counted_in e.registers.values.stop (n + (count - left))) (entered_all from (run_steps run) h)) e.registers.values.due)
    → count ≡ length cut → cut ≡ more ++ rest → length rest ≡ left → IsRun run → IsLent d.cutter room run
    → (e.registers.values.stop ≡ None → left ≡ 0) → ((why : StopCause) → e.registers.values.stop ≡ Some why → due_count e.registers.values.due ≡ 0) → e.part ≡ d.part → e.wrapped ≡ d.wrapped → e.taken ≡ d.taken + length more
    → DeviceStandsFor part kept wrapped e (bytes ++ more) × (reads_of part kept (bytes ++ more) ≡ reads_of part kept bytes ++ words_still_due part (history_taken part kept (bytes ++ more)) e.registers.values.due)
turned part kept wrapped d e bytes cut more rest run count left room s going went stands reads k j l r i g q p y t =
    let none : first_stop_of_bytes part kept bytes ≡ None = s.stop_is ∙ ap (stop_at_place (length bytes)) going in
    let old : history_taken part kept bytes ≡ history_of bytes = going_taken part kept bytes none in
    let before : RegistersStandFor part kept d.registers (history_of bytes) (length bytes) = subst (λ (h : History). RegistersStandFor part kept d.registers h (length bytes)) old s.registers_are in
    let cutter : IsCutterOf d.cutter bytes = s.cutter_is going in
    let w : AfterRun d.cutter e.cutter (bytes ++ cut) cutter.sessions cutter.place run = went cutter.sessions cutter.place cutter.stands in
    let from : ℕ = next_word cutter.sessions cutter.place in
    let all : History = entered_all from (run_steps run) (history_of bytes) in
    let whole : history_of (bytes ++ cut) ≡ all = cut_enters d.cutter e.cutter bytes cut cutter.sessions cutter.place run from cutter.stands w (next_word_is bytes cutter.sessions cutter.place cutter.stands.reading) in
    let joined : (bytes ++ more) ++ rest ≡ bytes ++ cut = append_assoc bytes more rest ∙ ap (λ t. bytes ++ t) (sym j) in
    let fits : AreBytes ((bytes ++ more) ++ rest) = subst AreBytes (sym joined) w.stands.reading.fits in
    let here : AreBytes (bytes ++ more) = all_prefix (λ b. b < 256) (bytes ++ more) rest fits in
    let m : ℕ = length (bytes ++ more) in
    let count_is : length bytes + (count - left) ≡ m = omega (arith, k, ap length j, length-append more rest, l, length-append bytes more) in
    let prefix : history_of (bytes ++ more) ≡ until m all = sym (prefix_of (bytes ++ more) rest fits) ∙ ap (until m) (ap history_of joined ∙ whole) in
    let placed : Placed (length (bytes ++ cut)) all = subst (λ (h : History). Placed (length (bytes ++ cut)) h) whole (placed_of (bytes ++ cut) w.stands.reading.fits) in
    let ends : EndsWords run from (length bytes) count = subst (λ (x : ℕ). EndsWords run from (length bytes) x) (sym k) (ends_words d.cutter e.cutter bytes cut cutter.sessions cutter.place run room cutter.stands w r i) in
    let counted : History = until (counted_in e.registers.values.stop m) all in
    let after : RegistersStandFor part kept e.registers counted m =
    subst (λ (x : ℕ). RegistersStandFor part kept e.registers (until (counted_in e.registers.values.stop x) all) x) count_is (stands (history_of bytes) from (length bytes) ends before) in
    let stops : first_stop_of_bytes part kept (bytes ++ more) ≡ stop_at_place m e.registers.values.stop =
    ap (λ (x : History). first_stop_of_history part kept x m) prefix ∙ stop_until part kept e.registers.values.stop (length (bytes ++ cut)) m all placed after.stop in
    let new : history_taken part kept (bytes ++ more) ≡ counted =
    ap (λ (o : Option Stopped). history_by o (history_of (bytes ++ more))) stops ∙ ap (history_by (stop_at_place m e.registers.values.stop)) prefix ∙ history_until e.registers.values.stop m all in
    let first : read_out part kept (until (counted_in e.registers.values.stop (length bytes + (count - left))) all)
    ≡ reads_of part kept bytes ++ words_still_due part (until (counted_in e.registers.values.stop (length bytes + (count - left))) all) e.registers.values.due =
    reads (history_of bytes) from (length bytes) ends before
    ∙ ap (λ (x : History). read_out part kept x ++ words_still_due part (until (counted_in e.registers.values.stop (length bytes + (count - left))) all) e.registers.values.due) (sym old) in
    let here_read : read_out part kept counted ≡ reads_of part kept bytes ++ words_still_due part counted e.registers.values.due =
    subst (λ (x : ℕ). read_out part kept (until (counted_in e.registers.values.stop x) all) ≡ reads_of part kept bytes ++ words_still_due part (until (counted_in e.registers.values.stop x) all) e.registers.values.due) count_is first in
    let known : reads_of part kept (bytes ++ more) ≡ reads_of part kept bytes ++ words_still_due part (history_taken part kept (bytes ++ more)) e.registers.values.due =
    subst (λ (x : History). read_out part kept x ≡ reads_of part kept bytes ++ words_still_due part x e.registers.values.due) (sym new) here_read in (
      record {
        fits = here;
        part_is = p ∙ s.part_is;
        wrapped_is = y ∙ s.wrapped_is;
        taken_is = omega (arith, t, s.taken_is, length-append bytes more);
        stop_is = stops;
        registers_are = subst (λ (x : History). RegistersStandFor part kept e.registers x m) (sym new) after;
        cutter_is = λ o. record { sessions = w.new_sessions; place = w.new_place; stands = subst (λ (x : List ℕ). CutterStandsFor e.cutter (bytes ++ x) w.new_sessions w.new_place) (sym (no_rest cut more rest j (l ∙ g o))) w.stands };
        due_are = record { given = reads_of part kept bytes; all = known };
        none_due_at_stop = q;
      },
      known,
    )
