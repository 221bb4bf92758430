-- Lemmas on specs/Standing: a device takes a write of one word at once, at no byte of which its clock moves.
use Rattle.std.proofs.Common.{◌≡◌, ◌+◌, ◌-◌, ℕ, Bool, None, List, [], ◌∷◌, ◌++◌, length, take, drop, refl, ap, sym, subst, ◌∙◌, append_assoc, append-nil, arith, length-append}
use Rattle.std.proofs.lemmas.List.{length-take-le, take-append-drop, take_rest}
use Rattle.x7_words.specs.Word.{AreBytes, bytes_of_word}
use Rattle.x7_packets.specs.PacketWords.{type1_write_header}
use Rattle.x7_packets.specs.declared.cutter.Cut.TheVariants as run
use Rattle.x7_packets.specs.declared.header.Step.TheVariants as step
use Rattle.x7_packets.specs.AtOnce.{WritesOne}
use Rattle.x7_packets.specs.Cutter.{CutterState, CutterStandsFor, AfterRun, between}
use Rattle.x7_packets.specs.History.{History, Placed, Write, entry, history_of, next_word, until}
use Rattle.x7_packets.specs.Reading.{EndedSession, Place, Searching, Synced}
use Rattle.x7_packets.proofs.GrowthLemmas.{prefix_of, until_placed}
use Rattle.x7_packets.proofs.HistoryLemmas.{cut_enters, next_word_is}
use Rattle.x7_part.specs.Part.{PartData}
use Rattle.x7_engine.specs.declared.kept.Kept.{Kept}
use Rattle.x7_engine.specs.Standing.{DeviceStandsFor, DeviceState, IsCutterOf, IsNextAccess, RegistersStandFor, counted_in, due_count}
use Rattle.x7_engine.specs.State.{history_by, history_taken, reads_of, first_stop_of_bytes}
use Rattle.x7_engine.specs.Stop.{first_stop_of_history, stop_at_place}
use Rattle.x7_engine.specs.UntilStarted.{CommandsLast}
use Rattle.x7_engine.specs.Value.{read_out}
use Rattle.x7_engine.proofs.ClockLemmas.{idle_ticks}
use Rattle.x7_engine.proofs.DeviceLemmas.{going_taken, one_word_ends}
use Rattle.x7_engine.proofs.FrameLemmas.{no_word_due}
use Rattle.x7_engine.proofs.TurnLemmas.{history_until, newest_within, next_at, step_until, ticked}

-- a payload word ends where its bytes do
word_ends : (c n : CutterState) (bytes cut : List ℕ) (sessions : List EndedSession) (place : Place) (register w : ℕ) → CutterStandsFor c bytes sessions place → AfterRun c n (bytes ++ cut) sessions place (run.Word register w)
    → next_word sessions place + 4 ≡ length bytes + length cut
word_ends c n bytes cut sessions (Searching gap) register w s t = absurd t.adds
word_ends c n bytes cut sessions (Synced gap packets tail) register w s t =
    (one_word_ends n bytes cut gap tail packets (w, step.Payload register w) sessions t.new_sessions t.new_place s.reading t.stands t.adds).1

-- the bytes before and with the write: the cutter took them, and one access more entered, at the last of them
record Written (c : CutterState) (bytes more : List ℕ) (register w : ℕ) : Type 0 where
  cutter : IsCutterOf c (bytes ++ more)
  fits : AreBytes (bytes ++ more)
  history : history_of (bytes ++ more) ≡ entry (Write register w) (length bytes + 8) ∷ history_of bytes

written_one : (c n : CutterState) (bytes rest : List ℕ) (register w : ℕ) → IsCutterOf c bytes → WritesOne c n rest register w → Written n bytes (take 8 rest) register w
written_one c n bytes rest register w cutter one =
    let head : List ℕ = bytes_of_word (type1_write_header register 1) in
    let word : List ℕ = bytes_of_word w in
    let first : AfterRun c one.middle (bytes ++ head) cutter.sessions cutter.place (run.Head (type1_write_header register 1) (step.Open register 1)) = one.head bytes cutter.sessions cutter.place cutter.stands in
    let next : AfterRun one.middle n ((bytes ++ head) ++ word) first.new_sessions first.new_place (run.Word register w) = one.word (bytes ++ head) first.new_sessions first.new_place first.stands in
    let joined : (bytes ++ head) ++ word ≡ bytes ++ take 8 rest = append_assoc bytes head word ∙ ap (λ (t : List ℕ). bytes ++ t) (sym one.begins.are) in
    let quiet : history_of (bytes ++ head) ≡ history_of bytes =
    cut_enters c one.middle bytes head cutter.sessions cutter.place (run.Head (type1_write_header register 1) (step.Open register 1)) (next_word cutter.sessions cutter.place) cutter.stands first (next_word_is bytes cutter.sessions cutter.place cutter.stands.reading) in
    let from : ℕ = next_word first.new_sessions first.new_place in
    let place : from + 4 ≡ length bytes + 8 = omega (arith, word_ends one.middle n (bytes ++ head) word first.new_sessions first.new_place register w first.stands next, length-append bytes head) in
    let longer : history_of ((bytes ++ head) ++ word) ≡ entry (Write register w) (from + 4) ∷ history_of (bytes ++ head) =
    cut_enters one.middle n (bytes ++ head) word first.new_sessions first.new_place (run.Word register w) from first.stands next (next_word_is (bytes ++ head) first.new_sessions first.new_place first.stands.reading) in
    record {
      cutter = record { sessions = next.new_sessions; place = next.new_place; stands = subst (λ (b : List ℕ). CutterStandsFor n b next.new_sessions next.new_place) joined next.stands };
      fits = subst AreBytes joined next.stands.reading.fits;
      history = sym (ap history_of joined) ∙ longer ∙ ap (λ (k : ℕ). entry (Write register w) k ∷ history_of (bytes ++ head)) place ∙ ap (λ (h : History). entry (Write register w) (length bytes + 8) ∷ h) quiet;
    }

-- none of the bytes but the last ends an access
written_last : (bytes more : List ℕ) (register w : ℕ) → length more ≡ 8 → AreBytes (bytes ++ more) → Placed (length bytes) (history_of bytes) → history_of (bytes ++ more) ≡ entry (Write register w) (length bytes + 8) ∷ history_of bytes → CommandsLast bytes more
written_last bytes more register w count fits placed longer = λ k l.
    let prefix : List ℕ = bytes ++ take k more in
    let joined : prefix ++ drop k more ≡ bytes ++ more = append_assoc bytes (take k more) (drop k more) ∙ ap (λ (t : List ℕ). bytes ++ t) (take-append-drop k more) in
    let few : length prefix ≡ length bytes + k = omega (arith, length-append bytes (take k more), length-take-le k more (omega (arith, l))) in (
      [],
      sym (prefix_of prefix (drop k more) (subst AreBytes (sym joined) fits)) ∙ ap (until (length prefix)) (ap history_of joined ∙ longer)
          ∙ step_until (length bytes) (length prefix) (length bytes + 8) (step.Payload register w) (history_of bytes) placed (omega (arith, few)) (omega (arith, few, l, count)),
      tt,
    )

-- the device after the write of one word
pub write_taken : (part : PartData) (kept : Kept) (wrapped : Bool) (d e : DeviceState) (bytes rest : List ℕ) (register w : ℕ) → DeviceStandsFor part kept wrapped d bytes → d.registers.values.stop ≡ None
    → d.registers.values.clock.startup.begun_with ≡ None → d.registers.values.clock.watchdog.limit ≡ 0 → WritesOne d.cutter e.cutter rest register w
    → ((h : History) (place : ℕ) → IsNextAccess place h → RegistersStandFor part kept d.registers h place → RegistersStandFor part kept e.registers (entry (Write register w) place ∷ h) place)
    → ((n : ℕ) → counted_in e.registers.values.stop n ≡ n) → due_count e.registers.values.due ≡ 0 → e.part ≡ d.part → e.wrapped ≡ d.wrapped → e.taken ≡ d.taken + 8
    → DeviceStandsFor part kept wrapped e (bytes ++ take 8 rest) × (reads_of part kept (bytes ++ take 8 rest) ≡ reads_of part kept bytes) × CommandsLast bytes (take 8 rest)
write_taken part kept wrapped d e bytes rest register w s going begun limit one write counts due p y t =
    let none : first_stop_of_bytes part kept bytes ≡ None = s.stop_is ∙ ap (stop_at_place (length bytes)) going in
    let h : History = history_of bytes in
    let old : history_taken part kept bytes ≡ h = going_taken part kept bytes none in
    let before : RegistersStandFor part kept d.registers h (length bytes) = subst (λ (x : History). RegistersStandFor part kept d.registers x (length bytes)) old s.registers_are in
    let all : List ℕ = bytes ++ take 8 rest in
    let m : ℕ = length bytes + 8 in
    let eight : length (take 8 rest) ≡ 8 = length-take-le 8 rest one.begins.whole in
    let count : length all ≡ m = omega (arith, length-append bytes (take 8 rest), eight) in
    let is : Written e.cutter bytes (take 8 rest) register w = written_one d.cutter e.cutter bytes rest register w (s.cutter_is going) one in
    let longer : History = entry (Write register w) m ∷ h in
    let idle : RegistersStandFor part kept d.registers h m =
    ticked part kept d.registers d.registers.values.clock h (length bytes) 8 m refl going before (idle_ticks part kept d.registers.values.clock h (length bytes) 8 (newest_within (length bytes) h before.places) begun limit before.clock) in
    let after : RegistersStandFor part kept e.registers longer m = write h m (next_at (length bytes) 8 h (omega arith) before.places) idle in
    let here : RegistersStandFor part kept e.registers longer (length all) = subst (λ (k : ℕ). RegistersStandFor part kept e.registers longer k) (sym count) after in
    let stops : first_stop_of_bytes part kept all ≡ stop_at_place (length all) e.registers.values.stop = ap (λ (x : History). first_stop_of_history part kept x (length all)) is.history ∙ here.stop in
    let taken : history_taken part kept all ≡ longer =
    ap (λ o. history_by o (history_of all)) stops
    ∙ ap (history_by (stop_at_place (length all) e.registers.values.stop)) (is.history ∙ sym (until_placed (length all) longer here.places))
    ∙ history_until e.registers.values.stop (length all) longer
    ∙ ap (λ (k : ℕ). until k longer) (counts (length all)) ∙ until_placed (length all) longer here.places in
    let known : reads_of part kept all ≡ reads_of part kept bytes = ap (read_out part kept) taken ∙ append-nil (read_out part kept h) ∙ ap (read_out part kept) (sym old) in (
      record {
        fits = is.fits;
        part_is = p ∙ s.part_is;
        wrapped_is = y ∙ s.wrapped_is;
        taken_is = omega (arith, t, s.taken_is, count);
        stop_is = stops;
        registers_are = subst (λ (x : History). RegistersStandFor part kept e.registers x (length all)) (sym taken) here;
        cutter_is = λ o. is.cutter;
        due_are = record { given = reads_of part kept bytes; all = known ∙ no_word_due (reads_of part kept bytes) part (history_taken part kept all) e.registers.values.due due };
        none_due_at_stop = λ why o. due;
      },
      known,
      written_last bytes (take 8 rest) register w eight is.fits before.places is.history,
    )

-- the device after the write of one word at a place of a piece
pub write_at : (part : PartData) (kept : Kept) (wrapped : Bool) (d e : DeviceState) (bytes piece : List ℕ) (from register w : ℕ) → DeviceStandsFor part kept wrapped d bytes → d.registers.values.stop ≡ None
    → d.registers.values.clock.startup.begun_with ≡ None → d.registers.values.clock.watchdog.limit ≡ 0 → WritesOne d.cutter e.cutter (take (length piece - from) (drop from piece)) register w
    → ((h : History) (place : ℕ) → IsNextAccess place h → RegistersStandFor part kept d.registers h place → RegistersStandFor part kept e.registers (entry (Write register w) place ∷ h) place)
    → ((n : ℕ) → counted_in e.registers.values.stop n ≡ n) → due_count e.registers.values.due ≡ 0 → e.part ≡ d.part → e.wrapped ≡ d.wrapped → e.taken ≡ d.taken + 8
    → (let more : List ℕ = between piece from (from + 8) in DeviceStandsFor part kept wrapped e (bytes ++ more) × (reads_of part kept (bytes ++ more) ≡ reads_of part kept bytes) × CommandsLast bytes more)
write_at part kept wrapped d e bytes piece from register w s going begun limit one write counts due p y t =
    let count : 8 ≡ from + 8 - from = omega arith in
    let same : take 8 (take (length piece - from) (drop from piece)) ≡ between piece from (from + 8) = ap (take 8) (take_rest piece from) ∙ ap (λ (k : ℕ). take k (drop from piece)) count in
    subst (λ (more : List ℕ). DeviceStandsFor part kept wrapped e (bytes ++ more) × (reads_of part kept (bytes ++ more) ≡ reads_of part kept bytes) × CommandsLast bytes more) same
    (write_taken part kept wrapped d e bytes (take (length piece - from) (drop from piece)) register w s going begun limit one write counts due p y t)
