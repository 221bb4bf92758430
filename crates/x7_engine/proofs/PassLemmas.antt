-- Lemmas on specs/Standing: a device takes no-ops in a row.
use Rattle.std.proofs.Common.{◌≡◌, ◌+◌, ◌-◌, ◌<◌, ◌≤◌, ℕ, Bool, None, Some, List, [], ◌++◌, length, take, drop, ap, sym, subst, ◌∙◌, append_assoc, arith, length-append}
use Rattle.std.proofs.Math.Seq.{take-add}
use Rattle.std.proofs.lemmas.List.{drop-drop}
use Rattle.x7_words.specs.Word.{AreBytes}
use Rattle.x7_words.proofs.ListLemmas.{all_prefix}
use Rattle.x7_packets.specs.Cutter.{CutterState, CutterStandsFor, between}
use Rattle.x7_packets.specs.History.{History, Placed, history_of, until}
use Rattle.x7_packets.specs.Nops.{IdlesThrough}
use Rattle.x7_packets.specs.Reading.{Place, EndedSession}
use Rattle.x7_packets.proofs.GrowthLemmas.{prefix_of, placed_of, placed_within, until_placed}
use Rattle.x7_packets.proofs.HistoryLemmas.{history_is}
use Rattle.x7_part.specs.Part.{PartData}
use Rattle.x7_engine.specs.declared.fault.Fault.TheVariants as fault
use Rattle.x7_engine.specs.declared.kept.Kept.{Kept}
use Rattle.x7_engine.specs.declared.stop.StopCause.{StopCause}
use Rattle.x7_engine.specs.declared.stop.StopCause.TheVariants as stop
use Rattle.x7_engine.specs.Standing.{DeviceStandsFor, DeviceState, IsCutterOf, RegistersStandFor, counted_in, due_count, reads_given}
use Rattle.x7_engine.specs.State.{history_by, history_taken, reads_of, first_stop_of_bytes}
use Rattle.x7_engine.specs.Stop.{first_stop_of_history, stop_at_place}
use Rattle.x7_engine.specs.Value.{read_out}
use Rattle.x7_engine.proofs.DeviceLemmas.{going_taken, given_by}
use Rattle.x7_engine.proofs.FrameLemmas.{no_word_due}
use Rattle.x7_engine.proofs.TurnLemmas.{history_until, no_rest, quiet_until}

-- the bytes of a piece from a place to a second, and from there to a third
pub between_join : (piece : List ℕ) (from at to : ℕ) → from ≤ at → at ≤ to → between piece from at ++ between piece at to ≡ between piece from to
between_join piece from at to l m =
    let sum : at - from + (to - at) ≡ to - from = omega (arith, l, m) in
    let place : from + (at - from) ≡ at = omega (arith, l) in
    ap (λ (k : ℕ). between piece from at ++ take (to - at) (drop k piece)) (sym place)
    ∙ ap (λ t. between piece from at ++ take (to - at) t) (sym (drop-drop (at - from) from piece))
    ∙ sym (take-add (at - from) (to - at) (drop from piece))
    ∙ ap (λ (k : ℕ). take k (drop from piece)) sum

pub passed : (part : PartData) (kept : Kept) (wrapped : Bool) (d e : DeviceState) (bytes cut more rest : List ℕ) (count left : ℕ) → DeviceStandsFor part kept wrapped d bytes → d.registers.values.stop ≡ None → due_count d.registers.values.due ≡ 0
    → ((sessions : List EndedSession) (place : Place) → CutterStandsFor d.cutter bytes sessions place → IdlesThrough d.cutter (bytes ++ cut) sessions place)
    → ((h : History) (n : ℕ) → RegistersStandFor part kept d.registers h n → RegistersStandFor part kept e.registers h (n + (count - left)))
    → count ≡ length cut → cut ≡ more ++ rest → length rest ≡ left → (e.registers.values.stop ≡ None → left ≡ 0)
    → ((why : StopCause) → e.registers.values.stop ≡ Some why → (why ≡ stop.Fault fault.Watchdog) × (left < count))
    → e.cutter ≡ d.cutter → e.part ≡ d.part → e.wrapped ≡ d.wrapped → e.taken ≡ d.taken + length more → due_count e.registers.values.due ≡ 0
    → DeviceStandsFor part kept wrapped e (bytes ++ more) × (reads_of part kept (bytes ++ more) ≡ reads_of part kept bytes) × (history_of (bytes ++ more) ≡ history_of bytes)
passed part kept wrapped d e bytes cut more rest count left s going quiet idles stands k j l g f c p y t due =
    let none : first_stop_of_bytes part kept bytes ≡ None = s.stop_is ∙ ap (stop_at_place (length bytes)) going in
    let h : History = history_of bytes in
    let old : history_taken part kept bytes ≡ h = going_taken part kept bytes none in
    let before : RegistersStandFor part kept d.registers h (length bytes) = subst (λ (x : History). RegistersStandFor part kept d.registers x (length bytes)) old s.registers_are in
    let cutter : IsCutterOf d.cutter bytes = s.cutter_is going in
    let i : IdlesThrough d.cutter (bytes ++ cut) cutter.sessions cutter.place = idles cutter.sessions cutter.place cutter.stands in
    let whole : history_of (bytes ++ cut) ≡ h = sym (history_is (bytes ++ cut) cutter.sessions i.new_place i.stands.reading) ∙ i.nothing ∙ history_is bytes cutter.sessions cutter.place cutter.stands.reading in
    let joined : (bytes ++ more) ++ rest ≡ bytes ++ cut = append_assoc bytes more rest ∙ ap (λ b. bytes ++ b) (sym j) in
    let fits : AreBytes ((bytes ++ more) ++ rest) = subst AreBytes (sym joined) i.stands.reading.fits in
    let here : AreBytes (bytes ++ more) = all_prefix (λ b. b < 256) (bytes ++ more) rest fits in
    let m : ℕ = length (bytes ++ more) in
    let count_is : length bytes + (count - left) ≡ m = omega (arith, k, ap length j, length-append more rest, l, length-append bytes more) in
    let placed : Placed (length bytes) h = placed_of bytes (all_prefix (λ b. b < 256) bytes more here) in
    let prefix : history_of (bytes ++ more) ≡ h =
    sym (prefix_of (bytes ++ more) rest fits) ∙ ap (until m) (ap history_of joined ∙ whole)
    ∙ until_placed m h (placed_within (length bytes) m h (omega (arith, length-append bytes more)) placed) in
    let after : RegistersStandFor part kept e.registers h m = subst (λ (x : ℕ). RegistersStandFor part kept e.registers h x) count_is (stands h (length bytes) before) in
    let stops : first_stop_of_bytes part kept (bytes ++ more) ≡ stop_at_place m e.registers.values.stop = ap (λ (x : History). first_stop_of_history part kept x m) prefix ∙ after.stop in
    let all : until (counted_in e.registers.values.stop m) h ≡ h =
    subst (λ (x : ℕ). until (counted_in e.registers.values.stop x) h ≡ h) count_is (quiet_until e.registers.values.stop (length bytes) count left h f placed) in
    let new : history_taken part kept (bytes ++ more) ≡ h =
    ap (λ o. history_by o (history_of (bytes ++ more))) stops
    ∙ ap (history_by (stop_at_place m e.registers.values.stop)) (prefix ∙ sym (until_placed m h (placed_within (length bytes) m h (omega (arith, length-append bytes more)) placed)))
    ∙ history_until e.registers.values.stop m h ∙ all in
    let known : reads_of part kept (bytes ++ more) ≡ reads_of part kept bytes = ap (read_out part kept) new ∙ ap (read_out part kept) (sym old) in (
      record {
        fits = here;
        part_is = p ∙ s.part_is;
        wrapped_is = y ∙ s.wrapped_is;
        taken_is = omega (arith, t, s.taken_is, length-append bytes more);
        stop_is = stops;
        registers_are = subst (λ (x : History). RegistersStandFor part kept e.registers x m) (sym new) after;
        cutter_is = λ o. record {
          sessions = cutter.sessions;
          place = i.new_place;
          stands = subst (λ (x : CutterState). CutterStandsFor x (bytes ++ more) cutter.sessions i.new_place) (sym c)
              (subst (λ (x : List ℕ). CutterStandsFor d.cutter (bytes ++ x) cutter.sessions i.new_place) (sym (no_rest cut more rest j (l ∙ g o))) i.stands);
        };
        due_are = record { given = reads_of part kept bytes; all = known ∙ no_word_due (reads_of part kept bytes) part (history_taken part kept (bytes ++ more)) e.registers.values.due due };
        none_due_at_stop = λ why o. due;
      },
      known,
      prefix,
    )

-- the words given stay where none is due before or after
pub given_same : (part : PartData) (kept : Kept) (d e : DeviceState) (bytes more : List ℕ) → due_count d.registers.values.due ≡ 0 → due_count e.registers.values.due ≡ 0 → reads_of part kept more ≡ reads_of part kept bytes → reads_given part kept e more ≡ reads_given part kept d bytes
given_same part kept d e bytes more i j r =
    given_by part kept e more (reads_of part kept bytes) [] (r ∙ no_word_due (reads_of part kept bytes) part [] e.registers.values.due j)
    ∙ sym (given_by part kept d bytes (reads_of part kept bytes) [] (no_word_due (reads_of part kept bytes) part [] d.registers.values.due i))
