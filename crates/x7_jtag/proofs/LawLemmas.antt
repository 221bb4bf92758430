-- What the device of a tap has taken, and how many words of it are due.
use Rattle.std.proofs.Common.{◌≡◌, ◌⊎◌, inl, inr, ℕ, zero, suc, ◌+◌, ◌-◌, ◌/◌, true, false, List, [], ◌++◌, length, take, Option, Some, None, refl, ap, sym, subst, ◌∙◌, append-nil, length-append, arith}
use Rattle.std.proofs.Math.Seq.{take-append_seam, take-length}
use Rattle.std.proofs.lemmas.List.{length-take-le}
use Rattle.std.specs.Option.{IsSome, is_some}
use Rattle.x7_words.specs.Word.{AreBytes}
use Rattle.x7_part.specs.Part.{PartData}
use Rattle.x7_engine.specs.declared.stop.StopCause.{StopCause}
use Rattle.x7_engine.specs.Kept.{on_the_bench}
use Rattle.x7_packets.specs.History.{History}
use Rattle.x7_engine.specs.Past.{past_of, state_owing_at}
use Rattle.x7_engine.specs.Standing.{DeviceStandsFor, DeviceState, due_count, frames_among, frames_due, words_still_due}
use Rattle.x7_engine.specs.State.{history_taken, reads_of, first_stop_of_bytes, taken_by, taken_of}
use Rattle.x7_engine.specs.Stop.{Stopped, stop_at_place}
use Rattle.x7_engine.proofs.FrameLemmas.{length_left}
use Rattle.x7_engine.proofs.StateLemmas.{stop_is_final_stop}
use Rattle.x7_jtag.specs.Port.{port_after, words_read_out}
use Rattle.x7_jtag.specs.Shown.{bytes_taken, state_shown}
use Rattle.x7_jtag.specs.State.{PortClock}
use Rattle.x7_jtag.specs.Queue.{queue_of}
use Rattle.x7_jtag.specs.Tap.{QueueHolds, TapStandsFor, TapState, TookOfGiven, reads_taken, QueueState, QueueStandsFor}
use Rattle.x7_jtag.proofs.TookLemmas.{reads_took}

place_of : (n : ℕ) (line : Option StopCause) (s : Stopped) → stop_at_place n line ≡ Some s → s.place ≡ n
place_of n None s e = absurd (let b : false ≡ true = ap is_some e in cc)
place_of n (Some line) s e = let P : Option Stopped → ℕ = λ o. elim o as (λ x. ℕ) [ None ↦ n | Some t ↦ t.place ] in sym (ap P e)

-- the bytes taken are the first of those given, up to the stop
took_by : (part : PartData) (given bytes : List ℕ) (d : DeviceState) (t : TookOfGiven part given bytes) → DeviceStandsFor part on_the_bench false d bytes → (o : Option Stopped) → first_stop_of_bytes part on_the_bench bytes ≡ o → (t.rest ≡ []) ⊎ IsSome (first_stop_of_bytes part on_the_bench bytes)
    → bytes ≡ take (taken_of part on_the_bench given) given
took_by part given bytes d t s None e (inl r) =
    let whole : given ≡ bytes = t.parts ∙ ap (λ x. bytes ++ x) r ∙ append-nil bytes in
    let none : first_stop_of_bytes part on_the_bench given ≡ None = ap (first_stop_of_bytes part on_the_bench) whole ∙ e in
    let all : taken_of part on_the_bench given ≡ length given = ap (λ (o : Option Stopped). taken_by o (length given)) none in
    sym whole ∙ sym (ap (λ (n : ℕ). take n given) all ∙ take-length given)
took_by part given bytes d t s None e (inr x) = absurd (let b : false ≡ true = sym (ap is_some e) ∙ x in cc)
took_by part given bytes d t s (Some stop) e over =
    let place : stop.place ≡ length bytes = place_of (length bytes) d.registers.values.stop stop (sym s.stop_is ∙ e) in
    let stops : first_stop_of_bytes part on_the_bench given ≡ Some stop = ap (first_stop_of_bytes part on_the_bench) t.parts ∙ stop_is_final_stop part on_the_bench bytes t.rest stop (subst AreBytes t.parts t.fits) e in
    let count : taken_of part on_the_bench given ≡ length bytes = ap (λ (o : Option Stopped). taken_by o (length given)) stops ∙ place in
    sym (ap (λ (n : ℕ). take n given) count ∙ ap (take (length bytes)) t.parts ∙ take-append_seam bytes t.rest)

pub took_first : (part : PartData) (given bytes : List ℕ) (d : DeviceState) → TookOfGiven part given bytes → DeviceStandsFor part on_the_bench false d bytes → bytes ≡ take (taken_of part on_the_bench given) given
took_first part given bytes d t s = took_by part given bytes d t s (first_stop_of_bytes part on_the_bench bytes) refl t.over

pub device_is : (part : PartData) (t : TapState) (d : DeviceState) (cs : List PortClock) → TapStandsFor part t d cs
    → DeviceStandsFor part on_the_bench false d (take (taken_of part on_the_bench (port_after part cs).queue.given) (port_after part cs).queue.given)
device_is part t d cs s =
    let h : QueueHolds part t.queue d (port_after part cs).queue = s.queue_is.holds in
    subst (DeviceStandsFor part on_the_bench false d) (took_first part (port_after part cs).queue.given h.bytes d h.took h.device) h.device

-- the words due are those after the word whose bits go out
due_by : (part : PartData) (k : QueueState) (d : DeviceState) (given held : List ℕ) (out : ℕ) → QueueStandsFor part k d (queue_of given held out) → due_count d.registers.values.due ≡ length (words_read_out part given) - (out / 32 + 1)
due_by part k d given held out s =
    let h : QueueHolds part k d (queue_of given held out) = s.holds in
    let reads : List ℕ = reads_of part on_the_bench h.bytes in
    let left : List ℕ = words_still_due part (history_taken part on_the_bench h.bytes) d.registers.values.due in
    let count : length reads ≡ length h.device.due_are.given + due_count d.registers.values.due = ap length h.device.due_are.all ∙ length-append h.device.due_are.given left ∙ ap (λ n. length h.device.due_are.given + n) (length_left part (history_taken part on_the_bench h.bytes) d.registers.values.due) in
    let whole : length (words_read_out part given) ≡ length reads = ap length (reads_took part given h.bytes h.took) in
    let taken : length (reads_taken part d h.bytes) ≡ length reads - due_count d.registers.values.due = length-take-le (length reads - due_count d.registers.values.due) reads (omega arith) in
    by k.bits_left refl count whole taken
  where
    by : (left : ℕ) → k.bits_left ≡ left → length (reads_of part on_the_bench s.holds.bytes) ≡ length s.holds.device.due_are.given + due_count d.registers.values.due → length (words_read_out part given) ≡ length (reads_of part on_the_bench s.holds.bytes)
        → length (reads_taken part d s.holds.bytes) ≡ length (reads_of part on_the_bench s.holds.bytes) - due_count d.registers.values.due → due_count d.registers.values.due ≡ length (words_read_out part given) - (out / 32 + 1)
    by zero z count whole taken = omega (arith, z, count, whole, taken, s.holds.out_is, s.no_word_due z)
    by (suc m) z count whole taken = omega (arith, z, count, whole, taken, s.holds.out_is, s.holds.bits_left_is)

pub due_is : (part : PartData) (t : TapState) (d : DeviceState) (cs : List PortClock) → TapStandsFor part t d cs
    → due_count d.registers.values.due ≡ length (words_read_out part (port_after part cs).queue.given) - ((port_after part cs).queue.out / 32 + 1)
due_is part t d cs s = due_by part t.queue d (port_after part cs).queue.given (port_after part cs).queue.held (port_after part cs).queue.out s.queue_is

-- what a device shows is what the clocks' port says
pub shows_is : (part : PartData) (t : TapState) (d : DeviceState) (cs : List PortClock) → TapStandsFor part t d cs
    → state_owing_at (past_of part on_the_bench false (bytes_taken part (port_after part cs))) (frames_due d.registers.values.due) ≡ state_shown part (port_after part cs)
shows_is part t d cs s =
    let bytes : List ℕ = bytes_taken part (port_after part cs) in
    let h : History = history_taken part on_the_bench bytes in
    let kind : frames_due d.registers.values.due ≡ frames_among h (due_count d.registers.values.due) = (device_is part t d cs s).registers_are.due_kind in
    ap (state_owing_at (past_of part on_the_bench false bytes)) (kind ∙ ap (frames_among h) (due_is part t d cs s))
