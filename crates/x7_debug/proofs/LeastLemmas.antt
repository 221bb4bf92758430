-- What stops a device comes at the last position alone.
use Rattle.std.proofs.Common.{◌≡◌, inl, inr, ℕ, ◌<◌, ◌≤◌, Bool, true, false, List, ◌++◌, length, take, drop, Option, Some, None, refl, ap, sym, subst, ◌∙◌, arith}
use Rattle.std.proofs.lemmas.Bool.{cases_order}
use Rattle.std.proofs.lemmas.List.{length-take-le, take-append-drop}
use Rattle.x7_words.specs.Word.{AreBytes}
use Rattle.x7_words.proofs.ListLemmas.{all_prefix}
use Rattle.x7_packets.specs.ByHand.{reading_of}
use Rattle.x7_packets.specs.Reading.{is_synced}
use Rattle.x7_part.specs.Part.{PartData}
use Rattle.x7_engine.specs.declared.stop.StopCause.{StopCause}
use Rattle.x7_engine.specs.Kept.{on_the_bench}
use Rattle.x7_engine.specs.State.{end_by, why_stopped, first_stop_of_bytes}
use Rattle.x7_engine.specs.Stop.{Stopped}
use Rattle.x7_engine.proofs.StateLemmas.{stop_is_final_stop, stop_place}
use Rattle.x7_debug.specs.declared.order.Stop.TheVariants as stop
use Rattle.x7_debug.specs.Position.{ends_at_stop, holds_at, last_of, until_of}
use Rattle.x7_debug.proofs.FeedLemmas.{taken_stopped}
use Rattle.x7_debug.proofs.PositionLemmas.{last_within, until_last, until_there}

-- before the last position nothing has stopped
none_before : (part : PartData) (stream : List ℕ) (n : ℕ) → AreBytes stream → n < last_of part stream → first_stop_of_bytes part on_the_bench (take n stream) ≡ None
none_before part stream n fits lt = by (first_stop_of_bytes part on_the_bench (take n stream)) refl
  where
    whole : take n stream ++ drop n stream ≡ stream
    whole = take-append-drop n stream

    fit : AreBytes (take n stream ++ drop n stream)
    fit = subst (λ b. AreBytes b) (sym whole) fits

    long : length (take n stream) ≡ n
    long = length-take-le n stream (omega (arith, lt, last_within part stream fits))

    by : (o : Option Stopped) → first_stop_of_bytes part on_the_bench (take n stream) ≡ o → first_stop_of_bytes part on_the_bench (take n stream) ≡ None
    by None e = e
    by (Some s) e =
        let later : first_stop_of_bytes part on_the_bench stream ≡ Some s = ap (first_stop_of_bytes part on_the_bench) (sym whole) ∙ stop_is_final_stop part on_the_bench (take n stream) (drop n stream) s fit e in
        let place = stop_place part on_the_bench (take n stream) s (all_prefix (λ b. b < 256) (take n stream) (drop n stream) fit) e in
        absurd (omega (arith, taken_stopped part on_the_bench stream s later, place.1, long, lt))

going : (o : Option StopCause) (synced : Bool) (wbstar : ℕ) → o ≡ None → ends_at_stop (end_by o synced wbstar) ≡ false
going o true wbstar e = ap (λ (x : Option StopCause). ends_at_stop (end_by x true wbstar)) e
going o false wbstar e = ap (λ (x : Option StopCause). ends_at_stop (end_by x false wbstar)) e

not_stopped : (part : PartData) (stream : List ℕ) (n : ℕ) → AreBytes stream → n < last_of part stream → holds_at part stream stop.Stopped n ≡ false
not_stopped part stream n fits lt = going (why_stopped (first_stop_of_bytes part on_the_bench (take n stream))) (is_synced (reading_of (take n stream)).place) _ (ap why_stopped (none_before part stream n fits lt))

pub until_stopped : (part : PartData) (stream : List ℕ) (at : ℕ) → AreBytes stream → at ≤ last_of part stream → until_of part stream stop.Stopped at ≡ last_of part stream
until_stopped part stream at fits le = by (holds_at part stream stop.Stopped (last_of part stream)) refl
  where
    by : (b : Bool) → holds_at part stream stop.Stopped (last_of part stream) ≡ b → until_of part stream stop.Stopped at ≡ last_of part stream
    by true e =
        elim (cases_order at (last_of part stream)) [
          | inl same ↦ until_last part stream stop.Stopped at (last_of part stream) (omega arith) (omega arith) le (λ k h j. absurd (omega arith))
          | inr (inl below) ↦ until_there part stream stop.Stopped at (last_of part stream) below (omega arith) e (λ k h j. not_stopped part stream k fits j)
          | inr (inr above) ↦ absurd (omega arith)
        ]
    by false e =
        until_last part stream stop.Stopped at (last_of part stream) (omega arith) (omega arith) le (λ k h j. elim (cases_order k (last_of part stream)) [
          | inl same ↦ ap (holds_at part stream stop.Stopped) same ∙ e
          | inr (inl below) ↦ not_stopped part stream k fits below
          | inr (inr above) ↦ absurd (omega arith)
        ])
