-- Bytes that ask nothing stop no fallback, and startup doesn't begin in them.
use Rattle.std.proofs.Common.{◌≡◌, ◌+◌, ℕ, Bool, true, Option, None, List, [], length, refl, ap, sym, ◌∙◌, arith}
use Rattle.x7_words.specs.Word.{AreBytes}
use Rattle.x7_packets.specs.History.{History, history_of}
use Rattle.x7_packets.specs.SyncWord.{HasNoSync}
use Rattle.x7_packets.proofs.AppendedLemmas.{nothing_read}
use Rattle.x7_part.specs.Part.{PartData}
use Rattle.x7_startup.specs.Startup.{NotBegun}
use Rattle.x7_startup.proofs.CallLemmas.{progress_bytes}
use Rattle.x7_engine.specs.declared.kept.Kept.{Kept}
use Rattle.x7_engine.specs.Kept.{is_fallback}
use Rattle.x7_engine.specs.Startup.{phase_by, startup_progress}
use Rattle.x7_engine.specs.State.{history_by, history_taken, state_of, first_stop_of_bytes, taken_of}
use Rattle.x7_engine.specs.Stop.{Stopped, first_stop_of_history}
use Rattle.x7_engine.proofs.FallbackLemmas.{fallback_off}
use Rattle.x7_engine.proofs.RestLemmas.{stop_on}

-- ---- a fallback over bytes that ask nothing

pub none_stops : (part : PartData) (kept : Kept) (n : ℕ) → is_fallback kept.kind ≡ true → first_stop_of_history part kept [] n ≡ None
none_stops part kept n e =
    let sum : 0 + n ≡ n = omega arith in
    sym (ap (first_stop_of_history part kept []) sum) ∙ stop_on part kept [] 0 n (omega arith) (fallback_off kept [] e) refl

pub gap_goes_on : (part : PartData) (kept : Kept) (bytes : List ℕ) → is_fallback kept.kind ≡ true → history_of bytes ≡ [] → first_stop_of_bytes part kept bytes ≡ None
gap_goes_on part kept bytes e f = ap (λ (h : History). first_stop_of_history part kept h (length bytes)) f ∙ none_stops part kept (length bytes) e

pub gap_taken : (part : PartData) (kept : Kept) (bytes : List ℕ) → is_fallback kept.kind ≡ true → history_of bytes ≡ [] → history_taken part kept bytes ≡ []
gap_taken part kept bytes e f = ap (λ (o : Option Stopped). history_by o (history_of bytes)) (gap_goes_on part kept bytes e f) ∙ f

not_begun : (n : ℕ) → startup_progress [] n ≡ NotBegun
not_begun n = progress_bytes [] n

pub gap_phase : (part : PartData) (kept : Kept) (wrapped : Bool) (bytes : List ℕ) → is_fallback kept.kind ≡ true → history_of bytes ≡ [] → (state_of part kept wrapped bytes).phase ≡ 0
gap_phase part kept wrapped bytes e f =
    ap (λ (h : History). phase_by part (startup_progress h (taken_of part kept bytes))) (gap_taken part kept bytes e f)
    ∙ ap (phase_by part) (not_begun (taken_of part kept bytes))

-- bytes without the sync word stop no fallback, and startup doesn't begin in them
pub no_sync_goes_on : (part : PartData) (kept : Kept) (bytes : List ℕ) → AreBytes bytes → is_fallback kept.kind ≡ true → HasNoSync bytes → first_stop_of_bytes part kept bytes ≡ None
no_sync_goes_on part kept bytes fits e n = gap_goes_on part kept bytes e (nothing_read bytes fits n).1

pub no_sync_phase : (part : PartData) (kept : Kept) (wrapped : Bool) (bytes : List ℕ) → AreBytes bytes → is_fallback kept.kind ≡ true → HasNoSync bytes → (state_of part kept wrapped bytes).phase ≡ 0
no_sync_phase part kept wrapped bytes fits e n = gap_phase part kept wrapped bytes e (nothing_read bytes fits n).1
