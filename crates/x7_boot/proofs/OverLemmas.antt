-- An attempt that ended in the flash ends so over other bytes, or with other
-- kept words, where each prefix ends it alike.
use Rattle.std.proofs.Common.{◌≡◌, ◌==◌, ◌+◌, ◌≤◌, inl, inr, ℕ, true, false, if◌then◌else◌, Option, Some, List, ◌++◌, drop, take, length, length-append, length-take-le, refl, ap, sym, ◌∙◌, take-append-drop, arith}
use Rattle.std.proofs.lemmas.List.{drop-take, take-take}
use Rattle.std.proofs.Math.Seq.{take-append_seam}
use Rattle.x7_packets.specs.Gap.{AreAlike}
use Rattle.x7_packets.specs.History.{history_of}
use Rattle.x7_part.specs.Part.{PartData}
use Rattle.x7_engine.specs.Kept.{AreFallbacks}
use Rattle.x7_engine.specs.Startup.{phase_by, startup_progress}
use Rattle.x7_engine.specs.State.{history_by, state_of, first_stop_of_bytes, taken_by, why_stopped}
use Rattle.x7_engine.specs.Stop.{Stopped}
use Rattle.x7_engine.specs.declared.kept.Kept.{Kept}
use Rattle.x7_engine.specs.declared.snapshot.Snapshot.{Snapshot}
use Rattle.x7_engine.proofs.AlikeLemmas.{alike_state, alike_stop}
use Rattle.x7_engine.proofs.FallbackLemmas.{kept_stop}
use Rattle.x7_boot.specs.Attempt.{EndsFirst, IsFlashAttempt, BootAttempt, ending_at, ending_by}
use Rattle.x7_boot.specs.declared.attempt.Ending.TheVariants.{Started, Failed}

-- the attempt `u` takes as many bytes of `other` as `t` took of `from`, and each prefix of `other` up to there ends `u`
-- as the prefix of `from` of the same length ends `t`
pub record EndsAlike (part : PartData) (from other : List ℕ) (t u : BootAttempt) : Type 0 where
  pub bytes : u.bytes ≡ take (length t.bytes) other
  pub long : length t.bytes ≤ length other
  pub ending : u.ending ≡ t.ending
  pub in_flash : u.wrapped ≡ false
  pub prefixes : (k : ℕ) → k ≤ length t.bytes → ending_at part u.kept (take k other) ≡ ending_at part t.kept (take k from)

pub taken_is : (part : PartData) (from : List ℕ) (t : BootAttempt) → EndsFirst part from t → take (length t.bytes) from ≡ t.bytes
taken_is part from t x = ap (take (length t.bytes)) x.taken ∙ take-append_seam t.bytes x.rest

taken_long : (part : PartData) (from : List ℕ) (t : BootAttempt) → EndsFirst part from t → length t.bytes ≤ length from
taken_long part from t x = omega (arith, ap length x.taken, length-append t.bytes x.rest)

pub ends_alike : (part : PartData) (from other : List ℕ) (t u : BootAttempt) → EndsFirst part from t → EndsAlike part from other t u → EndsFirst part other u
ends_alike part from other t u x a =
    let n : ℕ = length t.bytes in
    let count : length u.bytes ≡ n = ap length a.bytes ∙ length-take-le n other a.long in
    record {
      rest = drop n other;
      taken = sym (take-append-drop n other) ∙ ap (λ (b : List ℕ). b ++ drop n other) (sym a.bytes);
      ends = ap (ending_at part u.kept) a.bytes ∙ a.prefixes n (omega arith) ∙ ap (ending_at part t.kept) (taken_is part from t x) ∙ x.ends ∙ ap Some (sym a.ending);
      first = λ k less. a.prefixes k (omega (arith, less, count)) ∙ x.first k (omega (arith, less, count));
      in_flash = a.in_flash;
    }

-- an attempt that started ended in the flash
pub started_first : (part : PartData) (flash : List ℕ) (t : BootAttempt) → IsFlashAttempt part flash t → t.ending ≡ Started → EndsFirst part (drop t.address flash) t
started_first part flash t (inl x) started = x
started_first part flash t (inr x) started = let no : Failed _ ≡ Started = sym x.failed ∙ started in absurd (cc)

-- ---- over the same bytes

pub attempt_over : (part : PartData) (flash other : List ℕ) (t : BootAttempt) → IsFlashAttempt part flash t → t.wrapped ≡ false → take (t.address + length t.bytes) other ≡ take (t.address + length t.bytes) flash → IsFlashAttempt part other t
attempt_over part flash other t (inl x) in_flash e =
    let n : ℕ = length t.bytes in
    let here : List ℕ = drop t.address flash in
    let there : List ℕ = drop t.address other in
    let same : take n there ≡ take n here = sym (drop-take t.address n other) ∙ ap (drop t.address) e ∙ drop-take t.address n flash in
    let bytes : take n there ≡ t.bytes = same ∙ taken_is part here t x in
    inl (ends_alike part here there t t x (record {
      bytes = sym bytes;
      long = omega (arith, ap length bytes, ap length (take-append-drop n there), length-append (take n there) (drop n there));
      ending = refl;
      in_flash = in_flash;
      prefixes = λ k l. ap (ending_at part t.kept) (sym (take-take k n there l) ∙ ap (take k) same ∙ take-take k n here l);
    }))
attempt_over part flash other t (inr x) in_flash e = let both : true ≡ false = sym x.past_end ∙ in_flash in absurd (cc)

-- ---- over bytes that are alike

alike_ending : (part : PartData) (kept : Kept) (one other : List ℕ) → AreAlike one other → ending_at part kept one ≡ ending_at part kept other
alike_ending part kept one other a =
    ap (λ (r : Snapshot). if r.phase == 7 then Some Started else ending_by (why_stopped (first_stop_of_bytes part kept one))) (alike_state part kept one other a false)
    ∙ ap (λ (o : Option Stopped). if (state_of part kept false other).phase == 7 then Some Started else ending_by (why_stopped o)) (alike_stop part kept one other a)

abbrev pub alike_attempt : BootAttempt → List ℕ → BootAttempt
alike_attempt t other = record { kept = t.kept; address = t.address; bytes = take (length t.bytes) other; wrapped = false; ending = t.ending }

pub alike_ends : (part : PartData) (from other : List ℕ) (t : BootAttempt) → EndsFirst part from t → length t.bytes ≤ length other → ((k : ℕ) → k ≤ length t.bytes → AreAlike (take k from) (take k other)) → EndsFirst part other (alike_attempt t other)
alike_ends part from other t x long alike =
    ends_alike part from other t (alike_attempt t other) x (record { bytes = refl; long = long; ending = refl; in_flash = refl; prefixes = λ k l. sym (alike_ending part t.kept (take k from) (take k other) (alike k l)) })

-- ---- with other kept words

kept_ending : (part : PartData) (one other : Kept) (bytes : List ℕ) → AreFallbacks one other → ending_at part one bytes ≡ ending_at part other bytes
kept_ending part one other bytes f =
    ap (λ (o : Option Stopped). if phase_by part (startup_progress (history_by o (history_of bytes)) (taken_by o (length bytes))) == 7 then Some Started else ending_by (why_stopped o)) (kept_stop part one other bytes f)

abbrev pub with_kept : BootAttempt → Kept → BootAttempt
with_kept t kept = record { kept = kept; address = t.address; bytes = t.bytes; wrapped = t.wrapped; ending = t.ending }

pub kept_ends : (part : PartData) (from : List ℕ) (t : BootAttempt) (kept : Kept) → AreFallbacks kept t.kept → EndsFirst part from t → EndsFirst part from (with_kept t kept)
kept_ends part from t kept f x =
    ends_alike part from from t (with_kept t kept) x (record {
      bytes = sym (taken_is part from t x);
      long = taken_long part from t x;
      ending = refl;
      in_flash = x.in_flash;
      prefixes = λ k l. kept_ending part kept t.kept (take k from) f;
    })
