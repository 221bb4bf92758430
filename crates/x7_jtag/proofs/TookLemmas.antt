-- Lemmas on a device that is given bytes: it takes all of them, or those up to its stop.
use Rattle.std.proofs.Common.{◌≡◌, ◌⊎◌, inl, inr, ℕ, zero, suc, ◌+◌, ◌-◌, ◌<◌, ◌≤◌, true, false, List, [], ◌∷◌, ◌++◌, length, take, drop, Option, Some, None, refl, ap, sym, subst, ◌∙◌, append_assoc, append-nil, length-append, arith}
use Rattle.std.proofs.Math.Seq.{take-length, drop-length}
use Rattle.std.proofs.lemmas.List.{take-append-drop}
use Rattle.std.specs.Option.{IsSome, is_some}
use Rattle.x7_words.specs.Word.{AreBytes}
use Rattle.x7_words.proofs.ListLemmas.{all_append, taken_and_left}
use Rattle.x7_part.specs.Part.{PartData}
use Rattle.x7_engine.specs.declared.fed.Fed.{Fed}
use Rattle.x7_engine.specs.declared.fed.Fed.TheVariants as fed
use Rattle.x7_engine.specs.Kept.{on_the_bench}
use Rattle.x7_engine.specs.ReadBuffer.{IsFull, ReadBufState}
use Rattle.x7_engine.specs.Past.{AnswersAt, past_of}
use Rattle.x7_engine.specs.Standing.{DeviceState, NoWordDue, due_count, taken_in}
use Rattle.x7_engine.specs.State.{reads_of, state_of, first_stop_of_bytes}
use Rattle.x7_engine.specs.Stop.{Stopped}
use Rattle.x7_engine.proofs.StateLemmas.{stop_is_final_reads, stop_is_final_state}
use Rattle.x7_jtag.specs.Tap.{TookOfGiven, reads_taken}

-- what is given where nothing is left over
took_whole : (part : PartData) (given bytes : List ℕ) (t : TookOfGiven part given bytes) → t.rest ≡ [] → given ≡ bytes
took_whole part given bytes t e = t.parts ∙ ap (λ r. bytes ++ r) e ∙ append-nil bytes

-- the stop of an option that has one
the_stop : (o : Option Stopped) → IsSome o → (s : Stopped) × (o ≡ Some s)
the_stop None e = absurd (let f : false ≡ true = e in cc)
the_stop (Some s) e = (s, refl)

-- a piece more is given
module _ (part : PartData) (given bytes piece : List ℕ) (n : ℕ) where
  more_over : IsSome (first_stop_of_bytes part on_the_bench (bytes ++ take n piece)) ⊎ (n ≡ length piece) → (drop n piece ≡ []) ⊎ IsSome (first_stop_of_bytes part on_the_bench (bytes ++ take n piece))
  more_over (inl s) = inr s
  more_over (inr e) = inl (ap (λ (k : ℕ). drop k piece) e ∙ drop-length piece)

  more_by : AreBytes piece → (t : TookOfGiven part given bytes) → (IsSome (first_stop_of_bytes part on_the_bench bytes) → n ≡ 0) → IsSome (first_stop_of_bytes part on_the_bench (bytes ++ take n piece)) ⊎ (n ≡ length piece)
      → (t.rest ≡ []) ⊎ IsSome (first_stop_of_bytes part on_the_bench bytes) → TookOfGiven part (given ++ piece) (bytes ++ take n piece)
  more_by f t z s (inl e) = record {
    fits = all_append (λ b. b < 256) given piece t.fits f;
    rest = drop n piece;
    parts = ap (λ g. g ++ piece) (took_whole part given bytes t e) ∙ sym (taken_and_left bytes piece n);
    over = more_over s;
  }
  more_by f t z s (inr stop) =
      let same : bytes ++ take n piece ≡ bytes = ap (λ (k : ℕ). bytes ++ take k piece) (z stop) ∙ append-nil bytes in
      record {
        fits = all_append (λ b. b < 256) given piece t.fits f;
        rest = t.rest ++ piece;
        parts = ap (λ g. g ++ piece) t.parts ∙ append_assoc bytes t.rest piece ∙ ap (λ b. b ++ (t.rest ++ piece)) (sym same);
        over = inr (subst (λ b. IsSome (first_stop_of_bytes part on_the_bench b)) (sym same) stop);
      }

  pub took_more : AreBytes piece → (t : TookOfGiven part given bytes) → (IsSome (first_stop_of_bytes part on_the_bench bytes) → n ≡ 0) → IsSome (first_stop_of_bytes part on_the_bench (bytes ++ take n piece)) ⊎ (n ≡ length piece)
      → TookOfGiven part (given ++ piece) (bytes ++ take n piece)
  took_more f t z s = more_by f t z s t.over

-- what the bytes given read out, those taken read out
reads_by : (part : PartData) (given bytes : List ℕ) (t : TookOfGiven part given bytes) → (t.rest ≡ []) ⊎ IsSome (first_stop_of_bytes part on_the_bench bytes) → reads_of part on_the_bench given ≡ reads_of part on_the_bench bytes
reads_by part given bytes t (inl e) = ap (reads_of part on_the_bench) (took_whole part given bytes t e)
reads_by part given bytes t (inr s) =
    let stop : (s : Stopped) × (first_stop_of_bytes part on_the_bench bytes ≡ Some s) = the_stop (first_stop_of_bytes part on_the_bench bytes) s in
    ap (reads_of part on_the_bench) t.parts ∙ stop_is_final_reads part on_the_bench bytes t.rest stop.0 (subst AreBytes t.parts t.fits) stop.1

pub reads_took : (part : PartData) (given bytes : List ℕ) → TookOfGiven part given bytes → reads_of part on_the_bench given ≡ reads_of part on_the_bench bytes
reads_took part given bytes t = reads_by part given bytes t t.over

state_by : (part : PartData) (given bytes : List ℕ) (t : TookOfGiven part given bytes) → (t.rest ≡ []) ⊎ IsSome (first_stop_of_bytes part on_the_bench bytes) → state_of part on_the_bench false given ≡ state_of part on_the_bench false bytes
state_by part given bytes t (inl e) = ap (state_of part on_the_bench false) (took_whole part given bytes t e)
state_by part given bytes t (inr s) =
    let stop : (s : Stopped) × (first_stop_of_bytes part on_the_bench bytes ≡ Some s) = the_stop (first_stop_of_bytes part on_the_bench bytes) s in
    ap (state_of part on_the_bench false) t.parts ∙ stop_is_final_state part on_the_bench false bytes t.rest stop.0 (subst AreBytes t.parts t.fits) stop.1

pub state_took : (part : PartData) (given bytes : List ℕ) → TookOfGiven part given bytes → state_of part on_the_bench false given ≡ state_of part on_the_bench false bytes
state_took part given bytes t = state_by part given bytes t t.over

-- where no word is due, the words taken are all those read out
pub taken_all : (part : PartData) (d : DeviceState) (bytes : List ℕ) → NoWordDue d → reads_taken part d bytes ≡ reads_of part on_the_bench bytes
taken_all part d bytes none =
    let all : length (reads_of part on_the_bench bytes) - due_count d.registers.values.due ≡ length (reads_of part on_the_bench bytes) = omega (arith, none) in
    ap (λ (n : ℕ). take n (reads_of part on_the_bench bytes)) all ∙ take-length (reads_of part on_the_bench bytes)

-- the words taken are the first of those read out
pub taken_first : (part : PartData) (d : DeviceState) (bytes : List ℕ) → (more : List ℕ) × (reads_taken part d bytes ++ more ≡ reads_of part on_the_bench bytes)
taken_first part d bytes =
    let n : ℕ = length (reads_of part on_the_bench bytes) - due_count d.registers.values.due in
    (drop n (reads_of part on_the_bench bytes), take-append-drop n (reads_of part on_the_bench bytes))

pub taken_few : (part : PartData) (d : DeviceState) (bytes : List ℕ) → length (reads_taken part d bytes) ≤ length (reads_of part on_the_bench bytes)
taken_few part d bytes =
    let first : (more : List ℕ) × (reads_taken part d bytes ++ more ≡ reads_of part on_the_bench bytes) = taken_first part d bytes in
    omega (arith, ap length first.1, length-append (reads_taken part d bytes) first.0)

-- ---- what a feed of at most one byte came to, by its answer

-- the device has stopped, or took the whole piece; a word that is due has come with its byte
pub goes_on : (part : PartData) (d e : DeviceState) (bytes piece more : List ℕ) (read : ReadBufState) (f : Fed) → AnswersAt (past_of part on_the_bench false (bytes ++ take (taken_in (length piece) f) piece)) e read f → taken_in (length piece) f ≤ length piece → length piece ≤ 1
    → (0 < length piece → NoWordDue d) → (IsFull read → length more ≡ 1) → reads_taken part e (bytes ++ take (taken_in (length piece) f) piece) ≡ reads_taken part d bytes ++ more
    → IsSome (first_stop_of_bytes part on_the_bench (bytes ++ take (taken_in (length piece) f) piece)) ⊎ (taken_in (length piece) f ≡ length piece)
goes_on part d e bytes piece more read fed.All a w l z full grown = inr refl
goes_on part d e bytes piece more read (fed.Stopped n) a w l z full grown = inl (ap is_some a.1)
goes_on part d e bytes piece more read (fed.Iprog n) a w l z full grown = inl (ap is_some a.0)
goes_on part d e bytes [] more read (fed.ReadFull n) a w l z full grown = inr (omega (arith, w))
goes_on part d e bytes (x ∷ xs) more read (fed.ReadFull n) a w l z full grown = inr (by n refl)
  where
    here : n ≡ 0 → bytes ++ take n (x ∷ xs) ≡ bytes
    here g = ap (λ (k : ℕ). bytes ++ take k (x ∷ xs)) g ∙ append-nil bytes

    by : (m : ℕ) → n ≡ m → n ≡ length (x ∷ xs)
    by zero g =
        let same : bytes ++ take n (x ∷ xs) ≡ bytes = here g in
        let count : length (reads_taken part e (bytes ++ take n (x ∷ xs))) ≡ length (reads_taken part d bytes) + length more = ap length grown ∙ length-append (reads_taken part d bytes) more in
        let before : length (reads_taken part d bytes) ≡ length (reads_of part on_the_bench bytes) = ap length (taken_all part d bytes (z (omega arith))) in
        let after : length (reads_of part on_the_bench (bytes ++ take n (x ∷ xs))) ≡ length (reads_of part on_the_bench bytes) = ap (λ b. length (reads_of part on_the_bench b)) same in
        absurd (omega (arith, count, before, after, full a.2, taken_few part e (bytes ++ take n (x ∷ xs))))
    by (suc m) g = omega (arith, g, w, l)

-- where the device gave no word none is due
pub none_given : (part : PartData) (e : DeviceState) (bytes piece : List ℕ) (read : ReadBufState) (f : Fed) → AnswersAt (past_of part on_the_bench false (bytes ++ take (taken_in (length piece) f) piece)) e read f → (IsFull read → ⊥) → NoWordDue e
none_given part e bytes piece read fed.All a full = a.1
none_given part e bytes piece read (fed.Stopped n) a full = a.2
none_given part e bytes piece read (fed.Iprog n) a full = a.1
none_given part e bytes piece read (fed.ReadFull n) a full = absurd (full a.2)

-- a piece for a buffer that drops words
pub goes_on_dropping : (part : PartData) (e : DeviceState) (bytes piece : List ℕ) (read : ReadBufState) (f : Fed) → AnswersAt (past_of part on_the_bench false (bytes ++ take (taken_in (length piece) f) piece)) e read f → (IsFull read → ⊥)
    → IsSome (first_stop_of_bytes part on_the_bench (bytes ++ take (taken_in (length piece) f) piece)) ⊎ (taken_in (length piece) f ≡ length piece)
goes_on_dropping part e bytes piece read fed.All a full = inr refl
goes_on_dropping part e bytes piece read (fed.Stopped n) a full = inl (ap is_some a.1)
goes_on_dropping part e bytes piece read (fed.Iprog n) a full = inl (ap is_some a.0)
goes_on_dropping part e bytes piece read (fed.ReadFull n) a full = absurd (full a.2)
