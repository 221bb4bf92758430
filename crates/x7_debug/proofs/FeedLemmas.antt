-- What a device takes of a piece: all of it, or the bytes up to the stop.
use Rattle.std.proofs.Common.{◌≡◌, ℕ, ◌≤◌, Bool, List, [], ◌++◌, length, take, drop, Option, Some, None, refl, ap, sym, subst, ◌∙◌, arith}
use Rattle.std.proofs.Math.Seq.{take-append_seam, take-length}
use Rattle.x7_words.proofs.ListLemmas.{taken_and_left}
use Rattle.x7_words.specs.Word.{AreBytes}
use Rattle.x7_part.specs.Part.{PartData}
use Rattle.x7_engine.specs.declared.fed.Fed.{Fed}
use Rattle.x7_engine.specs.declared.fed.Fed.TheVariants as fed
use Rattle.x7_engine.specs.declared.kept.Kept.{Kept}
use Rattle.x7_engine.specs.ReadBuffer.{IsFullBy, ReadBufState, with_words}
use Rattle.x7_engine.specs.Past.{AnswersAt, past_of}
use Rattle.x7_engine.specs.Standing.{DeviceState, DeviceStandsFor, NoWordDue, taken_in}
use Rattle.x7_engine.specs.State.{first_stop_of_bytes, taken_by, taken_of}
use Rattle.x7_engine.specs.Stop.{Stopped}
use Rattle.x7_engine.proofs.StateLemmas.{stop_is_final_stop, stop_place}

-- bytes without a stop are all taken
pub taken_all : (part : PartData) (kept : Kept) (bytes : List ℕ) → first_stop_of_bytes part kept bytes ≡ None → taken_of part kept bytes ≡ length bytes
taken_all part kept bytes e = ap (λ (o : Option Stopped). taken_by o (length bytes)) e

-- bytes are taken up to their stop
pub taken_stopped : (part : PartData) (kept : Kept) (bytes : List ℕ) (s : Stopped) → first_stop_of_bytes part kept bytes ≡ Some s → taken_of part kept bytes ≡ s.place
taken_stopped part kept bytes s e = ap (λ (o : Option Stopped). taken_by o (length bytes)) e

-- no more bytes are taken than there are
pub taken_within : (part : PartData) (kept : Kept) (bytes : List ℕ) → AreBytes bytes → taken_of part kept bytes ≤ length bytes
taken_within part kept bytes fits = by (first_stop_of_bytes part kept bytes) refl
  where
    by : (o : Option Stopped) → first_stop_of_bytes part kept bytes ≡ o → taken_of part kept bytes ≤ length bytes
    by None e = omega (arith, taken_all part kept bytes e)
    by (Some s) e = omega (arith, taken_stopped part kept bytes s e, (stop_place part kept bytes s fits e).1)

-- a prefix that the device took, where it goes on after it or has stopped at its end
all_part : (part : PartData) (kept : Kept) (prefix : List ℕ) → first_stop_of_bytes part kept prefix ≡ None → prefix ≡ take (taken_of part kept prefix) prefix
all_part part kept prefix e = sym (ap (λ (n : ℕ). take n prefix) (taken_all part kept prefix e) ∙ take-length prefix)

stopped_part : (part : PartData) (kept : Kept) (prefix rest : List ℕ) (s : Stopped) → AreBytes (prefix ++ rest) → first_stop_of_bytes part kept prefix ≡ Some s → s.place ≡ length prefix → prefix ≡ take (taken_of part kept (prefix ++ rest)) (prefix ++ rest)
stopped_part part kept prefix rest s fits e place =
    let taken : taken_of part kept (prefix ++ rest) ≡ length prefix = taken_stopped part kept (prefix ++ rest) s (stop_is_final_stop part kept prefix rest s fits e) ∙ place in
    sym (ap (λ (n : ℕ). take n (prefix ++ rest)) taken ∙ take-append_seam prefix rest)

module _ (part : PartData) (kept : Kept) (wrapped : Bool) (bytes piece : List ℕ) (d : DeviceState) where
  at_stop : (n : ℕ) (s : Stopped) → AreBytes (bytes ++ piece) → DeviceStandsFor part kept wrapped d (bytes ++ take n piece) → first_stop_of_bytes part kept (bytes ++ take n piece) ≡ Some s → s.place ≡ length (bytes ++ take n piece)
      → DeviceStandsFor part kept wrapped d (take (taken_of part kept (bytes ++ piece)) (bytes ++ piece))
  at_stop n s fits stands e place =
      let whole = taken_and_left bytes piece n in
      let same : bytes ++ take n piece ≡ take (taken_of part kept (bytes ++ piece)) (bytes ++ piece)
      = stopped_part part kept (bytes ++ take n piece) (drop n piece) s (subst (λ b. AreBytes b) (sym whole) fits) e place ∙ ap (λ b. take (taken_of part kept b) b) whole in
      subst (λ b. DeviceStandsFor part kept wrapped d b) same stands

  -- a buffer that drops words never waits for room
  pub fed_stands : (read : ReadBufState) (f : Fed) → AreBytes (bytes ++ piece) → read.most ≡ None → DeviceStandsFor part kept wrapped d (bytes ++ take (taken_in (length piece) f) piece) → AnswersAt (past_of part kept wrapped (bytes ++ take (taken_in (length piece) f) piece)) d read f
      → DeviceStandsFor part kept wrapped d (take (taken_of part kept (bytes ++ piece)) (bytes ++ piece))
  fed_stands read fed.All fits most stands answer =
      let all : bytes ++ take (length piece) piece ≡ bytes ++ piece = ap (λ t. bytes ++ t) (take-length piece) in
      let none : first_stop_of_bytes part kept (bytes ++ piece) ≡ None = ap (first_stop_of_bytes part kept) (sym all) ∙ answer.0 in
      subst (λ b. DeviceStandsFor part kept wrapped d b) (all ∙ all_part part kept (bytes ++ piece) none) stands
  fed_stands read (fed.Stopped n) fits most stands answer = at_stop n _ fits stands answer.1 refl
  fed_stands read (fed.Iprog n) fits most stands answer = at_stop n _ fits stands answer.0 refl
  fed_stands read (fed.ReadFull n) fits most stands answer = absurd (subst (λ (m : Option ℕ). IsFullBy m (length read.words)) most answer.2)

  pub fed_none_due : (read : ReadBufState) (f : Fed) → read.most ≡ None → AnswersAt (past_of part kept wrapped (bytes ++ take (taken_in (length piece) f) piece)) d read f → NoWordDue d
  fed_none_due read fed.All most answer = answer.1
  fed_none_due read (fed.Stopped n) most answer = answer.2
  fed_none_due read (fed.Iprog n) most answer = answer.1
  fed_none_due read (fed.ReadFull n) most answer = absurd (subst (λ (m : Option ℕ). IsFullBy m (length read.words)) most answer.2)

-- a dropping buffer goes on to drop
pub drops : (old new : ReadBufState) (more : List ℕ) → old ≡ record { most = None; words = [] } → new ≡ with_words old more → new.most ≡ None
drops old new more is e = ap (λ (b : ReadBufState). b.most) e ∙ ap (λ (b : ReadBufState). b.most) is
