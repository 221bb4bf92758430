-- Bytes after a gap in which no sync word begins are read as they are alone, and alike after two gaps of one length.
use Rattle.std.proofs.Common.{◌≡◌, ◌+◌, ◌-◌, ◌<◌, ◌≤◌, inl, inr, ℕ, List, [], ◌++◌, drop, take, length, length-append, append-nil, refl, ap, sym, subst, ◌∙◌, take-append-drop, length-take-le, arith}
use Rattle.std.proofs.Math.Seq.{take-append-add, take-length}
use Rattle.std.proofs.lemmas.Bool.{cases_lt}
use Rattle.std.proofs.lemmas.List.{take-append-le}
use Rattle.x7_words.specs.Word.{AreBytes}
use Rattle.x7_words.proofs.ListLemmas.{all_append, all_back, all_prefix, all_take}
use Rattle.x7_packets.specs.Appended.{gap_of, moved}
use Rattle.x7_packets.specs.ByHand.{Reading, reading_of}
use Rattle.x7_packets.specs.Gap.{AreAlike, AreGaps, NoneBegins}
use Rattle.x7_packets.specs.History.{History, history_of}
use Rattle.x7_packets.specs.Reading.{Searching, is_synced}
use Rattle.x7_packets.proofs.AppendedLemmas.{ComesAfter, ends_appended, history_appended, nothing_read}
use Rattle.x7_packets.proofs.SeamLemmas.{none_before_prefix, none_in_gap}

-- the first bytes of a gap, or all of them, ask nothing
pub prefix_asks_nothing : (gap more : List ℕ) (k : ℕ) → k ≤ length gap → AreBytes gap → NoneBegins gap more → (reading_of (take k gap) ≡ record { sessions = []; place = Searching (take k gap) }) × (history_of (take k gap) ≡ [])
prefix_asks_nothing gap more k l f n = nothing_read (take k gap) (all_take (λ x. x < 256) k gap f) (none_in_gap gap more k l n)

module _ (gap more : List ℕ) (f : AreBytes (gap ++ more)) (n : NoneBegins gap more) where
  alone : (reading_of gap ≡ record { sessions = []; place = Searching gap }) × (history_of gap ≡ [])
  alone = subst (λ (g : List ℕ). (reading_of g ≡ record { sessions = []; place = Searching g }) × (history_of g ≡ [])) (take-length gap) (prefix_asks_nothing gap more (length gap) (omega arith) (all_prefix (λ x. x < 256) gap more f) n)

  stands : ComesAfter (reading_of gap).place more
  stands = record { searching = ap (λ (r : Reading). is_synced r.place) alone.0; none = subst (λ (g : List ℕ). NoneBegins g more) (sym (ap (λ (r : Reading). gap_of r.place) alone.0)) n }

  pub history_passed : history_of (gap ++ more) ≡ moved (length gap) (history_of more)
  history_passed = history_appended gap more f stands ∙ ap (λ (h : History). moved (length gap) (history_of more) ++ h) alone.1 ∙ append-nil (moved (length gap) (history_of more))

  pub synced_passed : is_synced (reading_of (gap ++ more)).place ≡ is_synced (reading_of more).place
  synced_passed = ends_appended gap more f stands

-- ---- two gaps of one length

alike_after : (one other more : List ℕ) → AreGaps one other more → AreAlike (one ++ more) (other ++ more)
alike_after one other more g = record {
  history = history_passed one more g.fits.0 g.none.0 ∙ ap (λ (n : ℕ). moved n (history_of more)) g.count ∙ sym (history_passed other more g.fits.1 g.none.1);
  count = length-append one more ∙ ap (λ (n : ℕ). n + length more) g.count ∙ sym (length-append other more);
  synced = synced_passed one more g.fits.0 g.none.0 ∙ sym (synced_passed other more g.fits.1 g.none.1);
}

-- the first k bytes of two gaps of k bytes or more are alike
alike_within : (one other more : List ℕ) (k : ℕ) → AreGaps one other more → k ≤ length one → AreAlike (take k one) (take k other)
alike_within one other more k g l =
    let m : k ≤ length other = omega (arith, l, g.count) in
    let of_one : (reading_of (take k one) ≡ record { sessions = []; place = Searching (take k one) }) × (history_of (take k one) ≡ []) = prefix_asks_nothing one more k l (all_prefix (λ x. x < 256) one more g.fits.0) g.none.0 in
    let of_other : (reading_of (take k other) ≡ record { sessions = []; place = Searching (take k other) }) × (history_of (take k other) ≡ []) = prefix_asks_nothing other more k m (all_prefix (λ x. x < 256) other more g.fits.1) g.none.1 in
    record {
      history = of_one.1 ∙ sym of_other.1;
      count = length-take-le k one l ∙ sym (length-take-le k other m);
      synced = ap (λ (r : Reading). is_synced r.place) of_one.0 ∙ sym (ap (λ (r : Reading). is_synced r.place) of_other.0);
    }

fewer : (one other more : List ℕ) (n : ℕ) → AreGaps one other more → AreGaps one other (take n more)
fewer one other more n g = record { count = g.count; fits = (bytes one g.fits.0, bytes other g.fits.1); none = (before one g.none.0, before other g.none.1) }
  where
    bytes : (gap : List ℕ) → AreBytes (gap ++ more) → AreBytes (gap ++ take n more)
    bytes gap f = all_append (λ x. x < 256) gap (take n more) (all_prefix (λ x. x < 256) gap more f) (all_take (λ x. x < 256) n more (all_back (λ x. x < 256) gap more f))

    before : (gap : List ℕ) → NoneBegins gap more → NoneBegins gap (take n more)
    before gap m = none_before_prefix gap (take n more) (drop n more) (subst (NoneBegins gap) (sym (take-append-drop n more)) m)

-- two gaps of one length, each with the same bytes after it, have prefixes that are alike
pub alike_prefixes : (one other more : List ℕ) (k : ℕ) → AreGaps one other more → AreAlike (take k (one ++ more)) (take k (other ++ more))
alike_prefixes one other more k g = elim (cases_lt k (length one)) [
  | inl few ↦
      let l : k ≤ length one = omega (arith, few) in
      subst (λ (b : List ℕ). AreAlike b (take k (other ++ more))) (sym (take-append-le k one more l))
      (subst (AreAlike (take k one)) (sym (take-append-le k other more (omega (arith, l, g.count)))) (alike_within one other more k g l))
  | inr past ↦
      let n : ℕ = k - length one in
      let at : (gap : List ℕ) → length one ≡ length gap → gap ++ take n more ≡ take k (gap ++ more) =
      λ gap e. (let sum : length gap + n ≡ k = omega (arith, past, e) in sym (take-append-add gap more n) ∙ ap (λ (x : ℕ). take x (gap ++ more)) sum) in
      subst (λ (b : List ℕ). AreAlike b (take k (other ++ more))) (at one refl) (subst (AreAlike (one ++ take n more)) (at other g.count) (alike_after one other (take n more) (fewer one other more n g)))
]
