-- The text of a plan is read back as the plan.
use Rattle.std.proofs.Common.{◌≡◌, ◌⊎◌, inl, inr, ℕ, ◌*◌, true, List, [], ◌∷◌, ◌++◌, length, map, refl, sym, subst, ap, ap₂, ◌∙◌, arith, append_assoc, append-nil, codes}
use Rattle.std.specs.Prelude.{All, Result, Ok, Err, MatchResult}
use Rattle.std.specs.List.{flat_map, AllByRecursion}
use Rattle.std.proofs.lemmas.List.Elements.{All-head, All-tail}
use Rattle.std.proofs.lemmas.List.Sorted.{IsPermutation-refl}
use Rattle.x7_words.specs.Characters.{space_byte}
use Rattle.x7_words.specs.Word.{bytes_of_word, words_of_bytes}
use Rattle.x7_text.specs.Digits.{hex_word}
use Rattle.x7_text.specs.EitherCase.{bytes_of_pairs}
use Rattle.x7_text.specs.Lines.{has_no_end, split}
use Rattle.x7_words.proofs.WordLemmas.{bytes_fit, length_bytes, words_back}
use Rattle.x7_text.proofs.CaseLemmas.{pairs_back}
use Rattle.x7_text.proofs.PieceLemmas.{free_both, word_free}
use Rattle.x7_text.proofs.ReadRowLemmas.{hex_words}
use Rattle.x7_text.proofs.SplitLemmas.{split_ended}
use Rattle.x7_part.specs.Part.{PartData, frame_words}
use Rattle.x7_memory.specs.Plan.{PlanRow, PlanData, IsPlanFor, IsPlanRow, AreApart, AreInOrder}
use Rattle.x7_frames.specs.FramesText.{frame_head, frame_line, plan_text, AreLinesOfRows, no_line, no_frame, frame, IsFrameLine, IsPlanOf, HasPlan}
use Rattle.x7_frames.specs.declared.fault.FramesFault.{FramesFault}
use Rattle.x7_frames.specs.declared.fault.FramesFault.TheVariants as fault
use Rattle.x7_frames.proofs.OneLemmas.{no_fault, one_plan}

-- ---- texts that hold no line end

words_free : (ws : List ℕ) → has_no_end (flat_map hex_word ws) ≡ true
words_free [] = refl
words_free (w ∷ ws) = free_both (hex_word w) (flat_map hex_word ws) (word_free w) (words_free ws)

head_free : (far : ℕ) → has_no_end (frame_head far) ≡ true
head_free far = free_both (codes "frame ") (hex_word far ++ space_byte ∷ []) refl (free_both (hex_word far) (space_byte ∷ []) (word_free far) refl)

-- ---- the digits of words

-- ---- lines

-- the line of a row, without its line end
bare : PlanRow → List ℕ
bare row = frame_head row.far ++ flat_map hex_word row.words

bare_free : (row : PlanRow) → has_no_end (bare row) ≡ true
unfolding bare
bare_free row = free_both (frame_head row.far) (flat_map hex_word row.words) (head_free row.far) (words_free row.words)

bare_line : (width : ℕ) (row : PlanRow) → IsPlanRow row → length row.words ≡ width → IsFrameLine width (bare row) row
unfolding bare
bare_line width row fits long = record {
  far = fits.far;
  digits = flat_map hex_word row.words;
  text = refl;
  bytes = flat_map bytes_of_word row.words;
  read = ap bytes_of_pairs (hex_words row.words fits.words) ∙ pairs_back (flat_map bytes_of_word row.words) (bytes_fit row.words);
  long = length_bytes row.words ∙ ap (λ (n : ℕ). 4 * n) long;
  words = sym (ap words_of_bytes (sym (append-nil (flat_map bytes_of_word row.words))) ∙ words_back row.words [] fits.words ∙ append-nil row.words);
}

all_free : (rows : List PlanRow) → AllByRecursion (λ line. has_no_end line ≡ true) (map bare rows)
all_free [] = tt
all_free (r ∷ rows) = (bare_free r, all_free rows)

ended : (rows : List PlanRow) → flat_map frame_line rows ≡ flat_map (λ (line : List ℕ). line ++ 10 ∷ []) (map bare rows)
unfolding bare
ended [] = refl
ended (r ∷ rows) = ap₂ (λ (x y : List ℕ). x ++ y) (sym (append_assoc (frame_head r.far) (flat_map hex_word r.words) (10 ∷ []))) (ended rows)

lines_of : (rows : List PlanRow) → split (flat_map frame_line rows) ≡ map bare rows ++ [] ∷ []
lines_of rows = ap split (ended rows) ∙ split_ended (map bare rows) (all_free rows)

are_lines : (width : ℕ) (rows : List PlanRow) → All IsPlanRow rows → All (λ r. length r.words ≡ width) rows → AreLinesOfRows width (map bare rows ++ [] ∷ []) rows
are_lines width [] each wide = no_frame width [] [] [] refl (no_line width)
are_lines width (r ∷ rows) each wide =
    frame width (bare r) (map bare rows ++ [] ∷ []) r rows (bare_line width r (All-head IsPlanRow r rows each) (All-head (λ s. length s.words ≡ width) r rows wide))
    (are_lines width rows (All-tail IsPlanRow r rows each) (All-tail (λ s. length s.words ≡ width) r rows wide))

in_order_apart : (rows : List PlanRow) → AreInOrder rows → AreApart rows
in_order_apart rows order i j d lt h e = let low = order i j d lt h in absurd (omega arith)

-- ---- the plan again

pub back : (part : PartData) (plan : PlanData) → IsPlanFor part plan → HasPlan part (plan_text plan) plan
back part plan fits = record {
  rows = plan.rows;
  good = record {
    read = subst (λ t. AreLinesOfRows (frame_words part) t plan.rows) (sym (lines_of plan.rows)) (are_lines (frame_words part) plan.rows fits.is_plan.each (subst (λ (w : ℕ). All (λ r. length r.words ≡ w) plan.rows) fits.width fits.is_plan.width));
    addresses = fits.addressed;
    apart = in_order_apart plan.rows fits.is_plan.order;
  };
  same = IsPermutation-refl plan.rows;
  is_plan = fits.is_plan;
  width = fits.width;
}

-- what the reading of a plan's text came to
pub read_back : {P : Type 0} (value : P → PlanData) (part : PartData) (text : List ℕ) (r : Result P FramesFault) → MatchResult r (λ p. HasPlan part text (value p)) (λ f. (f ≡ fault.NoMemory) ⊎ IsPlanOf part text (Err f))
    → (plan : PlanData) → IsPlanFor part plan → text ≡ plan_text plan → MatchResult r (λ p. value p ≡ plan) (λ f. f ≡ fault.NoMemory)
read_back value part text (Ok p) h plan fits e = one_plan part text (value p) plan h (subst (λ t. HasPlan part t plan) (sym e) (back part plan fits))
read_back value part text (Err f) (inl h) plan fits e = h
read_back value part text (Err f) (inr h) plan fits e = absurd (no_fault part text plan f (subst (λ t. HasPlan part t plan) (sym e) (back part plan fits)) h)
