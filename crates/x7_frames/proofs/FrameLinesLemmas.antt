-- A frames text that is read line by line.
use Rattle.std.proofs.Common.{◌≡◌, ◌⊎◌, inl, inr, ℕ, ◌+◌, List, [], ◌∷◌, ◌++◌, Result, Ok, Err, IfErr, OnOk, MatchResult, length, refl, subst, ◌∙◌}
use Rattle.x7_text.specs.Lines.{split}
use Rattle.x7_part.specs.Part.{PartData}
use Rattle.x7_memory.specs.Plan.{PlanData}
use Rattle.x7_frames.specs.FrameLines.{StayGoodWith, HasFramesFault, ComeTo, HasRows, RowsRead}
use Rattle.x7_frames.specs.FramesText.{IsPlanOf}
use Rattle.x7_frames.specs.LineTaken.{IsFaultAt, IsGoodLine, TakesLine}
use Rattle.x7_frames.specs.declared.fault.FramesFault.{FramesFault}
use Rattle.x7_frames.specs.declared.fault.FramesFault.TheVariants as fault
use Rattle.x7_frames.proofs.GoodLemmas.{fault_of, good_next}

-- a line after good ones is taken, or is at fault
module _ (part : PartData) (a : RowsRead) (lines : List (List ℕ)) (line : List ℕ) (n : ℕ) (m : n ≡ length lines + 1) (t : HasRows part a lines) where
  pub line_good : (b : RowsRead) → b.part ≡ a.part → TakesLine a.part line a.rows b.rows → HasRows part b (lines ++ line ∷ [])
  line_good b same takes = (same ∙ t.0, good_next part lines line a.rows b.rows t.1 (subst (λ (p : PartData). TakesLine p line a.rows b.rows) t.0 takes))

  pub line_refused : (f : FramesFault) → (f ≡ fault.NoMemory) ⊎ IsFaultAt a.part a.rows n line f → (others : List (List ℕ)) → HasFramesFault part f (lines ++ line ∷ others)
  line_refused f (inl none) others = inl none
  line_refused f (inr h) others = inr (λ text is. fault_of part text line a.rows n f (record { before = lines; after = others; texts = is; good = t.1; count = m }) (subst (λ (p : PartData). IsFaultAt p a.rows n line f) t.0 h))

  pub line_read : {A : Type 0} (r : Result A FramesFault) (b : RowsRead) → b.part ≡ a.part → OnOk r (TakesLine a.part line a.rows b.rows) → IfErr r (λ f. (f ≡ fault.NoMemory) ⊎ IsFaultAt a.part a.rows n line f)
      → MatchResult r (λ _. HasRows part b (lines ++ line ∷ [])) (λ f. (more : List ℕ) → HasFramesFault part f (lines ++ line ∷ split more))
  line_read (Ok _) b same takes fails = line_good b same takes
  line_read (Err f) b same takes fails = λ more. line_refused f fails (split more)

  -- the lines stay good with a line that is good after them
  pub line_wants : IsGoodLine a.part a.rows line → StayGoodWith part lines line
  line_wants good = (good.0, good_next part lines line a.rows good.0 t.1 (subst (λ (p : PartData). TakesLine p line a.rows good.0) t.0 good.1))

  pub line_wanted : {A : Type 0} (r : Result A FramesFault) → IfErr r (λ f. f ≡ fault.NoMemory → IsGoodLine a.part a.rows line) → IfErr r (λ f. f ≡ fault.NoMemory → StayGoodWith part lines line)
  line_wanted (Ok _) good = tt
  line_wanted (Err f) good = λ want. line_wants (good want)

-- what the reading of a text that is there whole came to
pub whole_read : {P : Type 0} (value : P → PlanData) (part : PartData) (lines : RowsRead) (text : List ℕ) (r : Result P FramesFault) → lines.part ≡ part
    → MatchResult r (λ plan. ComeTo lines.part (Ok (value plan)) (split text)) (λ f. HasFramesFault lines.part f (split text)) → MatchResult r (λ plan. IsPlanOf part text (Ok (value plan))) (λ f. (f ≡ fault.NoMemory) ⊎ IsPlanOf part text (Err f))
whole_read value part lines text (Ok plan) is h = subst (λ (q : PartData). IsPlanOf q text (Ok (value plan))) is (h text refl)
whole_read value part lines text (Err f) is (inl none) = inl none
whole_read value part lines text (Err f) is (inr h) = inr (subst (λ (q : PartData). IsPlanOf q text (Err f)) is (h text refl))
