-- Where memory is wanting while a frames text is read.
use Rattle.std.proofs.Common.{◌≡◌, inl, inr, List, ℕ, [], ◌∷◌, ◌++◌, subst, sym, ap, ◌∙◌, append_assoc}
use Rattle.x7_text.specs.Lines.{split}
use Rattle.x7_text.specs.LineReader.{ReaderState, StandsFor, WantsIn}
use Rattle.x7_text.proofs.SplitLemmas.{split_some}
use Rattle.x7_part.specs.Part.{PartData}
use Rattle.x7_memory.specs.Plan.{PlanRow}
use Rattle.x7_frames.specs.FrameLines.{StayGoodWith, HasRows, RowsRead}
use Rattle.x7_frames.specs.FramesText.{AreGood, IsGoodText}
use Rattle.x7_frames.specs.LineTaken.{IsGoodLine}
use Rattle.x7_frames.specs.declared.fault.FramesFault.TheVariants as fault
use Rattle.x7_frames.proofs.EveryTextLemmas.{LineOr, good_text, line_or}
use Rattle.x7_frames.proofs.OneLemmas.{foreign_there, no_line_there, repeated_there}

-- a line of good lines is good after those before it
good_there : (part : PartData) (before after : List (List ℕ)) (line : List ℕ) (rows all : List PlanRow) → AreGood part before rows → AreGood part (before ++ line ∷ after) all → IsGoodLine part rows line
unfolding LineOr
good_there part before after line rows all good whole = by (line_or part rows 0 line)
  where
    by : LineOr part rows 0 line → IsGoodLine part rows line
    by (inl h) = h
    by (inr (fault.Line n, is)) = absurd (no_line_there part before after line rows all good whole is.1)
    by (inr (fault.Address n, is)) = absurd (foreign_there part before after line rows all good whole is.1)
    by (inr (fault.Twice n, is)) = absurd (repeated_there part before after line rows all good whole is.1)
    by (inr (fault.NoMemory, is)) = absurd is

-- lines up to one of them begin with the first
up_to : (before after more : List (List ℕ)) (last line : List ℕ) → before ++ last ∷ after ≡ line ∷ more → (others : List (List ℕ)) × (before ++ last ∷ [] ≡ line ∷ others)
up_to [] after more last line e = let head : last ≡ line = cc in ([], ap (λ (l : List ℕ). l ∷ []) head)
up_to (b ∷ before) after more last line e = let head : b ≡ line = cc in (before ++ last ∷ [], ap (λ (l : List ℕ). l ∷ (before ++ last ∷ [])) head)

module _ (part : PartData) (r : ReaderState RowsRead) (text : List ℕ) (s : StandsFor (HasRows part) r text) where
  -- where memory may be wanting as a piece is taken, the first line that ends in it is good
  pub first_good : (piece line after : List ℕ) → WantsIn (HasRows part) (StayGoodWith part) s.lines piece → split piece ≡ line ∷ split after → IsGoodLine part r.taker.rows line
  first_good piece line after (inl w) e =
      let u = up_to w.before w.after (split after) w.line line (sym w.texts ∙ e) in
      let all : (s.lines ++ w.before) ++ w.line ∷ [] ≡ s.lines ++ line ∷ u.0 = append_assoc s.lines w.before (w.line ∷ []) ∙ ap (λ (ls : List (List ℕ)). s.lines ++ ls) u.1 in
      good_there part s.lines u.0 line r.taker.rows w.wanting.0 s.took.1 (subst (λ (ls : List (List ℕ)). AreGood part ls w.wanting.0) all w.wanting.1)
  first_good piece line after (inr h) e = by h.more (h.took.1) (sym h.cut ∙ e)
    where
      by : (more : List (List ℕ)) → AreGood part (s.lines ++ more) h.taker.rows → more ++ h.rest ∷ [] ≡ line ∷ split after → IsGoodLine part r.taker.rows line
      by [] good f = let none : [] ≡ split after = cc in absurd (split_some after (sym none))
      by (m ∷ more) good f =
          let head : m ≡ line = cc in
          good_there part s.lines more line r.taker.rows h.taker.rows s.took.1 (subst (λ (l : List ℕ). AreGood part (s.lines ++ l ∷ more) h.taker.rows) head good)

  -- where memory may be wanting at the last line of the text, the text has a plan
  pub text_good : StayGoodWith part s.lines r.held → IsGoodText part text
  text_good w = good_text part text w.0 (subst (λ (ls : List (List ℕ)). AreGood part ls w.0) (sym s.cut) w.1)
