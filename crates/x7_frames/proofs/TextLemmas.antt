-- The text of a plan, piece by piece.
use Rattle.std.proofs.Common.{◌≡◌, ℕ, ◌+◌, ◌<◌, List, [], ◌∷◌, ◌++◌, length, take, get_or, sym, ap, ◌∙◌, append_assoc}
use Rattle.std.proofs.lemmas.List.{take_more, flat_map_more}
use Rattle.std.specs.List.{flat_map}
use Rattle.x7_memory.specs.Plan.{PlanRow}
use Rattle.x7_frames.specs.FramesText.{frame_line}

pub line_put : (old r1 p1 p2 p3 r2 w last a b c d e : List ℕ) → r1 ≡ old → p1 ≡ r1 ++ a → p2 ≡ p1 ++ b → p3 ≡ p2 ++ c → r2 ≡ p3 → w ≡ r2 ++ d → last ≡ w ++ e
    → last ≡ old ++ ((a ++ (b ++ c)) ++ (d ++ e))
line_put old r1 p1 p2 p3 r2 w last a b c d e h1 h2 h3 h4 h5 h6 h7 =
    let prefix : r2 ≡ old ++ (a ++ (b ++ c)) =
    h5 ∙ h4 ∙ ap (λ t. t ++ c) (h3 ∙ ap (λ t. t ++ b) (h2 ∙ ap (λ t. t ++ a) h1)) ∙ append_assoc (old ++ a) b c ∙ append_assoc old a (b ++ c) in
    h7 ∙ ap (λ t. t ++ e) (h6 ∙ ap (λ t. t ++ d) prefix) ∙ append_assoc (old ++ (a ++ (b ++ c))) d e ∙ append_assoc old (a ++ (b ++ c)) (d ++ e)

pub row_put : (rows : List PlanRow) (i : ℕ) (row : PlanRow) (old new : List ℕ) → i < length rows → get_or rows i row ≡ row → old ≡ flat_map frame_line (take i rows) → new ≡ old ++ frame_line row
    → new ≡ flat_map frame_line (take (i + 1) rows)
row_put rows i row old new h e f g =
    g ∙ ap (λ t. t ++ frame_line row) f ∙ flat_map_more frame_line [] (take i rows) row ∙ ap (λ r. flat_map frame_line (take i rows ++ r ∷ [])) (sym e) ∙ ap (flat_map frame_line) (sym (take_more rows i row h))
