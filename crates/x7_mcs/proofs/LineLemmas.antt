-- The lines of a text without their ends.
use Rattle.std.proofs.Common.{◌≡◌, ◌==◌, ℕ, Bool, true, false, if◌then◌else◌, List, [], ◌∷◌, ◌++◌, refl, ap, sym, ◌∙◌}
use Rattle.x7_text.specs.Lines.{has_no_end}
use Rattle.x7_text.proofs.SplitLemmas.{split_line}
use Rattle.x7_mcs.specs.Lines.{bare_lines, lines_of, on_first, split, without_return}

first_first : (t : List ℕ) → (s : List ℕ) × (more : List (List ℕ)) × (split t ≡ s ∷ more)
first_first [] = ([], [], refl)
first_first (c ∷ cs) = by (c == 10) (first_first cs)
  where
    by : (b : Bool) → (s : List ℕ) × (more : List (List ℕ)) × (split cs ≡ s ∷ more) → (s : List ℕ) × (more : List (List ℕ)) × ((if b then [] ∷ split cs else on_first c (split cs)) ≡ s ∷ more)
    by true p = ([], split cs, refl)
    by false p = (c ∷ p.0, p.1, ap (on_first c) p.2)

pub line_ends : (text t more : List ℕ) → split text ≡ t ∷ split more → lines_of text ≡ without_return t ∷ lines_of more
line_ends text t more e =
    let p = first_first more in
    ap bare_lines e ∙ ap (λ (u : List (List ℕ)). bare_lines (t ∷ u)) p.2 ∙ ap (λ (u : List (List ℕ)). without_return t ∷ bare_lines u) (sym p.2)

pub line_first : (line after : List ℕ) → has_no_end line ≡ true → lines_of (line ++ 10 ∷ after) ≡ without_return line ∷ lines_of after
line_first line after free = line_ends (line ++ 10 ∷ after) line after (split_line line after free)
