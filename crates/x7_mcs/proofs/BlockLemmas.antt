-- The lines of a flash's rows, block by block.
use Rattle.std.proofs.Common.{◌≡◌, ℕ, ◌+◌, ◌%◌, min, ◌<◌, ◌≤◌, List, [], ◌++◌, length, take, drop, Option, ap, sym, ◌∙◌, ◌⊎◌, inl, inr, append-nil, append_assoc, arith, codes, subst}
use Rattle.std.specs.Prelude.{OnOk, Result}
use Rattle.std.proofs.lemmas.Result.{on_ok_weaker}
use Rattle.std.proofs.lemmas.Grind.{common_steps}
use Rattle.std.proofs.lemmas.List.{take-append-drop, nil_from_length}
use Rattle.x7_mcs.specs.Record.{block_size}
use Rattle.x7_words.specs.Sink.{appended, PutsPrefix}
use Rattle.x7_words.proofs.SinkLemmas.{appended_appended, appended_nil, prefix_more}
use Rattle.x7_text.specs.Row.{rows}
use Rattle.x7_mcs.specs.Text.{mcs_text, row_lines}
use Rattle.x7_mcs.proofs.LawLemmas.{rows_in_parts}
use Rattle.x7_mcs.proofs.RowsLemmas.{none_of_16}

-- the lines of the rows before this place are written
pub record Goes (first now : Option (List ℕ)) (flash : List ℕ) (place : ℕ) (rest : List ℕ) : Type 0 where
  pub done : List ℕ
  pub put : now ≡ appended first done
  pub lines : row_lines 0 (rows 16 flash) ≡ done ++ row_lines place (rows 16 rest)

by_min : (n k : ℕ) → k ≡ min n block_size → (k ≡ block_size) ⊎ ((k ≡ n) × (n ≤ block_size))
by_min n k e = grind (arith, common_steps)

-- whole rows, or all that is left
whole : (place n k m : ℕ) → k ≡ min n block_size → m + k ≡ n → (k % 16 ≡ 0) ⊎ (m ≡ 0)
whole place n k m e f = elim (by_min n k e) [
  | inl s ↦ inl (omega (arith, s))
  | inr s ↦ inr (omega (arith, s.0, f))
]

pub begins_more : (place n k m : ℕ) → k ≡ min n block_size → m + k ≡ n → place % block_size ≡ 0 → 0 < m → (place + k) % block_size ≡ 0
begins_more place n k m e f h g = elim (by_min n k e) [
  | inl s ↦ omega (arith, s, h)
  | inr s ↦ absurd (omega (arith, s.0, f, g))
]

nothing : (place : ℕ) (xs : List ℕ) → length xs ≡ 0 → row_lines place (rows 16 xs) ≡ []
nothing place xs e = ap (row_lines place) (none_of_16 xs e)

-- the lines of one block and of what is left
in_two : (place : ℕ) (rest bytes more : List ℕ) → rest ≡ bytes ++ more → (length bytes % 16 ≡ 0) ⊎ (length more ≡ 0) → row_lines place (rows 16 rest) ≡ row_lines place (rows 16 bytes) ++ row_lines (place + length bytes) (rows 16 more)
in_two place rest bytes more e (inl w) = ap (λ t. row_lines place (rows 16 t)) e ∙ rows_in_parts place bytes more w
in_two place rest bytes more e (inr z) =
    ap (λ t. row_lines place (rows 16 t)) (e ∙ ap (λ t. bytes ++ t) (nil_from_length more z) ∙ append-nil bytes)
    ∙ sym (append-nil (row_lines place (rows 16 bytes)))
    ∙ ap (λ t. row_lines place (rows 16 bytes) ++ t) (sym (nothing (place + length bytes) more z))

module _ (first now : Option (List ℕ)) (flash : List ℕ) (place : ℕ) (rest bytes more block : List ℕ) (k : ℕ) (g : Goes first now flash place rest) (e : k ≡ min (length rest) block_size) (long : length more + k ≡ length rest)
    (prefix : bytes ≡ take k rest) (back : more ≡ drop k rest) (size : length bytes ≡ k) (is : block ≡ row_lines place (rows 16 bytes)) where
  parts : rest ≡ bytes ++ more
  parts = sym (take-append-drop k rest) ∙ ap (λ t. t ++ drop k rest) (sym prefix) ∙ ap (λ t. bytes ++ t) (sym back)

  even : (length bytes % 16 ≡ 0) ⊎ (length more ≡ 0)
  even = elim (whole place (length rest) k (length more) e long) [
    | inl w ↦ inl (ap (λ n. n % 16) size ∙ w)
    | inr z ↦ inr z
  ]

  lines : row_lines 0 (rows 16 flash) ≡ g.done ++ (block ++ row_lines (place + length bytes) (rows 16 more))
  lines = g.lines ∙ ap (λ t. g.done ++ t) (in_two place rest bytes more parts even ∙ ap (λ t. t ++ row_lines (place + length bytes) (rows 16 more)) (sym is))

  pub block_put : (next : Option (List ℕ)) → next ≡ appended now block → Goes first next flash (place + length bytes) more
  block_put next p = record {
    done = g.done ++ block;
    put = p ∙ ap (λ t. appended t block) g.put ∙ appended_appended first g.done block;
    lines = lines ∙ sym (append_assoc g.done block (row_lines (place + length bytes) (rows 16 more)));
  }

  pub block_failed : (next : Option (List ℕ)) → PutsPrefix now block next → PutsPrefix first (row_lines 0 (rows 16 flash)) next
  block_failed next p = rw lines (prefix_more first now next g.done block (row_lines (place + length bytes) (rows 16 more)) g.put p)

-- ---- the whole text

pub text_begun : (first new : Option (List ℕ)) (image flash : List ℕ) → image ≡ flash → PutsPrefix first (row_lines 0 (rows 16 flash)) new → PutsPrefix first (mcs_text image) new
text_begun first new image flash e p = rw e (prefix_more first first new [] (row_lines 0 (rows 16 flash)) (codes ":00000001FF\n") (sym (appended_nil first)) p)

pub text_failed : (first now new : Option (List ℕ)) (image flash : List ℕ) → image ≡ flash → now ≡ appended first (row_lines 0 (rows 16 flash)) → PutsPrefix now (codes ":00000001FF\n") new → PutsPrefix first (mcs_text image) new
text_failed first now new image flash e p q =
    rw e (subst (λ t. PutsPrefix first (row_lines 0 (rows 16 flash) ++ t) new) (append-nil (codes ":00000001FF\n")) (prefix_more first now new (row_lines 0 (rows 16 flash)) (codes ":00000001FF\n") [] p q))

pub text_put : {T E : Type 0} (r : Result T E) (first now new : Option (List ℕ)) (image flash : List ℕ) → image ≡ flash → now ≡ appended first (row_lines 0 (rows 16 flash)) → OnOk r (new ≡ appended now (codes ":00000001FF\n"))
    → OnOk r (new ≡ appended first (mcs_text image))
text_put r first now new image flash e p q =
    on_ok_weaker r (λ w. w ∙ ap (λ t. appended t (codes ":00000001FF\n")) p ∙ appended_appended first (row_lines 0 (rows 16 flash)) (codes ":00000001FF\n") ∙ ap (λ t. appended first (mcs_text t)) (sym e)) q
