-- The line of a frame, and what is none.
use Rattle.std.proofs.Common.{◌≡◌, ℕ, ◌*◌, ◌^◌, ◌<◌, List, ◌++◌, length, sym, ap, ◌∙◌}
use Rattle.x7_words.proofs.WordLemmas.{length_words}
use Rattle.x7_memory.specs.Plan.{PlanRow}
use Rattle.x7_frames.specs.FramesText.{frame_head, IsFrameLine}
use Rattle.x7_text.proofs.CaseLemmas.{pairs_long}

-- how many digits a frame's line has after its head: two for each byte, four bytes for each word
digits_long : (width : ℕ) (line : List ℕ) (row : PlanRow) (is : IsFrameLine width line row) → length is.digits ≡ 2 * (4 * width)
digits_long width line row is = pairs_long is.digits is.bytes is.read ∙ ap (λ (n : ℕ). 2 * n) is.long

pub no_parts : (width count : ℕ) (line : List ℕ) → count ≡ 2 * (4 * width)
    → ((far : ℕ) (digits : List ℕ) → far < 2 ^ 32 → length digits ≡ count → line ≡ frame_head far ++ digits → ⊥) → (row : PlanRow) → IsFrameLine width line row → ⊥
no_parts width count line e none row is = none row.far is.digits is.far (digits_long width line row is ∙ sym e) is.text

pub frame_long : (width : ℕ) (line : List ℕ) (row : PlanRow) → IsFrameLine width line row → length row.words ≡ width
frame_long width line row is = ap length is.words ∙ length_words is.bytes width is.long
