-- A text has one fault: its first line at fault.
use Rattle.std.proofs.Common.{◌≡◌, inl, inr, ℕ, ◌+◌, ◌<◌, List, [], ◌∷◌, ◌++◌, length, refl, sym, subst, ap, ap₂, ◌∙◌, arith}
use Rattle.std.specs.Prelude.{Contains, Err}
use Rattle.std.proofs.lemmas.Bool.{cases_order}
use Rattle.x7_part.specs.AddressOrder.{addresses_in}
use Rattle.x7_part.specs.Part.{PartData, frame_words}
use Rattle.x7_memory.specs.Plan.{PlanRow}
use Rattle.x7_frames.specs.FramesText.{AreGood, IsForeign, IsNoLine, IsPlanOf, IsRepeated, ReachesLine}
use Rattle.x7_frames.specs.declared.fault.FramesFault.{FramesFault}
use Rattle.x7_frames.specs.declared.fault.FramesFault.TheVariants as fault
use Rattle.x7_frames.proofs.OneLemmas.{foreign_there, no_line_there, one_row, one_rows, repeated_there}

abbrev Lines : Type 0
Lines = List (List ℕ)

-- `longer` is the lines `before`, then `line`, then others
record Begins (before longer : Lines) (line : List ℕ) : Type 0 where
  between : Lines
  split : longer ≡ before ++ line ∷ between

begins : (before after longer later : Lines) (line other : List ℕ) → before ++ line ∷ after ≡ longer ++ other ∷ later → length before < length longer → Begins before longer line
begins [] after [] later line other e less = absurd (omega (arith, less))
begins [] after (x ∷ longer) later line other e less = let head : line ≡ x = cc in record { between = longer; split = ap (λ (l : List ℕ). l ∷ longer) (sym head) }
begins (x ∷ before) after [] later line other e less = absurd (omega (arith, less))
begins (x ∷ before) after (y ∷ longer) later line other e less =
    let head : x ≡ y = cc in
    let tail : before ++ line ∷ after ≡ longer ++ other ∷ later = cc in
    let rest : Begins before longer line = begins before after longer later line other tail (omega (arith, less)) in
    record { between = rest.between; split = ap₂ (λ (l : List ℕ) (ls : Lines). l ∷ ls) (sym head) rest.split }

-- two cuts of the same lines, each with as many lines before a line: these are the same lines, and it is the same line
same_lines : (before after others later : Lines) (line other : List ℕ) → before ++ line ∷ after ≡ others ++ other ∷ later → length before ≡ length others → (before ≡ others) × (line ≡ other)
same_lines [] after [] later line other e long = (refl, (let head : line ≡ other = cc in head))
same_lines [] after (y ∷ others) later line other e long = absurd (omega (arith, long))
same_lines (x ∷ before) after [] later line other e long = absurd (omega (arith, long))
same_lines (x ∷ before) after (y ∷ others) later line other e long =
    let head : x ≡ y = cc in
    let tail : before ++ line ∷ after ≡ others ++ other ∷ later = cc in
    let rest : (before ≡ others) × (line ≡ other) = same_lines before after others later line other tail (omega (arith, long)) in
    (ap₂ (λ (l : List ℕ) (ls : Lines). l ∷ ls) head rest.0, rest.1)

-- ---- what is wrong with a line

abbrev place_of : FramesFault → ℕ
place_of (fault.Line n) = n
place_of (fault.Address n) = n
place_of (fault.Twice n) = n
place_of fault.NoMemory = 0

abbrev IsWrong : PartData → List PlanRow → List ℕ → FramesFault → Type 0
IsWrong part rows line (fault.Line n) = IsNoLine (frame_words part) line
IsWrong part rows line (fault.Address n) = IsForeign part line
IsWrong part rows line (fault.Twice n) = IsRepeated part rows line
IsWrong part rows line fault.NoMemory = ⊥

record Finds (part : PartData) (text : List ℕ) (f : FramesFault) : Type 0 where
  line : List ℕ
  rows : List PlanRow
  reached : ReachesLine part text (place_of f) line rows
  wrong : IsWrong part rows line f

finds : (part : PartData) (text : List ℕ) (f : FramesFault) → IsPlanOf part text (Err f) → Finds part text f
finds part text (fault.Line n) (line, rows, reached, wrong) = record { line = line; rows = rows; reached = reached; wrong = wrong }
finds part text (fault.Address n) (line, rows, reached, wrong) = record { line = line; rows = rows; reached = reached; wrong = wrong }
finds part text (fault.Twice n) (line, rows, reached, wrong) = record { line = line; rows = rows; reached = reached; wrong = wrong }
finds part text fault.NoMemory h = absurd h

-- a line at fault isn't among good lines
never_good : (part : PartData) (before after : Lines) (line : List ℕ) (rows all : List PlanRow) → AreGood part before rows → AreGood part (before ++ line ∷ after) all → (f : FramesFault) → IsWrong part rows line f → ⊥
never_good part before after line rows all good whole (fault.Line n) wrong = no_line_there part before after line rows all good whole wrong
never_good part before after line rows all good whole (fault.Address n) wrong = foreign_there part before after line rows all good whole wrong
never_good part before after line rows all good whole (fault.Twice n) wrong = repeated_there part before after line rows all good whole wrong
never_good part before after line rows all good whole fault.NoMemory wrong = wrong

foreign_or_repeated : (part : PartData) (rows : List PlanRow) (line : List ℕ) → IsForeign part line → IsRepeated part rows line → ⊥
foreign_or_repeated part rows line f r =
    let same : r.row ≡ f.row = one_row (frame_words part) line r.row f.row r.frame f.frame in
    f.foreign (subst (λ (row : PlanRow). Contains (addresses_in part) row.far) same r.address)

-- a line after these rows has one fault at most
one_kind : (part : PartData) (rows : List PlanRow) (line : List ℕ) (f g : FramesFault) → IsWrong part rows line f → IsWrong part rows line g → place_of f ≡ place_of g → f ≡ g
one_kind part rows line (fault.Line n) (fault.Line m) a b e = ap fault.Line e
one_kind part rows line (fault.Line n) (fault.Address m) a b e = absurd (a.no_frame b.row b.frame)
one_kind part rows line (fault.Line n) (fault.Twice m) a b e = absurd (a.no_frame b.row b.frame)
one_kind part rows line (fault.Address n) (fault.Line m) a b e = absurd (b.no_frame a.row a.frame)
one_kind part rows line (fault.Address n) (fault.Address m) a b e = ap fault.Address e
one_kind part rows line (fault.Address n) (fault.Twice m) a b e = absurd (foreign_or_repeated part rows line a b)
one_kind part rows line (fault.Twice n) (fault.Line m) a b e = absurd (b.no_frame a.row a.frame)
one_kind part rows line (fault.Twice n) (fault.Address m) a b e = absurd (foreign_or_repeated part rows line b a)
one_kind part rows line (fault.Twice n) (fault.Twice m) a b e = ap fault.Twice e
one_kind part rows line fault.NoMemory g a b e = absurd a
one_kind part rows line f fault.NoMemory a b e = absurd b

-- ---- two faults

earlier : (part : PartData) (text : List ℕ) (f g : FramesFault) (a : Finds part text f) (b : Finds part text g) → length a.reached.before < length b.reached.before → ⊥
earlier part text f g a b less =
    let e : a.reached.before ++ a.line ∷ a.reached.after ≡ b.reached.before ++ b.line ∷ b.reached.after = sym a.reached.texts ∙ b.reached.texts in
    let s : Begins a.reached.before b.reached.before a.line = begins a.reached.before a.reached.after b.reached.before b.reached.after a.line b.line e less in
    never_good part a.reached.before s.between a.line a.rows b.rows a.reached.good (subst (λ (ls : Lines). AreGood part ls b.rows) s.split b.reached.good) f a.wrong

as_many : (part : PartData) (text : List ℕ) (f g : FramesFault) (a : Finds part text f) (b : Finds part text g) → length a.reached.before ≡ length b.reached.before → f ≡ g
as_many part text f g a b long =
    let e : a.reached.before ++ a.line ∷ a.reached.after ≡ b.reached.before ++ b.line ∷ b.reached.after = sym a.reached.texts ∙ b.reached.texts in
    let same : (a.reached.before ≡ b.reached.before) × (a.line ≡ b.line) = same_lines a.reached.before a.reached.after b.reached.before b.reached.after a.line b.line e long in
    let rows : a.rows ≡ b.rows = one_rows (frame_words part) a.reached.before b.reached.before a.rows b.rows same.0 a.reached.good.read b.reached.good.read in
    let wrong : IsWrong part b.rows b.line f = subst (λ (r : List PlanRow). IsWrong part r b.line f) rows (subst (λ (l : List ℕ). IsWrong part a.rows l f) same.1 a.wrong) in
    one_kind part b.rows b.line f g wrong b.wrong (a.reached.count ∙ ap (λ (n : ℕ). n + 1) long ∙ sym b.reached.count)

pub one_fault : (part : PartData) (text : List ℕ) (f g : FramesFault) → IsPlanOf part text (Err f) → IsPlanOf part text (Err g) → f ≡ g
one_fault part text f g h k =
    let a : Finds part text f = finds part text f h in
    let b : Finds part text g = finds part text g k in
    elim (cases_order (length a.reached.before) (length b.reached.before)) [
      | inl same ↦ as_many part text f g a b same
      | inr (inl less) ↦ absurd (earlier part text f g a b less)
      | inr (inr more) ↦ absurd (earlier part text g f b a more)
    ]
