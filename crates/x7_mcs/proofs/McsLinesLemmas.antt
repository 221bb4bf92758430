-- A flash text that is read line by line.
use Rattle.std.proofs.Common.{◌≡◌, inl, inr, ℕ, ◌+◌, ◌/◌, ◌%◌, ◌≤◌, Bool, true, false, List, [], ◌∷◌, ◌++◌, Result, Ok, Err, IfErr, MatchResult, length, map, refl, ap, sym, subst, ◌∙◌, append_assoc, append-nil, arith}
use Rattle.std.proofs.lemmas.List.{map_push, length-map}
use Rattle.std.specs.List.{flat_map}
use Rattle.x7_words.specs.Word.{AreBytes}
use Rattle.x7_text.specs.Digits.{hex_byte}
use Rattle.x7_text.specs.Lines.{has_no_end, split}
use Rattle.x7_text.proofs.PieceLemmas.{hex_free}
use Rattle.x7_text.proofs.SplitLemmas.{split_line, split_some}
use Rattle.x7_mcs.specs.Flash.{FlashReading, after_data, after_line, after_lines, and_then, mcs_reading, of_no_line}
use Rattle.x7_mcs.specs.Lines.{bare_lines, lines_of, without_return}
use Rattle.x7_mcs.specs.DataRecords.{DataRecord}
use Rattle.x7_mcs.specs.McsLines.{AreGoodMcsLines, HasMcsFault, HasReadRecords, LinesCameTo, flash_of_lines}
use Rattle.x7_mcs.specs.Record.{sum_byte}
use Rattle.x7_mcs.specs.Readings.{FailsAsReading}
use Rattle.x7_mcs.specs.declared.mcs_lines.McsLines.{McsLines}
use Rattle.x7_mcs.specs.Text.{data_line}
use Rattle.x7_mcs.specs.declared.fault.McsFault.{McsFault}
use Rattle.x7_mcs.specs.declared.fault.McsFault.TheVariants as fault
use Rattle.x7_mcs.proofs.GoesLemmas.{gives_bytes, gives_fault, gives_no_end}
use Rattle.x7_mcs.proofs.LawLemmas.{in_turn, reported_one}
use Rattle.x7_mcs.proofs.LineLemmas.{line_first}
use Rattle.x7_mcs.proofs.ReadLemmas.{read_data}
use Rattle.x7_text.proofs.LineReaderLemmas.{left_some}

-- ---- lines without their ends

bare_more : (t : List ℕ) (ts : List (List ℕ)) → (ts ≡ [] → ⊥) → bare_lines (t ∷ ts) ≡ without_return t ∷ bare_lines ts
bare_more t [] h = absurd (h refl)
bare_more t (u ∷ ts) h = refl

bare_after : (ls ts : List (List ℕ)) → (ts ≡ [] → ⊥) → bare_lines (ls ++ ts) ≡ map without_return ls ++ bare_lines ts
bare_after [] ts h = refl
bare_after (l ∷ ls) ts h = bare_more l (ls ++ ts) (left_some ls ts h) ∙ ap (λ us. without_return l ∷ us) (bare_after ls ts h)

some_after : (t : List ℕ) (ts : List (List ℕ)) → t ∷ ts ≡ [] → ⊥
some_after t ts e = cc

then_ok : (r : Result FlashReading McsFault) → and_then r (λ s. Ok s) ≡ r
then_ok (Ok s) = refl
then_ok (Err f) = refl

-- ---- a line after those that were read

module _ (b : McsLines) (lines : List (List ℕ)) (n : ℕ) (m : n ≡ length lines + 1) (t : HasReadRecords b lines) where
  read_after : (ts : List (List ℕ)) → after_lines 1 of_no_line (map without_return lines ++ ts) ≡ after_lines n (mcs_reading b.context.base b.context.has_ended t.records) ts
  read_after ts =
      let k : 1 + length (map without_return lines) ≡ n = omega (arith, m, length-map lines without_return) in
      in_turn (map without_return lines) 1 of_no_line ts ∙ ap (λ r. and_then r (λ s. after_lines (1 + length (map without_return lines)) s ts)) t.came
      ∙ ap (λ (j : ℕ). after_lines j (mcs_reading b.context.base b.context.has_ended t.records) ts) k

  pub line_read : (d : McsLines) (line : List ℕ) → LinesCameTo (after_line n (mcs_reading b.context.base b.context.has_ended t.records) (without_return line)) d → HasReadRecords d (lines ++ line ∷ [])
  line_read d line w = record {
    records = w.records;
    came = ap (after_lines 1 of_no_line) (map_push without_return lines line) ∙ read_after (without_return line ∷ []) ∙ then_ok (after_line n (mcs_reading b.context.base b.context.has_ended t.records) (without_return line)) ∙ w.came;
    holds = w.holds;
  }

  pub line_fails : (f : McsFault) (line more : List ℕ) → FailsAsReading (after_line n (mcs_reading b.context.base b.context.has_ended t.records) (without_return line)) f → HasMcsFault f (lines ++ line ∷ split more)
  line_fails f line more (inl none) = inl none.0
  line_fails f line more (inr h) = gives_fault (lines ++ line ∷ split more) f (inr (
      ap (after_lines 1 of_no_line) (bare_after lines (line ∷ split more) (some_after line (split more)) ∙ ap (λ ts. map without_return lines ++ ts) (bare_more line (split more) (split_some more)))
      ∙ read_after (without_return line ∷ bare_lines (split more)) ∙ ap (λ r. and_then r (λ s. after_lines (n + 1) s (bare_lines (split more)))) h
      ))

  pub line_came : {A : Type 0} (r : Result A McsFault) (d : McsLines) (line cut : List ℕ) → cut ≡ without_return line
      → MatchResult r (λ _. LinesCameTo (after_line n (mcs_reading b.context.base b.context.has_ended t.records) cut) d) (λ f. FailsAsReading (after_line n (mcs_reading b.context.base b.context.has_ended t.records) cut) f)
      → MatchResult r (λ _. HasReadRecords d (lines ++ line ∷ [])) (λ f. (more : List ℕ) → HasMcsFault f (lines ++ line ∷ split more))
  line_came (Ok _) d line cut e w = line_read d line (subst (λ l. LinesCameTo (after_line n (mcs_reading b.context.base b.context.has_ended t.records) l) d) e w)
  line_came (Err f) d line cut e w = λ more. line_fails f line more (subst (λ l. FailsAsReading (after_line n (mcs_reading b.context.base b.context.has_ended t.records) l) f) e w)

  -- memory is wanting at a good line
  pub line_wants : (f : McsFault) (line : List ℕ) → FailsAsReading (after_line n (mcs_reading b.context.base b.context.has_ended t.records) (without_return line)) f → f ≡ fault.NoMemory → AreGoodMcsLines lines line
  line_wants f line (inl none) want =
      inl (none.1.0, ap (after_lines 1 of_no_line) (map_push without_return lines line) ∙ read_after (without_return line ∷ []) ∙ then_ok (after_line n (mcs_reading b.context.base b.context.has_ended t.records) (without_return line)) ∙ none.1.1)
  line_wants f line (inr h) want = absurd (reported_one (without_return line) n (mcs_reading b.context.base b.context.has_ended t.records) (h ∙ ap Err want))

  pub line_wanted : {A : Type 0} (r : Result A McsFault) (d : McsLines) (line cut : List ℕ) → cut ≡ without_return line
      → MatchResult r (λ _. LinesCameTo (after_line n (mcs_reading b.context.base b.context.has_ended t.records) cut) d) (λ f. FailsAsReading (after_line n (mcs_reading b.context.base b.context.has_ended t.records) cut) f)
      → IfErr r (λ f. f ≡ fault.NoMemory → AreGoodMcsLines lines line)
  line_wanted (Ok _) d line cut e w = tt
  line_wanted (Err f) d line cut e w = line_wants f line (subst (λ l. FailsAsReading (after_line n (mcs_reading b.context.base b.context.has_ended t.records) l) f) e w)

  -- the last line
  module _ (line : List ℕ) where
    last_is : after_lines 1 of_no_line (bare_lines (lines ++ line ∷ [])) ≡ after_line n (mcs_reading b.context.base b.context.has_ended t.records) line
    last_is =
        ap (after_lines 1 of_no_line) (bare_after lines (line ∷ []) (some_after line []))
        ∙ read_after (line ∷ []) ∙ then_ok (after_line n (mcs_reading b.context.base b.context.has_ended t.records) line)

    last_took : (d : McsLines) → LinesCameTo (after_line n (mcs_reading b.context.base b.context.has_ended t.records) line) d → LinesCameTo (after_lines 1 of_no_line (bare_lines (lines ++ line ∷ []))) d
    last_took d w = record { records = w.records; came = last_is ∙ w.came; holds = w.holds }

    pub last_bytes : (d : McsLines) → LinesCameTo (after_line n (mcs_reading b.context.base b.context.has_ended t.records) line) d → d.context.has_ended ≡ true → flash_of_lines (lines ++ line ∷ []) ≡ Ok d.image.bytes.items
    last_bytes d w e = gives_bytes (lines ++ line ∷ []) d (last_took d w) e

    pub last_no_end : (d : McsLines) → LinesCameTo (after_line n (mcs_reading b.context.base b.context.has_ended t.records) line) d → d.context.has_ended ≡ false → HasMcsFault fault.NoEnd (lines ++ line ∷ [])
    last_no_end d w e = inr (gives_no_end (lines ++ line ∷ []) d (last_took d w) e)

    pub last_fault : (f : McsFault) → FailsAsReading (after_line n (mcs_reading b.context.base b.context.has_ended t.records) line) f → HasMcsFault f (lines ++ line ∷ [])
    last_fault f (inl none) = inl none.0
    last_fault f (inr h) = gives_fault (lines ++ line ∷ []) f (inr (last_is ∙ h))

    pub last_wants : (f : McsFault) → FailsAsReading (after_line n (mcs_reading b.context.base b.context.has_ended t.records) line) f → f ≡ fault.NoMemory → AreGoodMcsLines lines line
    last_wants f (inl none) want = inr (none.1.0, last_is ∙ none.1.1)
    last_wants f (inr h) want = absurd (reported_one line n (mcs_reading b.context.base b.context.has_ended t.records) (h ∙ ap Err want))

-- ---- the line of a row

-- the line of a row without its end
abbrev pub row_line : ℕ → List ℕ → List ℕ
row_line a r = 58 ∷ flat_map hex_byte ((length r ∷ a / 256 ∷ a % 256 ∷ 0 ∷ r) ++ sum_byte (length r ∷ a / 256 ∷ a % 256 ∷ 0 ∷ r) ∷ [])

row_free : (a : ℕ) (r : List ℕ) → has_no_end (row_line a r) ≡ true
row_free a r = hex_free ((length r ∷ a / 256 ∷ a % 256 ∷ 0 ∷ r) ++ sum_byte (length r ∷ a / 256 ∷ a % 256 ∷ 0 ∷ r) ∷ [])

pub row_cut : (text rest : List ℕ) (a : ℕ) (r : List ℕ) → text ≡ data_line a r ++ rest → split text ≡ row_line a r ∷ split rest
row_cut text rest a r e = ap split (e ∙ append_assoc (row_line a r) (10 ∷ []) rest) ∙ split_line (row_line a r) rest (row_free a r)

pub row_is : (n base a : ℕ) (has_ended : Bool) (xs : List DataRecord) (r : List ℕ) → has_ended ≡ false → AreBytes r → length r ≡ 16 → a ≤ 65520
    → after_data n (mcs_reading base has_ended xs) a r ≡ after_line n (mcs_reading base has_ended xs) (without_return (row_line a r))
row_is n base a has_ended xs r running bytes long low =
    ap (λ (b : Bool). after_data n (mcs_reading base b xs) a r) running
    ∙ sym (then_ok (after_data n (mcs_reading base false xs) a r)) ∙ sym (read_data n base a xs r [] bytes (omega (arith, long)) (omega (arith, long, low)) (omega (arith, low)))
    ∙ ap (λ t. after_lines n (mcs_reading base false xs) (lines_of t)) (append-nil (data_line a r)) ∙ ap (after_lines n (mcs_reading base false xs)) (line_first (row_line a r) [] (row_free a r))
    ∙ then_ok (after_line n (mcs_reading base false xs) (without_return (row_line a r)))
    ∙ ap (λ (b : Bool). after_line n (mcs_reading base b xs) (without_return (row_line a r))) (sym running)
