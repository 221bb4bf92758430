-- The lines that AsmLines takes: the first, one more, many at once, and the last.
use Rattle.std.proofs.Common.{◌≡◌, inl, inr, ℕ, ◌+◌, ◌-◌, ◌≤◌, true, List, [], ◌∷◌, ◌++◌, Option, Some, IfSome, Result, Ok, Err, IfErr, OnOk, MatchResult, length, map, take, drop, refl, ap, sym, subst, ◌∙◌, arith, append_assoc, append-nil, length-append, take_all, Bool, false}
use Rattle.std.proofs.lemmas.List.{drop-append-le, length-map}
use Rattle.std.proofs.lemmas.Result.{err_from_is_err_and}
use Rattle.std.specs.Result.{IsErrAnd}
use Rattle.std.proofs.Math.ListN.{drop_of_length-le}
use Rattle.std.proofs.Math.Seq.{drop-nil}
use Rattle.std.specs.List.{flat_map}
use Rattle.x7_crc.specs.Checker.{CheckerState, KeepsCheckOf}
use Rattle.x7_crc.proofs.CheckerLemmas.{still_keeps}
use Rattle.x7_header.specs.Header.{HeaderContents, longest_header}
use Rattle.x7_text.specs.Lines.{split}
use Rattle.x7_text.proofs.LineReaderLemmas.{HasTaken, each_fault}
use Rattle.x7_listing.specs.Assembly.{AreHeadedAsm}
use Rattle.x7_listing.specs.Assembling.{HasReadWithRoom, FailsFirst, FailsNext, TextsAreRead, HasAsmFault, HasLineRoom, IsOutputOf, IsFirstOrGood, IsSoundOutput, Output, ReadsFirst, ReadsNext, AppendsLines, Unbegun, AreReadOrUnbegun, LinesAreRead, output_of, has_any}
use Rattle.x7_listing.specs.BitLine.{bit_text, IsHeaderOf, FitsHeader}
use Rattle.x7_text.specs.Reads.{AppendsIfRead}
use Rattle.x7_listing.specs.Line.{Line, line_bytes, FitsLine, text_of}
use Rattle.x7_listing.specs.declared.assembler.AsmFault.{AsmFault}
use Rattle.x7_listing.specs.declared.assembler.AsmFault.TheVariants as fault
use Rattle.x7_listing.proofs.AssemblingLemmas.{goes_whole, went_nothing}
use Rattle.x7_listing.proofs.asm.fast.QuickLemmas.{goes_quick, quick_texts}

-- before any line is read: a header's line, and a line that is no header's
pub goes_header : (all left : List (List ℕ)) (held header : List ℕ) (old : Output) (len room : ℕ) (fresh : CheckerState) → IsHeaderOf held header → length header ≤ longest_header → len ≡ length header → KeepsCheckOf fresh []
    → Unbegun all (held ∷ left) old → TextsAreRead all left (output_of header len fresh room) 1
goes_header all left held header old len room fresh h short size new u =
    let none : drop len header ≡ [] = drop_of_length-le header (omega (arith, size)) in
    record {
      others = left;
      first = 1;
      read = 0;
      long = omega (arith, size);
      short = omega (arith, size, short);
      keeps = subst (λ (b : List ℕ). KeepsCheckOf fresh b) (sym none) new;
      opens = inl (record { header = h.header; fits = h.fits; texts = u.texts ∙ ap (λ t. t ∷ left) h.text; prefix_is = take_all len header (omega (arith, size)) ∙ h.bytes_are; count = refl });
      went = subst (λ (b : List ℕ). LinesAreRead (67108864 - len) left left b 0) (sym none) (went_nothing (67108864 - len) left);
      count_is = refl;
    }

first_is : (s t : List ℕ) (ss ts : List (List ℕ)) → s ∷ ss ≡ t ∷ ts → s ≡ t
first_is s t ss ts e = cc

pub goes_plain : (all left : List (List ℕ)) (held : List ℕ) (b : Output) → ((x : HeaderContents) → FitsHeader x → held ≡ bit_text x → ⊥) → Unbegun all (held ∷ left) b → TextsAreRead all (held ∷ left) b 0
goes_plain all left held b none u =
    let empty : drop b.start b.out ≡ [] = ap (drop b.start) u.out_is ∙ drop-nil b.start in
    record {
      others = held ∷ left;
      first = 0;
      read = 0;
      long = omega (arith, u.start_is);
      short = omega (arith, u.start_is);
      keeps = subst (KeepsCheckOf b.checker) (sym empty) u.keeps;
      opens = inr (record {
        no_head = λ x others hx e. none x hx (first_is held (bit_text x) left others (sym u.texts ∙ e));
        texts = u.texts;
        prefix_is = ap (λ (k : ℕ). take k b.out) u.start_is;
        count = refl;
      });
      went = subst (λ (t : List ℕ). LinesAreRead (67108864 - b.start) (held ∷ left) (held ∷ left) t 0) (sym empty) (went_nothing (67108864 - b.start) (held ∷ left));
      count_is = refl;
    }

pub err_weaker : {A E : Type 0} → {P Q : E → Type 0} → (r : Result A E) → ((e : E) → P e → Q e) → IfErr r P → IfErr r Q
err_weaker (Ok a) f h = tt
err_weaker (Err e) f h = f e h

-- the fault that `?` hands on
pub handed : {A E : Type 0} (P : A → Type 0) (Q : E → Type 0) (r : Result A E) (e : E) → IsErrAnd r (λ f. f ≡ e) → Q e → MatchResult r P Q
handed P Q r e h q = let p = err_from_is_err_and r h in subst (λ s. MatchResult s P Q) (sym (p.1 ∙ ap Err p.2)) q

pub handed_on : {A E : Type 0} (Q : E → Type 0) (r : Result A E) (e : E) → IsErrAnd r (λ f. f ≡ e) → Q e → IfErr r Q
handed_on Q r e h q = let p = err_from_is_err_and r h in subst (λ s. IfErr s Q) (sym (p.1 ∙ ap Err p.2)) q

pub err_as : {A E : Type 0} (P Q : E → Type 0) (r : Result A E) → ((e : E) → P e → Q e) → IsErrAnd r P → IfErr r Q
err_as P Q r f h = let p = err_from_is_err_and r h in subst (λ s. IfErr s Q) (sym p.1) (f p.0 p.2)

pub none_ok : {A E : Type 0} (P : Type 0) (Q : E → Type 0) (r : Result A E) → IsErrAnd r Q → OnOk r P
none_ok P Q r h = let p = err_from_is_err_and r h in subst (λ s. OnOk s P) (sym p.1) tt

pub if_some : {X : Type 0} → (P : X → Type 0) (o : Option X) (x : X) → o ≡ Some x → IfSome o P → P x
if_some P o x e h = subst (λ p. IfSome p P) e h

-- ---- one line more

-- a line only appends
grown : (check : ℕ) (b : Bool) (t old new : List ℕ) → AppendsIfRead FitsLine text_of (line_bytes check) b t old new → (more : List ℕ) × (new ≡ old ++ more)
grown check true t old new r = (line_bytes check r.0, r.3)
grown check false t old new r = ([], r.1 ∙ sym (append-nil old))

pub still_begun : (check : ℕ) (b : Bool) (t old new : List ℕ) (start : ℕ) → AppendsIfRead FitsLine text_of (line_bytes check) b t old new → start ≤ length old → start ≤ length new
still_begun check b t old new start r h = let g = grown check b t old new r in omega (arith, h, ap length g.1, length-append old g.0)

pub keeps_begun : (check : ℕ) (b : Bool) (t old new : List ℕ) (start : ℕ) (checker : CheckerState) → AppendsIfRead FitsLine text_of (line_bytes check) b t old new → start ≤ length old → KeepsCheckOf checker (drop start old) → KeepsCheckOf checker (drop start new)
keeps_begun check b t old new start checker r h k = let g = grown check b t old new r in still_keeps checker (drop start old) g.0 (drop start new) (ap (drop start) g.1 ∙ drop-append-le start old g.0 h) k

pub first_read : {A : Type 0} (r : Result A AsmFault) (old new : Output) (line : List ℕ) (lines : List (List ℕ)) → length lines ≡ 0 → OnOk r (ReadsFirst old new line) → OnOk r (HasLineRoom new) → IfErr r (FailsFirst old line) → HasReadWithRoom old lines
    → MatchResult r (λ _. HasReadWithRoom new (lines ++ line ∷ [])) (λ f. (left : List (List ℕ)) → HasAsmFault f (lines ++ line ∷ left))
first_read (Ok _) old new line [] none reads room fails h = record { read = λ left. reads (line ∷ left) left (h.read (line ∷ left)); room = λ _. room }
first_read (Err f) old new line [] none reads room (inl want) h = λ left. inl want
first_read (Err f) old new line [] none reads room (inr bad) h = λ left. inr (bad (line ∷ left) left (h.read (line ∷ left)))
first_read r old new line (t ∷ ts) none reads room fails h = absurd (omega (arith, none))

pub next_read : {A : Type 0} (r : Result A AsmFault) (old new : Output) (n : ℕ) (line : List ℕ) (lines : List (List ℕ)) → n ≡ length lines + 1 → (n ≡ 1 → ⊥) → OnOk r (ReadsNext old new n line) → OnOk r (HasLineRoom new) → IfErr r (FailsNext old n line) → HasReadWithRoom old lines
    → MatchResult r (λ _. HasReadWithRoom new (lines ++ line ∷ [])) (λ f. (left : List (List ℕ)) → HasAsmFault f (lines ++ line ∷ left))
next_read r old new n line [] m more reads room fails h = absurd (more m)
next_read (Ok _) old new n line (t ∷ ts) m more reads room fails h =
    let read : IsOutputOf new ((t ∷ ts) ++ line ∷ []) = λ left.
    let k : n ≡ length ((t ∷ ts) ++ line ∷ []) = m ∙ sym (length-append (t ∷ ts) (line ∷ [])) in
    subst (λ all. TextsAreRead all left new (length ((t ∷ ts) ++ line ∷ []))) (sym (append_assoc (t ∷ ts) (line ∷ []) left))
    (subst (λ (j : ℕ). TextsAreRead ((t ∷ ts) ++ line ∷ left) left new j) k (reads ((t ∷ ts) ++ line ∷ left) left (length (t ∷ ts)) m (h.read (line ∷ left)))) in
    record { read = read; room = λ _. room }
next_read (Err f) old new n line (t ∷ ts) m more reads room (inl want) h = λ left. inl want
next_read (Err f) old new n line (t ∷ ts) m more reads room (inr bad) h = λ left. inr (bad ((t ∷ ts) ++ line ∷ left) left (length (t ∷ ts)) m (h.read (line ∷ left)))

pub with_more : {A : Type 0} (r : Result A AsmFault) (new : Output) (line : List ℕ) (lines : List (List ℕ)) → MatchResult r (λ _. HasReadWithRoom new (lines ++ line ∷ [])) (λ f. (left : List (List ℕ)) → HasAsmFault f (lines ++ line ∷ left))
    → MatchResult r (λ _. HasReadWithRoom new (lines ++ line ∷ [])) (λ f. (more : List ℕ) → HasAsmFault f (lines ++ line ∷ split more))
with_more (Ok _) new line lines h = h
with_more (Err f) new line lines h = λ more. h (split more)

-- ---- want of memory

-- no memory is wanting where there was room
pub no_room : {A : Type 0} (r : Result A AsmFault) (old new : Output) (n : ℕ) (line : List ℕ) → (HasLineRoom old → ⊥) → IfErr r (λ f. f ≡ fault.NoMemory → HasLineRoom old → ReadsNext old new n line)
no_room r old new n line none = each_fault r (λ f. f ≡ fault.NoMemory → HasLineRoom old → ReadsNext old new n line) (λ f want room. absurd (none room))

pub not_line : (n : ℕ) → fault.Line n ≡ fault.NoMemory → ⊥
not_line n e = cc

pub not_long : (n : ℕ) → fault.TooLong n ≡ fault.NoMemory → ⊥
not_long n e = cc

pub wants_read : {A : Type 0} (r : Result A AsmFault) (old new : Output) (n : ℕ) (line : List ℕ) → ReadsNext old new n line → IfErr r (λ f. f ≡ fault.NoMemory → HasLineRoom old → ReadsNext old new n line)
wants_read r old new n line h = each_fault r (λ f. f ≡ fault.NoMemory → HasLineRoom old → ReadsNext old new n line) (λ f want room. h)

pub first_wants : {A : Type 0} (r : Result A AsmFault) (line : List ℕ) (lines : List (List ℕ)) → length lines ≡ 0 → IfErr r (λ f. f ≡ fault.NoMemory → IsFirstOrGood lines line)
first_wants r line [] none = each_fault r (λ f. f ≡ fault.NoMemory → IsFirstOrGood [] line) (λ f want. inl refl)
first_wants r line (t ∷ ts) none = absurd (omega (arith, none))

pub next_wants : {A : Type 0} (r : Result A AsmFault) (old new : Output) (n : ℕ) (line : List ℕ) (lines : List (List ℕ)) → n ≡ length lines + 1 → (n ≡ 1 → ⊥)
    → IfErr r (λ f. f ≡ fault.NoMemory → HasLineRoom old → ReadsNext old new n line) → HasReadWithRoom old lines → IfErr r (λ f. f ≡ fault.NoMemory → IsFirstOrGood lines line)
next_wants (Ok _) old new n line lines m more reads h = tt
next_wants (Err f) old new n line [] m more reads h = absurd (more m)
next_wants (Err f) old new n line (t ∷ ts) m more reads h = λ want.
    let all : List (List ℕ) = (t ∷ ts) ++ line ∷ [] in
    let g : TextsAreRead all [] new n = reads want (h.room refl) all [] (length (t ∷ ts)) m (h.read (line ∷ [])) in
    inr (new.out, goes_whole all new n g)

-- ---- lines that are read at once

-- what was appended leaves lines' bytes and their check
pub still_sound : (out new : List ℕ) (start : ℕ) (checker : CheckerState) (more : List ℕ) → new ≡ out ++ more → IsSoundOutput out start checker → IsSoundOutput new start checker
still_sound out new start checker more e s = record {
  begun = omega (arith, s.begun, ap length e, length-append out more);
  keeps = still_keeps checker (drop start out) more (drop start new) (ap (drop start) e ∙ drop-append-le start out more s.begun) s.keeps;
}

-- a header's bytes and a new checker
pub header_sound : (header : List ℕ) (len : ℕ) (fresh : CheckerState) → len ≡ length header → KeepsCheckOf fresh [] → IsSoundOutput header len fresh
header_sound header len fresh size new = record {
  begun = omega (arith, size);
  keeps = subst (λ (b : List ℕ). KeepsCheckOf fresh b) (sym (drop_of_length-le header (omega (arith, size)))) new;
}

no_lines : (ls : List Line) → length ls ≡ 0 → ls ≡ []
no_lines [] e = refl
no_lines (l ∷ ls) e = absurd (omega (arith, e))

pub quick_read : (old : Output) (new text rest : List ℕ) (k room : ℕ) (lines : List (List ℕ)) (t : AppendsLines text rest old.out new k) → (length lines ≡ 0 → k ≡ 0) → (length old.out ≤ 67108864 → length new ≤ 67108864)
    → IsOutputOf old lines → IsOutputOf (output_of new old.start old.checker room) (lines ++ map text_of t.lines)
quick_read old new text rest k room [] t none limit h =
    let empty : t.lines ≡ [] = no_lines t.lines (sym t.count_is ∙ none refl) in
    let same : new ≡ old.out = t.appended ∙ ap (λ ls. old.out ++ flat_map (line_bytes 0) ls) empty ∙ append-nil old.out in
    let still : IsOutputOf (output_of new old.start old.checker room) [] = λ left. record { texts = refl; out_is = same ∙ (h left).out_is; start_is = (h left).start_is; keeps = (h left).keeps } in
    subst (λ ls. IsOutputOf (output_of new old.start old.checker room) (map text_of ls)) (sym empty) still
quick_read old new text rest k room (u ∷ us) t none limit h = λ left.
    goes_quick (((u ∷ us) ++ map text_of t.lines) ++ left) left text rest new old k (length (u ∷ us)) (length ((u ∷ us) ++ map text_of t.lines)) room t limit
    (length-append (u ∷ us) (map text_of t.lines) ∙ ap (λ (j : ℕ). length (u ∷ us) + j) (length-map t.lines text_of ∙ sym t.count_is))
    (subst (λ all. TextsAreRead all (map text_of t.lines ++ left) old (length (u ∷ us))) (sym (append_assoc (u ∷ us) (map text_of t.lines) left)) (h (map text_of t.lines ++ left)))

-- a line was read before, where one is now
any_before : (lines : List (List ℕ)) (more : List Line) → (length lines ≡ 0 → length more ≡ 0) → has_any (lines ++ map text_of more) ≡ true → has_any lines ≡ true
any_before [] [] none e = e
any_before [] (l ∷ more) none e = absurd (omega (arith, none refl))
any_before (t ∷ ts) more none e = refl

all_read : (old new : Output) (text rest : List ℕ) (k : ℕ) (lines : List (List ℕ)) (t : AppendsLines text rest old.out new.out k) → new.start ≡ old.start → new.checker ≡ old.checker → (length lines ≡ 0 → k ≡ 0)
    → (length old.out ≤ 67108864 → length new.out ≤ 67108864) → (HasLineRoom old → HasLineRoom new) → HasReadWithRoom old lines → HasReadWithRoom new (lines ++ map text_of t.lines)
all_read old new text rest k lines t start checker none limit room h = record {
  read = subst (λ (s : ℕ). IsOutputOf (output_of new.out s new.checker new.room) (lines ++ map text_of t.lines)) (sym start)
      (subst (λ (x : CheckerState). IsOutputOf (output_of new.out old.start x new.room) (lines ++ map text_of t.lines)) (sym checker) (quick_read old new.out text rest k new.room lines t none limit h.read));
  room = λ e. room (h.room (any_before lines t.lines (λ z. sym t.count_is ∙ none z) e));
}

-- the lines that AsmLines takes at once
pub at_once_taken : (old new : Output) (text rest left : List ℕ) (k n c size : ℕ) (lines : List (List ℕ)) → left ≡ drop size rest → AppendsLines rest (drop size rest) old.out new.out k → new.start ≡ old.start → new.checker ≡ old.checker
    → (n ≡ 0 → k ≡ 0) → (length old.out ≤ 67108864 → length new.out ≤ 67108864) → (HasLineRoom old → HasLineRoom new) → c ≡ n + k → HasTaken HasReadWithRoom lines text rest old n → HasTaken HasReadWithRoom lines text left new c
at_once_taken old new text rest left k n c size lines is t start checker none limit room up h = record {
  more = h.more ++ map text_of t.lines;
  texts = h.texts ∙ ap (λ ls. h.more ++ ls) (quick_texts rest (drop size rest) old.out new.out k t ∙ ap (λ x. map text_of t.lines ++ split x) (sym is)) ∙ sym (append_assoc h.more (map text_of t.lines) (split left));
  took = subst (HasReadWithRoom new) (append_assoc lines h.more (map text_of t.lines))
      (all_read old new rest (drop size rest) k (lines ++ h.more) t start checker (λ e. none (h.counts ∙ e)) limit room h.took);
  counts = up ∙ ap (λ (j : ℕ). j + k) h.counts ∙ ap (λ (j : ℕ). length (lines ++ h.more) + j) (t.count_is ∙ sym (length-map t.lines text_of)) ∙ sym (length-append (lines ++ h.more) (map text_of t.lines)) ∙ ap length (append_assoc lines h.more (map text_of t.lines));
}

-- ---- the last line

goes_any : (lines : List (List ℕ)) (line : List ℕ) (all left : List (List ℕ)) (b : Output) (n : ℕ) → AreReadOrUnbegun (has_any (lines ++ line ∷ [])) all left b n → TextsAreRead all left b n
goes_any [] line all left b n w = w
goes_any (t ∷ ts) line all left b n w = w

pub last_read : (b : Output) (lines : List (List ℕ)) (line : List ℕ) → IsOutputOf b (lines ++ line ∷ []) → AreHeadedAsm (lines ++ line ∷ []) (Ok b.out)
last_read b lines line h =
    let all : List (List ℕ) = lines ++ line ∷ [] in
    subst (λ ls. AreHeadedAsm ls (Ok b.out)) (append-nil all)
    (goes_whole (all ++ []) b (length all) (goes_any lines line (all ++ []) [] b (length all) (h [])))
