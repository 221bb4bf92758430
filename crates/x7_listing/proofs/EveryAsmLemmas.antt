-- Every text assembles to something: a line is that of one line or of none, and so is a header's.
use Rattle.std.proofs.Common.{◌≡◌, ◌⊎◌, inl, inr, ℕ, ◌+◌, ◌-◌, ◌^◌, ◌<◌, ◌≤◌, Bool, true, false, List, [], ◌∷◌, ◌++◌, length, drop, Result, Ok, Err, refl, ap, subst, ◌∙◌, arith}
use Rattle.std.proofs.lemmas.Bool.{cases_lt}
use Rattle.std.proofs.lemmas.Bool.Decides.{not_from_Decides}
use Rattle.std.proofs.lemmas.Slice.Eq.{bytes_eq-Decides}
use Rattle.std.specs.List.{AllByRecursion}
use Rattle.std.specs.Str.{bytes_eq}
use Rattle.x7_words.specs.Word.{AreBytes}
use Rattle.x7_text.specs.Lines.{split}
use Rattle.x7_header.specs.Header.{HeaderContents, header_bytes}
use Rattle.x7_listing.specs.BitLine.{bit_text, FitsHeader}
use Rattle.x7_listing.specs.Line.{Line, Empty, Comment, Bytes, Sync, Nop, Write, Read, Write2, Read2, Word, Data, Cmd, Check, FitsLine, IsLine, text_of}
use Rattle.x7_listing.specs.Assembly.{after_one_line, AreAsm, AreHeadedAsm, asm_limit, assembled, BeginsWithLines, HasNoHeaderLine, HasOutcome}
use Rattle.x7_listing.specs.declared.assembler.AsmFault.{AsmFault}
use Rattle.x7_listing.specs.declared.assembler.AsmFault.TheVariants as fault
use Rattle.x7_listing.proofs.AssemblingLemmas.{begins_at, begins_more}
use Rattle.x7_listing.proofs.BitLemmas.{header_by, header_is}
use Rattle.x7_listing.proofs.GuessLemmas.{guess, line_is}
use Rattle.x7_regs.specs.Register.{reg_number_count}
use Rattle.x7_packets.specs.PacketWords.{type1_count_bound, type2_count_bound}

-- ---- what is decided

-- a statement holds, or it doesn't
abbrev Decided : Type 0 → Type 0
Decided P = P ⊎ (P → ⊥)

both_or : {P Q : Type 0} → Decided P → Decided Q → Decided (P × Q)
both_or (inl p) (inl q) = inl (p, q)
both_or (inl p) (inr n) = inr (λ h. n h.1)
both_or (inr n) q = inr (λ h. n h.0)

texts_or : (s t : List ℕ) → Decided (s ≡ t)
texts_or s t = by (bytes_eq s t) refl
  where
    by : (b : Bool) → bytes_eq s t ≡ b → Decided (s ≡ t)
    by true e = inl ((bytes_eq-Decides s t).0 e)
    by false e = inr (not_from_Decides (bytes_eq s t) (bytes_eq-Decides s t) e)

below_or : (a b : ℕ) → Decided (a < b)
below_or a b = by (cases_lt a b)
  where
    by : (a < b) ⊎ (b ≤ a) → Decided (a < b)
    by (inl h) = inl h
    by (inr h) = inr (λ l. omega (arith, h, l))

up_to_or : (a b : ℕ) → Decided (a ≤ b)
up_to_or a b = by (cases_lt b a)
  where
    by : (b < a) ⊎ (a ≤ b) → Decided (a ≤ b)
    by (inl h) = inr (λ l. omega (arith, h, l))
    by (inr h) = inl h

all_below_or : (limit : ℕ) (xs : List ℕ) → Decided (AllByRecursion (λ x. x < limit) xs)
all_below_or limit [] = inl tt
all_below_or limit (x ∷ xs) = both_or (below_or x limit) (all_below_or limit xs)

row_or : (limit most : ℕ) (xs : List ℕ) → Decided (AllByRecursion (λ x. x < limit) xs × (0 < length xs) × (length xs ≤ most))
row_or limit most xs = by (all_below_or limit xs) (below_or 0 (length xs)) (up_to_or (length xs) most)
  where
    by : {P Q R : Type 0} → Decided P → Decided Q → Decided R → Decided (P × Q × R)
    by (inl p) (inl q) (inl r) = inl (p, q, r)
    by (inr n) q r = inr (λ h. n h.0)
    by p (inr n) r = inr (λ h. n h.1)
    by p q (inr n) = inr (λ h. n h.2)

fits_or : (l : Line) → Decided (FitsLine l)
fits_or Empty = inl tt
fits_or (Comment text) = inl tt
fits_or (Bytes bytes) = row_or 256 32 bytes
fits_or Sync = inl tt
fits_or Nop = inl tt
fits_or (Write register count) = both_or (below_or register reg_number_count) (below_or count type1_count_bound)
fits_or (Read register count) = both_or (below_or register reg_number_count) (below_or count type1_count_bound)
fits_or (Write2 count) = below_or count type2_count_bound
fits_or (Read2 count) = below_or count type2_count_bound
fits_or (Word word) = below_or word (2 ^ 32)
fits_or (Data words) = row_or (2 ^ 32) 8 words
fits_or (Cmd command) = inl tt
fits_or Check = inl tt

-- what a field holds is short and of bytes, or it isn't
abbrev FieldOr : List ℕ → Type 0
FieldOr field = Decided ((length field < 2 ^ 16) × AreBytes field)

field_or : (field : List ℕ) → FieldOr field
field_or field = both_or (below_or (length field) (2 ^ 16)) (all_below_or 256 field)

held_or : (x : HeaderContents) → Decided (FitsHeader x)
held_or x = by (field_or x.a) (field_or x.b) (field_or x.c) (field_or x.d) (below_or x.data_length (2 ^ 32))
  where
    by : FieldOr x.a → FieldOr x.b → FieldOr x.c → FieldOr x.d → Decided (x.data_length < 2 ^ 32) → Decided (FitsHeader x)
    by (inl a) (inl b) (inl c) (inl d) (inl n) = inl (record { fields_fit = record { a = a.0; b = b.0; c = c.0; d = d.0; data_length = n }; a = a.1; b = b.1; c = c.1; d = d.1 })
    by (inr a) b c d n = inr (λ h. a (h.fields_fit.a, h.a))
    by a (inr b) c d n = inr (λ h. b (h.fields_fit.b, h.b))
    by a b (inr c) d n = inr (λ h. c (h.fields_fit.c, h.c))
    by a b c (inr d) n = inr (λ h. d (h.fields_fit.d, h.d))
    by a b c d (inr n) = inr (λ h. n h.fields_fit.data_length)

-- ---- the line of a text, and the header of one, or none

line_by : (t : List ℕ) (g : Line) → ((l : Line) → IsLine t l → l ≡ g) → ((l : Line) × IsLine t l) ⊎ ((l : Line) → IsLine t l → ⊥)
line_by t g only = by (fits_or g) (texts_or t (text_of g))
  where
    by : Decided (FitsLine g) → Decided (t ≡ text_of g) → ((l : Line) × IsLine t l) ⊎ ((l : Line) → IsLine t l → ⊥)
    by (inl f) (inl e) = inl (g, record { fits = f; text_is = e })
    by (inr n) e = inr (λ l i. n (subst FitsLine (only l i) i.fits))
    by (inl f) (inr n) = inr (λ l i. n (i.text_is ∙ ap text_of (only l i)))

line_or : (t : List ℕ) → ((l : Line) × IsLine t l) ⊎ ((l : Line) → IsLine t l → ⊥)
line_or t = line_by t (guess t) (line_is t)

-- a text is that of a header, or of none
HeaderOr : List ℕ → Type 0
HeaderOr t = ((x : HeaderContents) × FitsHeader x × (t ≡ bit_text x)) ⊎ ((x : HeaderContents) → FitsHeader x → t ≡ bit_text x → ⊥)

header_by_guess : (t : List ℕ) (g : HeaderContents) → ((x : HeaderContents) → FitsHeader x → t ≡ bit_text x → x ≡ g) → HeaderOr t
unfolding HeaderOr
header_by_guess t g only = by (held_or g) (texts_or t (bit_text g))
  where
    by : Decided (FitsHeader g) → Decided (t ≡ bit_text g) → HeaderOr t
    by (inl h) (inl e) = inl (g, h, e)
    by (inr n) e = inr (λ x h is. n (subst FitsHeader (only x h is) h))
    by (inl f) (inr n) = inr (λ x h is. n (is ∙ ap bit_text (only x h is)))

header_or : (t : List ℕ) → HeaderOr t
header_or t = header_by_guess t (header_by (drop 4 t)) (header_is t)

-- ---- the lines of a text in turn

-- texts of lines assemble to something
HasAsm : ℕ → List (List ℕ) → Type 0
HasAsm limit texts = (outcome : Result (List ℕ) AsmFault) × AreAsm limit texts outcome

from : (limit : ℕ) (all left : List (List ℕ)) (lines : List Line) → BeginsWithLines limit all lines left → HasAsm limit all
unfolding HasAsm
from limit all [] lines b = (Ok (assembled lines), record { lines = lines; begins = b; bytes_are = refl })
from limit all (t ∷ left) lines b = by (λ l. from limit all left (lines ++ l ∷ [])) (line_or t)
  where
    by_size : (l : Line) → IsLine t l → (BeginsWithLines limit all (lines ++ l ∷ []) left → HasAsm limit all) → Decided (length (assembled (lines ++ l ∷ [])) ≤ limit) → HasAsm limit all
    by_size l i goes-on (inl h) = goes-on (begins_more limit all lines l t left b i.fits i.text_is h)
    by_size l i goes-on (inr n) = (
      Err (fault.TooLong (length lines + 1)),
      record {
        lines = lines;
        last = l;
        left = left;
        begins = begins_at limit all lines (t ∷ left) (text_of l ∷ left) (ap (λ s. s ∷ left) i.text_is) b;
        fits = i.fits;
        count = refl;
        passes = more (length (assembled (lines ++ l ∷ []))) n;
      },
    )
      where
        more : (k : ℕ) → (k ≤ limit → ⊥) → limit < k
        more k n = elim (cases_lt limit k) [
          | inl h ↦ h
          | inr h ↦ absurd (n h)
        ]

    by : ((l : Line) → BeginsWithLines limit all (lines ++ l ∷ []) left → HasAsm limit all) → ((l : Line) × IsLine t l) ⊎ ((l : Line) → IsLine t l → ⊥) → HasAsm limit all
    by goes-on (inl (l, i)) = by_size l i (goes-on l) (up_to_or (length (assembled (lines ++ l ∷ []))) limit)
    by goes-on (inr none) = (Err (fault.Line (length lines + 1)), record { lines = lines; bad = t; left = left; begins = b; count = refl; no_line = none })

has_asm : (limit : ℕ) (texts : List (List ℕ)) → HasAsm limit texts
has_asm limit texts = from limit texts texts [] (record { texts = refl; fits = tt; within = omega arith })

headed : (texts : List (List ℕ)) → (outcome : Result (List ℕ) AsmFault) × AreHeadedAsm texts outcome
unfolding HeaderOr HasAsm
headed [] = let o = has_asm asm_limit [] in (o.0, inr ((λ x others h e. cc), o.1))
headed (t ∷ others) = by (header_or t)
  where
    plain : ((x : HeaderContents) → FitsHeader x → t ≡ bit_text x → ⊥) → HasNoHeaderLine (t ∷ others)
    plain none x more h e = let first : t ≡ bit_text x = cc in none x h first

    by : HeaderOr t → (outcome : Result (List ℕ) AsmFault) × AreHeadedAsm (t ∷ others) outcome
    by (inl (x, h, e)) =
        let o = has_asm (asm_limit - length (header_bytes x)) others in
        (after_one_line (header_bytes x) o.0, inl (record { header = x; fits = h; others = others; texts = ap (λ s. s ∷ others) e; follows = record { rest = o.0; lines = o.1; outcome_is = refl } }))
    by (inr none) = let o = has_asm asm_limit (t ∷ others) in (o.0, inr (plain none, o.1))

-- a text assembles to something
pub has_outcome : (text : List ℕ) → HasOutcome text
has_outcome text = headed (split text)
