-- A text has one outcome: no two of its bytes, its first bad line and the line at which it passes the limit.
use Rattle.std.proofs.Common.{◌≡◌, ◌⊎◌, ℕ, ◌+◌, ◌-◌, ◌<◌, ◌≤◌, List, [], ◌∷◌, ◌++◌, inl, inr, Result, Ok, Err, MatchResult, length, map, fold, refl, ap, sym, subst, ◌∙◌, arith, append_assoc, append-nil, length-append}
use Rattle.std.proofs.lemmas.Grind.{fold-append}
use Rattle.std.specs.List.{AllByRecursion}
use Rattle.x7_listing.specs.Assembly.{asm_limit, AssembleTo, assembled, BeginsWithLines, AreAsm, after_one_line, IsOutcomeAfter, HasNoHeaderLine, IsFirstBadText, IsAsm, IsHeaded, PassesLimitAt, with_line}
use Rattle.x7_text.specs.Lines.{split}
use Rattle.x7_header.specs.Header.{header_bytes}
use Rattle.x7_listing.specs.BitLine.{bit_text}
use Rattle.x7_listing.specs.StreamListing.{stream_listing}
use Rattle.x7_listing.proofs.BitLemmas.{one_header}
use Rattle.x7_listing.proofs.StreamLemmas.{stream_back}
use Rattle.x7_crc.specs.Checker.{check_of_bytes}
use Rattle.x7_listing.specs.Line.{line_bytes, FitsLine, IsLine, Line, text_of}
use Rattle.x7_words.specs.Word.{AreBytes}
use Rattle.x7_listing.specs.declared.assembler.AsmFault.{AsmFault}
use Rattle.x7_listing.specs.declared.assembler.AsmFault.TheVariants as fault
use Rattle.x7_listing.proofs.GuessLemmas.{one_line}

-- ms goes on after ls, and so do the texts
record IsPrefixOf (ls ms : List Line) (here there : List (List ℕ)) : Type 0 where
  more : List Line
  lines : ms ≡ ls ++ more
  texts : here ≡ map text_of more ++ there
  fits : AllByRecursion FitsLine more

same_line : (a b : Line) → FitsLine a → FitsLine b → text_of a ≡ text_of b → a ≡ b
same_line a b h k e = one_line (text_of a) a b (record { fits = h; text_is = refl }) (record { fits = k; text_is = e })

cons_prefix : (l m : Line) (ls ms : List Line) (here there : List (List ℕ)) → l ≡ m → IsPrefixOf ls ms here there → IsPrefixOf (l ∷ ls) (m ∷ ms) here there
cons_prefix l m ls ms here there e f = record { more = f.more; lines = ap (λ t. m ∷ t) f.lines ∙ ap (λ x. x ∷ (ls ++ f.more)) (sym e); texts = f.texts; fits = f.fits }

prefixes : (ls ms : List Line) (here there : List (List ℕ)) → AllByRecursion FitsLine ls → AllByRecursion FitsLine ms → map text_of ls ++ here ≡ map text_of ms ++ there → IsPrefixOf ls ms here there ⊎ IsPrefixOf ms ls there here
prefixes [] ms here there a b e = inl (record { more = ms; lines = refl; texts = e; fits = b })
prefixes (l ∷ ls) [] here there a b e = inr (record { more = l ∷ ls; lines = refl; texts = sym e; fits = a })
prefixes (l ∷ ls) (m ∷ ms) here there a b e =
    let first : text_of l ≡ text_of m = cc in
    let rest : map text_of ls ++ here ≡ map text_of ms ++ there = cc in
    let same : l ≡ m = same_line l m a.0 b.0 first in
    elim (prefixes ls ms here there a.1 b.1 rest) [
      | inl f ↦ inl (cons_prefix l m ls ms here there same f)
      | inr f ↦ inr (cons_prefix m l ms ls there here (sym same) f)
    ]

-- nothing can be read after these lines
unfoldable Stops : ℕ → List (List ℕ) → List Line → List (List ℕ) → Type 0
Stops limit texts ls here = (ms : List Line) (there : List (List ℕ)) → BeginsWithLines limit texts ms there → (f : IsPrefixOf ls ms here there) → f.more ≡ []

at_prefix : (ls ms : List Line) (here there : List (List ℕ)) (f : IsPrefixOf ls ms here there) → f.more ≡ [] → (ls ≡ ms) × (here ≡ there)
at_prefix ls ms here there f e = (sym (f.lines ∙ ap (λ t. ls ++ t) e ∙ append-nil ls), f.texts ∙ ap (λ t. map text_of t ++ there) e)

one_place : (limit : ℕ) (texts : List (List ℕ)) (ls ms : List Line) (here there : List (List ℕ)) → BeginsWithLines limit texts ls here → BeginsWithLines limit texts ms there → Stops limit texts ls here → Stops limit texts ms there → (ls ≡ ms) × (here ≡ there)
unfolding Stops
one_place limit texts ls ms here there a b s t =
    elim (prefixes ls ms here there a.fits b.fits (sym a.texts ∙ b.texts)) [
      | inl f ↦ at_prefix ls ms here there f (s ms there b f)
      | inr f ↦ let p = at_prefix ms ls there here f (t ls here a f) in (sym p.0, sym p.1)
    ]

none_after : (more : List Line) (there : List (List ℕ)) → [] ≡ map text_of more ++ there → more ≡ []
none_after [] there e = refl
none_after (l ∷ more) there e = absurd cc

end_stops : (limit : ℕ) (texts : List (List ℕ)) (ls : List Line) → Stops limit texts ls []
unfolding Stops
end_stops limit texts ls = λ ms there b f. none_after f.more there f.texts

bad_after : (more : List Line) (bad : List ℕ) (left there : List (List ℕ)) → AllByRecursion FitsLine more → bad ∷ left ≡ map text_of more ++ there → ((l : Line) → IsLine bad l → ⊥) → more ≡ []
bad_after [] bad left there a e h = refl
bad_after (l ∷ more) bad left there a e h = let is : bad ≡ text_of l = cc in absurd (h l (record { fits = a.0; text_is = is }))

bad_stops : (limit : ℕ) (texts : List (List ℕ)) (ls : List Line) (bad : List ℕ) (left : List (List ℕ)) → ((l : Line) → IsLine bad l → ⊥) → Stops limit texts ls (bad ∷ left)
unfolding Stops
bad_stops limit texts ls bad left h = λ ms there b f. bad_after f.more bad left there f.fits f.texts h

grows : (bytes : List ℕ) (ls : List Line) → length bytes ≤ length (fold with_line bytes ls)
grows bytes [] = omega arith
grows bytes (l ∷ ls) = omega (arith, grows (with_line bytes l) ls, length-append bytes (line_bytes (check_of_bytes bytes) l))

longer_still : (ls more : List Line) (l : Line) → length (assembled (ls ++ l ∷ [])) ≤ length (assembled (ls ++ l ∷ more))
longer_still ls more l =
    let e : assembled (ls ++ l ∷ more) ≡ fold with_line (assembled (ls ++ l ∷ [])) more = ap assembled (sym (append_assoc ls (l ∷ []) more)) ∙ fold-append with_line [] (ls ++ l ∷ []) more in
    subst (λ b. length (assembled (ls ++ l ∷ [])) ≤ length b) (sym e) (grows (assembled (ls ++ l ∷ [])) more)

long_after : (limit : ℕ) (ls ms more : List Line) (last : Line) (left there : List (List ℕ)) → AllByRecursion FitsLine more → FitsLine last → ms ≡ ls ++ more → text_of last ∷ left ≡ map text_of more ++ there
    → limit < length (assembled (ls ++ last ∷ [])) → length (assembled ms) ≤ limit → more ≡ []
long_after limit ls ms [] last left there a h e t p w = refl
long_after limit ls ms (l ∷ more) last left there a h e t p w =
    let first : text_of last ≡ text_of l = cc in
    let same : last ≡ l = same_line last l h a.0 first in
    let all : assembled ms ≡ assembled (ls ++ last ∷ more) = ap assembled (e ∙ ap (λ x. ls ++ x ∷ more) (sym same)) in
    absurd (omega (arith, longer_still ls more last, subst (λ b. length b ≤ limit) all w, p))

long_stops : (limit : ℕ) (texts : List (List ℕ)) (ls : List Line) (last : Line) (left : List (List ℕ)) → FitsLine last → limit < length (assembled (ls ++ last ∷ [])) → Stops limit texts ls (text_of last ∷ left)
unfolding Stops
long_stops limit texts ls last left h p = λ ms there b f. long_after limit ls ms f.more last left there f.fits h f.lines f.texts p b.within

module _ (limit : ℕ) (texts : List (List ℕ)) where
  pub one_bytes : (x y : List ℕ) → AssembleTo limit texts x → AssembleTo limit texts y → x ≡ y
  one_bytes x y a b = let p = one_place limit texts a.lines b.lines [] [] a.begins b.begins (end_stops limit texts a.lines) (end_stops limit texts b.lines) in a.bytes_are ∙ ap assembled p.0 ∙ sym b.bytes_are

  pub not_bad : (x : List ℕ) (n : ℕ) → AssembleTo limit texts x → IsFirstBadText limit texts n → ⊥
  not_bad x n a b = let p = one_place limit texts a.lines b.lines [] (b.bad ∷ b.left) a.begins b.begins (end_stops limit texts a.lines) (bad_stops limit texts b.lines b.bad b.left b.no_line) in
      let e : ◌≡◌ {A = List (List ℕ)} [] (b.bad ∷ b.left) = p.1 in cc

  pub not_long : (x : List ℕ) (n : ℕ) → AssembleTo limit texts x → PassesLimitAt limit texts n → ⊥
  not_long x n a b = let p = one_place limit texts a.lines b.lines [] (text_of b.last ∷ b.left) a.begins b.begins (end_stops limit texts a.lines) (long_stops limit texts b.lines b.last b.left b.fits b.passes) in
      let e : ◌≡◌ {A = List (List ℕ)} [] (text_of b.last ∷ b.left) = p.1 in cc

  pub one_bad : (m n : ℕ) → IsFirstBadText limit texts m → IsFirstBadText limit texts n → m ≡ n
  one_bad m n a b = let p = one_place limit texts a.lines b.lines (a.bad ∷ a.left) (b.bad ∷ b.left) a.begins b.begins (bad_stops limit texts a.lines a.bad a.left a.no_line) (bad_stops limit texts b.lines b.bad b.left b.no_line) in
      a.count ∙ ap (λ (ls : List Line). length ls + 1) p.0 ∙ sym b.count

  pub one_long : (m n : ℕ) → PassesLimitAt limit texts m → PassesLimitAt limit texts n → m ≡ n
  one_long m n a b = let p = one_place limit texts a.lines b.lines (text_of a.last ∷ a.left) (text_of b.last ∷ b.left) a.begins b.begins (long_stops limit texts a.lines a.last a.left a.fits a.passes) (long_stops limit texts b.lines b.last b.left b.fits b.passes) in
      a.count ∙ ap (λ (ls : List Line). length ls + 1) p.0 ∙ sym b.count

  pub not_both : (m n : ℕ) → IsFirstBadText limit texts m → PassesLimitAt limit texts n → ⊥
  not_both m n a b = let p = one_place limit texts a.lines b.lines (a.bad ∷ a.left) (text_of b.last ∷ b.left) a.begins b.begins (bad_stops limit texts a.lines a.bad a.left a.no_line) (long_stops limit texts b.lines b.last b.left b.fits b.passes) in
      let e : a.bad ∷ a.left ≡ text_of b.last ∷ b.left = p.1 in
      let is : a.bad ≡ text_of b.last = cc in a.no_line b.last (record { fits = b.fits; text_is = is })

-- texts of lines have one outcome
pub same_asm : (limit : ℕ) (texts : List (List ℕ)) (a b : Result (List ℕ) AsmFault) → AreAsm limit texts a → AreAsm limit texts b → a ≡ b
same_asm limit texts (Ok x) (Ok y) h k = ap Ok (one_bytes limit texts x y h k)
same_asm limit texts (Ok x) (Err (fault.Line n)) h k = absurd (not_bad limit texts x n h k)
same_asm limit texts (Ok x) (Err (fault.TooLong n)) h k = absurd (not_long limit texts x n h k)
same_asm limit texts (Ok x) (Err fault.NoMemory) h k = absurd k
same_asm limit texts (Err (fault.Line m)) (Ok y) h k = absurd (not_bad limit texts y m k h)
same_asm limit texts (Err (fault.Line m)) (Err (fault.Line n)) h k = ap (λ (i : ℕ). Err (fault.Line i)) (one_bad limit texts m n h k)
same_asm limit texts (Err (fault.Line m)) (Err (fault.TooLong n)) h k = absurd (not_both limit texts m n h k)
same_asm limit texts (Err (fault.Line m)) (Err fault.NoMemory) h k = absurd k
same_asm limit texts (Err (fault.TooLong m)) (Ok y) h k = absurd (not_long limit texts y m k h)
same_asm limit texts (Err (fault.TooLong m)) (Err (fault.Line n)) h k = absurd (not_both limit texts n m k h)
same_asm limit texts (Err (fault.TooLong m)) (Err (fault.TooLong n)) h k = ap (λ (i : ℕ). Err (fault.TooLong i)) (one_long limit texts m n h k)
same_asm limit texts (Err (fault.TooLong m)) (Err fault.NoMemory) h k = absurd k
same_asm limit texts (Err fault.NoMemory) b h k = absurd h

same_follows : (prefix : List ℕ) (others : List (List ℕ)) (a b : Result (List ℕ) AsmFault) → IsOutcomeAfter prefix others a → IsOutcomeAfter prefix others b → a ≡ b
same_follows prefix others a b h k = h.outcome_is ∙ ap (after_one_line prefix) (same_asm (asm_limit - length prefix) others h.rest k.rest h.lines k.lines) ∙ sym k.outcome_is

same_headed : (texts : List (List ℕ)) (a b : Result (List ℕ) AsmFault) → IsHeaded texts a → IsHeaded texts b → a ≡ b
same_headed texts a b h k =
    let parts : bit_text h.header ∷ h.others ≡ bit_text k.header ∷ k.others = sym h.texts ∙ k.texts in
    let text : bit_text h.header ≡ bit_text k.header = cc in
    let others : h.others ≡ k.others = cc in
    let header : h.header ≡ k.header = one_header h.header k.header h.fits k.fits text in
    same_follows (header_bytes k.header) k.others a b (subst (λ (o : List (List ℕ)). IsOutcomeAfter (header_bytes k.header) o a) others (subst (λ x. IsOutcomeAfter (header_bytes x) h.others a) header h.follows)) k.follows

not_headed : (texts : List (List ℕ)) (a : Result (List ℕ) AsmFault) → IsHeaded texts a → HasNoHeaderLine texts → ⊥
not_headed texts a h k = k h.header h.others h.fits h.texts

-- a text has one outcome
pub one_outcome : (text : List ℕ) (a b : Result (List ℕ) AsmFault) → IsAsm text a → IsAsm text b → a ≡ b
one_outcome text a b (inl h) (inl k) = same_headed (split text) a b h k
one_outcome text a b (inl h) (inr k) = absurd (not_headed (split text) a h k.0)
one_outcome text a b (inr h) (inl k) = absurd (not_headed (split text) b k h.0)
one_outcome text a b (inr h) (inr k) = same_asm asm_limit (split text) a b h.1 k.1

-- the outcome of the listing of a stream of at most `asm_limit` bytes is the stream, but for want of memory
pub stream_outcome : {X : Type 0} (items : X → List ℕ) (text : List ℕ) (r : Result X AsmFault) → MatchResult r (λ x. IsAsm text (Ok (items x))) (λ f. (f ≡ fault.NoMemory) ⊎ IsAsm text (Err f))
    → (b : List ℕ) → AreBytes b → length b ≤ asm_limit → stream_listing b ≡ Ok text → MatchResult r (λ x. items x ≡ b) (λ f. f ≡ fault.NoMemory)
stream_outcome items text (Ok x) o b a h e = let same : Ok (items x) ≡ Ok b = one_outcome text (Ok (items x)) (Ok b) o (stream_back b text a h e) in cc
stream_outcome items text (Err f) (inl is) b a h e = is
stream_outcome items text (Err f) (inr is) b a h e = let other : Ok b ≡ Err f = one_outcome text (Ok b) (Err f) (stream_back b text a h e) is in absurd cc
