-- The data of a stream, whose header is judged on its first bytes.
use Rattle.std.proofs.Common.{◌≡◌, ℕ, ◌≤◌, ◌<◌, List, [], ◌∷◌, ◌++◌, length, length-append, drop, Bool, true, false, Result, Ok, Err, refl, ap, subst, sym, ◌∙◌, append_assoc, append-nil, arith, inl, inr, ◌⊎◌}
use Rattle.std.specs.Prelude.{nat_eq}
use Rattle.std.specs.Cmp.Lexicographic.{pointwise}
use Rattle.std.specs.List.{starts_with}
use Rattle.std.proofs.lemmas.Bool.Decides.{Decides-eqb}
use Rattle.std.proofs.lemmas.List.{drop-append-le, take-append-le}
use Rattle.std.proofs.lemmas.Slice.Eq.{starts_is}
use Rattle.x7_words.specs.Word.{AreBytes}
use Rattle.x7_words.proofs.ListLemmas.{all_append}
use Rattle.x7_header.specs.Header.{HeaderContents, EndsInHeader, fixed_bytes, header_bytes, longest_header}
use Rattle.x7_header.specs.Reading.{ReturnsAs, header_at}
use Rattle.x7_header.specs.declared.fault.HeaderFault.{HeaderFault}
use Rattle.x7_header.specs.declared.fault.HeaderFault.TheVariants as header
use Rattle.x7_header.proofs.CutLemmas.{is_cut, other_more}
use Rattle.x7_header.proofs.HeaderLemmas.{field_at_place, header_again, header_refused, header_takes, is_short, raw_at}
use Rattle.x7_forms.specs.Event.{Event}
use Rattle.x7_forms.specs.Known.{and_so, data_by, data_in}

-- a header that was read, whatever follows
read_more : (bytes more : List ℕ) (x : HeaderContents × ℕ) → AreBytes bytes → header_at bytes ≡ Ok x → (header_at (bytes ++ more) ≡ Ok x) × (drop x.1 (bytes ++ more) ≡ drop x.1 bytes ++ more)
read_more bytes more x fits e =
    let p = header_takes bytes x fits e in
    let after = drop x.1 bytes in
    let whole : bytes ++ more ≡ header_bytes x.0 ++ (after ++ more) = ap (λ b. b ++ more) p.prefix ∙ append_assoc (header_bytes x.0) after more in
    let again : header_at (bytes ++ more) ≡ Ok (x.0, length (header_bytes x.0)) = ap header_at whole ∙ header_again x.0 (after ++ more) p.fit_header in
    let size : x.1 ≤ length bytes = omega (arith, p.size, ap length p.prefix, length-append (header_bytes x.0) after) in
    (again ∙ ap (λ n. Ok (x.0, n)) (sym p.size), drop-append-le x.1 bytes more size)

raw_is : (bytes : List ℕ) → starts_with nat_eq bytes fixed_bytes ≡ false → header_at bytes ≡ Err header.Raw
unfolding header_at
raw_is bytes s = rw s refl

-- bytes that are long enough and do not begin with a header, whatever follows
no_header_stays : (xs ys p : List ℕ) → length p ≤ length xs → starts_with nat_eq xs p ≡ false → starts_with nat_eq (xs ++ ys) p ≡ false
no_header_stays xs ys p long h = ap (λ t. pointwise nat_eq p t) (take-append-le (length p) xs ys long) ∙ h

-- no header, whatever follows thirteen bytes
raw_more : (bytes more : List ℕ) → 13 ≤ length bytes → header_at bytes ≡ Err header.Raw → header_at (bytes ++ more) ≡ Err header.Raw
raw_more bytes more long e = by (starts_with nat_eq bytes fixed_bytes) refl
  where
    by : (b : Bool) → starts_with nat_eq bytes fixed_bytes ≡ b → header_at (bytes ++ more) ≡ Err header.Raw
    by true s =
        let there = (starts_is Decides-eqb bytes fixed_bytes (starts_with nat_eq bytes fixed_bytes) refl).0 s in
        absurd ((raw_at bytes true s).0 e (drop 13 bytes) there)
    by false s = raw_is (bytes ++ more) (no_header_stays bytes more fixed_bytes long s)

field_more : (bytes more : List ℕ) (place : ℕ) → AreBytes bytes → header_at bytes ≡ Err (header.Field place) → header_at (bytes ++ more) ≡ Err (header.Field place)
field_more bytes more place fits e = header_refused (bytes ++ more) place (other_more bytes more place (field_at_place bytes place (starts_with nat_eq bytes fixed_bytes) fits refl e))

pub gives_self : {X : Type 0} (r : Result X HeaderFault) → ReturnsAs (λ x. x) r r
gives_self (Ok x) = refl
gives_self (Err e) = refl

-- a header that is cut has fewer bytes than the longest
cut_short : (bytes : List ℕ) (place : ℕ) → AreBytes bytes → header_at bytes ≡ Err (header.Cut place) → length bytes < longest_header
cut_short bytes place fits e =
    let ends : EndsInHeader bytes = ((is_cut (λ (x : HeaderContents × ℕ). x) (header_at bytes) bytes fits (gives_self (header_at bytes)) place).0 e).1 in
    let whole : header_bytes ends.header ++ [] ≡ bytes ++ ends.next ∷ ends.missing = append-nil (header_bytes ends.header) ∙ ends.goes_on in
    let all : AreBytes (header_bytes ends.header ++ []) = subst (λ b. AreBytes b) (sym whole) (all_append (λ b. b < 256) bytes (ends.next ∷ ends.missing) fits ends.missing_are) in
    let again : ReturnsAs (λ (x : HeaderContents × ℕ). x) (Ok (ends.header, length (header_bytes ends.header))) (header_at (header_bytes ends.header ++ [])) = header_again ends.header [] ends.fit_header in
    let few = is_short (λ (x : HeaderContents × ℕ). x) (Ok (ends.header, length (header_bytes ends.header))) (header_bytes ends.header ++ []) all again in
    omega (arith, few, ap length ends.goes_on, length-append bytes (ends.next ∷ ends.missing))

with_none : (r : Result (List ℕ) Event) → r ≡ and_so r (λ after. Ok (after ++ []))
with_none (Ok after) = ap Ok (sym (append-nil after))
with_none (Err event) = refl

data_long : (name bytes more : List ℕ) → AreBytes bytes → longest_header ≤ length bytes → (r : Result (HeaderContents × ℕ) HeaderFault) → header_at bytes ≡ r → data_in name (bytes ++ more) ≡ and_so (data_by name bytes r) (λ after. Ok (after ++ more))
data_long name bytes more fits long (Ok x) e =
    let m = read_more bytes more x fits e in
    ap (data_by name (bytes ++ more)) m.0 ∙ ap Ok m.1
data_long name bytes more fits long (Err header.Raw) e = ap (data_by name (bytes ++ more)) (raw_more bytes more (omega (arith, long)) e)
data_long name bytes more fits long (Err (header.Field place)) e = ap (data_by name (bytes ++ more)) (field_more bytes more place fits e)
data_long name bytes more fits long (Err (header.Cut place)) e = absurd (omega (arith, long, cut_short bytes place fits e))

-- the data of a stream by its first bytes, which are all of it or as many as the longest header has
pub data_more : (name bytes more : List ℕ) → AreBytes bytes → (more ≡ []) ⊎ (longest_header ≤ length bytes) → data_in name (bytes ++ more) ≡ and_so (data_in name bytes) (λ after. Ok (after ++ more))
data_more name bytes more fits (inr long) = data_long name bytes more fits long (header_at bytes) refl
data_more name bytes more fits (inl none) =
    ap (λ m. data_in name (bytes ++ m)) none ∙ ap (data_in name) (append-nil bytes) ∙ with_none (data_in name bytes) ∙ ap (λ m. and_so (data_in name bytes) (λ after. Ok (after ++ m))) (sym none)
