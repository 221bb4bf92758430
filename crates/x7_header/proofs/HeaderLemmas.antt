-- The two laws of headers: what is read is written so, and what is written is read again.
use Rattle.std.proofs.Common.{◌≡◌, ◌≤◌, ℕ, ◌+◌, ◌-◌, ◌*◌, ◌/◌, ◌%◌, ◌^◌, ◌<◌, Bool, true, false, cond, List, [], ◌∷◌, ◌++◌, length, take, drop, Result, Ok, Err, nat_le, nat_eq, refl, sym, ap, subst, ◌∙◌, append_assoc, arith, inl, inr, ◌⊎◌, ne_eqb, length-append, take-append-drop}
use Rattle.std.specs.Prelude.{◌≢◌, ◌↔◌, IfOk, IsOkAnd, IsErrOf}
use Rattle.std.proofs.lemmas.Bool.{false≢true, eqb-true, leb-true, le-leb}
use Rattle.std.proofs.lemmas.List.{take_at, drop_at, length-take-le}
use Rattle.std.proofs.lemmas.Bool.Decides.{Decides-eqb}
use Rattle.std.proofs.lemmas.Slice.Eq.{starts_is}
use Rattle.std.specs.List.{AllByRecursion, AllZip, starts_with, each_same}
use Rattle.x7_words.specs.Word.{AreBytes, bytes_of_word, word_of_bytes}
use Rattle.x7_words.proofs.ListLemmas.{all_prefix, all_back}
use Rattle.x7_words.proofs.WordLemmas.{bytes_words, words_fit}
use Rattle.x7_words.proofs.WordLemmas.{word_whole}
use Rattle.x7_header.specs.Header.{fixed_bytes, FieldKind, Field, header_fields, FitsFieldKind, FitFields, HasOtherLetter, HasOtherLetterAt, bytes_of_count, field_bytes, fields_bytes, HeaderContents, contents_in_order, FitHeaderFields, header_bytes}
use Rattle.x7_header.specs.Reading.{◌>>=◌, after_letter, first_bytes, content_at, field_at, fields_at, contents_from, after_fixed_bytes, header_fields_at, header_at, ReturnsAs}
use Rattle.x7_header.specs.declared.fault.HeaderFault.{HeaderFault}
use Rattle.x7_header.specs.declared.fault.HeaderFault.TheVariants as fault

-- the value of a step that did not fail
pub bind_ok : {A B : Type 0} (r : Result A HeaderFault) (f : A → Result B HeaderFault) (y : B) → (r >>= f) ≡ Ok y → (x : A) × (r ≡ Ok x) × (f x ≡ Ok y)
bind_ok (Ok x) f y e = (x, refl, e)
bind_ok (Err d) f y e = absurd cc

-- a test that did not fail
test_ok : {A : Type 0} (b : Bool) (d : HeaderFault) (x y : A) → cond b (Ok x) (Err d) ≡ Ok y → (b ≡ true) × (x ≡ y)
test_ok true d x y e = (refl, cc)
test_ok false d x y e = absurd cc

-- ---- what is written is read again

-- a letter that is there
letter_again : (total letter : ℕ) (bytes : List ℕ) → after_letter total letter (letter ∷ bytes) ≡ Ok bytes
letter_again total letter bytes =
    let same : nat_eq letter letter ≡ true = grind arith in rw same refl

bytes_again : (total count : ℕ) (content rest : List ℕ) → length content ≡ count → first_bytes total count (content ++ rest) ≡ Ok (content, rest)
bytes_again total count content rest e =
    let fits : nat_le count (length (content ++ rest)) ≡ true = le-leb _ _ (omega (arith, e, length-append content rest)) in
    rw (fits, take_at content rest count e, drop_at content rest count e) refl

content_again : (total : ℕ) (kind : FieldKind) (content rest : List ℕ) → FitsFieldKind kind content → content_at total kind (bytes_of_count kind content ++ (content ++ rest)) ≡ Ok (content, rest)
content_again total FieldKind.Counted content rest h =
    bytes_again total (length content / 256 * 256 + length content % 256) content rest (omega arith)
content_again total FieldKind.Four content rest h = bytes_again total 4 content rest h

pub field_again : (total : ℕ) (field : Field) (content rest : List ℕ) → FitsFieldKind field.kind content → field_at total field (field_bytes field content ++ rest) ≡ Ok (content, rest)
unfolding field_at
field_again total field content rest h =
    rw (append_assoc (bytes_of_count field.kind content) content rest, letter_again total field.letter (bytes_of_count field.kind content ++ (content ++ rest))) (content_again total field.kind content rest h)

pub fields_again : (total : ℕ) (fields : List Field) (contents : List (List ℕ)) (rest : List ℕ) → FitFields fields contents → fields_at total fields (fields_bytes fields contents ++ rest) ≡ Ok (contents, rest)
unfolding fields_at
fields_again total [] [] rest h = refl
fields_again total [] (content ∷ contents) rest h = absurd h
fields_again total (field ∷ fields) [] rest h = absurd h
fields_again total (field ∷ fields) (content ∷ contents) rest h =
    rw (append_assoc (field_bytes field content) (fields_bytes fields contents) rest, field_again total field content (fields_bytes fields contents ++ rest) h.0, fields_again total fields contents rest h.1) refl

-- a header that stands at the beginning is read, with its size
pub header_again : (x : HeaderContents) (rest : List ℕ) → FitHeaderFields x → header_at (header_bytes x ++ rest) ≡ Ok (x, length (header_bytes x))
unfolding header_at header_fields_at
header_again x rest h =
    let size : length (header_bytes x ++ rest) - length rest ≡ length (header_bytes x) = omega (arith, length-append (header_bytes x) rest) in
    rw (fields_again (length (header_bytes x ++ rest)) header_fields (contents_in_order x) rest (h.a, (h.b, (h.c, (h.d, (refl, tt))))), size, word_whole x.data_length h.data_length) refl

abbrev pub done : {A : Type 0} → A → Result A HeaderFault
done x = Ok x

abbrev pub failed : (A : Type 0) → HeaderFault → Result A HeaderFault
failed A d = Err d

ok_is : {A : Type 0} (x y : A) → done x ≡ done y → x ≡ y
ok_is x y e = cc

pub err_is : (A : Type 0) (d e : HeaderFault) → failed A d ≡ failed A e → d ≡ e
err_is A d e p = cc

pub ok_not_err : {A : Type 0} (x : A) (d : HeaderFault) → done x ≡ Err d → ⊥
ok_not_err x d e = cc

-- no two heads have the same bytes, whatever follows them
pub header_tells : (x y : HeaderContents) (more rest : List ℕ) → FitHeaderFields x → FitHeaderFields y → header_bytes x ++ more ≡ header_bytes y ++ rest → x ≡ y
header_tells x y more rest p q e =
    ap (λ (r : HeaderContents × ℕ). r.0) (ok_is (x, length (header_bytes x)) (y, length (header_bytes y)) (sym (header_again x more p) ∙ ap header_at e ∙ header_again y rest q))

pub header_same : (x y : HeaderContents) → FitHeaderFields x → FitHeaderFields y → header_bytes x ≡ header_bytes y → x ≡ y
header_same x y p q e = header_tells x y [] [] p q (ap (λ (r : List ℕ). r ++ []) e)

-- ---- what is read is written so

pub letter_takes : (total letter : ℕ) (bytes rest : List ℕ) → after_letter total letter bytes ≡ Ok rest → bytes ≡ letter ∷ rest
letter_takes total letter [] rest e = absurd cc
letter_takes total letter (first ∷ bytes) rest e =
    let t = test_ok (nat_eq first letter) (fault.Field (total - length (first ∷ bytes))) bytes rest e in
    rw (eqb-true _ _ t.0, t.1) refl

bytes_take : (total count : ℕ) (bytes : List ℕ) (x : List ℕ × List ℕ) → first_bytes total count bytes ≡ Ok x → (bytes ≡ x.0 ++ x.1) × (length x.0 ≡ count)
bytes_take total count bytes x e =
    let t = test_ok (nat_le count (length bytes)) (fault.Cut total) (take count bytes, drop count bytes) x e in
    subst (λ (y : List ℕ × List ℕ). (bytes ≡ y.0 ++ y.1) × (length y.0 ≡ count)) t.1 (sym (take-append-drop count bytes), length-take-le count bytes (leb-true _ _ t.0))

-- what a field held, and what follows it
record Takes (kind : FieldKind) (bytes : List ℕ) (x : List ℕ × List ℕ) : Type 0 where
  pub parts : bytes ≡ bytes_of_count kind x.0 ++ (x.0 ++ x.1)
  pub holds : FitsFieldKind kind x.0

pub count_again : (high low count : ℕ) → high < 256 → low < 256 → count ≡ high * 256 + low → (high ≡ count / 256) × (low ≡ count % 256) × (count < 2 ^ 16)
count_again high low count h l e = (omega arith, omega arith, omega arith)

pub two_and : (a b c d : ℕ) (xs ys : List ℕ) → a ≡ c → b ≡ d → xs ≡ ys → a ∷ b ∷ xs ≡ c ∷ d ∷ ys
two_and a b c d xs ys p q r = rw (p, q, r) refl

content_takes : (total : ℕ) (kind : FieldKind) (bytes : List ℕ) (x : List ℕ × List ℕ) → AreBytes bytes → content_at total kind bytes ≡ Ok x → Takes kind bytes x
content_takes total FieldKind.Four bytes x f e =
    let t = bytes_take total 4 bytes x e in record { parts = t.0; holds = t.1 }
content_takes total FieldKind.Counted [] x f e = absurd cc
content_takes total FieldKind.Counted (high ∷ []) x f e = absurd cc
content_takes total FieldKind.Counted (high ∷ low ∷ bytes) x f e =
    let t = bytes_take total (high * 256 + low) bytes x e in
    let n = count_again high low (length x.0) f.0 f.1.0 t.1 in
    record { parts = two_and high low _ _ bytes (x.0 ++ x.1) n.0 n.1 t.0; holds = n.2 }

pub field_takes : (total : ℕ) (field : Field) (bytes : List ℕ) (x : List ℕ × List ℕ) → AreBytes bytes → field_at total field bytes ≡ Ok x → (bytes ≡ field_bytes field x.0 ++ x.1) × FitsFieldKind field.kind x.0
unfolding field_at
field_takes total field bytes x f e =
    let a = bind_ok (after_letter total field.letter bytes) (content_at total field.kind) x e in
    let l = letter_takes total field.letter bytes a.0 a.1 in
    let fits : AreBytes (field.letter ∷ a.0) = subst AreBytes l f in
    let t = content_takes total field.kind a.0 x fits.1 a.2 in
    (l ∙ ap (λ (r : List ℕ). field.letter ∷ r) (t.parts ∙ sym (append_assoc (bytes_of_count field.kind x.0) x.0 x.1)), t.holds)

-- what the fields held, and what follows them
record Take (fields : List Field) (bytes : List ℕ) (x : List (List ℕ) × List ℕ) : Type 0 where
  pub parts : bytes ≡ fields_bytes fields x.0 ++ x.1
  pub hold : FitFields fields x.0
  pub fit : AllByRecursion AreBytes x.0

fields_take : (total : ℕ) (fields : List Field) (bytes : List ℕ) (x : List (List ℕ) × List ℕ) → AreBytes bytes → fields_at total fields bytes ≡ Ok x → Take fields bytes x
unfolding fields_at
fields_take total [] bytes x f e =
    subst (Take [] bytes) (ok_is ([], bytes) x e) (record { parts = refl; hold = tt; fit = tt })
fields_take total (field ∷ fields) bytes x f e =
    let a = bind_ok (field_at total field bytes) (λ first. fields_at total fields first.1 >>= λ others. Ok (first.0 ∷ others.0, others.1)) x e in
    let b = bind_ok (fields_at total fields a.0.1) (λ others. Ok (a.0.0 ∷ others.0, others.1)) x a.2 in
    let first = field_takes total field bytes a.0 f a.1 in
    let fits : AreBytes (field_bytes field a.0.0 ++ a.0.1) = subst AreBytes first.0 f in
    let content : AreBytes (a.0.0 ++ a.0.1) = all_back (λ c. c < 256) (bytes_of_count field.kind a.0.0) (a.0.0 ++ a.0.1) (subst AreBytes (append_assoc (bytes_of_count field.kind a.0.0) a.0.0 a.0.1) fits.1) in
    let others = fields_take total fields a.0.1 b.0 (all_back (λ c. c < 256) a.0.0 a.0.1 content) b.1 in
    let made : List (List ℕ) × List ℕ = (a.0.0 ∷ b.0.0, b.0.1) in
    subst (Take (field ∷ fields) bytes) (ok_is made x b.2) (record {
      parts = first.0 ∙ ap (λ (r : List ℕ). field_bytes field a.0.0 ++ r) others.parts ∙ sym (append_assoc (field_bytes field a.0.0) (fields_bytes fields b.0.0) b.0.1);
      hold = (first.1, others.hold);
      fit = (all_prefix (λ c. c < 256) a.0.0 a.0.1 content, others.fit);
    })

-- the word of four bytes has these bytes
four_again : (e : List ℕ) → AreBytes e → length e ≡ 4 → (bytes_of_word (word_of_bytes e) ≡ e) × (word_of_bytes e < 2 ^ 32)
four_again [] f l = absurd (omega (arith, l))
four_again (a ∷ []) f l = absurd (omega (arith, l))
four_again (a ∷ b ∷ []) f l = absurd (omega (arith, l))
four_again (a ∷ b ∷ c ∷ []) f l = absurd (omega (arith, l))
four_again (a ∷ b ∷ c ∷ d ∷ x ∷ more) f l = absurd (omega (arith, l))
four_again (a ∷ b ∷ c ∷ d ∷ []) f l = (bytes_words (a ∷ b ∷ c ∷ d ∷ []) 1 f refl, (words_fit (a ∷ b ∷ c ∷ d ∷ []) f).0)

-- fields that hold what those of a header can are those of a head
pub record FromHead (contents : List (List ℕ)) : Type 0 where
  pub listed_again : contents_in_order (contents_from contents) ≡ contents
  pub fit_header : FitHeaderFields (contents_from contents)

pub from_header_fields : (contents : List (List ℕ)) → FitFields header_fields contents → AllByRecursion AreBytes contents → FromHead contents
from_header_fields [] h f = absurd h
from_header_fields (a ∷ []) h f = absurd h.1
from_header_fields (a ∷ b ∷ []) h f = absurd h.1.1
from_header_fields (a ∷ b ∷ c ∷ []) h f = absurd h.1.1.1
from_header_fields (a ∷ b ∷ c ∷ d ∷ []) h f = absurd h.1.1.1.1
from_header_fields (a ∷ b ∷ c ∷ d ∷ e ∷ x ∷ more) h f = absurd h.1.1.1.1.1
from_header_fields (a ∷ b ∷ c ∷ d ∷ e ∷ []) h f =
    let w = four_again e f.1.1.1.1.0 h.1.1.1.1.0 in
    record {
      listed_again = ap (λ (r : List ℕ). a ∷ b ∷ c ∷ d ∷ r ∷ []) w.0;
      fit_header = record { a = h.0; b = h.1.0; c = h.1.1.0; d = h.1.1.1.0; data_length = w.1 };
    }

-- what was read stands at the beginning, with its size
pub record IsPrefix (bytes : List ℕ) (x : HeaderContents × ℕ) : Type 0 where
  pub fit_header : FitHeaderFields x.0
  pub prefix : bytes ≡ header_bytes x.0 ++ drop x.1 bytes
  pub size : x.1 ≡ length (header_bytes x.0)

prefix_of : (bytes header rest : List ℕ) → bytes ≡ header ++ rest → (length bytes - length rest ≡ length header) × (bytes ≡ header ++ drop (length bytes - length rest) bytes)
prefix_of bytes header rest e =
    let n : length bytes - length rest ≡ length header = omega (arith, ap length e, length-append header rest) in
    (n, e ∙ ap (λ (r : List ℕ). header ++ r) (sym (rw (n, e) (drop_at header rest (length header) refl))))

fixed_takes : (bytes rest : List ℕ) → after_fixed_bytes bytes ≡ Ok rest → bytes ≡ fixed_bytes ++ rest
fixed_takes bytes rest e =
    let t = test_ok (starts_with nat_eq bytes fixed_bytes) fault.Raw (drop 13 bytes) rest e in
    (starts_is Decides-eqb bytes fixed_bytes (starts_with nat_eq bytes fixed_bytes) refl).0 t.0 ∙ ap (λ (r : List ℕ). fixed_bytes ++ r) t.1

pub header_takes : (bytes : List ℕ) (x : HeaderContents × ℕ) → AreBytes bytes → header_at bytes ≡ Ok x → IsPrefix bytes x
unfolding header_at header_fields_at
header_takes bytes x f e =
    let a = bind_ok (after_fixed_bytes bytes) (header_fields_at (length bytes)) x e in
    let p = fixed_takes bytes a.0 a.1 in
    let b = bind_ok (fields_at (length bytes) header_fields a.0) (λ read. Ok (contents_from read.0, length bytes - length read.1)) x a.2 in
    let t = fields_take (length bytes) header_fields a.0 b.0 (all_back (λ c. c < 256) fixed_bytes a.0 (subst AreBytes p f)) b.1 in
    let h = from_header_fields b.0.0 t.hold t.fit in
    let whole : bytes ≡ header_bytes (contents_from b.0.0) ++ b.0.1 = p ∙ ap (λ (r : List ℕ). fixed_bytes ++ r) (t.parts ∙ ap (λ (c : List (List ℕ)). fields_bytes header_fields c ++ b.0.1) (sym h.listed_again)) in
    let n = prefix_of bytes (header_bytes (contents_from b.0.0)) b.0.1 whole in
    let made : HeaderContents × ℕ = (contents_from b.0.0, length bytes - length b.0.1) in
    subst (IsPrefix bytes) (ok_is made x b.2) (record { fit_header = h.fit_header; prefix = n.1; size = n.0 })

-- ---- the clauses of what reads a header

pub is_found : {X : Type 0} (view : X → HeaderContents × ℕ) (result : Result X HeaderFault) (bytes : List ℕ) → AreBytes bytes → ReturnsAs view result (header_at bytes) →
    IfOk result (λ x. FitHeaderFields (view x).0 × (bytes ≡ header_bytes (view x).0 ++ drop (view x).1 bytes) × ((view x).1 ≡ length (header_bytes (view x).0)))
is_found view (Ok x) bytes f g = let t = header_takes bytes (view x) f g in (t.fit_header, t.prefix, t.size)
is_found view (Err e) bytes f g = tt

header_size : (x : HeaderContents) → length (header_bytes x) ≡ 13 + (3 + length x.a + (3 + length x.b + (3 + length x.c + (3 + length x.d + 5))))
header_size x =
    let d = length-append x.d (0x65 ∷ (bytes_of_word x.data_length ++ [])) in
    let c = length-append x.c (0x64 ∷ (length x.d / 256 ∷ length x.d % 256 ∷ (x.d ++ (0x65 ∷ (bytes_of_word x.data_length ++ []))))) in
    let b = length-append x.b (0x63 ∷ (length x.c / 256 ∷ length x.c % 256 ∷ (x.c ++ (0x64 ∷ (length x.d / 256 ∷ length x.d % 256 ∷ (x.d ++ (0x65 ∷ (bytes_of_word x.data_length ++ [])))))))) in
    let a = length-append x.a (0x62 ∷ (length x.b / 256 ∷ length x.b % 256 ∷ (x.b ++ (0x63 ∷ (length x.c / 256 ∷ length x.c % 256 ∷ (x.c ++ (0x64 ∷ (length x.d / 256 ∷ length x.d % 256 ∷ (x.d ++ (0x65 ∷ (bytes_of_word x.data_length ++ []))))))))))) in
    omega (arith, a, b, c, d)

pub is_short : {X : Type 0} (view : X → HeaderContents × ℕ) (result : Result X HeaderFault) (bytes : List ℕ) → AreBytes bytes → ReturnsAs view result (header_at bytes) →
    IfOk result (λ x. (view x).1 ≤ 262170)
is_short view (Ok x) bytes f g =
    let t = header_takes bytes (view x) f g in
    let h = t.fit_header in
    let a = h.a in let b = h.b in let c = h.c in let d = h.d in let n = t.size in
    omega (arith, a, b, c, d, n, header_size (view x).0)
is_short view (Err e) bytes f g = tt

pub is_only : {X : Type 0} (view : X → HeaderContents × ℕ) (result : Result X HeaderFault) (bytes : List ℕ) → ReturnsAs view result (header_at bytes) →
    (x : HeaderContents) (rest : List ℕ) → FitHeaderFields x → bytes ≡ header_bytes x ++ rest → IsOkAnd result (λ head. (view head).0 ≡ x)
is_only view (Ok y) bytes g x rest h e =
    ap (λ (r : HeaderContents × ℕ). r.0) (ok_is (view y) (x, length (header_bytes x)) (sym g ∙ ap header_at e ∙ header_again x rest h))
is_only view (Err d) bytes g x rest h e =
    let again : header_at bytes ≡ Ok (x, length (header_bytes x)) = ap header_at e ∙ header_again x rest h in
    absurd (ok_not_err (x, length (header_bytes x)) d (sym again ∙ g))

-- what a fault after the fixed bytes can be
abbrev pub IsInside : ℕ → HeaderFault → Type 0
IsInside total fault.Raw = ⊥
IsInside total (fault.Cut place) = place ≡ total
IsInside total (fault.Field place) = Unit {0}

abbrev FaultInside : {A : Type 0} → ℕ → Result A HeaderFault → Type 0
FaultInside total (Ok x) = Unit {0}
FaultInside total (Err d) = IsInside total d

bind_inside : {A B : Type 0} (total : ℕ) (r : Result A HeaderFault) (f : A → Result B HeaderFault) → FaultInside total r → ((x : A) → FaultInside total (f x)) → FaultInside total (r >>= f)
bind_inside total (Ok x) f i j = j x
bind_inside total (Err d) f i j = i

cond_inside : {A : Type 0} (total : ℕ) (b : Bool) (x : A) (d : HeaderFault) → IsInside total d → FaultInside total (cond b (Ok x) (Err d))
cond_inside total true x d i = tt
cond_inside total false x d i = i

letter_inside : (total letter : ℕ) (bytes : List ℕ) → FaultInside total (after_letter total letter bytes)
letter_inside total letter [] = refl
letter_inside total letter (first ∷ bytes) = cond_inside total (nat_eq first letter) bytes (fault.Field (total - length (first ∷ bytes))) tt

bytes_inside : (total count : ℕ) (bytes : List ℕ) → FaultInside total (first_bytes total count bytes)
bytes_inside total count bytes = cond_inside total (nat_le count (length bytes)) (take count bytes, drop count bytes) (fault.Cut total) refl

content_inside : (total : ℕ) (kind : FieldKind) (bytes : List ℕ) → FaultInside total (content_at total kind bytes)
content_inside total FieldKind.Four bytes = bytes_inside total 4 bytes
content_inside total FieldKind.Counted [] = refl
content_inside total FieldKind.Counted (high ∷ []) = refl
content_inside total FieldKind.Counted (high ∷ low ∷ bytes) = bytes_inside total (high * 256 + low) bytes

field_inside : (total : ℕ) (field : Field) (bytes : List ℕ) → FaultInside total (field_at total field bytes)
unfolding field_at
field_inside total field bytes = bind_inside total (after_letter total field.letter bytes) (content_at total field.kind) (letter_inside total field.letter bytes) (content_inside total field.kind)

fields_inside : (total : ℕ) (fields : List Field) (bytes : List ℕ) → FaultInside total (fields_at total fields bytes)
unfolding fields_at
fields_inside total [] bytes = tt
fields_inside total (field ∷ fields) bytes =
    bind_inside total (field_at total field bytes) (λ first. fields_at total fields first.1 >>= λ others. Ok (first.0 ∷ others.0, others.1)) (field_inside total field bytes)
    (λ first. bind_inside total (fields_at total fields first.1) (λ others. Ok (first.0 ∷ others.0, others.1)) (fields_inside total fields first.1) (λ others. tt))

header_fields_inside : (total : ℕ) (bytes : List ℕ) → FaultInside total (header_fields_at total bytes)
unfolding header_fields_at
header_fields_inside total bytes = bind_inside total (fields_at total header_fields bytes) (λ read. Ok (contents_from read.0, total - length read.1)) (fields_inside total header_fields bytes) (λ read. tt)

inside_not : {A : Type 0} (total : ℕ) (r : Result A HeaderFault) → FaultInside total r → r ≡ Err fault.Raw → ⊥
inside_not total (Ok x) i e = ok_not_err x fault.Raw e
inside_not total (Err d) i e = subst (FaultInside total) e i

-- Raw comes exactly where the fixed bytes aren't at the beginning
pub raw_at : (bytes : List ℕ) (b : Bool) → starts_with nat_eq bytes fixed_bytes ≡ b → (header_at bytes ≡ Err fault.Raw) ↔ ((rest : List ℕ) → bytes ≢ fixed_bytes ++ rest)
unfolding header_at
raw_at bytes true s =
    let at : header_at bytes ≡ header_fields_at (length bytes) (drop 13 bytes) = rw s refl in
    let there = (starts_is Decides-eqb bytes fixed_bytes (starts_with nat_eq bytes fixed_bytes) refl).0 s in (
      λ e. absurd (inside_not (length bytes) (header_fields_at (length bytes) (drop 13 bytes)) (header_fields_inside (length bytes) (drop 13 bytes)) (sym at ∙ e)),
      λ n. absurd (n (drop 13 bytes) there),
    )
raw_at bytes false s =
    let at : header_at bytes ≡ Err fault.Raw = rw s refl in (
      λ e rest t. absurd (false≢true (sym s ∙ (starts_is Decides-eqb bytes fixed_bytes (starts_with nat_eq bytes fixed_bytes) refl).1 rest t)),
      λ n. at,
    )

pub is_raw : {X : Type 0} (view : X → HeaderContents × ℕ) (result : Result X HeaderFault) (bytes : List ℕ) → ReturnsAs view result (header_at bytes) → IsErrOf result fault.Raw ↔ ((rest : List ℕ) → bytes ≢ fixed_bytes ++ rest)
is_raw {X = X} view (Ok x) bytes g =
    let r = raw_at bytes (starts_with nat_eq bytes fixed_bytes) refl in
    (λ i. absurd (ok_not_err x fault.Raw i), λ n. absurd (ok_not_err (view x) fault.Raw (sym g ∙ r.1 n)))
is_raw {X = X} view (Err d) bytes g =
    let r = raw_at bytes (starts_with nat_eq bytes fixed_bytes) refl in
    (λ i. r.0 (g ∙ ap (failed (HeaderContents × ℕ)) (err_is X d fault.Raw i)), λ n. ap (failed X) (err_is (HeaderContents × ℕ) d fault.Raw (sym g ∙ r.1 n)))

pub cut_at : (bytes : List ℕ) (place : ℕ) (b : Bool) → starts_with nat_eq bytes fixed_bytes ≡ b → header_at bytes ≡ Err (fault.Cut place) → place ≡ length bytes
unfolding header_at
cut_at bytes place true s e =
    let at : header_at bytes ≡ header_fields_at (length bytes) (drop 13 bytes) = rw s refl in
    subst (FaultInside (length bytes)) (sym at ∙ e) (header_fields_inside (length bytes) (drop 13 bytes))
cut_at bytes place false s e =
    let at : header_at bytes ≡ Err fault.Raw = rw s refl in
    let same : fault.Raw ≡ fault.Cut place = err_is (HeaderContents × ℕ) fault.Raw (fault.Cut place) (sym at ∙ e) in
    absurd cc

-- ---- another byte than a letter

-- a step that failed
pub bind_err : {A B : Type 0} (r : Result A HeaderFault) (f : A → Result B HeaderFault) (d : HeaderFault) → (r >>= f) ≡ Err d → (r ≡ Err d) ⊎ ((x : A) × (r ≡ Ok x) × (f x ≡ Err d))
bind_err {A = A} {B = B} (Err c) f d e = inl (ap (failed A) (err_is B c d e))
bind_err (Ok x) f d e = inr (x, refl, e)

cut_no_field : (A : Type 0) (total place : ℕ) → failed A (fault.Cut total) ≡ Err (fault.Field place) → ⊥
cut_no_field A total place e = let same : fault.Cut total ≡ fault.Field place = err_is A (fault.Cut total) (fault.Field place) e in cc

bytes_no_field : (total count place : ℕ) (bytes : List ℕ) (b : Bool) → cond b (done {A = List ℕ × List ℕ} (take count bytes, drop count bytes)) (Err (fault.Cut total)) ≡ Err (fault.Field place) → ⊥
bytes_no_field total count place bytes true e = ok_not_err (take count bytes, drop count bytes) (fault.Field place) e
bytes_no_field total count place bytes false e = cut_no_field (List ℕ × List ℕ) total place e

content_no_field : (total place : ℕ) (kind : FieldKind) (bytes : List ℕ) → content_at total kind bytes ≡ Err (fault.Field place) → ⊥
content_no_field total place FieldKind.Four bytes e = bytes_no_field total 4 place bytes (nat_le 4 (length bytes)) e
content_no_field total place FieldKind.Counted [] e = cut_no_field (List ℕ × List ℕ) total place e
content_no_field total place FieldKind.Counted (high ∷ []) e = cut_no_field (List ℕ × List ℕ) total place e
content_no_field total place FieldKind.Counted (high ∷ low ∷ bytes) e = bytes_no_field total (high * 256 + low) place bytes (nat_le (high * 256 + low) (length bytes)) e

field_is : (m n : ℕ) → failed (List ℕ) (fault.Field m) ≡ Err (fault.Field n) → m ≡ n
field_is m n e = let same : fault.Field m ≡ fault.Field n = err_is (List ℕ) (fault.Field m) (fault.Field n) e in cc

letter_by : (total letter place first : ℕ) (bytes : List ℕ) (b : Bool) → nat_eq first letter ≡ b → cond b (done bytes) (Err (fault.Field (total - length (first ∷ bytes)))) ≡ Err (fault.Field place) →
    (first ≢ letter) × (place ≡ total - length (first ∷ bytes))
letter_by total letter place first bytes true t e = absurd (ok_not_err bytes (fault.Field place) e)
letter_by total letter place first bytes false t e =
    ((λ same. false≢true (sym t ∙ (let y : nat_eq first letter ≡ true = grind (arith, same) in y))), sym (field_is (total - length (first ∷ bytes)) place e))

other_first : (total place : ℕ) (field : Field) (fields : List Field) (bytes : List ℕ) → length bytes ≤ total → after_letter total field.letter bytes ≡ Err (fault.Field place) →
    (place ≤ total) × HasOtherLetter (field ∷ fields) bytes (total - place)
other_first total place field fields [] h e = absurd (cut_no_field (List ℕ) total place e)
other_first total place field fields (first ∷ bytes) h e =
    let t = letter_by total field.letter place first bytes (nat_eq first field.letter) refl e in
    let at = t.1 in (
      omega (arith, at),
      record { done = []; contents = []; next = field; later = fields; other = first; rest = bytes; fields_are = refl; hold = tt; bytes_are = refl; left_is = omega (arith, at, h); differs = t.0 },
    )

-- where another byte than a letter stands after some fields, so it does with a whole field before these
other_later : (field : Field) (fields : List Field) (bytes content rest : List ℕ) (left : ℕ) → bytes ≡ field_bytes field content ++ rest → FitsFieldKind field.kind content → HasOtherLetter fields rest left → HasOtherLetter (field ∷ fields) bytes left
other_later field fields bytes content rest left e h w = record {
  done = field ∷ w.done;
  contents = content ∷ w.contents;
  next = w.next;
  later = w.later;
  other = w.other;
  rest = w.rest;
  fields_are = ap (λ fs. field ∷ fs) w.fields_are;
  hold = (h, w.hold);
  bytes_are = e ∙ ap (λ r. field_bytes field content ++ r) w.bytes_are ∙ sym (append_assoc (field_bytes field content) (fields_bytes w.done w.contents) (w.other ∷ w.rest));
  left_is = w.left_is;
  differs = w.differs;
}

other_letter : (total place : ℕ) (fields : List Field) (bytes : List ℕ) → AreBytes bytes → length bytes ≤ total → fields_at total fields bytes ≡ Err (fault.Field place) →
    (place ≤ total) × HasOtherLetter fields bytes (total - place)
unfolding fields_at field_at
other_letter total place [] bytes f h e = absurd (ok_not_err ([], bytes) (fault.Field place) e)
other_letter total place (field ∷ fields) bytes f h e =
    elim (bind_err (field_at total field bytes) (λ first. fields_at total fields first.1 >>= λ others. Ok (first.0 ∷ others.0, others.1)) (fault.Field place) e) [
      | inl here ↦ elim (bind_err (after_letter total field.letter bytes) (content_at total field.kind) (fault.Field place) here) [
        | inl letter ↦ other_first total place field fields bytes h letter
        | inr after ↦ absurd (content_no_field total place field.kind after.0 after.2)
      ]
      | inr there ↦
          let t = field_takes total field bytes there.0 f there.1 in
          let fits : AreBytes (field_bytes field there.0.0 ++ there.0.1) = subst AreBytes t.0 f in
          let long = length-append (field_bytes field there.0.0) there.0.1 in
          elim (bind_err (fields_at total fields there.0.1) (λ others. Ok (there.0.0 ∷ others.0, others.1)) (fault.Field place) there.2) [
            | inl later ↦
                let w = other_letter total place fields there.0.1 (all_back (λ c. c < 256) (field_bytes field there.0.0) there.0.1 fits) (omega (arith, h, ap length t.0, long)) later in (
                  w.0,
                  other_later field fields bytes there.0.0 there.0.1 (total - place) t.0 t.1 w.1,
                )
            | inr good ↦ absurd (ok_not_err (there.0.0 ∷ good.0.0, good.0.1) (fault.Field place) good.2)
          ]
    ]

letter_refused : (total letter other : ℕ) (rest : List ℕ) → other ≢ letter → after_letter total letter (other ∷ rest) ≡ Err (fault.Field (total - length (other ∷ rest)))
letter_refused total letter other rest n = let f : nat_eq other letter ≡ false = ne_eqb other letter n in rw f refl

first_letter_refused : (total : ℕ) (next : Field) (other : ℕ) (rest : List ℕ) → other ≢ next.letter → field_at total next (other ∷ rest) ≡ Err (fault.Field (total - length (other ∷ rest)))
unfolding field_at
first_letter_refused total next other rest n = rw (letter_refused total next.letter other rest n) refl

other_refused : (total : ℕ) (before : List Field) (contents : List (List ℕ)) (next : Field) (later : List Field) (other : ℕ) (rest : List ℕ) → FitFields before contents → other ≢ next.letter →
    fields_at total (before ++ next ∷ later) (fields_bytes before contents ++ other ∷ rest) ≡ Err (fault.Field (total - length (other ∷ rest)))
unfolding fields_at
other_refused total [] [] next later other rest h n = rw (first_letter_refused total next other rest n) refl
other_refused total [] (content ∷ contents) next later other rest h n = absurd h
other_refused total (field ∷ before) [] next later other rest h n = absurd h
other_refused total (field ∷ before) (content ∷ contents) next later other rest h n =
    rw (append_assoc (field_bytes field content) (fields_bytes before contents) (other ∷ rest), field_again total field content (fields_bytes before contents ++ other ∷ rest) h.0, other_refused total before contents next later other rest h.1 n) refl

pub field_at_place : (bytes : List ℕ) (place : ℕ) (b : Bool) → AreBytes bytes → starts_with nat_eq bytes fixed_bytes ≡ b → header_at bytes ≡ Err (fault.Field place) → HasOtherLetterAt bytes place
unfolding header_at header_fields_at
field_at_place bytes place true f s e =
    let there = (starts_is Decides-eqb bytes fixed_bytes (starts_with nat_eq bytes fixed_bytes) refl).0 s in
    let at : header_at bytes ≡ header_fields_at (length bytes) (drop 13 bytes) = rw s refl in
    elim (bind_err (fields_at (length bytes) header_fields (drop 13 bytes)) (λ read. Ok (contents_from read.0, length bytes - length read.1)) (fault.Field place) (sym at ∙ e)) [
      | inl later ↦
          let w = other_letter (length bytes) place header_fields (drop 13 bytes) (all_back (λ c. c < 256) fixed_bytes (drop 13 bytes) (subst AreBytes there f)) (omega (arith, ap length there, length-append fixed_bytes (drop 13 bytes))) later in
          (drop 13 bytes, there, w.0, w.1)
      | inr good ↦ absurd (ok_not_err (contents_from good.0.0, length bytes - length good.0.1) (fault.Field place) good.2)
    ]
field_at_place bytes place false f s e =
    let at : header_at bytes ≡ Err fault.Raw = rw s refl in
    let same : fault.Raw ≡ fault.Field place = err_is (HeaderContents × ℕ) fault.Raw (fault.Field place) (sym at ∙ e) in
    absurd cc

pub header_refused : (bytes : List ℕ) (place : ℕ) → HasOtherLetterAt bytes place → header_at bytes ≡ Err (fault.Field place)
unfolding header_at header_fields_at
header_refused bytes place (after, prefix, h, w) =
    let refused = other_refused (length bytes) w.done w.contents w.next w.later w.other w.rest w.hold w.differs in
    let l = w.left_is in
    let back : length bytes - length (w.other ∷ w.rest) ≡ place = omega (arith, l, h) in
    let fields : fields_at (length bytes) header_fields after ≡ Err (fault.Field place) = rw (w.fields_are, w.bytes_are) refused ∙ ap (λ n. failed (List (List ℕ) × List ℕ) (fault.Field n)) back in
    let fields_refused : header_fields_at (length bytes) after ≡ Err (fault.Field place) = rw fields refl in
    ap header_at prefix ∙ ap (λ n. header_fields_at n after) (sym (ap length prefix)) ∙ fields_refused

pub is_other : {X : Type 0} (view : X → HeaderContents × ℕ) (result : Result X HeaderFault) (bytes : List ℕ) → AreBytes bytes → ReturnsAs view result (header_at bytes) → (place : ℕ) →
    IsErrOf result (fault.Field place) ↔ HasOtherLetterAt bytes place
is_other view (Ok x) bytes f g place =
    (λ i. absurd (ok_not_err x (fault.Field place) i), λ w. absurd (ok_not_err (view x) (fault.Field place) (sym g ∙ header_refused bytes place w)))
is_other {X = X} view (Err d) bytes f g place = (
  λ i. field_at_place bytes place (starts_with nat_eq bytes fixed_bytes) f refl (g ∙ ap (failed (HeaderContents × ℕ)) (err_is X d (fault.Field place) i)),
  λ w. ap (failed X) (err_is (HeaderContents × ℕ) d (fault.Field place) (sym g ∙ header_refused bytes place w)),
)

-- a header is what follows the fixed bytes
pub header_after : (bytes after : List ℕ) → after_fixed_bytes bytes ≡ Ok after → header_at bytes ≡ header_fields_at (length bytes) after
unfolding header_at
header_after bytes after e = rw e refl

pub header_none : (bytes : List ℕ) (d : HeaderFault) → after_fixed_bytes bytes ≡ Err d → header_at bytes ≡ Err d
unfolding header_at
header_none bytes d e = rw e refl

-- ---- a header is written as one list of pieces

-- the pieces of a header one after another are its bytes
pub pieces_joined : (x : HeaderContents) (a b c d last made : List ℕ)
    → a ≡ 97 ∷ bytes_of_count FieldKind.Counted x.a → b ≡ 98 ∷ bytes_of_count FieldKind.Counted x.b → c ≡ 99 ∷ bytes_of_count FieldKind.Counted x.c → d ≡ 100 ∷ bytes_of_count FieldKind.Counted x.d → last ≡ bytes_of_word x.data_length
    → AllZip (λ x y. y ≡ x) (fixed_bytes ++ (a ++ (x.a ++ (b ++ (x.b ++ (c ++ (x.c ++ (d ++ (x.d ++ (101 ∷ (last ++ []))))))))))) made
    → made ≡ header_bytes x
pieces_joined x a b c d last made ea eb ec ed el zipped =
    each_same (fixed_bytes ++ (a ++ (x.a ++ (b ++ (x.b ++ (c ++ (x.c ++ (d ++ (x.d ++ (101 ∷ (last ++ []))))))))))) made zipped ∙ (rw (ea, eb, ec, ed, el) refl)
