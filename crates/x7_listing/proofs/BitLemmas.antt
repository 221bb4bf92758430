-- A header's line leads back to what the header holds, and is no other line.
use Rattle.std.proofs.Common.{◌≡◌, ◌==◌, ℕ, ◌/◌, ◌%◌, ◌^◌, if◌then◌else◌, Bool, true, false, List, [], ◌∷◌, ◌++◌, ◌<◌, ◌≤◌, ◌+◌, length, drop, codes, Option, None, Some, MatchOption, Result, Ok, Err, IfOk, subst, append_assoc, length-append, refl, ap, ap₂, sym, ◌∙◌, arith}
use Rattle.std.proofs.lemmas.Grind.{common_steps}
use Rattle.std.specs.Fmt.{decimal}
use Rattle.std.specs.List.{flat_map}
use Rattle.std.specs.Str.{bytes_eq}
use Rattle.std.proofs.Math.Bool.{and-false}
use Rattle.x7_words.specs.Word.{AreBytes, bytes_of_word}
use Rattle.x7_header.specs.Header.{HeaderContents, field_bytes, FitHeaderFields, header_bytes, FieldKind, longest_header}
use Rattle.x7_text.specs.Digits.{hex_byte, hex_digit}
use Rattle.x7_listing.specs.BitLine.{bit_line, bit_text, field_text, has_no_space, IsBitLine, IsCutAtSpace, IsField, IsHeaderOf, IsTextOfField, FitsHeader}
use Rattle.x7_listing.specs.Line.{Empty, IsLine, Line, text_of}
use Rattle.x7_text.specs.DigitValue.{bytes_value}
use Rattle.x7_listing.proofs.GuessLemmas.{after_space, digits_after_space, before_space, name_before_space, decimal_after, decimal_back, line_is}
use Rattle.x7_text.proofs.ValueLemmas.{bytes_back}
use Rattle.x7_text.proofs.WholeLineLemmas.{length_hex_bytes}

-- the bytes of the field whose text this is, if it is a field's text
abbrev field_guess : List ℕ → List ℕ
field_guess t = if bytes_eq t (45 ∷ []) then [] else bytes_value t

field_back : (bs : List ℕ) → AreBytes bs → field_guess (field_text bs) ≡ bs
field_back [] h = refl
field_back (x ∷ xs) h = ap (λ (b : Bool). if b then [] else bytes_value (flat_map hex_byte (x ∷ xs))) (and-false (hex_digit (x / 2 ^ 4 % 16) == 45)) ∙ bytes_back (x ∷ xs) h

more_free : (x : ℕ) (xs : List ℕ) → (x == 32) ≡ false → has_no_space xs ≡ true → has_no_space (x ∷ xs) ≡ true
more_free x xs e h = rw e h

digit_free : (n : ℕ) → (hex_digit n == 32) ≡ false
digit_free n = grind (arith, common_steps)

hex_free : (bs : List ℕ) → has_no_space (flat_map hex_byte bs) ≡ true
hex_free [] = refl
hex_free (b ∷ bs) = more_free (hex_digit (b / 2 ^ 4 % 16)) (hex_digit (b % 16) ∷ flat_map hex_byte bs) (digit_free (b / 2 ^ 4 % 16)) (more_free (hex_digit (b % 16)) (flat_map hex_byte bs) (digit_free (b % 16)) (hex_free bs))

field_free : (bs : List ℕ) → has_no_space (field_text bs) ≡ true
field_free [] = refl
field_free (x ∷ xs) = hex_free (x ∷ xs)

-- the first field of a text, and what stands after it
first_field : (bs rest : List ℕ) → AreBytes bs → field_guess (before_space (field_text bs ++ 32 ∷ rest)) ≡ bs
first_field bs rest h = ap field_guess (name_before_space (field_text bs) rest (field_free bs)) ∙ field_back bs h

rest_after_field : (bs rest : List ℕ) → after_space (field_text bs ++ 32 ∷ rest) ≡ rest
rest_after_field bs rest = digits_after_space (field_text bs) rest (field_free bs)

-- fields one after the other
abbrev with_count : List ℕ → ℕ → List ℕ
with_count d n = field_text d ++ 32 ∷ decimal n

abbrev field_texts : List ℕ → List ℕ → List ℕ → List ℕ → ℕ → List ℕ
field_texts a b c d n = field_text a ++ 32 ∷ (field_text b ++ 32 ∷ (field_text c ++ 32 ∷ with_count d n))

same_field : (a b r s : List ℕ) → AreBytes a → AreBytes b → field_text a ++ 32 ∷ r ≡ field_text b ++ 32 ∷ s → (a ≡ b) × (r ≡ s)
same_field a b r s h k e =
    (sym (first_field a r h) ∙ ap (λ t. field_guess (before_space t)) e ∙ first_field b s k, sym (rest_after_field a r) ∙ ap after_space e ∙ rest_after_field b s)

abbrev pub contents : List ℕ → List ℕ → List ℕ → List ℕ → ℕ → HeaderContents
contents a b c d n = record { a = a; b = b; c = c; d = d; data_length = n }

same_contents : (x y : HeaderContents) → x.a ≡ y.a → x.b ≡ y.b → x.c ≡ y.c → x.d ≡ y.d → x.data_length ≡ y.data_length → x ≡ y
same_contents x y a b c d n = ap₂ (λ s t. contents s t x.c x.d x.data_length) a b ∙ ap₂ (λ s t. contents y.a y.b s t x.data_length) c d ∙ ap (λ k. contents y.a y.b y.c y.d k) n

pub one_header : (x y : HeaderContents) → FitsHeader x → FitsHeader y → bit_text x ≡ bit_text y → x ≡ y
one_header x y h k e =
    let rest : field_texts x.a x.b x.c x.d x.data_length ≡ field_texts y.a y.b y.c y.d y.data_length = cc in
    let a = same_field x.a y.a (field_text x.b ++ 32 ∷ (field_text x.c ++ 32 ∷ with_count x.d x.data_length)) (field_text y.b ++ 32 ∷ (field_text y.c ++ 32 ∷ with_count y.d y.data_length)) h.a k.a rest in
    let b = same_field x.b y.b (field_text x.c ++ 32 ∷ with_count x.d x.data_length) (field_text y.c ++ 32 ∷ with_count y.d y.data_length) h.b k.b a.1 in
    let c = same_field x.c y.c (with_count x.d x.data_length) (with_count y.d y.data_length) h.c k.c b.1 in
    let d = same_field x.d y.d (decimal x.data_length) (decimal y.data_length) h.d k.d c.1 in
    let n : x.data_length ≡ y.data_length = sym (decimal_back x.data_length (omega (arith, h.fields_fit.data_length))) ∙ ap (decimal_after 0) d.1 ∙ decimal_back y.data_length (omega (arith, k.fields_fit.data_length)) in
    same_contents x y a.0 b.0 c.0 d.0 n

pub no_line : (x : HeaderContents) (l : Line) → IsLine (bit_text x) l → ⊥
no_line x l i = let none : l ≡ Empty = line_is (bit_text x) l i in let e : bit_text x ≡ [] = i.text_is ∙ ap text_of none in cc

-- what the fields of a header's line hold, where a text is that of such fields
pub header_by : List ℕ → HeaderContents
header_by t =
    let b = after_space t in
    let c = after_space b in
    let d = after_space c in
    contents (field_guess (before_space t)) (field_guess (before_space b)) (field_guess (before_space c)) (field_guess (before_space d)) (decimal_after 0 (after_space d))

header_back : (x : HeaderContents) → FitsHeader x → header_by (field_texts x.a x.b x.c x.d x.data_length) ≡ x
unfolding header_by
header_back x h =
    let count = with_count x.d x.data_length in
    let third = field_text x.c ++ 32 ∷ count in
    let second = field_text x.b ++ 32 ∷ third in
    let b = rest_after_field x.a second in
    let c = ap after_space b ∙ rest_after_field x.b third in
    let d = ap after_space c ∙ rest_after_field x.c count in
    let n = ap after_space d ∙ rest_after_field x.d (decimal x.data_length) in
    let field : List ℕ → List ℕ = λ t. field_guess (before_space t) in
    same_contents (header_by (field_text x.a ++ 32 ∷ second)) x (first_field x.a second h.a) (ap field b ∙ first_field x.b third h.b) (ap field c ∙ first_field x.c count h.c)
    (ap field d ∙ first_field x.d (decimal x.data_length) h.d) (ap (decimal_after 0) n ∙ decimal_back x.data_length (omega (arith, h.fields_fit.data_length)))

-- the one header whose line a text may be
pub header_is : (t : List ℕ) (x : HeaderContents) → FitsHeader x → t ≡ bit_text x → x ≡ header_by (drop 4 t)
header_is t x h e = sym (ap (λ s. header_by (drop 4 s)) e ∙ header_back x h)

-- a text that begins with a text without spaces, and a space, is cut there
cut_once : (here text rest own later : List ℕ) → IsCutAtSpace here text rest → has_no_space own ≡ true → here ≡ own ++ 32 ∷ later → (text ≡ own) × (rest ≡ later)
cut_once here text rest own later c free e = (
  sym (name_before_space text rest c.free) ∙ ap before_space (sym c.parts ∙ e) ∙ name_before_space own later free,
  sym (digits_after_space text rest c.free) ∙ ap after_space (sym c.parts ∙ e) ∙ digits_after_space own later free,
)

-- a text that isn't `-` and whose pairs of digits are those of no bytes is no field's
pub no_field : (t : List ℕ) → (t ≡ codes "-" → ⊥) → ((bs : List ℕ) → AreBytes bs → t ≡ flat_map hex_byte bs → ⊥) → (field : List ℕ) → IsField field → t ≡ field_text field → ⊥
no_field t dash none [] h e = dash e
no_field t dash none (x ∷ xs) h e = none (x ∷ xs) h.bytes e

pub no_size : (t : List ℕ) → (t ≡ codes "-" → ⊥) → (0 < length t → length t ≤ 131070 → ⊥) → (field : List ℕ) → IsField field → t ≡ field_text field → ⊥
no_size t dash long [] h e = dash e
no_size t dash long (x ∷ xs) h e = long (omega (arith, ap length e)) (omega (arith, ap length e, length_hex_bytes (x ∷ xs), h.short))

pub yes_field : (t bs : List ℕ) → 0 < length t → length t ≤ 131070 → AreBytes bs → t ≡ flat_map hex_byte bs → IsField bs × (t ≡ field_text bs)
yes_field t [] some long a e = absurd (omega (arith, ap length e))
yes_field t (b ∷ bs) some long a e = (record { bytes = a; short = omega (arith, ap length e, length_hex_bytes (b ∷ bs)) }, e)

-- what is known of an optional value where it is there, and where it isn't
pub some_of : {X : Type 0} (A : Type 0) (B : X → Type 0) (o : Option X) (x : X) → o ≡ Some x → MatchOption o A B → B x
some_of A B o x e h = subst (λ p. MatchOption p A B) e h

pub none_of : {X : Type 0} (A : Type 0) (B : X → Type 0) (o : Option X) → o ≡ None → MatchOption o A B → A
none_of A B o e h = subst (λ p. MatchOption p A B) e h

pub field_found : {X E : Type 0} (items : X → List ℕ) (t : List ℕ) (r : Result (Option X) E) → (t ≡ codes "-" → ⊥) → 0 < length t → length t ≤ 131070
    → IfOk r (λ found. MatchOption found ((bs : List ℕ) → AreBytes bs → t ≡ flat_map hex_byte bs → ⊥) (λ x. AreBytes (items x) × (t ≡ flat_map hex_byte (items x))))
    → IfOk r (λ found. MatchOption found ((field : List ℕ) → IsField field → t ≡ field_text field → ⊥) (λ x. IsField (items x) × (t ≡ field_text (items x))))
field_found items t (Ok None) dash some long h = no_field t dash h
field_found items t (Ok (Some x)) dash some long h = yes_field t (items x) some long h.0 h.1
field_found items t (Err e) dash some long h = h

-- what stands after each field of a line that is a header's
abbrev pub fields_text : HeaderContents → List ℕ
fields_text x = field_texts x.a x.b x.c x.d x.data_length

abbrev pub after_a : HeaderContents → List ℕ
after_a x = field_text x.b ++ 32 ∷ (field_text x.c ++ 32 ∷ with_count x.d x.data_length)

abbrev pub after_b : HeaderContents → List ℕ
after_b x = field_text x.c ++ 32 ∷ with_count x.d x.data_length

abbrev pub after_c : HeaderContents → List ℕ
after_c x = with_count x.d x.data_length

pub line_fields : (line fields : List ℕ) (x : HeaderContents) → line ≡ codes "bit " ++ fields → line ≡ bit_text x → fields ≡ fields_text x
line_fields line fields x e h = let both : codes "bit " ++ fields ≡ codes "bit " ++ fields_text x = sym e ∙ h in cc

-- the texts in which a header's line is cut, one after the other
module _ (line fields a r1 : List ℕ) (x : HeaderContents) (begins : line ≡ codes "bit " ++ fields) (h : line ≡ bit_text x) (in_a : IsCutAtSpace fields a r1) where
  cut_a : (a ≡ field_text x.a) × (r1 ≡ after_a x)
  cut_a = cut_once fields a r1 (field_text x.a) (after_a x) in_a (field_free x.a) (line_fields line fields x begins h)

  pub rest_a : r1 ≡ after_a x
  rest_a = cut_a.1

  module _ (b r2 : List ℕ) (in_b : IsCutAtSpace r1 b r2) where
    cut_b : (b ≡ field_text x.b) × (r2 ≡ after_b x)
    cut_b = cut_once r1 b r2 (field_text x.b) (after_b x) in_b (field_free x.b) rest_a

    pub rest_b : r2 ≡ after_b x
    rest_b = cut_b.1

    module _ (c r3 : List ℕ) (in_c : IsCutAtSpace r2 c r3) where
      cut_c : (c ≡ field_text x.c) × (r3 ≡ after_c x)
      cut_c = cut_once r2 c r3 (field_text x.c) (after_c x) in_c (field_free x.c) rest_b

      pub rest_c : r3 ≡ after_c x
      rest_c = cut_c.1

      module _ (d digits : List ℕ) (in_d : IsCutAtSpace r3 d digits) where
        cut_d : (d ≡ field_text x.d) × (digits ≡ decimal x.data_length)
        cut_d = cut_once r3 d digits (field_text x.d) (decimal x.data_length) in_d (field_free x.d) rest_c

        pub all_cut : (a ≡ field_text x.a) × (b ≡ field_text x.b) × (c ≡ field_text x.c) × (d ≡ field_text x.d) × (digits ≡ decimal x.data_length)
        all_cut = (cut_a.0, cut_b.0, cut_c.0, cut_d.0, cut_d.1)

-- a line that was cut at its spaces is made of the parts
pub parted : (line fields a r1 b r2 c r3 d digits : List ℕ) (n : ℕ) → line ≡ codes "bit " ++ fields → IsCutAtSpace fields a r1 → IsCutAtSpace r1 b r2 → IsCutAtSpace r2 c r3 → IsCutAtSpace r3 d digits
    → (n < 2 ^ 32) × (digits ≡ decimal n) → IsBitLine line a b c d n
parted line fields a r1 b r2 c r3 d digits n e in_a in_b in_c in_d is = record {
  line_is = e ∙ ap (λ t. codes "bit " ++ t) (in_a.parts ∙ ap (λ t. a ++ 32 ∷ t) (in_b.parts ∙ ap (λ t. b ++ 32 ∷ t) (in_c.parts ∙ ap (λ t. c ++ 32 ∷ t) (in_d.parts ∙ ap (λ t. d ++ 32 ∷ t) is.1))));
  free_a = in_a.free;
  free_b = in_b.free;
  free_c = in_c.free;
  free_d = in_d.free;
  is_word = is.0;
}

-- the texts of a line that is a header's are those of its fields
pub texts_are : (line a b c d : List ℕ) (n : ℕ) (x : HeaderContents) → IsBitLine line a b c d n → line ≡ bit_text x → (a ≡ field_text x.a) × (b ≡ field_text x.b) × (c ≡ field_text x.c) × (d ≡ field_text x.d)
texts_are line a b c d n x is e =
    let r3 = d ++ 32 ∷ decimal n in
    let r2 = c ++ 32 ∷ r3 in
    let r1 = b ++ 32 ∷ r2 in
    let cut = all_cut line (a ++ 32 ∷ r1) a r1 x is.line_is e (record { parts = refl; free = is.free_a }) b r2 (record { parts = refl; free = is.free_b }) c r3 (record { parts = refl; free = is.free_c })
    d (decimal n) (record { parts = refl; free = is.free_d }) in
    (cut.0, cut.1, cut.2, cut.3)

-- a header's line after a text, field by field
pub line_made : (before bit a b c d n t1 t2 t3 t4 t5 : List ℕ) → t1 ≡ before ++ bit → t2 ≡ t1 ++ (a ++ 32 ∷ []) → t3 ≡ t2 ++ (b ++ 32 ∷ []) → t4 ≡ t3 ++ (c ++ 32 ∷ []) → t5 ≡ t4 ++ (d ++ 32 ∷ [])
    → t5 ++ n ≡ before ++ (bit ++ (a ++ 32 ∷ (b ++ 32 ∷ (c ++ 32 ∷ (d ++ 32 ∷ n)))))
line_made before bit a b c d n t1 t2 t3 t4 t5 e1 e2 e3 e4 e5 =
    let after_c = d ++ 32 ∷ n in
    let after_b = c ++ 32 ∷ after_c in
    let after_a = b ++ 32 ∷ after_b in
    through d n t4 t5 e5 ∙ through c after_c t3 t4 e4 ∙ through b after_b t2 t3 e3 ∙ through a after_a t1 t2 e2 ∙ ap (λ t. t ++ (a ++ 32 ∷ after_a)) e1 ∙ append_assoc before bit (a ++ 32 ∷ after_a)
  where
    through : (field rest old new : List ℕ) → new ≡ old ++ (field ++ 32 ∷ []) → new ++ rest ≡ old ++ (field ++ 32 ∷ rest)
    through field rest old new e = ap (λ t. t ++ rest) e ∙ append_assoc old (field ++ 32 ∷ []) rest ∙ ap (λ t. old ++ t) (append_assoc field (32 ∷ []) rest)

-- a line whose texts are those of fields is a header's
pub header_made : (line a b c d : List ℕ) (x : HeaderContents) (bytes : List ℕ) → IsBitLine line a b c d x.data_length → IsTextOfField a x.a → IsTextOfField b x.b → IsTextOfField c x.c → IsTextOfField d x.d
    → bytes ≡ header_bytes x → IsHeaderOf line bytes
header_made line a b c d x bytes is ta tb tc td are = record {
  header = x;
  fits = record { fields_fit = record { a = ta.0.short; b = tb.0.short; c = tc.0.short; d = td.0.short; data_length = is.is_word }; a = ta.0.bytes; b = tb.0.bytes; c = tc.0.bytes; d = td.0.bytes };
  text = is.line_is ∙ ap₂ (λ s t. bit_line s t c d x.data_length) ta.1 tb.1 ∙ ap₂ (λ s t. bit_line (field_text x.a) (field_text x.b) s t x.data_length) tc.1 td.1;
  bytes_are = are;
}

-- no header is longer than the longest
counted : (letter : ℕ) (x rest : List ℕ) → length x < 2 ^ 16 → length (field_bytes (record { letter = letter; kind = FieldKind.Counted }) x ++ rest) ≤ 65538 + length rest
counted letter x rest k = omega (arith, k, length-append x rest)

pub header_limit : (x : HeaderContents) → FitHeaderFields x → length (header_bytes x) ≤ longest_header
header_limit x k =
    let last = bytes_of_word x.data_length ++ [] in
    let after_d = 0x65 ∷ last in
    let after_c = field_bytes (record { letter = 0x64; kind = FieldKind.Counted }) x.d ++ after_d in
    let after_b = field_bytes (record { letter = 0x63; kind = FieldKind.Counted }) x.c ++ after_c in
    let after_a = field_bytes (record { letter = 0x62; kind = FieldKind.Counted }) x.b ++ after_b in
    omega (arith, counted 0x61 x.a after_a k.a, counted 0x62 x.b after_b k.b, counted 0x63 x.c after_c k.c, counted 0x64 x.d after_d k.d)

pub header_short : (line bytes : List ℕ) → IsHeaderOf line bytes → length bytes ≤ longest_header
header_short line bytes h = subst (λ b. length b ≤ longest_header) (sym h.bytes_are) (header_limit h.header h.fits.fields_fit)

pub is_field : (bs : List ℕ) → AreBytes bs → length bs < 2 ^ 16 → IsField bs
is_field bs a h = record { bytes = a; short = h }

-- the length of a text by whether it is empty
pub none_there : (n : ℕ) → true ≡ (n == 0) → n ≡ 0
none_there n e = grind (arith, common_steps)

pub some_there : (n : ℕ) → false ≡ (n == 0) → 0 < n
some_there n e = grind (arith, common_steps)

-- fields as they were lent are those of a header
pub lent_header : (a b c d a2 b2 c2 d2 : List ℕ) (n : ℕ) (bytes : List ℕ) → a2 ≡ a → b2 ≡ b → c2 ≡ c → d2 ≡ d → bytes ≡ header_bytes (contents a2 b2 c2 d2 n) → bytes ≡ header_bytes (contents a b c d n)
lent_header a b c d a2 b2 c2 d2 n bytes ea eb ec ed e =
    e ∙ ap₂ (λ s t. header_bytes (contents s t c2 d2 n)) ea eb ∙ ap₂ (λ s t. header_bytes (contents a b s t n)) ec ed
