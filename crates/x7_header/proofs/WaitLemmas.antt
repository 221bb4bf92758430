-- Bytes that begin a header and wait for more: with fewer the input still ends inside it.
use Rattle.std.proofs.Common.{◌≡◌, ℕ, ◌+◌, ◌-◌, ◌*◌, ◌<◌, Bool, true, false, cond, List, [], ◌∷◌, ◌++◌, length, Result, Ok, Err, nat_le, nat_eq, refl, sym, ap, ◌∙◌, append-nil, arith, length-append}
use Rattle.std.specs.Prelude.{IfErr, IsErr, IsErrAnd}
use Rattle.x7_words.specs.Word.{AreBytes}
use Rattle.x7_header.specs.Header.{EndsInHeader, FieldKind, Field}
use Rattle.x7_header.specs.Reading.{◌>>=◌, FieldWaits, HeaderWaits, HeaderFieldsWait, first_bytes, content_at, field_at, after_fixed_bytes, header_at, number_lacks, text_lacks}
use Rattle.x7_header.specs.declared.fault.HeaderFault.{HeaderFault}
use Rattle.x7_header.specs.declared.fault.HeaderFault.TheVariants as fault
use Rattle.x7_header.proofs.CutLemmas.{header_cut}
use Rattle.x7_header.proofs.HeaderLemmas.{done, err_is, header_after}

-- a field that is cut has its letter
letter_by : (at place : ℕ) (bytes : List ℕ) (k : List ℕ → Result (List ℕ × List ℕ) HeaderFault) (b : Bool) → (cond b (done bytes) (Err (fault.Field at)) >>= k) ≡ Err (fault.Cut place) → b ≡ true
letter_by at place bytes k true e = refl
letter_by at place bytes k false e =
    let same : fault.Field at ≡ fault.Cut place = err_is (List ℕ × List ℕ) (fault.Field at) (fault.Cut place) e in absurd cc

has_letter : (total place first : ℕ) (field : Field) (bytes : List ℕ) → field_at total field (first ∷ bytes) ≡ Err (fault.Cut place) → nat_eq first field.letter ≡ true
unfolding field_at
has_letter total place first field bytes e = letter_by (total - length (first ∷ bytes)) place bytes (content_at total field.kind) (nat_eq first field.letter) e

-- after its letter a field is its content
content_follows : (total first : ℕ) (field : Field) (bytes : List ℕ) → nat_eq first field.letter ≡ true → field_at total field (first ∷ bytes) ≡ content_at total field.kind bytes
unfolding field_at
content_follows total first field bytes e = rw e refl

-- with fewer bytes more than the first `count` lack, these are cut
bytes_short : (total count : ℕ) (bytes more : List ℕ) → length more < count - length bytes → first_bytes total count (bytes ++ more) ≡ Err (fault.Cut total)
bytes_short total count bytes more h =
    let f : nat_le count (length (bytes ++ more)) ≡ false = grind (arith, h, length-append bytes more) in rw f refl

none_waits : (field : Field) → FieldWaits field [] 1
unfolding field_at
none_waits field total [] h = refl
none_waits field total (x ∷ more) h = absurd (omega arith)

count_waits : (total : ℕ) (more : List ℕ) → length more < 2 → content_at total FieldKind.Counted more ≡ Err (fault.Cut total)
count_waits total [] h = refl
count_waits total (x ∷ []) h = refl
count_waits total (x ∷ y ∷ more) h = absurd (omega arith)

low_waits : (total high : ℕ) (more : List ℕ) → length more < 1 → content_at total FieldKind.Counted (high ∷ more) ≡ Err (fault.Cut total)
low_waits total high [] h = refl
low_waits total high (x ∷ more) h = absurd (omega arith)

pub text_waits : (letter total place : ℕ) (bytes : List ℕ) → field_at total (record { letter = letter; kind = FieldKind.Counted }) bytes ≡ Err (fault.Cut place) →
    FieldWaits (record { letter = letter; kind = FieldKind.Counted }) bytes (text_lacks bytes)
text_waits letter total place [] e = none_waits (record { letter = letter; kind = FieldKind.Counted })
text_waits letter total place (first ∷ []) e = λ all more h.
    let field : Field = record { letter = letter; kind = FieldKind.Counted } in
    content_follows all first field more (has_letter total place first field [] e) ∙ count_waits all more h
text_waits letter total place (first ∷ high ∷ []) e = λ all more h.
    let field : Field = record { letter = letter; kind = FieldKind.Counted } in
    content_follows all first field (high ∷ more) (has_letter total place first field (high ∷ []) e) ∙ low_waits all high more h
text_waits letter total place (first ∷ high ∷ low ∷ bytes) e = λ all more h.
    let field : Field = record { letter = letter; kind = FieldKind.Counted } in
    content_follows all first field (high ∷ low ∷ (bytes ++ more)) (has_letter total place first field (high ∷ low ∷ bytes) e) ∙ bytes_short all (high * 256 + low) bytes more h

pub number_waits : (letter total place : ℕ) (bytes : List ℕ) → field_at total (record { letter = letter; kind = FieldKind.Four }) bytes ≡ Err (fault.Cut place) →
    FieldWaits (record { letter = letter; kind = FieldKind.Four }) bytes (number_lacks bytes)
number_waits letter total place [] e = none_waits (record { letter = letter; kind = FieldKind.Four })
number_waits letter total place (first ∷ bytes) e = λ all more h.
    let field : Field = record { letter = letter; kind = FieldKind.Four } in
    content_follows all first field (bytes ++ more) (has_letter total place first field bytes e) ∙ bytes_short all 4 bytes more h

-- what an error that is handed on has
pub err_has : {X E : Type 0} (P : E → Type 0) (result : Result X E) (e : E) → IsErr result → IsErrAnd result (λ d. d ≡ e) → P e → IfErr result P
err_has P (Ok x) e i a p = absurd a
err_has P (Err d) e i a p = rw a p

-- what an error has, by what else it has
pub err_then : {X E : Type 0} (P Q : E → Type 0) (result : Result X E) → IfErr result P → ((e : E) → P e → Q e) → IfErr result Q
err_then P Q (Ok x) h f = tt
err_then P Q (Err e) h f = f e h

-- a header that is cut waits for one byte more
pub one_waits : (bytes : List ℕ) → AreBytes bytes → EndsInHeader bytes → HeaderWaits bytes 1
one_waits bytes f e [] h = ap header_at (append-nil bytes) ∙ header_cut bytes (header_at bytes) f e refl ∙ ap (λ (b : List ℕ). Err (fault.Cut (length b))) (sym (append-nil bytes))
one_waits bytes f e (x ∷ more) h = absurd (omega arith)

-- a header waits for what its fields wait for
pub fields_wait : (bytes after : List ℕ) (count : ℕ) → ((more : List ℕ) → after_fixed_bytes (bytes ++ more) ≡ Ok (after ++ more)) → HeaderFieldsWait after count → HeaderWaits bytes count
fields_wait bytes after count g w = λ more h. header_after (bytes ++ more) (after ++ more) (g more) ∙ w (length (bytes ++ more)) more h
