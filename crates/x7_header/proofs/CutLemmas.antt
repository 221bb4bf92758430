-- An input that ends inside a header: some header goes on exactly where the reading says Cut.
use Rattle.std.proofs.Common.{◌≡◌, ℕ, zero, suc, ◌+◌, ◌-◌, ◌*◌, ◌/◌, ◌%◌, ◌<◌, Bool, true, false, cond, List, [], ◌∷◌, ◌++◌, length, take, drop, Result, Ok, Err, nat_le, nat_eq, refl, sym, ap, subst, ◌∙◌, append_assoc, append-nil, arith, inl, inr, length-append}
use Rattle.std.specs.Prelude.{◌↔◌, IsErrOf}
use Rattle.std.proofs.lemmas.Bool.Decides.{Decides-eqb}
use Rattle.std.proofs.lemmas.Slice.Eq.{starts_is}
use Rattle.std.specs.List.{AllByRecursion, starts_with}
use Rattle.x7_words.specs.Word.{AreBytes}
use Rattle.x7_words.proofs.ListLemmas.{all_append, all_prefix, all_back}
use Rattle.x7_header.specs.Header.{fixed_bytes, FieldKind, Field, header_fields, FitsFieldKind, FitFields, HasOtherLetterAt, EndsInHeader, bytes_of_count, field_bytes, fields_bytes, HeaderContents, header_bytes}
use Rattle.x7_header.specs.Reading.{◌>>=◌, after_letter, content_at, field_at, fields_at, contents_from, header_fields_at, header_at, ReturnsAs}
use Rattle.x7_header.specs.declared.fault.HeaderFault.{HeaderFault}
use Rattle.x7_header.specs.declared.fault.HeaderFault.TheVariants as fault
use Rattle.x7_header.proofs.HeaderLemmas.{done, failed, ok_not_err, err_is, bind_err, letter_takes, count_again, two_and, field_takes, from_header_fields, header_takes, header_again, header_tells, raw_at, cut_at, header_refused, field_at_place}

-- ---- where the reading says Cut, some header goes on

abbrev zeros : ℕ → List ℕ
zeros zero = []
zeros (suc n) = 0 ∷ zeros n

zeros_long : (n : ℕ) → length (zeros n) ≡ n
zeros_long zero = refl
zeros_long (suc n) = ap suc (zeros_long n)

zeros_fit : (n : ℕ) → AreBytes (zeros n)
zeros_fit zero = tt
zeros_fit (suc n) = (omega arith, zeros_fit n)

-- bytes, made up to this many by zeros
filled_long : (bytes : List ℕ) (count : ℕ) → length bytes < count → length (bytes ++ 0 ∷ zeros (count - length bytes - 1)) ≡ count
filled_long bytes count h =
    omega (arith, h, length-append bytes (0 ∷ zeros (count - length bytes - 1)), zeros_long (count - length bytes - 1))

bytes_end : {A : Type 0} (total count place : ℕ) (bytes : List ℕ) (x : A) (b : Bool) → nat_le count (length bytes) ≡ b → cond b (done x) (Err (fault.Cut total)) ≡ Err (fault.Cut place) → length bytes < count
bytes_end total count place bytes x true s e = absurd (ok_not_err x (fault.Cut place) e)
bytes_end total count place bytes x false s e = grind (arith, s)

-- what stands after a field's letter goes on after these bytes
record GoesOnAfterLetter (kind : FieldKind) (bytes : List ℕ) : Type 0 where
  pub content : List ℕ
  pub next : ℕ
  pub missing : List ℕ
  pub holds : FitsFieldKind kind content
  pub content_are : AreBytes content
  pub goes_on : bytes_of_count kind content ++ content ≡ bytes ++ next ∷ missing
  pub missing_are : AreBytes (next ∷ missing)

content_ends : (total place : ℕ) (kind : FieldKind) (bytes : List ℕ) → AreBytes bytes → content_at total kind bytes ≡ Err (fault.Cut place) → GoesOnAfterLetter kind bytes
content_ends total place FieldKind.Four bytes f e =
    let h = bytes_end total 4 place bytes (take 4 bytes, drop 4 bytes) (nat_le 4 (length bytes)) refl e in
    let more = zeros (4 - length bytes - 1) in
    let fits : AreBytes (0 ∷ more) = (omega arith, zeros_fit (4 - length bytes - 1)) in
    record {
      content = bytes ++ 0 ∷ more;
      next = 0;
      missing = more;
      holds = filled_long bytes 4 h;
      content_are = all_append (λ c. c < 256) bytes (0 ∷ more) f fits;
      goes_on = refl;
      missing_are = fits;
    }
content_ends total place FieldKind.Counted [] f e =
    record { content = []; next = 0; missing = 0 ∷ []; holds = omega arith; content_are = tt; goes_on = refl; missing_are = (omega arith, (omega arith, tt)) }
content_ends total place FieldKind.Counted (high ∷ []) f e =
    let more = zeros (high * 256) in
    let n = count_again high 0 (length more) f.0 (omega arith) (omega (arith, zeros_long (high * 256))) in
    record {
      content = more;
      next = 0;
      missing = more;
      holds = n.2;
      content_are = zeros_fit (high * 256);
      goes_on = two_and (length more / 256) (length more % 256) high 0 more more (sym n.0) (sym n.1) refl;
      missing_are = (omega arith, zeros_fit (high * 256));
    }
content_ends total place FieldKind.Counted (high ∷ low ∷ bytes) f e =
    let count = high * 256 + low in
    let h = bytes_end total count place bytes (take count bytes, drop count bytes) (nat_le count (length bytes)) refl e in
    let more = zeros (count - length bytes - 1) in
    let fits : AreBytes (0 ∷ more) = (omega arith, zeros_fit (count - length bytes - 1)) in
    let content = bytes ++ 0 ∷ more in
    let n = count_again high low (length content) f.0 f.1.0 (filled_long bytes count h) in
    record {
      content = content;
      next = 0;
      missing = more;
      holds = n.2;
      content_are = all_append (λ c. c < 256) bytes (0 ∷ more) f.1.1 fits;
      goes_on = two_and (length content / 256) (length content % 256) high low content content (sym n.0) (sym n.1) refl;
      missing_are = fits;
    }

-- a field with some content goes on after these bytes
record FieldGoesOn (field : Field) (bytes : List ℕ) : Type 0 where
  pub content : List ℕ
  pub next : ℕ
  pub missing : List ℕ
  pub holds : FitsFieldKind field.kind content
  pub content_are : AreBytes content
  pub goes_on : field_bytes field content ≡ bytes ++ next ∷ missing
  pub missing_are : AreBytes (next ∷ missing)

record FieldsGoOn (fields : List Field) (bytes : List ℕ) : Type 0 where
  pub contents : List (List ℕ)
  pub next : ℕ
  pub missing : List ℕ
  pub hold : FitFields fields contents
  pub contents_are : AllByRecursion AreBytes contents
  pub goes_on : fields_bytes fields contents ≡ bytes ++ next ∷ missing
  pub missing_are : AreBytes (next ∷ missing)

-- what a field can hold
abbrev blank : FieldKind → List ℕ
blank FieldKind.Counted = []
blank FieldKind.Four = 0 ∷ 0 ∷ 0 ∷ 0 ∷ []

blank_holds : (kind : FieldKind) → FitsFieldKind kind (blank kind) × AreBytes (blank kind) × AreBytes (bytes_of_count kind (blank kind) ++ blank kind)
blank_holds FieldKind.Counted = (omega arith, tt, (omega arith, (omega arith, tt)))
blank_holds FieldKind.Four = let z : 0 < 256 = omega arith in (refl, (z, (z, (z, (z, tt)))), (z, (z, (z, (z, tt)))))

abbrev HaveLetters : List Field → Type 0
HaveLetters fields = AllByRecursion (λ (field : Field). field.letter < 256) fields

-- contents that fit the fields, and of which each number is a byte
record CanHold (fields : List Field) : Type 0 where
  pub contents : List (List ℕ)
  pub hold : FitFields fields contents
  pub contents_are : AllByRecursion AreBytes contents
  pub bytes_are : AreBytes (fields_bytes fields contents)

blank_fields : (fields : List Field) → HaveLetters fields → CanHold fields
blank_fields [] l = record { contents = []; hold = tt; contents_are = tt; bytes_are = tt }
blank_fields (field ∷ fields) l =
    let b = blank_holds field.kind in
    let others = blank_fields fields l.1 in
    record {
      contents = blank field.kind ∷ others.contents;
      hold = (b.0, others.hold);
      contents_are = (b.1, others.contents_are);
      bytes_are = (l.0, all_append (λ c. c < 256) (bytes_of_count field.kind (blank field.kind) ++ blank field.kind) (fields_bytes fields others.contents) b.2 others.bytes_are);
    }

letter_no_cut : (bytes : List ℕ) (at place : ℕ) (b : Bool) → cond b (done bytes) (Err (fault.Field at)) ≡ Err (fault.Cut place) → ⊥
letter_no_cut bytes at place true e = ok_not_err bytes (fault.Cut place) e
letter_no_cut bytes at place false e = let same : fault.Field at ≡ fault.Cut place = err_is (List ℕ) (fault.Field at) (fault.Cut place) e in cc

letter_ends : (total place : ℕ) (field : Field) (bytes : List ℕ) → field.letter < 256 → after_letter total field.letter bytes ≡ Err (fault.Cut place) → FieldGoesOn field bytes
letter_ends total place field [] l e =
    let b = blank_holds field.kind in
    record { content = blank field.kind; next = field.letter; missing = bytes_of_count field.kind (blank field.kind) ++ blank field.kind; holds = b.0; content_are = b.1; goes_on = refl; missing_are = (l, b.2) }
letter_ends total place field (first ∷ bytes) l e = absurd (letter_no_cut bytes (total - length (first ∷ bytes)) place (nat_eq first field.letter) e)

field_ends : (total place : ℕ) (field : Field) (bytes : List ℕ) → field.letter < 256 → AreBytes bytes → field_at total field bytes ≡ Err (fault.Cut place) → FieldGoesOn field bytes
unfolding field_at
field_ends total place field bytes l f e =
    elim (bind_err (after_letter total field.letter bytes) (content_at total field.kind) (fault.Cut place) e) [
      | inl letter ↦ letter_ends total place field bytes l letter
      | inr there ↦
          let t = letter_takes total field.letter bytes there.0 there.1 in
          let fits : AreBytes (field.letter ∷ there.0) = subst AreBytes t f in
          let w = content_ends total place field.kind there.0 fits.1 there.2 in
          record {
            content = w.content;
            next = w.next;
            missing = w.missing;
            holds = w.holds;
            content_are = w.content_are;
            goes_on = ap (λ r. field.letter ∷ r) w.goes_on ∙ ap (λ r. r ++ w.next ∷ w.missing) (sym t);
            missing_are = w.missing_are;
          }
    ]

content_fits : (field : Field) (content rest : List ℕ) → AreBytes (field_bytes field content ++ rest) → AreBytes content
content_fits field content rest f =
    all_back (λ c. c < 256) (field.letter ∷ bytes_of_count field.kind content) content (all_prefix (λ c. c < 256) (field_bytes field content) rest f)

fields_end : (total place : ℕ) (fields : List Field) (bytes : List ℕ) → HaveLetters fields → AreBytes bytes → fields_at total fields bytes ≡ Err (fault.Cut place) → FieldsGoOn fields bytes
unfolding fields_at
fields_end total place [] bytes l f e = absurd (ok_not_err ([], bytes) (fault.Cut place) e)
fields_end total place (field ∷ fields) bytes l f e =
    elim (bind_err (field_at total field bytes) (λ first. fields_at total fields first.1 >>= λ others. Ok (first.0 ∷ others.0, others.1)) (fault.Cut place) e) [
      | inl here ↦
          let w = field_ends total place field bytes l.0 f here in
          let others = blank_fields fields l.1 in
          let more = fields_bytes fields others.contents in
          record {
            contents = w.content ∷ others.contents;
            next = w.next;
            missing = w.missing ++ more;
            hold = (w.holds, others.hold);
            contents_are = (w.content_are, others.contents_are);
            goes_on = ap (λ r. r ++ more) w.goes_on ∙ append_assoc bytes (w.next ∷ w.missing) more;
            missing_are = all_append (λ c. c < 256) (w.next ∷ w.missing) more w.missing_are others.bytes_are;
          }
      | inr there ↦
          let t = field_takes total field bytes there.0 f there.1 in
          let first = field_bytes field there.0.0 in
          let fits : AreBytes (first ++ there.0.1) = subst AreBytes t.0 f in
          elim (bind_err (fields_at total fields there.0.1) (λ others. Ok (there.0.0 ∷ others.0, others.1)) (fault.Cut place) there.2) [
            | inl later ↦
                let w = fields_end total place fields there.0.1 l.1 (all_back (λ c. c < 256) first there.0.1 fits) later in
                record {
                  contents = there.0.0 ∷ w.contents;
                  next = w.next;
                  missing = w.missing;
                  hold = (t.1, w.hold);
                  contents_are = (content_fits field there.0.0 there.0.1 fits, w.contents_are);
                  goes_on = ap (λ r. first ++ r) w.goes_on ∙ sym (append_assoc first there.0.1 (w.next ∷ w.missing)) ∙ ap (λ r. r ++ w.next ∷ w.missing) (sym t.0);
                  missing_are = w.missing_are;
                }
            | inr good ↦ absurd (ok_not_err (there.0.0 ∷ good.0.0, good.0.1) (fault.Cut place) good.2)
          ]
    ]

header_letters : HaveLetters header_fields
header_letters = (omega arith, (omega arith, (omega arith, (omega arith, (omega arith, tt)))))

cut_in_header : (bytes : List ℕ) (place : ℕ) (b : Bool) → AreBytes bytes → starts_with nat_eq bytes fixed_bytes ≡ b → header_at bytes ≡ Err (fault.Cut place) → EndsInHeader bytes
unfolding header_at header_fields_at
cut_in_header bytes place true f s e =
    let there = (starts_is Decides-eqb bytes fixed_bytes (starts_with nat_eq bytes fixed_bytes) refl).0 s in
    let at : header_at bytes ≡ header_fields_at (length bytes) (drop 13 bytes) = rw s refl in
    elim (bind_err (fields_at (length bytes) header_fields (drop 13 bytes)) (λ read. Ok (contents_from read.0, length bytes - length read.1)) (fault.Cut place) (sym at ∙ e)) [
      | inl later ↦
          let w = fields_end (length bytes) place header_fields (drop 13 bytes) header_letters (all_back (λ c. c < 256) fixed_bytes (drop 13 bytes) (subst AreBytes there f)) later in
          let h = from_header_fields w.contents w.hold w.contents_are in
          record {
            header = contents_from w.contents;
            after = drop 13 bytes;
            next = w.next;
            missing = w.missing;
            fit_header = h.fit_header;
            fixed_are = there;
            goes_on = ap (λ (c : List (List ℕ)). fixed_bytes ++ fields_bytes header_fields c) h.listed_again ∙ ap (λ r. fixed_bytes ++ r) w.goes_on ∙ ap (λ r. r ++ w.next ∷ w.missing) (sym there);
            missing_are = w.missing_are;
          }
      | inr good ↦ absurd (ok_not_err (contents_from good.0.0, length bytes - length good.0.1) (fault.Cut place) good.2)
    ]
cut_in_header bytes place false f s e =
    let at : header_at bytes ≡ Err fault.Raw = rw s refl in
    let same : fault.Raw ≡ fault.Cut place = err_is (HeaderContents × ℕ) fault.Raw (fault.Cut place) (sym at ∙ e) in
    absurd cc

-- ---- where some header goes on, the reading says Cut

-- another byte than a letter is there whatever follows
pub other_more : (bytes more : List ℕ) (place : ℕ) → HasOtherLetterAt bytes place → HasOtherLetterAt (bytes ++ more) place
other_more bytes more place (after, prefix, h, w) =
    let l = w.left_is in
    let here = length-append bytes more in (
      after ++ more,
      ap (λ r. r ++ more) prefix,
      omega (arith, h, here),
      record {
        done = w.done;
        contents = w.contents;
        next = w.next;
        later = w.later;
        other = w.other;
        rest = w.rest ++ more;
        fields_are = w.fields_are;
        hold = w.hold;
        bytes_are = ap (λ r. r ++ more) w.bytes_are ∙ append_assoc (fields_bytes w.done w.contents) (w.other ∷ w.rest) more;
        left_is = omega (arith, h, l, here, length-append w.rest more);
        differs = w.differs;
      },
    )

pub header_cut : (bytes : List ℕ) (r : Result (HeaderContents × ℕ) HeaderFault) → AreBytes bytes → EndsInHeader bytes → header_at bytes ≡ r → header_at bytes ≡ Err (fault.Cut (length bytes))
header_cut bytes (Ok x) f w e =
    let t = header_takes bytes x f e in
    let more = drop x.1 bytes in
    let both : header_bytes w.header ++ [] ≡ header_bytes x.0 ++ (more ++ w.next ∷ w.missing) =
    append-nil (header_bytes w.header) ∙ w.goes_on ∙ ap (λ r. r ++ w.next ∷ w.missing) t.prefix ∙ append_assoc (header_bytes x.0) more (w.next ∷ w.missing) in
    let same = header_tells w.header x.0 [] (more ++ w.next ∷ w.missing) w.fit_header t.fit_header both in
    let a = ap (λ c. length (header_bytes c)) same in
    let b = ap length w.goes_on in
    let c = ap length t.prefix in
    absurd (omega (arith, a, b, c, length-append bytes (w.next ∷ w.missing), length-append (header_bytes x.0) more))
header_cut bytes (Err fault.Raw) f w e =
    absurd ((raw_at bytes (starts_with nat_eq bytes fixed_bytes) refl).0 e w.after w.fixed_are)
header_cut bytes (Err (fault.Cut place)) f w e =
    e ∙ ap (λ n. failed (HeaderContents × ℕ) (fault.Cut n)) (cut_at bytes place (starts_with nat_eq bytes fixed_bytes) refl e)
header_cut bytes (Err (fault.Field place)) f w e =
    let other = field_at_place bytes place (starts_with nat_eq bytes fixed_bytes) f refl e in
    let refused = header_refused (bytes ++ w.next ∷ w.missing) place (other_more bytes (w.next ∷ w.missing) place other) in
    let read = header_again w.header [] w.fit_header in
    let same : header_bytes w.header ++ [] ≡ bytes ++ w.next ∷ w.missing = append-nil (header_bytes w.header) ∙ w.goes_on in
    absurd (ok_not_err (w.header, length (header_bytes w.header)) (fault.Field place) (sym read ∙ ap header_at same ∙ refused))

-- ---- the clause

pub is_cut : {X : Type 0} (view : X → HeaderContents × ℕ) (result : Result X HeaderFault) (bytes : List ℕ) → AreBytes bytes → ReturnsAs view result (header_at bytes) → (place : ℕ) →
    IsErrOf result (fault.Cut place) ↔ (place ≡ length bytes) × EndsInHeader bytes
is_cut view (Ok x) bytes f g place =
    (λ i. absurd (ok_not_err x (fault.Cut place) i), λ w. absurd (ok_not_err (view x) (fault.Cut (length bytes)) (sym g ∙ header_cut bytes (header_at bytes) f w.1 refl)))
is_cut {X = X} view (Err d) bytes f g place = (
  λ i.
      let e : header_at bytes ≡ Err (fault.Cut place) = g ∙ ap (failed (HeaderContents × ℕ)) (err_is X d (fault.Cut place) i) in
      (cut_at bytes place (starts_with nat_eq bytes fixed_bytes) refl e, cut_in_header bytes place (starts_with nat_eq bytes fixed_bytes) f refl e),
  λ w.
      let same : d ≡ fault.Cut (length bytes) = err_is (HeaderContents × ℕ) d (fault.Cut (length bytes)) (sym g ∙ header_cut bytes (header_at bytes) f w.1 refl) in
      ap (failed X) (same ∙ ap (λ n. fault.Cut n) (sym w.0)),
)
