-- A stream's first bytes, by which its header is judged.
use Rattle.std.proofs.Common.{IfSome, ◌≡◌, ◌⊎◌, ℕ, ◌+◌, ◌-◌, ◌<◌, ◌≤◌, Bool, true, false, List, [], ◌∷◌, ◌++◌, Result, Ok, Err, Option, None, Some, inl, inr, length, drop, refl, ap, sym, subst, ◌∙◌, arith, append_assoc, append-nil, length-append}
use Rattle.std.specs.Prelude.{MatchOption, nat_eq, nat_le}
use Rattle.std.proofs.lemmas.Bool.{leb-true}
use Rattle.std.specs.List.{starts_with}
use Rattle.std.proofs.Math.Seq.{drop-append_seam}
use Rattle.x7_words.specs.Input.{InputsState, AtEnd, InputsStay, TakenBy, TakesInput, preceded}
use Rattle.x7_words.specs.Word.{AreBytes}
use Rattle.x7_words.proofs.CountLemmas.{risen_from}
use Rattle.x7_words.proofs.InputLemmas.{taken_before}
use Rattle.x7_words.proofs.ListLemmas.{shorter_prefix}
use Rattle.x7_header.specs.Header.{HeaderContents, EndsInHeader, contents_in_order, fixed_bytes, HasOtherLetter, HasOtherLetterAt, FitHeaderFields, fields_bytes, header_bytes, header_fields, longest_header}
use Rattle.x7_header.specs.Reading.{HeaderWaits, header_at}
use Rattle.x7_header.specs.declared.fault.HeaderFault.{HeaderFault}
use Rattle.x7_header.specs.declared.fault.HeaderFault.TheVariants as header
use Rattle.x7_header.proofs.CutLemmas.{is_cut, other_more}
use Rattle.x7_header.proofs.HeaderLemmas.{err_is, field_at_place, header_again, header_refused, ok_not_err, raw_at}
use Rattle.x7_listing.specs.BitLine.{bit_text}
use Rattle.x7_listing.specs.Listing.{listing_of}
use Rattle.x7_listing.specs.StreamListing.{listing_by, stream_listing}
use Rattle.x7_listing.proofs.BitLemmas.{header_limit}
use Rattle.x7_forms.specs.Event.{Event, reading_failed, too_large}
use Rattle.x7_forms.specs.Known.{stream_limit}
use Rattle.x7_forms.specs.Turn.{DataBeginAt, ReadsBeginning, HoldsFew, IsBeginning, IsJudged, IsHeaderRefused, NoLetterGiven, ReadsBytes, RefusedAt, UnreadBeginning, UnreadToEnd, turn_size}
use Rattle.x7_forms.proofs.HeadLemmas.{gives_self}
use Rattle.x7_forms.proofs.ReadLemmas.{reads_as, reads_on, rest_more}

-- a stream that begins as no header does
pub raw_listed : (bytes : List ℕ) → header_at bytes ≡ Err header.Raw → stream_listing bytes ≡ Ok (listing_of bytes)
raw_listed bytes e = ap (listing_by bytes) e

-- a header that was read, whatever follows
pub headed : (bytes line : List ℕ) (x : HeaderContents) (n : ℕ) (last : Bool) → FitHeaderFields x → bytes ≡ header_bytes x ++ drop n bytes → n ≡ length (header_bytes x) → line ≡ bit_text x ++ 10 ∷ [] → IsBeginning bytes last line n
headed bytes line x n last h e size is = λ rest more.
    let whole : bytes ++ rest ≡ header_bytes x ++ (drop n bytes ++ rest) = ap (λ b. b ++ rest) e ∙ append_assoc (header_bytes x) (drop n bytes) rest in
    let read : header_at (header_bytes x ++ (drop n bytes ++ rest)) ≡ Ok (x, length (header_bytes x)) = header_again x (drop n bytes ++ rest) h in
    ap stream_listing whole ∙ ap (listing_by (header_bytes x ++ (drop n bytes ++ rest))) read
    ∙ ap (λ (b : List ℕ). Ok (bit_text x ++ 10 ∷ listing_of b)) (drop-append_seam (header_bytes x) (drop n bytes ++ rest))
    ∙ ap Ok (sym (append_assoc (bit_text x) (10 ∷ []) (listing_of (drop n bytes ++ rest))) ∙ ap (λ t. t ++ listing_of (drop n bytes ++ rest)) (sym is))

-- no header, whatever follows
raw_by : (bytes : List ℕ) → ((more : List ℕ) → bytes ≡ fixed_bytes ++ more → ⊥) → stream_listing bytes ≡ Ok (listing_of bytes)
raw_by bytes h = raw_listed bytes ((raw_at bytes (starts_with nat_eq bytes fixed_bytes) refl).1 h)

raw_more : (bytes rest : List ℕ) → 13 ≤ length bytes → ((more : List ℕ) → bytes ≡ fixed_bytes ++ more → ⊥) → (more : List ℕ) → bytes ++ rest ≡ fixed_bytes ++ more → ⊥
raw_more bytes rest long h more e = let s = shorter_prefix fixed_bytes bytes more rest long (sym e) in h s.0 s.1

pub unheaded : (bytes line : List ℕ) (n : ℕ) (last : Bool) → (last ≡ false → 13 ≤ length bytes) → ((more : List ℕ) → bytes ≡ fixed_bytes ++ more → ⊥) → line ≡ [] → n ≡ 0 → IsBeginning bytes last line n
unheaded bytes line n true long h none zero = λ rest more.
    let all : bytes ++ rest ≡ bytes = ap (λ r. bytes ++ r) (more refl) ∙ append-nil bytes in
    ap stream_listing all ∙ raw_by bytes h ∙ ap Ok (ap listing_of (sym all) ∙ ap (λ t. t ++ listing_of (bytes ++ rest)) (sym none) ∙ ap (λ k. line ++ listing_of (drop k bytes ++ rest)) (sym zero))
unheaded bytes line n false long h none zero = λ rest more.
    raw_by (bytes ++ rest) (raw_more bytes rest (long refl) h) ∙ ap Ok (ap (λ t. t ++ listing_of (bytes ++ rest)) (sym none) ∙ ap (λ k. line ++ listing_of (drop k bytes ++ rest)) (sym zero))

pub other_refused : (bytes : List ℕ) (last : Bool) (place : ℕ) → HasOtherLetterAt bytes place → IsHeaderRefused bytes last place
other_refused bytes last place h = λ rest more. ap (listing_by (bytes ++ rest)) (header_refused (bytes ++ rest) place (other_more bytes rest place h))

-- a header that the whole stream ends inside
pub cut_refused : (bytes : List ℕ) (last : Bool) (place : ℕ) → last ≡ true → header_at bytes ≡ Err (header.Cut place) → IsHeaderRefused bytes last place
cut_refused bytes last place e h = λ rest more. ap (λ r. stream_listing (bytes ++ r)) (more e) ∙ ap stream_listing (append-nil bytes) ∙ ap (listing_by bytes) h

-- bytes that end inside a header are few
pub few_in_header : (bytes : List ℕ) → EndsInHeader bytes → length bytes ≤ longest_header
few_in_header bytes h = omega (arith, header_limit h.header h.fit_header, ap length h.goes_on, length-append bytes (h.next ∷ h.missing))

-- a turn more of a stream's beginning
pub joined_taken : (old mid new : InputsState) (a b c d : List ℕ) → InputsStay mid new → TakenBy mid.contents old.rest a mid.rest → TakenBy new.contents mid.rest b new.rest → c ≡ a ++ b → d ≡ c → TakenBy new.contents old.rest d new.rest
joined_taken old mid new a b c d s e f g h = subst (λ (t : List ℕ). TakenBy new.contents old.rest t new.rest) (sym g ∙ sym h) (rest_more old mid new a b s e f)

-- ---- no byte is read after the one that judges a header

-- a prefix judges a header, whatever follows
abbrev Judge : List ℕ → Type 0
Judge prefix = (rest : List ℕ) (place : ℕ) → header_at (prefix ++ rest) ≡ Err (header.Cut place) → ⊥

-- a header that waits for n bytes more is not judged before the last byte of a piece of at most n
judged_before : (old piece prefix more : List ℕ) (n : ℕ) (b : Bool) → nat_le (length prefix) (length old) ≡ b → HeaderWaits old n → 0 < n → length piece ≤ n → old ++ piece ≡ prefix ++ more → 0 < length more → Judge prefix → ⊥
judged_before old piece prefix more n true l w p k e m j =
    let s = shorter_prefix prefix old more piece (leb-true _ _ l) (sym e) in
    j s.0 (length (old ++ [])) (ap header_at (sym s.1 ∙ sym (append-nil old)) ∙ w [] p)
judged_before old piece prefix more n false l w p k e m j =
    let less : length old ≤ length prefix = grind (arith, l) in
    let s = shorter_prefix old prefix piece more less e in
    let long : length s.0 < n = omega (arith, k, m, ap length e, ap length s.1, length-append old piece, length-append prefix more, length-append old s.0) in
    j [] (length (old ++ s.0)) (ap header_at (append-nil prefix ∙ s.1) ∙ w s.0 long)

header_judges : (x : HeaderContents) → FitHeaderFields x → Judge (header_bytes x)
header_judges x h rest place e = ok_not_err (x, length (header_bytes x)) (header.Cut place) (sym (header_again x rest h) ∙ e)

letter_judges : (bytes : List ℕ) (place : ℕ) → HasOtherLetterAt bytes place → Judge bytes
letter_judges bytes place h rest at e =
    let same : header.Field place ≡ header.Cut at = err_is (HeaderContents × ℕ) (header.Field place) (header.Cut at) (sym (header_refused (bytes ++ rest) place (other_more bytes rest place h)) ∙ e) in
    absurd cc

-- bytes that were read of a stream whose header was not judged yet, as many as it waited for at most
pub record IsPiece (old piece bytes : List ℕ) (n : ℕ) : Type 0 where
  pub joined : bytes ≡ old ++ piece
  pub short : length piece ≤ n
  pub some : 0 < n
  pub fixed : length old < 13 → length old + n ≡ 13
  pub waiting : (old ≡ []) ⊎ EndsInHeader old
  pub waits : EndsInHeader old → HeaderWaits old n

-- a prefix of the `bytes` of an `IsPiece` that judges the header is all of them
first_judged : (old piece bytes prefix more : List ℕ) (n : ℕ) → IsPiece old piece bytes n → 13 ≤ length prefix → bytes ≡ prefix ++ more → Judge prefix → more ≡ []
first_judged old piece bytes prefix [] n p l e j = refl
first_judged old piece bytes prefix (x ∷ more) n p l e j = elim p.waiting [
  | inl none ↦ absurd (omega (arith, l, p.short, p.fixed, ap length none, ap length p.joined, ap length e, length-append old piece, length-append prefix (x ∷ more)))
  | inr inside ↦ absurd (judged_before old piece prefix (x ∷ more) n (nat_le (length prefix) (length old)) refl (p.waits inside) p.some p.short (sym p.joined ∙ e) (omega arith) j)
]

fixed_long : (after : List ℕ) → 13 ≤ length (fixed_bytes ++ after)
fixed_long after = omega (arith, length-append fixed_bytes after)

pub holds_few : (old piece bytes : List ℕ) (n start : ℕ) → IsPiece old piece bytes n → DataBeginAt bytes start → HoldsFew bytes start
holds_few old piece bytes n start p (inl (x, h, e, size)) =
    let none = first_judged old piece bytes (header_bytes x) (drop start bytes) n p (fixed_long (fields_bytes header_fields (contents_in_order x))) e (header_judges x h) in
    inl (omega (arith, size, ap length e, ap length none, length-append (header_bytes x) (drop start bytes)))
holds_few old piece bytes n start p (inr (zero, raw)) = elim p.waiting [
  | inl none ↦ inr (zero, omega (arith, p.short, p.fixed, ap length none, ap length p.joined, length-append old piece))
  | inr inside ↦ absurd (raw (inside.after ++ piece) (p.joined ∙ ap (λ b. b ++ piece) inside.fixed_are ∙ append_assoc fixed_bytes inside.after piece))
]

-- the bytes up to a wrong letter, which judge a header
record LetterFront (bytes : List ℕ) (place : ℕ) : Type 0 where
  prefix : List ℕ
  more : List ℕ
  parts : bytes ≡ prefix ++ more
  size : length prefix ≡ place + 1
  long : 13 ≤ length prefix
  judges : Judge prefix

letter_prefix : (bytes : List ℕ) (place : ℕ) → HasOtherLetterAt bytes place → LetterFront bytes place
letter_prefix bytes place h =
    let o : HasOtherLetter header_fields h.0 (length bytes - place) = h.3 in
    let before = fields_bytes o.done o.contents in
    let after = before ++ o.other ∷ [] in
    let prefix = fixed_bytes ++ after in
    let e : bytes ≡ prefix ++ o.rest = h.1 ∙ ap (λ b. fixed_bytes ++ b) (o.bytes_are ∙ sym (append_assoc before (o.other ∷ []) o.rest)) ∙ sym (append_assoc fixed_bytes after o.rest) in
    let all : length bytes ≡ length prefix + length o.rest = omega (arith, ap length e, length-append prefix o.rest) in
    let at : length prefix ≡ place + 1 = omega (arith, all, h.2, o.left_is) in
    let there : HasOtherLetterAt prefix place = (
      after,
      refl,
      omega (arith, at),
      record {
        done = o.done;
        contents = o.contents;
        next = o.next;
        later = o.later;
        other = o.other;
        rest = [];
        fields_are = o.fields_are;
        hold = o.hold;
        bytes_are = refl;
        left_is = omega (arith, at);
        differs = o.differs;
      },
    ) in
    record { prefix = prefix; more = o.rest; parts = e; size = at; long = fixed_long after; judges = letter_judges prefix place there }

pub refused_soon : (old piece bytes : List ℕ) (n place : ℕ) → IsPiece old piece bytes n → RefusedAt bytes place → length bytes ≤ place + 1
refused_soon old piece bytes n place p (inl e) = omega (arith, e)
refused_soon old piece bytes n place p (inr h) =
    let f = letter_prefix bytes place h in
    let none = first_judged old piece bytes f.prefix f.more n p f.long f.parts f.judges in
    omega (arith, f.size, ap length f.parts, ap length none, length-append f.prefix f.more)

-- ---- a fault before the header is judged

-- a header that waits for n bytes more after `old` is judged by no prefix that is shorter than `old` and these n
judged_late : (old rest prefix more : List ℕ) (n : ℕ) (b : Bool) → nat_le (length prefix) (length old) ≡ b → HeaderWaits old n → 0 < n → old ++ rest ≡ prefix ++ more → Judge prefix → length prefix < length old + n → ⊥
judged_late old rest prefix more n true l w p e j k =
    let s = shorter_prefix prefix old more rest (leb-true _ _ l) (sym e) in
    j s.0 (length (old ++ [])) (ap header_at (sym s.1 ∙ sym (append-nil old)) ∙ w [] p)
judged_late old rest prefix more n false l w p e j k =
    let less : length old ≤ length prefix = grind (arith, l) in
    let s = shorter_prefix old prefix rest more less e in
    let long : length s.0 < n = omega (arith, k, ap length s.1, length-append old s.0) in
    j [] (length (old ++ s.0)) (ap header_at (append-nil prefix ∙ s.1) ∙ w s.0 long)

-- a wrong letter stands no earlier than the last byte that was asked for
pub letter_late : (old rest all : List ℕ) (n place : ℕ) → 0 < n → all ≡ old → (length all < 13 → length all + n ≡ 13) → (EndsInHeader all → HeaderWaits all n) → (0 < length old → EndsInHeader old)
    → HasOtherLetterAt (old ++ rest) place → length old + n ≤ place + 1
letter_late [] rest all n place some e fixed waits waiting h =
    let f = letter_prefix rest place h in
    omega (arith, ap length e, fixed, f.long, f.size)
letter_late (x ∷ old) rest all n place some e fixed waits waiting h =
    let f = letter_prefix ((x ∷ old) ++ rest) place h in
    let w : HeaderWaits (x ∷ old) n = subst (λ (o : List ℕ). EndsInHeader o → HeaderWaits o n) e waits (waiting (omega arith)) in
    by (nat_le (length (x ∷ old) + n) (place + 1)) refl f w
  where
    by : (b : Bool) → nat_le (length (x ∷ old) + n) (place + 1) ≡ b → LetterFront ((x ∷ old) ++ rest) place → HeaderWaits (x ∷ old) n → length (x ∷ old) + n ≤ place + 1
    by true l f w = leb-true _ _ l
    by false l f w =
        let less : place + 1 < length (x ∷ old) + n = grind (arith, l) in
        absurd (judged_late (x ∷ old) rest f.prefix f.more n (nat_le (length f.prefix) (length (x ∷ old))) refl w some f.parts f.judges (omega (arith, f.size, less)))

-- no letter at which a header would be refused was given, where the bytes before were read and fewer more were given
-- than are wanted
pub none_given : (old mid new : InputsState) (bytes all : List ℕ) (n count : ℕ) → 0 < n → count ≤ n → all ≡ bytes → (length all < 13 → length all + n ≡ 13) → (EndsInHeader all → HeaderWaits all n) → (0 < length bytes → EndsInHeader bytes)
    → InputsStay mid new → ReadsBytes old bytes mid → new.given < mid.given + count → NoLetterGiven old new
none_given old mid new bytes all n count some few e fixed waits waiting s r g = at new.contents (taken_before mid.contents new.contents old.rest bytes mid.rest s.map r.takes.taken)
  where
    by : (known : List ℕ) (place : ℕ) → old.rest ≡ preceded bytes mid.rest → old.rest ≡ Some known → HasOtherLetterAt known place → (rest : Option (List ℕ)) → mid.rest ≡ rest → new.given ≤ old.given + place
    by known place taken is h None m = let none : None ≡ Some known = ap (preceded bytes) (sym m) ∙ sym taken ∙ is in absurd cc
    by known place taken is h (Some rest) m =
        let same : Some (bytes ++ rest) ≡ Some known = ap (preceded bytes) (sym m) ∙ sym taken ∙ is in
        let whole : known ≡ bytes ++ rest = cc in
        let late = letter_late bytes rest all n place some e fixed waits waiting (subst (λ (b : List ℕ). HasOtherLetterAt b place) whole h) in
        omega (arith, g, few, r.takes.given, late)

    at : (contents : Option (List ℕ → Option (List ℕ))) → TakenBy contents old.rest bytes mid.rest → IfSome contents (λ map. (known : List ℕ) (place : ℕ) → old.rest ≡ Some known → HasOtherLetterAt known place → new.given ≤ old.given + place)
    at None taken = tt
    at (Some map) taken = λ known place is h. by known place taken is h mid.rest refl

-- a header that is refused at a byte that is there is refused at a wrong letter
pub letter_there : (bytes : List ℕ) (place : ℕ) → AreBytes bytes → stream_listing bytes ≡ Err place → place < length bytes → HasOtherLetterAt bytes place
letter_there bytes place fits e l = by (header_at bytes) refl
  where
    by : (r : Result (HeaderContents × ℕ) HeaderFault) → header_at bytes ≡ r → HasOtherLetterAt bytes place
    by (Ok head) h = let no : listing_by bytes (Ok head) ≡ Err place = sym (ap (listing_by bytes) h) ∙ e in absurd cc
    by (Err header.Raw) h = let no : listing_by bytes (Err header.Raw) ≡ Err place = sym (ap (listing_by bytes) h) ∙ e in absurd cc
    by (Err (header.Field at)) h =
        let same : listing_by bytes (Err (header.Field at)) ≡ Err place = sym (ap (listing_by bytes) h) ∙ e in
        let there : at ≡ place = cc in
        subst (HasOtherLetterAt bytes) there (field_at_place bytes at (starts_with nat_eq bytes fixed_bytes) fits refl h)
    by (Err (header.Cut at)) h =
        let same : listing_by bytes (Err (header.Cut at)) ≡ Err place = sym (ap (listing_by bytes) h) ∙ e in
        let there : at ≡ place = cc in
        let end = ((is_cut (λ (x : HeaderContents × ℕ). x) (header_at bytes) bytes fits (gives_self (header_at bytes)) at).0 h).0 in
        absurd (omega (arith, end, there, l))

-- an option that is `Some`, by what `MatchOption` says of its value
pub found_some : {A : Type 0} (found : Option A) (x : A) (P : Type 0) (Q : A → Type 0) → found ≡ Some x → MatchOption found P Q → Q x
found_some (Some y) x P Q e m = subst Q (let same : y ≡ x = cc in same) m
found_some None x P Q e m = absurd cc

-- an option that is `None`, by what `MatchOption` says of it
pub found_none : {A : Type 0} (found : Option A) (P : Type 0) (Q : A → Type 0) → found ≡ None → MatchOption found P Q → P
found_none None P Q e m = m
found_none (Some x) P Q e m = absurd cc

-- a piece as the turn read it
pub piece_of : (old mid piece all bytes : List ℕ) (n : ℕ) → mid ≡ old ++ piece → bytes ≡ mid → length piece ≤ n → 0 < n → all ≡ old → (length all < 13 → length all + n ≡ 13) → (EndsInHeader all → HeaderWaits all n)
    → (0 < length old → EndsInHeader old) → IsPiece old piece bytes n
piece_of [] mid piece all bytes n a b c e s f h g = record {
  joined = b ∙ a;
  short = c;
  some = e;
  fixed = subst (λ (o : List ℕ). length o < 13 → length o + n ≡ 13) s f;
  waiting = inl refl;
  waits = subst (λ (o : List ℕ). EndsInHeader o → HeaderWaits o n) s h;
}
piece_of (x ∷ old) mid piece all bytes n a b c e s f h g = record {
  joined = b ∙ a;
  short = c;
  some = e;
  fixed = subst (λ (o : List ℕ). length o < 13 → length o + n ≡ 13) s f;
  waiting = inr (g (omega arith));
  waits = subst (λ (o : List ℕ). EndsInHeader o → HeaderWaits o n) s h;
}

-- the beginning that was read
pub beginning_read : (old mid piece bytes line : List ℕ) (n start : ℕ) (last : Bool) (s0 s1 s2 : InputsState) → IsPiece old piece bytes n → mid ≡ old ++ piece → bytes ≡ mid → ReadsBytes s0 old s1
    → TakesInput s1 piece s2 → s2.asked ≡ s1.asked → InputsStay s1 s2 → (last ≡ true → AtEnd s2.rest) → (last ≡ false → s2.ends ≤ s0.ends)
    → length old ≤ longest_header → length piece ≤ turn_size → IsJudged bytes last line start → ReadsBeginning (record { bytes = mid; line = line; start = start; last = last }) s0 s2
beginning_read old mid piece bytes line n start last s0 s1 s2 p a b r t q k e more few short j =
    subst (λ (m : List ℕ). ReadsBeginning (record { bytes = m; line = line; start = start; last = last }) s0 s2) b (record {
      reads = reads_as s0 s2 bytes (old ++ piece) (b ∙ a) (reads_on s0 s1 s2 old piece r t q k);
      end = e;
      no_end_read = more;
      within = j.within;
      short = omega (arith, few, short, ap length (b ∙ a), length-append old piece);
      holds_few = holds_few old piece bytes n start p j.data_begin;
      begins = j.begins;
    })

-- a turn that was not read, before the header was judged
pub unread_turn : (old mid new : InputsState) (name bytes : List ℕ) (left : ℕ) (event : Event) → ReadsBytes old bytes mid → length bytes + left ≡ stream_limit → new.asked ≡ mid.asked
    → (event ≡ too_large name → ⊥) → (event ≡ reading_failed name → NoLetterGiven old new) → UnreadToEnd mid name new left event → UnreadBeginning old name new event
unread_turn old mid new name bytes left event r n q small late (inl h) =
    inr (inl (h.0, record { risen = risen_from old.faults mid.faults new.faults r.stays.faults h.1.risen; selected = h.1.selected; given = omega (arith, n, r.takes.given, h.1.given) }, q ∙ r.asked, late h.0))
unread_turn old mid new name bytes left event r n q small late (inr h) = absurd (small h.0)

-- what was read, by its parts
pub reads_by : (old new : InputsState) (bytes : List ℕ) → new.selected ≡ true → TakenBy new.contents old.rest bytes new.rest → new.given ≤ old.given + length bytes → new.asked ≡ old.asked → InputsStay old new → new.selects ≡ old.selects → ReadsBytes old bytes new
reads_by old new bytes s t g q k c = record { takes = record { selected = s; taken = t; given = g; selects = c }; asked = q; stays = k }
