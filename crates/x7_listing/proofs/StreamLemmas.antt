-- The listing of a stream assembles back to the stream, its header included.
use Rattle.std.proofs.Common.{◌≡◌, ℕ, ◌-◌, ◌<◌, ◌≤◌, ◌/◌, ◌%◌, true, List, [], ◌∷◌, ◌++◌, Result, Ok, Err, inl, inr, length, map, drop, refl, ap, sym, subst, ◌∙◌, arith, length-append}
use Rattle.std.specs.Fmt.{decimal}
use Rattle.std.specs.List.{AllByRecursion}
use Rattle.x7_words.specs.Word.{AreBytes, bytes_of_word}
use Rattle.x7_words.proofs.ListLemmas.{all_back, all_prefix}
use Rattle.x7_header.specs.Header.{HeaderContents, field_bytes, fixed_bytes, FitHeaderFields, header_bytes, FieldKind}
use Rattle.x7_header.specs.Reading.{header_at}
use Rattle.x7_header.specs.declared.fault.HeaderFault.{HeaderFault}
use Rattle.x7_header.specs.declared.fault.HeaderFault.TheVariants as fault
use Rattle.x7_header.proofs.HeaderLemmas.{header_takes, IsPrefix}
use Rattle.x7_text.specs.Lines.{has_no_end, split}
use Rattle.x7_text.proofs.PieceLemmas.{free_both, hex_free}
use Rattle.x7_text.proofs.SplitLemmas.{split_line}
use Rattle.x7_listing.specs.Assembly.{asm_limit, AssembleTo, HasNoHeaderLine, IsAsm, IsHeaded}
use Rattle.x7_listing.specs.BitLine.{bit_text, field_text, FitsHeader}
use Rattle.x7_listing.specs.Line.{Line, FitsLine, text_of}
use Rattle.x7_listing.specs.Listing.{listing_of}
use Rattle.x7_listing.specs.StreamListing.{listing_by, stream_listing}
use Rattle.x7_listing.proofs.BitLemmas.{no_line}
use Rattle.x7_listing.proofs.RoundLemmas.{round_trip}
use Rattle.x7_listing.proofs.line.LineTextLemmas.{decimal_free}

-- a header's line holds no line end
field_free : (bs : List ℕ) → has_no_end (field_text bs) ≡ true
field_free [] = refl
field_free (b ∷ bs) = hex_free (b ∷ bs)

field_more : (bs rest : List ℕ) → has_no_end rest ≡ true → has_no_end (field_text bs ++ 32 ∷ rest) ≡ true
field_more bs rest h = free_both (field_text bs) (32 ∷ rest) (field_free bs) h

pub bit_free : (x : HeaderContents) → FitHeaderFields x → has_no_end (bit_text x) ≡ true
bit_free x h = field_more x.a (field_text x.b ++ 32 ∷ (field_text x.c ++ 32 ∷ (field_text x.d ++ 32 ∷ decimal x.data_length)))
    (field_more x.b (field_text x.c ++ 32 ∷ (field_text x.d ++ 32 ∷ decimal x.data_length))
    (field_more x.c (field_text x.d ++ 32 ∷ decimal x.data_length) (field_more x.d (decimal x.data_length) (decimal_free x.data_length (omega (arith, h.data_length))))))

-- the bytes of a header are those of its fields
first_bytes : (letter : ℕ) (x rest : List ℕ) → AreBytes (field_bytes (record { letter = letter; kind = FieldKind.Counted }) x ++ rest) → AreBytes x × AreBytes rest
first_bytes letter x rest a =
    let b = all_prefix (λ c. c < 256) (field_bytes (record { letter = letter; kind = FieldKind.Counted }) x) rest a in
    (all_back (λ c. c < 256) (letter ∷ length x / 256 ∷ length x % 256 ∷ []) x b, all_back (λ c. c < 256) (field_bytes (record { letter = letter; kind = FieldKind.Counted }) x) rest a)

pub fitting_header : (x : HeaderContents) → FitHeaderFields x → AreBytes (header_bytes x) → FitsHeader x
fitting_header x h all =
    let e = field_bytes (record { letter = 0x65; kind = FieldKind.Four }) (bytes_of_word x.data_length) ++ [] in
    let d = field_bytes (record { letter = 0x64; kind = FieldKind.Counted }) x.d ++ e in
    let c = field_bytes (record { letter = 0x63; kind = FieldKind.Counted }) x.c ++ d in
    let b = field_bytes (record { letter = 0x62; kind = FieldKind.Counted }) x.b ++ c in
    let a = field_bytes (record { letter = 0x61; kind = FieldKind.Counted }) x.a ++ b in
    let fields : AreBytes a = all_back (λ k. k < 256) fixed_bytes a all in
    let in_a = first_bytes 0x61 x.a b fields in
    let in_b = first_bytes 0x62 x.b c in_a.1 in
    let in_c = first_bytes 0x63 x.c d in_b.1 in
    let in_d = first_bytes 0x64 x.d e in_c.1 in
    record { fields_fit = h; a = in_a.0; b = in_b.0; c = in_c.0; d = in_d.0 }

-- no listing begins with a header's line
none_first : (lines : List Line) (texts : List (List ℕ)) → AllByRecursion FitsLine lines → texts ≡ map text_of lines ++ [] → HasNoHeaderLine texts
none_first [] texts a e x others h is = let no : ◌≡◌ {A = List (List ℕ)} [] (bit_text x ∷ others) = sym e ∙ is in absurd cc
none_first (l ∷ ls) texts a e x others h is =
    let parts : text_of l ∷ (map text_of ls ++ []) ≡ bit_text x ∷ others = sym e ∙ is in
    let same : bit_text x ≡ text_of l = cc in no_line x l (record { fits = a.0; text_is = same })

pub no_head : (limit : ℕ) (texts : List (List ℕ)) (bytes : List ℕ) → AssembleTo limit texts bytes → HasNoHeaderLine texts
no_head limit texts bytes h = none_first h.lines texts h.begins.fits h.begins.texts

headed : (b : List ℕ) (head : HeaderContents × ℕ) → IsPrefix b head → AreBytes b → length b ≤ asm_limit → IsHeaded (split (bit_text head.0 ++ 10 ∷ listing_of (drop head.1 b))) (Ok b)
headed b head p a h =
    let whole : AreBytes (header_bytes head.0 ++ drop head.1 b) = subst AreBytes p.prefix a in
    let fits : AreBytes (drop head.1 b) = all_back (λ c. c < 256) (header_bytes head.0) (drop head.1 b) whole in
    record {
      header = head.0;
      fits = fitting_header head.0 p.fit_header (all_prefix (λ c. c < 256) (header_bytes head.0) (drop head.1 b) whole);
      others = split (listing_of (drop head.1 b));
      texts = split_line (bit_text head.0) (listing_of (drop head.1 b)) (bit_free head.0 p.fit_header);
      follows = record { rest = Ok (drop head.1 b); lines = round_trip (asm_limit - length (header_bytes head.0)) (drop head.1 b) fits (omega (arith, h, ap length p.prefix, length-append (header_bytes head.0) (drop head.1 b))); outcome_is = ap Ok p.prefix };
    }

back_by : (b text : List ℕ) (r : Result (HeaderContents × ℕ) HeaderFault) → header_at b ≡ r → AreBytes b → length b ≤ asm_limit → listing_by b r ≡ Ok text → IsAsm text (Ok b)
back_by b text (Ok head) e a h is = subst (λ t. IsAsm t (Ok b)) (ok_text (bit_text head.0 ++ 10 ∷ listing_of (drop head.1 b)) text is) (inl (headed b head (header_takes b head a e) a h))
  where
    ok_text : (s t : List ℕ) → ◌≡◌ {A = Result (List ℕ) ℕ} (Ok s) (Ok t) → s ≡ t
    ok_text s t f = cc
back_by b text (Err fault.Raw) e a h is = subst (λ t. IsAsm t (Ok b)) (ok_text (listing_of b) text is) (inr (no_head asm_limit (split (listing_of b)) b (round_trip asm_limit b a h), round_trip asm_limit b a h))
  where
    ok_text : (s t : List ℕ) → ◌≡◌ {A = Result (List ℕ) ℕ} (Ok s) (Ok t) → s ≡ t
    ok_text s t f = cc
back_by b text (Err (fault.Cut place)) e a h is = absurd cc
back_by b text (Err (fault.Field place)) e a h is = absurd cc

pub stream_back : (b text : List ℕ) → AreBytes b → length b ≤ asm_limit → stream_listing b ≡ Ok text → IsAsm text (Ok b)
stream_back b text a h is = back_by b text (header_at b) refl a h is
