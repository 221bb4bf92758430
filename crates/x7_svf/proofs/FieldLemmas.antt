-- One token more of a scan, by where its reader stands.
use Rattle.std.specs.Prelude.{IfSome}
use Rattle.std.proofs.Common.{◌≡◌, ℕ, ◌≤◌, Bool, true, if◌then◌else◌, List, ◌∷◌, ◌++◌, length, drop, Option, Some, None, refl, ap, sym, subst, ◌∙◌, arith}
use Rattle.std.proofs.lemmas.List.{drop-append-le}
use Rattle.x7_svf.specs.Fields.{ScanFields, are_hex}
use Rattle.x7_svf.specs.Scanner.{Between, Inside, Named, Scanning, scan_step}
use Rattle.x7_svf.specs.Token.{Token, token_of}
use Rattle.x7_svf.specs.Span.{AreWithin, StaysSaved, scan_place_of, fields_of, scanning_of}
use Rattle.x7_svf.specs.declared.fields.ScanField.{ScanField}
use Rattle.x7_svf.specs.declared.fields.FieldSpans.{FieldSpans}
use Rattle.x7_svf.specs.declared.fields.ScannerPlace.{ScannerPlace}
use Rattle.x7_svf.specs.declared.fields.Scanner.{Scanner}
use Rattle.x7_svf.specs.declared.token.NextToken.{NextToken}
use Rattle.x7_svf.specs.declared.token.NextToken.TheVariants as next_token
use Rattle.x7_svf.proofs.ScannerLemmas.{fields_after_step, scan_from}
use Rattle.x7_svf.proofs.SpanLemmas.{more_stays, option_stays}

-- a step at an equal place and of an equal token is the same
pub step_at : (saved rest : List ℕ) (g : FieldSpans) (p q : ScannerPlace) (t u : NextToken) → p ≡ q → t ≡ u → scan_step (scan_place_of saved q) (fields_of saved g) (token_of u rest) ≡ scan_step (scan_place_of saved p) (fields_of saved g) (token_of t rest)
step_at saved rest g p q t u e f = sym (λ i. scan_step (scan_place_of saved (e i)) (fields_of saved g) (token_of (f i) rest))

pub none_between : (f : ScanFields) (t : NextToken) (rest : List ℕ) → ((n : ℕ) → t ≡ next_token.Word n → ⊥) → None ≡ scan_step Between f (token_of t rest)
none_between f (next_token.Word n) rest not = absurd (not n refl)
none_between f next_token.Open rest not = refl
none_between f next_token.Close rest not = refl
none_between f next_token.End rest not = refl

pub none_named : (k : ScanField) (f : ScanFields) (t : NextToken) (rest : List ℕ) → (t ≡ next_token.Open → ⊥) → None ≡ scan_step (Named k) f (token_of t rest)
none_named k f (next_token.Word n) rest not = refl
none_named k f next_token.Open rest not = absurd (not refl)
none_named k f next_token.Close rest not = refl
none_named k f next_token.End rest not = refl

pub none_inside : (k : ScanField) (ds : List ℕ) (f : ScanFields) (t : NextToken) (rest : List ℕ) → ((n : ℕ) → t ≡ next_token.Word n → ⊥) → (t ≡ next_token.Close → ⊥) → None ≡ scan_step (Inside k ds) f (token_of t rest)
none_inside k ds f (next_token.Word n) rest word not = absurd (word n refl)
none_inside k ds f next_token.Open rest word not = refl
none_inside k ds f next_token.Close rest word not = absurd (not refl)
none_inside k ds f next_token.End rest word not = refl

pub none_holds : {A : Type 0} (o : Option A) (P : A → Type 0) → o ≡ None → IfSome o P
none_holds o P e = subst (λ x. IfSome x P) (sym e) tt

fields_stay : (a b : List ℕ) → StaysSaved a b → (g : FieldSpans) → AreWithin (length a) g → fields_of b g ≡ fields_of a g
fields_stay a b f g w = λ i. record {
  tdi = option_stays a b f g.tdi w.0 i;
  tdo = option_stays a b f g.tdo w.1 i;
  mask = option_stays a b f g.mask w.2 i;
  smask = option_stays a b f g.smask w.3 i;
}

pub fields_more : (n m : ℕ) (g : FieldSpans) → n ≤ m → AreWithin n g → AreWithin m g
fields_more n m g l w = (omega (arith, l, w.0), omega (arith, l, w.1), omega (arith, l, w.2), omega (arith, l, w.3))

-- more digits are saved inside brackets: they come after the field's digits before
pub digits_more : (saved more : List ℕ) (b : List ℕ) (g : FieldSpans) (k : ScanField) (from : ℕ) → b ≡ saved ++ more → from ≤ length saved → AreWithin (length saved) g → are_hex more ≡ true
    → ◌≡◌ {A = Option Scanning} (Some (record { at = Inside k (drop from b); fields = fields_of b g })) (if are_hex more then Some (record { at = Inside k (drop from saved ++ more); fields = fields_of saved g }) else None)
digits_more saved more b g k from e l w h =
    let digits : drop from b ≡ drop from saved ++ more = ap (drop from) e ∙ drop-append-le from saved more l in
    let same : fields_of b g ≡ fields_of saved g = fields_stay saved b (more_stays saved b more e) g w in
    let scanning : ◌≡◌ {A = Scanning} (record { at = Inside k (drop from b); fields = fields_of b g }) (record { at = Inside k (drop from saved ++ more); fields = fields_of saved g }) = λ i. record { at = Inside k (digits i); fields = same i } in
    ap (λ (s : Scanning). Some s) scanning
    ∙ sym (ap {B = Option Scanning} (λ (test : Bool). if test then Some (record { at = Inside k (drop from saved ++ more); fields = fields_of saved g }) else None) h)

-- the fields of tokens of which the first was taken
pub scan_on : (a b : List ℕ) (s next : Scanner) (ms left : List Token) (m : Token) (all : Option ScanFields) → all ≡ scan_from (scan_place_of a s.place) (fields_of a s.spans) ms → ms ≡ m ∷ left
    → scanning_of b (Some next) ≡ scan_step (scan_place_of a s.place) (fields_of a s.spans) m → all ≡ scan_from (scan_place_of b next.place) (fields_of b next.spans) left
scan_on a b s next ms left m all h e is =
    h ∙ ap (scan_from (scan_place_of a s.place) (fields_of a s.spans)) e ∙ sym (ap (λ (o : Option Scanning). fields_after_step o (λ x g. scan_from x g left)) is)
