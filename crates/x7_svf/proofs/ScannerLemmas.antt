-- A reader of a scan comes to the fields that the tokens say.
use Rattle.std.specs.Prelude.{nat_eq}
use Rattle.std.specs.Char.{to_ascii_lowercase}
use Rattle.std.proofs.Common.{◌≡◌, ℕ, ◌≤◌, ◌&&◌, nat_lt, Bool, true, false, if◌then◌else◌, List, [], ◌∷◌, ◌++◌, length, Option, Some, None, refl, ap, ap₂, sym, ◌∙◌, append_assoc, arith}
use Rattle.std.proofs.lemmas.Grind.{common_steps}
use Rattle.std.proofs.lemmas.List.Folds.{list_all-append}
use Rattle.x7_words.specs.Characters.{is_hex_digit}
use Rattle.x7_svf.specs.Token.{Token, Word, Open, Close, End}
use Rattle.x7_svf.specs.Fields.{ScanFields, are_hex, digits_before, field_by_name, joined_digits, no_fields, scan_fields, with_field, with_fields, with_named_field}
use Rattle.x7_svf.specs.Scanner.{ScanPlace, Between, Named, Inside, Scanning, after_field, after_name, closed_field, scan_step}
use Rattle.x7_svf.specs.declared.fields.ScanField.{ScanField}
use Rattle.x7_svf.specs.declared.fields.ScanField.TheVariants as field
use Rattle.x7_words.proofs.CaseLemmas.{both_true}

-- ---- token by token

-- the fields where a scan's tokens end: between two fields, and not inside one
abbrev fields_at_end : ScanPlace → ScanFields → Option ScanFields
fields_at_end Between f = Some f
fields_at_end (Named k) f = None
fields_at_end (Inside k ds) f = None

-- the fields that a reader of a scan comes to from where it stands after a step; none where no scan goes on so
abbrev pub fields_after_step : Option Scanning → (ScanPlace → ScanFields → Option ScanFields) → Option ScanFields
fields_after_step None next = None
fields_after_step (Some s) next = next s.at s.fields

-- the fields of tokens, by where they begin and the fields before them
abbrev pub scan_from : ScanPlace → ScanFields → List Token → Option ScanFields
scan_from at f [] = fields_at_end at f
scan_from at f (t ∷ ts) = fields_after_step (scan_step at f t) (λ a g. scan_from a g ts)

-- ---- the fields by where a reader stands

-- the fields with those of tokens that come after a name
abbrev named_on : ScanFields → Option ScanField → List Token → Option ScanFields
named_on f o (Open ∷ Word ds ∷ Close ∷ ts) = with_fields (with_named_field f o ds) ts
named_on f o _ = None

-- the fields with those of tokens that come after digits in brackets
abbrev inside_on : ScanFields → ScanField → List ℕ → List Token → Option ScanFields
inside_on f k ds (Close ∷ ts) = with_fields (closed_field f k ds) ts
inside_on f k ds (Word w ∷ Close ∷ ts) = if are_hex w then with_fields (closed_field f k (ds ++ w)) ts else None
inside_on f k ds _ = None

abbrev fields_on : ScanPlace → ScanFields → List Token → Option ScanFields
fields_on Between f ts = with_fields (Some f) ts
fields_on (Named k) f ts = named_on f (Some k) ts
fields_on (Inside k ds) f ts = inside_on f k ds ts

name_on : (f : ScanFields) (w : List ℕ) (ts : List Token) → named_on f (field_by_name w) ts ≡ with_fields (Some f) (Word w ∷ ts)
name_on f w [] = refl
name_on f w (Word v ∷ ts) = refl
name_on f w (Close ∷ ts) = refl
name_on f w (End ∷ ts) = refl
name_on f w (Open ∷ []) = refl
name_on f w (Open ∷ Open ∷ ts) = refl
name_on f w (Open ∷ Close ∷ ts) = refl
name_on f w (Open ∷ End ∷ ts) = refl
name_on f w (Open ∷ Word d ∷ []) = refl
name_on f w (Open ∷ Word d ∷ Word v ∷ ts) = refl
name_on f w (Open ∷ Word d ∷ Open ∷ ts) = refl
name_on f w (Open ∷ Word d ∷ End ∷ ts) = refl
name_on f w (Open ∷ Word d ∷ Close ∷ ts) = refl

none_on : (f : ScanFields) (ts : List Token) → named_on f None ts ≡ None
none_on f [] = refl
none_on f (Word v ∷ ts) = refl
none_on f (Close ∷ ts) = refl
none_on f (End ∷ ts) = refl
none_on f (Open ∷ []) = refl
none_on f (Open ∷ Open ∷ ts) = refl
none_on f (Open ∷ Close ∷ ts) = refl
none_on f (Open ∷ End ∷ ts) = refl
none_on f (Open ∷ Word d ∷ []) = refl
none_on f (Open ∷ Word d ∷ Word v ∷ ts) = refl
none_on f (Open ∷ Word d ∷ Open ∷ ts) = refl
none_on f (Open ∷ Word d ∷ End ∷ ts) = refl
none_on f (Open ∷ Word d ∷ Close ∷ ts) = refl

-- ---- no field's name is a word of hexadecimal digits

other_letter : (c n : ℕ) → is_hex_digit c ≡ true → 103 ≤ n → nat_eq (to_ascii_lowercase c) n ≡ false
other_letter c n h l = grind (arith, common_steps)

none_by : (a b c d p q r s : Bool) → a ≡ false → b ≡ false → c ≡ false → d ≡ false
    → ◌≡◌ {A = Option ScanField} (if a && p then Some field.Tdi else (if b && q then Some field.Tdo else (if c && r then Some field.Mask else (if d && s then Some field.Smask else None)))) None
none_by true b c d p q r s e f g h = absurd cc
none_by false true c d p q r s e f g h = absurd cc
none_by false false true d p q r s e f g h = absurd cc
none_by false false false true p q r s e f g h = absurd cc
none_by false false false false p q r s e f g h = refl

no_name : (w : List ℕ) → are_hex w ≡ true → field_by_name w ≡ None
no_name [] h = refl
no_name (c ∷ cs) h =
    let parts : (is_hex_digit c ≡ true) × (are_hex cs ≡ true) = both_true (is_hex_digit c) (are_hex cs) h in
    none_by _ _ _ _ _ _ _ _ (other_letter c 116 parts.0 (omega arith)) (other_letter c 116 parts.0 (omega arith)) (other_letter c 109 parts.0 (omega arith)) (other_letter c 115 parts.0 (omega arith))

-- ---- one token more

module _ (f : ScanFields) (w : List ℕ) where
  no_field : (v : List ℕ) (ts : List Token) (b : Bool) → are_hex w && are_hex v ≡ b → None ≡ with_fields (Some f) (if b then Word (w ++ v) ∷ ts else Word w ∷ Word v ∷ ts)
  no_field v ts false e = refl
  no_field v ts true e =
      let parts : (are_hex w ≡ true) × (are_hex v ≡ true) = both_true (are_hex w) (are_hex v) e in
      let hex : are_hex (w ++ v) ≡ true = list_all-append is_hex_digit w v ∙ e in
      sym (none_on f ts) ∙ sym (ap (λ (o : Option ScanField). named_on f o ts) (no_name (w ++ v) hex)) ∙ name_on f (w ++ v) ts

  named_before : (ts : List Token) → named_on f (field_by_name w) ts ≡ with_fields (Some f) (digits_before w ts)
  named_before [] = refl
  named_before (Word v ∷ ts) = no_field v ts (are_hex w && are_hex v) refl
  named_before (Open ∷ ts) = name_on f w (Open ∷ ts)
  named_before (Close ∷ ts) = refl
  named_before (End ∷ ts) = refl

  between_word : (ts : List Token) (next : ScanPlace → ScanFields → Option ScanFields) → ((k : ScanField) → next (Named k) f ≡ named_on f (Some k) ts)
      → fields_after_step (after_name f (field_by_name w)) next ≡ with_fields (Some f) (digits_before w ts)
  between_word ts next h = by (field_by_name w) ∙ named_before ts
    where
      by : (o : Option ScanField) → fields_after_step (after_name f o) next ≡ named_on f o ts
      by None = sym (none_on f ts)
      by (Some k) = h k

  named_word : (k : ScanField) (ts : List Token) → None ≡ named_on f (Some k) (digits_before w ts)
  named_word k [] = refl
  named_word k (Word v ∷ ts) = by (are_hex w && are_hex v)
    where
      by : (b : Bool) → None ≡ named_on f (Some k) (if b then Word (w ++ v) ∷ ts else Word w ∷ Word v ∷ ts)
      by true = refl
      by false = refl
  named_word k (Open ∷ ts) = refl
  named_word k (Close ∷ ts) = refl
  named_word k (End ∷ ts) = refl

opened : (f : ScanFields) (k : ScanField) (ts : List Token) → inside_on f k [] ts ≡ named_on f (Some k) (Open ∷ ts)
opened f k [] = refl
opened f k (Open ∷ ts) = refl
opened f k (Close ∷ ts) = refl
opened f k (End ∷ ts) = refl
opened f k (Word w ∷ []) = refl
opened f k (Word w ∷ Word v ∷ ts) = refl
opened f k (Word w ∷ Open ∷ ts) = refl
opened f k (Word w ∷ End ∷ ts) = refl
opened f k (Word w ∷ Close ∷ ts) = by (are_hex w)
  where
    by : (b : Bool) → (if b then with_fields (closed_field f k w) ts else None) ≡ with_fields (if b && nat_lt 0 (length w) then with_field f k w else None) ts
    by true = refl
    by false = refl

module _ (f : ScanFields) (k : ScanField) (ds w : List ℕ) where
  no_digits : (es v : List ℕ) (ts : List Token) → are_hex v ≡ false → inside_on f k es (Word v ∷ ts) ≡ None
  no_digits es v [] e = refl
  no_digits es v (Word u ∷ ts) e = refl
  no_digits es v (Open ∷ ts) e = refl
  no_digits es v (Close ∷ ts) e = ap (λ (b : Bool). if b then with_fields (closed_field f k (es ++ v)) ts else None) e
  no_digits es v (End ∷ ts) e = refl

  more_digits : (v : List ℕ) (ts : List Token) → are_hex w ≡ true → are_hex v ≡ true → inside_on f k (ds ++ w) (Word v ∷ ts) ≡ inside_on f k ds (Word (w ++ v) ∷ ts)
  more_digits v [] e g = refl
  more_digits v (Word u ∷ ts) e g = refl
  more_digits v (Open ∷ ts) e g = refl
  more_digits v (Close ∷ ts) e g =
      let hex : are_hex (w ++ v) ≡ true = list_all-append is_hex_digit w v ∙ ap₂ (λ (a : Bool) (b : Bool). a && b) e g in
      ap (λ (b : Bool). if b then with_fields (closed_field f k ((ds ++ w) ++ v)) ts else None) g
      ∙ ap (λ (es : List ℕ). with_fields (closed_field f k es) ts) (append_assoc ds w v)
      ∙ sym (ap (λ (b : Bool). if b then with_fields (closed_field f k (ds ++ (w ++ v))) ts else None) hex)
  more_digits v (End ∷ ts) e g = refl

  inside_word : (ts : List Token) (next : ScanPlace → ScanFields → Option ScanFields) → next (Inside k (ds ++ w)) f ≡ inside_on f k (ds ++ w) ts
      → fields_after_step (if are_hex w then Some (record { at = Inside k (ds ++ w); fields = f }) else None) next ≡ inside_on f k ds (digits_before w ts)
  inside_word [] next h = by (are_hex w)
    where
      by : (b : Bool) → fields_after_step (if b then Some (record { at = Inside k (ds ++ w); fields = f }) else None) next ≡ None
      by true = h
      by false = refl
  inside_word (Word v ∷ ts) next h = by (are_hex w) (are_hex v) refl refl
    where
      by : (a b : Bool) → are_hex w ≡ a → are_hex v ≡ b → fields_after_step (if a then Some (record { at = Inside k (ds ++ w); fields = f }) else None) next ≡ inside_on f k ds (if a && b then Word (w ++ v) ∷ ts else Word w ∷ Word v ∷ ts)
      by false b e g = refl
      by true false e g = h ∙ no_digits (ds ++ w) v ts g
      by true true e g = h ∙ more_digits v ts e g
  inside_word (Open ∷ ts) next h = by (are_hex w)
    where
      by : (b : Bool) → fields_after_step (if b then Some (record { at = Inside k (ds ++ w); fields = f }) else None) next ≡ None
      by true = h
      by false = refl
  inside_word (Close ∷ ts) next h = by (are_hex w)
    where
      by : (b : Bool) → fields_after_step (if b then Some (record { at = Inside k (ds ++ w); fields = f }) else None) next ≡ (if b then with_fields (closed_field f k (ds ++ w)) ts else None)
      by true = h
      by false = refl
  inside_word (End ∷ ts) next h = by (are_hex w)
    where
      by : (b : Bool) → fields_after_step (if b then Some (record { at = Inside k (ds ++ w); fields = f }) else None) next ≡ None
      by true = h
      by false = refl

closed_on : (o : Option ScanFields) (ts : List Token) (next : ScanPlace → ScanFields → Option ScanFields) → ((f : ScanFields) → next Between f ≡ with_fields (Some f) ts) → fields_after_step (after_field o) next ≡ with_fields o ts
closed_on None ts next h = refl
closed_on (Some f) ts next h = h f

-- ---- all tokens

scans_on : (ts : List Token) (at : ScanPlace) (f : ScanFields) → scan_from at f ts ≡ fields_on at f (joined_digits ts)
scans_on [] Between f = refl
scans_on [] (Named k) f = refl
scans_on [] (Inside k ds) f = refl
scans_on (Word w ∷ ts) Between f = between_word f w (joined_digits ts) (λ a g. scan_from a g ts) (λ k. scans_on ts (Named k) f)
scans_on (Word w ∷ ts) (Named k) f = named_word f w k (joined_digits ts)
scans_on (Word w ∷ ts) (Inside k ds) f = inside_word f k ds w (joined_digits ts) (λ a g. scan_from a g ts) (scans_on ts (Inside k (ds ++ w)) f)
scans_on (Open ∷ ts) Between f = refl
scans_on (Open ∷ ts) (Named k) f = scans_on ts (Inside k []) f ∙ opened f k (joined_digits ts)
scans_on (Open ∷ ts) (Inside k ds) f = refl
scans_on (Close ∷ ts) Between f = refl
scans_on (Close ∷ ts) (Named k) f = refl
scans_on (Close ∷ ts) (Inside k ds) f = closed_on (closed_field f k ds) (joined_digits ts) (λ a g. scan_from a g ts) (scans_on ts Between)
scans_on (End ∷ ts) Between f = refl
scans_on (End ∷ ts) (Named k) f = refl
scans_on (End ∷ ts) (Inside k ds) f = refl

-- the fields by the rule are those that the reader comes to
pub fields_are_scanned : (ts : List Token) → scan_fields ts ≡ scan_from Between no_fields ts
fields_are_scanned ts = sym (scans_on ts Between no_fields)
