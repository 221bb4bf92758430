-- The first fault of a part file, and the part of one in which no check finds a fault.
use Rattle.std.proofs.Common.{◌≡◌, ℕ, ◌+◌, ◌*◌, ◌≤◌, nat_le, leb-true, List, [], ◌∷◌, length, Bool, true, false, Option, Some, None, inl, inr, refl, sym, ap, ◌∙◌, arith}
use Rattle.std.specs.Prelude.{◌⊎◌, All, Result, Ok, Err, IsUtf8, if◌then◌else◌, IsErr, IsErrAnd, IfErr, IfOk}
use Rattle.std.specs.Result.{result_err}
use Rattle.std.specs.Str.{is_utf8}
use Rattle.std.specs.List.{sum_by, sum}
use Rattle.std.proofs.lemmas.Bool.{and_parts, false≢true}
use Rattle.std.proofs.lemmas.List.{length-map}
use Rattle.std.proofs.lemmas.List.Sorted.{length_permutation}
use Rattle.std.proofs.lemmas.Str.{IsUtf8-from_is_utf8, is_utf8-from_IsUtf8}
use Rattle.toml.specs.Data.{Members}
use Rattle.toml.specs.Parse.{parse_document}
use Rattle.x7_part.specs.declared.fault.PartFault.{PartFault}
use Rattle.x7_part.specs.declared.fault.PartFault.TheVariants.{Toml, TooMany, NoMemory}
use Rattle.x7_part.specs.declared.fault.PartKey.TheVariants as key
use Rattle.x7_part.specs.Limits.{most_name_size, most_rows, most_frames, most_words}
use Rattle.x7_part.specs.Part.{RowData, PartData}
use Rattle.x7_part.specs.Ranges.{IsPart}
use Rattle.x7_part.specs.Address.{IsRow}
use Rattle.x7_part.specs.AddressOrder.{addresses}
use Rattle.x7_part.specs.Values.{text, row_tables, row_of, settings_in, rows_in_file, part_data, part_with}
use Rattle.x7_part.specs.declared.settings.PartSettings.{PartSettings}
use Rattle.x7_part.specs.PartChecks.{AnswersDue, unless, first_of, rows_fault, row_range_fault, type_fault, other_fault, top_range_fault, range_fault}
use Rattle.x7_part.specs.Row.{same_row_fault, has_few_frames, frames_fault, sorted_rows}
use Rattle.x7_part.specs.PartFile.{first_fault, part_in, part_of_table, part_unless, part_from}
use Rattle.x7_part.proofs.FirstLemmas.{first_alone}
use Rattle.x7_part.proofs.OrderLemmas.{unless_none, ordered, frames_sum, frames_permutation}
use Rattle.x7_part.proofs.SortLemmas.{ordered_same, ordered_sorted}
use Rattle.x7_part.proofs.RangeLemmas.{nones, name_in, long_in, printed, far_is, rows_are, top_ranges}

-- ---- the part

few : (words frames rows : ℕ) → has_few_frames words frames rows ≡ true → (frames ≤ most_frames) × (words * (frames + 2 * rows) ≤ most_words)
few words frames rows h =
    let p = and_parts (nat_le frames most_frames) (nat_le (words * (frames + 2 * rows)) most_words) h in
    (leb-true frames most_frames p.0, leb-true (words * (frames + 2 * rows)) most_words p.1)

made : (t : Members) → type_fault t ≡ None → other_fault t ≡ None → range_fault t ≡ None → same_row_fault [] (rows_in_file t) ≡ None →
    frames_fault (part_with t (rows_in_file t)) ≡ None → IsPart (part_from t)
unfolding range_fault part_from
made t types others ranges apart frames =
    let s = settings_in t in
    let name = text key.Name t in
    let tables = row_tables t in
    let rows = rows_in_file t in
    let sorted = sorted_rows s.field_widths rows in
    let each = nones (top_range_fault t ∷ rows_fault row_range_fault 1 tables ∷ []) ranges in
    let h = top_ranges t each.0 in
    let named = name_in name h.name in
    let long = long_in 1 most_name_size (length name) named.0 in
    let lock = h.lock in
    let matched = h.matched in
    let widths = far_is t h.widths in
    let many = h.rows in
    let count : length rows ≡ length tables = length-map tables row_of in
    let same = ordered_same s.field_widths rows in
    let are = ordered s.field_widths rows sorted widths (rows_are 1 tables each.1.0) apart same (ordered_sorted s.field_widths rows) in
    let l : length sorted ≡ length rows = length_permutation rows sorted same in
    let n : length (addresses s.field_widths sorted) ≡ length (addresses s.field_widths rows) = frames_permutation s.field_widths rows sorted same in
    let fits = few s.frame_words (length (addresses s.field_widths rows)) (length rows) (unless_none (has_few_frames s.frame_words (length (addresses s.field_widths rows)) (length rows)) (TooMany (length (addresses s.field_widths rows))) frames) in
    record {
      named = long.0;
      short = long.1;
      printed = printed name named.1;
      idcode = (let i = h.idcode.0 in omega arith);
      odd = h.idcode.1;
      mode = h.mode;
      bus_width = h.bus_width;
      lock = omega (arith, lock);
      matched = omega (arith, matched);
      words = h.words;
      field_widths = widths;
      start_unit = h.start_unit;
      some = (let low = many.0 in omega arith);
      few = (let high = many.1 in omega arith);
      rows = are;
      frames = rw n fits.0;
      slots = rw (n, l) fits.1;
    }

-- where no check finds a fault in a table, what is made of the table is a part
pub made_is : (t : Members) → first_fault t ≡ None → IsPart (part_from t)
unfolding first_fault
made_is t e =
    let h = nones (type_fault t ∷ other_fault t ∷ range_fault t ∷ same_row_fault [] (rows_in_file t) ∷ frames_fault (part_with t (rows_in_file t)) ∷ []) e in
    made t h.0 h.1.0 h.1.1.0 h.1.1.1.0 h.1.1.1.1.0

-- ---- the checks of rows

-- the checks of rows, by their number of frames
pub rows_checked : (part : PartData) (words frames : ℕ) (rows : List RowData) (r : Result (Unit {0}) PartFault) → part.frame_words ≡ words → part.rows ≡ rows →
    frames ≡ sum_by (λ r. sum r.minors) rows → None ≡ same_row_fault [] rows →
    result_err r ≡ unless (has_few_frames words frames (length rows)) (TooMany frames) → result_err r ≡ first_of (same_row_fault [] rows ∷ frames_fault part ∷ [])
rows_checked part words frames rows r wide same counted apart checked =
    let n : length (addresses part.field_widths rows) ≡ frames = frames_sum part.field_widths rows ∙ sym counted in
    checked ∙ rw (← apart, same, wide, n) (first_alone (unless (has_few_frames words frames (length rows)) (TooMany frames)))

-- ---- a text's table

pub toml_is : (text : List ℕ) (t : Members) → IsUtf8 text × (parse_document text ≡ Some t) → part_in text ≡ part_of_table (Some t)
unfolding part_in
toml_is text t h =
    let utf8 : is_utf8 text ≡ true = is_utf8-from_IsUtf8 text h.0 in
    rw (utf8, h.1) refl

no_toml_by : (text : List ℕ) (b : Bool) → is_utf8 text ≡ b → (b ≡ true → parse_document text ≡ None) → (if b then part_of_table (parse_document text) else Err Toml) ≡ Err Toml
no_toml_by text false e f = refl
no_toml_by text true e f = rw (f refl) refl

pub no_toml : (text : List ℕ) → (IsUtf8 text → parse_document text ≡ None) → part_in text ≡ Err Toml
unfolding part_in
no_toml text h = no_toml_by text (is_utf8 text) refl (λ e. h (IsUtf8-from_is_utf8 text e))

pub toml_fault : (text : List ℕ) (fault : PartFault) → (fault ≡ NoMemory) ⊎ ((fault ≡ Toml) × (IsUtf8 text → parse_document text ≡ None)) →
    (fault ≡ NoMemory) ⊎ (part_in text ≡ Err fault)
toml_fault text fault (inl e) = inl e
toml_fault text fault (inr h) = inr (no_toml text h.1 ∙ ap Err (sym h.0))

pub handed_from : {T : Type 0} (r : Result T PartFault) (text : List ℕ) (fault : PartFault) → IsErr r × IsErrAnd r (λ e. e ≡ fault) →
    (fault ≡ NoMemory) ⊎ (part_in text ≡ Err fault) → IfErr r (λ e. (e ≡ NoMemory) ⊎ (part_in text ≡ Err e))
handed_from (Ok x) text fault h is = tt
handed_from (Err e) text fault h is = rw h.1 is

pub reported : {T : Type 0} (r : Result T PartFault) (text : List ℕ) (t : Members) → IsUtf8 text × (parse_document text ≡ Some t) → AnswersDue (first_fault t) r →
    IfErr r (λ e. (e ≡ NoMemory) ⊎ (part_in text ≡ Err e))
reported (Ok x) text t h due = tt
reported (Err e) text t h (inl memory) = inl memory
reported (Err e) text t h (inr is) = inr (toml_is text t h ∙ ap (part_unless t) is)

pub given : (r : Result PartData PartFault) (text : List ℕ) (t : Members) → IsUtf8 text × (parse_document text ≡ Some t) → AnswersDue (first_fault t) r →
    IfOk r (λ part. part ≡ part_from t) → IfOk r (λ part. part_in text ≡ Ok part)
given (Ok part) text t h none is = toml_is text t h ∙ ap (part_unless t) none ∙ ap Ok (sym is)
given (Err e) text t h due is = tt

-- ---- what the checks leave

-- a table whose types, keys and ranges passed
pub record Passed (t : Members) : Type 0 where
  pub types : None ≡ type_fault t
  pub others : None ≡ other_fault t
  pub before : None ≡ top_range_fault t
  pub each : rows_fault row_range_fault 1 (row_tables t) ≡ None

pub few_rows : (t : Members) → None ≡ top_range_fault t → length (rows_in_file t) ≤ most_rows
few_rows t before =
    let many = (top_ranges t (sym before)).rows.1 in
    let count : length (rows_in_file t) ≡ length (row_tables t) = length-map (row_tables t) row_of in
    omega arith

-- where types, keys and ranges passed, what the checks of rows find is the first fault of the table
pub rest_is : (t : Members) → Passed t → first_fault t ≡ first_of (same_row_fault [] (rows_in_file t) ∷ frames_fault (part_with t (rows_in_file t)) ∷ [])
unfolding first_fault range_fault
rest_is t h = rw (← h.types, ← h.others, ← h.before, h.each) refl

pub same_part : (t : Members) (name : List ℕ) (s : PartSettings) (rows : List RowData) → name ≡ text key.Name t → s ≡ settings_in t → rows ≡ rows_in_file t →
    part_data name s (sorted_rows s.field_widths rows) ≡ part_from t
unfolding part_from
same_part t name s rows named set same = rw (named, set, same) refl

-- a table in which no check has found a fault
pub record Whole (t : Members) : Type 0 where
  pub none : first_fault t ≡ None
  pub all : All IsRow (rows_in_file t)
  pub apart : same_row_fault [] (rows_in_file t) ≡ None
  pub part : IsPart (part_from t)

pub whole_is : (t : Members) → Passed t → None ≡ first_of (same_row_fault [] (rows_in_file t) ∷ frames_fault (part_with t (rows_in_file t)) ∷ []) → Whole t
whole_is t h e =
    let none : first_fault t ≡ None = rest_is t h ∙ sym e in
    let last = nones (same_row_fault [] (rows_in_file t) ∷ frames_fault (part_with t (rows_in_file t)) ∷ []) (sym e) in
    record { none = none; all = rows_are 1 (row_tables t) h.each; apart = last.0; part = made_is t none }

pub reported_from : {T : Type 0} (r : Result T PartFault) (fault : PartFault) → IsErr r × IsErrAnd r (λ e. e ≡ fault) → result_err r ≡ Some fault
reported_from (Ok x) fault h = absurd (false≢true h.0)
reported_from (Err e) fault h = ap Some h.1

-- a fault that is due was handed on
pub due_from : {T : Type 0} (r : Result T PartFault) (fault : PartFault) (due : Option PartFault) → IsErr r × IsErrAnd r (λ e. e ≡ fault) → Some fault ≡ due → AnswersDue due r
due_from (Ok x) fault due h is = absurd (false≢true h.0)
due_from (Err e) fault due h is = inr (sym is ∙ ap Some (sym h.1))

-- a fault that is due, or want of memory, was handed on
pub due_or_memory : {T : Type 0} (r : Result T PartFault) (fault : PartFault) (due : Option PartFault) → IsErr r × IsErrAnd r (λ e. e ≡ fault) →
    (fault ≡ NoMemory) ⊎ (due ≡ Some fault) → AnswersDue due r
due_or_memory (Ok x) fault due h is = absurd (false≢true h.0)
due_or_memory (Err e) fault due h is = rw h.1 is

-- want of memory, or the fault that is due
pub or_memory : (fault : PartFault) (one due : Option PartFault) → (one ≡ Some fault → due ≡ Some fault) → (fault ≡ NoMemory) ⊎ (one ≡ Some fault) → (fault ≡ NoMemory) ⊎ (due ≡ Some fault)
or_memory fault one due f (inl e) = inl e
or_memory fault one due f (inr e) = inr (f e)
