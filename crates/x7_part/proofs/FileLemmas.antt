-- Items of a part file, one by one.
use Rattle.std.proofs.Common.{◌≡◌, ℕ, ℤ, ◌+◌, ◌<◌, ◌≤◌, map, List, ◌∷◌, length, get_or, drop, [], ◌++◌, zero, suc, Bool, ◌&&◌, true, false, Option, Some, None, ◌∙◌, refl, sym, ap, ap₂, arith}
use Rattle.std.specs.Prelude.{unwrap_or, option_and_then}
use Rattle.std.proofs.lemmas.Bool.{and_parts, false≢true}
use Rattle.toml.specs.Data.{Data, Items, Members, no_items, item, string, integer, float, boolean, datetime, array, table, as_array, as_table}
use Rattle.toml.specs.View.{view, items_view}
use Rattle.toml.specs.declared.value.Value.{Value}
use Rattle.toml.proofs.Views.{items_view-drop}
use Rattle.x7_part.specs.declared.keys.Kind.TheVariants.{Table}
use Rattle.x7_part.specs.Values.{under, items_under, row_tables, tables, natural, whole, wholes}
use Rattle.x7_part.specs.PartChecks.{unless, rows_fault, is_kind, are_kind, is_list_of, allows, key_fault, types_fault, check_fault, type_fault, are_widths, is_in, are_in, are_minors, is_length_in}
use Rattle.x7_part.specs.Keys.{top_keys, row_keys}
use Rattle.x7_part.specs.declared.checks.Check.TheVariants.{Types}
use Rattle.x7_part.specs.declared.fault.PartKey.TheVariants as key
use Rattle.x7_part.proofs.OrderLemmas.{unless_none, first_none}
use Rattle.x7_part.specs.Limits.{most_columns, most_minors}
use Rattle.x7_part.proofs.LoopLemmas.{row_made}
use Rattle.x7_part.proofs.RangeLemmas.{in_range, nones}

-- the items from item i on: item i, and those after it
pub items_more : (vs : List Value) (i : ℕ) (v : Value) → i < length vs → v ≡ get_or vs i v →
    items_view (drop i vs) ≡ item (view v) (items_view (drop (i + 1) vs))
items_more vs i v h same = items_view-drop vs i v h ∙ rw (← same) refl

table_first : (d : Data) (ds : Items) (t : Members) → Some t ≡ as_table d → tables (item d ds) ≡ t ∷ tables ds
table_first (string s) ds t e = absurd (cc)
table_first (integer z) ds t e = absurd (cc)
table_first (float x) ds t e = absurd (cc)
table_first (boolean b) ds t e = absurd (cc)
table_first (datetime x) ds t e = absurd (cc)
table_first (array items) ds t e = absurd (cc)
table_first (table m) ds t e = ap (λ x. x ∷ tables ds) (let same : m ≡ t = cc in same)

no_table_first : (d : Data) (ds : Items) → None ≡ as_table d → tables (item d ds) ≡ tables ds
no_table_first (string s) ds e = refl
no_table_first (integer z) ds e = refl
no_table_first (float x) ds e = refl
no_table_first (boolean b) ds e = refl
no_table_first (datetime x) ds e = refl
no_table_first (array items) ds e = refl
no_table_first (table m) ds e = absurd (cc)

-- the tables among the items from item i on, where item i is a table
pub table_more : (vs : List Value) (i : ℕ) (v : Value) (t : Members) → i < length vs → v ≡ get_or vs i v → Some t ≡ as_table (view v) →
    tables (items_view (drop i vs)) ≡ t ∷ tables (items_view (drop (i + 1) vs))
table_more vs i v t h same is = ap tables (items_more vs i v h same) ∙ table_first (view v) (items_view (drop (i + 1) vs)) t is

-- the tables among the items from item i on, where item i is no table
pub no_table : (vs : List Value) (i : ℕ) (v : Value) → i < length vs → v ≡ get_or vs i v → None ≡ as_table (view v) →
    tables (items_view (drop (i + 1) vs)) ≡ tables (items_view (drop i vs))
no_table vs i v h same is = sym (ap tables (items_more vs i v h same) ∙ no_table_first (view v) (items_view (drop (i + 1) vs)) is)

-- ---- how many

pub wholes_long : (vs : List Value) → length (wholes (items_view vs)) ≡ length vs
wholes_long [] = refl
wholes_long (v ∷ vs) = ap suc (wholes_long vs)

one_table : (d : Data) (ds : Items) → is_kind Table d ≡ true → length (tables (item d ds)) ≡ suc (length (tables ds))
one_table (string s) ds e = absurd (false≢true e)
one_table (integer z) ds e = absurd (false≢true e)
one_table (float x) ds e = absurd (false≢true e)
one_table (boolean b) ds e = absurd (false≢true e)
one_table (datetime x) ds e = absurd (false≢true e)
one_table (array items) ds e = absurd (false≢true e)
one_table (table m) ds e = refl

tables_long : (vs : List Value) → are_kind Table (items_view vs) ≡ true → length (tables (items_view vs)) ≡ length vs
tables_long [] e = refl
tables_long (v ∷ vs) e =
    let p = and_parts (is_kind Table (view v)) (are_kind Table (items_view vs)) e in
    one_table (view v) (items_view vs) p.0 ∙ ap suc (tables_long vs p.1)

list_of_tables : (d : Data) → is_list_of Table d ≡ true → are_kind Table (unwrap_or (as_array d) no_items) ≡ true
list_of_tables (string s) e = absurd (false≢true e)
list_of_tables (integer z) e = absurd (false≢true e)
list_of_tables (float x) e = absurd (false≢true e)
list_of_tables (boolean b) e = absurd (false≢true e)
list_of_tables (datetime x) e = absurd (false≢true e)
list_of_tables (array items) e = e
list_of_tables (table m) e = absurd (false≢true e)

are_tables : (value : Option Data) → allows (record { key = key.Row; holds = Table; is_list = true; is_optional = false }) value ≡ true →
    are_kind Table (unwrap_or (option_and_then as_array value) no_items) ≡ true
are_tables None e = absurd (false≢true e)
are_tables (Some d) e = list_of_tables d e

-- where the types are right, each item under the key `row` is a table
pub row_count : (t : Members) (vs : List Value) → type_fault t ≡ None → items_view vs ≡ items_under key.Row t → length (row_tables t) ≡ length vs
unfolding type_fault
row_count t vs types same =
    let found = first_none (types_fault None top_keys t) (rows_fault (λ n. check_fault Types (Some n) row_keys) 1 (row_tables t) ∷ []) types in
    let each = nones (map (λ rule. unless (allows rule (under rule.key t)) (key_fault None rule.key)) top_keys) found.0 in
    let last = unless_none (allows (record { key = key.Row; holds = Table; is_list = true; is_optional = false }) (under key.Row t)) (key_fault None key.Row) each.1.1.1.1.1.1.1.1.1.0 in
    let all : are_kind Table (items_view vs) ≡ true = rw same (are_tables (under key.Row t) last) in
    ap (λ ds. length (tables ds)) (sym same) ∙ tables_long vs all

-- ---- five widths

pub five : (vs : List Value) (a b c d e : Value) → length vs ≡ 5 → a ≡ get_or vs 0 a → b ≡ get_or vs 1 b → c ≡ get_or vs 2 c → d ≡ get_or vs 3 d → e ≡ get_or vs 4 e →
    wholes (items_view vs) ≡ whole (view a) ∷ whole (view b) ∷ whole (view c) ∷ whole (view d) ∷ whole (view e) ∷ []
five [] a b c d e h i j k l m = absurd (omega arith)
five (u ∷ []) a b c d e h i j k l m = absurd (omega arith)
five (u ∷ v ∷ []) a b c d e h i j k l m = absurd (omega arith)
five (u ∷ v ∷ w ∷ []) a b c d e h i j k l m = absurd (omega arith)
five (u ∷ v ∷ w ∷ x ∷ []) a b c d e h i j k l m = absurd (omega arith)
five (u ∷ v ∷ w ∷ x ∷ y ∷ z ∷ vs) a b c d e h i j k l m = absurd (omega arith)
five (u ∷ v ∷ w ∷ x ∷ y ∷ []) a b c d e h i j k l m = rw (i, j, k, l, m) refl

pub not_five : (zs : List ℤ) → (length zs ≡ 5 → ⊥) → false ≡ are_widths zs
not_five [] h = refl
not_five (a ∷ []) h = refl
not_five (a ∷ b ∷ []) h = refl
not_five (a ∷ b ∷ c ∷ []) h = refl
not_five (a ∷ b ∷ c ∷ d ∷ []) h = refl
not_five (a ∷ b ∷ c ∷ d ∷ e ∷ f ∷ zs) h = refl
not_five (a ∷ b ∷ c ∷ d ∷ e ∷ []) h = absurd (h refl)

-- ---- numbers of minors

-- the numbers of minors that were taken and those to come, once one more is taken
pub minors_more : (vs : List Value) (i : ℕ) (v : Value) (before made : List ℕ) → i < length vs → v ≡ get_or vs i v → made ≡ before ++ natural (whole (view v)) ∷ [] →
    made ++ map natural (wholes (items_view (drop (i + 1) vs))) ≡ before ++ map natural (wholes (items_view (drop i vs)))
minors_more vs i v before made h is e =
    row_made natural (whole (view v)) (wholes (items_view (drop (i + 1) vs))) (wholes (items_view (drop i vs))) before made (ap wholes (items_more vs i v h is)) e

-- each number of minors is in its range
pub minor_within : (vs : List Value) (i : ℕ) (v : Value) → are_in 1 most_minors (wholes (items_view vs)) ≡ true → i < length vs → v ≡ get_or vs i v → natural (whole (view v)) ≤ most_minors
minor_within [] i v all h same = absurd (omega arith)
minor_within (u ∷ vs) zero v all h same =
    (in_range 1 most_minors (whole (view v)) (rw same (and_parts (is_in 1 most_minors (whole (view u))) (are_in 1 most_minors (wholes (items_view vs))) all).0)).1
minor_within (u ∷ vs) (suc i) v all h same =
    minor_within vs i v (and_parts (is_in 1 most_minors (whole (view u))) (are_in 1 most_minors (wholes (items_view vs))) all).1 (omega arith) same

pub minors_by : (vs : List Value) (long each : Bool) → long ≡ is_length_in 1 most_columns (length vs) → each ≡ are_in 1 most_minors (wholes (items_view vs)) → (long && each) ≡ are_minors (wholes (items_view vs))
minors_by vs long each e f =
    ap₂ (λ a b. a && b) e f ∙ ap (λ n. is_length_in 1 most_columns n && are_in 1 most_minors (wholes (items_view vs))) (sym (wholes_long vs))
