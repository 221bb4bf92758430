-- The values of a part file, each of its type, and the numbers of a part that they stand for (this project's choice).
use Rattle.std.specs.Prelude.{ℕ, ℤ, pos, List, [], ◌∷◌, map, Option, unwrap_or, option_and_then, unsigned_abs}
use Rattle.toml.specs.Data.{Data, table, Items, no_items, item, Members, get_member, as_str, as_integer, as_array}
use Rattle.x7_part.specs.declared.fault.PartKey.{PartKey}
use Rattle.x7_part.specs.declared.fault.PartKey.TheVariants as key
use Rattle.x7_part.specs.declared.settings.PartSettings.{PartSettings}
use Rattle.x7_part.specs.Keys.{name_of}
use Rattle.x7_part.specs.Limits.{usual_frame_words, usual_start_unit}
use Rattle.x7_part.specs.Part.{FieldWidths, RowData, PartData, usual_widths}

-- ---- one value

-- the value under a key, none where the table lacks it
abbrev pub under : PartKey → Members → Option Data
under k t = get_member (name_of k) t

-- the text under a key, no text where there is none
abbrev pub text : PartKey → Members → List ℕ
text k t = unwrap_or (option_and_then as_str (under k t)) []

-- the whole number that a value is, 0 where it is none
abbrev pub whole : Data → ℤ
whole d = unwrap_or (as_integer d) (pos 0)

-- the whole number under a key, `usual` where there is none
abbrev pub number_or : ℕ → PartKey → Members → ℤ
number_or usual k t = unwrap_or (option_and_then as_integer (under k t)) (pos usual)

-- the items of the list under a key, no item where there is no list
abbrev pub items_under : PartKey → Members → Items
items_under k t = unwrap_or (option_and_then as_array (under k t)) no_items

-- the whole numbers that items are
abbrev pub wholes : Items → List ℤ
wholes no_items = []
wholes (item d ds) = whole d ∷ wholes ds

-- the tables among items
abbrev pub tables : Items → List Members
tables no_items = []
tables (item (table t) ds) = t ∷ tables ds
tables (item _ ds) = tables ds

-- the tables of the rows
abbrev pub row_tables : Members → List Members
row_tables t = tables (items_under key.Row t)

-- ---- what the values stand for

-- a number without its sign
abbrev pub natural : ℤ → ℕ
natural z = unsigned_abs z

-- the widths of the fields of an address, those of the 7 series where there is another number of them, or none
abbrev pub widths_of : List ℤ → FieldWidths
widths_of (minor ∷ column ∷ row ∷ half ∷ block ∷ []) =
    record { minor = natural minor; column = natural column; row = natural row; half = natural half; block = natural block }
widths_of _ = usual_widths

-- the row of a row's table
abbrev pub row_of : Members → RowData
row_of t = record {
  block = natural (number_or 0 key.Block t);
  half = natural (number_or 0 key.Half t);
  row = natural (number_or 0 key.Row t);
  minors = map natural (wholes (items_under key.Minors t));
}

-- the settings of a top table
abbrev pub settings_in : Members → PartSettings
settings_in t = record {
  idcode = natural (number_or 0 key.Idcode t);
  mode = natural (number_or 0 key.Mode t);
  bus_width = natural (number_or 0 key.BusWidth t);
  lock = natural (number_or 0 key.Lock t);
  matched = natural (number_or 0 key.Match t);
  frame_words = natural (number_or usual_frame_words key.FrameWords t);
  field_widths = widths_of (wholes (items_under key.Far t));
  start_unit = natural (number_or usual_start_unit key.StartUnit t);
}

-- a part of this name, with these settings and rows
abbrev pub part_data : List ℕ → PartSettings → List RowData → PartData
part_data name s rows = record {
  name = name;
  idcode = s.idcode;
  mode = s.mode;
  bus_width = s.bus_width;
  lock = s.lock;
  matched = s.matched;
  frame_words = s.frame_words;
  field_widths = s.field_widths;
  start_unit = s.start_unit;
  rows = rows;
}

-- the part of a top table with these rows
abbrev pub part_with : Members → List RowData → PartData
part_with t rows = part_data (text key.Name t) (settings_in t) rows

-- the rows in the file's order
abbrev pub rows_in_file : Members → List RowData
rows_in_file t = map row_of (row_tables t)
