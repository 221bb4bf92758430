-- A part file: the part that its text describes, or the first fault that the checks find (this project's choice).
use Rattle.std.specs.Prelude.{ℕ, List, [], ◌∷◌, Option, None, Some, Result, Ok, Err, IsUtf8, if◌then◌else◌}
use Rattle.std.specs.Str.{is_utf8}
use Rattle.toml.specs.Parse.{parse_document}
use Rattle.toml.specs.Data.{Members}
use Rattle.toml.specs.Errors.{IsBlank}
use Rattle.x7_part.specs.declared.fault.PartFault.{PartFault}
use Rattle.x7_part.specs.declared.fault.PartFault.TheVariants.{Toml}
use Rattle.x7_part.specs.Part.{PartData}
use Rattle.x7_part.specs.Values.{settings_in, part_with, rows_in_file}
use Rattle.x7_part.specs.PartChecks.{first_of, type_fault, other_fault, range_fault}
use Rattle.x7_part.specs.Row.{same_row_fault, frames_fault, sorted_rows}

-- the first fault of a part file's table: types, unknown keys, ranges, the same row twice, too many frames or words of
-- frames and pads
unfoldable pub first_fault : Members → Option PartFault
first_fault t = first_of (type_fault t ∷ other_fault t ∷ range_fault t ∷ same_row_fault [] (rows_in_file t) ∷ frames_fault (part_with t (rows_in_file t)) ∷ [])

-- the part of a table: its rows stand in number order
unfoldable pub part_from : Members → PartData
part_from t = part_with t (sorted_rows (settings_in t).field_widths (rows_in_file t))

-- the part of a table in which the checks found no fault, else the fault that they found
abbrev pub part_unless : Members → Option PartFault → Result PartData PartFault
part_unless table None = Ok (part_from table)
part_unless table (Some fault) = Err fault

-- the part of a text's table, or the first fault; a text without a table is no TOML
abbrev pub part_of_table : Option Members → Result PartData PartFault
part_of_table None = Err Toml
part_of_table (Some table) = part_unless table (first_fault table)

-- a text in UTF-8 of white space and comments alone
abbrev pub HasNoKey : List ℕ → Type 0
HasNoKey text = IsUtf8 text × IsBlank text

-- the part of a text, or its first fault; a text that isn't UTF-8 is no TOML
unfoldable pub part_in : List ℕ → Result PartData PartFault
part_in text = if is_utf8 text then part_of_table (parse_document text) else Err Toml
