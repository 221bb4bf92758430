-- The keys of a part file, each with the type of its value (this project's choice).
use Rattle.std.specs.Prelude.{ℕ, List, [], ◌∷◌, Bool, true, false, ◌&&◌, ◌||◌, bytes_eq, codes, None, Some}
use Rattle.toml.specs.Data.{Members, no_members, member}
use Rattle.x7_part.specs.declared.fault.PartKey.{PartKey}
use Rattle.x7_part.specs.declared.fault.PartKey.TheVariants as key
use Rattle.x7_part.specs.declared.fault.Which.{Which}
use Rattle.x7_part.specs.declared.keys.KeyRule.{KeyRule}
use Rattle.x7_part.specs.declared.keys.Kind.TheVariants.{Text, Whole, Table}

-- the key as a part file writes it, `other` for an unknown one
abbrev pub name_of : PartKey → List ℕ
name_of key.Name = codes "name"
name_of key.Idcode = codes "idcode"
name_of key.Mode = codes "mode"
name_of key.BusWidth = codes "bus_width"
name_of key.Lock = codes "lock"
name_of key.Match = codes "match"
name_of key.FrameWords = codes "frame_words"
name_of key.Far = codes "far"
name_of key.StartUnit = codes "start_unit"
name_of key.Row = codes "row"
name_of key.Block = codes "block"
name_of key.Half = codes "half"
name_of key.Minors = codes "minors"
name_of key.Other = codes "other"

-- the place of a key in the top table
abbrev pub top : PartKey → Which
top k = record { row = None; key = k }

-- the place of a key in row n, from 1
abbrev pub in_row : ℕ → PartKey → Which
in_row n k = record { row = Some n; key = k }

-- the keys of the top table, in the order in which their values are checked
abbrev pub top_keys : List KeyRule
top_keys =
    record { key = key.Name; holds = Text; is_list = false; is_optional = false }
    ∷ record { key = key.Idcode; holds = Whole; is_list = false; is_optional = false }
    ∷ record { key = key.Mode; holds = Whole; is_list = false; is_optional = true }
    ∷ record { key = key.BusWidth; holds = Whole; is_list = false; is_optional = true }
    ∷ record { key = key.Lock; holds = Whole; is_list = false; is_optional = true }
    ∷ record { key = key.Match; holds = Whole; is_list = false; is_optional = true }
    ∷ record { key = key.FrameWords; holds = Whole; is_list = false; is_optional = true }
    ∷ record { key = key.Far; holds = Whole; is_list = true; is_optional = true }
    ∷ record { key = key.StartUnit; holds = Whole; is_list = false; is_optional = true }
    ∷ record { key = key.Row; holds = Table; is_list = true; is_optional = false }
    ∷ []

-- the keys of a row, in the order in which their values are checked
abbrev pub row_keys : List KeyRule
row_keys =
    record { key = key.Block; holds = Whole; is_list = false; is_optional = false }
    ∷ record { key = key.Half; holds = Whole; is_list = false; is_optional = false }
    ∷ record { key = key.Row; holds = Whole; is_list = false; is_optional = false }
    ∷ record { key = key.Minors; holds = Whole; is_list = true; is_optional = false }
    ∷ []

-- one of `keys` has this name
abbrev pub is_known : List KeyRule → List ℕ → Bool
is_known [] name = false
is_known (k ∷ keys) name = bytes_eq name (name_of k.key) || is_known keys name

-- each key of a table is one of `keys`
abbrev pub has_only : List KeyRule → Members → Bool
has_only keys no_members = true
has_only keys (member name d ms) = is_known keys name && has_only keys ms
