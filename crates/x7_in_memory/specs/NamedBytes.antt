-- How inputs in memory keep what was put under a name (this project's choice).
use Rattle.std.specs.Prelude.{ℕ, List, Option, None, Some, option_map, string_bytes, slice_get, drop}
use Rattle.x7_in_memory.specs.declared.named_bytes.NamedBytes.{NamedBytes}

-- the name under which something was put, and its bytes
abbrev pub entry_of : NamedBytes → List ℕ × List ℕ
entry_of one = (string_bytes one.name, one.bytes.items)

-- the name at a place in the list, from 0; none where there is no place, or it is past the list
abbrev pub name_of_place : List NamedBytes → Option ℕ → Option (List ℕ)
name_of_place named None = None
name_of_place named (Some place) = option_map (λ one. string_bytes one.name) (slice_get named place)

-- the bytes at a place in the list, from 0, that are left once the first `given` ones were given; none where there is
-- no place, or it is past the list
abbrev pub left_of : List NamedBytes → ℕ → Option ℕ → Option (List ℕ)
left_of named given None = None
left_of named given (Some place) = option_map (λ one. drop given one.bytes.items) (slice_get named place)
