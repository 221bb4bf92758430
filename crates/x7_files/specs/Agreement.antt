-- Whether what selects and reads of files gave agrees with a map from names to bytes (this project's choice).
use Rattle.std.specs.Prelude.{ℕ, suc, Bool, true, false, ◌&&◌, List, [], ◌∷◌, length, take, drop, is_some, Option, None, Some, option_map}
use Rattle.std.specs.Str.{bytes_eq}
use Rattle.x7_files.specs.declared.agreement.Agreement.{Agreement}

-- a map from names to bytes; `None` for a name without any
abbrev pub NamedBytes : Type 0
NamedBytes = List ℕ → Option (List ℕ)

-- before the first select
abbrev pub no_select : Agreement
no_select = record { agrees = true; left = None; asked = None }

-- The file of this name was opened: the map has to have bytes for it, and all of them are left.
abbrev pub with_open : NamedBytes → List ℕ → Agreement → Agreement
with_open map name a = record { agrees = a.agrees && is_some (map name); left = map name; asked = Some name }

-- The file of this name was not opened. Of that the map says nothing: a file may be there and not be opened.
abbrev pub with_refusal : List ℕ → Agreement → Agreement
with_refusal name a = record a { left = None; asked = Some name }

-- a read into this room that gave no byte read the end, where the room isn't empty: no byte may be left
abbrev pub ends_rightly : List ℕ → ℕ → List ℕ → Bool
ends_rightly [] (suc room) (byte ∷ left) = false
ends_rightly _ _ _ = true

-- the bytes are the first of those that are left, and where there are none the end was rightly read
abbrev pub gives_rightly : Option (List ℕ) → List ℕ → ℕ → Bool
gives_rightly None bytes room = false
gives_rightly (Some left) bytes room = bytes_eq (take (length bytes) left) bytes && ends_rightly bytes room left

-- the open file gave these bytes to a buffer with this room
abbrev pub with_read : List ℕ → ℕ → Agreement → Agreement
with_read bytes room a = record a { agrees = a.agrees && gives_rightly a.left bytes room; left = option_map (drop (length bytes)) a.left }

-- a read failed
abbrev pub with_fault : Agreement → Agreement
with_fault a = record a { left = None }
