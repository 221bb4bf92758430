-- The running check of what a planner writes, as it goes.
use Rattle.std.specs.Prelude.{◌≡◌, ℕ, ◌+◌, ◌%◌, ◌^◌, ◌==◌, ◌||◌, Bool, if◌then◌else◌, List, [], ◌∷◌, length, Option, None, Some}
use Rattle.std.specs.List.{AllByRecursion}
use Rattle.x7_packets.specs.History as access
use Rattle.x7_packets.specs.History.{Access, History, command_held, executed_by, is_command, writes}
use Rattle.x7_crc.specs.Check.{check_after_one}
use Rattle.x7_crc.specs.RunningCheck.{running_check}
use Rattle.x7_effects.proofs.Items.{Item, Noop, Dummy, Write, WriteLong, Read, ReadLong, IsItem, item_words}

-- the running check, and the command that CMD holds
pub record Checking : Type 0 where
  pub check : ℕ
  pub held : ℕ

-- an access clears the check where CMD holds this command: it executes RCRC, or writes CRC
abbrev pub clears_under : ℕ → Access → Bool
clears_under held a = is_command 7 (executed_by held a) || writes 0 a

-- the check after a word written to a register
abbrev pub check_by : ℕ → ℕ → ℕ → ℕ → ℕ
check_by check held register w =
    if clears_under held (access.Write register w) then 0 else
    if register == 8 then check else check_after_one check register w

abbrev pub after_write : Checking → ℕ → ℕ → Checking
after_write c register w = record { check = check_by c.check c.held register w; held = if register == 4 then w % 2 ^ 5 else c.held }

abbrev pub after_writes : Checking → ℕ → List ℕ → Checking
after_writes c register [] = c
after_writes c register (w ∷ ws) = after_writes (after_write c register w) register ws

-- the check and the command after an item, and after items in order
abbrev pub after_item : Checking → Item → Checking
after_item c Noop = c
after_item c Dummy = c
after_item c (Write register ws) = after_writes c register ws
after_item c (WriteLong register ws) = after_writes c register ws
after_item c (Read register count) = c
after_item c (ReadLong register count) = c

abbrev pub after_items : Checking → List Item → Checking
after_items c [] = c
after_items c (i ∷ items) = after_items (after_item c i) items

-- the check and the command of a history, 0 and NULL where nothing was written
abbrev pub checking_of : History → Checking
checking_of h = record { check = running_check h; held = command_held h }

-- the check and the command where nothing was written yet
abbrev pub at_first : Checking
at_first = record { check = 0; held = 0 }

-- the register that an item writes
abbrev pub register_written : Item → Option ℕ
register_written (Write register ws) = Some register
register_written (WriteLong register ws) = Some register
register_written _ = None

-- an item, or a word to CRC that is the check there
pub data Piece : Type 0 where
  Put : (item : Item) → Piece
  Check : Piece

-- pieces as items
abbrev pub piece_item : Checking → Piece → Item
piece_item c (Put item) = item
piece_item c Check = Write 0 (c.check ∷ [])

abbrev pub with_checks : Checking → List Piece → List Item
with_checks c [] = []
with_checks c (p ∷ pieces) = piece_item c p ∷ with_checks (after_item c (piece_item c p)) pieces

-- how many words a piece has, and how many pieces have
abbrev pub piece_length : Piece → ℕ
piece_length (Put item) = length (item_words item)
piece_length Check = 2

abbrev pub pieces_length : List Piece → ℕ
pieces_length [] = 0
pieces_length (p ∷ pieces) = piece_length p + pieces_length pieces

-- the piece can be written, and no item writes CRC by itself
abbrev pub IsPiece : Piece → Type 0
IsPiece Check = Unit {0}
IsPiece (Put item) = IsItem item × (register_written item ≡ Some 0 → ⊥)

abbrev pub ArePieces : List Piece → Type 0
ArePieces pieces = AllByRecursion IsPiece pieces

-- what the checks are does not depend on what came before: the check is cleared before the first of them
abbrev pub ClearFirst : List Piece → Type 0
ClearFirst pieces = (c : Checking) → with_checks c pieces ≡ with_checks at_first pieces
