-- What a planner writes: items, their words, and what they ask of the registers.
use Rattle.std.specs.Prelude.{ℕ, ◌+◌, ◌*◌, ◌^◌, ◌<◌, List, [], ◌∷◌, ◌++◌, length, replicate}
use Rattle.std.specs.List.{flat_map, AllByRecursion}
use Rattle.x7_words.specs.Word.{AreWords}
use Rattle.x7_packets.specs.Appended.{LacksFirst}
use Rattle.x7_packets.specs.PacketWords.{bus_width_detect, bus_width_sync, dummy_word, no_op, sync_word, type1_read_header, type1_write_header, type2_read_header, type2_write_header}
use Rattle.x7_packets.specs.Packet.{NoneEnds}
use Rattle.x7_packets.specs.History as access
use Rattle.x7_packets.specs.History.{History, entry}
pub use Rattle.x7_planner.specs.Writer.{bytes_of_words}

-- a no-op, a dummy word, words written to a register by a type 1 packet or by an empty type 1 packet and a type 2
-- packet, and reads of some words of a register in these two ways
pub data Item : Type 0 where
  Noop : Item
  Dummy : Item
  Write : (register : ℕ) (ws : List ℕ) → Item
  WriteLong : (register : ℕ) (ws : List ℕ) → Item
  Read : (register count : ℕ) → Item
  ReadLong : (register count : ℕ) → Item

-- the words of an item
abbrev pub item_words : Item → List ℕ
item_words Noop = no_op ∷ []
item_words Dummy = dummy_word ∷ []
item_words (Write register ws) = type1_write_header register (length ws) ∷ ws
item_words (WriteLong register ws) = type1_write_header register 0 ∷ type2_write_header (length ws) ∷ ws
item_words (Read register count) = type1_read_header register count ∷ []
item_words (ReadLong register count) = type1_read_header register 0 ∷ type2_read_header count ∷ []

abbrev pub items_words : List Item → List ℕ
items_words items = flat_map item_words items

-- the item can be written: the register has 5 bits, the count 11 in a type 1 packet and 27 in a type 2 packet, and each
-- word 32; a read asks for some words, and no word ends the session
abbrev pub IsItem : Item → Type 0
IsItem Noop = Unit {0}
IsItem Dummy = Unit {0}
IsItem (Write register ws) = (register < 2 ^ 5) × (length ws < 2 ^ 11) × AreWords ws × NoneEnds register ws
IsItem (WriteLong register ws) = (register < 2 ^ 5) × (length ws < 2 ^ 27) × AreWords ws × NoneEnds register ws
IsItem (Read register count) = (register < 2 ^ 5) × (0 < count) × (count < 2 ^ 11)
IsItem (ReadLong register count) = (register < 2 ^ 5) × (0 < count) × (count < 2 ^ 27)

abbrev pub AreItems : List Item → Type 0
AreItems items = AllByRecursion IsItem items

-- a history with words written to a register, the first of which begins at byte `place`, from 0
abbrev pub writes_entered : ℕ → ℕ → List ℕ → History → History
writes_entered place register [] h = h
writes_entered place register (w ∷ ws) h = writes_entered (place + 4) register ws (entry (access.Write register w) (place + 4) ∷ h)

-- a history with the accesses of an item, whose first word begins at byte `place`, from 0
abbrev pub item_entered : ℕ → Item → History → History
item_entered place Noop h = h
item_entered place Dummy h = h
item_entered place (Write register ws) h = writes_entered (place + 4) register ws h
item_entered place (WriteLong register ws) h = writes_entered (place + 8) register ws h
item_entered place (Read register count) h = entry (access.Read register count) (place + 4) ∷ h
item_entered place (ReadLong register count) h = entry (access.Read register count) (place + 8) ∷ h

-- a history with the accesses of items in order, the first of which begins at byte `place`, from 0
abbrev pub items_entered : ℕ → List Item → History → History
items_entered place [] h = h
items_entered place (i ∷ items) h = items_entered (place + 4 * length (item_words i)) items (item_entered place i h)

-- DESYNC written to CMD
abbrev pub desync : Item
desync = Write 4 (13 ∷ [])

-- words before the sync word, the sync word and items
abbrev pub opened : List ℕ → List Item → List ℕ
opened leading items = leading ++ sync_word ∷ items_words items

-- words before the sync word, the sync word, items, DESYNC and a number of no-ops
abbrev pub closed : List ℕ → List Item → ℕ → List ℕ
closed leading items noops = opened leading (items ++ desync ∷ []) ++ replicate noops no_op

-- words that may lead: the first byte of the sync word is not among their bytes
pub record MayLead (leading : List ℕ) : Type 0 where
  pub fits : AreWords leading
  pub lacks : LacksFirst (bytes_of_words leading)

-- four dummy words, the bus width pattern and two dummy words
abbrev pub bus_width_head : List ℕ
bus_width_head = dummy_word ∷ dummy_word ∷ dummy_word ∷ dummy_word ∷ bus_width_sync ∷ bus_width_detect ∷ dummy_word ∷ dummy_word ∷ []
