-- Lemmas on specs/FlashSlot.
use Rattle.std.proofs.Common.{◌≡◌, ℕ, List, [], ◌∷◌, refl}
use Rattle.std.specs.List.{flat_map}
use Rattle.x7_words.specs.Word.{bytes_of_word}
use Rattle.x7_packets.specs.FlashSlot.{flash_slot}
use Rattle.x7_packets.specs.PacketWords.{no_op, type1_write_header}

-- a slot by the bytes of its eight words
pub slot_joined : (switch start idle wbstar cmd iprog desync : List ℕ) → idle ≡ bytes_of_word no_op → wbstar ≡ bytes_of_word (type1_write_header 16 1) → cmd ≡ bytes_of_word (type1_write_header 4 1) → iprog ≡ bytes_of_word 15 → desync ≡ bytes_of_word 13
    → flat_map (λ bytes. bytes) (switch ∷ idle ∷ wbstar ∷ start ∷ cmd ∷ iprog ∷ cmd ∷ desync ∷ []) ≡ flash_slot switch start
slot_joined switch start idle wbstar cmd iprog desync a b c d e = rw (a, b, c, d, e) refl
