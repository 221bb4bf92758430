-- The running check of writes to registers (UG470, cyclic redundancy check). That it is CRC-32C, in this order of the
-- bits and from 0 on, is this project's choice.
use Rattle.std.specs.Prelude.{◌==◌, ℕ, zero, suc, ◌+◌, ◌*◌, ◌/◌, ◌%◌, ◌^◌, Bool, List, [], ◌∷◌, ◌++◌, length, map, bit_xor}
use Rattle.x7_packets.specs.CheckedWrites.{RegisterWrite, write_to}
use Rattle.x7_crc.specs.Polynomial.{from_highest, IsRemainder, mirrored, remainder}

-- the polynomial of CRC-32C, x^32 + 1EDC6F41
abbrev pub generator : ℕ
generator = 2 ^ 32 + 0x1EDC6F41

-- the `n` lowest bits of a number, from the lowest
unfoldable pub low_bits : ℕ → ℕ → List Bool
low_bits zero v = []
low_bits (suc n) v = (v % 2 == 1) ∷ low_bits n (v / 2)

-- the bits of a write: the word's 32 from the lowest, then the register number's five from the lowest
unfoldable pub bits_of_write : ℕ → ℕ → List Bool
bits_of_write register word = low_bits 32 word ++ low_bits 5 register

-- how many bits a write has: the word's 32, and the register number's five
abbrev pub bits_per_write : ℕ
bits_per_write = 37

-- the bits of writes, in order
abbrev pub bits_of_writes : List RegisterWrite → List Bool
bits_of_writes [] = []
bits_of_writes (w ∷ ws) = bits_of_write w.register w.word ++ bits_of_writes ws

-- The polynomial whose remainder, mirrored, is the check of n bits after the check `before`. It is a sum of two: the
-- polynomial of the bits, whose first is its highest coefficient, times x^32; and that of `before`, whose lowest bit is
-- the coefficient of x^31, times x^n.
unfoldable pub dividend : ℕ → List Bool → ℕ
dividend before bits = bit_xor (mirrored 32 before * 2 ^ length bits) (from_highest bits * 2 ^ 32)

-- the check after writes, from the check `before` on
unfoldable pub check_after : ℕ → List RegisterWrite → ℕ
check_after before writes =
    mirrored 32 (remainder generator 32 (length (bits_of_writes writes)) (dividend before (bits_of_writes writes)))

-- `check` is the check after writes, from the check `before` on: mirrored, it is the remainder of their `dividend`
abbrev pub IsCheckAfter : ℕ → List RegisterWrite → ℕ → Type 0
IsCheckAfter before writes check = IsRemainder (dividend before (bits_of_writes writes)) generator 32 (mirrored 32 check)

-- the check after one more write, where `check` is the check before it
abbrev pub check_after_one : ℕ → ℕ → ℕ → ℕ
check_after_one check register word = check_after check (write_to register word ∷ [])

-- the check of writes, in order: a check begins as 0
abbrev pub check_of : List RegisterWrite → ℕ
check_of writes = check_after 0 writes

-- writes of these words to one register
abbrev pub writes_to : ℕ → List ℕ → List RegisterWrite
writes_to register words = map (write_to register) words
