-- Lemmas on a register under MASK: its bits.
use Rattle.std.proofs.Common.{◌≡◌, ◌-◌, ◌^◌, ◌<◌, ◌==◌, inl, inr, ℕ, if◌then◌else◌, [], ◌∷◌, ap, ◌∙◌, arith, bit_and, bit_or, min, max, w32}
use Rattle.std.proofs.lemmas.Nat.Bits.{bit_at_and, bit_at_or, bit_at_not, bit_at-zero, bit_at-lt}
use Rattle.std.proofs.lemmas.Bool.Decides.{nat_tests}
use Rattle.std.proofs.lemmas.Nat.{or_lt}
use Rattle.std.specs.Int.Bits.{and_lt}
use Rattle.std.specs.Int.{bit_at}
use Rattle.x7_packets.specs.History.{Access, AllFit, Bad, FitsAccess, History, Read, Write, last_word, written}
use Rattle.x7_flow.specs.Controls.{mask_held, masked_register, masked_word}
use Rattle.x7_engine.specs.Registers.{HasMaskedBits, bit_written}
use Rattle.x7_words.proofs.CaseLemmas.{true_or_false}

choose : (o w m : ℕ) → o < 2 → w < 2 → m < 2 → max (min o (1 - m)) (min w m) ≡ (if m == 1 then w else o)
choose o w m a b c = grind (arith, nat_tests)

-- a bit after the write of a word under a mask
pub bit_step : (m w old i : ℕ) → m < 2 ^ 32 → i < 32 → bit_at (bit_or (bit_and old (2 ^ 32 - 1 - m)) (bit_and w m)) i ≡ (if bit_at m i == 1 then bit_at w i else bit_at old i)
bit_step m w old i f h =
    bit_at_or (bit_and old (2 ^ 32 - 1 - m)) (bit_and w m) i
    ∙ ap (λ (x : ℕ). max x (bit_at (bit_and w m) i)) (bit_at_and old (2 ^ 32 - 1 - m) i ∙ ap (λ (x : ℕ). min (bit_at old i) x) (bit_at_not w32 m i f h))
    ∙ ap (λ (x : ℕ). max (min (bit_at old i) (1 - bit_at m i)) x) (bit_at_and w m i)
    ∙ choose (bit_at old i) (bit_at w i) (bit_at m i) (bit_at-lt old i) (bit_at-lt w i) (bit_at-lt m i)

written_fits : (register : ℕ) (a : Access) (old : ℕ) → FitsAccess a → old < 2 ^ 32 → written register a old < 2 ^ 32
written_fits register (Write r w) old f h = grind (arith, nat_tests, f.1)
written_fits register (Read r n) old f h = h
written_fits register (Bad w) old f h = h

last_fits : (register : ℕ) (h : History) → AllFit h → last_word register 0 h < 2 ^ 32
last_fits register [] f = omega arith
last_fits register (e ∷ h) f = written_fits register e.access (last_word register 0 h) f.0 (last_fits register h f.1)

masked_fits : (register m : ℕ) (a : Access) (old : ℕ) → FitsAccess a → m < 2 ^ 32 → old < 2 ^ 32 → masked_word register m a old < 2 ^ 32
masked_fits register m (Write r w) old f l h =
    let g : bit_or (bit_and old (2 ^ 32 - 1 - m)) (bit_and w m) < 2 ^ 32 = or_lt 32 _ _ (and_lt 32 old (2 ^ 32 - 1 - m) h (omega arith)) (and_lt 32 w m f.1 l) in
    grind (arith, nat_tests)
masked_fits register m (Read r n) old f l h = h
masked_fits register m (Bad w) old f l h = h

masked_step : (register m i old b : ℕ) (a : Access) → m < 2 ^ 32 → i < 32 → bit_at old i ≡ b → bit_at (masked_word register m a old) i ≡ bit_written register i m a b
masked_step register m i old b (Write r w) f h e =
    let g : bit_at (bit_or (bit_and old (2 ^ 32 - 1 - m)) (bit_and w m)) i ≡ (if bit_at m i == 1 then bit_at w i else bit_at old i) = bit_step m w old i f h in
    elim (true_or_false (r == register)) [
      | inl t ↦ rw t (rw e at g)
      | inr t ↦ rw t e
    ]
masked_step register m i old b (Read r n) f h e = e
masked_step register m i old b (Bad w) f h e = e

pub masked_bits : (register : ℕ) (h : History) → AllFit h → HasMaskedBits register (masked_register register h) h
masked_bits register [] f = record { fits = omega arith; bits = λ i l. bit_at-zero i }
masked_bits register (e ∷ h) f =
    let r : HasMaskedBits register (masked_register register h) h = masked_bits register h f.1 in
    let m : mask_held h < 2 ^ 32 = last_fits 6 h f.1 in
    record {
      fits = masked_fits register (mask_held h) e.access (masked_register register h) f.0 m r.fits;
      bits = λ i l. masked_step register (mask_held h) i (masked_register register h) _ e.access m l (r.bits i l);
    }
