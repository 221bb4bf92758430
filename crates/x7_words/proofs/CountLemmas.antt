-- Lemmas on counts that never fall.
use Rattle.std.proofs.Common.{◌≡◌, ℕ, ◌≤◌, inl, inr, arith}
use Rattle.std.proofs.lemmas.Grind.{common_steps}
use Rattle.x7_words.specs.Count.{HasRisen, raised}

-- a count that was raised has risen
pub raised_risen : (old new : ℕ) → new ≡ raised old → HasRisen old new
raised_risen old new e = grind (arith, common_steps)

-- a count that did not fall and then rose has risen
pub risen_from : (a b c : ℕ) → a ≤ b → HasRisen b c → HasRisen a c
risen_from a b c k (inl h) = inl (omega arith)
risen_from a b c k (inr h) = inr h
