-- The register that words are written to (UG470, packet types).
use Rattle.std.specs.Prelude.{ℕ}
use Rattle.x7_regs.specs.Register.{number_of}
use Rattle.x7_engine.specs.declared.target.Target.{Target}
use Rattle.x7_engine.specs.declared.target.Target.TheVariants.{Effective, Plain}

-- the number of the register that words are written to
abbrev pub target_number : Target → ℕ
target_number (Effective reg) = number_of reg
target_number (Plain plain) = plain.register
