use Rattle.std.proofs.Common.{◌<◌, ℕ, sym, subst}
use Rattle.x7_regs.specs.Named.{place_of_name}
use Rattle.x7_regs.proofs.NamedLemmas.{register_below}
use Rattle.x7_regs.proofs.named.register_at.Goals as goal

pub returns-clause-most : goal.returns-clause-most
returns-clause-most c = let P : ℕ → Type 0 = λ n. n < 32 in subst P (sym c.at_place.ensures) (register_below (place_of_name c.args.name.now))
