use Rattle.std.proofs.Common.{Err, refl}
use Rattle.x7_boot.specs.Pages.{BlockCalls}
use Rattle.x7_boot.specs.declared.fault.BootFault.TheVariants.{NoMemory}
use Rattle.x7_boot.proofs.ReadLemmas.{called_none}
use Rattle.x7_boot.proofs.pages.read_block.Goals as goal

pub returns-in_default-clause-called : goal.returns-in_default-clause-called
returns-in_default-clause-called g c = called_none (BlockCalls {A = Unit {0}} c.args.number c.resize.new.self.items (Err NoMemory)) (g.F.Flash.state c.args.flash.now) (tt, refl)
