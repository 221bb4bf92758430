use Rattle.x7_listing.proofs.asm.AsmLinesLemmas.{still_sound}
use Rattle.x7_listing.proofs.asm.lines.AsmLines.read_at_once.Goals as goal

pub invariant_of-self : goal.invariant_of-self
invariant_of-self c = still_sound c.self.inside.out.items c.read_quick.new.out.items c.self.inside.start c.self.inside.checker _ c.read_quick.ensures.takes.appended c.self.invariant
