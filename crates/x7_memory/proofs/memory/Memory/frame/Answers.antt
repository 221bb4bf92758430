use Rattle.std.proofs.Common.{◌∙◌, ap, sym}
use Rattle.std.specs.Prelude.{[], Some}
use Rattle.x7_part.specs.AddressOrder.{addresses_in}
use Rattle.x7_memory.proofs.FrameLemmas.{among_found, among_none}
use Rattle.x7_memory.proofs.memory.Memory.frame.Goals as goal

pub returns-in_err-rank-clause-no_frame : goal.returns-in_err-rank-clause-no_frame
returns-in_err-rank-clause-no_frame c = rw c.from_residual.ensures (among_none c.args.far (addresses_in c.args.part.now) c.args.self.now c.in_err-rank.ensures.absent)

pub returns-clause-found : goal.returns-clause-found
returns-clause-found c =
    among_found 0 c.in_ok-rank.rank c.args.far [] (addresses_in c.args.part.now) c.args.self.now
    c.requires.part.order c.requires.part.count c.in_ok-rank.ensures.found.0 c.in_ok-rank.ensures.found.1
    ∙ ap Some (sym (c.frame_of.ensures []))
