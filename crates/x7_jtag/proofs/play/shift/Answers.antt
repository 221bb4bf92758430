use Rattle.std.proofs.Common.{◌∙◌, sym}
use Rattle.x7_jtag.specs.Port.{port_after}
use Rattle.x7_jtag.proofs.PlayLemmas.{found_first}
use Rattle.x7_jtag.proofs.play.shift.Goals as goal

pub returns-clause-clocks : goal.returns-clause-clocks
returns-clause-clocks c = λ part cs s. c.shift_from.ensures.clocks part cs (c.shift_bytes-first.ensures.clocks part cs s)

pub returns-clause-found : goal.returns-clause-found
returns-clause-found c = λ part cs s.
    c.shift_from.ensures.found part cs (c.shift_bytes-first.ensures.clocks part cs s)
    ∙ sym (found_first part (port_after part cs) c.args.scan.now c.shift_bytes-first.result c.shift_bytes-first.ensures.none_wanted c.shift_bytes-first.ensures.within)
