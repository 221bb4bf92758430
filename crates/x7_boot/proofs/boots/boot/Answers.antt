use Rattle.x7_boot.proofs.BootedLemmas.{boot_known}
use Rattle.x7_boot.proofs.boots.boot.Goals as goal

pub returns-clause-booted : goal.returns-clause-booted
returns-clause-booted g c =
    let s = g.F.Flash.state in
    let boots = c.boot_part.ensures in
    boot_known c.args.part.now (s c.args.flash.now) (s c.boot_part.new.flash) c.boot_part.result boots.only_reads.extent c.size.ensures.known_length boots.called boots.booted
