use Rattle.x7_boot.proofs.boots.boot_part.Given as goal

abbrev pub ghost-try_all : goal.ghost-try_all
ghost-try_all g a = g.F.Flash.state a.flash.now
