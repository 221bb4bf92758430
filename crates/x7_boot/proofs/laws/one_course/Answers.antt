use Rattle.x7_boot.proofs.BootCourseLemmas.{along, boot_course}
use Rattle.x7_boot.proofs.laws.one_course.Goals as goal

pub returns-clause-boot : goal.returns-clause-boot
returns-clause-boot c = boot_course

pub returns-clause-along : goal.returns-clause-along
returns-clause-along c = λ part flash course is last older end leads. along part flash course last older end is leads
