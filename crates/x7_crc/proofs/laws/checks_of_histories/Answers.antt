use Rattle.std.proofs.Common.{◌≡◌, ◌==◌, false, [], ◌∷◌, refl, sym, arith, lit<}
use Rattle.std.proofs.lemmas.Bool.Decides.{nat_tests}
use Rattle.x7_packets.specs.CheckedWrites.{checked_writes, write_to}
use Rattle.x7_crc.specs.RunningCheck.{in_order, running_check}
use Rattle.x7_crc.proofs.CheckLemmas.{check_after_none, check_of_more}
use Rattle.x7_crc.proofs.laws.checks_of_histories.Goals as goal

pub returns-clause-begins : goal.returns-clause-begins
returns-clause-begins c = check_after_none 0 (lit< tt)

pub returns-clause-cleared : goal.returns-clause-cleared
returns-clause-cleared c = λ h register word place e. rw e (check_after_none 0 (lit< tt))

pub returns-clause-written : goal.returns-clause-written
returns-clause-written c = λ h register word place f.
    let other : (register == 8) ≡ false = grind (arith, nat_tests, f.other) in
    rw (f.goes_on, other) (sym (check_of_more (running_check h) (in_order (checked_writes h)) (write_to register word ∷ []) refl))
