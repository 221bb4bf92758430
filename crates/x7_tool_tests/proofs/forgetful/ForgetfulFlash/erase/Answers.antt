use Rattle.std.proofs.Common.{ap, ◌∙◌}
use Rattle.x7_words.specs.Flash.{names_asked}
use Rattle.x7_tool_tests.proofs.AskingLemmas.{erase_asks_none}
use Rattle.x7_tool_tests.proofs.forgetful.ForgetfulFlash.erase.Goals as goal

pub returns-clause-only : goal.returns-clause-only
returns-clause-only g c =
    let only = c.erase-answer.ensures.only in
    record {
      extent = only.extent;
      attached = only.attached;
      names = ap names_asked c.erase.ensures ∙ erase_asks_none c.args.self.now.calls c.args.sector c.erase-answer.result;
      faults = only.faults;
      absences = only.absences;
      write_faults = only.write_faults;
    }
