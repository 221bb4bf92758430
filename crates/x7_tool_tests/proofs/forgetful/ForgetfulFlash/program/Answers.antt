use Rattle.std.proofs.Common.{ap, ◌∙◌}
use Rattle.x7_words.specs.Flash.{names_asked}
use Rattle.x7_tool_tests.proofs.AskingLemmas.{program_asks_none}
use Rattle.x7_tool_tests.proofs.forgetful.ForgetfulFlash.program.Goals as goal

pub returns-clause-only : goal.returns-clause-only
returns-clause-only g c =
    let only = c.program-answer.ensures.only in
    record {
      extent = only.extent;
      attached = only.attached;
      names = ap names_asked c.program.ensures ∙ program_asks_none c.args.self.now.calls c.args.place c.args.given.now c.program-answer.result;
      faults = only.faults;
      absences = only.absences;
      write_faults = only.write_faults;
    }
