use Rattle.std.proofs.Common.{refl, ap, ◌∙◌}
use Rattle.x7_words.specs.Flash.{names_asked}
use Rattle.x7_tool_tests.proofs.AskingLemmas.{read_asks_none}
use Rattle.x7_tool_tests.proofs.forgetful.ForgetfulFlash.read_at.Goals as goal

pub returns-clause-only : goal.returns-clause-only
returns-clause-only g c =
    let only = c.read_at-answer.ensures.only in
    record {
      bytes = refl;
      extent = only.extent;
      attached = only.attached;
      names = ap names_asked c.read_at.ensures ∙ read_asks_none c.args.self.now.calls c.args.place _ c.read_at-answer.result;
      faults = only.faults;
      absences = only.absences;
      write_faults = only.write_faults;
    }
