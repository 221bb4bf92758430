use Rattle.std.proofs.Common.{◌++◌, ◌∙◌, List, ℕ, ap}
use Rattle.std.specs.List.{flat_map}
use Rattle.x7_report.specs.State.{reg_line, reg_text}
use Rattle.x7_report.proofs.state.reg_lines.Goals as goal

pub returns-clause-appends : goal.returns-clause-appends
unfolding reg_text
returns-clause-appends c = c.put_rows.ensures ∙ ap (λ (t : List ℕ). t ++ flat_map reg_line c.args.snapshot.now.registers) c.make_room.ensures.items
