use Rattle.std.proofs.Common.{◌*◌, take}
use Rattle.std.specs.List.{flat_map}
use Rattle.x7_text.specs.Appends.{Appends}
use Rattle.x7_report.specs.State.{reg_line, reg_line_room}
use Rattle.x7_report.proofs.state.put_rows.Given as goal

abbrev pub invariant-loop-row : goal.invariant-loop-row
invariant-loop-row l = Appends l.fn.out l.out (flat_map reg_line (take l.row-index l.rows)) (reg_line_room * l.row-index)
