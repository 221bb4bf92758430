use Rattle.std.proofs.Common.{refl}
use Rattle.x7_listing.specs.Fast.AtOnce.{command_lines_text}
use Rattle.x7_listing.proofs.line.tables.command_row.Goals as goal

pub returns : goal.returns
returns c = c.row_in.ensures command_lines_text (refl, (refl, (refl, (refl, (refl, (refl, (refl, (refl, (refl, (refl, (refl, (refl, (refl, (refl, (refl, (refl, (refl, (refl, (refl, (refl, (refl, (refl, (refl, (refl, (refl, (refl, (refl, (refl, (refl, (refl, (refl, (refl, tt))))))))))))))))))))))))))))))))
