use Rattle.std.proofs.Common.{refl}
use Rattle.x7_listing.specs.Fast.AtOnce.{write_start_text}
use Rattle.x7_listing.proofs.line.tables.write_row.Goals as goal

pub returns : goal.returns
returns c = c.row_in.ensures write_start_text (refl, (refl, (refl, (refl, (refl, (refl, (refl, (refl, (refl, (refl, (refl, (refl, (refl, (refl, (refl, (refl, (refl, (refl, (refl, (refl, (refl, (refl, (refl, (refl, (refl, (refl, (refl, (refl, (refl, (refl, (refl, (refl, tt))))))))))))))))))))))))))))))))
