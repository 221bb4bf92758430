use Rattle.std.proofs.Common.{refl}
use Rattle.x7_listing.specs.Fast.AtOnce.{write_name_text}
use Rattle.x7_listing.proofs.line.tables.name_row.Goals as goal

pub returns : goal.returns
returns c = c.row_in.ensures write_name_text (refl, (refl, (refl, (refl, (refl, (refl, (refl, (refl, (refl, (refl, (refl, (refl, (refl, (refl, (refl, (refl, (refl, (refl, (refl, (refl, (refl, (refl, (refl, (refl, (refl, (refl, (refl, (refl, (refl, (refl, (refl, (refl, tt))))))))))))))))))))))))))))))))
