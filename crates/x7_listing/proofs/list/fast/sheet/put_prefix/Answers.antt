use Rattle.x7_listing.proofs.list.fast.SheetLemmas.{stored}
use Rattle.x7_listing.proofs.list.fast.sheet.put_prefix.Goals as goal

pub returns-clause-appends : goal.returns-clause-appends
returns-clause-appends c = stored c.args.sheet.now c.args.piece.now c.copy_from_slice.new.self _ c.args.len c.args.count c.told-sheet c.requires.room c.requires.within c.copy_from_slice.ensures.after
