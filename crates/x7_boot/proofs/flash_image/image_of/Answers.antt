use Rattle.std.proofs.Common.{◌/◌, rules}
use Rattle.x7_boot.proofs.ImageLemmas.{image_put}
use Rattle.x7_boot.proofs.flash_image.image_of.Goals as goal

pub returns-in-Ok-clause-bytes : goal.returns-in-Ok-clause-bytes
returns-in-Ok-clause-bytes c = image_put c.args.unit c.in-Some.update_place c.in-Some.size (c.in-Some.update_place / c.args.unit) c.args.golden.now c.args.update.now c.in-Ok.image.items (search rules) (search rules) (search rules) (search rules)
