use Rattle.std.proofs.Common.{refl}
use Rattle.x7_text.proofs.PrefixLemmas.{mask_differs, same_by_mask, same_most}
use Rattle.x7_text.proofs.reading.same_prefix_size.Goals as goal

pub returns-clause-same : goal.returns-clause-same
returns-clause-same c = same_by_mask _ _ c.args.a.now c.args.b.now c.told-a c.told-b (mask_differs c.args.a.now c.args.b.now c.told-a c.told-b) refl

pub returns-clause-longest : goal.returns-clause-longest
returns-clause-longest c n h e = same_most _ _ n c.args.a.now c.args.b.now c.told-a c.told-b (mask_differs c.args.a.now c.args.b.now c.told-a c.told-b) refl h e
