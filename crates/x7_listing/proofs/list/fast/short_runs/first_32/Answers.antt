use Rattle.std.proofs.Common.{arith, ap, ◌∙◌, get_or, [], ℕ, List, length, ◌/◌}
use Rattle.x7_listing.proofs.list.fast.AtOnceLemmas.{first_chunk}
use Rattle.x7_listing.proofs.list.fast.short_runs.first_32.Goals as goal

pub returns : goal.returns
returns c = ap (λ (t : List (List ℕ)). get_or t 0 []) c.as_chunks.ensures.front ∙ first_chunk 32 (length c.args.bytes.now / 32) c.args.bytes.now (omega (arith, c.requires))
