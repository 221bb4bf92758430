use Rattle.std.proofs.Common.{◌==◌, w8, arith}
use Rattle.std.proofs.lemmas.Simd.{bitmask_splat}
use Rattle.x7_listing.proofs.asm.fast.line_end.line_ends.Goals as goal

pub returns : goal.returns
returns c = bitmask_splat w8 (λ a b. a == b) c.args.bytes 32 10 c.fits-bytes.0 (omega arith)
