use Rattle.std.proofs.Common.{◌∙◌, ap, drop}
use Rattle.x7_in_memory.proofs.NamedBytesLemmas.{left_of_at}
use Rattle.x7_in_memory.proofs.named_bytes.left_at.Goals as goal

pub returns : goal.returns
returns c =
    left_of_at c.args.named.now c.args.given c.args.place c.index-named-place.result _ c.requires (c.bytes_from.ensures ∙ ap (drop c.args.given) c.as_slice.ensures.value)
