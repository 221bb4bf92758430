use Rattle.x7_text.proofs.BlockLemmas.{bytes_line}
use Rattle.x7_text.proofs.block.bytes_line.Goals as goal

pub returns : goal.returns
returns c = bytes_line c.args.bytes.now c.hex_of_block.result c.hex_of_block.ensures c.told-bytes
