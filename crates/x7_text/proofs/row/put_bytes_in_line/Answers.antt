use Rattle.std.proofs.Common.{arith, rules, sym}
use Rattle.x7_text.proofs.FewLemmas.{few_appends, few_count}
use Rattle.x7_text.proofs.row.put_bytes_in_line.Goals as goal

pub returns : goal.returns
returns c =
    record {
      count = sym (few_count 32 c.args.in_line c.args.bytes.now c.requires.open);
      below = omega arith;
      appends = few_appends c.args.text.now c.put_line_start.new.text _ c.args.in_line c.args.bytes.now _ (search rules) c.requires.open c.hex_of_short_block.ensures c.put_line_start.ensures.appends c.put.ensures.appends;
    }
