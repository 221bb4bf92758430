use Rattle.std.proofs.Common.{arith}
use Rattle.std.proofs.lemmas.Grind.{common_steps}
use Rattle.std.proofs.lemmas.List.{take_more}
use Rattle.x7_text.proofs.OpenLineLemmas.{written_bytes_length, written_one_more}
use Rattle.x7_text.proofs.row.put_each_byte.Goals as goal

pub put_byte-count-requires-clause-room : goal.put_byte-count-requires-clause-room
put_byte-count-requires-clause-room c =
    omega (arith, c.loop-byte.text.ok.0, c.args.text.now.ok.0, written_bytes_length _ _ _ _ _ _ c.requires.open (omega arith) c.loop-byte.invariant.0)

pub loop-byte-preserved : goal.loop-byte-preserved
loop-byte-preserved c =
    rw (take_more c.args.bytes.now c.loop-byte.byte-index 0 (omega arith))
    (written_one_more _ _ _ _ _ _ _ _ _ _ _ c.loop-byte.invariant.0 c.put_byte-count.ensures.appends.items c.put_byte-count.ensures.count c.put_byte-count.ensures.below, omega arith)

pub returns : goal.returns
returns c =
    record {
      count = grind (arith, common_steps, c.loop-byte.invariant.0.count_is);
      below = omega arith;
      appends = record {
        items = grind (arith, common_steps, c.loop-byte.invariant.0.text_is);
        within = omega (arith, c.loop-byte.text.ok.0, c.args.text.now.ok.0, written_bytes_length _ _ _ _ _ _ c.requires.open (omega arith) c.loop-byte.invariant.0);
        room = omega arith;
      };
    }
