use Rattle.std.proofs.Common.{arith, length}
use Rattle.x7_mcs.proofs.RowsLemmas.{room_more, row_more}
use Rattle.x7_mcs.proofs.text.put_rows.Goals as goal

pub put_row-requires-clause-room : goal.put_row-requires-clause-room
put_row-requires-clause-room c = omega (arith, c.loop-rest.invariant.room (omega arith))

pub loop-rest-preserved : goal.loop-rest-preserved
loop-rest-preserved c = record {
  lines =
      row_more _ c.loop-rest.text.items c.put_row.new.out.items c.loop-rest.at c.min.result c.loop-rest.rest.now c.split_at.result.0.now c.split_at.result.1.now
      c.loop-rest.invariant.lines (omega arith) c.min.ensures c.split_at.ensures.front c.split_at.ensures.back c.put_row.ensures.items;
  left = omega arith;
  room = room_more (length c.loop-rest.rest.now) c.min.result (length c.split_at.result.1.now) _ _ _ _ c.min.ensures (omega arith) (omega arith) c.loop-rest.invariant.room c.put_row.ensures.within c.put_row.ensures.room;
  capacity = omega (arith, c.put_row.ensures.room, c.loop-rest.invariant.capacity);
}
