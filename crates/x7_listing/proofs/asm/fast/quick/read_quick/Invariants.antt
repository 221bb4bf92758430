use Rattle.std.proofs.Common.{◌≤◌, ◌+◌, ◌-◌, drop, length, vec_capacity, vec_len}
use Rattle.x7_listing.specs.Assembling.{AppendsLines}
use Rattle.x7_listing.proofs.asm.fast.quick.read_quick.Given as goal

abbrev pub invariant-loop-all : goal.invariant-loop-all
invariant-loop-all l = record {
  within : l.all.size ≤ length l.text;
  counted : l.all.count ≤ l.all.size;
  takes : AppendsLines l.text (drop l.all.size l.text) l.fn.out.items l.out.items l.all.count;
  limit : vec_len l.fn.out ≤ 67108864 → vec_len l.out ≤ 67108864;
  room : vec_len l.fn.out + 32 ≤ vec_capacity l.fn.out → vec_len l.out + 32 ≤ vec_capacity l.out;
}

abbrev pub decreases-loop-all : goal.decreases-loop-all
decreases-loop-all l = length l.text - l.all.size
