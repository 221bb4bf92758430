use Rattle.std.proofs.Common.{◌≡◌, ℕ, ◌-◌, ◌*◌, ◌≤◌, ◌<◌, ◌^◌, ◌&&◌, nat_le, nat_lt, true, if◌then◌else◌, length}
use Rattle.x7_mcs.specs.Image.{is_marked}
use Rattle.x7_mcs.proofs.image.mark_places.Given as goal

abbrev pub invariant-loop-at : goal.invariant-loop-at
invariant-loop-at l = record {
  since : l.place ≤ l.at;
  before : l.at ≤ l.end;
  small : l.end < 2 ^ 34;
  within : l.end ≤ 16 * length l.marks.items;
  marked : (p : ℕ) → is_marked l.marks.items p ≡ (if nat_le l.place p && nat_lt p l.at then true else is_marked l.fn.marks.items p);
}

abbrev pub decreases-loop-at : goal.decreases-loop-at
decreases-loop-at l = l.end - l.at
