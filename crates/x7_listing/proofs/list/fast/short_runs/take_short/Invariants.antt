use Rattle.std.proofs.Common.{◌≡◌, ◌≤◌, ◌*◌, ◌-◌, ◌++◌, length, take}
use Rattle.x7_listing.specs.Fast.TakingAtOnce.{most_text}
use Rattle.x7_listing.specs.Pens.{ListsMore, lister_with}
use Rattle.x7_listing.specs.declared.list.fast.sheet.TheConstants.{SHEET_SIZE}
use Rattle.x7_listing.specs.declared.list.pen.state.Pen.TheVariants.{Session}
use Rattle.x7_listing.proofs.list.fast.short_runs.take_short.Given as goal

abbrev pub invariant-loop-len : goal.invariant-loop-len
invariant-loop-len l = record {
  within : l.at ≤ length l.rest;
  first : l.at ≡ 0 → (l.cutter ≡ l.fn.cutter) × (l.len ≡ 0);
  kept : length l.cutter.kept ≤ length l.fn.cutter.kept;
  inside : l.len ≤ SHEET_SIZE;
  few : l.len ≤ most_text * l.at;
  has_listed : ListsMore (lister_with l.fn.cutter l.fn.pen l.fn.text.items) (lister_with l.cutter (Session l.now) (l.fn.text.items ++ take l.len l.sheet)) (take l.at l.rest);
}

abbrev pub decreases-loop-len : goal.decreases-loop-len
decreases-loop-len l = length l.rest - l.at
