use Rattle.std.proofs.Common.{◌≡◌, false, length, ◌++◌, take, drop}
use Rattle.x7_svf.specs.Comment.{clean_text}
use Rattle.x7_svf.proofs.comment.clean.Given as goal

abbrev pub invariant-loop-at : goal.invariant-loop-at
invariant-loop-at l = record {
  long : length l.text.items ≡ length l.fn.text.items;
  rest : drop l.at l.text.items ≡ drop l.at l.fn.text.items;
  is : clean_text false l.fn.text.items ≡ take l.at l.text.items ++ clean_text l.is_in_comment (drop l.at l.fn.text.items);
}
