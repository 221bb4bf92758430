use Rattle.std.proofs.Common.{◌≡◌, ◌≤◌, Some, length, take, drop, arith}
use Rattle.std.proofs.lemmas.Grind.{common_steps}
use Rattle.x7_in_memory.specs.NamedBytes.{left_of}
use Rattle.x7_in_memory.proofs.NamedBytesLemmas.{left_of_add, preceded_taken}
use Rattle.x7_in_memory.proofs.inputs.MemoryInputsInputs.read.Goals as goal

pub returns-clause-taken : goal.returns-clause-taken
returns-clause-taken c =
    let left = c.left_at-left.result.now in
    let n = c.min-count.result in
    let before : left_of c.self.inside.named.items c.self.inside.given c.self.inside.selected ≡ Some left = rw (c.in-Some.is, ← c.deref.ensures.value) c.left_at-left.ensures in
    let within : n ≤ length left = grind (arith, common_steps) in
    let given : c.copy_from_slice.new.self ≡ take n left = grind (arith, common_steps, c.copy_from_slice.ensures.after) in
    let after = left_of_add c.self.inside.named.items c.self.inside.given n c.self.inside.selected left before in
    rw (← c.self.view_is) (preceded_taken _ _ left c.copy_from_slice.new.self (drop n c.args.buf.now) n before after within given)
