use Rattle.std.proofs.Common.{◌*◌, ℕ, Bool, List, length, take, drop, arith, ap, ◌∙◌, sym}
use Rattle.x7_svf.proofs.BitLemmas.{count_of}
use Rattle.x7_svf.proofs.ByteLemmas.{from_part}
use Rattle.x7_svf.proofs.bits.Bits.bytes_from.Goals as goal

pub bytes_of-requires-clause-more_than_a_byte : goal.bytes_of-requires-clause-more_than_a_byte
bytes_of-requires-clause-more_than_a_byte c = omega (arith, c.requires.more_than_a_byte, count_of c.self.inside.digits.now c.self.inside.count 0, ap length c.self.view_is)

pub returns-clause-within : goal.returns-clause-within
returns-clause-within c = omega (arith, c.bytes_of.ensures.within, count_of c.self.inside.digits.now c.self.inside.count 0, ap length c.self.view_is)

pub returns-clause-bits : goal.returns-clause-bits
returns-clause-bits c =
    let n : ℕ = 8 * length c.bytes_of.result.items in
    let digits = c.self.inside.digits.now in
    c.bytes_of.ensures.bits
    ∙ sym (from_part digits c.self.inside.count c.args.from n (omega (arith, c.bytes_of.ensures.within))) ∙ ap (λ (bs : List Bool). take n (drop c.args.from bs)) c.self.view_is
