use Rattle.std.proofs.Common.{ap, ◌∙◌, arith, Bool, Some, List}
use Rattle.std.specs.List.{slice_get}
use Rattle.x7_svf.proofs.BitLemmas.{bit_of_is, bit_past}
use Rattle.x7_svf.proofs.bits.Bits.bit.Goals as goal

pub returns-then-index-self : goal.returns-then-index-self
returns-then-index-self c = bit_past c.self.inside.digits.now c.self.inside.count c.args.index 0 (omega (arith, c.if-index-self.true)) ∙ ap (λ (bs : List Bool). slice_get bs c.args.index) c.self.view_is

pub returns : goal.returns
returns c =
    ap (λ (b : Bool). Some b) c.bit_of.ensures
    ∙ bit_of_is c.self.inside.digits.now c.self.inside.count c.args.index (omega (arith, c.if-index-self.false))
    ∙ ap (λ (bs : List Bool). slice_get bs c.args.index) c.self.view_is
