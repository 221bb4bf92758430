use Rattle.x7_svf.specs.Fields.{hex_value}
use Rattle.x7_svf.proofs.ValueLemmas.{rest_on, width_at}
use Rattle.x7_svf.proofs.reader.width.Goals as goal

pub returns-then-bits-gt0 : goal.returns-then-bits-gt0
returns-then-bits-gt0 c = width_at c.loop-rest.rest.now (hex_value c.args.digits.now) c.digit_width-bits.result c.width_with.result
    c.in-len1-up.len_at_least c.loop-rest.invariant.hex c.digit_width-bits.ensures c.if-bits-gt0.true c.loop-rest.invariant.value c.width_with.ensures

pub loop-rest-preserved : goal.loop-rest-preserved
loop-rest-preserved c =
    let on = rest_on c.loop-rest.rest.now (hex_value c.args.digits.now) c.digit_width-bits.result c.in-len1-up.len_at_least c.loop-rest.invariant.hex c.digit_width-bits.ensures c.if-bits-gt0.false c.loop-rest.invariant.value in
    record { value = on.0; hex = on.1 }
