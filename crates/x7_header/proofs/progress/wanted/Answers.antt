use Rattle.std.proofs.Common.{◌<◌, arith}
use Rattle.x7_words.proofs.ListLemmas.{all_from_places}
use Rattle.x7_header.proofs.WaitLemmas.{fields_wait, one_waits}
use Rattle.x7_header.proofs.progress.wanted.Goals as goal

pub returns-in-Err-clause-waits : goal.returns-in-Err-clause-waits
returns-in-Err-clause-waits c = λ e. fields_wait c.args.bytes.now c.in-Ok.fields.now c.in-Err.lack c.in-Ok.ensures.whole c.in-Err.ensures.waits

pub returns-in_default-whole_fields-clause-waits : goal.returns-in_default-whole_fields-clause-waits
returns-in_default-whole_fields-clause-waits c = one_waits c.args.bytes.now (all_from_places (λ b. b < 256) c.args.bytes.now (λ k l. omega (arith, c.type_inv.bytes k)))

pub returns-in_default-whole_fields-2-clause-waits : goal.returns-in_default-whole_fields-2-clause-waits
returns-in_default-whole_fields-2-clause-waits c = one_waits c.args.bytes.now (all_from_places (λ b. b < 256) c.args.bytes.now (λ k l. omega (arith, c.type_inv.bytes k)))
