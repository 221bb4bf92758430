use Rattle.std.proofs.Common.{◌++◌}
use Rattle.x7_header.specs.Reading.{HeaderFieldsWait}
use Rattle.x7_header.specs.declared.fault.HeaderFault.TheVariants as fault
use Rattle.x7_header.proofs.StepLemmas.{fault_at_a, fault_at_b, fault_at_c, fault_at_d, fault_at_e}
use Rattle.x7_header.proofs.WaitLemmas.{err_has, err_then}
use Rattle.x7_header.proofs.progress.whole_fields.Goals as goal

pub returns-in_err-rest-clause-waits : goal.returns-in_err-rest-clause-waits
returns-in_err-rest-clause-waits c = err_has (λ lack. HeaderFieldsWait c.args.bytes.now lack) c.from_residual.result c.in_err-rest.field-0.0 c.from_residual.ensures.0 c.from_residual.ensures.1 (λ all more h.
    fault_at_a all (c.args.bytes.now ++ more) (fault.Cut all) (c.in_err-rest.ensures.waits all more h))

pub returns-in_err-rest-2-clause-waits : goal.returns-in_err-rest-2-clause-waits
returns-in_err-rest-2-clause-waits c =
    let a = c.in_ok-rest.ensures.whole in
    err_has (λ lack. HeaderFieldsWait c.args.bytes.now lack) c.from_residual-in_err-rest-2.result c.in_err-rest-2.field-0.0 c.from_residual-in_err-rest-2.ensures.0 c.from_residual-in_err-rest-2.ensures.1 (λ all more h.
    fault_at_b all (c.args.bytes.now ++ more) a.0 _ (fault.Cut all) (a.1 all more) (c.in_err-rest-2.ensures.waits all more h))

pub returns-in_err-rest-3-clause-waits : goal.returns-in_err-rest-3-clause-waits
returns-in_err-rest-3-clause-waits c =
    let a = c.in_ok-rest.ensures.whole in
    let b = c.in_ok-rest-2.ensures.whole in
    err_has (λ lack. HeaderFieldsWait c.args.bytes.now lack) c.from_residual-in_err-rest-3.result c.in_err-rest-3.field-0.0 c.from_residual-in_err-rest-3.ensures.0 c.from_residual-in_err-rest-3.ensures.1 (λ all more h.
    fault_at_c all (c.args.bytes.now ++ more) a.0 _ b.0 _ (fault.Cut all) (a.1 all more) (b.1 all more) (c.in_err-rest-3.ensures.waits all more h))

pub returns-in_err-rest-4-clause-waits : goal.returns-in_err-rest-4-clause-waits
returns-in_err-rest-4-clause-waits c =
    let a = c.in_ok-rest.ensures.whole in
    let b = c.in_ok-rest-2.ensures.whole in
    let d = c.in_ok-rest-3.ensures.whole in
    err_has (λ lack. HeaderFieldsWait c.args.bytes.now lack) c.from_residual-in_err-rest-4.result c.in_err-rest-4.field-0.0 c.from_residual-in_err-rest-4.ensures.0 c.from_residual-in_err-rest-4.ensures.1 (λ all more h.
    fault_at_d all (c.args.bytes.now ++ more) a.0 _ b.0 _ d.0 _ (fault.Cut all) (a.1 all more) (b.1 all more) (d.1 all more) (c.in_err-rest-4.ensures.waits all more h))

pub returns-clause-waits : goal.returns-clause-waits
returns-clause-waits c =
    let a = c.in_ok-rest.ensures.whole in
    let b = c.in_ok-rest-2.ensures.whole in
    let d = c.in_ok-rest-3.ensures.whole in
    let e = c.in_ok-rest-4.ensures.whole in
    err_then _ (λ lack. HeaderFieldsWait c.args.bytes.now lack) c.whole_number.result c.whole_number.ensures.waits (λ lack w all more h.
    fault_at_e all (c.args.bytes.now ++ more) a.0 _ b.0 _ d.0 _ e.0 _ (fault.Cut all) (a.1 all more) (b.1 all more) (d.1 all more) (e.1 all more) (w all more h))
