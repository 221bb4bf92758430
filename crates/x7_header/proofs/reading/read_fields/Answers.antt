use Rattle.x7_header.proofs.StepLemmas.{fault_at_a, fault_at_b, fault_at_c, fault_at_d, fault_at_e, gives_fault, read_whole}
use Rattle.x7_header.proofs.reading.read_fields.Goals as goal

pub returns-in_err-a : goal.returns-in_err-a
returns-in_err-a c = gives_fault _ c.from_residual.result _ c.in_err-a.field-0.0 c.from_residual.ensures.0 c.from_residual.ensures.1 (fault_at_a _ _ _ c.in_err-a.ensures.value)

pub returns-in_err-b : goal.returns-in_err-b
returns-in_err-b c =
    gives_fault _ c.from_residual-in_err-b.result _ c.in_err-b.field-0.0 c.from_residual-in_err-b.ensures.0 c.from_residual-in_err-b.ensures.1 (fault_at_b _ _ _ _ _ c.in_ok-a.ensures.value c.in_err-b.ensures.value)

pub returns-in_err-c : goal.returns-in_err-c
returns-in_err-c c =
    gives_fault _ c.from_residual-in_err-c.result _ c.in_err-c.field-0.0 c.from_residual-in_err-c.ensures.0 c.from_residual-in_err-c.ensures.1 (fault_at_c _ _ _ _ _ _ _ c.in_ok-a.ensures.value c.in_ok-b.ensures.value c.in_err-c.ensures.value)

pub returns-in_err-d : goal.returns-in_err-d
returns-in_err-d c =
    gives_fault _ c.from_residual-in_err-d.result _ c.in_err-d.field-0.0 c.from_residual-in_err-d.ensures.0 c.from_residual-in_err-d.ensures.1 (fault_at_d _ _ _ _ _ _ _ _ _ c.in_ok-a.ensures.value c.in_ok-b.ensures.value c.in_ok-c.ensures.value c.in_err-d.ensures.value)

pub returns-in_err-length : goal.returns-in_err-length
returns-in_err-length c =
    gives_fault _ c.from_residual-in_err-length.result _ c.in_err-length.field-0.0 c.from_residual-in_err-length.ensures.0 c.from_residual-in_err-length.ensures.1
    (fault_at_e _ _ _ _ _ _ _ _ _ _ _ c.in_ok-a.ensures.value c.in_ok-b.ensures.value c.in_ok-c.ensures.value c.in_ok-d.ensures.value c.in_err-length.ensures.value)

pub returns : goal.returns
returns c =
    read_whole _ _ _ _ _ _ _ _ _ _ _ _ _ c.in_ok-a.ensures.value c.in_ok-b.ensures.value c.in_ok-c.ensures.value c.in_ok-d.ensures.value c.in_ok-length.ensures.value c.in_ok-length.ensures.word
