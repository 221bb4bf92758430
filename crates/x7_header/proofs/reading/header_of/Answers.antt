use Rattle.std.proofs.Common.{◌<◌, arith}
use Rattle.x7_words.proofs.ListLemmas.{all_from_places}
use Rattle.x7_header.specs.Header.{contents_of}
use Rattle.x7_header.specs.Reading.{header_at}
use Rattle.x7_header.proofs.CutLemmas.{is_cut}
use Rattle.x7_header.proofs.HeaderLemmas.{header_after, header_none, is_found, is_only, is_other, is_raw, is_short}
use Rattle.x7_header.proofs.StepLemmas.{gives_fault}
use Rattle.x7_header.proofs.reading.header_of.Goals as goal

-- where the fixed bytes are not there, and where they are
pub returns-in_err-after_fixed_bytes-clause-exact : goal.returns-in_err-after_fixed_bytes-clause-exact
returns-in_err-after_fixed_bytes-clause-exact c =
    gives_fault (λ head. (contents_of head, head.size)) c.from_residual.result (header_at c.args.bytes.now) c.in_err-after_fixed_bytes.field-0.0 c.from_residual.ensures.0 c.from_residual.ensures.1
    (header_none c.args.bytes.now c.in_err-after_fixed_bytes.field-0.0 c.in_err-after_fixed_bytes.ensures.value)

pub returns-clause-exact : goal.returns-clause-exact
returns-clause-exact c = rw (header_after c.args.bytes.now c.in_ok-after_fixed_bytes.field-0.now c.in_ok-after_fixed_bytes.ensures.value) c.read_fields.ensures

pub returns-in_err-after_fixed_bytes-clause-found : goal.returns-in_err-after_fixed_bytes-clause-found
returns-in_err-after_fixed_bytes-clause-found c =
    is_found (λ head. (contents_of head, head.size)) c.from_residual.result c.args.bytes.now (all_from_places (λ b. b < 256) c.args.bytes.now (λ k l. omega (arith, c.type_inv.bytes k))) (returns-in_err-after_fixed_bytes-clause-exact c)

pub returns-clause-found : goal.returns-clause-found
returns-clause-found c =
    is_found (λ head. (contents_of head, head.size)) c.read_fields.result c.args.bytes.now (all_from_places (λ b. b < 256) c.args.bytes.now (λ k l. omega (arith, c.type_inv.bytes k))) (returns-clause-exact c)

pub returns-in_err-after_fixed_bytes-clause-most : goal.returns-in_err-after_fixed_bytes-clause-most
returns-in_err-after_fixed_bytes-clause-most c =
    is_short (λ head. (contents_of head, head.size)) c.from_residual.result c.args.bytes.now (all_from_places (λ b. b < 256) c.args.bytes.now (λ k l. omega (arith, c.type_inv.bytes k))) (returns-in_err-after_fixed_bytes-clause-exact c)

pub returns-clause-most : goal.returns-clause-most
returns-clause-most c =
    is_short (λ head. (contents_of head, head.size)) c.read_fields.result c.args.bytes.now (all_from_places (λ b. b < 256) c.args.bytes.now (λ k l. omega (arith, c.type_inv.bytes k))) (returns-clause-exact c)

pub returns-in_err-after_fixed_bytes-clause-complete : goal.returns-in_err-after_fixed_bytes-clause-complete
returns-in_err-after_fixed_bytes-clause-complete c =
    is_only (λ head. (contents_of head, head.size)) c.from_residual.result c.args.bytes.now (returns-in_err-after_fixed_bytes-clause-exact c)

pub returns-clause-complete : goal.returns-clause-complete
returns-clause-complete c =
    is_only (λ head. (contents_of head, head.size)) c.read_fields.result c.args.bytes.now (returns-clause-exact c)

pub returns-in_err-after_fixed_bytes-clause-raw : goal.returns-in_err-after_fixed_bytes-clause-raw
returns-in_err-after_fixed_bytes-clause-raw c =
    is_raw (λ head. (contents_of head, head.size)) c.from_residual.result c.args.bytes.now (returns-in_err-after_fixed_bytes-clause-exact c)

pub returns-clause-raw : goal.returns-clause-raw
returns-clause-raw c =
    is_raw (λ head. (contents_of head, head.size)) c.read_fields.result c.args.bytes.now (returns-clause-exact c)

pub returns-in_err-after_fixed_bytes-clause-cut : goal.returns-in_err-after_fixed_bytes-clause-cut
returns-in_err-after_fixed_bytes-clause-cut c =
    is_cut (λ head. (contents_of head, head.size)) c.from_residual.result c.args.bytes.now (all_from_places (λ b. b < 256) c.args.bytes.now (λ k l. omega (arith, c.type_inv.bytes k))) (returns-in_err-after_fixed_bytes-clause-exact c)

pub returns-clause-cut : goal.returns-clause-cut
returns-clause-cut c =
    is_cut (λ head. (contents_of head, head.size)) c.read_fields.result c.args.bytes.now (all_from_places (λ b. b < 256) c.args.bytes.now (λ k l. omega (arith, c.type_inv.bytes k))) (returns-clause-exact c)

pub returns-in_err-after_fixed_bytes-clause-field : goal.returns-in_err-after_fixed_bytes-clause-field
returns-in_err-after_fixed_bytes-clause-field c =
    is_other (λ head. (contents_of head, head.size)) c.from_residual.result c.args.bytes.now (all_from_places (λ b. b < 256) c.args.bytes.now (λ k l. omega (arith, c.type_inv.bytes k))) (returns-in_err-after_fixed_bytes-clause-exact c)

pub returns-clause-field : goal.returns-clause-field
returns-clause-field c =
    is_other (λ head. (contents_of head, head.size)) c.read_fields.result c.args.bytes.now (all_from_places (λ b. b < 256) c.args.bytes.now (λ k l. omega (arith, c.type_inv.bytes k))) (returns-clause-exact c)
