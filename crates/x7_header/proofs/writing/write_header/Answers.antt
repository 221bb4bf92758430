use Rattle.x7_header.specs.Header.{contents_of}
use Rattle.x7_header.proofs.HeaderLemmas.{header_again, header_same, pieces_joined}
use Rattle.x7_header.proofs.writing.write_header.Goals as goal

pub returns-clause-bytes : goal.returns-clause-bytes
returns-clause-bytes c =
    pieces_joined (contents_of c.args.head.now) c.before_text-a.result c.before_text-b.result c.before_text-c.result c.before_text-d.result c.bytes_of-length.result c.in_ok-concat.field-0.items
    c.before_text-a.ensures c.before_text-b.ensures c.before_text-c.ensures c.before_text-d.ensures c.bytes_of-length.ensures.value c.in_ok-concat.ensures.ok

pub returns-clause-back : goal.returns-clause-back
returns-clause-back c = λ rest. header_again (contents_of c.args.head.now) rest c.requires

pub returns-clause-one_head : goal.returns-clause-one_head
returns-clause-one_head c = λ x have same. header_same x (contents_of c.args.head.now) have c.requires same

pub returns-in_err-concat-clause-back : goal.returns-in_err-concat-clause-back
returns-in_err-concat-clause-back c = λ rest. header_again (contents_of c.args.head.now) rest c.requires

pub returns-in_err-concat-clause-one_head : goal.returns-in_err-concat-clause-one_head
returns-in_err-concat-clause-one_head c = λ x have same. header_same x (contents_of c.args.head.now) have c.requires same
