use Rattle.x7_in_memory.proofs.NamedBytesLemmas.{bytes_under_position, name_under_position}
use Rattle.x7_in_memory.proofs.named_bytes.place_of.Goals as goal

pub returns-clause-found : goal.returns-clause-found
returns-clause-found c =
    (bytes_under_position c.args.named.now c.args.name.now c.first_place.result c.first_place.ensures).0

pub returns-clause-bytes : goal.returns-clause-bytes
returns-clause-bytes c =
    (bytes_under_position c.args.named.now c.args.name.now c.first_place.result c.first_place.ensures).1

pub returns-clause-name : goal.returns-clause-name
returns-clause-name c =
    name_under_position c.args.named.now c.args.name.now c.first_place.result c.first_place.ensures
