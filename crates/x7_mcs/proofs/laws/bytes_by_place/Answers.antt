use Rattle.x7_mcs.proofs.LawLemmas.{byte_free, byte_there, image_at, image_long}
use Rattle.x7_mcs.proofs.laws.bytes_by_place.Goals as goal

pub returns-clause-length : goal.returns-clause-length
returns-clause-length c = image_long

pub returns-clause-each_byte : goal.returns-clause-each_byte
returns-clause-each_byte c = image_at

pub returns-clause-covered : goal.returns-clause-covered
returns-clause-covered c = byte_there

pub returns-clause-uncovered : goal.returns-clause-uncovered
returns-clause-uncovered c = byte_free
