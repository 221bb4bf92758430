use Rattle.std.proofs.Common.{List, ℕ, Some, sym, subst}
use Rattle.x7_svf.specs.Fields.{scan_by}
use Rattle.x7_svf.specs.Source.{tokens_left}
use Rattle.x7_svf.specs.Scanner.{AreHexFields}
use Rattle.x7_svf.specs.Span.{fields_of}
use Rattle.x7_svf.specs.Stored.{IsStored}
use Rattle.x7_svf.specs.Svf.{tokens_before_end}
use Rattle.x7_svf.proofs.HexLemmas.{hex_scanned}
use Rattle.x7_svf.proofs.reader.scan.Goals as goal

pub scan_of_fields-requires-clause-hex : goal.scan_of_fields-requires-clause-hex
scan_of_fields-requires-clause-hex c =
    subst (λ (saved : List ℕ). AreHexFields (fields_of saved c.in_ok-spans.spans)) (sym c.saved.ensures.now)
    (hex_scanned (tokens_before_end (tokens_left c.scan_count.new.source)) (fields_of c.fields.new.source.saved c.in_ok-spans.spans) c.in_ok-spans.ensures.fields)

pub returns-clause-says : goal.returns-clause-says
returns-clause-says c =
    rw (c.in_ok-count.ensures.count c.args.register, sym c.in_ok-spans.ensures.fields)
    (subst (λ (saved : List ℕ). IsStored saved c.scan_of_fields.result (scan_by c.args.register c.in_ok-count.count (Some (fields_of saved c.in_ok-spans.spans)))) c.saved.ensures.now c.scan_of_fields.ensures)
