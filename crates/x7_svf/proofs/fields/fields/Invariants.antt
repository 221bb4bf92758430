use Rattle.std.proofs.Common.{◌≡◌, length}
use Rattle.x7_svf.specs.Fields.{scan_fields}
use Rattle.x7_svf.specs.Reading.{ReadsOn}
use Rattle.x7_svf.specs.Source.{tokens_left}
use Rattle.x7_svf.specs.Span.{IsWithin, scan_place_of, fields_of}
use Rattle.x7_svf.specs.Svf.{tokens_before_end}
use Rattle.x7_svf.proofs.ScannerLemmas.{scan_from}
use Rattle.x7_svf.proofs.fields.fields.Given as goal

abbrev pub invariant-loop-token : goal.invariant-loop-token
invariant-loop-token l = record {
  same : scan_fields (tokens_before_end (tokens_left l.fn.source)) ≡ scan_from (scan_place_of l.source.saved l.scanner.place) (fields_of l.source.saved l.scanner.spans) (tokens_before_end (tokens_left l.source));
  within : IsWithin (length l.source.saved) l.scanner;
  reads_on : ReadsOn l.fn.source l.source;
}

abbrev pub decreases-loop-token : goal.decreases-loop-token
decreases-loop-token l = length l.source.rest
