use Rattle.std.proofs.Common.{rules, ◌≡◌, ◌∷◌, ℕ, List, Option, ap, sym, ◌∙◌}
use Rattle.x7_svf.specs.Fields.{ScanFields, scan_fields}
use Rattle.x7_svf.specs.Token.{TokenOnLine, token_of}
use Rattle.x7_svf.specs.Source.{tokens_left}
use Rattle.x7_svf.specs.Span.{scan_place_of, fields_of}
use Rattle.x7_svf.specs.Svf.{tokens_before_end}
use Rattle.x7_svf.proofs.FieldLemmas.{scan_on}
use Rattle.x7_svf.proofs.ReadingLemmas.{left_stepped, reads_both, reads_none, reads_token}
use Rattle.x7_svf.proofs.ScannerLemmas.{fields_are_scanned, scan_from}
use Rattle.x7_svf.proofs.fields.fields.Goals as goal

pub loop-token-init : goal.loop-token-init
loop-token-init c = record {
  same = fields_are_scanned (tokens_before_end (tokens_left c.args.source.now));
  within = search rules;
  reads_on = reads_none c.args.source.now;
}

pub loop-token-preserved : goal.loop-token-preserved
loop-token-preserved c =
    let at = c.loop-token.source in
    let here = c.next_within.new.source in
    let after = c.scan_step.new.source in
    let t = c.in-Some.token in
    let s = c.loop-token.scanner in
    let all : Option ScanFields = scan_fields (tokens_before_end (tokens_left c.args.source.now)) in
    let before : all ≡ scan_from (scan_place_of here.saved s.place) (fields_of here.saved s.spans) (tokens_before_end (tokens_left at)) =
    c.loop-token.invariant.same ∙ ap (λ (k : List ℕ). scan_from (scan_place_of k s.place) (fields_of k s.spans) (tokens_before_end (tokens_left at))) (sym c.in-Some.ensures.blanks.saved) in
    let left : tokens_before_end (tokens_left at) ≡ token_of t here.rest ∷ tokens_before_end (tokens_left after) =
    c.in-Some.ensures.tokens ∙ ap (λ (ps : List TokenOnLine). token_of t here.rest ∷ tokens_before_end ps) (left_stepped here after t c.in-Some-scan_step.ensures.steps) in
    record {
      same = scan_on here.saved after.saved s c.in-Some-scan_step.next (tokens_before_end (tokens_left at)) (tokens_before_end (tokens_left after)) (token_of t here.rest) all before left c.in-Some-scan_step.ensures.scans;
      within = c.in-Some-scan_step.ensures.within;
      reads_on = reads_both c.args.source.now at after c.loop-token.invariant.reads_on (reads_token at here after t c.in-Some.ensures.blanks c.in-Some.ensures.after_end c.in-Some-scan_step.ensures.steps);
    }
