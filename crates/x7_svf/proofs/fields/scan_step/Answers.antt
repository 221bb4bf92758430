use Rattle.std.proofs.Common.{◌≡◌, ◌≤◌, ◌+◌, ◌++◌, ℕ, List, [], true, take, drop, length, length-append, refl, ap, sym, subst, ◌∙◌, Some, arith}
use Rattle.std.proofs.lemmas.List.{drop_all}
use Rattle.x7_svf.specs.Fields.{are_hex, field_by_name}
use Rattle.x7_svf.specs.Scanner.{Inside, Named, Scanning, after_name, after_field, closed_field}
use Rattle.x7_svf.specs.Token.{token_size}
use Rattle.x7_svf.specs.Reading.{StepsOver}
use Rattle.x7_svf.specs.Source.{SourceState}
use Rattle.x7_svf.specs.Span.{AreWithin, IsPlaceWithin, scan_place_of, fields_of, scanning_of}
use Rattle.x7_svf.specs.declared.fields.ScanField.{ScanField}
use Rattle.x7_svf.specs.declared.fields.ScannerPlace.{ScannerPlace}
use Rattle.x7_svf.specs.declared.fields.ScannerPlace.TheVariants as place
use Rattle.x7_svf.specs.declared.token.NextToken.{NextToken}
use Rattle.x7_svf.specs.declared.token.NextToken.TheVariants as next_token
use Rattle.x7_svf.proofs.FieldLemmas.{digits_more, fields_more, none_between, none_holds, none_inside, none_named, step_at}
use Rattle.x7_svf.proofs.ReadingLemmas.{steps_skipped}
use Rattle.x7_svf.proofs.SpanLemmas.{more_stays}
use Rattle.x7_svf.proofs.fields.scan_step.Goals as goal

pub returns-in_err-field-in-Between-Word : goal.returns-in_err-field-in-Between-Word
returns-in_err-field-in-Between-Word c =
    let old = c.args.source.now in
    let spans = c.args.scanner.spans in
    let n : ℕ = c.in-Between-Word.length in
    record {
      scans = ap (scanning_of old.saved) c.from_residual.ensures
          ∙ ap (after_name (fields_of old.saved spans)) (c.in_err-field-in-Between-Word.ensures ∙ ap (λ (r : List ℕ). field_by_name (take n r)) c.rest.ensures)
          ∙ step_at old.saved old.rest spans c.args.scanner.place place.Between c.args.token (next_token.Word n) c.in-Between-Word.is-0 c.in-Between-Word.is-1;
      within = none_holds c.from_residual.result _ c.from_residual.ensures;
      steps = none_holds c.from_residual.result _ c.from_residual.ensures;
    }

pub returns-in_ok-field-in-Between-Word : goal.returns-in_ok-field-in-Between-Word
returns-in_ok-field-in-Between-Word c =
    let old = c.args.source.now in
    let new = c.skip.new.self in
    let spans = c.args.scanner.spans in
    let n : ℕ = c.in-Between-Word.length in
    let same : new.saved ≡ old.saved = ap (λ (s : SourceState). s.saved) c.skip.ensures in
    record {
      scans = ap (λ (k : List ℕ). Some (record { at = Named c.in_ok-field-in-Between-Word.field; fields = fields_of k spans })) same
          ∙ ap (after_name (fields_of old.saved spans)) (c.in_ok-field-in-Between-Word.ensures ∙ ap (λ (r : List ℕ). field_by_name (take n r)) c.rest.ensures)
          ∙ step_at old.saved old.rest spans c.args.scanner.place place.Between c.args.token (next_token.Word n) c.in-Between-Word.is-0 c.in-Between-Word.is-1;
      within = (tt, subst (λ (k : List ℕ). AreWithin (length k) spans) (sym same) c.requires.within.1);
      steps = subst (λ (t : NextToken). StepsOver (token_size t) old new) (sym c.in-Between-Word.is-1) (steps_skipped n old new c.skip.ensures);
    }

pub returns-in_default : goal.returns-in_default
returns-in_default c =
    let old = c.args.source.now in
    record {
      scans = none_between (fields_of old.saved c.args.scanner.spans) c.args.token old.rest c.in_default.not-Word-1
          ∙ step_at old.saved old.rest c.args.scanner.spans c.args.scanner.place place.Between c.args.token c.args.token c.in_default.is-0 refl;
      within = tt;
      steps = tt;
    }

pub returns-in-Named-Open : goal.returns-in-Named-Open
returns-in-Named-Open c =
    let old = c.args.source.now in
    let new = c.skip-in-Named-Open.new.self in
    let spans = c.args.scanner.spans in
    let k : ScanField = c.in-Named-Open.field in
    let same : new.saved ≡ old.saved = ap (λ (s : SourceState). s.saved) c.skip-in-Named-Open.ensures in
    let none : drop (length c.saved.result.now) new.saved ≡ [] = drop_all (length c.saved.result.now) new.saved (omega (arith, ap length c.saved.ensures.now)) in
    let scanning : ◌≡◌ {A = Scanning} (record { at = Inside k (drop (length c.saved.result.now) new.saved); fields = fields_of new.saved spans }) (record { at = Inside k []; fields = fields_of old.saved spans }) = λ i. record { at = Inside k (none i); fields = fields_of (same i) spans } in
    record {
      scans = ap (λ (s : Scanning). Some s) scanning
          ∙ step_at old.saved old.rest spans c.args.scanner.place (place.Named k) c.args.token next_token.Open c.in-Named-Open.is-0 c.in-Named-Open.is-1;
      within = (omega (arith, ap length c.saved.ensures.now), subst (λ (k : List ℕ). AreWithin (length k) spans) (sym same) c.requires.within.1);
      steps = subst (λ (t : NextToken). StepsOver (token_size t) old new) (sym c.in-Named-Open.is-1) (steps_skipped 1 old new c.skip-in-Named-Open.ensures);
    }

pub returns-in_default-2 : goal.returns-in_default-2
returns-in_default-2 c =
    let old = c.args.source.now in
    record {
      scans = none_named c.in_default.field-0-0 (fields_of old.saved c.args.scanner.spans) c.args.token old.rest c.in_default.not-Open-1
          ∙ step_at old.saved old.rest c.args.scanner.spans c.args.scanner.place (place.Named c.in_default.field-0-0) c.args.token c.args.token c.in_default.is-0 refl;
      within = tt;
      steps = tt;
    }

pub returns-else-not-are_hex : goal.returns-else-not-are_hex
returns-else-not-are_hex c =
    let old = c.args.source.now in
    let new = c.save.new.self in
    let spans = c.args.scanner.spans in
    let k : ScanField = c.in-Inside-Word.field-0-0 in
    let from : ℕ = c.in-Inside-Word.field-1-0 in
    let n : ℕ = c.in-Inside-Word.length in
    let word : List ℕ = take n old.rest in
    let grown : new.saved ≡ old.saved ++ word = ap (λ (s : SourceState). s.saved) c.save.ensures in
    let long : length new.saved ≡ length old.saved + length word = ap length grown ∙ length-append old.saved word in
    let begun : from ≤ length old.saved = subst (IsPlaceWithin (length old.saved)) c.in-Inside-Word.is-0 c.requires.within.0 in
    let digits : are_hex word ≡ true = sym (c.are_hex.ensures ∙ ap (λ (r : List ℕ). are_hex (take n r)) c.rest-in-Inside-Word.ensures) ∙ c.if-not-are_hex.false in
    record {
      scans = ap (λ (p : ScannerPlace). Some (record { at = scan_place_of new.saved p; fields = fields_of new.saved spans })) c.in-Inside-Word.is-0
          ∙ digits_more old.saved word new.saved spans k from grown begun c.requires.within.1 digits
          ∙ step_at old.saved old.rest spans c.args.scanner.place (place.Inside k from) c.args.token (next_token.Word n) c.in-Inside-Word.is-0 c.in-Inside-Word.is-1;
      within = (subst (IsPlaceWithin (length new.saved)) (sym c.in-Inside-Word.is-0) (omega (arith, long, begun)), fields_more (length old.saved) (length new.saved) spans (omega (arith, long)) c.requires.within.1);
      steps = subst (λ (t : NextToken). StepsOver (token_size t) old new) (sym c.in-Inside-Word.is-1) (record {
        prefix = more_stays old.saved new.saved word grown;
        line = ap (λ (s : SourceState). s.line) c.save.ensures;
        rest = ap (λ (s : SourceState). s.rest) c.save.ensures;
      });
    }

pub returns-in_ok-spans-in-Inside-Close : goal.returns-in_ok-spans-in-Inside-Close
returns-in_ok-spans-in-Inside-Close c =
    let old = c.args.source.now in
    let new = c.skip-in-Inside-Close.new.self in
    let spans = c.args.scanner.spans in
    let k : ScanField = c.in-Inside-Close.field in
    let from : ℕ = c.in-Inside-Close.from in
    let same : new.saved ≡ old.saved = ap (λ (s : SourceState). s.saved) c.skip-in-Inside-Close.ensures in
    let closed = c.in_ok-spans-in-Inside-Close.ensures in
    record {
      scans = ap after_field (closed.fields ∙ ap (λ (saved : List ℕ). closed_field (fields_of saved spans) k (drop from saved)) same)
          ∙ step_at old.saved old.rest spans c.args.scanner.place (place.Inside k from) c.args.token next_token.Close c.in-Inside-Close.is-0 c.in-Inside-Close.is-1;
      within = (tt, closed.within (subst (λ (k : List ℕ). AreWithin (length k) spans) (sym same) c.requires.within.1));
      steps = subst (λ (t : NextToken). StepsOver (token_size t) old new) (sym c.in-Inside-Close.is-1) (steps_skipped 1 old new c.skip-in-Inside-Close.ensures);
    }

pub returns-in_default-3 : goal.returns-in_default-3
returns-in_default-3 c =
    let old = c.args.source.now in
    let k : ScanField = c.in_default.field-0-0 in
    let from : ℕ = c.in_default.field-1-0 in
    record {
      scans = none_inside k (drop from old.saved) (fields_of old.saved c.args.scanner.spans) c.args.token old.rest c.in_default.not-Word-1 c.in_default.not-Close-1
          ∙ step_at old.saved old.rest c.args.scanner.spans c.args.scanner.place (place.Inside k from) c.args.token c.args.token c.in_default.is-0 refl;
      within = tt;
      steps = tt;
    }
