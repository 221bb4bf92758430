use Rattle.std.proofs.Common.{ℕ, ◌^◌, nat_le, nat_lt, List, Option, ap, sym, ◌∙◌}
use Rattle.x7_svf.specs.Fields.{fits, hex_value}
use Rattle.x7_svf.specs.Span.{digits_if}
use Rattle.x7_svf.specs.declared.span.Span.{Span}
use Rattle.x7_svf.proofs.ValueLemmas.{width_test}
use Rattle.x7_svf.proofs.reader.fits.Goals as goal

pub returns-in-Some : goal.returns-in-Some
returns-in-Some c =
    ap (λ (n : ℕ). nat_le c.width.result n) c.from.ensures
    ∙ width_test (hex_value c.bytes_in.result.now) c.width.result c.args.count c.width.ensures
    ∙ ap (λ (ds : List ℕ). nat_lt (hex_value ds) (2 ^ c.args.count)) c.bytes_in.ensures
    ∙ sym (ap (λ (o : Option Span). fits c.args.count (digits_if c.args.saved.now o)) c.in-Some.is)
