use Rattle.std.proofs.Common.{[], ◌++◌, true, refl, take}
use Rattle.x7_listing.proofs.list.fast.AtOnceLemmas.{write_listed}
use Rattle.x7_listing.proofs.list.fast.OnSheetLemmas.{after_text}
use Rattle.x7_listing.proofs.list.fast.short_runs.put_one_write.Goals as goal

pub returns-clause-listed : goal.returns-clause-listed
returns-clause-listed c = λ old new rest x text given before bytes s.
    write_listed old new true true c.args.in_line.count _ c.args.in_line.count c.args.register c.args.word [] [] (text ++ take c.args.len c.args.sheet.now) _ given before bytes rest x (λ k. refl) refl c.put_write_lines-end.ensures.count
    (after_text text (take c.args.len c.args.sheet.now) _ _ c.put_write_lines-end.ensures.appends) s
