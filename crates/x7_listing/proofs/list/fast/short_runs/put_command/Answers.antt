use Rattle.std.proofs.Common.{◌++◌, ◌∷◌, [], ◌∙◌, ap, arith, take, List, ℕ}
use Rattle.x7_listing.specs.Fast.AtOnce.{write_start_text}
use Rattle.x7_text.specs.Row.{close}
use Rattle.x7_listing.proofs.list.fast.OnSheetLemmas.{far_command, row_after}
use Rattle.x7_listing.proofs.list.fast.short_runs.put_command.Goals as goal

pub returns-then-word-lt-COMMAND_CODES-clause-appends : goal.returns-then-word-lt-COMMAND_CODES-clause-appends
returns-then-word-lt-COMMAND_CODES-clause-appends c = row_after (take c.args.len c.args.sheet.now) _ _ _ _ c.args.in_line c.put_close-begin.ensures.appends c.put_row.ensures.appends c.command_row.ensures

pub returns-clause-appends : goal.returns-clause-appends
returns-clause-appends c =
    c.put_whole.ensures.appends
    ∙ ap (λ (t : List ℕ). t ++ 10 ∷ []) (c.put_whole-end.ensures.appends ∙ ap (λ (t : List ℕ). t ++ c.hex_of_word.result) (row_after (take c.args.len c.args.sheet.now) _ _ _ _ c.args.in_line c.put_close-begin.ensures.appends c.put_row-start.ensures.appends c.write_row.ensures)
    ∙ ap (λ (t : List ℕ). (take c.args.len c.args.sheet.now ++ (close c.args.in_line ++ write_start_text c.number.result)) ++ t) c.hex_of_word.ensures)
    ∙ far_command (take c.args.len c.args.sheet.now) c.args.in_line c.number.result c.args.word c.number.ensures.value (omega (arith, c.if-word-lt-COMMAND_CODES.false))
