use Rattle.std.proofs.Common.{◌++◌, ◌∙◌, ap, append_assoc, sym, take, List, ℕ}
use Rattle.x7_listing.specs.Fast.AtOnce.{write_start_text}
use Rattle.x7_text.specs.Row.{close}
use Rattle.x7_listing.proofs.list.fast.AtOnceLemmas.{command_row_is, data_row_is}
use Rattle.x7_listing.proofs.list.fast.OnSheetLemmas.{row_after}
use Rattle.x7_listing.proofs.list.fast.short_runs.put_write_lines.Goals as goal

pub returns-then-register-number-clause-appends : goal.returns-then-register-number-clause-appends
returns-then-register-number-clause-appends c = c.put_command.ensures.appends ∙ ap (λ (t : List ℕ). take c.args.len c.args.sheet.now ++ t) (command_row_is c.args.in_line c.args.register c.args.word (c.if-register-number.true ∙ c.number.ensures.value))

pub returns-clause-appends : goal.returns-clause-appends
returns-clause-appends c =
    c.put_whole.ensures.appends ∙ ap (λ (t : List ℕ). t ++ c.hex_of_word.result) (row_after (take c.args.len c.args.sheet.now) _ _ _ _ c.args.in_line c.put_close-begin.ensures.appends c.put_row-start.ensures.appends c.write_row.ensures)
    ∙ append_assoc (take c.args.len c.args.sheet.now) (close c.args.in_line ++ write_start_text c.args.register) c.hex_of_word.result
    ∙ ap (λ (t : List ℕ). take c.args.len c.args.sheet.now ++ t)
    (ap (λ (t : List ℕ). (close c.args.in_line ++ write_start_text c.args.register) ++ t) c.hex_of_word.ensures
    ∙ data_row_is c.args.in_line c.args.register c.args.word c.requires.register (λ e. c.if-register-number.false (e ∙ sym c.number.ensures.value)))
