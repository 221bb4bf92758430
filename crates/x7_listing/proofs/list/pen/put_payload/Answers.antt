use Rattle.std.proofs.Common.{[], ◌∷◌, sym, arith, ◌∙◌}
use Rattle.x7_text.proofs.AppendsLemmas.{appends_as}
use Rattle.x7_listing.proofs.SessionLemmas.{data_listed, is_data}
use Rattle.x7_listing.proofs.list.pen.put_payload.Goals as goal

pub returns-clause-appends : goal.returns-clause-appends
returns-clause-appends c =
    appends_as _ _ _ _ _ _ c.put_word.ensures.appends (sym (data_listed c.args.register c.args.in_line.count (c.args.word ∷ []) (is_data c.args.register (λ e. c.if-register-number.false (e ∙ sym c.number.ensures.value))))) (omega arith)
