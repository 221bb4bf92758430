use Rattle.std.proofs.Common.{◌≡◌, ◌++◌, List, ℕ, append_assoc, ap, codes, sym, ◌∙◌}
use Rattle.x7_forms.specs.Event.{Event, detail_text, event_line, event_of, reason_row}
use Rattle.x7_forms.proofs.refusal.Refusal.tell.Goals as goal

-- what stands before the name, the name, a label and what comes after it are the line of an event
line_is : (e : Event) (before label detail : List ℕ) → before ≡ codes "x7: " ++ (reason_row e.reason).before_name → (reason_row e.reason).after_name ≡ label ++ detail
    → before ++ (e.concerned ++ (label ++ (detail ++ codes "\n"))) ≡ event_line e
line_is e before label detail b a =
    ap (λ t. t ++ (e.concerned ++ (label ++ (detail ++ codes "\n")))) b
    ∙ ap (λ t. codes "x7: " ++ ((reason_row e.reason).before_name ++ (e.concerned ++ t))) (sym (append_assoc label detail (codes "\n")) ∙ ap (λ t. t ++ codes "\n") (sym a))

pub returns-clause-line : goal.returns-clause-line
returns-clause-line g c =
    rw (← line_is (event_of c.args.self.now) c.before_name.result.now c.after_name-detail.result.0.now (detail_text c.after_name-detail.result.1) c.before_name.ensures c.after_name-detail.ensures) c.write_line.ensures
