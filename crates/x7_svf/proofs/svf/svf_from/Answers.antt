use Rattle.std.proofs.Common.{rules, ◌≡◌, ◌⊎◌, List, ℕ, Ok, Err, length, ap, subst, sym, ◌∙◌, arith}
use Rattle.x7_svf.specs.Source.{SourceState, tokens_left}
use Rattle.x7_svf.specs.Stored.{AreStoredWithin, statements_in}
use Rattle.x7_svf.specs.Svf.{BeginWithStatement, IsSvfOf, outcome, tokens_of}
use Rattle.x7_svf.specs.Token.{TokenOnLine, tokens}
use Rattle.x7_svf.specs.declared.fault.SvfFault.TheVariants.{NoMemory}
use Rattle.x7_svf.proofs.svf.svf_from.Goals as goal

pub returns-clause-statements : goal.returns-clause-statements
returns-clause-statements c =
    let read : tokens_left c.new-source.result ≡ tokens_of c.args.text.items = ap tokens_left c.new-source.ensures ∙ ap (tokens 1) c.clean.ensures.cleaned in
    ap outcome (sym read) ∙ c.in_ok-statements.ensures.says ∙ ap (λ (k : List ℕ). Ok (statements_in k c.in_ok-statements.statements.items)) (sym c.into_saved.ensures)

pub invariant_of-result : goal.invariant_of-result
invariant_of-result c =
    let items = c.in_ok-statements.statements.items in
    let rest : length c.new-source.result.rest ≡ length c.clean.new.text.items = ap (λ (s : SourceState). length s.rest) c.new-source.ensures in
    (omega (arith, c.requires, c.clean.ensures.length, rest, c.in_ok-statements.ensures.two_bytes_each), subst (λ (k : List ℕ). AreStoredWithin (length k) items) (sym c.into_saved.ensures) c.in_ok-statements.ensures.within)

pub returns-in_err-statements-clause-fault : goal.returns-in_err-statements-clause-fault
returns-in_err-statements-clause-fault c =
    let fault = c.in_err-statements.field-0.0 in
    let read : tokens_left c.new-source.result ≡ tokens_of c.args.text.items = ap tokens_left c.new-source.ensures ∙ ap (tokens 1) c.clean.ensures.cleaned in
    let says : (fault ≡ NoMemory) ⊎ IsSvfOf c.args.text.items (Err fault) = subst (λ (ps : List TokenOnLine). (fault ≡ NoMemory) ⊎ (outcome ps ≡ Err fault)) read c.in_err-statements.ensures.says in
    search rules

pub returns-in_err-statements-clause-memory : goal.returns-in_err-statements-clause-memory
returns-in_err-statements-clause-memory c =
    let fault = c.in_err-statements.field-0.0 in
    let read : tokens_left c.new-source.result ≡ tokens_of c.args.text.items = ap tokens_left c.new-source.ensures ∙ ap (tokens 1) c.clean.ensures.cleaned in
    let memory : fault ≡ NoMemory → BeginWithStatement (tokens_of c.args.text.items) = subst (λ (ps : List TokenOnLine). fault ≡ NoMemory → BeginWithStatement ps) read c.in_err-statements.ensures.memory in
    search rules
