use Rattle.std.proofs.Common.{◌≡◌, List, ℕ, arith, inl, inr, refl, subst, sym, vec_capacity}
use Rattle.std.proofs.lemmas.Result.{on_ok_weaker}
use Rattle.x7_header.specs.Header.{HeaderContents}
use Rattle.x7_listing.specs.Assembling.{TextsAreRead, IsSoundOutput, output_of}
use Rattle.x7_listing.specs.BitLine.{bit_text, IsHeaderOf, FitsHeader}
use Rattle.x7_listing.proofs.asm.AsmLinesLemmas.{err_as, err_weaker, goes_header, goes_plain, header_sound, if_some, none_ok}
use Rattle.x7_listing.proofs.BitLemmas.{none_of, some_of}
use Rattle.x7_listing.proofs.asm.lines.AsmLines.read_first.Goals as goal

pub invariant_of-self : goal.invariant_of-self
invariant_of-self c =
    subst (λ (out : List ℕ). IsSoundOutput out c.len-self-inside.result c.new-self-inside.result) (sym c.reserve.ensures.items)
    (header_sound c.in-Some.header.items c.len-self-inside.result c.new-self-inside.result (omega (arith, c.len-self-inside.ensures, c.in-Some.header.ok.0)) c.new-self-inside.ensures)

pub returns-in-Some-clause-reads : goal.returns-in-Some-clause-reads
returns-in-Some-clause-reads c = λ all left u.
    let h : IsHeaderOf c.args.line.now c.in-Some.header.items = some_of _ _ c.in_ok-header.field-0 c.in-Some.header c.in-Some.is c.in_ok-header.ensures.found in
    let short = if_some _ c.in_ok-header.field-0 c.in-Some.header c.in-Some.is c.in_ok-header.ensures.most in
    subst (λ (out : List ℕ). TextsAreRead all left (output_of out c.len-self-inside.result c.new-self-inside.result (vec_capacity c.reserve.new.self)) 1) (sym c.reserve.ensures.items)
    (goes_header all left c.args.line.now c.in-Some.header.items c.args.self.now c.len-self-inside.result (vec_capacity c.reserve.new.self) c.new-self-inside.result h (omega (arith, short, c.in-Some.header.ok.0)) (omega (arith, c.len-self-inside.ensures, c.in-Some.header.ok.0)) c.new-self-inside.ensures u)

pub returns-clause-reads : goal.returns-clause-reads
returns-clause-reads c = on_ok_weaker c.read_one.result (λ h all left u.
    let none : (x : HeaderContents) → FitsHeader x → c.args.line.now ≡ bit_text x → ⊥ = none_of _ _ c.in_ok-header.field-0 c.in_default.is c.in_ok-header.ensures.found in
    h all left 0 refl (goes_plain all left c.args.line.now c.args.self.now none u)) c.read_one.ensures.reads

pub returns-clause-fault : goal.returns-clause-fault
returns-clause-fault c = err_weaker c.read_one.result (λ f. elim [
  | inl none ↦ inl none
  | inr h ↦ inr (λ all left u.
      let none : (x : HeaderContents) → FitsHeader x → c.args.line.now ≡ bit_text x → ⊥ = none_of _ _ c.in_ok-header.field-0 c.in_default.is c.in_ok-header.ensures.found in
      h all left 0 refl (goes_plain all left c.args.line.now c.args.self.now none u))
]) c.read_one.ensures.fault

pub returns-in_err-header-clause-reads : goal.returns-in_err-header-clause-reads
returns-in_err-header-clause-reads c = none_ok _ _ c.from_residual.result c.from_residual.ensures.1

pub returns-in_err-reserve-clause-reads : goal.returns-in_err-reserve-clause-reads
returns-in_err-reserve-clause-reads c = none_ok _ _ c.from_residual-in_err-reserve.result c.from_residual-in_err-reserve.ensures.1

pub returns-in_err-header-clause-room : goal.returns-in_err-header-clause-room
returns-in_err-header-clause-room c = none_ok _ _ c.from_residual.result c.from_residual.ensures.1

pub returns-in_err-reserve-clause-room : goal.returns-in_err-reserve-clause-room
returns-in_err-reserve-clause-room c = none_ok _ _ c.from_residual-in_err-reserve.result c.from_residual-in_err-reserve.ensures.1

pub returns-in-Some-clause-fault : goal.returns-in-Some-clause-fault
returns-in-Some-clause-fault c = tt

pub returns-clause-room : goal.returns-clause-room
returns-clause-room c = c.read_one.ensures.room

pub returns-in_err-header-clause-fault : goal.returns-in_err-header-clause-fault
returns-in_err-header-clause-fault c = err_as _ _ c.from_residual.result (λ f want. inl want) c.from_residual.ensures.1

pub returns-in_err-reserve-clause-fault : goal.returns-in_err-reserve-clause-fault
returns-in_err-reserve-clause-fault c = err_as _ _ c.from_residual-in_err-reserve.result (λ f want. inl want) c.from_residual-in_err-reserve.ensures.1

pub invariant_of-self-in-Some : goal.invariant_of-self-in-Some
invariant_of-self-in-Some c =
    subst (λ (out : List ℕ). IsSoundOutput out c.len-self-inside.result c.new-self-inside.result) (sym c.reserve.ensures.items)
    (header_sound c.in-Some.header.items c.len-self-inside.result c.new-self-inside.result (omega (arith, c.len-self-inside.ensures, c.in-Some.header.ok.0)) c.new-self-inside.ensures)
