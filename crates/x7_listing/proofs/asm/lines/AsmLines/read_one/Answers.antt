use Rattle.std.proofs.Common.{ℕ, List, ◌∷◌, arith, inl, inr, subst, sym, vec_capacity}
use Rattle.x7_listing.specs.Assembling.{HasLineRoom, IsSoundOutput, TextsAreRead, Output, output_of}
use Rattle.x7_listing.proofs.AssemblingLemmas.{read_bad, read_long, read_on}
use Rattle.x7_listing.proofs.asm.AsmLinesLemmas.{err_as, no_room, none_ok, not_line, not_long, wants_read}
use Rattle.x7_listing.proofs.asm.lines.AsmLines.read_one.Goals as goal

pub returns-then-not-read_checked_line-clause-fault : goal.returns-then-not-read_checked_line-clause-fault
returns-then-not-read_checked_line-clause-fault c = inr (λ all left k m g.
    read_bad c.args.line.now c.reserve.new.self.items c.read_checked_line.new.out.items (output_of c.self.inside.out.items c.self.inside.start c.self.inside.checker (vec_capacity c.self.inside.out)) k c.args.line_number c.read_checked_line.new.checker c.read_checked_line.result
    c.reserve.ensures.items m c.read_checked_line.ensures.reads c.read_checked_line.ensures.keeps all left (subst (λ (o : Output). TextsAreRead all (c.args.line.now ∷ left) o k) (sym c.self.view_is) g) c.if-not-read_checked_line.true)

pub returns-then-len-gt-ASM_LIMIT-clause-fault : goal.returns-then-len-gt-ASM_LIMIT-clause-fault
returns-then-len-gt-ASM_LIMIT-clause-fault c = inr (λ all left k m g.
    read_long c.args.line.now c.reserve.new.self.items c.read_checked_line.new.out.items (output_of c.self.inside.out.items c.self.inside.start c.self.inside.checker (vec_capacity c.self.inside.out)) k c.args.line_number c.read_checked_line.new.checker c.read_checked_line.result
    c.reserve.ensures.items m c.read_checked_line.ensures.reads c.read_checked_line.ensures.keeps all left (subst (λ (o : Output). TextsAreRead all (c.args.line.now ∷ left) o k) (sym c.self.view_is) g) c.if-not-read_checked_line.false (omega arith))

pub returns-in_err-reserve-2-clause-memory : goal.returns-in_err-reserve-2-clause-memory
returns-in_err-reserve-2-clause-memory c = wants_read _ c.args.self.now (output_of c.reserve-2.new.self.items c.self.inside.start c.read_checked_line.new.checker (vec_capacity c.reserve-2.new.self)) c.args.line_number c.args.line.now (λ all left k m g.
    subst (λ out. TextsAreRead all left (output_of out c.self.inside.start c.read_checked_line.new.checker (vec_capacity c.reserve-2.new.self)) c.args.line_number) (sym c.reserve-2.ensures.items)
    (read_on c.args.line.now c.reserve.new.self.items c.read_checked_line.new.out.items (output_of c.self.inside.out.items c.self.inside.start c.self.inside.checker (vec_capacity c.self.inside.out)) k c.args.line_number c.read_checked_line.new.checker c.read_checked_line.result
    c.reserve.ensures.items m c.read_checked_line.ensures.reads c.read_checked_line.ensures.keeps all left (subst (λ (o : Output). TextsAreRead all (c.args.line.now ∷ left) o k) (sym c.self.view_is) g) (vec_capacity c.reserve-2.new.self) c.if-not-read_checked_line.false (omega arith)))

pub returns-clause-reads : goal.returns-clause-reads
returns-clause-reads c = λ all left k m g.
    subst (λ out. TextsAreRead all left (output_of out c.self.inside.start c.read_checked_line.new.checker (vec_capacity c.reserve-2.new.self)) c.args.line_number) (sym c.reserve-2.ensures.items)
    (read_on c.args.line.now c.reserve.new.self.items c.read_checked_line.new.out.items (output_of c.self.inside.out.items c.self.inside.start c.self.inside.checker (vec_capacity c.self.inside.out)) k c.args.line_number c.read_checked_line.new.checker c.read_checked_line.result
    c.reserve.ensures.items m c.read_checked_line.ensures.reads c.read_checked_line.ensures.keeps all left (subst (λ (o : Output). TextsAreRead all (c.args.line.now ∷ left) o k) (sym c.self.view_is) g) (vec_capacity c.reserve-2.new.self) c.if-not-read_checked_line.false (omega arith))

pub returns-then-not-read_checked_line-clause-reads : goal.returns-then-not-read_checked_line-clause-reads
returns-then-not-read_checked_line-clause-reads c = tt

pub returns-then-not-read_checked_line-clause-room : goal.returns-then-not-read_checked_line-clause-room
returns-then-not-read_checked_line-clause-room c = tt

pub returns-then-len-gt-ASM_LIMIT-clause-reads : goal.returns-then-len-gt-ASM_LIMIT-clause-reads
returns-then-len-gt-ASM_LIMIT-clause-reads c = tt

pub returns-then-len-gt-ASM_LIMIT-clause-room : goal.returns-then-len-gt-ASM_LIMIT-clause-room
returns-then-len-gt-ASM_LIMIT-clause-room c = tt

pub returns-then-not-read_checked_line-clause-memory : goal.returns-then-not-read_checked_line-clause-memory
returns-then-not-read_checked_line-clause-memory c = λ e. absurd (not_line c.args.line_number e)

pub returns-then-len-gt-ASM_LIMIT-clause-memory : goal.returns-then-len-gt-ASM_LIMIT-clause-memory
returns-then-len-gt-ASM_LIMIT-clause-memory c = λ e. absurd (not_long c.args.line_number e)

pub returns-clause-fault : goal.returns-clause-fault
returns-clause-fault c = tt

pub returns-clause-memory : goal.returns-clause-memory
returns-clause-memory c = tt

pub returns-in_err-reserve-clause-memory : goal.returns-in_err-reserve-clause-memory
returns-in_err-reserve-clause-memory c = no_room c.from_residual.result c.args.self.now (output_of c.reserve.new.self.items c.self.inside.start c.self.inside.checker (vec_capacity c.reserve.new.self)) c.args.line_number c.args.line.now
    (λ room. omega (arith, subst HasLineRoom (sym c.self.view_is) room, c.in_err-reserve.ensures.full))

pub returns-in_err-reserve-2-clause-reads : goal.returns-in_err-reserve-2-clause-reads
returns-in_err-reserve-2-clause-reads c = none_ok _ _ c.from_residual-in_err-reserve-2.result c.from_residual-in_err-reserve-2.ensures.1

pub invariant_of-self-2 : goal.invariant_of-self-2
invariant_of-self-2 c = subst (λ (out : List ℕ). IsSoundOutput out c.self.inside.start c.read_checked_line.new.checker) (sym c.reserve-2.ensures.items)
    (record { begun = c.read_checked_line.ensures.start; keeps = c.read_checked_line.ensures.keeps })

pub invariant_of-self : goal.invariant_of-self
invariant_of-self c = subst (λ (out : List ℕ). IsSoundOutput out c.self.inside.start c.self.inside.checker) (sym c.reserve.ensures.items) c.self.invariant

pub invariant_of-self-then-not-read_checked_line : goal.invariant_of-self-then-not-read_checked_line
invariant_of-self-then-not-read_checked_line c = record { begun = c.read_checked_line.ensures.start; keeps = c.read_checked_line.ensures.keeps }

pub invariant_of-self-then-len-gt-ASM_LIMIT : goal.invariant_of-self-then-len-gt-ASM_LIMIT
invariant_of-self-then-len-gt-ASM_LIMIT c = record { begun = c.read_checked_line.ensures.start; keeps = c.read_checked_line.ensures.keeps }

pub invariant_of-self-in_err-reserve-2 : goal.invariant_of-self-in_err-reserve-2
invariant_of-self-in_err-reserve-2 c = subst (λ (out : List ℕ). IsSoundOutput out c.self.inside.start c.read_checked_line.new.checker) (sym c.reserve-2.ensures.items)
    (record { begun = c.read_checked_line.ensures.start; keeps = c.read_checked_line.ensures.keeps })

pub returns-in_err-reserve-2-clause-room : goal.returns-in_err-reserve-2-clause-room
returns-in_err-reserve-2-clause-room c = none_ok _ _ c.from_residual-in_err-reserve-2.result c.from_residual-in_err-reserve-2.ensures.1

pub returns-in_err-reserve-clause-reads : goal.returns-in_err-reserve-clause-reads
returns-in_err-reserve-clause-reads c = none_ok _ _ c.from_residual.result c.from_residual.ensures.1

pub returns-in_err-reserve-clause-room : goal.returns-in_err-reserve-clause-room
returns-in_err-reserve-clause-room c = none_ok _ _ c.from_residual.result c.from_residual.ensures.1

pub returns-in_err-reserve-clause-fault : goal.returns-in_err-reserve-clause-fault
returns-in_err-reserve-clause-fault c = err_as _ _ c.from_residual.result (λ f want. inl want) c.from_residual.ensures.1

pub returns-in_err-reserve-2-clause-fault : goal.returns-in_err-reserve-2-clause-fault
returns-in_err-reserve-2-clause-fault c = err_as _ _ c.from_residual-in_err-reserve-2.result (λ f want. inl want) c.from_residual-in_err-reserve-2.ensures.1
