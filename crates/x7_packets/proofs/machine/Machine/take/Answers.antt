use Rattle.std.proofs.Common.{inl, inr, [], ◌∷◌, arith, sym, ◌∙◌, refl, subst}
use Rattle.std.proofs.lemmas.Bool.{cases_eq}
use Rattle.x7_packets.specs.Machine.{HasTakenWords, MachineStandsFor, MachineState}
use Rattle.x7_packets.proofs.PacketLemmas.{no_payload}
use Rattle.x7_packets.proofs.TakeLemmas.{payload_goes, payload_ends, header_whole, header_opens, no_count, same_latest}
use Rattle.x7_packets.proofs.machine.Machine.take.Goals as goal

pub returns-then-ends_session-clause-grows : goal.returns-then-ends_session-clause-grows
returns-then-ends_session-clause-grows c = λ ps s. elim (subst (λ m. MachineStandsFor m ps) (sym c.self.view_is) s) [
  | inl a ↦ absurd (omega (arith, a.due))
  | inr a ↦ payload_ends _ _ ps c.args.word (omega (arith, c.ranges.word)) a (sym c.ends_session.ensures ∙ c.if-ends_session.true) (subst (λ m. MachineStandsFor m []) (sym c.self-then-ends_session.view_is) c.new.ensures)
]

pub returns-else-ends_session-clause-grows : goal.returns-else-ends_session-clause-grows
returns-else-ends_session-clause-grows c = λ ps s. elim (subst (λ m. MachineStandsFor m ps) (sym c.self.view_is) s) [
  | inl a ↦ absurd (omega (arith, a.due))
  | inr a ↦ payload_goes _ _ ps c.args.word (omega (arith, c.ranges.word)) a (sym c.ends_session.ensures ∙ c.if-ends_session.false) refl refl (omega arith)
]

pub returns-in-Open-clause-grows : goal.returns-in-Open-clause-grows
returns-in-Open-clause-grows c = λ ps s. elim (subst (λ m. MachineStandsFor m ps) (sym c.self.view_is) s) [
  | inl a ↦ elim (cases_eq c.in-Open.count 0) [
    | inl z ↦ header_whole _ _ ps c.args.word _ (omega (arith, c.ranges.word)) a (c.in-Open.ensures) z refl z
    | inr z ↦ header_opens _ _ ps c.args.word _ _ (omega (arith, c.ranges.word)) a (c.in-Open.ensures) (omega arith) refl refl refl
  ]
  | inr a ↦ absurd (omega (arith, a.more))
]

pub returns-in-Read-clause-grows : goal.returns-in-Read-clause-grows
returns-in-Read-clause-grows c = λ ps s. elim (subst (λ m. MachineStandsFor m ps) (sym c.self.view_is) s) [
  | inl a ↦ header_whole _ _ ps c.args.word _ (omega (arith, c.ranges.word)) a (c.in-Read.ensures) refl refl a.due
  | inr a ↦ absurd (omega (arith, a.more))
]

pub returns-in_default-clause-register : goal.returns-in_default-clause-register
returns-in_default-clause-register c = λ register x e. absurd (no_payload c.self.inside.latest c.args.word register x (sym c.meaning-step.ensures ∙ e))

pub returns-in_default-clause-grows : goal.returns-in_default-clause-grows
returns-in_default-clause-grows c = λ ps s. elim (subst (λ m. MachineStandsFor m ps) (sym c.self.view_is) s) [
  | inl a ↦ let h = c.in_default in let v : MachineState = record { due = c.self.inside.due; register = c.self.inside.register; latest = c.self.inside.latest } in
      subst (λ m. HasTakenWords ps ((c.args.word, c.meaning-step.result) ∷ []) m) c.self.view_is (header_whole v v ps c.args.word _ (omega (arith, c.ranges.word)) a c.meaning-step.ensures (no_count _ h.not-Open) (same_latest _ _ h.not-Open h.not-Read) a.due)
  | inr a ↦ absurd (omega (arith, a.more))
]
