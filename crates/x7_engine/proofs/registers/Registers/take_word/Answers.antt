use Rattle.std.proofs.Common.{◌≡◌, ◌+◌, ◌-◌, ℕ, ◌∷◌, sym, subst, ◌∙◌, arith}
use Rattle.x7_packets.specs.History.{History, Write, entry, until}
use Rattle.x7_packets.specs.declared.header.Step.TheVariants.{Payload}
use Rattle.x7_flow.specs.Standing.{FramesFit}
use Rattle.x7_engine.specs.Standing.{RegistersStandFor, counted_in, registers_in}
use Rattle.x7_engine.specs.Targets.{target_number}
use Rattle.x7_engine.proofs.TurnLemmas.{all_counted, fired_until, next_at, none_there}
use Rattle.x7_engine.proofs.registers.Registers.take_word.Goals as goal

pub returns-then-is_some-clause-enters : goal.returns-then-is_some-clause-enters
returns-then-is_some-clause-enters c = λ kept h n some s.
    let left : ℕ = c.take_bytes-left.result in
    let m : ℕ = n + (c.args.count - left) in
    subst (λ (t : History). RegistersStandFor c.args.part.now kept (registers_in c.take_bytes-left.new.self) t m)
    (sym (fired_until c.take_bytes-left.new.self.values.stop n c.args.count left (Payload (target_number c.args.target) c.args.word) h (sym c.is_some.ensures ∙ c.if-is_some.true) c.take_bytes-left.ensures.fired s.places))
    (c.take_bytes-left.ensures.enters kept h n s)

pub returns-clause-left : goal.returns-clause-left
returns-clause-left c = record { within = omega arith; goes_on = λ e. omega arith }

pub returns-clause-enters : goal.returns-clause-enters
returns-clause-enters c = λ kept h n some s.
    let none : c.take_bytes-left.result ≡ 0 = c.take_bytes-left.ensures.left.goes_on (none_there c.take_bytes-left.new.self.values.stop (sym c.is_some.ensures ∙ c.if-is_some.false)) in
    let all : n + (c.args.count - c.take_bytes-left.result) ≡ n + c.args.count = omega (arith, none) in
    let same : n + c.args.count ≡ n + (c.args.count - 0) = omega arith in
    let before : RegistersStandFor c.args.part.now kept (registers_in c.take_bytes-left.new.self) h (n + c.args.count) =
    subst (λ (m : ℕ). RegistersStandFor c.args.part.now kept (registers_in c.take_bytes-left.new.self) h m) all (c.take_bytes-left.ensures.enters kept h n s) in
    subst (λ (m : ℕ). RegistersStandFor c.args.part.now kept (registers_in c.write_word_to.new.self) (until (counted_in c.write_word_to.new.self.values.stop m) (entry (Write (target_number c.args.target) c.args.word) (n + c.args.count) ∷ h)) m) same
    (all_counted c.args.part.now kept (registers_in c.write_word_to.new.self) (entry (Write (target_number c.args.target) c.args.word) (n + c.args.count) ∷ h) (n + c.args.count) (c.write_word_to.ensures.counts (n + c.args.count))
    (c.write_word_to.ensures.enters kept h (n + c.args.count) (next_at n c.args.count h some s.places) before))

pub returns-then-is_some-clause-leaves : goal.returns-then-is_some-clause-leaves
returns-then-is_some-clause-leaves c = record { due = c.take_bytes-left.ensures.due; frames = subst (FramesFit c.args.part.now) (sym c.take_bytes-left.ensures.frames) c.requires.may_take.frames }

pub returns-clause-leaves : goal.returns-clause-leaves
returns-clause-leaves c = record { due = c.write_word_to.ensures.leaves.due ∙ c.take_bytes-left.ensures.due; frames = c.write_word_to.ensures.leaves.frames }
