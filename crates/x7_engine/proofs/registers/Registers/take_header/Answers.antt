use Rattle.std.proofs.Common.{◌≡◌, ◌+◌, ◌-◌, ◌++◌, ℕ, sym, ap, subst, ◌∙◌, arith}
use Rattle.x7_packets.specs.History.{History, entered, until}
use Rattle.x7_engine.specs.Standing.{RegistersStandFor, counted_in, due_count, registers_in, words_still_due}
use Rattle.x7_engine.specs.Value.{read_out}
use Rattle.x7_engine.proofs.TurnLemmas.{all_counted, fired_until, next_at, none_there, until_all}
use Rattle.x7_engine.proofs.FrameLemmas.{no_word_due}
use Rattle.x7_engine.proofs.registers.Registers.take_header.Goals as goal

pub returns-then-is_some-clause-enters : goal.returns-then-is_some-clause-enters
returns-then-is_some-clause-enters c = λ kept h n some s.
    let left : ℕ = c.take_bytes-left.result in
    let m : ℕ = n + (c.args.count - left) in
    subst (λ (t : History). RegistersStandFor c.args.part.now kept (registers_in c.take_bytes-left.new.self) t m)
    (sym (fired_until c.take_bytes-left.new.self.values.stop n c.args.count left c.args.step h (sym c.is_some.ensures ∙ c.if-is_some.true) c.take_bytes-left.ensures.fired s.places))
    (c.take_bytes-left.ensures.enters kept h n s)

pub returns-then-is_some-clause-reads : goal.returns-then-is_some-clause-reads
returns-then-is_some-clause-reads c = λ kept h n some s.
    ap (read_out c.args.part.now kept) (fired_until c.take_bytes-left.new.self.values.stop n c.args.count c.take_bytes-left.result c.args.step h (sym c.is_some.ensures ∙ c.if-is_some.true) c.take_bytes-left.ensures.fired s.places)
    ∙ no_word_due (read_out c.args.part.now kept h) c.args.part.now _ c.take_bytes-left.new.self.values.due (ap due_count c.take_bytes-left.ensures.due ∙ c.requires.may_take.no_word_due)

before : (c : goal.After-take_step) (n : ℕ) → n + (c.args.count - c.take_bytes-left.result) ≡ n + c.args.count
before c n =
    let none : c.take_bytes-left.result ≡ 0 = c.take_bytes-left.ensures.left.goes_on (none_there c.take_bytes-left.new.self.values.stop (sym c.is_some.ensures ∙ c.if-is_some.false)) in
    omega (arith, none)

pub returns-clause-enters : goal.returns-clause-enters
returns-clause-enters c = λ kept h n some s.
    let same : n + c.args.count ≡ n + (c.args.count - 0) = omega arith in
    let now : RegistersStandFor c.args.part.now kept (registers_in c.take_bytes-left.new.self) h (n + c.args.count) =
    subst (λ (m : ℕ). RegistersStandFor c.args.part.now kept (registers_in c.take_bytes-left.new.self) h m) (before c n) (c.take_bytes-left.ensures.enters kept h n s) in
    subst (λ (m : ℕ). RegistersStandFor c.args.part.now kept (registers_in c.take_step.new.self) (until (counted_in c.take_step.new.self.values.stop m) (entered (n + c.args.count) c.args.step h)) m) same
    (all_counted c.args.part.now kept (registers_in c.take_step.new.self) (entered (n + c.args.count) c.args.step h) (n + c.args.count) (c.take_step.ensures.counts (n + c.args.count))
    (c.take_step.ensures.enters kept h (n + c.args.count) (next_at n c.args.count h some s.places) now))

pub returns-clause-reads : goal.returns-clause-reads
returns-clause-reads c = λ kept h n some s.
    let same : n + c.args.count ≡ n + (c.args.count - 0) = omega arith in
    let now : RegistersStandFor c.args.part.now kept (registers_in c.take_bytes-left.new.self) h (n + c.args.count) =
    subst (λ (m : ℕ). RegistersStandFor c.args.part.now kept (registers_in c.take_bytes-left.new.self) h m) (before c n) (c.take_bytes-left.ensures.enters kept h n s) in
    let after : RegistersStandFor c.args.part.now kept (registers_in c.take_step.new.self) (entered (n + c.args.count) c.args.step h) (n + c.args.count) =
    c.take_step.ensures.enters kept h (n + c.args.count) (next_at n c.args.count h some s.places) now in
    let all : until (counted_in c.take_step.new.self.values.stop (n + c.args.count)) (entered (n + c.args.count) c.args.step h) ≡ entered (n + c.args.count) c.args.step h =
    until_all c.args.part.now kept (registers_in c.take_step.new.self) (entered (n + c.args.count) c.args.step h) (n + c.args.count) (c.take_step.ensures.counts (n + c.args.count)) after in
    subst (λ (m : ℕ). read_out c.args.part.now kept (until (counted_in c.take_step.new.self.values.stop m) (entered (n + c.args.count) c.args.step h))
    ≡ read_out c.args.part.now kept h ++ words_still_due c.args.part.now (until (counted_in c.take_step.new.self.values.stop m) (entered (n + c.args.count) c.args.step h)) c.take_step.new.self.values.due) same
    (subst (λ (t : History). read_out c.args.part.now kept t ≡ read_out c.args.part.now kept h ++ words_still_due c.args.part.now t c.take_step.new.self.values.due) (sym all) (c.take_step.ensures.reads kept h (n + c.args.count) now))
