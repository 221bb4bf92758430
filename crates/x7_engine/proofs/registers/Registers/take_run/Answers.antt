use Rattle.std.proofs.Common.{◌≡◌, ◌+◌, ◌-◌, ◌<◌, ◌∷◌, ℕ, List, length, sym, ap, subst, ◌∙◌, arith, inl, inr}
use Rattle.x7_words.specs.Word.{words_of_bytes}
use Rattle.x7_packets.specs.Cutter.{IsRun}
use Rattle.x7_packets.specs.declared.cutter.Cut.{Cut}
use Rattle.x7_packets.specs.declared.cutter.Cut.TheVariants.{Body, Word}
use Rattle.x7_packets.specs.History.{History, Write, entered_all, entry, until}
use Rattle.x7_packets.specs.Packet.{payload_steps}
use Rattle.x7_engine.specs.Standing.{EndsWords, HasNoWord, RegistersStandFor, counted_in, due_count, registers_in}
use Rattle.x7_engine.specs.Value.{read_out}
use Rattle.x7_engine.proofs.TurnLemmas.{counted_more, none_entered, quiet_until, write_until, writes_until}
use Rattle.x7_engine.proofs.FrameLemmas.{no_word_due}
use Rattle.x7_engine.proofs.registers.Registers.take_run.Goals as goal

-- a run of the first arm has no word
no_word : (c : goal.After-take_bytes) → HasNoWord c.args.run
no_word c = elim c.in-Need.is [ inl need ↦ rw need tt | inr rest ↦ elim rest [ inl skip ↦ rw skip.1 tt | inr sync ↦ rw sync tt ] ]

pub returns-in-Need-clause-enters : goal.returns-in-Need-clause-enters
returns-in-Need-clause-enters c = λ kept h from n e s.
    let m : ℕ = n + (c.args.count - c.take_bytes.result) in
    subst (λ (t : History). RegistersStandFor c.args.part.now kept (registers_in c.take_bytes.new.self) (until (counted_in c.take_bytes.new.self.values.stop m) t) m) (sym (none_entered c.args.run from h (no_word c)))
    (subst (λ (t : History). RegistersStandFor c.args.part.now kept (registers_in c.take_bytes.new.self) t m) (sym (quiet_until c.take_bytes.new.self.values.stop n c.args.count c.take_bytes.result h c.take_bytes.ensures.fired s.places))
    (c.take_bytes.ensures.enters kept h n s))

pub returns-in-Need-clause-reads : goal.returns-in-Need-clause-reads
returns-in-Need-clause-reads c = λ kept h from n e s.
    ap (λ (t : History). read_out c.args.part.now kept (until (counted_in c.take_bytes.new.self.values.stop (n + (c.args.count - c.take_bytes.result))) t)) (none_entered c.args.run from h (no_word c))
    ∙ ap (read_out c.args.part.now kept) (quiet_until c.take_bytes.new.self.values.stop n c.args.count c.take_bytes.result h c.take_bytes.ensures.fired s.places)
    ∙ no_word_due (read_out c.args.part.now kept h) c.args.part.now _ c.take_bytes.new.self.values.due (ap due_count c.take_bytes.ensures.due ∙ c.requires.may_take.no_word_due)

pub returns-in-Word-clause-enters : goal.returns-in-Word-clause-enters
returns-in-Word-clause-enters c = λ kept h from n e s.
    let w : EndsWords (Word c.in-Word.register c.in-Word.word) from n c.args.count = subst (λ (r : Cut). EndsWords r from n c.args.count) c.in-Word.is e in
    let m : ℕ = n + (c.args.count - c.take_word.result) in
    let some : 0 < c.args.count = omega (arith, w.0, w.1) in
    rw c.in-Word.is (subst (λ (p : ℕ). RegistersStandFor c.args.part.now kept (registers_in c.take_word.new.self) (until (counted_in c.take_word.new.self.values.stop m) (entry (Write c.in-Word.register c.in-Word.word) p ∷ h)) m) (sym w.1)
    (subst (λ (r : ℕ). RegistersStandFor c.args.part.now kept (registers_in c.take_word.new.self) (until (counted_in c.take_word.new.self.values.stop m) (entry (Write r c.in-Word.word) (n + c.args.count) ∷ h)) m) c.numbered.ensures
    (c.take_word.ensures.enters kept h n some s)))

pub returns-in-Word-clause-reads : goal.returns-in-Word-clause-reads
returns-in-Word-clause-reads c = λ kept h from n e s.
    let w : EndsWords (Word c.in-Word.register c.in-Word.word) from n c.args.count = subst (λ (r : Cut). EndsWords r from n c.args.count) c.in-Word.is e in
    let some : 0 < c.args.count = omega (arith, w.0, w.1) in
    let few : c.take_word.result < c.args.count = c.take_word.ensures.takes_some some in
    rw c.in-Word.is (write_until c.args.part.now kept n (counted_in c.take_word.new.self.values.stop (n + (c.args.count - c.take_word.result))) (from + 4) c.in-Word.register c.in-Word.word h s.places (counted_more c.take_word.new.self.values.stop n (c.args.count - c.take_word.result) (omega (arith, few)))
    ∙ no_word_due (read_out c.args.part.now kept h) c.args.part.now _ c.take_word.new.self.values.due (ap due_count c.take_word.ensures.leaves.due ∙ c.requires.may_take.no_word_due))

pub returns-in-Body-clause-enters : goal.returns-in-Body-clause-enters
returns-in-Body-clause-enters c = λ kept h from n e s.
    let w : EndsWords (Body c.in-Body.register c.in-Body.bytes) from n c.args.count = subst (λ (r : Cut). EndsWords r from n c.args.count) c.in-Body.is e in
    let ws : List ℕ = words_of_bytes c.in-Body.bytes.now in
    let here : n + c.take_body.result ≡ n + (c.args.count - (length c.in-Body.bytes.now - c.take_body.result)) = omega (arith, w.1, c.take_body.ensures.takes.within) in
    rw c.in-Body.is (subst (λ (p : ℕ). RegistersStandFor c.args.part.now kept (registers_in c.take_body.new.self)
    (until (counted_in c.take_body.new.self.values.stop (n + (c.args.count - (length c.in-Body.bytes.now - c.take_body.result)))) (entered_all p (payload_steps c.in-Body.register ws) h)) (n + (c.args.count - (length c.in-Body.bytes.now - c.take_body.result)))) (sym w.0)
    (subst (λ (m : ℕ). RegistersStandFor c.args.part.now kept (registers_in c.take_body.new.self) (until (counted_in c.take_body.new.self.values.stop m) (entered_all n (payload_steps c.in-Body.register ws) h)) m) here
    (subst (λ (r : ℕ). RegistersStandFor c.args.part.now kept (registers_in c.take_body.new.self) (until (counted_in c.take_body.new.self.values.stop (n + c.take_body.result)) (entered_all n (payload_steps r ws) h)) (n + c.take_body.result)) c.numbered-in-Body.ensures
    (c.take_body.ensures.enters kept h n s))))

pub returns-in-Body-clause-reads : goal.returns-in-Body-clause-reads
returns-in-Body-clause-reads c = λ kept h from n e s.
    let w : EndsWords (Body c.in-Body.register c.in-Body.bytes) from n c.args.count = subst (λ (r : Cut). EndsWords r from n c.args.count) c.in-Body.is e in
    let run : IsRun (Body c.in-Body.register c.in-Body.bytes) = subst (λ (r : Cut). IsRun r) c.in-Body.is c.requires.run in
    let some : 0 < c.take_body.result = c.take_body.ensures.takes.takes_some run.1 in
    let ws : List ℕ = words_of_bytes c.in-Body.bytes.now in
    let k : ℕ = c.args.count - (length c.in-Body.bytes.now - c.take_body.result) in
    let more : 0 < k = omega (arith, w.1, some, c.take_body.ensures.takes.within) in
    rw c.in-Body.is (ap (λ (p : ℕ). read_out c.args.part.now kept (until (counted_in c.take_body.new.self.values.stop (n + k)) (entered_all p (payload_steps c.in-Body.register ws) h))) w.0
    ∙ writes_until c.args.part.now kept n (counted_in c.take_body.new.self.values.stop (n + k)) c.in-Body.register ws h s.places (counted_more c.take_body.new.self.values.stop n k more)
    ∙ no_word_due (read_out c.args.part.now kept h) c.args.part.now _ c.take_body.new.self.values.due (ap due_count c.take_body.ensures.leaves.due ∙ c.requires.may_take.no_word_due))
