use Rattle.std.proofs.Common.{◌≡◌, ◌+◌, ◌∷◌, ◌++◌, ℕ, Bool, List, refl, ap, subst, ◌∙◌, rules}
use Rattle.x7_packets.specs.Cutter.{between}
use Rattle.x7_packets.specs.History.{Write, entry}
use Rattle.x7_part.specs.Part.{PartData}
use Rattle.x7_engine.specs.declared.kept.Kept.{Kept}
use Rattle.x7_engine.specs.Entering.{Change, EntersHistoryAt}
use Rattle.x7_engine.specs.DeviceFields.{device_in}
use Rattle.x7_engine.specs.Past.{HasPast, HasSomePast, later, reads_given_at}
use Rattle.x7_engine.specs.Standing.{DeviceStandsFor, DeviceState, due_count, registers_in}
use Rattle.x7_engine.specs.State.{reads_of}
use Rattle.x7_engine.specs.Turns.{TurnTakes}
use Rattle.x7_engine.specs.UntilStarted.{CommandsLast}
use Rattle.x7_engine.proofs.PassLemmas.{given_same}
use Rattle.x7_engine.proofs.PastLemmas.{each_by_fields, past_later}
use Rattle.x7_engine.proofs.WriteLemmas.{write_at}
use Rattle.x7_engine.proofs.device.Device.take_write.Goals as goal

-- the device after the write
abbrev device_after : goal.After-self-2-1 → DeviceState
device_after c = record (device_in c.self.inside) { cutter = c.take_write.new.self; registers = registers_in c.write_word_to.new.self; taken = c.self.inside.taken + 8; fed = c.saturating_add-self-inside.result }

-- the bytes of the write
abbrev written : goal.After-self-2-1 → List ℕ
written c = between c.args.piece.now c.args.at.now (c.args.at.now + 8)

no_word_due : (c : goal.After-self-2-1) → due_count c.write_word_to.new.self.values.due ≡ 0
no_word_due c = ap due_count c.write_word_to.ensures.leaves.due ∙ ap (λ (d : DeviceState). due_count d.registers.values.due) c.self.view_is ∙ c.requires.no_word_due

-- the registers before the write, and after it
abbrev wrote : goal.After-self-2-1 → Change
wrote c = record { part = c.self.inside.part; old = registers_in c.self.inside.registers; new = registers_in c.write_word_to.new.self }

written_here : (c : goal.After-self-2-1) (kept : Kept) (wrapped : Bool) (bytes : List ℕ) → (let part : PartData = c.self.inside.part in DeviceStandsFor part kept wrapped (device_in c.self.inside) bytes
    → DeviceStandsFor part kept wrapped (device_after c) (bytes ++ written c) × (reads_of part kept (bytes ++ written c) ≡ reads_of part kept bytes) × CommandsLast bytes (written c))
written_here c kept wrapped bytes s =
    write_at c.self.inside.part kept wrapped (device_in c.self.inside) (device_after c) bytes c.args.piece.now c.args.at.now c.in-Some.register c.in-Some.word s
    (ap (λ (d : DeviceState). d.registers.values.stop) c.self.view_is ∙ c.requires.going)
    (c.is_idle.ensures.not_begun c.if-not-is_idle.false) (c.is_idle.ensures.no_limit c.if-not-is_idle.false)
    c.in-Some.ensures.writes (subst (λ (r : ℕ). EntersHistoryAt (wrote c) (λ place h. entry (Write r c.in-Some.word) place ∷ h)) c.numbered.ensures c.write_word_to.ensures.enters kept) c.write_word_to.ensures.counts (no_word_due c) refl refl refl

turn_taken : (c : goal.After-self-2-1) → TurnTakes c.args.self.now (device_after c) (written c)
turn_taken c = record {
  part = ap (λ (d : DeviceState). d.part) c.self.view_is;
  takes = each_by_fields (device_in c.self.inside) c.args.self.now (λ p. HasPast (device_after c) (later p (written c))) c.self.view_is (λ kept wrapped bytes s. (written_here c kept wrapped bytes s).0);
  silent = each_by_fields (device_in c.self.inside) c.args.self.now (λ p. reads_given_at (device_after c) (later p (written c)) ≡ reads_given_at c.args.self.now p) c.self.view_is
      (λ kept wrapped bytes s. given_same c.self.inside.part kept c.args.self.now (device_after c) bytes (bytes ++ written c) c.requires.no_word_due (no_word_due c) (written_here c kept wrapped bytes s).1);
  commands = each_by_fields (device_in c.self.inside) c.args.self.now (λ p. CommandsLast p.bytes (written c)) c.self.view_is (λ kept wrapped bytes s. (written_here c kept wrapped bytes s).2);
}

pub invariant_of-self-2 : goal.invariant_of-self-2
invariant_of-self-2 c = record {
  frames = c.write_word_to.ensures.leaves.frames;
  past = past_later c.args.self.now (device_after c) (written c) (turn_taken c).takes (subst HasSomePast c.self.view_is c.self.invariant.past);
}

pub returns-clause-turned : goal.returns-clause-turned
returns-clause-turned c = λ t. record {
  forward = search rules;
  within = search rules;
  taken = search rules;
  fed = search rules;
  turn = turn_taken c;
}
