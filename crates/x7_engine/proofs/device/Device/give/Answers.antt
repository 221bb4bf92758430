use Rattle.std.proofs.Common.{◌≡◌, None, ℕ, Bool, List, ap, ◌∙◌, length, subst}
use Rattle.x7_engine.specs.declared.kept.Kept.{Kept}
use Rattle.x7_engine.specs.DeviceFields.{device_in}
use Rattle.x7_engine.specs.Feeding.{GivesWordsNext, with_buffer}
use Rattle.x7_engine.specs.Past.{HasPast, Past, past_of}
use Rattle.x7_engine.specs.Standing.{DeviceStandsFor, DeviceState, registers_in}
use Rattle.x7_engine.specs.State.{history_taken}
use Rattle.x7_engine.proofs.FeedLemmas.{given, stands_given}
use Rattle.x7_engine.proofs.PastLemmas.{each_by_fields, own_past}
use Rattle.x7_engine.proofs.device.Device.give.Goals as goal

-- the device after the call, by its fields
abbrev after : goal.After-give → DeviceState
after c = record (device_in c.self.inside) { registers = registers_in c.give.new.self }

-- the device still stands for a past, by its fields
stands_after : (c : goal.After-give) (kept : Kept) (wrapped : Bool) (bytes : List ℕ) → DeviceStandsFor c.self.inside.part kept wrapped (device_in c.self.inside) bytes → DeviceStandsFor c.self.inside.part kept wrapped (after c) bytes
stands_after c kept wrapped bytes s =
    let h = history_taken c.self.inside.part kept bytes in
    let going : c.self.inside.registers.values.stop ≡ None = ap (λ (d : DeviceState). d.registers.values.stop) c.self.view_is ∙ c.requires.going in
    stands_given c.self.inside.part kept wrapped (device_in c.self.inside) (registers_in c.give.new.self) bytes c.args.read.now c.give.new.read going c.give.ensures.gave.going s
    (c.give.ensures.gave.stands kept h (length bytes) s.registers_are) (c.give.ensures.gave.given kept h (length bytes) s.registers_are)

pub returns-clause-gives : goal.returns-clause-gives
returns-clause-gives c = record {
  full = c.give.ensures.gave.full;
  within_most = c.give.ensures.within_most;
  going = c.give.ensures.gave.going;
  part = ap (λ (d : DeviceState). d.part) c.self.view_is;
  taken = ap (λ (d : DeviceState). d.taken) c.self.view_is;
  fed = ap (λ (d : DeviceState). d.fed) c.self.view_is;
  cutter = ap (λ (d : DeviceState). d.cutter) c.self.view_is;
  stands = each_by_fields (device_in c.self.inside) c.args.self.now (λ p. HasPast (after c) p) c.self.view_is (stands_after c);
  given = each_by_fields (device_in c.self.inside) c.args.self.now (λ p. GivesWordsNext p p (with_buffer c.args.self.now c.args.read.now) (with_buffer (after c) c.give.new.read)) c.self.view_is
      (λ kept wrapped bytes s.
      subst (λ (d : DeviceState). GivesWordsNext (past_of c.self.inside.part kept wrapped bytes) (past_of c.self.inside.part kept wrapped bytes) (with_buffer d c.args.read.now) (with_buffer (after c) c.give.new.read)) c.self.view_is
      (given c.self.inside.part kept wrapped (device_in c.self.inside) (registers_in c.give.new.self) bytes c.args.read.now c.give.new.read s
      (c.give.ensures.gave.given kept (history_taken c.self.inside.part kept bytes) (length bytes) s.registers_are)));
}

pub invariant_of-self : goal.invariant_of-self
invariant_of-self c =
    let p : Past = c.self.invariant.past.past in
    record {
      frames = c.give.ensures.gave.frames;
      past = record { past = past_of c.self.inside.part p.kept p.wrapped p.bytes; has = stands_after c p.kept p.wrapped p.bytes (own_past (device_in c.self.inside) c.self.invariant.past) };
    }
