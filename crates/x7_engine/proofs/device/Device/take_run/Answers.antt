use Rattle.std.proofs.Common.{◌≡◌, ◌+◌, ◌-◌, ◌<◌, ◌≤◌, ◌++◌, ℕ, true, false, List, [], length, drop, None, refl, sym, ap, subst, ◌∙◌, arith, length-drop, Bool, rules}
use Rattle.x7_packets.specs.Cutter.{ComesNearer, IsNeed, between, calls_left}
use Rattle.x7_packets.specs.declared.cutter.Cut.{Cut}
use Rattle.x7_packets.specs.declared.cutter.Cut.TheVariants.{Body, Head, Need, Skip, Sync, Word}
use Rattle.x7_part.specs.Part.{PartData}
use Rattle.x7_engine.specs.declared.kept.Kept.{Kept}
use Rattle.x7_engine.specs.DeviceFields.{device_in}
use Rattle.x7_engine.specs.Past.{HasPast, HasSomePast, later, reads_given_at}
use Rattle.x7_engine.specs.Standing.{DeviceStandsFor, DeviceState, IsCutterOf, HasNoWord, registers_in, words_still_due}
use Rattle.x7_engine.specs.State.{history_taken, reads_of}
use Rattle.x7_engine.specs.Turns.{TurnTakes}
use Rattle.x7_engine.proofs.DeviceLemmas.{between_prefix, holds_run, length_between, given_by, turned}
use Rattle.x7_engine.proofs.FrameLemmas.{no_word_due}
use Rattle.x7_engine.proofs.PastLemmas.{each_by_fields, past_later}
use Rattle.x7_engine.proofs.UntilLemmas.{prefix_commands, run_commands}
use Rattle.x7_engine.proofs.device.Device.take_run.Goals as goal
use Rattle.x7_packets.proofs.StreamLemmas.{need_goes}

pub take_run-left-requires-clause-holds : goal.take_run-left-requires-clause-holds
take_run-left-requires-clause-holds c =
    let cut : List ℕ = between c.args.piece.now c.args.at.now c.cut-run.new.at in
    holds_run c.self.inside.cutter c.cut-run.new.self c.cut-run.result (length c.args.piece.now - c.args.at.now) (c.cut-run.new.at - c.args.at.now) cut c.cut-run.ensures.lent c.cut-run.ensures.joined
    (sym (length_between c.args.piece.now c.args.at.now c.cut-run.new.at c.cut-run.ensures.forward c.cut-run.ensures.within))

-- the device after the run
abbrev device_after : goal.After-is_done → DeviceState
device_after c = record (device_in c.self.inside) {
  cutter = c.cut-run.new.self;
  registers = registers_in c.take_run-left.new.self;
  taken = c.self.inside.taken + (c.cut-run.new.at - c.take_run-left.result - c.args.at.now);
  fed = c.saturating_add-self-inside.result;
}

-- the bytes of the run that were taken
abbrev run_taken : goal.After-is_done → List ℕ
run_taken c = between c.args.piece.now c.args.at.now (c.cut-run.new.at - c.take_run-left.result)

turned_here : (c : goal.After-is_done) (kept : Kept) (wrapped : Bool) (bytes : List ℕ) → (let part : PartData = c.self.inside.part in DeviceStandsFor part kept wrapped (device_in c.self.inside) bytes
    → DeviceStandsFor part kept wrapped (device_after c) (bytes ++ run_taken c)
    × (reads_of part kept (bytes ++ run_taken c) ≡ reads_of part kept bytes ++ words_still_due part (history_taken part kept (bytes ++ run_taken c)) c.take_run-left.new.self.values.due))
turned_here c kept wrapped bytes s =
    let piece : List ℕ = c.args.piece.now in
    let from : ℕ = c.args.at.now in
    let at : ℕ = c.cut-run.new.at in
    let left : ℕ = c.take_run-left.result in
    let cut : List ℕ = between piece from at in
    let more : List ℕ = between piece from (at - left) in
    let some : left ≤ at - from = c.take_run-left.ensures.left.within in
    let onward : from ≤ at = c.cut-run.ensures.forward in
    let forward : from ≤ at - left = omega (arith, some, onward) in
    let all : length cut ≡ at - from = length_between piece from at c.cut-run.ensures.forward c.cut-run.ensures.within in
    let taken : length more ≡ at - left - from = length_between piece from (at - left) forward (omega (arith, c.cut-run.ensures.within)) in
    turned c.self.inside.part kept wrapped (device_in c.self.inside) (device_after c) bytes cut more (drop (at - left - from) cut) c.cut-run.result (at - from) left (length piece - from) s
    (ap (λ (d : DeviceState). d.registers.values.stop) c.self.view_is ∙ c.requires.going)
    (c.cut-run.ensures.adds bytes) (c.take_run-left.ensures.enters kept) (c.take_run-left.ensures.reads kept)
    (sym all) (between_prefix piece from at left forward) (length-drop (at - left - from) cut ∙ omega (arith, all, some)) c.cut-run.ensures.run c.cut-run.ensures.lent
    c.take_run-left.ensures.left.goes_on c.take_run-left.ensures.none_due_at_stop.none_due_at_stop refl refl (omega (arith, taken))

turn_taken : (c : goal.After-is_done) → TurnTakes c.args.self.now (device_after c) (run_taken c)
turn_taken c = record {
  part = ap (λ (d : DeviceState). d.part) c.self.view_is;
  takes = each_by_fields (device_in c.self.inside) c.args.self.now (λ p. HasPast (device_after c) (later p (run_taken c))) c.self.view_is (λ kept wrapped bytes s. (turned_here c kept wrapped bytes s).0);
  silent = each_by_fields (device_in c.self.inside) c.args.self.now (λ p. reads_given_at (device_after c) (later p (run_taken c)) ≡ reads_given_at c.args.self.now p) c.self.view_is
      (λ kept wrapped bytes s. (
      let part : PartData = c.self.inside.part in
      given_by part kept (device_after c) (bytes ++ run_taken c) (reads_of part kept bytes) (history_taken part kept (bytes ++ run_taken c)) (turned_here c kept wrapped bytes s).1
      ∙ sym (given_by part kept c.args.self.now bytes (reads_of part kept bytes) [] (no_word_due (reads_of part kept bytes) part [] c.args.self.now.registers.values.due c.requires.no_word_due))));
  commands = λ part kept wrapped bytes s. (
      let piece : List ℕ = c.args.piece.now in
      let from : ℕ = c.args.at.now in
      let at : ℕ = c.cut-run.new.at in
      let left : ℕ = c.take_run-left.result in
      let inside : DeviceStandsFor part kept wrapped (device_in c.self.inside) bytes = subst (λ (d : DeviceState). DeviceStandsFor part kept wrapped d bytes) (sym c.self.view_is) s in
      let cutter : IsCutterOf c.self.inside.cutter bytes = inside.cutter_is (ap (λ (d : DeviceState). d.registers.values.stop) c.self.view_is ∙ c.requires.going) in
      let some : left ≤ at - from = c.take_run-left.ensures.left.within in
      let onward : from ≤ at = c.cut-run.ensures.forward in
      prefix_commands bytes (between piece from at) (between piece from (at - left)) (drop (at - left - from) (between piece from at)) (between_prefix piece from at left (omega (arith, some, onward)))
      (run_commands c.self.inside.cutter c.cut-run.new.self bytes (between piece from at) cutter.sessions cutter.place c.cut-run.result (length piece - from) cutter.stands
      (c.cut-run.ensures.adds bytes cutter.sessions cutter.place cutter.stands) c.cut-run.ensures.run c.cut-run.ensures.lent));
}

pub invariant_of-self : goal.invariant_of-self
invariant_of-self c = record {
  frames = c.take_run-left.ensures.none_due_at_stop.frames;
  past = past_later c.args.self.now (device_after c) (run_taken c) (turn_taken c).takes (subst HasSomePast c.self.view_is c.self.invariant.past);
}

tells_nothing : (run : Cut) → IsNeed run → HasNoWord run
tells_nothing Need n = tt
tells_nothing (Skip bytes) n = tt
tells_nothing Sync n = tt
tells_nothing (Head w step) n = absurd n
tells_nothing (Word register w) n = absurd n
tells_nothing (Body register bytes) n = absurd n

comes_nearer : (run : Cut) (left before after : ℕ) → (IsNeed run → ⊥) → ComesNearer run left before after → after < before
comes_nearer Need left before after n g = absurd (n tt)
comes_nearer (Skip bytes) left before after n g = g
comes_nearer Sync left before after n g = g
comes_nearer (Head w step) left before after n g = g
comes_nearer (Word register w) left before after n g = g
comes_nearer (Body register bytes) left before after n g = g

pub returns : goal.returns
returns c = record {
  turned = record {
    forward = omega (arith, c.cut-run.ensures.forward, c.take_run-left.ensures.left.within);
    within = omega (arith, c.cut-run.ensures.within);
    taken = ap (λ (d : DeviceState). d.taken + (c.cut-run.new.at - c.take_run-left.result - c.args.at.now)) c.self.view_is;
    fed = search rules;
    turn = turn_taken c;
  };
  used_up = λ e. (
      let done = c.is_done.ensures.yes e in
      let going : c.take_run-left.new.self.values.stop ≡ None = done.1 in
      let need : IsNeed c.cut-run.result = c.is_need-used_up.ensures.0 done.0 in
      let all : length c.args.piece.now - c.cut-run.new.at ≡ 0 = need_goes c.cut-run.result _ _ _ need c.cut-run.ensures.nearer in
      record {
        all = omega (arith, all, c.cut-run.ensures.within, c.take_run-left.ensures.left.goes_on going);
        going = going;
        no_word_due = c.take_run-left.ensures.no_word_due (tells_nothing c.cut-run.result need);
      });
  goes_on = λ e f. (
      let unused : c.is_need-used_up.result ≡ false = c.is_done.ensures.no e f in
      let piece : ℕ = length c.args.piece.now in
      let nearer : calls_left c.cut-run.new.self (piece - c.cut-run.new.at) < calls_left c.self.inside.cutter (piece - c.args.at.now) =
      comes_nearer c.cut-run.result _ _ _ (λ n. absurd (let both : true ≡ false = sym (c.is_need-used_up.ensures.1 n) ∙ unused in cc)) c.cut-run.ensures.nearer in
      let same : calls_left c.self.inside.cutter (piece - c.args.at.now) ≡ calls_left c.args.self.now.cutter (piece - c.args.at.now) = ap (λ (d : DeviceState). calls_left d.cutter (piece - c.args.at.now)) c.self.view_is in
      omega (arith, nearer, same, c.take_run-left.ensures.left.goes_on f));
}
