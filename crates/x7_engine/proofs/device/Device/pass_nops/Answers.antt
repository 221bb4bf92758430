use Rattle.std.proofs.Common.{◌≡◌, ◌+◌, ◌-◌, ◌*◌, ◌≤◌, ◌++◌, ℕ, Bool, List, length, take, drop, refl, sym, ap, subst, ◌∙◌, arith, length-drop, rules}
use Rattle.std.proofs.lemmas.List.{take_rest}
use Rattle.x7_packets.specs.Cutter.{between}
use Rattle.x7_packets.specs.History.{history_of}
use Rattle.x7_packets.specs.Nops.{IdlesThrough}
use Rattle.x7_part.specs.Part.{PartData}
use Rattle.x7_flow.specs.Standing.{FramesFit}
use Rattle.x7_engine.specs.declared.kept.Kept.{Kept}
use Rattle.x7_engine.specs.Standing.{DeviceStandsFor, DeviceState, due_count, registers_in}
use Rattle.x7_engine.specs.DeviceFields.{device_in}
use Rattle.x7_engine.specs.Past.{GivesNoWord, HasPast, HasSomePast, ForEachPast, TakesJust, later, reads_given_at}
use Rattle.x7_engine.specs.State.{reads_of}
use Rattle.x7_engine.proofs.DeviceLemmas.{between_prefix, length_between}
use Rattle.x7_engine.proofs.PassLemmas.{passed, given_same}
use Rattle.x7_engine.proofs.PastLemmas.{each_by_fields, past_later}
use Rattle.x7_engine.proofs.UntilLemmas.{quiet_commands}
use Rattle.x7_engine.proofs.device.Device.pass_nops.Goals as goal

-- how many bytes were taken
abbrev count_taken : goal.After-self-2-1 → ℕ
count_taken c = (4 * c.nop_count-count.result) - c.take_bytes-left.result

-- the device after the no-ops
abbrev device_after : goal.After-self-2-1 → DeviceState
device_after c = record (device_in c.self.inside) { registers = registers_in c.take_bytes-left.new.self; taken = c.self.inside.taken + count_taken c; fed = c.saturating_add-self-inside.result }

-- the bytes of the no-ops
abbrev passed_bytes : goal.After-self-2-1 → List ℕ
passed_bytes c = between c.args.piece.now c.args.at.now (c.args.at.now + count_taken c)

passed_here : (c : goal.After-self-2-1) (kept : Kept) (wrapped : Bool) (bytes : List ℕ) → (let part : PartData = c.self.inside.part in DeviceStandsFor part kept wrapped (device_in c.self.inside) bytes
    → DeviceStandsFor part kept wrapped (device_after c) (bytes ++ passed_bytes c) × (reads_of part kept (bytes ++ passed_bytes c) ≡ reads_of part kept bytes) × (history_of (bytes ++ passed_bytes c) ≡ history_of bytes))
passed_here c kept wrapped bytes s =
    let piece : List ℕ = c.args.piece.now in
    let from : ℕ = c.args.at.now in
    let count : ℕ = 4 * c.nop_count-count.result in
    let left : ℕ = c.take_bytes-left.result in
    let cut : List ℕ = between piece from (from + count) in
    let more : List ℕ = between piece from (from + (count - left)) in
    let few : left ≤ count = c.take_bytes-left.ensures.left.within in
    let rest_is : length (take (length piece - from) (drop from piece)) ≡ length piece - from = ap length (take_rest piece from) ∙ length-drop from piece in
    let room : count ≤ length piece - from = omega (arith, c.nop_count-count.ensures.within, rest_is) in
    let within : from + count ≤ length piece = omega (arith, room, c.requires.within) in
    let all : length cut ≡ count = length_between piece from (from + count) (omega arith) within ∙ omega arith in
    let taken : length more ≡ count - left = length_between piece from (from + (count - left)) (omega arith) (omega (arith, within)) ∙ omega arith in
    let place : from + count - left ≡ from + (count - left) = omega (arith, few) in
    let rest : List ℕ = drop (from + count - left - from) cut in
    let split : cut ≡ more ++ rest = between_prefix piece from (from + count) left (omega (arith, few)) ∙ ap (λ (k : ℕ). between piece from k ++ rest) place in
    let same : count ≡ from + count - from = omega arith in
    let prefix : take count (take (length piece - from) (drop from piece)) ≡ cut = ap (take count) (take_rest piece from) ∙ ap (λ (k : ℕ). take k (drop from piece)) same in
    passed c.self.inside.part kept wrapped (device_in c.self.inside) (device_after c) bytes cut more rest count left s
    (ap (λ (d : DeviceState). d.registers.values.stop) c.self.view_is ∙ c.requires.going)
    (ap (λ (d : DeviceState). due_count d.registers.values.due) c.self.view_is ∙ c.requires.no_word_due)
    (λ sessions place i. subst (λ (b : List ℕ). IdlesThrough c.self.inside.cutter (bytes ++ b) sessions place) prefix (c.nop_count-count.ensures.idles bytes sessions place i))
    (c.take_bytes-left.ensures.enters kept) (sym all) split (length-drop (from + count - left - from) cut ∙ omega (arith, all, few))
    c.take_bytes-left.ensures.left.goes_on c.take_bytes-left.ensures.fired refl refl refl (omega (arith, taken))
    (ap due_count c.take_bytes-left.ensures.due ∙ ap (λ (d : DeviceState). due_count d.registers.values.due) c.self.view_is ∙ c.requires.no_word_due)

stands_after : (c : goal.After-self-2-1) → TakesJust c.args.self.now (device_after c) (passed_bytes c)
stands_after c = each_by_fields (device_in c.self.inside) c.args.self.now (λ p. HasPast (device_after c) (later p (passed_bytes c))) c.self.view_is (λ kept wrapped bytes s. (passed_here c kept wrapped bytes s).0)

silent_after : (c : goal.After-self-2-1) → GivesNoWord c.args.self.now (device_after c) (passed_bytes c)
silent_after c = each_by_fields (device_in c.self.inside) c.args.self.now (λ p. reads_given_at (device_after c) (later p (passed_bytes c)) ≡ reads_given_at c.args.self.now p) c.self.view_is
    (λ kept wrapped bytes s.
    given_same c.self.inside.part kept c.args.self.now (device_after c) bytes (bytes ++ passed_bytes c) c.requires.no_word_due
    (ap due_count c.take_bytes-left.ensures.due ∙ ap (λ (d : DeviceState). due_count d.registers.values.due) c.self.view_is ∙ c.requires.no_word_due) (passed_here c kept wrapped bytes s).1)

quiet_after : (c : goal.After-self-2-1) → ForEachPast c.args.self.now (λ p. history_of (p.bytes ++ passed_bytes c) ≡ history_of p.bytes)
quiet_after c = each_by_fields (device_in c.self.inside) c.args.self.now (λ p. history_of (p.bytes ++ passed_bytes c) ≡ history_of p.bytes) c.self.view_is (λ kept wrapped bytes s. (passed_here c kept wrapped bytes s).2)

pub invariant_of-self : goal.invariant_of-self
invariant_of-self c = record {
  frames = subst (FramesFit c.self.inside.part) (sym c.take_bytes-left.ensures.frames) c.self.invariant.frames;
  past = past_later c.args.self.now (device_after c) (passed_bytes c) (stands_after c) (subst HasSomePast c.self.view_is c.self.invariant.past);
}

pub returns-clause-same_history : goal.returns-clause-same_history
returns-clause-same_history c = quiet_after c

pub returns-clause-turned : goal.returns-clause-turned
returns-clause-turned c = record {
  forward = search rules;
  within = search rules;
  taken = search rules;
  fed = search rules;
  turn = record {
    part = ap (λ (d : DeviceState). d.part) c.self.view_is;
    takes = stands_after c;
    silent = silent_after c;
    commands = λ part kept wrapped bytes s.
        quiet_commands bytes (passed_bytes c) (stands_after c part kept wrapped bytes s).fits (quiet_after c part kept wrapped bytes s);
  };
}
