use Rattle.std.proofs.Common.{◌≡◌, ◌<◌, ℕ, List, [], ◌∷◌, ◌++◌, arith, sym, subst, ap, ◌∙◌, take, refl, if◌then◌else◌, Bool}
use Rattle.x7_words.proofs.ListLemmas.{all_from_places}
use Rattle.x7_packets.specs.declared.cutter.Cut.{Cut}
use Rattle.x7_packets.specs.declared.cutter.Cut.TheVariants.{Head, Word}
use Rattle.x7_packets.specs.Mode.{Mode, mode_of}
use Rattle.x7_packets.specs.declared.header.Step.{Step}
use Rattle.x7_packets.specs.declared.header.Step.TheVariants.{Payload}
use Rattle.x7_packets.specs.Packet.{Packet}
use Rattle.x7_packets.specs.Machine.{HasTakenWords, is_end, MachineStandsFor}
use Rattle.x7_packets.specs.Cutter.{CutterState, CutterStandsFor, AfterRun}
use Rattle.x7_packets.proofs.CutLemmas.{head_more, word_more}
use Rattle.x7_packets.proofs.cutter.Cutter.take_word.Goals.{in-Payload, in_default}
use Rattle.x7_packets.proofs.cutter.Cutter.take_word.Goals as goal

pub returns-clause-adds : goal.returns-clause-adds
returns-clause-adds c = λ bytes sessions place s.
    let old : CutterState = record { mode = mode_of c.self.inside.stage; matcher = c.self.inside.matcher; machine = c.self.inside.machine; kept = take c.self.inside.count c.self.inside.kept } in
    let new : CutterState = record { mode = mode_of c.stage_after_word-self-inside.result; matcher = c.new-self-inside.result; machine = c.take-step.new.self; kept = [] } in
    let w : ℕ = c.completed_word-w.result in
    let synced : mode_of c.self.inside.stage ≡ Mode.Synced = ap (λ (o : CutterState). o.mode) c.self.view_is ∙ c.requires.synced in
    let fits = all_from_places (λ b. b < 256) c.args.missing.now (λ k h. omega (arith, c.type_inv.missing k)) in
    let stands = subst (λ (o : CutterState). CutterStandsFor o bytes sessions place) (sym c.self.view_is) s in
    let turned : mode_of c.stage_after_word-self-inside.result ≡ (if is_end c.take-step.result then Mode.Searching else Mode.Synced) = c.stage_after_word-self-inside.ensures ∙ ap (λ (b : Bool). if b then Mode.Searching else Mode.Synced) c.is_end.ensures in
    let by_head : AfterRun old new (bytes ++ c.args.missing.now) sessions place (Head c.completed_word-w.result c.take-step.result) =
    head_more old new bytes c.args.missing.now sessions place c.completed_word-w.result c.take-step.result stands synced c.take-step.ensures.grows fits c.completed_word-w.ensures refl turned (λ _. c.new-self-inside.ensures) in
    let as_payload : (register : ℕ) → c.take-step.result ≡ Payload register c.completed_word-w.result → AfterRun old new (bytes ++ c.args.missing.now) sessions place (Word register c.completed_word-w.result) = λ register e.
    word_more old new bytes c.args.missing.now sessions place register c.completed_word-w.result stands synced
    (subst (λ (x : Step). (ps : List Packet) → MachineStandsFor c.self.inside.machine ps → HasTakenWords ps ((c.completed_word-w.result, x) ∷ []) c.take-step.new.self) e c.take-step.ensures.grows) fits c.completed_word-w.ensures refl
    (subst (λ (x : Step). mode_of c.stage_after_word-self-inside.result ≡ (if is_end x then Mode.Searching else Mode.Synced)) e turned) (λ _. c.new-self-inside.ensures) in
    subst (λ (o : CutterState). AfterRun o new (bytes ++ c.args.missing.now) sessions place c.match-step.result) c.self.view_is (elim c.match-step.branch [
      | in-Payload b ↦
          let r = c.take-step.ensures.register b.in-Payload.register b.in-Payload.field-1 b.in-Payload.is in
          subst (λ (run : Cut). AfterRun old new (bytes ++ c.args.missing.now) sessions place run) (sym b.result-is) (as_payload b.in-Payload.register (b.in-Payload.is ∙ ap (Payload b.in-Payload.register) r.0))
      | in_default b ↦ subst (λ (run : Cut). AfterRun old new (bytes ++ c.args.missing.now) sessions place run) (sym b.result-is) by_head
    ])
