use Rattle.std.proofs.Common.{◌≡◌, ◌<◌, [], ◌++◌, ℕ, arith, sym, subst, ap, ◌∙◌, ◌/◌, take, length, if◌then◌else◌, Bool, map, flat_map}
use Rattle.x7_words.specs.Word.{bytes_of_word, words_of_bytes}
use Rattle.x7_words.proofs.ListLemmas.{all_from_places}
use Rattle.x7_words.proofs.WordLemmas.{bytes_words}
use Rattle.x7_packets.specs.declared.cutter.Cut.TheVariants.{Body}
use Rattle.x7_packets.specs.Mode.{Mode, mode_of}
use Rattle.x7_packets.specs.declared.header.Step.{Step}
use Rattle.x7_packets.specs.Packet.{payload_steps}
use Rattle.x7_packets.specs.Cutter.{CutterState, CutterStandsFor, AfterRun}
use Rattle.x7_packets.proofs.PacketLemmas.{words_of_payload}
use Rattle.x7_packets.proofs.CutLemmas.{body_more, no_count}
use Rattle.x7_packets.proofs.cutter.Cutter.lend.Goals as goal

pub invariant_of-self : goal.invariant_of-self
invariant_of-self c =
    let none : take c.self.inside.count c.self.inside.kept ≡ [] = ap (λ (o : CutterState). o.kept) c.self.view_is ∙ c.requires.none_kept in
    (c.self.invariant.0, λ k. no_count c.self.inside.kept c.self.inside.count (omega (arith, c.self.told, c.self.invariant.0)) none)

pub returns-clause-adds : goal.returns-clause-adds
returns-clause-adds c = λ bytes sessions place s.
    let old : CutterState = record { mode = mode_of c.self.inside.stage; matcher = c.self.inside.matcher; machine = c.self.inside.machine; kept = take c.self.inside.count c.self.inside.kept } in
    let new : CutterState = record { mode = mode_of c.stage_after_word-self-inside.result; matcher = c.new-self-inside.result; machine = c.take_payload-ended.new.self; kept = take c.self.inside.count c.self.inside.kept } in
    let body = c.args.body.now in
    let register = c.self.inside.machine.register in
    let none : take c.self.inside.count c.self.inside.kept ≡ [] = ap (λ (o : CutterState). o.kept) c.self.view_is ∙ c.requires.none_kept in
    let synced : mode_of c.self.inside.stage ≡ Mode.Synced = ap (λ (o : CutterState). o.mode) c.self.view_is ∙ c.requires.synced in
    let fits = all_from_places (λ b. b < 256) c.args.body.now (λ k h. omega (arith, c.type_inv.body k)) in
    let word : flat_map bytes_of_word (map (λ (x : ℕ × Step). x.0) (payload_steps c.self.inside.machine.register (words_of_bytes c.args.body.now))) ≡ take c.self.inside.count c.self.inside.kept ++ c.args.body.now =
    ap (flat_map bytes_of_word) (words_of_payload c.self.inside.machine.register (words_of_bytes c.args.body.now)) ∙ bytes_words c.args.body.now (length c.args.body.now / 4) fits c.requires.whole ∙ ap (λ t. t ++ c.args.body.now) (sym none) in
    let turned = c.stage_after_word-self-inside.ensures ∙ ap (λ (b : Bool). if b then Mode.Searching else Mode.Synced) c.take_payload-ended.ensures.ends in
    let went : AfterRun old new (bytes ++ c.args.body.now) sessions place (Body c.self.inside.machine.register c.args.body) =
    body_more old new bytes c.args.body.now sessions place c.self.inside.machine.register c.args.body (subst (λ (o : CutterState). CutterStandsFor o bytes sessions place) (sym c.self.view_is) s) synced c.take_payload-ended.ensures.grows fits word none turned (λ _. c.new-self-inside.ensures) in
    subst (λ (o : CutterState). AfterRun o new (bytes ++ c.args.body.now) sessions place (Body c.register-register.result c.args.body)) c.self.view_is
    (subst (λ (r : ℕ). AfterRun old new (bytes ++ c.args.body.now) sessions place (Body r c.args.body)) (sym c.register-register.ensures.value) went)
