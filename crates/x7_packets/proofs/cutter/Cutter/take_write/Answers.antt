use Rattle.std.proofs.Common.{Bool, if◌then◌else◌, ◌≡◌, [], ◌∷◌, true, false, ap, arith, sym, subst, ◌∙◌, refl, take}
use Rattle.x7_packets.specs.Mode.{Mode, mode_of}
use Rattle.x7_packets.specs.Cutter.{CutterState}
use Rattle.x7_packets.specs.Machine.{MachineStandsFor, MachineState}
use Rattle.x7_packets.proofs.AtOnceLemmas.{other_register, writes_one}
use Rattle.x7_packets.proofs.TakeLemmas.{calm_word}
use Rattle.x7_packets.proofs.cutter.Cutter.take_write.Goals as goal

pub returns-then-not-is_cmd-clause-writes : goal.returns-then-not-is_cmd-clause-writes
returns-then-not-is_cmd-clause-writes c =
    let here = c.if-not-is_at_header.ensures in
    let synced : c.args.self.now.mode ≡ Mode.Synced = here.mode refl in
    let none : c.args.self.now.kept ≡ [] = here.kept refl in
    let same_mode : mode_of c.self.inside.stage ≡ Mode.Synced = ap (λ (o : CutterState). o.mode) c.self.view_is ∙ synced in
    let same_kept : take c.self.inside.count c.self.inside.kept ≡ [] = ap (λ (o : CutterState). o.kept) c.self.view_is ∙ none in
    let w = c.in-Some.w in
    let calm = calm_word c.in-Some.register w (other_register c.in-Some.register _ c.if-not-is_cmd.ensures refl) in
    writes_one c.args.self.now _ c.args.rest.now _ w synced (same_mode ∙ sym (ap (λ (b : Bool). if b then Mode.Searching else Mode.Synced) calm)) (λ e. absurd (let f : true ≡ false = sym e ∙ calm in cc)) none same_kept c.in-Some.ensures
    (λ ps s. c.take_write_to_other.ensures.head 1 (omega arith) (omega arith) ps (subst (λ (m : MachineState). MachineStandsFor m ps) (sym (ap (λ (o : CutterState). o.machine) c.self.view_is)) s))
    (c.take_write_to_other.ensures.words (w ∷ []) (c.in-Some.ensures.fits, tt) (omega arith))

pub returns-clause-writes : goal.returns-clause-writes
returns-clause-writes c =
    let here = c.if-not-is_at_header.ensures in
    let synced : c.args.self.now.mode ≡ Mode.Synced = here.mode refl in
    let none : c.args.self.now.kept ≡ [] = here.kept refl in
    let same_kept : take c.self.inside.count c.self.inside.kept ≡ [] = ap (λ (o : CutterState). o.kept) c.self.view_is ∙ none in
    writes_one c.args.self.now _ c.args.rest.now _ _ synced (c.stage_after_word-self-inside.ensures ∙ ap (λ (b : Bool). if b then Mode.Searching else Mode.Synced) c.take_write_of_one.ensures.ends) (λ _. c.new-self-inside.ensures) none same_kept c.in-Some.ensures
    (λ ps s. c.take_write_of_one.ensures.head ps (subst (λ (m : MachineState). MachineStandsFor m ps) (sym (ap (λ (o : CutterState). o.machine) c.self.view_is)) s)) c.take_write_of_one.ensures.word
