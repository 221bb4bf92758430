use Rattle.std.proofs.Common.{◌≡◌, ◌<◌, [], ap, arith, sym, subst, ◌∙◌, refl, take}
use Rattle.x7_words.proofs.ListLemmas.{all_from_places}
use Rattle.x7_packets.specs.Mode.{Mode, mode_of}
use Rattle.x7_packets.specs.Cutter.{CutterState}
use Rattle.x7_packets.specs.Machine.{MachineStandsFor, MachineState}
use Rattle.x7_packets.proofs.AtOnceLemmas.{other_register, writes_short}
use Rattle.x7_packets.proofs.cutter.Cutter.take_short_write.Goals as goal

pub returns-clause-writes : goal.returns-clause-writes
returns-clause-writes c =
    let here = c.if-not-is_at_header.ensures in
    let synced : c.args.self.now.mode ≡ Mode.Synced = here.mode refl in
    let none : c.args.self.now.kept ≡ [] = here.kept refl in
    let same_mode : mode_of c.self.inside.stage ≡ Mode.Synced = ap (λ (o : CutterState). o.mode) c.self.view_is ∙ synced in
    let same_kept : take c.self.inside.count c.self.inside.kept ≡ [] = ap (λ (o : CutterState). o.kept) c.self.view_is ∙ none in
    let fits = all_from_places (λ b. b < 256) c.args.rest.now (λ k h. omega (arith, c.type_inv.rest k)) in
    writes_short c.args.self.now _ c.args.rest.now c.word_of-head.result _ _ synced same_mode none same_kept (omega (arith, c.if-rest-lt-LONGEST_SHORT_WRITE.false)) fits c.word_of-head.ensures.back
    (omega (arith, c.if-head-type1_write_header.false, c.type1_write_header.ensures)) c.register_in-register.ensures.most (other_register _ _ c.is_cmd.ensures c.if-is_cmd.false) (omega (arith, c.if-count-eq0.false)) (omega (arith, c.if-count-gt-MOST_SHORT_WORDS.false))
    (λ n some few ps s. c.take_write_to_other.ensures.head n some few ps (subst (λ (m : MachineState). MachineStandsFor m ps) (sym (ap (λ (o : CutterState). o.machine) c.self.view_is)) s)) c.take_write_to_other.ensures.words
