use Rattle.std.proofs.Common.{◌≡◌, ◌<◌, ◌+◌, ◌++◌, arith, sym, subst, ap, ◌∙◌, take, length, refl}
use Rattle.x7_words.proofs.ListLemmas.{all_from_places}
use Rattle.x7_packets.specs.declared.cutter.Cut.TheVariants.{Need}
use Rattle.x7_packets.specs.Mode.{Mode, mode_of}
use Rattle.x7_packets.specs.Cutter.{CutterState, CutterStandsFor, AfterRun}
use Rattle.x7_packets.proofs.CutLemmas.{kept_more}
use Rattle.x7_packets.proofs.cutter.Cutter.hold.Goals as goal

pub returns-clause-adds : goal.returns-clause-adds
returns-clause-adds c = λ bytes sessions place s.
    let old : CutterState = record { mode = mode_of c.self.inside.stage; matcher = c.self.inside.matcher; machine = c.self.inside.machine; kept = take c.self.inside.count c.self.inside.kept } in
    let new : CutterState = record { mode = mode_of c.self.inside.stage; matcher = c.self.inside.matcher; machine = c.self.inside.machine; kept = take c.keep-self-inside.result c.keep-self-inside.new.kept } in
    let synced : mode_of c.self.inside.stage ≡ Mode.Synced = ap (λ (o : CutterState). o.mode) c.self.view_is ∙ c.requires.synced in
    let few : length (take c.self.inside.count c.self.inside.kept) + length c.args.rest.now < 4 = omega (arith, c.requires.short, ap (λ (o : CutterState). length o.kept) c.self.view_is) in
    let fits = all_from_places (λ b. b < 256) c.args.rest.now (λ k h. omega (arith, c.type_inv.rest k)) in
    subst (λ (o : CutterState). AfterRun o new (bytes ++ c.args.rest.now) sessions place Need) c.self.view_is
    (kept_more old new bytes c.args.rest.now sessions place (subst (λ (o : CutterState). CutterStandsFor o bytes sessions place) (sym c.self.view_is) s) synced synced refl c.keep-self-inside.ensures.kept few fits)
