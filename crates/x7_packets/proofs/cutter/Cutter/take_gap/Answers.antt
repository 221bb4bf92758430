use Rattle.std.proofs.Common.{◌≡◌, ◌<◌, [], ap, arith, ◌∙◌, refl, take}
use Rattle.x7_words.proofs.ListLemmas.{all_from_places}
use Rattle.x7_packets.specs.Mode.{Mode, mode_of}
use Rattle.x7_packets.specs.Cutter.{CutterState}
use Rattle.x7_packets.proofs.AtOnceLemmas.{ends_gap}
use Rattle.x7_packets.proofs.CutLemmas.{keeps_none, none_kept}
use Rattle.x7_packets.proofs.cutter.Cutter.take_gap.Goals as goal

pub returns-clause-ends_gap : goal.returns-clause-ends_gap
returns-clause-ends_gap c =
    let here = c.if-not-is_in_clear_gap.ensures in
    let searching : c.args.self.now.mode ≡ Mode.Searching = here.mode refl in
    let same : mode_of c.self.inside.stage ≡ Mode.Searching = ap (λ (o : CutterState). o.mode) c.self.view_is ∙ searching in
    let none : take c.self.inside.count c.self.inside.kept ≡ [] = none_kept c.self.inside.kept c.self.inside.count (c.self.invariant.1 (keeps_none (mode_of c.self.inside.stage) same)) in
    let fits = all_from_places (λ b. b < 256) c.args.rest.now (λ k h. omega (arith, c.type_inv.rest k)) in
    ends_gap c.args.self.now _ c.args.rest.now c.in-Some.count searching refl (ap (λ (o : CutterState). o.machine) c.self.view_is) none (here.clear refl) (omega (arith, c.if-rest-lt-PLACES_REACH.false)) fits c.in-Some.ensures.most c.in-Some.ensures.first
