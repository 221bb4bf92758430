use Rattle.std.proofs.Common.{◌≡◌, ◌<◌, [], arith, ap, ◌∙◌, take, length, refl, take_all}
use Rattle.std.proofs.lemmas.Bool.Decides.{nat_tests}
use Rattle.x7_words.proofs.ListLemmas.{all_from_places, all_take}
use Rattle.x7_packets.specs.Mode.{Mode, mode_of}
use Rattle.x7_packets.specs.Cutter.{CutterState}
use Rattle.x7_packets.proofs.CutLemmas.{cuts_all, cuts_found, keeps_none, none_kept}
use Rattle.x7_packets.proofs.cutter.Cutter.skip.Goals.{in-Some, in-None}
use Rattle.x7_packets.proofs.cutter.Cutter.skip.Goals as goal

pub returns : goal.returns
returns c =
    let old : CutterState = record { mode = mode_of c.self.inside.stage; matcher = c.self.inside.matcher; machine = c.self.inside.machine; kept = take c.self.inside.count c.self.inside.kept } in
    let rest = c.args.rest.now in
    let searching : mode_of c.self.inside.stage ≡ Mode.Searching = ap (λ (o : CutterState). o.mode) c.self.view_is ∙ c.requires.searching in
    let none : take c.self.inside.count c.self.inside.kept ≡ [] = none_kept c.self.inside.kept c.self.inside.count (c.self.invariant.1 (keeps_none (mode_of c.self.inside.stage) searching)) in
    let fits = all_from_places (λ b. b < 256) c.args.rest.now (λ k h. omega (arith, c.type_inv.rest k)) in
    let some : 0 < length c.args.rest.now = grind (arith, nat_tests, c.is_empty.ensures, c.if-is_empty.false) in
    rw (← c.self.view_is) (elim c.match-search.branch [
      | in-Some w ↦
          let within = rw w.in-Some.is at c.search.ensures.within in
          let found = rw w.in-Some.is at c.search.ensures.found in
          rw (w.self-is, w.count-is) (record {
            forward = omega arith;
            within = omega (arith, within.1);
            cuts = cuts_found old _ c.args.rest.now _ w.in-Some.count _ searching refl refl none none within.0 within.1 (omega arith) found refl
                (all_take (λ b. b < 256) w.in-Some.count c.args.rest.now fits);
          })
      | in-None w ↦
          let found = rw w.in-None.is at c.search.ensures.found in
          rw (w.self-is, w.count-is) (record { forward = omega arith; within = omega arith; cuts = cuts_all old _ c.args.rest.now _ _ searching searching refl none none some (omega arith) found (take_all (length c.args.rest.now) c.args.rest.now (omega arith)) fits })
    ])
