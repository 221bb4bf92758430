use Rattle.std.proofs.Common.{◌≡◌, ℕ, List, [], false, sym, subst}
use Rattle.x7_part.specs.Part.{PartData}
use Rattle.x7_engine.specs.Kept.{on_the_bench}
use Rattle.x7_engine.specs.Standing.{DeviceStandsFor}
use Rattle.x7_debug.specs.Journal.{AreRecordsOf}
use Rattle.x7_debug.specs.Position.{BeginsAtSoonest, last_of}
use Rattle.x7_debug.proofs.JournalLemmas.{on_empty, stands_first}
use Rattle.x7_debug.proofs.session.Session.new.Goals as goal

pub invariant_of-result : goal.invariant_of-result
invariant_of-result c =
    let stream = c.args.stream.items in
    let d = c.in_ok-device.device in
    let o = c.in_ok-outline.outline in
    let same : d.part ≡ c.args.part.now = c.in_ok-device.ensures.stands.part_is in
    let records = subst (λ (p : PartData). AreRecordsOf p c.in_ok-journal.journal) (sym same) c.in_ok-journal.ensures.records in
    record {
      on = on_empty d.part stream d c.in_ok-journal.journal 0 (stands_first d.part stream d (subst (λ (p : PartData). DeviceStandsFor p on_the_bench false d []) (sym same) c.in_ok-device.ensures.stands)) records c.in_ok-journal.ensures.empty;
      last_is = subst (λ (b : List ℕ). o.last ≡ last_of d.part b) c.deref.ensures.value (subst (λ (p : PartData). o.last ≡ last_of p c.deref.result.now) (sym same) c.in_ok-outline.ensures.last);
      begins_is = subst (λ (b : List ℕ). BeginsAtSoonest d.part b o.begins) c.deref.ensures.value (subst (λ (p : PartData). BeginsAtSoonest p c.deref.result.now o.begins) (sym same) c.in_ok-outline.ensures.begins);
    }
