use Rattle.std.proofs.Common.{◌≡◌, ◌++◌, List, ℕ, length, ap, arith, sym, subst, ◌∙◌}
use Rattle.x7_part.specs.AddressOrder.{addresses_in}
use Rattle.x7_part.specs.Part.{PartData}
use Rattle.x7_engine.specs.Past.{past_of, state_owing_at}
use Rattle.x7_engine.specs.Standing.{frames_due}
use Rattle.x7_engine.specs.State.{memory_of_bytes}
use Rattle.x7_report.specs.Frames.{AreRanksShown, lines_of_ranks}
use Rattle.x7_report.specs.Reports.{report_head}
use Rattle.x7_report.proofs.LinesLemmas.{begun_is}
use Rattle.x7_report.proofs.reports.begin_report.Goals as goal

pub returns : goal.returns
returns c = λ part kept wrapped bytes s.
    let d = c.args.device.now in
    let frames = c.memory.result.now in
    let ranks = c.in_ok-ranks.ranks.items in
    let old = c.args.text.now.items in
    let head = c.put_head.new.text.items in
    let reads = c.args.reads.now in
    let state = state_owing_at (past_of part kept wrapped bytes) (frames_due d.registers.values.due) in
    let count : c.len.result ≡ length ranks = omega (arith, c.in_ok-ranks.ranks.ok.0, c.len.ensures) in
    let shown : AreRanksShown part frames (addresses_in part) ranks = subst (λ (x : PartData). AreRanksShown x frames (addresses_in x) ranks) (c.part.ensures.value part kept wrapped bytes s) c.in_ok-ranks.ensures in
    ap (λ (x : PartData). head ++ lines_of_ranks x d.registers.frames.memory ranks) s.part_is ∙ ap (λ (x : List (List ℕ)). head ++ lines_of_ranks part x ranks) (sym c.memory.ensures.stored)
    ∙ begun_is part state reads frames (memory_of_bytes part kept bytes) old head ranks (c.memory.ensures.shows part kept wrapped bytes s) shown
    (c.in_ok-put_head.ensures part kept wrapped bytes s ∙ ap (λ (n : ℕ). old ++ report_head part state reads n) count)
