use Rattle.std.proofs.Common.{◌≡◌, ◌∷◌, [], ◌++◌, ◌<◌, ◌+◌, Bool, if◌then◌else◌, length, take, true, false, append-nil, sym, ap, subst, ◌∙◌, arith}
use Rattle.x7_part.specs.AddressOrder.{addresses_in}
use Rattle.x7_report.specs.Frames.{AreRanksShown}
use Rattle.x7_report.proofs.ReportLemmas.{ranks_more}
use Rattle.x7_report.proofs.frames.shown_ranks.Goals.{then-is_shown_at+in_ok-push, else-is_shown_at}
use Rattle.x7_report.proofs.frames.shown_ranks.Goals as goal

pub loop-rank-preserved : goal.loop-rank-preserved
loop-rank-preserved c =
    let part = c.args.part.now in
    let frames = c.args.memory.now in
    let rank = c.loop-rank.rank in
    let few : rank < length (addresses_in part) = let count = c.frames-rank-end.ensures.value in omega arith in
    let more : (b : Bool) → c.is_shown_at.result ≡ b → AreRanksShown part frames (take (rank + 1) (addresses_in part)) (c.loop-rank.ranks.items ++ (if b then rank ∷ [] else [])) =
    λ b e. ranks_more part frames c.loop-rank.ranks.items rank b few (sym c.is_shown_at.ensures ∙ e) c.loop-rank.invariant.shown in
    record {
      within = omega (arith, few);
      shown = elim c.if-is_shown_at.branch [
        | then-is_shown_at+in_ok-push w ↦ subst (AreRanksShown part frames (take (rank + 1) (addresses_in part))) (sym (ap (λ v. v.items) w.ranks-is ∙ w.in_ok-push.ensures.items)) (more true w.if-is_shown_at.true)
        | else-is_shown_at w ↦ subst (AreRanksShown part frames (take (rank + 1) (addresses_in part))) (append-nil c.loop-rank.ranks.items ∙ sym (ap (λ v. v.items) w.ranks-is)) (more false w.if-is_shown_at.false)
      ];
    }
