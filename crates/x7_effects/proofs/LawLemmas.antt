-- The laws, for the streams as the planner says them.
use Rattle.std.proofs.Common.{◌≡◌, ℕ, List, [], length, sym, subst}
use Rattle.std.specs.Prelude.{All, Contains}
use Rattle.x7_planner.proofs.FewLemmas.{by_rows}
use Rattle.x7_words.specs.Word.{AreBytes}
use Rattle.x7_part.specs.AddressOrder.{addresses_in}
use Rattle.x7_part.specs.Part.{PartData, frame_words}
use Rattle.x7_part.specs.Ranges.{IsPart}
use Rattle.x7_memory.specs.Plan.{AreAddressed, IsPlan, PlanData}
use Rattle.x7_planner.specs.FullStream.{full_stream}
use Rattle.x7_planner.specs.ReadStream.{read_stream}
use Rattle.x7_planner.specs.Fault.{CanRead}
use Rattle.x7_engine.specs.declared.kept.Kept.{Kept}
use Rattle.x7_engine.specs.Rest.{AtRest}
use Rattle.x7_planner.specs.PartialStream.{partial_stream}
use Rattle.x7_effects.specs.Played.{PlaysFull, PlaysPartial, PlaysRead, device_after}
use Rattle.x7_engine.specs.Kept.{on_the_bench}
use Rattle.x7_engine.proofs.RestLemmas.{rest_new}
use Rattle.x7_effects.proofs.PartialLemmas.{partial_fits_plan, partial_plays}
use Rattle.x7_effects.proofs.FullLemmas.{full_plays}
use Rattle.x7_effects.proofs.PlannerLemmas.{full_same, named, partial_same, read_same}
use Rattle.x7_effects.proofs.ReadbackLemmas.{read_plays}

pub full_law : (part : PartData) (kept : Kept) (bytes : List ℕ) (plan : PlanData) → AreBytes bytes → AtRest part kept bytes → IsPart part → IsPlan plan → plan.width ≡ frame_words part → AreAddressed part plan.rows
    → PlaysFull (device_after part kept bytes) (full_stream part plan) plan
full_law part kept bytes plan f r is p e within =
    subst (λ t. PlaysFull (device_after part kept bytes) t plan) (sym (full_same part plan is p e))
    (full_plays part kept bytes plan f r is p e (named plan.rows (Contains (addresses_in part)) (by_rows (λ row. Contains (addresses_in part) row.far) plan.rows within)))

pub read_law : (part : PartData) (kept : Kept) (bytes : List ℕ) (address n : ℕ) → AreBytes bytes → AtRest part kept bytes → IsPart part → CanRead part address n → PlaysRead (device_after part kept bytes) (read_stream part address n) address n
read_law part kept bytes address n f r is can =
    subst (λ t. PlaysRead (device_after part kept bytes) t address n) (sym (read_same part address n)) (read_plays part kept bytes address n f r is can.has can.within)

pub new_law : (part : PartData) (plan : PlanData) → IsPart part → IsPlan plan → plan.width ≡ frame_words part → AreAddressed part plan.rows → PlaysFull (device_after part on_the_bench []) (full_stream part plan) plan
new_law part plan is p e within = full_law part on_the_bench [] plan tt (rest_new part) is p e within

pub partial_law : (part : PartData) (kept : Kept) (bytes : List ℕ) (plan : PlanData) → AreBytes bytes → AtRest part kept bytes → IsPart part → IsPlan plan → plan.width ≡ frame_words part → AreAddressed part plan.rows
    → PlaysPartial (device_after part kept bytes) (partial_stream part plan.rows) plan
partial_law part kept bytes plan f r is p e within =
    let wide : All (λ row. length row.words ≡ frame_words part) plan.rows = subst (λ (w : ℕ). All (λ row. length row.words ≡ w) plan.rows) e p.width in
    subst (λ t. PlaysPartial (device_after part kept bytes) t plan)
    (sym (partial_same part plan.rows (by_rows (λ row. length row.words ≡ frame_words part) plan.rows wide) (partial_fits_plan part plan is p e within)))
    (partial_plays part kept bytes plan f r is p e within)
