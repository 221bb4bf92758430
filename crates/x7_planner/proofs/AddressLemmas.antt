-- Rows up to the first at an address that the part lacks.
use Rattle.std.proofs.Common.{◌≡◌, ℕ, ◌+◌, ◌<◌, List, [], ◌∷◌, ◌++◌, length, take, drop, get_or, refl, sym, subst, ap, ◌∙◌}
use Rattle.std.specs.Prelude.{Contains}
use Rattle.std.proofs.lemmas.List.{take_more, drop_more, take-append-drop}
use Rattle.std.proofs.lemmas.List.Elements.{All-push}
use Rattle.x7_part.specs.AddressOrder.{addresses_in}
use Rattle.x7_part.specs.Part.{PartData}
use Rattle.x7_memory.specs.Plan.{AreAddressed, PlanRow}
use Rattle.x7_planner.specs.Fault.{IsFirstForeign}

pub foreign_at : (part : PartData) (rows : List PlanRow) (i : ℕ) (row : PlanRow) → i < length rows → get_or rows i row ≡ row → AreAddressed part (take i rows) → ¬ Contains (addresses_in part) row.far
    → IsFirstForeign part rows row.far
foreign_at part rows i row h e before foreign = record {
  before = take i rows;
  row = row;
  after = drop (i + 1) rows;
  split = sym (take-append-drop i rows) ∙ ap (λ t. take i rows ++ t) (drop_more rows i row h ∙ ap (λ (r : PlanRow). r ∷ drop (i + 1) rows) e);
  addressed = before;
  foreign = foreign;
  address_is = refl;
}

pub addressed_more : (part : PartData) (rows : List PlanRow) (i : ℕ) (row : PlanRow) → i < length rows → get_or rows i row ≡ row → AreAddressed part (take i rows) → Contains (addresses_in part) row.far
    → AreAddressed part (take (i + 1) rows)
addressed_more part rows i row h e before here =
    subst (λ t. AreAddressed part t) (sym (take_more rows i row h ∙ ap (λ (r : PlanRow). take i rows ++ r ∷ []) e)) (All-push (λ r. Contains (addresses_in part) r.far) (take i rows) row before here)
