-- Every text comes to a script or to a first bad line: each line has no meaning, is that of an order, or is that of
-- none.
use Rattle.std.proofs.Common.{◌≡◌, ◌⊎◌, inl, inr, ℕ, ◌+◌, ◌^◌, ◌<◌, Bool, true, false, List, [], ◌∷◌, ◌++◌, Ok, Err, length, cond, refl, ap, ap₂, sym, subst, ◌∙◌}
use Rattle.std.proofs.lemmas.Bool.Decides.{Decides-ltb, not_from_Decides}
use Rattle.std.proofs.lemmas.Slice.Eq.{bytes_eq-Decides}
use Rattle.std.specs.Bool.{Decides}
use Rattle.std.specs.List.{filter}
use Rattle.x7_text.specs.Lines.{split}
use Rattle.x7_debug.specs.declared.fault.ScriptFault.TheVariants as fault
use Rattle.x7_debug.specs.declared.order.Order.{Order}
use Rattle.x7_debug.specs.declared.order.Order.TheVariants as order
use Rattle.x7_debug.specs.declared.order.Stop.TheVariants as stop
use Rattle.x7_debug.specs.Script.{AreOrders, FitsOrder, has_meaning, HasScript, IsNoOrder, order_text}
use Rattle.x7_debug.proofs.UniqueLemmas.{order_by, order_is}

-- what a test decides holds, or it doesn't
holds_or : {P : Type 0} → (r : Bool) → Decides r P → P ⊎ (P → ⊥)
holds_or true d = inl (d.0 refl)
holds_or false d = inr (not_from_Decides false d refl)

below_or : (n m : ℕ) → (n < m) ⊎ (n < m → ⊥)
below_or n m = holds_or _ (Decides-ltb n m)

fits_or : (o : Order) → FitsOrder o ⊎ (FitsOrder o → ⊥)
fits_or (order.Step n) = below_or n (2 ^ 32)
fits_or (order.Back n) = below_or n (2 ^ 32)
fits_or (order.Go n) = below_or n (2 ^ 32)
fits_or (order.Until stop.Synced) = inl tt
fits_or (order.Until stop.Searching) = inl tt
fits_or (order.Until stop.Stopped) = inl tt
fits_or (order.Until (stop.Phase p)) = below_or p 8
fits_or order.Regs = inl tt
fits_or order.Phase = inl tt
fits_or (order.Frame far) = below_or far (2 ^ 32)

-- the order of a line, or none: it can only be the one that its letters name
OrderOr : List ℕ → Type 0
OrderOr line = ((o : Order) × FitsOrder o × (line ≡ order_text o)) ⊎ ((o : Order) → FitsOrder o → line ≡ order_text o → ⊥)

order_or : (line : List ℕ) → OrderOr line
unfolding OrderOr
order_or line = by (fits_or (order_by line)) (holds_or _ (bytes_eq-Decides line (order_text (order_by line))))
  where
    named : (o : Order) → FitsOrder o → line ≡ order_text o → o ≡ order_by line
    named o f e = sym (order_is o f) ∙ ap order_by (sym e)

    by : FitsOrder (order_by line) ⊎ (FitsOrder (order_by line) → ⊥) → (line ≡ order_text (order_by line)) ⊎ (line ≡ order_text (order_by line) → ⊥) → OrderOr line
    by (inl f) (inl e) = inl (order_by line, f, e)
    by (inl f) (inr n) = inr (λ o g e. n (e ∙ ap order_text (named o g e)))
    by (inr n) more = inr (λ o g e. n (subst FitsOrder (named o g e) g))

-- ---- the lines of a text

-- the first of the lines that is bad, and the orders of the lines before it
record FirstBad (lines : List (List ℕ)) : Type 0 where
  before : List (List ℕ)
  bad : List ℕ
  after : List (List ℕ)
  texts : lines ≡ before ++ bad ∷ after
  orders : List Order
  good : AreOrders before orders
  is_bad : IsNoOrder bad

LinesOr : List (List ℕ) → Type 0
LinesOr lines = ((orders : List Order) × AreOrders lines orders) ⊎ FirstBad lines

-- a line without meaning, or that of an order, before lines of these orders
without_meaning : (line : List ℕ) (lines : List (List ℕ)) (orders : List Order) → has_meaning line ≡ false → AreOrders lines orders → AreOrders (line ∷ lines) orders
without_meaning line lines orders e good = record { texts = ap (λ (b : Bool). cond b (line ∷ filter has_meaning lines) (filter has_meaning lines)) e ∙ good.texts; fit = good.fit }

with_order : (line : List ℕ) (lines : List (List ℕ)) (o : Order) (orders : List Order) → has_meaning line ≡ true → FitsOrder o → line ≡ order_text o → AreOrders lines orders → AreOrders (line ∷ lines) (o ∷ orders)
with_order line lines o orders e f is good = record {
  texts = ap (λ (b : Bool). cond b (line ∷ filter has_meaning lines) (filter has_meaning lines)) e ∙ ap₂ (λ (a : List ℕ) (b : List (List ℕ)). a ∷ b) is good.texts;
  fit = (f, good.fit);
}

lines_or : (lines : List (List ℕ)) → LinesOr lines
unfolding LinesOr OrderOr
lines_or [] = inl ([], record { texts = refl; fit = tt })
lines_or (line ∷ lines) = by (has_meaning line) refl (lines_or lines)
  where
    later_bad : (bad : FirstBad lines) (orders : List Order) → AreOrders (line ∷ bad.before) orders → FirstBad (line ∷ lines)
    later_bad bad orders good = record {
      before = line ∷ bad.before;
      bad = bad.bad;
      after = bad.after;
      texts = ap (λ (rest : List (List ℕ)). line ∷ rest) bad.texts;
      orders = orders;
      good = good;
      is_bad = bad.is_bad;
    }

    by_order : has_meaning line ≡ true → OrderOr line → LinesOr lines → LinesOr (line ∷ lines)
    by_order e (inr none) rest = inr (record { before = []; bad = line; after = lines; texts = refl; orders = []; good = record { texts = refl; fit = tt }; is_bad = record { meaning = e; no_order = none } })
    by_order e (inl (o, f, is)) (inl (orders, good)) = inl (o ∷ orders, with_order line lines o orders e f is good)
    by_order e (inl (o, f, is)) (inr bad) = inr (later_bad bad (o ∷ bad.orders) (with_order line bad.before o bad.orders e f is bad.good))

    by : (b : Bool) → has_meaning line ≡ b → LinesOr lines → LinesOr (line ∷ lines)
    by true e rest = by_order e (order_or line) rest
    by false e (inl (orders, good)) = inl (orders, without_meaning line lines orders e good)
    by false e (inr bad) = inr (later_bad bad bad.orders (without_meaning line bad.before bad.orders e bad.good))

pub has_script : (text : List ℕ) → HasScript text
unfolding LinesOr
has_script text = by (lines_or (split text))
  where
    by : LinesOr (split text) → HasScript text
    by (inl (orders, good)) = (Ok orders, good)
    by (inr bad) = (
      Err (fault.Line (length bad.before + 1)),
      record { before = bad.before; bad = bad.bad; after = bad.after; texts = bad.texts; orders = bad.orders; good = bad.good; count = refl; is_bad = bad.is_bad },
    )
