-- One order more.
use Rattle.std.proofs.Common.{◌≡◌, ℕ, ◌+◌, ◌<◌, List, [], ◌∷◌, ◌++◌, length, take, get_or, ap, sym, ◌∙◌, append_assoc, append-nil}
use Rattle.std.specs.Prelude.{fold}
use Rattle.std.proofs.lemmas.List.{take_more}
use Rattle.std.proofs.lemmas.List.Sums.{fold_push}
use Rattle.x7_part.specs.Part.{PartData}
use Rattle.x7_debug.specs.declared.order.Order.{Order}
use Rattle.x7_debug.specs.Session.{MovesTo, SessionState}
use Rattle.x7_debug.specs.Showing.{final_position, position_after, order_shown, transcript_from, transcript_of}

from_push : (part : PartData) (stream : List ℕ) (at : ℕ) (orders : List Order) (o : Order)
    → transcript_from part stream at (orders ++ o ∷ []) ≡ transcript_from part stream at orders ++ order_shown part stream (position_after part stream (fold (position_after part stream) at orders) o) o
from_push part stream at [] o = append-nil (order_shown part stream (position_after part stream at o) o)
from_push part stream at (p ∷ orders) o =
    ap (λ t. order_shown part stream (position_after part stream at p) p ++ t) (from_push part stream (position_after part stream at p) orders o)
    ∙ sym (append_assoc (order_shown part stream (position_after part stream at p) p) (transcript_from part stream (position_after part stream at p) orders)
    (order_shown part stream (position_after part stream (fold (position_after part stream) at (p ∷ orders)) o) o))

module _ (part : PartData) (stream : List ℕ) (orders : List Order) (i : ℕ) (o d : Order) (below : i < length orders) (is : o ≡ get_or orders i d) where
  more : take (i + 1) orders ≡ take i orders ++ o ∷ []
  more = take_more orders i d below ∙ ap (λ (x : Order). take i orders ++ x ∷ []) (sym is)

  pub position_more : position_after part stream (final_position part stream (take i orders)) o ≡ final_position part stream (take (i + 1) orders)
  position_more = sym (ap (fold (position_after part stream) 0) more ∙ fold_push (position_after part stream) 0 (take i orders) o)

  pub text_more : transcript_of part stream (take i orders) ++ order_shown part stream (final_position part stream (take (i + 1) orders)) o ≡ transcript_of part stream (take (i + 1) orders)
  text_more =
      ap (λ (n : ℕ). transcript_of part stream (take i orders) ++ order_shown part stream n o) (sym position_more)
      ∙ sym (ap (transcript_of part stream) more ∙ from_push part stream 0 (take i orders) o)

-- a session that moved, and moves on
pub moves_on : (old mid new : SessionState) (n m : ℕ) (o : Order) → MovesTo old mid n → MovesTo mid new (position_after mid.part mid.stream mid.at o) → position_after old.part old.stream n o ≡ m → MovesTo old new m
moves_on old mid new n m o s f e = record {
  part = f.part ∙ s.part;
  stream = f.stream ∙ s.stream;
  at = f.at ∙ ap (λ (p : PartData). position_after p mid.stream mid.at o) s.part ∙ ap (λ (t : List ℕ). position_after old.part t mid.at o) s.stream ∙ ap (λ (k : ℕ). position_after old.part old.stream k o) s.at ∙ e;
}

-- what an order shows where a session moved to
pub shows : (old new : SessionState) (m : ℕ) (o : Order) → MovesTo old new m → order_shown new.part new.stream new.at o ≡ order_shown old.part old.stream m o
shows old new m o s =
    ap (λ (p : PartData). order_shown p new.stream new.at o) s.part
    ∙ ap (λ (t : List ℕ). order_shown old.part t new.at o) s.stream
    ∙ ap (λ (k : ℕ). order_shown old.part old.stream k o) s.at
