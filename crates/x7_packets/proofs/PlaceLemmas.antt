-- The sync word among 32 places, by vectors of their bytes.
use Rattle.std.proofs.Common.{◌≡◌, ◌==◌, ℕ, ◌+◌, ◌-◌, ◌<◌, ◌≤◌, Bool, true, false, cond, List, length, get_or, bit_and, refl, ap, sym, subst, ◌∙◌, arith, inl, inr, Option, None, Some}
use Rattle.std.proofs.lemmas.Bool.{cases_lt, eqb-true, eq-eqb}
use Rattle.std.proofs.lemmas.List.{get_or_past}
use Rattle.std.proofs.lemmas.Nat.Bits.{bit_at-zero}
use Rattle.std.specs.Int.{bit_at}
use Rattle.memchr.specs.Find.{IsFirst, NoneBefore, Nowhere, OccursAt}
use Rattle.memchr.specs.Lanes.{HasLanes}
use Rattle.x7_packets.specs.SyncWord.{sync_bytes}
use Rattle.x7_packets.proofs.SearchLemmas.{occurs_by_bytes}

-- the lane of four tests: 255 where all of them hold, else 0
abbrev lane : Bool → Bool → Bool → Bool → ℕ
lane p q r s = bit_and (bit_and (cond p 255 0) (cond q 255 0)) (bit_and (cond r 255 0) (cond s 255 0))

abbrev All : Bool → Bool → Bool → Bool → Type 0
All p q r s = (p ≡ true) × (q ≡ true) × (r ≡ true) × (s ≡ true)

top_all : (p q r s : Bool) → 128 ≤ lane p q r s → All p q r s
top_all true true true true h = (refl, refl, refl, refl)
top_all true true true false h = absurd (omega (arith, h))
top_all true true false true h = absurd (omega (arith, h))
top_all true true false false h = absurd (omega (arith, h))
top_all true false true true h = absurd (omega (arith, h))
top_all true false true false h = absurd (omega (arith, h))
top_all true false false true h = absurd (omega (arith, h))
top_all true false false false h = absurd (omega (arith, h))
top_all false true true true h = absurd (omega (arith, h))
top_all false true true false h = absurd (omega (arith, h))
top_all false true false true h = absurd (omega (arith, h))
top_all false true false false h = absurd (omega (arith, h))
top_all false false true true h = absurd (omega (arith, h))
top_all false false true false h = absurd (omega (arith, h))
top_all false false false true h = absurd (omega (arith, h))
top_all false false false false h = absurd (omega (arith, h))

all_top : (p q r s : Bool) → p ≡ true → q ≡ true → r ≡ true → s ≡ true → 128 ≤ lane p q r s
all_top p q r s a b c d = subst (λ (t : Bool). 128 ≤ lane t q r s) (sym a) (subst (λ (t : Bool). 128 ≤ lane true t r s) (sym b) (subst (λ (t : Bool). 128 ≤ lane true true t s) (sym c) (subst (λ (t : Bool). 128 ≤ lane true true true t) (sym d) (omega arith))))

-- the vector has, at lane k, whether the sync word's bytes stand from place at + k on
abbrev pub SyncLanes : List ℕ → ℕ → List ℕ → Type 0
SyncLanes bytes at v = HasLanes v (λ k. lane (get_or bytes (at + k) 0 == 0xAA) (get_or bytes (at + 1 + k) 0 == 0x99) (get_or bytes (at + 2 + k) 0 == 0x55) (get_or bytes (at + 3 + k) 0 == 0x66))

pub sync_lanes : (bytes : List ℕ) (at : ℕ) (l0 l1 l2 l3 e0 e1 e2 e3 prefix back all : List ℕ)
    → HasLanes l0 (λ k. get_or bytes (at + k) 0) → HasLanes l1 (λ k. get_or bytes (at + 1 + k) 0) → HasLanes l2 (λ k. get_or bytes (at + 2 + k) 0) → HasLanes l3 (λ k. get_or bytes (at + 3 + k) 0)
    → HasLanes e0 (λ k. cond (get_or l0 k 0 == 0xAA) 255 0) → HasLanes e1 (λ k. cond (get_or l1 k 0 == 0x99) 255 0) → HasLanes e2 (λ k. cond (get_or l2 k 0 == 0x55) 255 0) → HasLanes e3 (λ k. cond (get_or l3 k 0 == 0x66) 255 0)
    → HasLanes prefix (λ k. bit_and (get_or e0 k 0) (get_or e1 k 0)) → HasLanes back (λ k. bit_and (get_or e2 k 0) (get_or e3 k 0)) → HasLanes all (λ k. bit_and (get_or prefix k 0) (get_or back k 0))
    → SyncLanes bytes at all
sync_lanes bytes at l0 l1 l2 l3 e0 e1 e2 e3 prefix back all a0 a1 a2 a3 b0 b1 b2 b3 f g h = record {
  long = h.long;
  each = λ k l.
      let one : (x : ℕ) (e v : List ℕ) (at : ℕ) → HasLanes v (λ j. get_or bytes (at + j) 0) → HasLanes e (λ j. cond (get_or v j 0 == x) 255 0) → get_or e k 0 ≡ cond (get_or bytes (at + k) 0 == x) 255 0 =
      λ x e v at a b. b.each k l ∙ ap (λ (y : ℕ). cond (y == x) 255 0) (a.each k l) in
      h.each k l
      ∙ ap (λ (x : ℕ). bit_and x (get_or back k 0)) (f.each k l ∙ ap (λ (x : ℕ). bit_and x (get_or e1 k 0)) (one 0xAA e0 l0 at a0 b0) ∙ ap (λ (x : ℕ). bit_and (cond (get_or bytes (at + k) 0 == 0xAA) 255 0) x) (one 0x99 e1 l1 (at + 1) a1 b1))
      ∙ ap (λ (x : ℕ). bit_and (bit_and (cond (get_or bytes (at + k) 0 == 0xAA) 255 0) (cond (get_or bytes (at + 1 + k) 0 == 0x99) 255 0)) x)
      (g.each k l ∙ ap (λ (x : ℕ). bit_and x (get_or e3 k 0)) (one 0x55 e2 l2 (at + 2) a2 b2) ∙ ap (λ (x : ℕ). bit_and (cond (get_or bytes (at + 2 + k) 0 == 0x55) 255 0) x) (one 0x66 e3 l3 (at + 3) a3 b3));
}

moved : (bytes : List ℕ) (at k i x : ℕ) → (get_or bytes (at + i + k) 0 == x) ≡ true → get_or bytes (at + k + i) 0 ≡ x
moved bytes at k i x e = ap (λ (j : ℕ). get_or bytes j 0) (let same : at + k + i ≡ at + i + k = omega arith in same) ∙ eqb-true _ _ e

pub sync_there : (bytes v : List ℕ) (at k : ℕ) → at + 35 ≤ length bytes → SyncLanes bytes at v → 128 ≤ get_or v k 0 → (k < 32) × OccursAt bytes sync_bytes (at + k)
sync_there bytes v at k room s h = elim (cases_lt k 32) [
  | inl l ↦ (
      let a = top_all _ _ _ _ (subst (λ (x : ℕ). 128 ≤ x) (s.each k l) h) in
      (l, occurs_by_bytes bytes (at + k) (omega arith) (eqb-true _ _ a.0) (moved bytes at k 1 0x99 a.1) (moved bytes at k 2 0x55 a.2) (moved bytes at k 3 0x66 a.3))
      )
  | inr m ↦ (let none : get_or v k 0 ≡ 0 = get_or_past v k 0 (omega (arith, s.long, m)) in absurd (omega (arith, h, none)))
]

at_byte : (bytes : List ℕ) (at k i x : ℕ) → get_or bytes (at + k + i) 0 ≡ x → (get_or bytes (at + i + k) 0 == x) ≡ true
at_byte bytes at k i x e = eq-eqb _ _ (ap (λ (j : ℕ). get_or bytes j 0) (let same : at + i + k ≡ at + k + i = omega arith in same) ∙ e)

pub sync_seen : (bytes v : List ℕ) (at k : ℕ) → SyncLanes bytes at v → k < 32 → OccursAt bytes sync_bytes (at + k) → 128 ≤ get_or v k 0
sync_seen bytes v at k s l o =
    let first : get_or bytes (at + k) 0 ≡ 0xAA = ap (λ (j : ℕ). get_or bytes j 0) (let same : at + k ≡ at + k + 0 = omega arith in same) ∙ o.reads 0 (omega arith) in
    subst (λ (x : ℕ). 128 ≤ x) (sym (s.each k l))
    (all_top _ _ _ _ (eq-eqb _ _ first) (at_byte bytes at k 1 0x99 (o.reads 1 (omega arith))) (at_byte bytes at k 2 0x55 (o.reads 2 (omega arith))) (at_byte bytes at k 3 0x66 (o.reads 3 (omega arith))))

-- where the sync word stands, the lane of its first and its last byte is 128 or more
pub ends_seen : (bytes l0 l3 e0 e3 v : List ℕ) (at k : ℕ) → HasLanes l0 (λ k. get_or bytes (at + k) 0) → HasLanes l3 (λ k. get_or bytes (at + 3 + k) 0)
    → HasLanes e0 (λ k. cond (get_or l0 k 0 == 0xAA) 255 0) → HasLanes e3 (λ k. cond (get_or l3 k 0 == 0x66) 255 0) → HasLanes v (λ k. bit_and (get_or e0 k 0) (get_or e3 k 0))
    → k < 32 → OccursAt bytes sync_bytes (at + k) → 128 ≤ get_or v k 0
ends_seen bytes l0 l3 e0 e3 v at k a0 a3 b0 b3 h l o =
    let zero : at + k ≡ at + k + 0 = omega arith in
    let first : (get_or bytes (at + k) 0 == 0xAA) ≡ true = eq-eqb _ _ (ap (λ (j : ℕ). get_or bytes j 0) zero ∙ o.reads 0 (omega arith)) in
    let last : (get_or bytes (at + 3 + k) 0 == 0x66) ≡ true = at_byte bytes at k 3 0x66 (o.reads 3 (omega arith)) in
    let one : get_or e0 k 0 ≡ 255 = b0.each k l ∙ ap (λ (y : ℕ). cond (y == 0xAA) 255 0) (a0.each k l) ∙ ap (λ (b : Bool). cond b 255 0) first in
    let other : get_or e3 k 0 ≡ 255 = b3.each k l ∙ ap (λ (y : ℕ). cond (y == 0x66) 255 0) (a3.each k l) ∙ ap (λ (b : Bool). cond b 255 0) last in
    let all : get_or v k 0 ≡ bit_and 255 255 = h.each k l ∙ ap (λ (x : ℕ). bit_and x (get_or e3 k 0)) one ∙ ap (bit_and 255) other in
    let full : bit_and 255 255 ≡ 255 = refl in
    omega (arith, all ∙ full)

-- where no bit is set, the sync word stands at none of the places
pub none_set : (bytes : List ℕ) (at bits : ℕ) → ((k : ℕ) → k < 32 → OccursAt bytes sync_bytes (at + k) → bit_at bits k ≡ 1) → bits ≡ 0 → Nowhere (OccursAt bytes sync_bytes) at (at + 32)
none_set bytes at bits all e k low high o =
    let back : at + (k - at) ≡ k = omega (arith, low) in
    let set : bit_at bits (k - at) ≡ 1 = all (k - at) (omega (arith, low, high)) (subst (OccursAt bytes sync_bytes) (sym back) o) in
    let clear : bit_at bits (k - at) ≡ 0 = ap (λ (m : ℕ). bit_at m (k - at)) e ∙ bit_at-zero (k - at) in
    omega (arith, set, clear)

-- the lowest bit is of the first place
pub first_set : (bytes : List ℕ) (at bits bit : ℕ) → ((k : ℕ) → bit_at bits k ≡ 1 → (k < 32) × OccursAt bytes sync_bytes (at + k)) → ((k : ℕ) → k < 32 → OccursAt bytes sync_bytes (at + k) → bit_at bits k ≡ 1)
    → bit_at bits bit ≡ 1 → ((k : ℕ) → k < bit → bit_at bits k ≡ 0) → IsFirst (OccursAt bytes sync_bytes) at (at + 32) (Some (at + bit))
first_set bytes at bits bit some all set below =
    let here : (bit < 32) × OccursAt bytes sync_bytes (at + bit) = some bit set in (
      record {
        low = omega arith;
        high = omega (arith, here.0);
        before = λ k low high o.
            let back : at + (k - at) ≡ k = omega (arith, low) in
            let one : bit_at bits (k - at) ≡ 1 = all (k - at) (omega (arith, low, high, here.0)) (subst (OccursAt bytes sync_bytes) (sym back) o) in
            let none : bit_at bits (k - at) ≡ 0 = below (k - at) (omega (arith, low, high)) in
            omega (arith, one, none);
      },
      here.1,
    )

-- nowhere from one place up to another, and nowhere from there up to a third, is nowhere from the first to the third
pub nowhere_then : {P : ℕ → Type 0} (i j k : ℕ) → Nowhere P i j → Nowhere P j k → Nowhere P i k
nowhere_then i j k a b m low high = elim (cases_lt m j) [
  | inl l ↦ a m low l
  | inr g ↦ b m g high
]

-- the first place after places without it
pub found_after : (bytes : List ℕ) (from to place : ℕ) → Nowhere (OccursAt bytes sync_bytes) 0 from → NoneBefore (OccursAt bytes sync_bytes) from to place × OccursAt bytes sync_bytes place → NoneBefore (OccursAt bytes sync_bytes) 0 (length bytes + 1) place × OccursAt bytes sync_bytes place
found_after bytes from to place none found = (record { low = omega arith; high = omega (arith, found.1.fits); before = nowhere_then 0 from place none found.0.before }, found.1)

-- the last places, which may overlap others
pub last_places : (bytes : List ℕ) (from last : ℕ) (r : Option ℕ) → Nowhere (OccursAt bytes sync_bytes) 0 from → last ≤ from → last + 35 ≡ length bytes → IsFirst (OccursAt bytes sync_bytes) last (last + 32) r → IsFirst (OccursAt bytes sync_bytes) 0 (length bytes + 1) r
last_places bytes from last None none e l found = nowhere_then 0 last (length bytes + 1) (λ k low high. none k low (omega (arith, high, e)))
    (nowhere_then last (last + 32) (length bytes + 1) found (λ k low high o. omega (arith, o.fits, low, l)))
last_places bytes from last (Some place) none e l found = found_after bytes last (last + 32) place (λ k low high. none k low (omega (arith, high, e))) found
