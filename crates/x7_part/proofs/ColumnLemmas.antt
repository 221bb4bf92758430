-- What a table of columns says.
use Rattle.std.proofs.Common.{◌≡◌, ℕ, zero, suc, ◌+◌, ◌-◌, ◌^◌, ◌<◌, ◌≤◌, List, [], ◌∷◌, ◌++◌, length, get_or, Some, None, slice_get, take, drop, map, replicate, refl, sym, ap, ◌∙◌, arith, inl, inr, length-append, append_assoc, false, eqb, ne_eqb}
use Rattle.std.proofs.lemmas.Option.{none-some, slice_get_within, get_or_from_slice_get, slice_get-get_or}
use Rattle.std.proofs.Math.Seq.{drop-append-add}
use Rattle.std.proofs.lemmas.Bool.Decides.{eqb_tells}
use Rattle.std.proofs.Math.Nat.{zero-add, add-zero}
use Rattle.std.specs.List.{Contains}
use Rattle.std.specs.List.Sorted.{IsNonDecreasingBy}
use Rattle.std.proofs.lemmas.Bool.{cases_lt}
use Rattle.std.proofs.lemmas.List.{length-map, length-replicate, get_or-append_right, get_or_append_left, get_or-map, get_or-replicate, get_or_past, get_or_default, get_or-drop, length-drop}
use Rattle.std.proofs.lemmas.List.Concat.{get_or-flat_map}
use Rattle.std.proofs.lemmas.List.Elements.{Contains-append_cases}
use Rattle.x7_part.specs.declared.column.Column.{Column}
use Rattle.x7_part.specs.declared.slot.Slot.{Slot}
use Rattle.x7_part.specs.declared.slot.Slot.TheVariants.{Frame, Pad, End}
use Rattle.x7_part.specs.AddressOrder.{count_from, IsFollowedBy, IsLastIn}
use Rattle.x7_part.specs.Column.{addresses_of_column, slots_of, column_addresses, column_slots, IsTable, no_column, column}
use Rattle.x7_part.specs.Slot.{from_address}

-- ---- numbers in a row

pub length_count_from : (a n : ℕ) → length (count_from a n) ≡ n
length_count_from a zero = refl
length_count_from a (suc n) = ap suc (length_count_from (a + 1) n)

pub get_or_count_from : (a n i d : ℕ) → i < n → get_or (count_from a n) i d ≡ a + i
get_or_count_from a zero i d h = absurd (omega arith)
get_or_count_from a (suc n) zero d h = sym (add-zero a)
get_or_count_from a (suc n) (suc i) d h =
    let e : a + 1 + i ≡ a + suc i = omega arith in get_or_count_from (a + 1) n i d (omega arith) ∙ e

pub count_from_bounds : (a n x : ℕ) → Contains (count_from a n) x → (a ≤ x) × (x < a + n)
count_from_bounds a n x (k, h, e) =
    let len : length (count_from a n) ≡ n = length_count_from a n in
    let at : get_or (count_from a n) k x ≡ a + k = get_or_count_from a n k x (omega arith) in
    let s : x ≡ a + k = sym e ∙ at in
    (omega arith, omega arith)

-- ---- the order of columns

pub starts : (r s l : ℕ) (cs : List Column) → IsTable r s l cs → (j : ℕ) (d : Column) → j < length cs →
    (l ≤ (get_or cs j d).first) × (r ≤ (get_or cs j d).rank) × (s ≤ (get_or cs j d).place)
starts _ _ _ _ (no_column r s l) j d h = absurd (omega arith)
starts _ _ _ _ (column r s l c cs er es le pos top rest) zero d h = (le, omega arith, omega arith)
starts _ _ _ _ (column r s l c cs er es le pos top rest) (suc j) d h =
    let k = starts (r + c.count) (s + c.count + c.pad_count) (c.first + c.count) cs rest j d (omega arith) in
    (omega arith, omega arith, omega arith)

pub order : (r s l : ℕ) (cs : List Column) → IsTable r s l cs → (i j : ℕ) (d : Column) → i < j → j < length cs →
    ((get_or cs i d).first + (get_or cs i d).count ≤ (get_or cs j d).first)
    × ((get_or cs i d).rank + (get_or cs i d).count ≤ (get_or cs j d).rank)
    × ((get_or cs i d).place + (get_or cs i d).count + (get_or cs i d).pad_count ≤ (get_or cs j d).place)
order _ _ _ _ (no_column r s l) i j d k h = absurd (omega arith)
order _ _ _ _ (column r s l c cs er es le pos top rest) i zero d k h = absurd (omega arith)
order _ _ _ _ (column r s l c cs er es le pos top rest) zero (suc j) d k h =
    let f = starts (r + c.count) (s + c.count + c.pad_count) (c.first + c.count) cs rest j d (omega arith) in
    (omega arith, omega arith, omega arith)
order _ _ _ _ (column r s l c cs er es le pos top rest) (suc i) (suc j) d k h =
    order (r + c.count) (s + c.count + c.pad_count) (c.first + c.count) cs rest i j d (omega arith) (omega arith)

rising : (f : Column → ℕ) (cs : List Column) → ((i j : ℕ) (d : Column) → i < j → j < length cs → f (get_or cs i d) ≤ f (get_or cs j d)) → IsNonDecreasingBy f cs
rising f cs o i j d k h =
    elim (cases_lt i j) [ inl lower ↦ o i j d lower h | inr same ↦ let e : i ≡ j = omega arith in rw e (omega arith) ]

pub first_rises : (cs : List Column) → IsTable 0 0 0 cs → IsNonDecreasingBy (λ c. c.first) cs
first_rises cs t = rising (λ c. c.first) cs (λ i j d k h. let o = order 0 0 0 cs t i j d k h in omega arith)

pub rank_rises : (cs : List Column) → IsTable 0 0 0 cs → IsNonDecreasingBy (λ c. c.rank) cs
rank_rises cs t = rising (λ c. c.rank) cs (λ i j d k h. let o = order 0 0 0 cs t i j d k h in omega arith)

pub slot_rises : (cs : List Column) → IsTable 0 0 0 cs → IsNonDecreasingBy (λ c. c.place) cs
slot_rises cs t = rising (λ c. c.place) cs (λ i j d k h. let o = order 0 0 0 cs t i j d k h in omega arith)

-- ---- the numbers before a column

pub rank_is : (r s l : ℕ) (cs : List Column) → IsTable r s l cs → (i : ℕ) (d : Column) → i < length cs →
    (get_or cs i d).rank ≡ r + length (column_addresses (take i cs))
unfolding column_addresses
rank_is _ _ _ _ (no_column r s l) i d h = absurd (omega arith)
rank_is _ _ _ _ (column r s l c cs er es le pos top rest) zero d h = er ∙ sym (add-zero r)
rank_is _ _ _ _ (column r s l c cs er es le pos top rest) (suc i) d h =
    let ih : (get_or cs i d).rank ≡ r + c.count + length (column_addresses (take i cs)) =
    rank_is (r + c.count) (s + c.count + c.pad_count) (c.first + c.count) cs rest i d (omega arith) in
    let len : length (count_from c.first c.count ++ column_addresses (take i cs)) ≡ c.count + length (column_addresses (take i cs)) =
    length-append (count_from c.first c.count) (column_addresses (take i cs)) ∙ ap (λ x. x + length (column_addresses (take i cs))) (length_count_from c.first c.count) in
    omega arith

pub slots_length : (c : Column) → length (slots_of c) ≡ c.count + c.pad_count
slots_length c =
    length-append (map Frame (addresses_of_column c)) (replicate c.pad_count Pad)
    ∙ rw (length-map (addresses_of_column c) Frame, length_count_from c.first c.count, length-replicate c.pad_count Pad) refl

pub slot_is : (r s l : ℕ) (cs : List Column) → IsTable r s l cs → (i : ℕ) (d : Column) → i < length cs →
    (get_or cs i d).place ≡ s + length (column_slots (take i cs))
unfolding column_slots
slot_is _ _ _ _ (no_column r s l) i d h = absurd (omega arith)
slot_is _ _ _ _ (column r s l c cs er es le pos top rest) zero d h = es ∙ sym (add-zero s)
slot_is _ _ _ _ (column r s l c cs er es le pos top rest) (suc i) d h =
    let ih : (get_or cs i d).place ≡ s + c.count + c.pad_count + length (column_slots (take i cs)) =
    slot_is (r + c.count) (s + c.count + c.pad_count) (c.first + c.count) cs rest i d (omega arith) in
    let len : length (slots_of c ++ column_slots (take i cs)) ≡ c.count + c.pad_count + length (column_slots (take i cs)) =
    length-append (slots_of c) (column_slots (take i cs)) ∙ ap (λ x. x + length (column_slots (take i cs))) (slots_length c) in
    omega arith

-- ---- a column's addresses

pub address_at : (cs : List Column) → IsTable 0 0 0 cs → (i j : ℕ) (d : Column) → i < length cs → j < (get_or cs i d).count →
    get_or (column_addresses cs) ((get_or cs i d).rank + j) 0 ≡ (get_or cs i d).first + j
unfolding column_addresses
address_at cs t i j d h k =
    let c = get_or cs i d in
    let e : c.rank ≡ length (column_addresses (take i cs)) = rank_is 0 0 0 cs t i d h ∙ zero-add (length (column_addresses (take i cs))) in
    let len : length (count_from c.first c.count) ≡ c.count = length_count_from c.first c.count in
    rw e (get_or-flat_map addresses_of_column cs i j d 0 h (omega arith) ∙ get_or_count_from c.first c.count j 0 k)

-- a column's addresses end no later than all addresses
pub ends : (r s l : ℕ) (cs : List Column) → IsTable r s l cs → (i : ℕ) (d : Column) → i < length cs →
    (get_or cs i d).rank + (get_or cs i d).count ≤ r + length (column_addresses cs)
unfolding column_addresses
ends _ _ _ _ (no_column r s l) i d h = absurd (omega arith)
ends _ _ _ _ (column r s l c cs er es le pos top rest) zero d h =
    let len : length (count_from c.first c.count ++ column_addresses cs) ≡ c.count + length (column_addresses cs) =
    length-append (count_from c.first c.count) (column_addresses cs) ∙ ap (λ x. x + length (column_addresses cs)) (length_count_from c.first c.count) in
    omega arith
ends _ _ _ _ (column r s l c cs er es le pos top rest) (suc i) d h =
    let ih : (get_or cs i d).rank + (get_or cs i d).count ≤ r + c.count + length (column_addresses cs) =
    ends (r + c.count) (s + c.count + c.pad_count) (c.first + c.count) cs rest i d (omega arith) in
    let len : length (count_from c.first c.count ++ column_addresses cs) ≡ c.count + length (column_addresses cs) =
    length-append (count_from c.first c.count) (column_addresses cs) ∙ ap (λ x. x + length (column_addresses cs)) (length_count_from c.first c.count) in
    omega arith

-- what lies in no column is no address
pub lies_nowhere : (cs : List Column) (x : ℕ) →
    ((i : ℕ) (d : Column) → i < length cs → (get_or cs i d).first ≤ x → x < (get_or cs i d).first + (get_or cs i d).count → ⊥) →
    Contains (column_addresses cs) x → ⊥
unfolding column_addresses
lies_nowhere [] x h (k, low, e) = omega arith
lies_nowhere (c ∷ cs) x h in' =
    elim (Contains-append_cases (addresses_of_column c) (column_addresses cs) x in') [
      | inl here ↦ let b = count_from_bounds c.first c.count x here in h 0 c (omega arith) b.0 b.1
      | inr later ↦ lies_nowhere cs x (λ i d low. h (suc i) d (omega arith)) later
    ]

-- where the last of the columns that begin at or before x ends at or before x, no column has x
pub past_column : (cs : List Column) (x n : ℕ) → IsTable 0 0 0 cs → n ≤ length cs →
    ((k : ℕ) (d : Column) → n ≤ k → k < length cs → x < (get_or cs k d).first) →
    ((k : ℕ) (d : Column) → k + 1 ≡ n → (get_or cs k d).first + (get_or cs k d).count ≤ x) →
    Contains (column_addresses cs) x → ⊥
past_column cs x n t le after last in' =
    lies_nowhere cs x (λ i d h low high.
    elim (cases_lt i n) [
      | inl before ↦ elim (cases_lt (i + 1) n) [
        | inl further ↦ let o = order 0 0 0 cs t i (n - 1) d (omega arith) (omega arith) in
            let z : (get_or cs (n - 1) d).first + (get_or cs (n - 1) d).count ≤ x = last (n - 1) d (omega arith) in omega arith
        | inr same ↦ let z : (get_or cs i d).first + (get_or cs i d).count ≤ x = last i d (omega arith) in omega arith
      ]
      | inr later ↦ let z : x < (get_or cs i d).first = after i d later h in omega arith
    ]) in'

-- the addresses end with those of the last column
pub ends_last : (r s l : ℕ) (cs : List Column) → IsTable r s l cs → (i : ℕ) (d : Column) → i + 1 ≡ length cs →
    r + length (column_addresses cs) ≡ (get_or cs i d).rank + (get_or cs i d).count
unfolding column_addresses
ends_last _ _ _ _ (no_column r s l) i d h = absurd (omega arith)
ends_last _ _ _ _ (column r s l c [] er es le pos top rest) zero d h =
    let len : length (count_from c.first c.count ++ []) ≡ c.count + 0 =
    length-append (count_from c.first c.count) [] ∙ ap (λ x. x + 0) (length_count_from c.first c.count) in omega arith
ends_last _ _ _ _ (column r s l c (b ∷ cs) er es le pos top rest) zero d h = absurd (omega arith)
ends_last _ _ _ _ (column r s l c cs er es le pos top rest) (suc i) d h =
    let ih : r + c.count + length (column_addresses cs) ≡ (get_or cs i d).rank + (get_or cs i d).count =
    ends_last (r + c.count) (s + c.count + c.pad_count) (c.first + c.count) cs rest i d (omega arith) in
    let len : length (count_from c.first c.count ++ column_addresses cs) ≡ c.count + length (column_addresses cs) =
    length-append (count_from c.first c.count) (column_addresses cs) ∙ ap (λ x. x + length (column_addresses cs)) (length_count_from c.first c.count) in
    omega arith

pub next_rank : (r s l : ℕ) (cs : List Column) → IsTable r s l cs → (i : ℕ) (d : Column) → i + 1 < length cs →
    ((get_or cs (i + 1) d).rank ≡ (get_or cs i d).rank + (get_or cs i d).count)
    × ((get_or cs (i + 1) d).place ≡ (get_or cs i d).place + (get_or cs i d).count + (get_or cs i d).pad_count)
next_rank _ _ _ _ (no_column r s l) i d h = absurd (omega arith)
next_rank _ _ _ _ (column r s l c _ er es le pos top (no_column r' s' l')) i d h = absurd (omega arith)
next_rank _ _ _ _ (column r s l c _ er es le pos top (column r' s' l' b cs er' es' le' pos' top' rest)) zero d h = (omega arith, omega arith)
next_rank _ _ _ _ (column r s l c cs er es le pos top rest) (suc i) d h =
    let e : suc i + 1 ≡ suc (i + 1) = omega arith in
    rw e (next_rank (r + c.count) (s + c.count + c.pad_count) (c.first + c.count) cs rest i d (omega arith))

pub bounded : (r s l : ℕ) (cs : List Column) → IsTable r s l cs → (i : ℕ) (d : Column) → i < length cs → (get_or cs i d).first + (get_or cs i d).count ≤ 2 ^ 32
bounded _ _ _ _ (no_column r s l) i d h = absurd (omega arith)
bounded _ _ _ _ (column r s l c cs er es le pos top rest) zero d h = top
bounded _ _ _ _ (column r s l c cs er es le pos top rest) (suc i) d h =
    bounded (r + c.count) (s + c.count + c.pad_count) (c.first + c.count) cs rest i d (omega arith)

pub filled : (r s l : ℕ) (cs : List Column) → IsTable r s l cs → (i : ℕ) (d : Column) → i < length cs → 0 < (get_or cs i d).count
filled _ _ _ _ (no_column r s l) i d h = absurd (omega arith)
filled _ _ _ _ (column r s l c cs er es le pos top rest) zero d h = pos
filled _ _ _ _ (column r s l c cs er es le pos top rest) (suc i) d h =
    filled (r + c.count) (s + c.count + c.pad_count) (c.first + c.count) cs rest i d (omega arith)

pub rank_found : (cs : List Column) → IsTable 0 0 0 cs → (i x : ℕ) (d : Column) → i < length cs →
    (get_or cs i d).first ≤ x → x < (get_or cs i d).first + (get_or cs i d).count →
    ((get_or cs i d).rank + (x - (get_or cs i d).first) < length (column_addresses cs))
    × (get_or (column_addresses cs) ((get_or cs i d).rank + (x - (get_or cs i d).first)) 0 ≡ x)
rank_found cs t i x d h low high =
    let e : (get_or cs i d).rank + (get_or cs i d).count ≤ 0 + length (column_addresses cs) = ends 0 0 0 cs t i d h in
    let a : get_or (column_addresses cs) ((get_or cs i d).rank + (x - (get_or cs i d).first)) 0 ≡ (get_or cs i d).first + (x - (get_or cs i d).first) =
    address_at cs t i (x - (get_or cs i d).first) d h (omega arith) in
    (omega arith, omega arith)

pub address_found : (cs : List Column) → IsTable 0 0 0 cs → (i r : ℕ) (d : Column) → i < length cs →
    (get_or cs i d).rank ≤ r → r - (get_or cs i d).rank < (get_or cs i d).count →
    (r < length (column_addresses cs)) × (get_or (column_addresses cs) r 0 ≡ (get_or cs i d).first + (r - (get_or cs i d).rank))
address_found cs t i r d h low high =
    let e : (get_or cs i d).rank + (get_or cs i d).count ≤ 0 + length (column_addresses cs) = ends 0 0 0 cs t i d h in
    let z : (get_or cs i d).rank + (r - (get_or cs i d).rank) ≡ r = omega arith in
    let a : get_or (column_addresses cs) ((get_or cs i d).rank + (r - (get_or cs i d).rank)) 0 ≡ (get_or cs i d).first + (r - (get_or cs i d).rank) =
    address_at cs t i (r - (get_or cs i d).rank) d h high in
    (omega arith, ap (λ x. get_or (column_addresses cs) x 0) (sym z) ∙ a)

nothing_there : (cs : List Column) → length cs ≡ 0 → length (column_addresses cs) ≡ 0
unfolding column_addresses
nothing_there [] h = refl
nothing_there (c ∷ cs) h = absurd (omega arith)

pub address_missing : (cs : List Column) → IsTable 0 0 0 cs → (n r : ℕ) (d : Column) → n ≤ length cs →
    ((k : ℕ) (d : Column) → n ≤ k → k < length cs → r < (get_or cs k d).rank) →
    ((k : ℕ) → k + 1 ≡ n → (get_or cs k d).rank + (get_or cs k d).count ≤ r) → length (column_addresses cs) ≤ r
address_missing cs t zero r d le after last =
    elim (cases_lt 0 (length cs)) [
      | inl some ↦ let f = starts 0 0 0 cs t 0 d some in
          let a : r < (get_or cs 0 d).rank = after 0 d (omega arith) some in
          let b : (get_or cs 0 d).rank ≡ 0 + length (column_addresses (take 0 cs)) = rank_is 0 0 0 cs t 0 d some in
          let z : length (column_addresses (take 0 cs)) ≡ 0 = nothing_there (take 0 cs) refl in absurd (omega arith)
      | inr none ↦ let z : length (column_addresses cs) ≡ 0 = nothing_there cs (omega arith) in omega arith
    ]
address_missing cs t (suc n) r d le after last =
    let l : (get_or cs n d).rank + (get_or cs n d).count ≤ r = last n (omega arith) in
    elim (cases_lt (n + 1) (length cs)) [
      | inl more ↦ let b = next_rank 0 0 0 cs t n d more in
          let a : r < (get_or cs (n + 1) d).rank = after (n + 1) d (omega arith) more in absurd (omega arith)
      | inr end ↦ let e : 0 + length (column_addresses cs) ≡ (get_or cs n d).rank + (get_or cs n d).count = ends_last 0 0 0 cs t n d (omega arith) in omega arith
    ]

-- ---- a column's slots

slot_in : (cs : List Column) → IsTable 0 0 0 cs → (i j : ℕ) (d : Column) → i < length cs → j < (get_or cs i d).count + (get_or cs i d).pad_count →
    get_or (column_slots cs) ((get_or cs i d).place + j) End ≡ get_or (slots_of (get_or cs i d)) j End
unfolding column_slots
slot_in cs t i j d h k =
    let c = get_or cs i d in
    let e : c.place ≡ length (column_slots (take i cs)) = slot_is 0 0 0 cs t i d h ∙ zero-add (length (column_slots (take i cs))) in
    let len : length (slots_of c) ≡ c.count + c.pad_count = slots_length c in
    rw e (get_or-flat_map slots_of cs i j d End h (omega arith))

frame_in : (c : Column) (j : ℕ) → j < c.count → get_or (slots_of c) j End ≡ Frame (c.first + j)
frame_in c j h =
    let len : length (addresses_of_column c) ≡ c.count = length_count_from c.first c.count in
    let mlen : length (map Frame (addresses_of_column c)) ≡ c.count = length-map (addresses_of_column c) Frame ∙ len in
    get_or_append_left (map Frame (addresses_of_column c)) (replicate c.pad_count Pad) End j (omega arith)
    ∙ get_or-map Frame (addresses_of_column c) j 0 End (omega arith) ∙ ap (λ (x : ℕ). Frame x) (get_or_count_from c.first c.count j 0 h)

pad_in : (c : Column) (j : ℕ) → c.count ≤ j → j < c.count + c.pad_count → get_or (slots_of c) j End ≡ Pad
pad_in c j h k =
    let mlen : length (map Frame (addresses_of_column c)) ≡ c.count = length-map (addresses_of_column c) Frame ∙ length_count_from c.first c.count in
    get_or-append_right (map Frame (addresses_of_column c)) (replicate c.pad_count Pad) c.count j End mlen h
    ∙ get_or-replicate c.pad_count (j - c.count) Pad End (omega arith)

pub slot_frame : (cs : List Column) → IsTable 0 0 0 cs → (i p : ℕ) (d : Column) → i < length cs →
    (get_or cs i d).place ≤ p → p - (get_or cs i d).place < (get_or cs i d).count →
    Frame ((get_or cs i d).first + (p - (get_or cs i d).place)) ≡ get_or (column_slots cs) p End
slot_frame cs t i p d h low high =
    let c = get_or cs i d in
    let z : c.place + (p - c.place) ≡ p = omega arith in
    sym (ap (λ x. get_or (column_slots cs) x End) (sym z) ∙ slot_in cs t i (p - c.place) d h (omega arith) ∙ frame_in c (p - c.place) high)

pub slot_pad : (cs : List Column) → IsTable 0 0 0 cs → (i p : ℕ) (d : Column) → i < length cs →
    (get_or cs i d).place ≤ p → (get_or cs i d).count ≤ p - (get_or cs i d).place → p - (get_or cs i d).place < (get_or cs i d).count + (get_or cs i d).pad_count →
    Pad ≡ get_or (column_slots cs) p End
slot_pad cs t i p d h low past high =
    let c = get_or cs i d in
    let z : c.place + (p - c.place) ≡ p = omega arith in
    sym (ap (λ x. get_or (column_slots cs) x End) (sym z) ∙ slot_in cs t i (p - c.place) d h high ∙ pad_in c (p - c.place) past high)

-- the slot of a column's frame has the frame at the address of that rank
pub slot_rank : (cs : List Column) → IsTable 0 0 0 cs → (i p : ℕ) (d : Column) → i < length cs →
    (get_or cs i d).place ≤ p → p - (get_or cs i d).place < (get_or cs i d).count →
    ((get_or cs i d).rank + (p - (get_or cs i d).place) < length (column_addresses cs))
    × (get_or (column_slots cs) p End ≡ Frame (get_or (column_addresses cs) ((get_or cs i d).rank + (p - (get_or cs i d).place)) 0))
slot_rank cs t i p d h low high =
    let e : (get_or cs i d).rank + (get_or cs i d).count ≤ 0 + length (column_addresses cs) = ends 0 0 0 cs t i d h in
    let a : get_or (column_addresses cs) ((get_or cs i d).rank + (p - (get_or cs i d).place)) 0 ≡ (get_or cs i d).first + (p - (get_or cs i d).place) =
    address_at cs t i (p - (get_or cs i d).place) d h high in
    (omega arith, sym (slot_frame cs t i p d h low high) ∙ ap (λ (x : ℕ). Frame x) (sym a))

-- what stands for a column where a list has none at a place
abbrev pub nothing : Column
nothing = record { first = 0; count = 0; pad_count = 0; rank = 0; place = 0 }

pub past_last : (cs : List Column) (x n : ℕ) → IsTable 0 0 0 cs → n ≤ length cs → (n ≡ 0 → ⊥) →
    ((k : ℕ) (d : Column) → k < n → (get_or cs k d).first ≤ x) →
    ((k : ℕ) (d : Column) → n ≤ k → k < length cs → x < (get_or cs k d).first) →
    (get_or cs (n - 1) nothing).count ≤ x - (get_or cs (n - 1) nothing).first →
    Contains (column_addresses cs) x → ⊥
past_last cs x n t le some before after last =
    past_column cs x n t le after (λ k d e.
    let same : k ≡ n - 1 = omega arith in
    let b : (get_or cs (n - 1) nothing).first ≤ x = before (n - 1) nothing (omega arith) in
    rw (same, get_or_default cs (n - 1) d nothing (omega arith)) (omega arith))

pub missing_last : (cs : List Column) (r n : ℕ) → IsTable 0 0 0 cs → n ≤ length cs → (n ≡ 0 → ⊥) →
    ((k : ℕ) (d : Column) → k < n → (get_or cs k d).rank ≤ r) →
    ((k : ℕ) (d : Column) → n ≤ k → k < length cs → r < (get_or cs k d).rank) →
    (get_or cs (n - 1) nothing).count ≤ r - (get_or cs (n - 1) nothing).rank → length (column_addresses cs) ≤ r
missing_last cs r n t le some before after last =
    address_missing cs t n r nothing le after (λ k e.
    let same : k ≡ n - 1 = omega arith in
    let b : (get_or cs (n - 1) nothing).rank ≤ r = before (n - 1) nothing (omega arith) in
    rw same (omega arith))

pub slots_end : (r s l : ℕ) (cs : List Column) → IsTable r s l cs → (i : ℕ) (d : Column) → i + 1 ≡ length cs →
    s + length (column_slots cs) ≡ (get_or cs i d).place + (get_or cs i d).count + (get_or cs i d).pad_count
unfolding column_slots
slots_end _ _ _ _ (no_column r s l) i d h = absurd (omega arith)
slots_end _ _ _ _ (column r s l c [] er es le pos top rest) zero d h =
    let len : length (slots_of c ++ []) ≡ c.count + c.pad_count + 0 =
    length-append (slots_of c) [] ∙ ap (λ x. x + 0) (slots_length c) in omega arith
slots_end _ _ _ _ (column r s l c (b ∷ cs) er es le pos top rest) zero d h = absurd (omega arith)
slots_end _ _ _ _ (column r s l c cs er es le pos top rest) (suc i) d h =
    let ih : s + c.count + c.pad_count + length (column_slots cs) ≡ (get_or cs i d).place + (get_or cs i d).count + (get_or cs i d).pad_count =
    slots_end (r + c.count) (s + c.count + c.pad_count) (c.first + c.count) cs rest i d (omega arith) in
    let len : length (slots_of c ++ column_slots cs) ≡ c.count + c.pad_count + length (column_slots cs) =
    length-append (slots_of c) (column_slots cs) ∙ ap (λ x. x + length (column_slots cs)) (slots_length c) in
    omega arith

no_slot : (cs : List Column) → length cs ≡ 0 → length (column_slots cs) ≡ 0
unfolding column_slots
no_slot [] h = refl
no_slot (c ∷ cs) h = absurd (omega arith)

pub slot_missing : (cs : List Column) → IsTable 0 0 0 cs → (n r : ℕ) (d : Column) → n ≤ length cs →
    ((k : ℕ) (d : Column) → n ≤ k → k < length cs → r < (get_or cs k d).place) →
    ((k : ℕ) → k + 1 ≡ n → (get_or cs k d).place + (get_or cs k d).count + (get_or cs k d).pad_count ≤ r) → length (column_slots cs) ≤ r
slot_missing cs t zero r d le after last =
    elim (cases_lt 0 (length cs)) [
      | inl some ↦ let f = starts 0 0 0 cs t 0 d some in
          let a : r < (get_or cs 0 d).place = after 0 d (omega arith) some in
          let b : (get_or cs 0 d).place ≡ 0 + length (column_slots (take 0 cs)) = slot_is 0 0 0 cs t 0 d some in
          let z : length (column_slots (take 0 cs)) ≡ 0 = no_slot (take 0 cs) refl in absurd (omega arith)
      | inr none ↦ let z : length (column_slots cs) ≡ 0 = no_slot cs (omega arith) in omega arith
    ]
slot_missing cs t (suc n) r d le after last =
    let l : (get_or cs n d).place + (get_or cs n d).count + (get_or cs n d).pad_count ≤ r = last n (omega arith) in
    elim (cases_lt (n + 1) (length cs)) [
      | inl more ↦ let b = next_rank 0 0 0 cs t n d more in
          let a : r < (get_or cs (n + 1) d).place = after (n + 1) d (omega arith) more in absurd (omega arith)
      | inr end ↦ let e : 0 + length (column_slots cs) ≡ (get_or cs n d).place + (get_or cs n d).count + (get_or cs n d).pad_count = slots_end 0 0 0 cs t n d (omega arith) in omega arith
    ]

pub missing_slot : (cs : List Column) (r n : ℕ) → IsTable 0 0 0 cs → n ≤ length cs → (n ≡ 0 → ⊥) →
    ((k : ℕ) (d : Column) → k < n → (get_or cs k d).place ≤ r) →
    ((k : ℕ) (d : Column) → n ≤ k → k < length cs → r < (get_or cs k d).place) →
    (get_or cs (n - 1) nothing).count + (get_or cs (n - 1) nothing).pad_count ≤ r - (get_or cs (n - 1) nothing).place → End ≡ get_or (column_slots cs) r End
missing_slot cs r n t le some before after last =
    let past : length (column_slots cs) ≤ r = slot_missing cs t n r nothing le after (λ k e.
    let same : k ≡ n - 1 = omega arith in
    let b : (get_or cs (n - 1) nothing).place ≤ r = before (n - 1) nothing (omega arith) in
    rw same (omega arith)) in
    sym (get_or_past (column_slots cs) r End past)

-- a slot at or after a column's place that has none of the column's frames is past these
pub past_frames : (place count n : ℕ) → place ≤ n → ((place ≤ n) × (n < place + count) → ⊥) → count ≤ n - place
past_frames place count n low out =
    elim (cases_lt n (place + count)) [
      | inl inside ↦ absurd (out (low, inside))
      | inr past ↦ omega arith
    ]

-- no frame stands at slot r where the last of the columns that begin at or before r has its frames before r
pub no_frame : (cs : List Column) (r n far : ℕ) → IsTable 0 0 0 cs → n ≤ length cs → (n ≡ 0 → ⊥) →
    ((k : ℕ) (d : Column) → k < n → (get_or cs k d).place ≤ r) →
    ((k : ℕ) (d : Column) → n ≤ k → k < length cs → r < (get_or cs k d).place) →
    (get_or cs (n - 1) nothing).count ≤ r - (get_or cs (n - 1) nothing).place → get_or (column_slots cs) r End ≡ Frame far → ⊥
no_frame cs r n far t le some before after past e =
    let low : (get_or cs (n - 1) nothing).place ≤ r = before (n - 1) nothing (omega arith) in
    elim (cases_lt (r - (get_or cs (n - 1) nothing).place) ((get_or cs (n - 1) nothing).count + (get_or cs (n - 1) nothing).pad_count)) [
      | inl pad ↦ let p : Pad ≡ get_or (column_slots cs) r End = slot_pad cs t (n - 1) r nothing (omega arith) low past pad in absurd (cc (p, e))
      | inr end ↦ let p : End ≡ get_or (column_slots cs) r End = missing_slot cs r n t le some before after end in absurd (cc (p, e))
    ]

-- ---- the slots from an address

skip_pads : (far n : ℕ) (rest : List Slot) → from_address far (replicate n Pad ++ rest) ≡ from_address far rest
skip_pads far zero rest = refl
skip_pads far (suc n) rest = skip_pads far n rest

skip_frames : (far a n : ℕ) (rest : List Slot) → a + n ≤ far → from_address far (map Frame (count_from a n) ++ rest) ≡ from_address far rest
skip_frames far a zero rest h = refl
skip_frames far a (suc n) rest h =
    let e : eqb a far ≡ false = ne_eqb a far (λ same. omega arith) in
    rw e (skip_frames far (a + 1) n rest (omega arith))

stop_here : (far a n : ℕ) (rest : List Slot) → a ≤ far → far < a + n →
    from_address far (map Frame (count_from a n) ++ rest) ≡ drop (far - a) (map Frame (count_from a n) ++ rest)
stop_here far a zero rest h k = absurd (omega arith)
stop_here far a (suc n) rest h k =
    elim (eqb_tells a far) [
      | inl e ↦ let z : far - a ≡ 0 = let q = e.1 in omega arith in rw (e.0, z) refl
      | inr e ↦ let m : a < far = let q = e.1 in omega arith in
          let z : far - a ≡ suc (far - (a + 1)) = omega arith in
          rw (e.0, z) (stop_here far (a + 1) n rest (omega arith) (omega arith))
    ]

pub from_at : (r s l : ℕ) (cs : List Column) → IsTable r s l cs → (i far : ℕ) (d : Column) → i < length cs →
    (get_or cs i d).first ≤ far → far < (get_or cs i d).first + (get_or cs i d).count →
    from_address far (column_slots cs) ≡ drop ((get_or cs i d).place + (far - (get_or cs i d).first) - s) (column_slots cs)
unfolding column_slots
from_at _ _ _ _ (no_column r s l) i far d h low high = absurd (omega arith)
from_at _ _ _ _ (column r s l c cs er es le pos top rest) zero far d h low high =
    let z : c.place + (far - c.first) - s ≡ far - c.first = omega arith in
    rw (z, append_assoc (map Frame (addresses_of_column c)) (replicate c.pad_count Pad) (column_slots cs))
    (stop_here far c.first c.count (replicate c.pad_count Pad ++ column_slots cs) low high)
from_at _ _ _ _ (column r s l c cs er es le pos top rest) (suc i) far d h low high =
    let f = starts (r + c.count) (s + c.count + c.pad_count) (c.first + c.count) cs rest i d (omega arith) in
    let x = get_or cs i d in
    let len : length (slots_of c) ≡ c.count + c.pad_count = slots_length c in
    let z : x.place + (far - x.first) - s ≡ length (slots_of c) + (x.place + (far - x.first) - (s + c.count + c.pad_count)) = omega arith in
    let ih : from_address far (column_slots cs) ≡ drop (x.place + (far - x.first) - (s + c.count + c.pad_count)) (column_slots cs) =
    from_at (r + c.count) (s + c.count + c.pad_count) (c.first + c.count) cs rest i far d (omega arith) low high in
    let l : from_address far (slots_of c ++ column_slots cs) ≡ from_address far (column_slots cs) =
    ap (from_address far) (append_assoc (map Frame (addresses_of_column c)) (replicate c.pad_count Pad) (column_slots cs))
    ∙ skip_frames far c.first c.count (replicate c.pad_count Pad ++ column_slots cs) (omega arith) ∙ skip_pads far c.pad_count (column_slots cs) in
    l ∙ ih ∙ sym (ap (λ n. drop n (slots_of c ++ column_slots cs)) z ∙ drop-append-add (slots_of c) (column_slots cs) (x.place + (far - x.first) - (s + c.count + c.pad_count)))

pub first_slot : (cs : List Column) (r : ℕ) → IsTable 0 0 0 cs → ((k : ℕ) (d : Column) → k < length cs → r < (get_or cs k d).place) → End ≡ get_or (column_slots cs) r End
first_slot cs r t after =
    let past : length (column_slots cs) ≤ r = slot_missing cs t 0 r nothing (omega arith) (λ k d low high. after k d high) (λ k e. absurd (omega arith)) in
    sym (get_or_past (column_slots cs) r End past)

pub no_frame_first : (cs : List Column) (r far : ℕ) → IsTable 0 0 0 cs → ((k : ℕ) (d : Column) → k < length cs → r < (get_or cs k d).place) →
    get_or (column_slots cs) r End ≡ Frame far → ⊥
no_frame_first cs r far t after e = let p : End ≡ get_or (column_slots cs) r End = first_slot cs r t after in absurd (cc (p, e))

-- ---- the next address

pub next_inside : (cs : List Column) → IsTable 0 0 0 cs → (i x : ℕ) (d : Column) → i < length cs →
    (get_or cs i d).first ≤ x → x + 1 < (get_or cs i d).first + (get_or cs i d).count → IsFollowedBy (column_addresses cs) x (x + 1)
next_inside cs t i x d h low high =
    let a = rank_found cs t i x d h low (omega arith) in
    let b = rank_found cs t i (x + 1) d h (omega arith) high in
    let r = (get_or cs i d).rank + (x - (get_or cs i d).first) in
    let e : (get_or cs i d).rank + (x + 1 - (get_or cs i d).first) ≡ r + 1 = omega arith in
    let b' : (r + 1 < length (column_addresses cs)) × (get_or (column_addresses cs) (r + 1) 0 ≡ x + 1) = rw e at b in
    (r, b'.0, a.1, b'.1)

pub next_column : (cs : List Column) → IsTable 0 0 0 cs → (i x : ℕ) (d : Column) → i + 1 < length cs →
    (get_or cs i d).first ≤ x → x + 1 ≡ (get_or cs i d).first + (get_or cs i d).count → IsFollowedBy (column_addresses cs) x (get_or cs (i + 1) d).first
next_column cs t i x d h low last =
    let a = rank_found cs t i x d (omega arith) low (omega arith) in
    let r = (get_or cs i d).rank + (x - (get_or cs i d).first) in
    let n = next_rank 0 0 0 cs t i d h in
    let p : 0 < (get_or cs (i + 1) d).count = filled 0 0 0 cs t (i + 1) d h in
    let b = rank_found cs t (i + 1) (get_or cs (i + 1) d).first d h (omega arith) (omega arith) in
    let e : (get_or cs (i + 1) d).rank + ((get_or cs (i + 1) d).first - (get_or cs (i + 1) d).first) ≡ r + 1 = omega arith in
    let b' : (r + 1 < length (column_addresses cs)) × (get_or (column_addresses cs) (r + 1) 0 ≡ (get_or cs (i + 1) d).first) = rw e at b in
    (r, b'.0, a.1, b'.1)

pub next_none : (cs : List Column) → IsTable 0 0 0 cs → (i x : ℕ) (d : Column) → i + 1 ≡ length cs →
    (get_or cs i d).first ≤ x → x + 1 ≡ (get_or cs i d).first + (get_or cs i d).count → IsLastIn (column_addresses cs) x
next_none cs t i x d h low last =
    let a = rank_found cs t i x d (omega arith) low (omega arith) in
    let e : 0 + length (column_addresses cs) ≡ (get_or cs i d).rank + (get_or cs i d).count = ends_last 0 0 0 cs t i d h in
    ((get_or cs i d).rank + (x - (get_or cs i d).first), omega arith, a.1)

pub slot_after_is : (cs : List Column) → IsTable 0 0 0 cs → (i far n : ℕ) (d : Column) → i < length cs →
    (get_or cs i d).first ≤ far → far < (get_or cs i d).first + (get_or cs i d).count →
    get_or (column_slots cs) ((get_or cs i d).place + (far - (get_or cs i d).first) + n) End ≡ get_or (from_address far (column_slots cs)) n End
slot_after_is cs t i far n d h low high =
    rw (from_at 0 0 0 cs t i far d h low high)
    (sym (get_or-drop ((get_or cs i d).place + (far - (get_or cs i d).first) - 0) (column_slots cs) n End
    ∙ ap (λ x. get_or (column_slots cs) (x + n) End) (let e : (get_or cs i d).place + (far - (get_or cs i d).first) - 0 ≡ (get_or cs i d).place + (far - (get_or cs i d).first) = omega arith in e)))

pub slots_from_is : (cs : List Column) → IsTable 0 0 0 cs → (i far : ℕ) (d : Column) → i < length cs →
    (get_or cs i d).first ≤ far → far < (get_or cs i d).first + (get_or cs i d).count →
    length (column_slots cs) - ((get_or cs i d).place + (far - (get_or cs i d).first)) ≡ length (from_address far (column_slots cs))
slots_from_is cs t i far d h low high =
    rw (from_at 0 0 0 cs t i far d h low high)
    (sym (length-drop ((get_or cs i d).place + (far - (get_or cs i d).first) - 0) (column_slots cs)
    ∙ ap (λ x. length (column_slots cs) - x) (let e : (get_or cs i d).place + (far - (get_or cs i d).first) - 0 ≡ (get_or cs i d).place + (far - (get_or cs i d).first) = omega arith in e)))

-- a column's slots end no later than all slots
pub slot_ends : (r s l : ℕ) (cs : List Column) → IsTable r s l cs → (i : ℕ) (d : Column) → i < length cs →
    (get_or cs i d).place + (get_or cs i d).count + (get_or cs i d).pad_count ≤ s + length (column_slots cs)
unfolding column_slots
slot_ends _ _ _ _ (no_column r s l) i d h = absurd (omega arith)
slot_ends _ _ _ _ (column r s l c cs er es le pos top rest) zero d h =
    let len : length (slots_of c ++ column_slots cs) ≡ c.count + c.pad_count + length (column_slots cs) =
    length-append (slots_of c) (column_slots cs) ∙ ap (λ x. x + length (column_slots cs)) (slots_length c) in
    omega arith
slot_ends _ _ _ _ (column r s l c cs er es le pos top rest) (suc i) d h =
    let ih : (get_or cs i d).place + (get_or cs i d).count + (get_or cs i d).pad_count ≤ s + c.count + c.pad_count + length (column_slots cs) =
    slot_ends (r + c.count) (s + c.count + c.pad_count) (c.first + c.count) cs rest i d (omega arith) in
    let len : length (slots_of c ++ column_slots cs) ≡ c.count + c.pad_count + length (column_slots cs) =
    length-append (slots_of c) (column_slots cs) ∙ ap (λ x. x + length (column_slots cs)) (slots_length c) in
    omega arith

-- ---- the last column

pub last_rank : (cs : List Column) (c : Column) → IsTable 0 0 0 cs → Some c ≡ slice_get cs (length cs - 1) → c.rank + c.count ≡ length (column_addresses cs)
last_rank cs c t e =
    let h : length cs - 1 < length cs = slice_get_within cs (length cs - 1) c (sym e) in
    let i : length cs - 1 + 1 ≡ length cs = omega arith in
    let g : get_or cs (length cs - 1) nothing ≡ c = get_or_from_slice_get cs (length cs - 1) c nothing (sym e) in
    let l = ends_last 0 0 0 cs t (length cs - 1) nothing i in
    rw (← g) (sym l ∙ zero-add (length (column_addresses cs)))

pub last_slot : (cs : List Column) (c : Column) → IsTable 0 0 0 cs → Some c ≡ slice_get cs (length cs - 1) → c.place + c.count + c.pad_count ≡ length (column_slots cs)
last_slot cs c t e =
    let h : length cs - 1 < length cs = slice_get_within cs (length cs - 1) c (sym e) in
    let i : length cs - 1 + 1 ≡ length cs = omega arith in
    let g : get_or cs (length cs - 1) nothing ≡ c = get_or_from_slice_get cs (length cs - 1) c nothing (sym e) in
    let l = slots_end 0 0 0 cs t (length cs - 1) nothing i in
    rw (← g) (sym l ∙ zero-add (length (column_slots cs)))

no_last : (cs : List Column) → None ≡ slice_get cs (length cs - 1) → cs ≡ []
no_last [] e = refl
no_last (c ∷ cs) e =
    let h = slice_get-get_or (c ∷ cs) (length (c ∷ cs) - 1) c (omega arith) in
    absurd (none-some _ (e ∙ h))

pub no_address : (cs : List Column) → None ≡ slice_get cs (length cs - 1) → 0 ≡ length (column_addresses cs)
no_address cs e = sym (nothing_there cs (ap length (no_last cs e)))

pub no_place : (cs : List Column) → None ≡ slice_get cs (length cs - 1) → 0 ≡ length (column_slots cs)
no_place cs e = sym (no_slot cs (ap length (no_last cs e)))

pub column_lists : (cs : List Column) → IsTable 0 0 0 cs → (i x : ℕ) (d : Column) → i < length cs →
    (get_or cs i d).first ≤ x → x < (get_or cs i d).first + (get_or cs i d).count → Contains (column_addresses cs) x
column_lists cs t i x d h low high =
    let f = rank_found cs t i x d h low high in
    let r = (get_or cs i d).rank + (x - (get_or cs i d).first) in
    (r, f.0, get_or_default (column_addresses cs) r x 0 f.0 ∙ f.1)
