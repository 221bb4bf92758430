-- Lemmas for the laws: a flash between slots has no sync word, and an update has one outcome.
use Rattle.std.proofs.Common.{◌≡◌, ◌≢◌, ℕ, zero, suc, ◌+◌, ◌-◌, ◌*◌, ◌/◌, ◌%◌, ◌<◌, ◌≤◌, inl, inr, false, nat_eq, List, [], ◌∷◌, length, get_or, take, drop, refl, ap, sym, subst, ◌∙◌, arith}
use Rattle.std.proofs.lemmas.Bool.{cases_eq, cases_lt, cases_order}
use Rattle.std.proofs.lemmas.List.{get_or-drop, get_or-take}
use Rattle.x7_words.specs.Flash.{sector_size}
use Rattle.x7_words.specs.Word.{word_of_bytes}
use Rattle.x7_packets.specs.FlashSlot.{flash_slot, flash_slot_size, flash_slot_count}
use Rattle.x7_update.specs.Layout.{CanStandAt, IsUpdatable, IsUpdatableSize, IsFree, IsNextFreeSlot, IsOpen, first_slot, four_at, open_switch, switch_of, switch_size}
use Rattle.x7_update.specs.After.{SpendsOpenSlot, already, spends, IsAfterUpdate, IsBetweenSlots, MayBeLeft, after, between, untouched, with_switch_word, with_stream}
use Rattle.x7_update.specs.Layout.{spent_switch, update_place}
use Rattle.x7_update.proofs.CaseLemmas.{between_below, between_spent, open_not_free, outside_switch, stream_keeps, true_or_false}
use Rattle.x7_update.proofs.SwitchLemmas.{length_switched, switch_other, switched_others}

-- none of the bytes is AA, with which a sync word begins
abbrev NoSyncStart : List ℕ → Type 0
NoSyncStart [] = Unit {0}
NoSyncStart (x ∷ xs) = (x ≢ 0xAA) × NoSyncStart xs

apart : (a : ℕ) → nat_eq a 0xAA ≡ false → a ≢ 0xAA
apart a t e = true_or_false (nat_eq a 0xAA) (ap (λ n. nat_eq n 0xAA) e) t

no_start : (xs : List ℕ) → NoSyncStart xs → (i : ℕ) → i < length xs → get_or xs i 0 ≢ 0xAA
no_start [] h i k = absurd (omega arith)
no_start (x ∷ xs) h zero k = h.0
no_start (x ∷ xs) h (suc i) k = no_start xs h.1 i (omega arith)

prefix_apart : (flash : List ℕ) → NoSyncStart (take 8 (drop 4 (first_slot flash)))
prefix_apart flash = (apart 0x20 refl, (apart 0 refl, (apart 0 refl, (apart 0 refl, (apart 0x30 refl, (apart 2 refl, (apart 0 refl, (apart 1 refl, tt))))))))

back_apart : (flash : List ℕ) → NoSyncStart (drop 16 (first_slot flash))
back_apart flash = (
  apart 0x30 refl,
  (
    apart 0 refl,
    (
      apart 0x80 refl,
      (
        apart 1 refl,
        (
          apart 0 refl,
          (
            apart 0 refl,
            (
              apart 0 refl,
              (
                apart 0x0F refl,
                (apart 0x30 refl, (apart 0 refl, (apart 0x80 refl, (apart 1 refl, (apart 0 refl, (apart 0 refl, (apart 0 refl, (apart 0x0D refl, tt)))))))),
              ),
            ),
          ),
        ),
      ),
    ),
  ),
)

module _ (flash found : List ℕ) (l : IsUpdatable flash) (b : IsBetweenSlots flash found) where
  -- a byte after a switch word of a flash that is between slots
  pub byte_between : (i m : ℕ) → i < sector_size → i % flash_slot_size ≡ m → 4 ≤ m → get_or found i 0 ≡ get_or (first_slot flash) m 0
  byte_between i m h e k =
      let at : flash_slot_size * (i / flash_slot_size) + m ≡ i = omega arith in
      b.slots i h (omega (arith, e, k)) ∙ ap (λ n. get_or flash n 0) (sym at) ∙ l.slots.leads (i / flash_slot_size) (omega arith) m k (omega arith)

  -- no sync word begins in the first sector
  pub no_sync : (place : ℕ) → place < sector_size → four_at found place ≢ open_switch
  no_sync place h e =
      let e0 : get_or found place 0 ≡ 0xAA = ap (λ w. get_or w 0 0) e in
      let e1 : get_or found (place + 1) 0 ≡ 0x99 = ap (λ w. get_or w 1 0) e in
      let e2 : get_or found (place + 2) 0 ≡ 0x55 = ap (λ w. get_or w 2 0) e in
      let e3 : get_or found (place + 3) 0 ≡ 0x66 = ap (λ w. get_or w 3 0) e in
      let j = place % flash_slot_size in
      elim (cases_lt j 16) [
        | inr high ↦
            let at : 16 + (j - 16) ≡ j = omega arith in
            no_start (drop 16 (first_slot flash)) (back_apart flash) (j - 16) (omega arith)
            (get_or-drop 16 (first_slot flash) (j - 16) 0 ∙ ap (λ n. get_or (first_slot flash) n 0) at ∙ sym (byte_between place j h refl (omega arith)) ∙ e0)
        | inl low ↦ elim (cases_lt j 4) [
          | inl switch ↦ elim (cases_eq j 0) [
            | inl zero_j ↦
                let at : place ≡ flash_slot_size * (place / flash_slot_size) = omega arith in
                b.none_open (place / flash_slot_size) (omega arith) (ap (λ n. four_at found n) (sym at) ∙ e)
            | inr not0 ↦ elim (cases_eq j 1) [
              | inl one ↦ let byte : 0x20 ≡ 0x66 = sym (byte_between (place + 3) 4 (omega arith) (omega arith) (omega arith)) ∙ e3 in absurd (omega (arith, byte))
              | inr not1 ↦ elim (cases_eq j 2) [
                | inl two ↦ let byte : 0x20 ≡ 0x55 = sym (byte_between (place + 2) 4 (omega arith) (omega arith) (omega arith)) ∙ e2 in absurd (omega (arith, byte))
                | inr not2 ↦ let byte : 0x20 ≡ 0x99 = sym (byte_between (place + 1) 4 (omega arith) (omega arith) (omega arith)) ∙ e1 in absurd (omega (arith, byte))
              ]
            ]
          ]
          | inr past ↦ elim (cases_lt j 12) [
            | inl prefix ↦
                let at : 4 + (j - 4) ≡ j = omega arith in
                no_start (take 8 (drop 4 (first_slot flash))) (prefix_apart flash) (j - 4) (omega arith)
                (get_or-take 8 (drop 4 (first_slot flash)) (j - 4) 0 (omega arith) ∙ get_or-drop 4 (first_slot flash) (j - 4) 0 ∙ ap (λ n. get_or (first_slot flash) n 0) at ∙ sym (byte_between place j h refl past) ∙ e0)
            | inr start ↦ elim (cases_eq j 12) [
              | inl twelve ↦
                  let c : get_or flash 14 0 ≡ 0x55 = sym (byte_between (place + 2) 14 (omega arith) (omega arith) (omega arith)) ∙ e2 in
                  let d : get_or flash 15 0 ≡ 0x66 = sym (byte_between (place + 3) 15 (omega arith) (omega arith) (omega arith)) ∙ e3 in
                  absurd (omega (arith, l.slots.place.whole, c, d))
              | inr not12 ↦ elim (cases_eq j 13) [
                | inl thirteen ↦ let byte : 0x30 ≡ 0x66 = sym (byte_between (place + 3) 16 (omega arith) (omega arith) (omega arith)) ∙ e3 in absurd (omega (arith, byte))
                | inr not13 ↦ elim (cases_eq j 14) [
                  | inl fourteen ↦ let byte : 0x30 ≡ 0x55 = sym (byte_between (place + 2) 16 (omega arith) (omega arith) (omega arith)) ∙ e2 in absurd (omega (arith, byte))
                  | inr not14 ↦ let byte : 0x30 ≡ 0x99 = sym (byte_between (place + 1) 16 (omega arith) (omega arith) (omega arith)) ∙ e1 in absurd (omega (arith, byte))
                ]
              ]
            ]
          ]
        ]
      ]

-- ---- a flash that was left can be updated again

-- one whose slots lead to U still, of which one at most is open and the last is free
updatable_with : (flash found : List ℕ) → IsUpdatable flash → length found ≡ length flash → ((i : ℕ) → i < sector_size → 4 ≤ i % flash_slot_size → get_or found i 0 ≡ get_or flash i 0)
    → ((slot other : ℕ) → slot < flash_slot_count → other < flash_slot_count → IsOpen found slot → IsOpen found other → slot ≡ other) → IsFree found (flash_slot_count - 1) → IsUpdatable found
updatable_with flash found l size slots one_open last_free =
    let start : four_at found 12 ≡ four_at flash 12 = rw (slots 12 (omega arith) (omega arith), slots 13 (omega arith) (omega arith), slots 14 (omega arith) (omega arith), slots 15 (omega arith) (omega arith)) refl in
    record {
      size = subst IsUpdatableSize (sym size) l.size;
      slots = record {
        place = subst (λ u. CanStandAt (length found) u) (sym (ap word_of_bytes start)) (subst (λ n. CanStandAt n (update_place flash)) (sym size) l.slots.place);
        leads = λ slot h i k m. slots (flash_slot_size * slot + i) (omega arith) (omega arith) ∙ l.slots.leads slot h i k m ∙ sym (ap (λ w. get_or (flash_slot open_switch w) i 0) start);
        one_open = one_open;
        last_free = last_free;
      };
    }

last_stays : (flash found : List ℕ) → IsUpdatable flash → IsBetweenSlots flash found → (IsNextFreeSlot flash (flash_slot_count - 1) → ⊥) → IsFree found (flash_slot_count - 1)
last_stays flash found l b more = b.switches (flash_slot_count - 1) (omega arith) (λ o. open_not_free flash (flash_slot_count - 1) o l.slots.last_free) more ∙ l.slots.last_free

-- the updated flash
updatable_after : (stream flash found : List ℕ) → IsUpdatable flash → IsAfterUpdate stream flash found → (IsNextFreeSlot flash (flash_slot_count - 1) → ⊥) → IsUpdatable found
updatable_after stream flash found l a more =
    updatable_with flash found l (ap length a.is ∙ length_switched a.next open_switch now refl within ∙ b.size)
    (λ i h k. ap (λ f. get_or f i 0) a.is ∙ switched_others a.next open_switch now refl within i (outside_switch a.next i k) ∙ b.slots i h k)
    (λ slot other h k o p. the_next slot h o ∙ sym (the_next other k p))
    (ap (λ f. switch_of f (flash_slot_count - 1)) a.is ∙ switch_other a.next (flash_slot_count - 1) open_switch now refl within (λ same. more (subst (IsNextFreeSlot flash) (sym same) a.is_next)) ∙ last_stays flash now l b more)
  where
    now : List ℕ
    now = with_stream (update_place flash) stream a.spent

    is_between : IsBetweenSlots flash a.spent
    is_between = between_spent flash a.spent l.slots a.is_spent

    b : IsBetweenSlots flash now
    b = between_below (length flash) flash a.spent now l.slots is_between (stream_keeps (update_place flash) stream a.spent (omega (arith, a.fits, is_between.size)))

    within : flash_slot_size * a.next + switch_size ≤ length now
    within = omega (arith, b.size, a.is_next.within, l.size.least)

    -- no slot but the next is open
    the_next : (slot : ℕ) → slot < flash_slot_count → IsOpen found slot → slot ≡ a.next
    the_next slot h o = elim (cases_eq slot a.next) [
      | inl same ↦ same
      | inr n ↦ absurd (b.none_open slot h (sym (ap (λ f. switch_of f slot) a.is ∙ switch_other a.next slot open_switch now refl within n) ∙ o))
    ]

pub left_updatable : (stream flash found : List ℕ) → IsUpdatable flash → MayBeLeft stream flash found → (IsNextFreeSlot flash (flash_slot_count - 1) → ⊥) → IsUpdatable found
left_updatable stream flash found l (untouched same) more = subst IsUpdatable (sym same) l
left_updatable stream flash found l (between can fits b) more = updatable_with flash found l b.size b.slots (λ slot other h k o p. absurd (b.none_open slot h o)) (last_stays flash found l b more)
left_updatable stream flash found l (after can a) more = updatable_after stream flash found l a more

-- ---- an update has one outcome

next_least : (flash : List ℕ) (one other : ℕ) → IsNextFreeSlot flash one → IsNextFreeSlot flash other → one < other → ⊥
next_least flash one other a b less =
    let before : suc (other - 1) ≡ other = omega arith in
    b.first (other - 1) before (a.free (other - 1) (omega arith) (omega (arith, b.within)))

pub one_next : (flash : List ℕ) (one other : ℕ) → IsNextFreeSlot flash one → IsNextFreeSlot flash other → one ≡ other
one_next flash one other a b = elim (cases_order one other) [
  | inl same ↦ same
  | inr differ ↦ elim differ [
    | inl less ↦ absurd (next_least flash one other a b less)
    | inr more ↦ absurd (next_least flash other one b a more)
  ]
]

pub one_spent : (flash one other : List ℕ) → IsUpdatable flash → SpendsOpenSlot flash one → SpendsOpenSlot flash other → one ≡ other
one_spent flash one other l (already s e) (already t f) = e ∙ sym f
one_spent flash one other l (already s e) (spends slot h is f) = absurd (s slot h is)
one_spent flash one other l (spends slot h is e) (already t f) = absurd (t slot h is)
one_spent flash one other l (spends slot h is e) (spends slot_2 h_2 is_2 f) =
    let same : slot ≡ slot_2 = l.slots.one_open slot slot_2 h h_2 is is_2 in
    e ∙ ap (λ k. with_switch_word k spent_switch flash) same ∙ sym f

pub one_after : (stream flash one other : List ℕ) → IsUpdatable flash → IsAfterUpdate stream flash one → IsAfterUpdate stream flash other → one ≡ other
one_after stream flash one other l a b =
    a.is
    ∙ ap (λ k. with_switch_word k open_switch (with_stream (update_place flash) stream a.spent)) (one_next flash a.next b.next a.is_next b.is_next)
    ∙ ap (λ c. with_switch_word b.next open_switch (with_stream (update_place flash) stream c)) (one_spent flash a.spent b.spent l a.is_spent b.is_spent)
    ∙ sym b.is
