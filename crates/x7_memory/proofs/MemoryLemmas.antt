-- A memory by its fields.
use Rattle.std.proofs.Common.{◌≡◌, ◌≢◌, ℕ, zero, suc, ◌+◌, ◌-◌, ◌*◌, ◌<◌, ◌≤◌, ◌⊎◌, List, [], ◌++◌, length, get_or, set, take, drop, replicate, map, inl, inr, refl, sym, ap, ◌∙◌, arith}
use Rattle.std.proofs.Math.Nat.{mul-le-mul, mul-le-mul_left, mul-suc}
use Rattle.std.proofs.lemmas.Bool.{cases_eq, cases_lt}
use Rattle.std.proofs.lemmas.List.{length-take-le, length-drop, length-append, length-map, length-set, drop_at, take-append-le, drop-append-le, take_all, ext_get_or, get_or-map, get_or-set_same, get_or-set_other}
use Rattle.std.proofs.lemmas.List.Sums.{sum_by-le, sum_by-set}
use Rattle.std.specs.List.{sum_by}
use Rattle.std.specs.Prelude.{vec_capacity}
use Rattle.x7_part.specs.Limits.{most_frame_words, most_frames}
use Rattle.x7_memory.specs.declared.memory.Memory.TheInside.{Inside}
use Rattle.x7_memory.specs.Flat.{words_with_frame}
use Rattle.x7_memory.specs.MemoryFields.{frames_seen, stored_frame, own_frame_count, AreDistinct, StoresFrames}
use Rattle.x7_memory.proofs.FlatLemmas.{cut_in_frames, cut_length, cut_at, cut_set, frame_end}

-- ---- frames that are stored one after another

pub stored_width : (w n p : ℕ) (ws : List ℕ) → p < n → length ws ≡ w * n → length (stored_frame w ws p) ≡ w
stored_width w n p ws h e =
    let end = frame_end w n p h in
    let left : length (drop (w * p) ws) ≡ length ws - w * p = length-drop (w * p) ws in
    length-take-le w (drop (w * p) ws) (omega arith)

-- a stored frame, where words come after all frames
pub frame_before : (w n p : ℕ) (ws new : List ℕ) → p < n → length ws ≡ w * n → stored_frame w (ws ++ new) p ≡ stored_frame w ws p
frame_before w n p ws new h e =
    let end = frame_end w n p h in
    let left : length (drop (w * p) ws) ≡ length ws - w * p = length-drop (w * p) ws in
    ap (take w) (drop-append-le (w * p) ws new (omega arith)) ∙ take-append-le w (drop (w * p) ws) new (omega arith)

pub frame_after : (w n : ℕ) (ws new : List ℕ) → length ws ≡ w * n → length new ≡ w → stored_frame w (ws ++ new) n ≡ new
frame_after w n ws new e f = ap (take w) (drop_at ws new (w * n) e) ∙ take_all w new (omega arith)

-- the stored frames, where one is written over
frame_over : (w n p q : ℕ) (ws new : List ℕ) → p < n → q < n → length ws ≡ w * n → length new ≡ w →
    stored_frame w (words_with_frame (w * p) new ws) q ≡ get_or (set (cut_in_frames w n ws) p new) q []
frame_over w n p q ws new h i e f =
    sym (cut_at w n q (words_with_frame (w * p) new ws) [] i)
    ∙ ap (λ fs. get_or fs q []) (ap (λ k. cut_in_frames w n (take (w * p) ws ++ (new ++ drop (w * p + k) ws))) f ∙ cut_set w n p ws new h f (omega arith))

pub over_same : (w n p : ℕ) (ws new : List ℕ) → p < n → length ws ≡ w * n → length new ≡ w → stored_frame w (words_with_frame (w * p) new ws) p ≡ new
over_same w n p ws new h e f =
    let all : length (cut_in_frames w n ws) ≡ n = cut_length w n ws in
    frame_over w n p p ws new h h e f ∙ get_or-set_same (cut_in_frames w n ws) p new [] (omega arith)

pub over_other : (w n p q : ℕ) (ws new : List ℕ) → p < n → q < n → q ≢ p → length ws ≡ w * n → length new ≡ w →
    stored_frame w (words_with_frame (w * p) new ws) q ≡ stored_frame w ws q
over_other w n p q ws new h i ne e f =
    frame_over w n p q ws new h i e f ∙ get_or-set_other (cut_in_frames w n ws) p q new [] ne ∙ cut_at w n q ws [] i

pub over_length : (a : ℕ) (ws new : List ℕ) → a + length new ≤ length ws → length (take a ws ++ (new ++ drop (a + length new) ws)) ≡ length ws
over_length a ws new h =
    let prefix : length (take a ws) ≡ a = length-take-le a ws (omega arith) in
    let rest : length (drop (a + length new) ws) ≡ length ws - (a + length new) = length-drop (a + length new) ws in
    let back : length (new ++ drop (a + length new) ws) ≡ length new + length (drop (a + length new) ws) = length-append new (drop (a + length new) ws) in
    let all : length (take a ws ++ (new ++ drop (a + length new) ws)) ≡ length (take a ws) + length (new ++ drop (a + length new) ws) =
    length-append (take a ws) (new ++ drop (a + length new) ws) in
    omega arith

-- ---- the frames by rank

-- the frame of one rank changes alone
pub seen_set : (w : ℕ) (ws us numbers others : List ℕ) (rank : ℕ) (new : List ℕ) → length others ≡ length numbers → rank < length numbers →
    stored_frame w us (get_or others rank 0) ≡ new →
    ((i : ℕ) → i < length numbers → i ≢ rank → stored_frame w us (get_or others i 0) ≡ stored_frame w ws (get_or numbers i 0)) →
    map (stored_frame w us) others ≡ set (map (stored_frame w ws) numbers) rank new
seen_set w ws us numbers others rank new long inside here there =
    let old = map (stored_frame w ws) numbers in
    let n : length (map (stored_frame w us) others) ≡ length others = length-map others (stored_frame w us) in
    let m : length old ≡ length numbers = length-map numbers (stored_frame w ws) in
    let k : length (set old rank new) ≡ length old = length-set old rank new in
    ext_get_or [] (map (stored_frame w us) others) (set old rank new) (omega arith) (λ i h.
    get_or-map (stored_frame w us) others i 0 [] (omega arith) ∙
    elim (cases_eq i rank) [
      | inl e ↦ rw e (here ∙ sym (get_or-set_same old rank new [] (omega arith)))
      | inr ne ↦ there i (omega arith) ne ∙ sym (get_or-set_other old rank i new [] ne ∙ get_or-map (stored_frame w ws) numbers i 0 [] (omega arith))
    ])

-- ---- ranks

pub seen_count : (m : Inside) (frames : List (List ℕ)) → frames_seen m ≡ frames → length frames ≡ length m.numbers.items
seen_count m frames e = ap length (sym e) ∙ length-map m.numbers.items (stored_frame m.width m.words.items)

-- a rank of a memory: the number of its frame is that of a stored one, which ends within the words, and these are at
-- most 255 * (131,072 + 1)
pub record IsRank (m : Inside) (rank : ℕ) : Type 0 where
  pub inside : rank < length m.numbers.items
  pub below : get_or m.numbers.items rank 0 < m.stored_count
  pub end : m.width * get_or m.numbers.items rank 0 + m.width ≤ m.width * m.stored_count
  pub small : m.width * m.stored_count ≤ 33423615

own_most : (n : ℕ) → own_frame_count n ≤ 1
own_most zero = omega arith
own_most (suc n) = omega arith

own_some : (n : ℕ) → 0 < n → own_frame_count n ≡ 1
own_some zero h = absurd (omega arith)
own_some (suc n) h = refl

pub ones_most : (numbers : List ℕ) → sum_by own_frame_count numbers ≤ length numbers
ones_most numbers = let ones = sum_by-le own_frame_count 1 numbers (λ i d h. own_most (get_or numbers i d)) in omega arith

pub stored_few : (m : Inside) → StoresFrames m → m.stored_count ≤ length m.numbers.items + 1
stored_few m is =
    let ones = ones_most m.numbers.items in
    let used = is.used in
    omega arith

pub is_rank : (m : Inside) (rank : ℕ) → StoresFrames m → rank < length (frames_seen m) → IsRank m rank
is_rank m rank is h =
    let n : length (frames_seen m) ≡ length m.numbers.items = length-map m.numbers.items (stored_frame m.width m.words.items) in
    let low : get_or m.numbers.items rank 0 < m.stored_count = is.below rank (omega arith) in
    let few = stored_few m is in
    let limit = is.ranks in
    let all : m.width * m.stored_count ≤ most_frame_words * (most_frames + 1) = mul-le-mul is.narrow (let s : m.stored_count ≤ most_frames + 1 = omega arith in s) in
    record { inside = omega arith; below = low; end = frame_end m.width m.stored_count (get_or m.numbers.items rank 0) low; small = omega arith }

pub own_number : {n k : ℕ} → n ≡ k → (n ≡ 0 → ⊥) → 0 < k
own_number {n} {k} e own = elim (cases_lt 0 k) [
  | inl h ↦ h
  | inr z ↦ absurd (own (omega arith))
]

-- while no more frames are stored, the zeros among them, than there are ranks, there is room for one more
pub next_room : (m : Inside) → StoresFrames m → m.stored_count ≤ length m.numbers.items → m.width * m.stored_count + m.width ≤ vec_capacity m.words
next_room m is h =
    let next : m.width * suc m.stored_count ≡ m.width * m.stored_count + m.width = mul-suc m.width m.stored_count in
    let most : m.width * suc m.stored_count ≤ m.width * (length m.numbers.items + 1) = mul-le-mul_left m.width (omega arith) in
    let room = is.room in
    omega arith

-- a frame as long as the one that stands at a rank has the memory's width
pub new_width : (m : Inside) (rank : ℕ) (new : List ℕ) (frames : List (List ℕ)) → StoresFrames m → IsRank m rank → frames_seen m ≡ frames →
    length new ≡ length (get_or frames rank []) → length new ≡ m.width
new_width m rank new frames is r e f =
    f ∙ ap (λ l. length (get_or l rank [])) (sym e)
    ∙ ap length (get_or-map (stored_frame m.width m.words.items) m.numbers.items rank 0 [] r.inside)
    ∙ stored_width m.width m.stored_count (get_or m.numbers.items rank 0) m.words.items r.below is.whole

-- ---- a frame written over the one of its rank

pub over_seen : (m : Inside) (rank : ℕ) (us new : List ℕ) → StoresFrames m → IsRank m rank → 0 < get_or m.numbers.items rank 0 → length new ≡ m.width →
    us ≡ words_with_frame (m.width * get_or m.numbers.items rank 0) new m.words.items → map (stored_frame m.width us) m.numbers.items ≡ set (frames_seen m) rank new
over_seen m rank us new is r own e f =
    let number = get_or m.numbers.items rank 0 in
    seen_set m.width m.words.items us m.numbers.items m.numbers.items rank new refl r.inside
    (ap (λ ws. stored_frame m.width ws number) f ∙ over_same m.width m.stored_count number m.words.items new r.below is.whole e)
    (λ i h ne. ap (λ ws. stored_frame m.width ws (get_or m.numbers.items i 0)) f
    ∙ over_other m.width m.stored_count number (get_or m.numbers.items i 0) m.words.items new r.below (is.below i h) (λ same. ne (sym (is.apart rank i r.inside h own (sym same)))) is.whole e)

pub over_room : (m p : Inside) (rank : ℕ) (new : List ℕ) → StoresFrames m → IsRank m rank → 0 < get_or m.numbers.items rank 0 → length new ≡ m.width →
    p.width ≡ m.width → p.stored_count ≡ m.stored_count → p.numbers.items ≡ m.numbers.items → vec_capacity m.words ≤ vec_capacity p.words →
    p.words.items ≡ words_with_frame (m.width * get_or m.numbers.items rank 0) new m.words.items → StoresFrames p
over_room m p rank new is r own e ew es en cap f =
    let number = get_or m.numbers.items rank 0 in
    let some = is.some in let narrow = is.narrow in let few = is.ranks in let room = is.room in let whole = is.whole in let end = r.end in
    let low = r.below in
    let long : length p.words.items ≡ length m.words.items = ap length f ∙ over_length (m.width * number) m.words.items new (omega arith) in
    record {
      some = omega arith;
      narrow = omega arith;
      ranks = rw en few;
      room = rw (ew, en) (omega arith);
      whole = rw (ew, es) (long ∙ whole);
      zeros = rw (ew, f) (over_other m.width m.stored_count number 0 m.words.items new low (omega arith) (λ z. omega arith) whole e ∙ is.zeros);
      used = rw (es, en) is.used;
      below = rw (es, en) is.below;
      apart = rw en is.apart;
    }

-- ---- zeros at a rank of zeros

pub none_seen : (m : Inside) (rank : ℕ) (new : List ℕ) → StoresFrames m → IsRank m rank → get_or m.numbers.items rank 0 ≡ 0 → length new ≡ m.width →
    new ≡ replicate (length new) 0 → frames_seen m ≡ set (frames_seen m) rank new
none_seen m rank new is r none e z =
    seen_set m.width m.words.items m.words.items m.numbers.items m.numbers.items rank new refl r.inside
    (ap (stored_frame m.width m.words.items) none ∙ is.zeros ∙ sym (z ∙ ap (λ k. replicate k 0) e)) (λ i h ne. refl)

-- ---- the first frame of its own at a rank

pub first_room : (m : Inside) (rank : ℕ) → StoresFrames m → IsRank m rank → get_or m.numbers.items rank 0 ≡ 0 → m.stored_count ≤ length m.numbers.items
first_room m rank is r none =
    let set_one = sum_by-set own_frame_count m.numbers.items rank 1 0 r.inside in
    let ones = ones_most (set m.numbers.items rank 1) in
    let long = length-set m.numbers.items rank 1 in
    let zero_one : own_frame_count (get_or m.numbers.items rank 0) ≡ 0 = ap own_frame_count none in
    let one : own_frame_count 1 ≡ 1 = refl in
    let used = is.used in
    omega arith

-- once a rank was given a number, that rank has the new number, and any other its old one
number_after : (numbers : List ℕ) (rank number i : ℕ) → rank < length numbers →
    ((i ≡ rank) × (get_or (set numbers rank number) i 0 ≡ number)) ⊎ ((i ≢ rank) × (get_or (set numbers rank number) i 0 ≡ get_or numbers i 0))
number_after numbers rank number i h =
    elim (cases_eq i rank) [
      | inl e ↦ inl (e, rw e (get_or-set_same numbers rank number 0 h))
      | inr ne ↦ inr (ne, get_or-set_other numbers rank i number 0 ne)
    ]

first_below : (m : Inside) (rank : ℕ) → StoresFrames m → IsRank m rank → (i : ℕ) → i < length m.numbers.items → get_or (set m.numbers.items rank m.stored_count) i 0 < m.stored_count + 1
first_below m rank is r i h =
    elim (number_after m.numbers.items rank m.stored_count i r.inside) [
      | inl (e, n) ↦ omega arith
      | inr (ne, n) ↦ let low = is.below i h in omega arith
    ]

first_apart : (m : Inside) (rank : ℕ) → StoresFrames m → IsRank m rank → AreDistinct (set m.numbers.items rank m.stored_count)
first_apart m rank is r i j h k some same =
    let long = length-set m.numbers.items rank m.stored_count in
    elim (number_after m.numbers.items rank m.stored_count i r.inside) [
      | inl (e, n) ↦ elim (number_after m.numbers.items rank m.stored_count j r.inside) [
        | inl (f, o) ↦ e ∙ sym f
        | inr (ne, o) ↦ let low = is.below j (omega arith) in absurd (omega arith)
      ]
      | inr (ne, n) ↦ elim (number_after m.numbers.items rank m.stored_count j r.inside) [
        | inl (f, o) ↦ let low = is.below i (omega arith) in absurd (omega arith)
        | inr (of, o) ↦ is.apart i j (omega arith) (omega arith) (omega arith) (omega arith)
      ]
    ]

pub first_seen : (m : Inside) (rank : ℕ) (us others new : List ℕ) → StoresFrames m → IsRank m rank → length new ≡ m.width →
    us ≡ m.words.items ++ new → others ≡ set m.numbers.items rank m.stored_count → map (stored_frame m.width us) others ≡ set (frames_seen m) rank new
first_seen m rank us others new is r e f g =
    rw (f, g) (seen_set m.width m.words.items (m.words.items ++ new) m.numbers.items (set m.numbers.items rank m.stored_count) rank new (length-set m.numbers.items rank m.stored_count) r.inside
    (ap (stored_frame m.width (m.words.items ++ new)) (get_or-set_same m.numbers.items rank m.stored_count 0 r.inside) ∙ frame_after m.width m.stored_count m.words.items new is.whole e)
    (λ i h ne. ap (stored_frame m.width (m.words.items ++ new)) (get_or-set_other m.numbers.items rank i m.stored_count 0 ne)
    ∙ frame_before m.width m.stored_count (get_or m.numbers.items i 0) m.words.items new (is.below i h) is.whole))

pub first_fields : (m p : Inside) (rank : ℕ) (new : List ℕ) → StoresFrames m → IsRank m rank → get_or m.numbers.items rank 0 ≡ 0 → length new ≡ m.width →
    p.width ≡ m.width → p.stored_count ≡ m.stored_count + 1 → p.numbers.items ≡ set m.numbers.items rank m.stored_count → vec_capacity m.words ≤ vec_capacity p.words →
    p.words.items ≡ m.words.items ++ new → StoresFrames p
first_fields m p rank new is r none e ew es en cap f =
    let some = is.some in let narrow = is.narrow in let few = is.ranks in let room = is.room in let whole = is.whole in let used = is.used in
    let long = length-set m.numbers.items rank m.stored_count in
    let more : length p.words.items ≡ length m.words.items + length new = ap length f ∙ length-append m.words.items new in
    let next : m.width * suc m.stored_count ≡ m.width * m.stored_count + m.width = mul-suc m.width m.stored_count in
    let ones = sum_by-set own_frame_count m.numbers.items rank m.stored_count 0 r.inside in
    let none_own : own_frame_count (get_or m.numbers.items rank 0) ≡ 0 = ap own_frame_count none in
    let one = own_some m.stored_count (omega arith) in
    let low = r.below in
    record {
      some = omega arith;
      narrow = omega arith;
      ranks = rw (en, long) few;
      room = rw (ew, en, long) (omega arith);
      whole = rw (ew, es) (more ∙ (omega arith));
      zeros = rw (ew, f) (frame_before m.width m.stored_count 0 m.words.items new (omega arith) whole ∙ is.zeros);
      used = rw (es, en) (omega arith);
      below = rw (es, en, long) (first_below m rank is r);
      apart = rw en (first_apart m rank is r);
    }
