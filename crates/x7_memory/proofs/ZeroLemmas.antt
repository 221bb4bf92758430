-- Memories of zeros.
use Rattle.std.proofs.Common.{◌≡◌, ℕ, zero, suc, ◌+◌, ◌*◌, ◌<◌, ◌≤◌, Bool, true, false, ◌&&◌, List, [], ◌∷◌, ◌++◌, length, get_or, bit_or, take, drop, replicate, map, All, ◌==◌, inl, inr, refl, sym, ap, ◌∙◌, arith}
use Rattle.std.proofs.Math.Nat.{eq-zero-or-pos, mul-zero}
use Rattle.std.specs.Int.Bits.{or_zero_l}
use Rattle.std.proofs.lemmas.Nat.{le_or_l}
use Rattle.std.proofs.lemmas.Bool.{cases_lt, false≢true, ne_eqb}
use Rattle.std.proofs.lemmas.List.{length-replicate, length-map, get_or-map, get_or-replicate, take_all, take_more}
use Rattle.std.proofs.lemmas.List.Folds.{sum_by-replicate}
use Rattle.std.specs.List.{sum_by}
use Rattle.std.specs.Prelude.{vec_capacity}
use Rattle.x7_words.specs.Word.{AreWords}
use Rattle.x7_part.specs.Part.{PartData, frame_words}
use Rattle.x7_part.specs.AddressOrder.{addresses_in, Rises}
use Rattle.x7_part.specs.Limits.{most_frame_words, most_frames}
use Rattle.x7_memory.specs.declared.memory.Memory.TheInside.{Inside}
use Rattle.x7_memory.specs.PartFrames.{zero_frames, are_zeros, AreFramesOf}
use Rattle.x7_memory.specs.MemoryFields.{frames_seen, stored_frame, own_frame_count, StoresFrames}
use Rattle.x7_memory.proofs.MemoryLemmas.{is_rank, stored_width}

-- ---- words of which none has a bit

zeros_append : (xs ys : List ℕ) → are_zeros (xs ++ ys) ≡ (are_zeros xs && are_zeros ys)
zeros_append [] ys = refl
zeros_append (x ∷ xs) ys = by (x == 0) (are_zeros xs) (are_zeros ys) (are_zeros (xs ++ ys)) (zeros_append xs ys)
  where
    by : (z a b c : Bool) → c ≡ (a && b) → (z && c) ≡ ((z && a) && b)
    by true a b c e = e
    by false a b c e = refl

and_true : (b : Bool) → b ≡ (b && true)
and_true true = refl
and_true false = refl

-- an or of numbers is 0 exactly where both are
or_zeros : (a w : ℕ) → (bit_or a w == 0) ≡ ((a == 0) && (w == 0 && true))
or_zeros a w = elim (eq-zero-or-pos a) [
  | inl e ↦ rw e (ap (λ (n : ℕ). n == 0) (or_zero_l w) ∙ and_true (w == 0))
  | inr h ↦ let more : a ≤ bit_or a w = le_or_l a w in
      ne_eqb (bit_or a w) 0 (λ e. omega arith) ∙ sym (ap (λ (b : Bool). b && (w == 0 && true)) (ne_eqb a 0 (λ e. omega arith)))
]

-- whether words are zeros, one word more
pub zeros_more : (words : List ℕ) (i any : ℕ) → i < length words → (any == 0) ≡ are_zeros (take i words) → (bit_or any (get_or words i 0) == 0) ≡ are_zeros (take (i + 1) words)
zeros_more words i any h e =
    or_zeros any (get_or words i 0) ∙ ap (λ (b : Bool). b && (get_or words i 0 == 0 && true)) e
    ∙ sym (ap are_zeros (take_more words i 0 h) ∙ zeros_append (take i words) (get_or words i 0 ∷ []))

-- words that are zeros are that many zeros
pub zeros_alike : (words : List ℕ) → are_zeros words ≡ true → words ≡ replicate (length words) 0
zeros_alike [] e = refl
zeros_alike (zero ∷ words) e = ap (λ (ws : List ℕ). 0 ∷ ws) (zeros_alike words e)
zeros_alike (suc n ∷ words) e = absurd (false≢true (sym (ap (λ (b : Bool). b && are_zeros words) (ne_eqb (suc n) 0 (λ z. omega (arith, z)))) ∙ e))

-- ---- frames of zeros

alike : {X : Type 0} (P : X → Type 0) (n : ℕ) (x : X) → P x → All P (replicate n x)
alike P n x p k d h = let long : length (replicate n x) ≡ n = length-replicate n x in rw (get_or-replicate n k x d (omega arith)) p

pub zero_words : (n : ℕ) → AreWords (replicate n 0)
zero_words zero = tt
zero_words (suc n) = (omega arith, zero_words n)

-- frames of zeros are frames of a part whose addresses rise
pub zeros_are : (part : PartData) → Rises 0 (addresses_in part) → AreFramesOf part (zero_frames part)
zeros_are part rises = record {
  order = rises;
  count = length-replicate (length (addresses_in part)) (replicate (frame_words part) 0);
  width = alike (λ words. length words ≡ frame_words part) (length (addresses_in part)) (replicate (frame_words part) 0) (length-replicate (frame_words part) 0);
  words = alike AreWords (length (addresses_in part)) (replicate (frame_words part) 0) (zero_words (frame_words part));
}

-- the first frame that is stored is of zeros
pub first_zeros : (m : Inside) → StoresFrames m → take m.width m.words.items ≡ replicate m.width 0
first_zeros m is = ap (λ k. take m.width (drop k m.words.items)) (sym (mul-zero m.width)) ∙ is.zeros

-- ---- fields of which no rank has a frame of its own

map_alike : {X Y : Type 0} (f : X → Y) (n : ℕ) (x : X) → map f (replicate n x) ≡ replicate n (f x)
map_alike f zero x = refl
map_alike f (suc n) x = ap (λ ys. f x ∷ ys) (map_alike f n x)

pub none_seen : (width count : ℕ) (words numbers : List ℕ) → words ≡ replicate width 0 → numbers ≡ replicate count 0 →
    map (stored_frame width words) numbers ≡ replicate count (replicate width 0)
none_seen width count words numbers e f =
    let first : stored_frame width (replicate width 0) 0 ≡ replicate width 0 =
    rw (mul-zero width) (take_all width (replicate width 0) (let n = length-replicate {A = ℕ} width 0 in omega arith)) in
    rw (e, f) (map_alike (stored_frame width (replicate width 0)) count 0 ∙ ap (replicate count) first)

pub none_room : (p : Inside) (width count : ℕ) → 0 < width → width ≤ most_frame_words → count ≤ most_frames → p.width ≡ width → p.stored_count ≡ 1 →
    p.words.items ≡ replicate width 0 → p.numbers.items ≡ replicate count 0 → width * (count + 1) ≤ vec_capacity p.words → StoresFrames p
none_room p width count some narrow few ew es e f room =
    let n : length p.numbers.items ≡ count = ap length f ∙ length-replicate count 0 in
    let l : length p.words.items ≡ width = ap length e ∙ length-replicate width 0 in
    let ones : sum_by own_frame_count (replicate count 0) ≡ count * own_frame_count 0 = sum_by-replicate own_frame_count count 0 in
    let no_one : count * own_frame_count 0 ≡ 0 = mul-zero count in
    let sum : sum_by own_frame_count p.numbers.items ≡ 0 = ap (sum_by own_frame_count) f ∙ ones ∙ no_one in
    let number : (i : ℕ) → i < length p.numbers.items → get_or p.numbers.items i 0 ≡ 0 = λ i h. ap (λ xs. get_or xs i 0) f ∙ get_or-replicate count i 0 0 (omega arith) in
    record {
      some = omega arith;
      narrow = omega arith;
      ranks = omega arith;
      room = rw (ew, n) room;
      whole = rw (ew, es) (l ∙ (omega arith));
      zeros = rw (ew, e, mul-zero width) (take_all width (replicate width 0) (let k = length-replicate {A = ℕ} width 0 in omega arith));
      used = rw (es, sum) refl;
      below = λ i h. (let z = number i h in omega arith);
      apart = λ i j h k own same. (let z = number i h in absurd (omega arith));
    }

pub new_zeros : (part : PartData) (width count : ℕ) → width ≡ frame_words part → count ≡ length (addresses_in part) → replicate count (replicate width 0) ≡ zero_frames part
new_zeros part width count w n = rw (w, n) refl

-- the frames of a memory of a part, when no rank has a frame of its own any more, are the part's, all zeros
pub cleared : (part : PartData) (m : Inside) (frames : List (List ℕ)) (words numbers : List ℕ) → StoresFrames m → frames_seen m ≡ frames → AreFramesOf part frames →
    words ≡ take m.width m.words.items → numbers ≡ replicate (length m.numbers.items) 0 → map (stored_frame m.width words) numbers ≡ zero_frames part
cleared part m frames words numbers is e are f g =
    let long : length (frames_seen m) ≡ length m.numbers.items = length-map m.numbers.items (stored_frame m.width m.words.items) in
    let n : length m.numbers.items ≡ length (addresses_in part) = sym long ∙ ap length e ∙ are.count in
    none_seen m.width (length m.numbers.items) words numbers (f ∙ first_zeros m is) g ∙
    elim (cases_lt 0 (length m.numbers.items)) [
      | inl some ↦
          let r = is_rank m 0 is (omega arith) in
          let first : length (get_or (frames_seen m) 0 []) ≡ m.width =
          ap length (get_or-map (stored_frame m.width m.words.items) m.numbers.items 0 0 [] some)
          ∙ stored_width m.width m.stored_count (get_or m.numbers.items 0 0) m.words.items r.below is.whole in
          let same : length (get_or (frames_seen m) 0 []) ≡ length (get_or frames 0 []) = ap (λ l. length (get_or l 0 [])) e in
          let there : 0 < length frames = (let c = are.count in omega arith) in
          let wide : m.width ≡ frame_words part = sym first ∙ same ∙ are.width 0 [] there in
          rw (wide, n) refl
      | inr nothing ↦
          let z : length m.numbers.items ≡ 0 = omega arith in
          let y : length (addresses_in part) ≡ 0 = omega arith in
          rw (z, y) refl
    ]
