-- The words of a readback: a frame of zeros, and the frames along the slots.
use Rattle.std.proofs.Common.{◌≡◌, ◌+◌, ◌*◌, ◌≤◌, ◌<◌, ℕ, zero, suc, Option, None, Some, List, [], ◌∷◌, ◌++◌, length, get_or, replicate, take, unwrap_or, refl, sym, ap, ◌∙◌, arith}
use Rattle.std.specs.List.{flat_map}
use Rattle.x7_part.specs.Part.{PartData, frame_words}
use Rattle.x7_part.specs.declared.slot.Slot.{Slot}
use Rattle.x7_part.specs.declared.slot.Slot.TheVariants.{Frame, Pad, End}
use Rattle.x7_memory.specs.FrameMap.{FrameMap}
use Rattle.x7_pipeline.specs.Readback.{readback_at, word_at, word_in_frame}
use Rattle.x7_part.specs.Slot.{slots_from}
use Rattle.x7_pipeline.proofs.LawLemmas.{read_frames, read_pad_frame}
use Rattle.x7_flow.specs.Standing.{readback_words}
use Rattle.x7_effects.specs.Played.{slot_words, words_along}
use Rattle.x7_flow.specs.HasOnlyFramesOf.{HasOnlyFramesOf}

-- this many values of a function from a place on
abbrev listed : (ℕ → ℕ) → ℕ → ℕ → List ℕ
listed f i zero = []
listed f i (suc c) = f i ∷ listed f (i + 1) c

words_are : (part : PartData) (base : ℕ) (m : FrameMap) (place count : ℕ) → readback_words part base m place count ≡ listed (readback_at part base m) place count
words_are part base m place zero = refl
words_are part base m place (suc count) = ap (λ t. readback_at part base m place ∷ t) (words_are part base m (place + 1) count)

listed_same : (f g : ℕ → ℕ) (p q c : ℕ) → ((i : ℕ) → i < c → f (p + i) ≡ g (q + i)) → listed f p c ≡ listed g q c
listed_same f g p q zero e = refl
listed_same f g p q (suc c) e =
    let first : f p ≡ g q = ap f (let here : p ≡ p + 0 = omega arith in here) ∙ e 0 (omega arith) ∙ ap g (let here : q + 0 ≡ q = omega arith in here) in
    let rest : listed f (p + 1) c ≡ listed g (q + 1) c = listed_same f g (p + 1) (q + 1) c (λ i l.
    ap f (let here : p + 1 + i ≡ p + (i + 1) = omega arith in here) ∙ e (i + 1) (omega (arith, l)) ∙ ap g (let here : q + (i + 1) ≡ q + 1 + i = omega arith in here)) in
    ap (λ (x : ℕ). x ∷ listed f (p + 1) c) first ∙ ap (λ t. g q ∷ t) rest

listed_append : (f : ℕ → ℕ) (p a b : ℕ) → listed f p (a + b) ≡ listed f p a ++ listed f (p + a) b
listed_append f p zero b = ap (listed f p) (let none : 0 + b ≡ b = omega arith in none) ∙ ap (λ (k : ℕ). listed f k b) (let here : p ≡ p + 0 = omega arith in here)
listed_append f p (suc a) b =
    ap (listed f p) (let next : suc a + b ≡ suc (a + b) = omega arith in next)
    ∙ ap (λ t. f p ∷ t) (listed_append f (p + 1) a b)
    ∙ ap (λ (k : ℕ). f p ∷ (listed f (p + 1) a ++ listed f k b)) (let here : p + 1 + a ≡ p + suc a = omega arith in here)

listed_zeros : (p c : ℕ) → listed (λ i. 0) p c ≡ replicate c 0
listed_zeros p zero = refl
listed_zeros p (suc c) = ap (λ t. 0 ∷ t) (listed_zeros (p + 1) c)

listed_words : (ws : List ℕ) → listed (λ i. get_or ws i 0) 0 (length ws) ≡ ws
listed_words [] = refl
listed_words (w ∷ ws) =
    let rest : listed (λ i. get_or (w ∷ ws) i 0) (0 + 1) (length ws) ≡ listed (λ i. get_or ws i 0) 0 (length ws) =
    listed_same (λ i. get_or (w ∷ ws) i 0) (λ i. get_or ws i 0) (0 + 1) 0 (length ws) (λ i l.
    ap (λ (k : ℕ). get_or (w ∷ ws) k 0) (let next : 0 + 1 + i ≡ suc i = omega arith in next) ∙ ap (λ (k : ℕ). get_or ws k 0) (let here : i ≡ 0 + i = omega arith in here)) in
    ap (λ t. w ∷ t) (rest ∙ listed_words ws)

-- the words of one slot
frame_listed : (part : PartData) (m : FrameMap) (far : ℕ) (o : Option (List ℕ)) → HasOnlyFramesOf part m → m far ≡ o → listed (word_in_frame o) 0 (frame_words part) ≡ unwrap_or o (replicate (frame_words part) 0)
frame_listed part m far None i e = listed_zeros 0 (frame_words part)
frame_listed part m far (Some ws) i e = ap (listed (λ k. get_or ws k 0) 0) (sym (i.wide far ws e)) ∙ listed_words ws

slot_listed : (part : PartData) (m : FrameMap) (s : Slot) → HasOnlyFramesOf part m → listed (word_at s m) 0 (frame_words part) ≡ slot_words part m s
slot_listed part m (Frame far) i = frame_listed part m far (m far) i refl
slot_listed part m Pad i = listed_zeros 0 (frame_words part)
slot_listed part m End i = listed_zeros 0 (frame_words part)

-- the words of slots in order, of which the first is slot j
slots_listed : (part : PartData) (m : FrameMap) (f : ℕ → ℕ) (places : List Slot) (j n : ℕ) → HasOnlyFramesOf part m → n ≤ length places
    → ((k i : ℕ) → k < length places → i < frame_words part → f (frame_words part * (1 + (j + k)) + i) ≡ word_at (get_or places k End) m i)
    → listed f (frame_words part * (1 + j)) (frame_words part * n) ≡ flat_map (slot_words part m) (take n places)
slots_listed part m f places j zero is l e = ap (listed f (frame_words part * (1 + j))) (let none : frame_words part * 0 ≡ 0 = omega arith in none)
slots_listed part m f [] j (suc n) is l e = absurd (omega (arith, l))
slots_listed part m f (s ∷ places) j (suc n) is l e =
    let w : ℕ = frame_words part in
    let count : w * suc n ≡ w + w * n = grind arith in
    let next : w * (1 + j) + w ≡ w * (1 + (j + 1)) = grind arith in
    let here : listed f (w * (1 + j)) w ≡ slot_words part m s = listed_same f (word_at s m) (w * (1 + j)) 0 w (λ i few.
    ap (λ (k : ℕ). f (w * (1 + k) + i)) (let same : j ≡ j + 0 = omega arith in same) ∙ e 0 i (omega arith) few ∙ ap (word_at s m) (let at : i ≡ 0 + i = omega arith in at)) ∙ slot_listed part m s is in
    let rest : listed f (w * (1 + (j + 1))) (w * n) ≡ flat_map (slot_words part m) (take n places) = slots_listed part m f places (j + 1) n is (omega (arith, l)) (λ k i few low.
    ap (λ (x : ℕ). f (w * (1 + x) + i)) (let same : j + 1 + k ≡ j + suc k = omega arith in same) ∙ e (suc k) i (omega (arith, few)) low) in
    ap (listed f (w * (1 + j))) count
    ∙ listed_append f (w * (1 + j)) w (w * n)
    ∙ ap (λ t. t ++ listed f (w * (1 + j) + w) (w * n)) here
    ∙ ap (λ (k : ℕ). slot_words part m s ++ listed f k (w * n)) next
    ∙ ap (λ t. slot_words part m s ++ t) rest

-- all words of a readback of n slots
pub words_read : (part : PartData) (base : ℕ) (m : FrameMap) (n : ℕ) → HasOnlyFramesOf part m → n ≤ length (slots_from part base) → readback_words part base m 0 (frame_words part * (n + 1)) ≡ words_along part m base n
words_read part base m n is l =
    let w : ℕ = frame_words part in
    let f : ℕ → ℕ = readback_at part base m in
    let count : w * (n + 1) ≡ w + w * n = grind arith in
    let start : 0 + w ≡ w * (1 + 0) = omega arith in
    let pad : listed f 0 w ≡ replicate w 0 = listed_same f (λ i. 0) 0 0 w (λ i low. ap f (let at : 0 + i ≡ i = omega arith in at) ∙ read_pad_frame part base m i low) ∙ listed_zeros 0 w in
    let rest : listed f (w * (1 + 0)) (w * n) ≡ flat_map (slot_words part m) (take n (slots_from part base)) = slots_listed part m f (slots_from part base) 0 n is l (λ k i few low.
    ap (λ (x : ℕ). f (w * (1 + x) + i)) (let same : 0 + k ≡ k = omega arith in same) ∙ read_frames part base m k i low) in
    words_are part base m 0 (w * (n + 1))
    ∙ ap (listed f 0) count
    ∙ listed_append f 0 w (w * n)
    ∙ ap (λ t. t ++ listed f (0 + w) (w * n)) pad
    ∙ ap (λ (k : ℕ). replicate w 0 ++ listed f k (w * n)) start
    ∙ ap (λ t. replicate w 0 ++ t) rest
