-- Frames as one list of words.
use Rattle.std.proofs.Common.{◌≡◌, ℕ, zero, suc, ◌+◌, ◌-◌, ◌*◌, ◌<◌, ◌≤◌, List, [], ◌∷◌, ◌++◌, length, get_or, set, take, drop, refl, sym, ap, ◌∙◌, arith}
use Rattle.std.proofs.Math.Nat.{mul-suc, mul-zero, zero-add, mul-le-mul_left}
use Rattle.std.proofs.lemmas.List.{length-take-le, length-drop, take_at, drop_at, take-take, drop-take, drop-drop, take-append-le, drop-append-le}

-- words cut into `count` frames of `width` words
pub cut_in_frames : ℕ → ℕ → List ℕ → List (List ℕ)
cut_in_frames width zero words = []
cut_in_frames width (suc count) words = take width words ∷ cut_in_frames width count (drop width words)

pub cut_length : (w n : ℕ) (ws : List ℕ) → length (cut_in_frames w n ws) ≡ n
unfolding cut_in_frames
cut_length w zero ws = refl
cut_length w (suc n) ws = ap suc (cut_length w n (drop w ws))

pub cut_at : (w n i : ℕ) (ws d : List ℕ) → i < n → get_or (cut_in_frames w n ws) i d ≡ take w (drop (w * i) ws)
unfolding cut_in_frames
cut_at w zero i ws d h = absurd (omega arith)
cut_at w (suc n) zero ws d h = rw (mul-zero w) refl
cut_at w (suc n) (suc i) ws d h =
    let e : w + w * i ≡ w * suc i = sym (mul-suc w i ∙ (omega arith)) in
    cut_at w n i (drop w ws) d (omega arith) ∙ ap (take w) (drop-drop (w * i) w ws ∙ ap (λ k. drop k ws) e)

-- frame i of n, from 0, ends within the words of all
pub frame_end : (w n i : ℕ) → i < n → w * i + w ≤ w * n
frame_end w n i h =
    let most : w * suc i ≤ w * n = mul-le-mul_left w (omega arith) in
    let next : w * suc i ≡ w * i + w = mul-suc w i in
    omega arith

-- words cut into frames, where one frame is written over
pub cut_set : (w n i : ℕ) (ws new : List ℕ) → i < n → length new ≡ w → w * n ≤ length ws →
    cut_in_frames w n (take (w * i) ws ++ (new ++ drop (w * i + w) ws)) ≡ set (cut_in_frames w n ws) i new
unfolding cut_in_frames
cut_set w zero i ws new h e long = absurd (omega arith)
cut_set w (suc n) zero ws new h e long =
    let first : take w (new ++ drop w ws) ≡ new = take_at new (drop w ws) w e in
    let rest : drop w (new ++ drop w ws) ≡ drop w ws = drop_at new (drop w ws) w e in
    rw (mul-zero w, zero-add w) (ap (λ f. f ∷ cut_in_frames w n (drop w (new ++ drop w ws))) first ∙ ap (λ r. new ∷ cut_in_frames w n r) rest)
cut_set w (suc n) (suc i) ws new h e long =
    let a : w * suc i ≡ w + w * i = mul-suc w i ∙ (omega arith) in
    let all : w * suc n ≡ w * n + w = mul-suc w n in
    let fits = frame_end w n i (omega arith) in
    let some : length (take (w + w * i) ws) ≡ w + w * i = length-take-le (w + w * i) ws (omega arith) in
    let back = new ++ drop (w + w * i + w) ws in
    let first : take w (take (w + w * i) ws ++ back) ≡ take w ws =
    take-append-le w (take (w + w * i) ws) back (omega arith) ∙ take-take w (w + w * i) ws (omega arith) in
    let after : drop (w + w * i + w) ws ≡ drop (w * i + w) (drop w ws) =
    ap (λ k. drop k ws) (let k : w + w * i + w ≡ w + (w * i + w) = omega arith in k) ∙ sym (drop-drop (w * i + w) w ws) in
    let rest : drop w (take (w + w * i) ws ++ back) ≡ take (w * i) (drop w ws) ++ (new ++ drop (w * i + w) (drop w ws)) =
    drop-append-le w (take (w + w * i) ws) back (omega arith) ∙ ap (λ t. t ++ back) (drop-take w (w * i) ws) ∙ ap (λ d. take (w * i) (drop w ws) ++ (new ++ d)) after in
    let left : length (drop w ws) ≡ length ws - w = length-drop w ws in
    rw a (ap (λ f. f ∷ cut_in_frames w n (drop w (take (w + w * i) ws ++ back))) first
    ∙ ap (λ r. take w ws ∷ cut_in_frames w n r) rest
    ∙ ap (λ fs. take w ws ∷ fs) (cut_set w n i (drop w ws) new (omega arith) e (omega arith)))
