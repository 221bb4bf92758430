-- A run and one word more.
use Rattle.std.proofs.Common.{◌≡◌, ℕ, ◌+◌, ◌*◌, List, [], ◌∷◌, ◌++◌, length, inl, inr, refl, ap, ◌∙◌, arith, length-append, eq-eqb, ne_eqb}
use Rattle.std.proofs.lemmas.Bool.{cases_eq}
use Rattle.x7_pipeline.specs.Runs.{rest_of, frames_of}

-- ---- within a frame

pub rest_goes_on : (width w : ℕ) (run : List ℕ) → (length (rest_of width run) + 1 ≡ width → ⊥) → rest_of width (w ∷ run) ≡ rest_of width run ++ w ∷ []
unfolding rest_of
rest_goes_on width w run n = rw (ne_eqb (length (rest_of width run) + 1) width n) refl

pub frames_goes_on : (width w : ℕ) (run : List ℕ) → (length (rest_of width run) + 1 ≡ width → ⊥) → frames_of width (w ∷ run) ≡ frames_of width run
unfolding frames_of
frames_goes_on width w run n = rw (ne_eqb (length (rest_of width run) + 1) width n) refl

-- ---- at its last word

pub rest_completes : (width w : ℕ) (run : List ℕ) → length (rest_of width run) + 1 ≡ width → rest_of width (w ∷ run) ≡ []
unfolding rest_of
rest_completes width w run e = rw (eq-eqb (length (rest_of width run) + 1) width e) refl

pub frames_completes : (width w : ℕ) (run : List ℕ) → length (rest_of width run) + 1 ≡ width → frames_of width (w ∷ run) ≡ (rest_of width run ++ w ∷ []) ∷ frames_of width run
unfolding frames_of
frames_completes width w run e = rw (eq-eqb (length (rest_of width run) + 1) width e) refl

-- ---- sizes

-- a run of some words has a rest or a frame
pub some_words : (width w : ℕ) (run : List ℕ) → length (rest_of width (w ∷ run)) ≡ 0 → length (frames_of width (w ∷ run)) ≡ 0 → ⊥
some_words width w run no_rest no_frame =
    elim (cases_eq (length (rest_of width run) + 1) width) [
      | inl e ↦ let c = ap length (frames_completes width w run e) in omega arith
      | inr n ↦ let r = ap length (rest_goes_on width w run n) in
          let long = length-append (rest_of width run) (w ∷ []) in omega arith
    ]

-- a run's words are those of its frames and of its rest
nothing_cut : (width : ℕ) → length {A = ℕ} [] ≡ width * length (frames_of width []) + length (rest_of width [])
unfolding frames_of rest_of
nothing_cut width = omega arith

pub length_run : (width : ℕ) (run : List ℕ) → length run ≡ width * length (frames_of width run) + length (rest_of width run)
length_run width [] = nothing_cut width
length_run width (w ∷ run) =
    let ih : length run ≡ width * length (frames_of width run) + length (rest_of width run) = length_run width run in
    elim (cases_eq (length (rest_of width run) + 1) width) [
      | inl y ↦ (let rest : length (rest_of width (w ∷ run)) ≡ 0 = ap length (rest_completes width w run y) in
          let frames : length (frames_of width (w ∷ run)) ≡ length (frames_of width run) + 1 = omega (arith, ap length (frames_completes width w run y)) in
          let product : width * length (frames_of width (w ∷ run)) ≡ width * length (frames_of width run) + width = ap (λ (k : ℕ). width * k) frames ∙ grind arith in
          omega (arith, ih, rest, product, y))
      | inr n ↦ (let rest : length (rest_of width (w ∷ run)) ≡ length (rest_of width run) + 1 = ap length (rest_goes_on width w run n) ∙ length-append (rest_of width run) (w ∷ []) in
          let frames : width * length (frames_of width (w ∷ run)) ≡ width * length (frames_of width run) = ap (λ t. width * length t) (frames_goes_on width w run n) in
          omega (arith, ih, rest, frames))
    ]
