-- Elements that leave an open line open.
use Rattle.std.proofs.Common.{◌≡◌, ℕ, zero, suc, ◌+◌, ◌*◌, ◌<◌, ◌≤◌, ◌==◌, false, List, [], ◌∷◌, ◌++◌, codes, length, length-append, take, refl, ap, sym, ◌∙◌, append_assoc, append-nil, arith, Vec}
use Rattle.std.proofs.lemmas.Bool.Decides.{nat_tests}
use Rattle.std.proofs.lemmas.List.{take_at}
use Rattle.std.specs.List.{flat_map}
use Rattle.std.specs.declared.alloc.Global.{Global}
use Rattle.x7_text.specs.Appends.{Appends}
use Rattle.x7_text.specs.Digits.{hex_byte}
use Rattle.x7_text.specs.Row.{in_line_after, line_start, open_text}
use Rattle.x7_text.proofs.WholeLineLemmas.{length_hex_bytes}

after_first : (n : ℕ) (word : List ℕ) (text : ℕ → List ℕ) (i : ℕ) (xs : List ℕ) → 0 < i → i + length xs < n → open_text n word text i xs ≡ flat_map text xs
after_first n word text i [] p h = refl
after_first n word text i (x ∷ xs) p h =
    let a : (i == 0) ≡ false = grind (arith, nat_tests) in
    let b : (i + 1 == n) ≡ false = grind (arith, nat_tests) in
    rw (a, b) (ap (λ t. t ++ open_text n word text (i + 1) xs) (append-nil (text x)) ∙ ap (λ t. text x ++ t) (after_first n word text (i + 1) xs (omega arith) (omega arith)))

pub few_text : (n : ℕ) (word : List ℕ) (text : ℕ → List ℕ) (i : ℕ) (xs : List ℕ) → 0 < length xs → i + length xs < n → open_text n word text i xs ≡ line_start word i ++ flat_map text xs
few_text n word text i [] p h = absurd (omega (arith, p))
few_text n word text i (x ∷ xs) p h =
    let b : (i + 1 == n) ≡ false = grind (arith, nat_tests) in
    rw b (ap (λ t. t ++ open_text n word text (i + 1) xs) (append-nil (line_start word i ++ text x)) ∙ ap (λ t. line_start word i ++ text x ++ t) (after_first n word text (i + 1) xs (omega arith) (omega arith)) ∙ append_assoc (line_start word i) (text x) (flat_map text xs))

pub few_count : (n i : ℕ) (xs : List ℕ) → i + length xs < n → in_line_after n i xs ≡ i + length xs
few_count n i [] h = omega arith
few_count n i (x ∷ xs) h =
    let b : (i + 1 == n) ≡ false = grind (arith, nat_tests) in
    let rest : in_line_after n (i + 1) xs ≡ i + 1 + length xs = few_count n (i + 1) xs (omega arith) in
    rw b (omega (arith, rest))

pub hex_prefix : (k : ℕ) (bs : List ℕ) → k ≤ length bs → take (2 * k) (flat_map hex_byte bs) ≡ flat_map hex_byte (take k bs)
hex_prefix zero bs h = refl
hex_prefix (suc k) [] h = absurd (omega (arith, h))
hex_prefix (suc k) (b ∷ bs) h =
    let two : 2 * suc k ≡ suc (suc (2 * k)) = omega arith in
    ap (λ (m : ℕ). take m (flat_map hex_byte (b ∷ bs))) two ∙ ap (λ t. hex_byte b ++ t) (hex_prefix k bs (omega (arith, h)))

-- the digits of bytes that others follow
pub hex_of_prefix : (bytes prefix rest digits : List ℕ) → prefix ≡ bytes → digits ≡ flat_map hex_byte (prefix ++ rest) → take (2 * length bytes) digits ≡ flat_map hex_byte bytes
hex_of_prefix bytes prefix rest digits e f =
    ap (take (2 * length bytes)) (f ∙ ap (λ t. flat_map hex_byte (t ++ rest)) e)
    ∙ hex_prefix (length bytes) (bytes ++ rest) (omega (arith, length-append bytes rest)) ∙ ap (flat_map hex_byte) (take_at bytes rest (length bytes) refl)

-- text that begins a line where none is open, and digits
pub few_appends : (t0 t1 t2 : Vec ℕ Global) (i : ℕ) (bytes digits : List ℕ) → 0 < length bytes → i + length bytes < 32 → digits ≡ flat_map hex_byte bytes
    → Appends t0 t1 (line_start (codes "bytes ") i) 6 → Appends t1 t2 digits (length digits) → Appends t0 t2 (open_text 32 (codes "bytes ") hex_byte i bytes) (2 * length bytes + 6)
few_appends t0 t1 t2 i bytes digits some fits e a b =
    record {
      items = b.items ∙ ap (λ t. t1.items ++ t) e ∙ ap (λ t. t ++ flat_map hex_byte bytes) a.items ∙ append_assoc t0.items (line_start (codes "bytes ") i) (flat_map hex_byte bytes) ∙ ap (λ t. t0.items ++ t) (sym (few_text 32 (codes "bytes ") hex_byte i bytes some fits));
      within = omega (arith, a.within, b.within, ap length e, length_hex_bytes bytes);
      room = omega (arith, a.room, b.room);
    }
