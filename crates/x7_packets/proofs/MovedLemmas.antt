-- Lemmas on histories with moved places.
use Rattle.std.proofs.Common.{◌≡◌, ℕ, ◌+◌, [], ◌∷◌, ◌++◌, refl, ap, ◌∙◌, arith}
use Rattle.x7_packets.specs.Appended.{moved}
use Rattle.x7_packets.specs.History.{Access, Entry, History, entry}

pub moved_again : (n m : ℕ) (h : History) → moved n (moved m h) ≡ moved (n + m) h
moved_again n m [] = refl
moved_again n m (e ∷ h) =
    let at : n + (m + e.place) ≡ n + m + e.place = omega arith in
    ap (λ (p : ℕ). entry e.access p ∷ moved n (moved m h)) at ∙ ap (λ (t : History). entry e.access (n + m + e.place) ∷ t) (moved_again n m h)

pub moved_append : (n : ℕ) (g h : History) → moved n (g ++ h) ≡ moved n g ++ moved n h
moved_append n [] h = refl
moved_append n (e ∷ g) h = ap (λ (t : History). entry e.access (n + e.place) ∷ t) (moved_append n g h)

-- ---- moved by as much they are the same only where they were

access_is : (a b : Access) (p q : ℕ) (g h : History) → entry a p ∷ g ≡ entry b q ∷ h → a ≡ b
access_is a b p q g h e = let first : entry a p ≡ entry b q = cc in ap (λ (x : Entry). x.access) first

place_is : (a b : Access) (p q : ℕ) (g h : History) → entry a p ∷ g ≡ entry b q ∷ h → p ≡ q
place_is a b p q g h e = let first : entry a p ≡ entry b q = cc in ap (λ (x : Entry). x.place) first

rest_is : (a b : Access) (p q : ℕ) (g h : History) → entry a p ∷ g ≡ entry b q ∷ h → g ≡ h
rest_is a b p q g h e = cc

pub moved_same : (n : ℕ) (g h : History) → moved n g ≡ moved n h → g ≡ h
moved_same n [] [] e = refl
moved_same n [] (f ∷ h) e = absurd (cc)
moved_same n (x ∷ g) [] e = absurd (cc)
moved_same n (x ∷ g) (f ∷ h) e =
    let a : x.access ≡ f.access = access_is x.access f.access (n + x.place) (n + f.place) (moved n g) (moved n h) e in
    let sum : n + x.place ≡ n + f.place = place_is x.access f.access (n + x.place) (n + f.place) (moved n g) (moved n h) e in
    let p : x.place ≡ f.place = omega (arith, sum) in
    let r : g ≡ h = moved_same n g h (rest_is x.access f.access (n + x.place) (n + f.place) (moved n g) (moved n h) e) in
    ap (λ (y : Access). entry y x.place ∷ g) a ∙ ap (λ (y : ℕ). entry f.access y ∷ g) p ∙ ap (λ (y : History). entry f.access f.place ∷ y) r
