-- Lemmas on the layout of an image.
use Rattle.std.proofs.Common.{◌≡◌, ℕ, ◌/◌, List, ◌++◌, length, ap, ◌∙◌}
use Rattle.std.specs.List.{AllZip, repeat, each_same}
use Rattle.x7_boot.specs.Image.{free_slots, first_sector, slot, image_of, image_size, place_after_golden, filled_to}

-- the image by its places
pub image_put : (unit place size start : ℕ) (golden update all : List ℕ) → place ≡ place_after_golden (length golden) → size ≡ image_size (length golden) (length update)
    → start ≡ place / unit → all ≡ filled_to size (filled_to place (first_sector start ++ golden) ++ update) → all ≡ image_of unit golden update
unfolding image_of
image_put unit place size start golden update all p s t e =
    e ∙ ap (λ n. filled_to n (filled_to place (first_sector start ++ golden) ++ update)) s
    ∙ ap (λ n. filled_to (image_size (length golden) (length update)) (filled_to place (first_sector n ++ golden) ++ update)) t
    ∙ ap (λ n. filled_to (image_size (length golden) (length update)) (filled_to n (first_sector (n / unit) ++ golden) ++ update)) p

-- all slots but the first
pub free_slots_are : (start : ℕ) (one all : List ℕ) → one ≡ slot 0xFFFFFFFF start → AllZip (λ x y. y ≡ x) (repeat 2047 one) all → all ≡ free_slots start
unfolding free_slots
free_slots_are start one all e f = each_same (repeat 2047 one) all f ∙ ap (λ o. repeat 2047 o) e
