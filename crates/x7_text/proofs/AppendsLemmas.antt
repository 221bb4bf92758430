-- What was appended, said in other words.
use Rattle.std.proofs.Common.{◌≡◌, ℕ, ◌+◌, ◌<◌, ◌≤◌, List, [], ◌∷◌, ◌++◌, get_or, length, take, ap, sym, ◌∙◌, append_assoc, append-nil, arith, Vec}
use Rattle.std.proofs.lemmas.Grind.{flat_map-append}
use Rattle.std.proofs.lemmas.List.{take_more}
use Rattle.std.specs.List.{flat_map}
use Rattle.std.specs.declared.alloc.Global.{Global}
use Rattle.x7_text.specs.Appends.{Appends}

-- an equal text, within a larger bound
pub appends_as : (old new : Vec ℕ Global) (a b : List ℕ) (n m : ℕ) → Appends old new a n → a ≡ b → n ≤ m → Appends old new b m
appends_as old new a b n m h e l = record { items = h.items ∙ ap (λ t. old.items ++ t) e; within = omega (arith, h.within); room = h.room }

-- one line more is appended: that of the next row
pub line_more : (line : List ℕ → List ℕ) (rows : List (List ℕ)) (i was now : ℕ) (start old new : Vec ℕ Global) (bytes : List ℕ) → i < length rows → bytes ≡ line (get_or rows i []) → was + length bytes ≤ now
    → Appends start old (flat_map line (take i rows)) was → Appends old new bytes (length bytes) → Appends start new (flat_map line (take (i + 1) rows)) now
line_more line rows i was now start old new bytes h is fit o n = record {
  items = n.items ∙ ap (λ t. t ++ bytes) o.items ∙ append_assoc start.items (flat_map line (take i rows)) bytes ∙ ap (λ t. start.items ++ t) (sym more);
  within = omega (arith, n.within, o.within, fit);
  room = omega (arith, n.room, o.room);
}
  where
    more : flat_map line (take (i + 1) rows) ≡ flat_map line (take i rows) ++ bytes
    more = ap (flat_map line) (take_more rows i [] h) ∙ flat_map-append line (take i rows) (get_or rows i [] ∷ []) ∙ ap (λ t. flat_map line (take i rows) ++ t) (append-nil (line (get_or rows i [])) ∙ sym is)
