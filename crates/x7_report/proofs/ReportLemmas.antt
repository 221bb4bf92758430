-- Lemmas on the frames of a report.
use Rattle.std.proofs.Common.{◌≡◌, ◌<◌, ◌≤◌, ◌+◌, ℕ, Bool, true, false, if◌then◌else◌, Option, codes, decimal, List, [], ◌∷◌, ◌++◌, length, take, get_or, refl, ap, sym, ◌∙◌, append_assoc, append-nil, arith, length-append, Vec}
use Rattle.std.specs.List.{flat_map}
use Rattle.std.proofs.lemmas.Bool.{lt-ltb}
use Rattle.std.proofs.lemmas.Grind.{flat_map-append}
use Rattle.std.proofs.lemmas.List.{take_all, take_more}
use Rattle.std.specs.declared.alloc.Global.{Global}
use Rattle.x7_text.specs.Appends.{Appends}
use Rattle.x7_part.specs.AddressOrder.{addresses_in}
use Rattle.x7_part.specs.Part.{PartData}
use Rattle.x7_memory.specs.FrameMap.{HaveSameFrames, FrameMap}
use Rattle.x7_memory.specs.PartFrames.{frame_at}
use Rattle.x7_report.specs.Frames.{AreRanksShown, addresses_shown, frame_text_if, frames_text, has_nonzero_word, line_of_rank, lines_of_ranks}

pub shown_append : (memory : FrameMap) (xs ys : List ℕ) → addresses_shown memory (xs ++ ys) ≡ addresses_shown memory xs ++ addresses_shown memory ys
shown_append memory [] ys = refl
shown_append memory (x ∷ xs) ys = by (has_nonzero_word (memory x)) (addresses_shown memory xs) (addresses_shown memory (xs ++ ys)) (shown_append memory xs ys)
  where
    by : (b : Bool) (first all : List ℕ) → all ≡ first ++ addresses_shown memory ys → (if b then x ∷ all else all) ≡ (if b then x ∷ first else first) ++ addresses_shown memory ys
    by true first all e = ap (λ t. x ∷ t) e
    by false first all e = e

shown_more : (memory : FrameMap) (fars : List ℕ) (i : ℕ) (b : Bool) → i < length fars → has_nonzero_word (memory (get_or fars i 0)) ≡ b → addresses_shown memory (take (i + 1) fars) ≡ addresses_shown memory (take i fars) ++ (if b then get_or fars i 0 ∷ [] else [])
shown_more memory fars i b l e =
    ap (addresses_shown memory) (take_more fars i 0 l) ∙ shown_append memory (take i fars) (get_or fars i 0 ∷ [])
    ∙ ap (λ (x : Bool). addresses_shown memory (take i fars) ++ (if x then get_or fars i 0 ∷ [] else [])) e

-- one rank more: it is shown where its frame has a word other than 0
pub ranks_more : (part : PartData) (frames : List (List ℕ)) (ranks : List ℕ) (i : ℕ) (b : Bool) → i < length (addresses_in part) → has_nonzero_word (frame_at part frames (get_or (addresses_in part) i 0)) ≡ b
    → AreRanksShown part frames (take i (addresses_in part)) ranks → AreRanksShown part frames (take (i + 1) (addresses_in part)) (ranks ++ (if b then i ∷ [] else []))
ranks_more part frames ranks i b few e shown = record {
  count = counted b ∙ ap length (sym more);
  lines = flat_map-append (line_of_rank part frames) ranks (if b then i ∷ [] else []) ∙ ap (λ (t : List ℕ). t ++ lines_of_ranks part frames (if b then i ∷ [] else [])) shown.lines
      ∙ ap (λ (t : List ℕ). flat_map text before ++ t) (last b) ∙ sym (flat_map-append text before (if b then far ∷ [] else [])) ∙ ap (flat_map text) (sym more);
}
  where
    far : ℕ
    far = get_or (addresses_in part) i 0

    text : ℕ → List ℕ
    text x = frame_text_if x (frame_at part frames x)

    before : List ℕ
    before = addresses_shown (frame_at part frames) (take i (addresses_in part))

    more : addresses_shown (frame_at part frames) (take (i + 1) (addresses_in part)) ≡ before ++ (if b then far ∷ [] else [])
    more = shown_more (frame_at part frames) (addresses_in part) i b few e

    counted : (b : Bool) → length (ranks ++ (if b then i ∷ [] else [])) ≡ length (before ++ (if b then far ∷ [] else []))
    counted true = omega (arith, length-append ranks (i ∷ []), length-append before (far ∷ []), shown.count)
    counted false = omega (arith, length-append ranks [], length-append before [], shown.count)

    last : (b : Bool) → lines_of_ranks part frames (if b then i ∷ [] else []) ≡ flat_map text (if b then far ∷ [] else [])
    last true = ap (λ (t : Bool). (if t then text far else []) ++ []) (lt-ltb i (length (addresses_in part)) few)
    last false = refl

shown_same : (m n : FrameMap) (fars : List ℕ) → HaveSameFrames m n → addresses_shown m fars ≡ addresses_shown n fars
shown_same m n [] same = refl
shown_same m n (x ∷ fars) same = ap (λ (o : Option (List ℕ)). if has_nonzero_word o then x ∷ addresses_shown m fars else addresses_shown m fars) (same x) ∙ ap (λ t. if has_nonzero_word (n x) then x ∷ t else t) (shown_same m n fars same)

lines_same : (m n : FrameMap) (fars : List ℕ) → HaveSameFrames m n → flat_map (λ far. frame_text_if far (m far)) fars ≡ flat_map (λ far. frame_text_if far (n far)) fars
lines_same m n [] same = refl
lines_same m n (x ∷ fars) same = ap (λ (o : Option (List ℕ)). frame_text_if x o ++ flat_map (λ far. frame_text_if far (m far)) fars) (same x) ∙ ap (λ t. frame_text_if x (n x) ++ t) (lines_same m n fars same)

-- maps that have the same frames are shown alike
pub frames_same : (m n : FrameMap) (fars : List ℕ) → HaveSameFrames m n → frames_text m fars ≡ frames_text n fars
unfolding frames_text
frames_same m n fars same =
    ap (λ (xs : List ℕ). codes "frames " ++ decimal (length xs) ++ codes "\n" ++ flat_map (λ far. frame_text_if far (m far)) xs) (shown_same m n fars same)
    ∙ ap (λ (t : List ℕ). codes "frames " ++ decimal (length (addresses_shown n fars)) ++ codes "\n" ++ t) (lines_same m n (addresses_shown n fars) same)

-- one item more is appended, in a loop over all items
pub item_more : {A : Type 0} (text : A → List ℕ) (items : List A) (default : A) (i was now most : ℕ) (start old new : Vec ℕ Global) → i < length items → now ≡ was + most
    → Appends start old (flat_map text (take i items)) was → Appends old new (text (get_or items i default)) most → Appends start new (flat_map text (take (i + 1) items)) now
item_more text items default i was now most start old new h sum o n = record {
  items = n.items ∙ ap (λ (t : List ℕ). t ++ last) o.items ∙ append_assoc start.items (flat_map text (take i items)) last ∙ ap (λ (t : List ℕ). start.items ++ t) (sym more);
  within = omega (arith, n.within, o.within, sum);
  room = omega (arith, n.room, o.room);
}
  where
    last : List ℕ
    last = text (get_or items i default)

    more : flat_map text (take (i + 1) items) ≡ flat_map text (take i items) ++ last
    more = ap (flat_map text) (take_more items i default h) ∙ flat_map-append text (take i items) (get_or items i default ∷ []) ∙ ap (λ (t : List ℕ). flat_map text (take i items) ++ t) (append-nil last)

-- no item was appended yet
pub none_appended : (text : Vec ℕ Global) → Appends text text [] 0
none_appended text = record { items = sym (append-nil text.items); within = omega arith; room = omega arith }

-- all items were appended
pub all_appended : {A : Type 0} (text : A → List ℕ) (items : List A) (i n most : ℕ) (start new : Vec ℕ Global) → length items ≤ i → n ≤ most → Appends start new (flat_map text (take i items)) n → Appends start new (flat_map text items) most
all_appended text items i n most start new h l o = record {
  items = o.items ∙ ap (λ xs. start.items ++ flat_map text xs) (take_all i items h);
  within = omega (arith, o.within, l);
  room = o.room;
}
