-- The memory of a history has frames of the part's width, at the part's addresses alone.
use Rattle.std.proofs.Common.{◌≡◌, ◌⊎◌, ◌==◌, ◌&&◌, ◌<◌, inl, inr, ℕ, zero, suc, Bool, true, false, if◌then◌else◌, Option, None, Some, List, [], ◌∷◌, length, get_or, refl, sym, ap, subst, ◌∙◌, arith}
use Rattle.std.specs.Prelude.{All, Contains}
use Rattle.std.specs.List.{AllByRecursion}
use Rattle.std.proofs.lemmas.Bool.Decides.{eqb_tells}
use Rattle.std.proofs.lemmas.List.Elements.{All-head}
use Rattle.std.proofs.lemmas.List.{length-replicate}
use Rattle.std.specs.Option.{option_or}
use Rattle.x7_packets.specs.History.{History, command_held, writes}
use Rattle.x7_part.specs.AddressOrder.{addresses_in}
use Rattle.x7_part.specs.Part.{PartData, frame_words}
use Rattle.x7_part.specs.Slot.{slots_from}
use Rattle.x7_part.specs.declared.slot.Slot.{Slot}
use Rattle.x7_part.specs.declared.slot.Slot.TheVariants.{Frame, Pad, End}
use Rattle.x7_memory.specs.FrameMap.{FrameMap}
use Rattle.x7_memory.specs.PartFrames.{zero_frames, zeros}
use Rattle.x7_memory.specs.Plan.{PlanRow, planned}
use Rattle.x7_memory.proofs.FrameLemmas.{among_none}
use Rattle.x7_memory.proofs.MapLemmas.{zeros_at}
use Rattle.x7_memory.proofs.PlanLemmas.{planned_after, planned_here}
use Rattle.x7_pipeline.specs.Copies.{copied_pairs, is_mfw, newest_of}
use Rattle.x7_pipeline.specs.FarAsRead.{is_frame_address}
use Rattle.x7_pipeline.specs.Fault.{completes}
use Rattle.x7_pipeline.specs.Runs.{at_slot, frames_of, put_over}
use Rattle.x7_pipeline.proofs.LawLemmas.{cut}
use Rattle.x7_pipeline.proofs.SlotLemmas.{has_address, slot_address}
use Rattle.x7_flow.specs.Asking.{Asked, CopiesSource, LoadsFar, Commands, NothingAsked, Reads, AddsWord}
use Rattle.x7_flow.specs.HistoryFlow.{asked_after, flow_of, source_of}
use Rattle.x7_flow.specs.FrameMemory.{copy_pairs, written_frames_more, memory_of, newest_put, pairs_put}
use Rattle.x7_flow.specs.HasOnlyFramesOf.{HasOnlyFramesOf}
use Rattle.x7_flow.specs.FlowInWords.{frame_taken, words_written}
use Rattle.x7_flow.proofs.WordLemmas.{source_is}

-- ---- lists

pub contains_or_not : (xs : List ℕ) (x : ℕ) → Contains xs x ⊎ (Contains xs x → ⊥)
contains_or_not [] x = inr (λ h. let low = h.1 in omega arith)
contains_or_not (y ∷ xs) x = elim (eqb_tells x y) [
  | inl e ↦ inl (0, omega arith, sym e.1)
  | inr n ↦ elim (contains_or_not xs x) [
    | inl h ↦ inl (suc h.0, (let low = h.1 in omega arith), h.2)
    | inr free ↦ inr (λ h. later h.0 h.1 h.2 n.1 free)
  ]
]
  where
    later : (k : ℕ) → k < length (y ∷ xs) → get_or (y ∷ xs) k x ≡ x → (x ≡ y → ⊥) → (Contains xs x → ⊥) → ⊥
    later zero low e n free = n (sym e)
    later (suc k) low e n free = free (k, omega arith, e)

-- ---- pairs

-- a pair is at an address of the part, with a frame of its width
abbrev IsFrame : PartData → PlanRow → Type 0
IsFrame part p = Contains (addresses_in part) p.far × (length p.words ≡ frame_words part)

abbrev AreFrames : PartData → List PlanRow → Type 0
AreFrames part pairs = AllByRecursion (IsFrame part) pairs

-- ---- what is put

slot_put : (part : PartData) (s : Slot) (words : List ℕ) → ((far : ℕ) → Frame far ≡ s → Contains (addresses_in part) far) → length words ≡ frame_words part → AreFrames part (at_slot s words [])
slot_put part (Frame far) words f w = ((f far refl, w), tt)
slot_put part Pad words f w = tt
slot_put part End words f w = tt

newest_frames : (part : PartData) (base : ℕ) (frames : List (List ℕ)) → All (λ frame. length frame ≡ frame_words part) frames → AreFrames part (newest_put part base frames)
newest_frames part base [] a = tt
newest_frames part base (frame ∷ older) a =
    slot_put part (get_or (slots_from part base) (length older) End) frame (λ far e. slot_address part base (length older) far e) (All-head (λ t. length t ≡ frame_words part) frame older a)

more_frames : (part : PartData) (base : ℕ) (run : List ℕ) → 0 < frame_words part → AreFrames part (written_frames_more part base run)
unfolding written_frames_more
more_frames part base run some = by (completes part run)
  where
    by : (b : Bool) → AreFrames part (if b then newest_put part base (frames_of (frame_words part) run) else [])
    by true = newest_frames part base (frames_of (frame_words part) run) (cut (frame_words part) run some).each
    by false = tt

-- a source has the width too
abbrev IsWide : PartData → Option (List ℕ) → Type 0
IsWide part None = Unit {0}
IsWide part (Some words) = length words ≡ frame_words part

newest_wide : (part : PartData) (frames : List (List ℕ)) → All (λ frame. length frame ≡ frame_words part) frames → IsWide part (newest_of frames)
newest_wide part [] a = tt
newest_wide part (frame ∷ older) a = All-head (λ t. length t ≡ frame_words part) frame older a

taken_wide : (part : PartData) (h : History) → 0 < frame_words part → IsWide part (frame_taken part h)
unfolding frame_taken
taken_wide part [] some = tt
taken_wide part (e ∷ h) some = by (writes 4 e.access) (command_held (e ∷ h) == 2 && command_held h == 1) (taken_wide part h some)
  where
    by : (a b : Bool) → IsWide part (frame_taken part h) → IsWide part (if a then (if b then newest_of (frames_of (frame_words part) (words_written part.idcode h)) else None) else frame_taken part h)
    by true true w = newest_wide part (frames_of (frame_words part) (words_written part.idcode h)) (cut (frame_words part) (words_written part.idcode h) some).each
    by true false w = tt
    by false b w = w

copied_frames : (part : PartData) (base : ℕ) (source : Option (List ℕ)) → Contains (addresses_in part) base → IsWide part source → AreFrames part (copied_pairs base source)
copied_frames part base None h w = tt
copied_frames part base (Some words) h w = ((h, w), tt)

copies_frames : (part : PartData) (h : History) → 0 < frame_words part → AreFrames part (copy_pairs part (flow_of part h))
copies_frames part h some = by (is_mfw (flow_of part h).command) (is_frame_address part (flow_of part h).base) refl
  where
    by : (a b : Bool) → is_frame_address part (flow_of part h).base ≡ b → AreFrames part (if a && b then copied_pairs (flow_of part h).base (source_of part h) else [])
    by true true e = copied_frames part (flow_of part h).base (source_of part h) (has_address part (flow_of part h).base e) (subst (IsWide part) (sym (source_is part h)) (taken_wide part h some))
    by true false e = tt
    by false b e = tt

puts_frames : (part : PartData) (a : Asked) (h : History) → 0 < frame_words part → AreFrames part (pairs_put part a (flow_of part h))
puts_frames part (LoadsFar w) h some = tt
puts_frames part (Commands c) h some = tt
puts_frames part (AddsWord w) h some = more_frames part (flow_of part h).base (flow_of part h).run some
puts_frames part CopiesSource h some = copies_frames part h some
puts_frames part (Reads n) h some = tt
puts_frames part NothingAsked h some = tt

-- ---- the memory

pairs_inside : (part : PartData) (pairs : List PlanRow) (far : ℕ) → AreFrames part pairs → (Contains (addresses_in part) far → ⊥) → planned pairs far ≡ None
unfolding planned
pairs_inside part [] far a n = refl
pairs_inside part (p ∷ pairs) far a n = planned_after p pairs far (λ e. n (subst (Contains (addresses_in part)) (sym e) a.0.0)) ∙ pairs_inside part pairs far a.1 n

pairs_wide : (part : PartData) (pairs : List PlanRow) (far : ℕ) (words : List ℕ) → AreFrames part pairs → planned pairs far ≡ Some words → length words ≡ frame_words part
unfolding planned
pairs_wide part [] far words a e = absurd (cc)
pairs_wide part (p ∷ pairs) far words a e =
    elim (eqb_tells far p.far) [
      | inl y ↦ (let same : Some p.words ≡ Some words = sym (planned_here p pairs far y.1) ∙ e in let is : p.words ≡ words = cc in ap length (sym is) ∙ a.0.1)
      | inr n ↦ pairs_wide part pairs far words a.1 (sym (planned_after p pairs far n.1) ∙ e)
    ]

put_memory : (part : PartData) (pairs : List PlanRow) (m : FrameMap) → AreFrames part pairs → HasOnlyFramesOf part m → HasOnlyFramesOf part (put_over pairs m)
put_memory part pairs m a i = record {
  inside = λ far n. ap (λ t. option_or t (m far)) (pairs_inside part pairs far a n) ∙ i.inside far n;
  wide = λ far words e. by far (planned pairs far) words refl e;
}
  where
    by : (far : ℕ) (o : Option (List ℕ)) (words : List ℕ) → planned pairs far ≡ o → option_or o (m far) ≡ Some words → length words ≡ frame_words part
    by far None words e f = i.wide far words f
    by far (Some x) words e f = pairs_wide part pairs far words a (e ∙ f)

zeros_memory : (part : PartData) → HasOnlyFramesOf part (zeros part)
zeros_memory part = record {
  inside = λ far n. among_none far (addresses_in part) (zero_frames part) n;
  wide = λ far words e. elim (contains_or_not (addresses_in part) far) [
    | inl h ↦ (let at : zeros part far ≡ Some _ = zeros_at part far h in let same : Some _ ≡ Some words = sym at ∙ e in let is : _ ≡ words = cc in ap length (sym is) ∙ length-replicate (frame_words part) 0)
    | inr n ↦ absurd (let none : zeros part far ≡ None = among_none far (addresses_in part) (zero_frames part) n in let no : None ≡ Some words = sym none ∙ e in cc)
  ];
}

pub memory_has : (part : PartData) (h : History) → 0 < frame_words part → HasOnlyFramesOf part (memory_of part h)
unfolding memory_of
memory_has part [] some = zeros_memory part
memory_has part (e ∷ h) some = put_memory part (pairs_put part (asked_after part.idcode h e.access) (flow_of part h)) (memory_of part h) (puts_frames part (asked_after part.idcode h e.access) h some) (memory_has part h some)
