-- What was given of a full stream, and what is left of it.
use Rattle.std.proofs.Common.{◌≡◌, ℕ, ◌+◌, ◌-◌, ◌<◌, ◌≤◌, List, [], ◌∷◌, ◌++◌, length, take, drop, min, fold, refl, sym, ap, subst, ◌∙◌, arith, append_assoc, append-nil, take-add, take_all}
use Rattle.std.proofs.Math.Seq.{drop-append_seam}
use Rattle.std.proofs.lemmas.List.{drop-take, take-append-drop, take_rest}
use Rattle.std.proofs.lemmas.Grind.{flat_map-append}
use Rattle.x7_words.specs.Word.{bytes_of_word}
use Rattle.x7_part.specs.Part.{PartData}
use Rattle.x7_part.specs.Slot.{slots_in}
use Rattle.x7_part.specs.declared.slot.Slot.{Slot}
use Rattle.x7_memory.specs.Plan.{PlanData}
use Rattle.x7_planner.specs.FullStream.{frame_at_slot, full_ending, full_opening, full_stream, words_of_slots, start_words}
use Rattle.x7_planner.specs.Writer.{StreamPiece, Words, Check, bytes_of_words, check_words, stream_of, with_piece}
use Rattle.x7_crc.specs.Checker.{check_of_bytes, HasTaken}
use Rattle.x7_planner.specs.FullStreamPieces.{FullStreamState, HasGiven, IsFullStream, AppendsNext, WritesPiece, calls_from, piece_slots, puts_left, frame_pieces, pieces_before, pieces_to, slot_next}
use Rattle.x7_planner.specs.declared.full_stream.NextPiece.{NextPiece}
use Rattle.x7_planner.specs.declared.full_stream.NextPiece.TheVariants as next

-- what pieces add to bytes
pub rest_of : (bytes : List ℕ) (pieces : List StreamPiece) → (left : List ℕ) × (bytes ++ left ≡ fold with_piece bytes pieces)
rest_of bytes [] = ([], append-nil bytes)
rest_of bytes (Words ws ∷ pieces) =
    let rest = rest_of (bytes ++ bytes_of_words ws) pieces in
    (bytes_of_words ws ++ rest.0, sym (append_assoc bytes (bytes_of_words ws) rest.0) ∙ rest.1)
rest_of bytes (Check ∷ pieces) =
    let more : List ℕ = bytes_of_words (check_words (check_of_bytes bytes)) in
    let rest = rest_of (bytes ++ more) pieces in
    (more ++ rest.0, sym (append_assoc bytes more rest.0) ∙ rest.1)

-- the words of some slots, and of those after them
pub slots_on : (part : PartData) (plan : PlanData) (n : ℕ) → bytes_of_words (words_of_slots part plan (take n (slots_in part))) ++ bytes_of_words (words_of_slots part plan (drop n (slots_in part))) ≡ bytes_of_words (words_of_slots part plan (slots_in part))
slots_on part plan n =
    let places = slots_in part in
    sym (flat_map-append bytes_of_word (words_of_slots part plan (take n places)) (words_of_slots part plan (drop n places)))
    ∙ ap bytes_of_words (sym (flat_map-append (frame_at_slot part plan) (take n places) (drop n places)) ∙ ap (words_of_slots part plan) (take-append-drop n places))

-- the bytes before what is next begin the stream
pub left_of : (part : PartData) (plan : PlanData) (after : NextPiece) → (left : List ℕ) × (stream_of (pieces_before part plan after) ++ left ≡ full_stream part plan)
left_of part plan next.Opening = (full_stream part plan, refl)
left_of part plan (next.Slot n) =
    let prefix : List ℕ = bytes_of_words (full_opening part) in
    let first : List ℕ = bytes_of_words (words_of_slots part plan (take n (slots_in part))) in
    let second : List ℕ = bytes_of_words (words_of_slots part plan (drop n (slots_in part))) in
    let rest = rest_of (stream_of (frame_pieces part plan)) (Check ∷ Words start_words ∷ Check ∷ Words full_ending ∷ []) in
    (second ++ rest.0, sym (append_assoc (prefix ++ first) second rest.0) ∙ ap (λ (t : List ℕ). t ++ rest.0) (append_assoc prefix first second ∙ ap (λ (t : List ℕ). prefix ++ t) (slots_on part plan n)) ∙ rest.1)
left_of part plan next.Check = rest_of (stream_of (pieces_before part plan next.Check)) (Check ∷ Words start_words ∷ Check ∷ Words full_ending ∷ [])
left_of part plan next.Start = rest_of (stream_of (pieces_before part plan next.Start)) (Words start_words ∷ Check ∷ Words full_ending ∷ [])
left_of part plan next.LastCheck = rest_of (stream_of (pieces_before part plan next.LastCheck)) (Check ∷ Words full_ending ∷ [])
left_of part plan next.Desync = rest_of (stream_of (pieces_before part plan next.Desync)) (Words full_ending ∷ [])
left_of part plan next.Nothing = ([], append-nil (full_stream part plan))

-- ---- what is next, given

-- the words of the slots up to n, and of those from there to another place
pub slots_to : (part : PartData) (plan : PlanData) (n to : ℕ) → n ≤ to →
    bytes_of_words (words_of_slots part plan (take n (slots_in part))) ++ bytes_of_words (words_of_slots part plan (drop n (take to (slots_in part)))) ≡ bytes_of_words (words_of_slots part plan (take to (slots_in part)))
slots_to part plan n to h =
    let places = slots_in part in
    let m : ℕ = to - n in
    let e : n + m ≡ to = omega arith in
    let joined : take n places ++ drop n (take to places) ≡ take to places =
    ap (λ (k : ℕ). take n places ++ drop n (take k places)) (sym e) ∙ ap (λ (t : List Slot). take n places ++ t) (drop-take n m places) ∙ sym (take-add n m places) ∙ ap (λ (k : ℕ). take k places) e in
    sym (flat_map-append bytes_of_word (words_of_slots part plan (take n places)) (words_of_slots part plan (drop n (take to places))))
    ∙ ap bytes_of_words (sym (flat_map-append (frame_at_slot part plan) (take n places) (drop n (take to places))) ∙ ap (words_of_slots part plan) joined)

-- the slot that is next, by its name
pub inside_at : (s : FullStreamState) (n : ℕ) → s.next_piece ≡ next.Slot n → IsFullStream s → n ≤ length (slots_in s.part)
inside_at s n e is = subst (λ (x : NextPiece). slot_next x ≤ length (slots_in s.part)) e is.inside

-- the bytes before what is next, by its name
before_at : (s : FullStreamState) (given : List ℕ) (at : NextPiece) → s.next_piece ≡ at → HasGiven s given → given ≡ stream_of (pieces_before s.part s.plan at)
before_at s given at e h = h.before ∙ ap (λ (x : NextPiece). stream_of (pieces_before s.part s.plan x)) e

calls_at : (s : FullStreamState) (at after : NextPiece) → s.next_piece ≡ at → calls_from (length (slots_in s.part)) after < calls_from (length (slots_in s.part)) at → calls_from (length (slots_in s.part)) after < puts_left s
calls_at s at after e h = subst (λ (x : NextPiece). calls_from (length (slots_in s.part)) after < calls_from (length (slots_in s.part)) x) (sym e) h

module _ (s : FullStreamState) (old new : List ℕ) where
  frames_before : (n to : ℕ) → s.next_piece ≡ next.Slot n → n ≤ to → (given : List ℕ) → HasGiven s given →
      given ++ bytes_of_words (words_of_slots s.part s.plan (drop n (take to (slots_in s.part)))) ≡ stream_of (pieces_to s.part s.plan to)
  frames_before n to e h given t =
      let prefix : List ℕ = bytes_of_words (full_opening s.part) in
      let first : List ℕ = bytes_of_words (words_of_slots s.part s.plan (take n (slots_in s.part))) in
      let piece : List ℕ = bytes_of_words (words_of_slots s.part s.plan (drop n (take to (slots_in s.part)))) in
      ap (λ (x : List ℕ). x ++ piece) (before_at s given (next.Slot n) e t) ∙ append_assoc prefix first piece ∙ ap (λ (x : List ℕ). prefix ++ x) (slots_to s.part s.plan n to h)

  pub wrote_slots : (n count to : ℕ) → s.next_piece ≡ next.Slot n → n ≤ length (slots_in s.part) → count ≡ length (slots_in s.part) → to ≡ min count (n + piece_slots) → (to ≡ count → ⊥)
      → new ≡ old ++ bytes_of_words (words_of_slots s.part s.plan (drop n (take to (slots_in s.part)))) → WritesPiece s old new (next.Slot to)
  wrote_slots n count to e within c m more adds = record {
    piece = bytes_of_words (words_of_slots s.part s.plan (drop n (take to (slots_in s.part))));
    adds = adds;
    before = frames_before n to e (omega (arith, within, c, m));
    inside = omega (arith, c, m);
    fewer = λ _. calls_at s (next.Slot n) (next.Slot to) e (omega (arith, within, c, m, more));
  }

  pub wrote_frames : (n count to : ℕ) → s.next_piece ≡ next.Slot n → n ≤ length (slots_in s.part) → count ≡ length (slots_in s.part) → to ≡ min count (n + piece_slots) → to ≡ count
      → new ≡ old ++ bytes_of_words (words_of_slots s.part s.plan (drop n (take to (slots_in s.part)))) → WritesPiece s old new next.Check
  wrote_frames n count to e within c m last adds = record {
    piece = bytes_of_words (words_of_slots s.part s.plan (drop n (take to (slots_in s.part))));
    adds = adds;
    before = λ given h. frames_before n to e (omega (arith, within, c, m)) given h
        ∙ ap (λ (t : List Slot). bytes_of_words (full_opening s.part) ++ bytes_of_words (words_of_slots s.part s.plan t)) (take_all to (slots_in s.part) (omega (arith, c, last)));
    inside = omega arith;
    fewer = λ _. calls_at s (next.Slot n) next.Check e (omega arith);
  }

  pub wrote_opening : s.next_piece ≡ next.Opening → new ≡ old ++ bytes_of_words (full_opening s.part) → WritesPiece s old new (next.Slot 0)
  wrote_opening e adds = record {
    piece = bytes_of_words (full_opening s.part);
    adds = adds;
    before = λ given h. ap (λ (x : List ℕ). x ++ bytes_of_words (full_opening s.part)) (before_at s given next.Opening e h) ∙ sym (append-nil (bytes_of_words (full_opening s.part)));
    inside = omega arith;
    fewer = λ _. calls_at s next.Opening (next.Slot 0) e (omega arith);
  }

  -- the check of what was given, written after it
  check_after : (at : NextPiece) (check : ℕ) → s.next_piece ≡ at → ((bytes : List ℕ) → HasTaken s.checker bytes → check ≡ check_of_bytes bytes) → (given : List ℕ) → HasGiven s given →
      given ++ bytes_of_words (check_words check) ≡ with_piece (stream_of (pieces_before s.part s.plan at)) Check
  check_after at check e value given h =
      ap (λ (n : ℕ). given ++ bytes_of_words (check_words n)) (value given h.checked) ∙ ap (λ (x : List ℕ). with_piece x Check) (before_at s given at e h)

  -- the check after the frame data, or that after the start of the device, was written
  pub wrote_check : (at after : NextPiece) (check : ℕ) → with_piece (stream_of (pieces_before s.part s.plan at)) Check ≡ stream_of (pieces_before s.part s.plan after) → slot_next after ≡ 0
      → calls_from (length (slots_in s.part)) after < calls_from (length (slots_in s.part)) at → s.next_piece ≡ at → ((bytes : List ℕ) → HasTaken s.checker bytes → check ≡ check_of_bytes bytes)
      → new ≡ old ++ bytes_of_words (check_words check) → WritesPiece s old new after
  wrote_check at after check same none less e value adds = record {
    piece = bytes_of_words (check_words check);
    adds = adds;
    before = λ given h. check_after at check e value given h ∙ same;
    inside = omega (arith, none);
    fewer = λ _. calls_at s at after e less;
  }

  pub wrote_start : s.next_piece ≡ next.Start → new ≡ old ++ bytes_of_words start_words → WritesPiece s old new next.LastCheck
  wrote_start e adds = record {
    piece = bytes_of_words start_words;
    adds = adds;
    before = λ given h. ap (λ (x : List ℕ). x ++ bytes_of_words start_words) (before_at s given next.Start e h);
    inside = omega arith;
    fewer = λ _. calls_at s next.Start next.LastCheck e (omega arith);
  }

  pub wrote_ending : s.next_piece ≡ next.Desync → new ≡ old ++ bytes_of_words full_ending → WritesPiece s old new next.Nothing
  wrote_ending e adds = record {
    piece = bytes_of_words full_ending;
    adds = adds;
    before = λ given h. ap (λ (x : List ℕ). x ++ bytes_of_words full_ending) (before_at s given next.Desync e h);
    inside = omega arith;
    fewer = λ _. calls_at s next.Desync next.Nothing e (omega arith);
  }

  pub wrote_nothing : s.next_piece ≡ next.Nothing → new ≡ old → WritesPiece s old new next.Nothing
  wrote_nothing e same = record {
    piece = [];
    adds = same ∙ sym (append-nil old);
    before = λ given h. append-nil given ∙ before_at s given next.Nothing e h;
    inside = omega arith;
    fewer = λ n. absurd (n e);
  }

-- the part of a list after its old items
pub after_old : (old piece new : List ℕ) (start : ℕ) → start ≡ length old → new ≡ old ++ piece → take (length new - start) (drop start new) ≡ piece
after_old old piece new start e f =
    take_rest new start ∙ ap (λ (k : ℕ). drop k new) e ∙ ap (λ (t : List ℕ). drop (length old) t) f ∙ drop-append_seam old piece

-- what was written is given, once it is checked too
pub given_more : (s t : FullStreamState) (given old new : List ℕ) (start : ℕ) → t.part ≡ s.part → t.plan ≡ s.plan → start ≡ length old → WritesPiece s old new t.next_piece
    → ((bytes : List ℕ) → HasTaken s.checker bytes → HasTaken t.checker (bytes ++ take (length new - start) (drop start new))) → HasGiven s given → AppendsNext t given old new
given_more s t given old new start same_part same_plan e w takes h =
    let before : given ++ w.piece ≡ stream_of (pieces_before t.part t.plan t.next_piece) =
    w.before given h ∙ ap (λ (p : PartData). stream_of (pieces_before p s.plan t.next_piece)) (sym same_part) ∙ ap (λ (p : PlanData). stream_of (pieces_before t.part p t.next_piece)) (sym same_plan) in
    let left = left_of t.part t.plan t.next_piece in
    record {
      piece = w.piece;
      adds = w.adds;
      more = record {
        before = before;
        checked = subst (λ (x : List ℕ). HasTaken t.checker (given ++ x)) (after_old old w.piece new start e w.adds) (takes given h.checked);
        left = left.0;
        whole = ap (λ (x : List ℕ). x ++ left.0) before ∙ left.1;
      };
    }
