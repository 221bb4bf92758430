-- Lemmas on specs/UntilRead: in a turn a word is read out at the last byte at the soonest.
use Rattle.std.proofs.Common.{◌≡◌, ◌+◌, ◌-◌, ◌<◌, ◌≤◌, inl, inr, ℕ, Bool, Option, None, Some, List, [], ◌∷◌, ◌++◌, length, take, drop, refl, ap, sym, subst, ◌∙◌, append_assoc, append-nil, arith}
use Rattle.std.proofs.lemmas.Bool.{cases_lt}
use Rattle.std.proofs.lemmas.List.{length-append, length-drop, take-append-drop, take-take}
use Rattle.x7_packets.specs.Cutter.{between}
use Rattle.x7_packets.specs.History.{Access, Bad, History, Read, Write, history_of}
use Rattle.x7_part.specs.Part.{PartData}
use Rattle.x7_engine.specs.ReadBuffer.{HasRoomBy, HasRoomForWords, HoldsWithinMost, ReadBufState, gathered, with_words}
use Rattle.x7_engine.specs.declared.kept.Kept.{Kept}
use Rattle.x7_engine.specs.Standing.{DeviceStandsFor, DeviceState, NoWordDue, reads_given}
use Rattle.x7_engine.specs.State.{history_by, reads_of, first_stop_of_bytes}
use Rattle.x7_engine.specs.Stop.{Stopped, stop_at_place}
use Rattle.x7_engine.specs.UntilRead.{RoomBefore}
use Rattle.x7_engine.specs.UntilStarted.{AreOtherWrites, CommandsLast, IsOtherWrite}
use Rattle.x7_engine.specs.Value.{words_read_by, read_out}
use Rattle.x7_engine.proofs.DeviceLemmas.{length_between}
use Rattle.x7_engine.proofs.FeedLemmas.{taken_more, given_all}
use Rattle.x7_engine.proofs.UntilLemmas.{going_before}

-- writes read out nothing
writes_read_none : (part : PartData) (kept : Kept) (newer h : History) → AreOtherWrites newer → read_out part kept (newer ++ h) ≡ read_out part kept h
writes_read_none part kept [] h w = refl
writes_read_none part kept (e ∷ newer) h w =
    ap (λ t. read_out part kept (newer ++ h) ++ t) (none e.access w.0) ∙ append-nil (read_out part kept (newer ++ h)) ∙ writes_read_none part kept newer h w.1
  where
    none : (access : Access) → IsOtherWrite access → words_read_by part kept (newer ++ h) access e.place ≡ []
    none (Write r x) f = refl
    none (Read r n) f = absurd f
    none (Bad x) f = absurd f

-- the words read out of bytes in which nothing stopped the device
pub reads_going : (part : PartData) (kept : Kept) (bytes : List ℕ) → first_stop_of_bytes part kept bytes ≡ None → reads_of part kept bytes ≡ read_out part kept (history_of bytes)
reads_going part kept bytes none = ap (λ (o : Option Stopped). read_out part kept (history_by o (history_of bytes))) none

turn_reads_none : (part : PartData) (kept : Kept) (wrapped : Bool) (d e : DeviceState) (bytes more : List ℕ) → d.registers.values.stop ≡ None → DeviceStandsFor part kept wrapped d bytes → DeviceStandsFor part kept wrapped e (bytes ++ more) → CommandsLast bytes more
    → (k : ℕ) → k < length more → reads_of part kept (bytes ++ take k more) ≡ reads_of part kept bytes
turn_reads_none part kept wrapped d e bytes more going s after f k l =
    let prefix : List ℕ = take k more in
    let joined : (bytes ++ prefix) ++ drop k more ≡ bytes ++ more = append_assoc bytes prefix (drop k more) ∙ ap (λ (t : List ℕ). bytes ++ t) (take-append-drop k more) in
    let all : DeviceStandsFor part kept wrapped e ((bytes ++ prefix) ++ drop k more) = subst (DeviceStandsFor part kept wrapped e) (sym joined) after in
    let none : first_stop_of_bytes part kept (bytes ++ prefix) ≡ None = going_before part kept wrapped e (bytes ++ prefix) (drop k more) all (omega (arith, length-drop k more, l)) in
    let before : first_stop_of_bytes part kept bytes ≡ None = s.stop_is ∙ ap (stop_at_place (length bytes)) going in
    let q = f k l in
    reads_going part kept (bytes ++ prefix) none ∙ ap (read_out part kept) q.1 ∙ writes_read_none part kept q.0 (history_of bytes) q.2 ∙ sym (reads_going part kept bytes before)

-- in a turn of a piece, at each byte but its last, the words read out are those given
turn_piece : (part : PartData) (kept : Kept) (wrapped : Bool) (d e : DeviceState) (bytes piece : List ℕ) (from to k : ℕ) → from ≤ to → to ≤ length piece → d.registers.values.stop ≡ None → NoWordDue d
    → DeviceStandsFor part kept wrapped d (bytes ++ take from piece) → DeviceStandsFor part kept wrapped e ((bytes ++ take from piece) ++ between piece from to) → CommandsLast (bytes ++ take from piece) (between piece from to)
    → from ≤ k → k < to → reads_of part kept (bytes ++ take k piece) ≡ reads_given part kept d (bytes ++ take from piece)
turn_piece part kept wrapped d e bytes piece from to k l m going due s after f more n =
    let taken : List ℕ = bytes ++ take from piece in
    let j : ℕ = k - from in
    let here : take j (between piece from to) ≡ between piece from k = take-take j (to - from) (drop from piece) (omega (arith, n, more)) in
    let all : taken ++ take j (between piece from to) ≡ bytes ++ take k piece = ap (λ (t : List ℕ). taken ++ t) here ∙ taken_more bytes piece from k more in
    let inside : j < length (between piece from to) = omega (arith, length_between piece from to l m, n, more) in
    ap (reads_of part kept) (sym all) ∙ turn_reads_none part kept wrapped d e taken (between piece from to) going s after f j inside ∙ sym (given_all part kept d taken due)

-- the words that a buffer got had room in it
room_for : (b : ReadBufState) (more : List ℕ) → HoldsWithinMost b.most (with_words b more).words → HasRoomForWords b more
room_for b more f = by b.most b.words more f
  where
    by : (most : Option ℕ) (words more : List ℕ) → HoldsWithinMost most (gathered most words more) → HasRoomBy most (length words + length more)
    by None words more f = tt
    by (Some most) words more f = omega (arith, f, length-append words more)

-- the words given before and those that the buffer has got, at each byte of a turn but its last
pub room_read_on : (part : PartData) (kept : Kept) (wrapped : Bool) (d e : DeviceState) (first read : ReadBufState) (bytes piece known : List ℕ) (from to : ℕ) → from ≤ to → to ≤ length piece → d.registers.values.stop ≡ None → NoWordDue d
    → DeviceStandsFor part kept wrapped d (bytes ++ take from piece) → DeviceStandsFor part kept wrapped e ((bytes ++ take from piece) ++ between piece from to) → CommandsLast (bytes ++ take from piece) (between piece from to)
    → HoldsWithinMost read.most read.words → ((more : List ℕ) × (read ≡ with_words first more) × (reads_given part kept d (bytes ++ take from piece) ≡ known ++ more))
    → RoomBefore (record { part = part; kept = kept; wrapped = wrapped; bytes = bytes }) piece from known first → RoomBefore (record { part = part; kept = kept; wrapped = wrapped; bytes = bytes }) piece to known first
room_read_on part kept wrapped d e first read bytes piece known from to l m going due s after f few now before = λ k n. elim (cases_lt k from) [
  | inl less ↦ before k less
  | inr more ↦ (
    now.0,
    turn_piece part kept wrapped d e bytes piece from to k l m going due s after f more n ∙ now.2,
    room_for first now.0 (subst (λ (b : ReadBufState). HoldsWithinMost b.most b.words) now.1 few),
  )
]
