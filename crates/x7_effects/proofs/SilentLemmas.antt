-- Pieces that read nothing out.
use Rattle.std.proofs.Common.{◌≡◌, ◌+◌, ◌*◌, ℕ, false, None, List, [], ◌∷◌, ◌++◌, length, refl, sym, ap, ◌∙◌, append-nil}
use Rattle.std.specs.List.{AllByRecursion, flat_map}
use Rattle.x7_words.specs.Word.{AreBytes}
use Rattle.x7_packets.specs.ByHand.{reading_of}
use Rattle.x7_packets.specs.History as access
use Rattle.x7_packets.specs.History.{History, entry, history_of}
use Rattle.x7_packets.specs.Reading.{is_synced}
use Rattle.x7_part.specs.Part.{PartData}
use Rattle.x7_engine.specs.declared.kept.Kept.{Kept}
use Rattle.x7_engine.specs.State.{reads_of, first_stop_of_bytes}
use Rattle.x7_engine.specs.Value.{read_out}
use Rattle.x7_planner.specs.PartialStream.{Copies, Rows, Section}
use Rattle.x7_effects.proofs.Items as item
use Rattle.x7_effects.proofs.Items.{item_entered, writes_entered}
use Rattle.x7_effects.proofs.Checking.{ArePieces, Check, Checking, ClearFirst, Piece, Put, checking_of, piece_item, piece_length}
use Rattle.x7_effects.proofs.Streams.{copy_pieces, stream_of, section_pieces, sections_pieces}
use Rattle.x7_effects.proofs.GoingLemmas.{written}
use Rattle.x7_effects.proofs.RestingLemmas.{stream_history}
use Rattle.x7_engine.proofs.UntilReadLemmas.{reads_going}

-- a piece that asks for no words
abbrev pub IsSilent : Piece → Type 0
IsSilent (Put (item.Read register count)) = ⊥
IsSilent (Put (item.ReadLong register count)) = ⊥
IsSilent p = Unit {0}

abbrev pub AreSilent : List Piece → Type 0
AreSilent pieces = AllByRecursion IsSilent pieces

writes_silent : (part : PartData) (kept : Kept) (place register : ℕ) (ws : List ℕ) (h : History) → read_out part kept (writes_entered place register ws h) ≡ read_out part kept h
writes_silent part kept place register [] h = refl
writes_silent part kept place register (w ∷ ws) h = writes_silent part kept (place + 4) register ws (entry (access.Write register w) (place + 4) ∷ h) ∙ append-nil (read_out part kept h)

piece_silent : (part : PartData) (kept : Kept) (place : ℕ) (c : Checking) (p : Piece) (h : History) → IsSilent p → read_out part kept (item_entered place (piece_item c p) h) ≡ read_out part kept h
piece_silent part kept place c Check h s = append-nil (read_out part kept h)
piece_silent part kept place c (Put item.Noop) h s = refl
piece_silent part kept place c (Put item.Dummy) h s = refl
piece_silent part kept place c (Put (item.Write register ws)) h s = writes_silent part kept (place + 4) register ws h
piece_silent part kept place c (Put (item.WriteLong register ws)) h s = writes_silent part kept (place + 8) register ws h
piece_silent part kept place c (Put (item.Read register count)) h s = absurd s
piece_silent part kept place c (Put (item.ReadLong register count)) h s = absurd s

pieces_silent : (part : PartData) (kept : Kept) (place : ℕ) (pieces : List Piece) (h : History) → AreSilent pieces → read_out part kept (written place pieces h) ≡ read_out part kept h
pieces_silent part kept place [] h s = refl
pieces_silent part kept place (p ∷ pieces) h s =
    pieces_silent part kept (place + 4 * piece_length p) pieces (item_entered place (piece_item (checking_of h) p) h) s.1 ∙ piece_silent part kept place (checking_of h) p h s.0

-- a stream of pieces that ask for no words, and that nothing stops, reads nothing out
pub stream_silent : (part : PartData) (kept : Kept) (bytes : List ℕ) (pieces : List Piece) (noops : ℕ) → AreBytes bytes → is_synced (reading_of bytes).place ≡ false → ArePieces pieces → ClearFirst pieces → AreSilent pieces
    → first_stop_of_bytes part kept bytes ≡ None → first_stop_of_bytes part kept (bytes ++ stream_of pieces noops) ≡ None → reads_of part kept (bytes ++ stream_of pieces noops) ≡ reads_of part kept bytes
stream_silent part kept bytes pieces noops f e a c s before after =
    reads_going part kept (bytes ++ stream_of pieces noops) after
    ∙ ap (read_out part kept) (stream_history bytes pieces noops f e a c)
    ∙ append-nil (read_out part kept (written (length bytes + 36) pieces (history_of bytes)))
    ∙ pieces_silent part kept (length bytes + 36) pieces (history_of bytes) s
    ∙ sym (reads_going part kept bytes before)

-- ---- the pieces of a plan's frames alone

silent_append : (xs ys : List Piece) → AreSilent xs → AreSilent ys → AreSilent (xs ++ ys)
silent_append [] ys a b = b
silent_append (x ∷ xs) ys a b = (a.0, silent_append xs ys a.1 b)

copies_silent : (fars : List ℕ) → AreSilent (flat_map copy_pieces fars)
copies_silent [] = tt
copies_silent (far ∷ fars) = (tt, (tt, copies_silent fars))

section_silent : (part : PartData) (s : Section) → AreSilent (section_pieces part s)
section_silent part (Copies words fars) = (tt, (tt, (tt, (tt, copies_silent fars))))
section_silent part (Rows rows) = (tt, (tt, (tt, tt)))

pub sections_silent : (part : PartData) (sections : List Section) (more : List Piece) → AreSilent more → AreSilent (sections_pieces part sections ++ more)
sections_silent part sections more a = silent_append (sections_pieces part sections) more (each sections) a
  where
    each : (sections : List Section) → AreSilent (sections_pieces part sections)
    each [] = tt
    each (s ∷ sections) = silent_append (section_pieces part s) (sections_pieces part sections) (section_silent part s) (each sections)
