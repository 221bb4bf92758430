-- Registers that no piece of a stream writes stay as they were.
use Rattle.std.proofs.Common.{◌≡◌, ◌==◌, ◌+◌, ◌*◌, ℕ, Bool, false, if◌then◌else◌, Option, None, List, [], ◌∷◌, ◌++◌, length, refl, sym, ap, ◌∙◌}
use Rattle.std.specs.List.{AllByRecursion, flat_map}
use Rattle.x7_words.specs.Word.{AreBytes}
use Rattle.x7_packets.specs.ByHand.{reading_of}
use Rattle.x7_packets.specs.History as access
use Rattle.x7_packets.specs.History.{History, entry, history_of, last_word}
use Rattle.x7_packets.specs.Reading.{is_synced}
use Rattle.x7_part.specs.Part.{PartData}
use Rattle.x7_memory.specs.Plan.{PlanRow}
use Rattle.x7_flow.specs.Controls.{masked_register}
use Rattle.x7_engine.specs.declared.kept.Kept.{Kept}
use Rattle.x7_engine.specs.Kept.{kept_word}
use Rattle.x7_engine.specs.State.{history_by, history_taken, first_stop_of_bytes, value_of}
use Rattle.x7_engine.specs.Stop.{Stopped}
use Rattle.x7_planner.specs.PartialStream.{Copies, Rows, Section, sections_of}
use Rattle.x7_effects.specs.Played.{KeepsControlWords, KeepsUnwritten}
use Rattle.x7_effects.proofs.Items as item
use Rattle.x7_effects.proofs.Items.{item_entered, writes_entered}
use Rattle.x7_effects.proofs.Checking.{ArePieces, Check, Checking, ClearFirst, Piece, Put, checking_of, piece_item, piece_length, pieces_length}
use Rattle.x7_effects.proofs.Groups.{plan_pieces}
use Rattle.x7_effects.proofs.Streams.{copy_pieces, full_with, read_with, stream_of, section_pieces, sections_pieces}
use Rattle.x7_effects.proofs.GoingLemmas.{written}
use Rattle.x7_effects.proofs.RestingLemmas.{stream_history}

-- ---- what a history says of one register

-- what a history says of a register goes by the words written to it alone
record Reads (r : ℕ) (f : History → ℕ) : Type 0 where
  write : (q w place : ℕ) (h : History) → (q == r) ≡ false → f (entry (access.Write q w) place ∷ h) ≡ f h
  read : (q n place : ℕ) (h : History) → f (entry (access.Read q n) place ∷ h) ≡ f h

reads_last : (r kept : ℕ) → Reads r (last_word r kept)
reads_last r kept = record { write = λ q w place h e. ap (λ (b : Bool). if b then w else last_word r kept h) e; read = λ q n place h. refl }

reads_masked : (r : ℕ) → Reads r (masked_register r)
reads_masked r = record { write = λ q w place h e. rw e refl; read = λ q n place h. refl }

-- the piece doesn't write register r
abbrev IsApart : ℕ → Piece → Type 0
IsApart r (Put (item.Write q ws)) = (q == r) ≡ false
IsApart r (Put (item.WriteLong q ws)) = (q == r) ≡ false
IsApart r Check = (0 == r) ≡ false
IsApart r p = Unit {0}

abbrev AreApart : ℕ → List Piece → Type 0
AreApart r pieces = AllByRecursion (IsApart r) pieces

module _ (r : ℕ) (f : History → ℕ) (of : Reads r f) where
  writes_leave : (place q : ℕ) (ws : List ℕ) (h : History) → (q == r) ≡ false → f (writes_entered place q ws h) ≡ f h
  writes_leave place q [] h e = refl
  writes_leave place q (w ∷ ws) h e = writes_leave (place + 4) q ws (entry (access.Write q w) (place + 4) ∷ h) e ∙ of.write q w (place + 4) h e

  piece_leaves : (place : ℕ) (c : Checking) (p : Piece) (h : History) → IsApart r p → f (item_entered place (piece_item c p) h) ≡ f h
  piece_leaves place c Check h a = of.write 0 c.check (place + 4 + 4) h a
  piece_leaves place c (Put item.Noop) h a = refl
  piece_leaves place c (Put item.Dummy) h a = refl
  piece_leaves place c (Put (item.Write q ws)) h a = writes_leave (place + 4) q ws h a
  piece_leaves place c (Put (item.WriteLong q ws)) h a = writes_leave (place + 8) q ws h a
  piece_leaves place c (Put (item.Read q n)) h a = of.read q n (place + 4) h
  piece_leaves place c (Put (item.ReadLong q n)) h a = of.read q n (place + 8) h

  pieces_leave : (place : ℕ) (pieces : List Piece) (h : History) → AreApart r pieces → f (written place pieces h) ≡ f h
  pieces_leave place [] h a = refl
  pieces_leave place (p ∷ pieces) h a =
      pieces_leave (place + 4 * piece_length p) pieces (item_entered place (piece_item (checking_of h) p) h) a.1 ∙ piece_leaves place (checking_of h) p h a.0

-- ---- registers that streams don't write

-- neither a partial stream nor a read stream writes register r: it is none of CRC, FAR, FDRI, CMD, MFWR and IDCODE
pub record IsOther (r : ℕ) : Type 0 where
  crc : (0 == r) ≡ false
  far : (1 == r) ≡ false
  fdri : (2 == r) ≡ false
  cmd : (4 == r) ≡ false
  mfwr : (10 == r) ≡ false
  idcode : (12 == r) ≡ false

-- no planned stream writes register r: it is none of CRC, FAR, FDRI, CMD, MFWR, IDCODE, CTL0, MASK and COR0
pub record IsUnwritten (r : ℕ) : Type 0 where
  other : IsOther r
  ctl0 : (5 == r) ≡ false
  mask : (6 == r) ≡ false
  cor0 : (9 == r) ≡ false

apart_append : (r : ℕ) (xs ys : List Piece) → AreApart r xs → AreApart r ys → AreApart r (xs ++ ys)
apart_append r [] ys a b = b
apart_append r (x ∷ xs) ys a b = (a.0, apart_append r xs ys a.1 b)

copies_apart : (r : ℕ) (fars : List ℕ) → IsOther r → AreApart r (flat_map copy_pieces fars)
copies_apart r [] o = tt
copies_apart r (far ∷ fars) o = (o.far, (o.mfwr, copies_apart r fars o))

section_apart : (r : ℕ) (part : PartData) (s : Section) → IsOther r → AreApart r (section_pieces part s)
section_apart r part (Copies words fars) o = (o.cmd, (o.far, (o.fdri, (o.cmd, copies_apart r fars o))))
section_apart r part (Rows rows) o = (o.cmd, (o.far, (o.fdri, tt)))

sections_apart : (r : ℕ) (part : PartData) (sections : List Section) → IsOther r → AreApart r (sections_pieces part sections)
sections_apart r part [] o = tt
sections_apart r part (s ∷ sections) o = apart_append r (section_pieces part s) (sections_pieces part sections) (section_apart r part s o) (sections_apart r part sections o)

pub partial_apart : (part : PartData) (rows : List PlanRow) (r : ℕ) → IsOther r → AreApart r (plan_pieces part rows)
partial_apart part rows r o =
    (tt, (o.cmd, (tt, (o.idcode, apart_append r (sections_pieces part (sections_of part rows)) (Check ∷ []) (sections_apart r part (sections_of part rows) o) (o.crc, tt)))))

pub read_apart : (far count r : ℕ) → IsOther r → AreApart r (read_with far count)
read_apart far count r o = (tt, (o.cmd, (tt, (o.cmd, (o.far, (tt, tt))))))

pub full_apart : (idcode first : ℕ) (words : List ℕ) (r : ℕ) → IsUnwritten r → AreApart r (full_with idcode first words)
full_apart idcode first words r u =
    let o = u.other in
    (tt, (o.cmd, (o.cmd, (tt, (o.idcode, (u.cor0, (u.mask, (u.ctl0, (o.cmd, (o.far, (o.fdri, (o.crc, (o.cmd, (o.cmd, (o.crc, tt)))))))))))))))

other_is : (r : ℕ) → (0 == r) ≡ false → (1 == r) ≡ false → (2 == r) ≡ false → (4 == r) ≡ false → (10 == r) ≡ false → (12 == r) ≡ false → IsOther r
other_is r a b c d e f = record { crc = a; far = b; fdri = c; cmd = d; mfwr = e; idcode = f }

unwritten_is : (r : ℕ) → IsOther r → (5 == r) ≡ false → (6 == r) ≡ false → (9 == r) ≡ false → IsUnwritten r
unwritten_is r o a b c = record { other = o; ctl0 = a; mask = b; cor0 = c }

-- ---- after a stream that nothing stops

module _ (part : PartData) (kept : Kept) (bytes : List ℕ) (pieces : List Piece) (noops : ℕ) (fit : AreBytes bytes) (searching : is_synced (reading_of bytes).place ≡ false) (are : ArePieces pieces) (clear : ClearFirst pieces)
    (before : first_stop_of_bytes part kept bytes ≡ None) (after : first_stop_of_bytes part kept (bytes ++ stream_of pieces noops) ≡ None) where
  stays : (r : ℕ) (f : History → ℕ) → Reads r f → IsOther r → AreApart r pieces → f (history_taken part kept (bytes ++ stream_of pieces noops)) ≡ f (history_taken part kept bytes)
  stays r f of o a =
      ap (λ (s : Option Stopped). f (history_by s (history_of (bytes ++ stream_of pieces noops)))) after
      ∙ ap f (stream_history bytes pieces noops fit searching are clear)
      ∙ of.write 4 13 (length bytes + 36 + 4 * pieces_length pieces + 8) (written (length bytes + 36) pieces (history_of bytes)) o.cmd
      ∙ pieces_leave r f of (length bytes + 36) pieces (history_of bytes) a
      ∙ sym (ap (λ (s : Option Stopped). f (history_by s (history_of bytes))) before)

  word_stays : (r : ℕ) → IsOther r → AreApart r pieces → last_word r (kept_word kept r) (history_taken part kept (bytes ++ stream_of pieces noops)) ≡ last_word r (kept_word kept r) (history_taken part kept bytes)
  word_stays r o a = stays r (last_word r (kept_word kept r)) (reads_last r (kept_word kept r)) o a

  pub unwritten_stay : ((r : ℕ) → IsUnwritten r → AreApart r pieces) → (wrapped : Bool) → KeepsUnwritten (value_of part kept wrapped bytes) (value_of part kept wrapped (bytes ++ stream_of pieces noops))
  unwritten_stay apart wrapped =
      let other : (r : ℕ) → IsUnwritten r → last_word r (kept_word kept r) (history_taken part kept (bytes ++ stream_of pieces noops)) ≡ last_word r (kept_word kept r) (history_taken part kept bytes) = λ r u. word_stays r u.other (apart r u) in
      let ctl1 : IsUnwritten 24 = unwritten_is 24 (other_is 24 refl refl refl refl refl refl) refl refl refl in
      record {
        cor1 = other 14 (unwritten_is 14 (other_is 14 refl refl refl refl refl refl) refl refl refl);
        ctl1 = stays 24 (masked_register 24) (reads_masked 24) ctl1.other (apart 24 ctl1);
        axss = other 13 (unwritten_is 13 (other_is 13 refl refl refl refl refl refl) refl refl refl);
        wbstar = other 16 (unwritten_is 16 (other_is 16 refl refl refl refl refl refl) refl refl refl);
        timer = other 17 (unwritten_is 17 (other_is 17 refl refl refl refl refl refl) refl refl refl);
        bspi = other 31 (unwritten_is 31 (other_is 31 refl refl refl refl refl refl) refl refl refl);
      }

  pub control_words_stay : ((r : ℕ) → IsOther r → AreApart r pieces) → (wrapped : Bool) → KeepsControlWords (value_of part kept wrapped bytes) (value_of part kept wrapped (bytes ++ stream_of pieces noops))
  control_words_stay apart wrapped =
      let ctl0 : IsOther 5 = other_is 5 refl refl refl refl refl refl in
      let mask : IsOther 6 = other_is 6 refl refl refl refl refl refl in
      let cor0 : IsOther 9 = other_is 9 refl refl refl refl refl refl in
      record {
        ctl0 = stays 5 (masked_register 5) (reads_masked 5) ctl0 (apart 5 ctl0);
        mask = stays 6 (last_word 6 0) (reads_last 6 0) mask (apart 6 mask);
        cor0 = word_stays 9 cor0 (apart 9 cor0);
        unwritten = unwritten_stay (λ r u. apart r u.other) wrapped;
      }
