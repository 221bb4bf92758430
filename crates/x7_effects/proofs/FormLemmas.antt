-- The pieces of a planner's streams can be written, and how long they are.
use Rattle.std.proofs.Common.{◌≡◌, ℕ, zero, suc, ◌+◌, ◌*◌, ◌^◌, ◌<◌, false, List, [], ◌∷◌, ◌++◌, length, replicate, get_or, inl, inr, unwrap_or, refl, ap, ◌∙◌, arith, length-append}
use Rattle.std.specs.List.{flat_map, AllByRecursion}
use Rattle.std.proofs.lemmas.Grind.{flat_map-append}
use Rattle.std.proofs.lemmas.List.{length-map}
use Rattle.std.proofs.lemmas.List.Elements.{All-head, All-tail}
use Rattle.std.proofs.lemmas.Bool.Decides.{eqb_tells}
use Rattle.x7_memory.proofs.ZeroLemmas.{zero_words}
use Rattle.x7_words.specs.Word.{AreWords, AreBytes}
use Rattle.x7_words.proofs.ListLemmas.{all_append}
use Rattle.x7_packets.specs.PacketWords.{no_op, sync_word}
use Rattle.x7_packets.specs.Packet.{NoneEnds, ends_session}
use Rattle.x7_part.specs.AddressOrder.{addresses_in}
use Rattle.x7_part.specs.Part.{PartData, frame_words}
use Rattle.x7_part.specs.Ranges.{IsPart}
use Rattle.x7_part.specs.Slot.{slots_in}
use Rattle.x7_part.specs.declared.slot.Slot.{Slot}
use Rattle.x7_part.specs.declared.slot.Slot.TheVariants.{Frame, Pad, End}
use Rattle.x7_part.proofs.PartLemmas.{slots_count}
use Rattle.x7_memory.specs.Plan.{PlanRow, PlanData, IsPlan, planned, planned_addresses}
use Rattle.x7_memory.proofs.PlanLemmas.{planned_here, planned_after}
use Rattle.x7_effects.proofs.Items.{Item, Write, WriteLong, items_entered, item_words, items_words, bytes_of_words, closed, opened, desync, bus_width_head}
use Rattle.x7_effects.proofs.Checking.{Checking, Piece, Put, Check, IsPiece, ArePieces, ClearFirst, at_first, with_checks, piece_item, piece_length, pieces_length, after_item}
use Rattle.x7_effects.proofs.Frames.{joined, AreWide, frames_at, row_frames}
use Rattle.x7_planner.specs.FullStream.{zero_frame, frame_at_slot}
use Rattle.x7_planner.specs.PartialStream.{Section, Copies, Rows}
use Rattle.x7_effects.proofs.Streams.{stream_of, full_pieces, full_stream, copy_pieces, section_pieces, sections_pieces, partial_pieces, read_pieces, HaveWords, IsSection, AreSections}
use Rattle.x7_effects.proofs.FrameLemmas.{all_wide, plan_wide, first_small}
use Rattle.x7_effects.proofs.StreamLemmas.{bytes_count, appended_history, appended_ends, head_leads, items_entered_append}
use Rattle.x7_effects.proofs.CheckingLemmas.{pieces_fit}
use Rattle.x7_packets.specs.Appended.{MayFollow}
use Rattle.x7_packets.specs.ByHand.{reading_of}
use Rattle.x7_packets.specs.History as access
use Rattle.x7_packets.specs.History.{History, entry, history_of}
use Rattle.x7_packets.specs.Reading.{is_synced}

-- ---- pieces that can be written

one_fits : (r w : ℕ) → r < 2 ^ 5 → (r ≡ 0 → ⊥) → ends_session r w ≡ false → w < 2 ^ 32 → IsPiece (Put (Write r (w ∷ [])))
one_fits r w f n e g = ((f, omega arith, (g, tt), (e, tt)), λ s. n (let e : ◌≡◌ {A = ℕ} r 0 = cc in e))

none_of_data : (ws : List ℕ) → NoneEnds 2 ws
none_of_data [] = tt
none_of_data (w ∷ ws) = (refl, none_of_data ws)

long_fits : (ws : List ℕ) → length ws < 2 ^ 27 → AreWords ws → IsPiece (Put (WriteLong 2 ws))
long_fits ws l f = ((omega arith, l, f, none_of_data ws), λ s. absurd (let e : ◌≡◌ {A = ℕ} 2 0 = cc in omega (arith, e)))

-- ---- the words of frames

joined_words : (frames : List (List ℕ)) → AllByRecursion AreWords frames → AreWords (joined frames)
joined_words [] f = tt
joined_words (frame ∷ frames) f = all_append (λ x. x < 2 ^ 32) frame (joined frames) f.0 (joined_words frames f.1)

pub joined_length : (width : ℕ) (frames : List (List ℕ)) → AreWide width frames → length (joined frames) ≡ width * length frames
joined_length width [] w = omega arith
joined_length width (frame ∷ frames) w =
    let long : length (joined frames) ≡ width * length frames = joined_length width frames w.1 in
    length-append frame (joined frames) ∙ grind (arith, w.0, long)

planned_words : (rows : List PlanRow) (far : ℕ) (z : List ℕ) → HaveWords rows → AreWords z → AreWords (unwrap_or (planned rows far) z)
unfolding planned
planned_words [] far z f g = g
planned_words (r ∷ rows) far z f g =
    elim (eqb_tells far r.far) [
      | inl y ↦ rw (planned_here r rows far y.1) (All-head (λ row. AreWords row.words) r rows f)
      | inr n ↦ rw (planned_after r rows far n.1) (planned_words rows far z (All-tail (λ row. AreWords row.words) r rows f) g)
    ]

frames_words : (part : PartData) (plan : PlanData) (places : List Slot) → HaveWords plan.rows → AllByRecursion AreWords (frames_at part plan places)
frames_words part plan [] f = tt
frames_words part plan (Frame far ∷ places) f = (planned_words plan.rows far (zero_frame part) f (zero_words (frame_words part)), frames_words part plan places f)
frames_words part plan (Pad ∷ places) f = (zero_words (frame_words part), frames_words part plan places f)
frames_words part plan (End ∷ places) f = (zero_words (frame_words part), frames_words part plan places f)

rows_words : (rows : List PlanRow) (last : List ℕ) → HaveWords rows → AreWords last → AllByRecursion AreWords (row_frames rows ++ last ∷ [])
rows_words [] last f g = (g, tt)
rows_words (r ∷ rows) last f g = (All-head (λ row. AreWords row.words) r rows f, rows_words rows last (All-tail (λ row. AreWords row.words) r rows f) g)

-- how many words a full stream's frames have
pub frames_long : (part : PartData) (plan : PlanData) (places : List Slot) → IsPlan plan → plan.width ≡ frame_words part → length (joined (frames_at part plan places)) ≡ frame_words part * length places
frames_long part plan places is e =
    joined_length (frame_words part) (frames_at part plan places) (all_wide part plan places (plan_wide part plan is e))
    ∙ ap (λ k. frame_words part * k) (length-map places (frame_at_slot part plan))

-- ---- the three streams

pub full_fits : (part : PartData) (plan : PlanData) → IsPart part → IsPlan plan → plan.width ≡ frame_words part → HaveWords plan.rows → ArePieces (full_pieces part plan)
full_fits part plan is p e f =
    let data_words : List ℕ = joined (frames_at part plan (slots_in part)) in
    let few : length data_words < 2 ^ 27 = omega (arith, frames_long part plan (slots_in part) p e, ap (λ (k : ℕ). frame_words part * k) (slots_count part.field_widths part.rows), is.slots) in (
      (tt, λ s. cc),
      (
        one_fits 4 11 (omega arith) (λ h. omega (arith, h)) refl (omega arith),
        (
          one_fits 4 7 (omega arith) (λ h. omega (arith, h)) refl (omega arith),
          (
            (tt, λ s. cc),
            (
              one_fits 12 part.idcode (omega arith) (λ h. omega (arith, h)) refl is.idcode,
              (
                one_fits 9 0x02003FE5 (omega arith) (λ h. omega (arith, h)) refl (omega arith),
                (
                  one_fits 6 0x501 (omega arith) (λ h. omega (arith, h)) refl (omega arith),
                  (
                    one_fits 5 0x101 (omega arith) (λ h. omega (arith, h)) refl (omega arith),
                    (
                      one_fits 4 1 (omega arith) (λ h. omega (arith, h)) refl (omega arith),
                      (
                        one_fits 1 (get_or (addresses_in part) 0 0) (omega arith) (λ h. omega (arith, h)) refl (first_small part is),
                        (
                          long_fits data_words few (joined_words (frames_at part plan (slots_in part)) (frames_words part plan (slots_in part) f)),
                          (tt, (one_fits 4 3 (omega arith) (λ h. omega (arith, h)) refl (omega arith), (one_fits 4 5 (omega arith) (λ h. omega (arith, h)) refl (omega arith), (tt, tt)))),
                        ),
                      ),
                    ),
                  ),
                ),
              ),
            ),
          ),
        ),
      ),
    )

pub read_fits : (part : PartData) (far n : ℕ) → 0 < frame_words part → far < 2 ^ 32 → frame_words part * (n + 1) < 2 ^ 27 → ArePieces (read_pieces part far n)
read_fits part far n some f g = (
  (tt, λ s. cc),
  (
    one_fits 4 7 (omega arith) (λ h. omega (arith, h)) refl (omega arith),
    (
      (tt, λ s. cc),
      (
        one_fits 4 4 (omega arith) (λ h. omega (arith, h)) refl (omega arith),
        (one_fits 1 far (omega arith) (λ h. omega (arith, h)) refl f, (((omega arith, grind (arith, some), g), λ s. cc), tt)),
      ),
    ),
  ),
)

copies_fit : (fars : List ℕ) → AreWords fars → ArePieces (flat_map copy_pieces fars)
copies_fit [] f = tt
copies_fit (far ∷ fars) f = (one_fits 1 far (omega arith) (λ h. omega (arith, h)) refl f.0, (one_fits 10 0 (omega arith) (λ h. omega (arith, h)) refl (omega arith), copies_fit fars f.1))

first_fits : (fars : List ℕ) → AreWords fars → get_or fars 0 0 < 2 ^ 32
first_fits [] f = omega arith
first_fits (far ∷ fars) f = f.0

section_fits : (part : PartData) (s : Section) → IsSection part s → ArePieces (section_pieces part s)
section_fits part (Copies words fars) f = (
  one_fits 4 1 (omega arith) (λ h. omega (arith, h)) refl (omega arith),
  (
    one_fits 1 (get_or fars 0 0) (omega arith) (λ h. omega (arith, h)) refl (first_fits fars f.2),
    (long_fits words f.0 f.1, (one_fits 4 2 (omega arith) (λ h. omega (arith, h)) refl (omega arith), copies_fit fars f.2)),
  ),
)
section_fits part (Rows rows) f = (
  one_fits 4 1 (omega arith) (λ h. omega (arith, h)) refl (omega arith),
  (
    one_fits 1 (get_or (planned_addresses rows) 0 0) (omega arith) (λ h. omega (arith, h)) refl (first_fits (planned_addresses rows) f.2),
    (long_fits (joined (row_frames rows ++ zero_frame part ∷ [])) f.0 (joined_words (row_frames rows ++ zero_frame part ∷ []) (rows_words rows (zero_frame part) f.1 (zero_words (frame_words part)))), tt),
  ),
)

sections_fit : (part : PartData) (sections : List Section) → AreSections part sections → ArePieces (sections_pieces part sections)
sections_fit part [] f = tt
sections_fit part (s ∷ sections) f = all_append IsPiece (section_pieces part s) (sections_pieces part sections) (section_fits part s f.0) (sections_fit part sections f.1)

pub partial_fits : (part : PartData) (sections : List Section) → part.idcode < 2 ^ 32 → AreSections part sections → ArePieces (partial_pieces part sections)
partial_fits part sections i f = (
  (tt, λ s. cc),
  (
    one_fits 4 7 (omega arith) (λ h. omega (arith, h)) refl (omega arith),
    (
      (tt, λ s. cc),
      (
        one_fits 12 part.idcode (omega arith) (λ h. omega (arith, h)) refl i,
        all_append IsPiece (sections_pieces part sections) (Check ∷ []) (sections_fit part sections f) (tt, tt),
      ),
    ),
  ),
)

-- each stream clears the check before the first one that it writes
pub full_clears : (part : PartData) (plan : PlanData) → ClearFirst (full_pieces part plan)
full_clears part plan c = refl

pub partial_clears : (part : PartData) (sections : List Section) → ClearFirst (partial_pieces part sections)
partial_clears part sections c = refl

pub read_clears : (part : PartData) (far n : ℕ) → ClearFirst (read_pieces part far n)
read_clears part far n c = refl

-- how many bytes a stream has
pub closed_length : (leading : List ℕ) (items : List Item) (k : ℕ) → length (bytes_of_words (closed leading items k)) ≡ 4 * length leading + 4 + 4 * length (items_words items) + 8 + 4 * k
closed_length leading items k =
    let words : length (items_words (items ++ desync ∷ [])) ≡ length (items_words items) + 2 = ap length (flat_map-append item_words items (desync ∷ [])) ∙ length-append (items_words items) (items_words (desync ∷ [])) in
    omega (arith, bytes_count (closed leading items k), length-append (opened leading (items ++ desync ∷ [])) (replicate k no_op), length-append leading (sync_word ∷ items_words (items ++ desync ∷ [])), words, noops k)
  where
    noops : (k : ℕ) → length (replicate {A = ℕ} k no_op) ≡ k
    noops zero = refl
    noops (suc k) = omega (arith, noops k)

-- a piece has as many words whatever its check
pub piece_long : (c : Checking) (p : Piece) → length (item_words (piece_item c p)) ≡ piece_length p
piece_long c (Put i) = refl
piece_long c Check = refl

pub pieces_long : (c : Checking) (pieces : List Piece) → length (items_words (with_checks c pieces)) ≡ pieces_length pieces
pieces_long c [] = refl
pieces_long c (p ∷ pieces) =
    length-append (item_words (piece_item c p)) (items_words (with_checks (after_item c (piece_item c p)) pieces))
    ∙ omega (arith, piece_long c p, pieces_long (after_item c (piece_item c p)) pieces)

pub stream_length : (pieces : List Piece) (k : ℕ) → length (stream_of pieces k) ≡ 4 * (11 + pieces_length pieces + k)
stream_length pieces k = omega (arith, closed_length bus_width_head (with_checks at_first pieces) k, pieces_long at_first pieces)

pub full_length : (part : PartData) (plan : PlanData) → IsPlan plan → plan.width ≡ frame_words part → length (full_stream part plan) ≡ 4 * (55 + frame_words part * length (slots_in part))
full_length part plan is e = stream_length (full_pieces part plan) 16 ∙ omega (arith, frames_long part plan (slots_in part) is e)

-- a planner's stream may follow bytes at whose end the sync word is searched
stream_parted : (bytes : List ℕ) (pieces : List Piece) (k : ℕ) → is_synced (reading_of bytes).place ≡ false → MayFollow (reading_of bytes).place (stream_of pieces k)
stream_parted bytes pieces k e = record { searching = e; apart = inr (bytes_of_words (closed (0xFFFFFFFF ∷ 0xFFFFFFFF ∷ 0xFFFFFFFF ∷ 0x000000BB ∷ 0x11220044 ∷ 0xFFFFFFFF ∷ 0xFFFFFFFF ∷ []) (with_checks at_first pieces) k), refl) }

pub stream_appended : (bytes : List ℕ) (pieces : List Piece) (k : ℕ) → AreBytes bytes → is_synced (reading_of bytes).place ≡ false → ArePieces pieces
    → history_of (bytes ++ stream_of pieces k) ≡ items_entered (length bytes + 36) (with_checks at_first pieces ++ desync ∷ []) (history_of bytes)
stream_appended bytes pieces k b e f =
    appended_history bytes bus_width_head (with_checks at_first pieces) k b (stream_parted bytes pieces k e) head_leads (pieces_fit at_first pieces (omega arith) f)
    ∙ ap (λ (x : ℕ). items_entered x (with_checks at_first pieces ++ desync ∷ []) (history_of bytes)) (omega arith)

pub stream_ends : (bytes : List ℕ) (pieces : List Piece) (k : ℕ) → AreBytes bytes → is_synced (reading_of bytes).place ≡ false → ArePieces pieces → is_synced (reading_of (bytes ++ stream_of pieces k)).place ≡ false
stream_ends bytes pieces k b e f = appended_ends bytes bus_width_head (with_checks at_first pieces) k b (stream_parted bytes pieces k e) head_leads (pieces_fit at_first pieces (omega arith) f)

-- the word of DESYNC is the last access, and its place
pub last_is : (n : ℕ) (items : List Item) (h : History) → items_entered n (items ++ desync ∷ []) h ≡ entry (access.Write 4 13) (n + 4 * length (items_words items) + 8) ∷ items_entered n items h
last_is n items h = items_entered_append n items (desync ∷ []) h ∙ ap (λ (x : ℕ). entry (access.Write 4 13) x ∷ items_entered n items h) (omega arith)
