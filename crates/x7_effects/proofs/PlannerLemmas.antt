-- The streams of the planner are those of these items.
use Rattle.std.proofs.Common.{◌≡◌, ◌+◌, ◌*◌, ℕ, zero, suc, List, [], ◌∷◌, ◌++◌, length, map, get_or, replicate, refl, sym, ap, subst, ◌∙◌, append_assoc, append-nil, arith, length-append, Bool, true, false, if◌then◌else◌}
use Rattle.std.specs.Prelude.{Contains, fold}
use Rattle.std.specs.List.{flat_map, AllByRecursion}
use Rattle.std.proofs.lemmas.Grind.{flat_map-append}
use Rattle.std.proofs.lemmas.List.{length-replicate}
use Rattle.x7_regs.specs.Register.{number_of}
use Rattle.x7_regs.specs.declared.command.Command.TheVariants.{Desync, Lfrm, Mfw, Rcrc, Shutdown, Start, Wcfg}
use Rattle.x7_regs.specs.declared.register.Reg.TheVariants.{Cor0, Ctl0, Far, Fdri, Idcode, Mask}
use Rattle.x7_words.specs.Word.{bytes_of_word}
use Rattle.x7_words.proofs.ListLemmas.{all_append}
use Rattle.x7_crc.specs.Checker.{check_of_bytes}
use Rattle.x7_part.specs.AddressOrder.{addresses_in}
use Rattle.x7_part.specs.Part.{PartData, frame_words}
use Rattle.x7_part.specs.Ranges.{IsPart}
use Rattle.x7_part.specs.Slot.{slots_in}
use Rattle.x7_part.specs.declared.slot.Slot.{Slot}
use Rattle.x7_memory.specs.Plan.{IsPlan, PlanData, PlanRow, planned_addresses}
use Rattle.x7_planner.specs.Writer as planner
use Rattle.x7_packets.specs.PacketWords as packet_words
use Rattle.x7_planner.specs.FullStream as full
use Rattle.x7_planner.specs.ReadStream as readback
use Rattle.x7_packets.specs.PacketWords.{sync_word}
use Rattle.x7_effects.proofs.Items.{AreItems, Item, WriteLong, bus_width_head, bytes_of_words, desync, item_words, items_words, opened}
use Rattle.x7_effects.proofs.Items as item
use Rattle.x7_effects.proofs.Checking.{ArePieces, Check, Checking, IsPiece, Piece, Put, after_items, at_first, checking_of, piece_item, with_checks}
use Rattle.x7_effects.proofs.Frames.{frames_at, joined, row_frames}
use Rattle.x7_planner.specs.FullStream.{zero_frame, frame_at_slot}
use Rattle.x7_effects.proofs.Groups.{plan_pieces}
use Rattle.x7_effects.proofs.Streams.{command, copy_pieces, full_pieces, full_stream, one, read_stream, stream_of, section_pieces, sections_pieces}
use Rattle.x7_planner.specs.PartialStream.{Section, copy_words, frames_words, groups_led, is_first_of_group, rows_not_shared, partial_stream, bursts_of, section_words, sections_of, with_content}
use Rattle.x7_planner.specs.PartialStream as section
use Rattle.x7_effects.proofs.CheckingLemmas.{begins, checks_after, items_checked, pieces_fit}
use Rattle.x7_effects.proofs.FormLemmas.{frames_long, full_fits, joined_length}
use Rattle.x7_effects.proofs.PlacedLemmas.{of_runs, rows_wide}
use Rattle.x7_effects.proofs.PlanLemmas.{frames_count}
use Rattle.x7_effects.proofs.PartialLemmas.{have_words}
use Rattle.x7_effects.proofs.StreamLemmas.{head_leads, opened_history}

-- the check after pieces without checks
abbrev after_pieces : Checking → List Piece → Checking
after_pieces c pieces = after_items c (with_checks c pieces)

-- ---- pieces as the planner writes them

abbrev spelled : Piece → planner.StreamPiece
spelled (Put i) = planner.Words (item_words i)
spelled Check = planner.Check

-- the bytes of a stream up to the end of these pieces
abbrev bytes_so : List Piece → List ℕ
bytes_so pieces = bytes_of_words (opened bus_width_head (with_checks at_first pieces))

-- the bytes of a stream with one item more
item_more : (items : List Item) (i : Item) → bytes_of_words (opened bus_width_head (items ++ i ∷ [])) ≡ bytes_of_words (opened bus_width_head items) ++ bytes_of_words (item_words i)
item_more items i =
    let last : items_words (items ++ i ∷ []) ≡ items_words items ++ item_words i = flat_map-append item_words items (i ∷ []) ∙ ap (λ t. items_words items ++ t) (append-nil (item_words i)) in
    ap (λ t. bytes_of_words (bus_width_head ++ sync_word ∷ t)) last
    ∙ flat_map-append bytes_of_word (opened bus_width_head items) (item_words i)

piece_more : (prefix : List Piece) (p : Piece) → bytes_so (prefix ++ p ∷ []) ≡ bytes_so prefix ++ bytes_of_words (item_words (piece_item (after_items at_first (with_checks at_first prefix)) p))
piece_more prefix p =
    ap (λ t. bytes_of_words (opened bus_width_head t)) (checks_after at_first prefix (p ∷ []))
    ∙ item_more (with_checks at_first prefix) (piece_item (after_items at_first (with_checks at_first prefix)) p)

-- the check is that of the bytes before it
check_so : (prefix : List Piece) → ArePieces prefix → (after_items at_first (with_checks at_first prefix)).check ≡ check_of_bytes (bytes_so prefix)
check_so prefix f =
    let items : List Item = with_checks at_first prefix in
    let fits : AreItems items = pieces_fit at_first prefix (omega arith) f in
    ap (λ (c : Checking). c.check)
    (ap (λ (c : Checking). after_items c items) (sym begins) ∙ sym (items_checked 36 items []) ∙ ap checking_of (sym (opened_history bus_width_head items head_leads fits)))

spelled_one : (prefix : List Piece) (p : Piece) → ArePieces prefix → planner.with_piece (bytes_so prefix) (spelled p) ≡ bytes_so (prefix ++ p ∷ [])
spelled_one prefix (Put i) f = sym (piece_more prefix (Put i))
spelled_one prefix Check f = ap (λ (c : ℕ). bytes_so prefix ++ bytes_of_words (0x30000001 ∷ c ∷ [])) (sym (check_so prefix f)) ∙ sym (piece_more prefix Check)

spelled_all : (prefix pieces : List Piece) → ArePieces prefix → ArePieces pieces → fold planner.with_piece (bytes_so prefix) (map spelled pieces) ≡ bytes_so (prefix ++ pieces)
spelled_all prefix [] f g = ap bytes_so (sym (append-nil prefix))
spelled_all prefix (p ∷ pieces) f g =
    ap (λ b. fold planner.with_piece b (map spelled pieces)) (spelled_one prefix p f)
    ∙ spelled_all (prefix ++ p ∷ []) pieces (all_append IsPiece prefix (p ∷ []) f (g.0, tt)) g.1
    ∙ ap bytes_so (append_assoc prefix (p ∷ []) pieces)

-- the bytes of a stream with DESYNC and the no-ops are those that the planner writes
spelled_end : (pieces : List Piece) (noops : ℕ) → planner.with_piece (bytes_so pieces) (planner.Words ((packet_words.command Desync) ++ replicate noops packet_words.no_op)) ≡ stream_of pieces noops
spelled_end pieces noops =
    let items : List Item = with_checks at_first pieces in
    ap (λ t. bytes_so pieces ++ t) (flat_map-append bytes_of_word (packet_words.command Desync) (replicate noops packet_words.no_op))
    ∙ sym (append_assoc (bytes_so pieces) (bytes_of_words (packet_words.command Desync)) (bytes_of_words (replicate noops packet_words.no_op)))
    ∙ ap (λ t. t ++ bytes_of_words (replicate noops packet_words.no_op)) (sym (item_more items desync))
    ∙ sym (flat_map-append bytes_of_word (opened bus_width_head (items ++ desync ∷ [])) (replicate noops packet_words.no_op))

-- words at once and one after the other
words_twice : (b xs ys : List ℕ) → planner.with_piece b (planner.Words (xs ++ ys)) ≡ planner.with_piece (planner.with_piece b (planner.Words xs)) (planner.Words ys)
words_twice b xs ys = ap (λ t. b ++ t) (flat_map-append bytes_of_word xs ys) ∙ sym (append_assoc b (bytes_of_words xs) (bytes_of_words ys))

-- ---- a read stream

pub read_same : (part : PartData) (address n : ℕ) → readback.read_stream part address n ≡ read_stream part address n
read_same part address n = refl

-- ---- a full stream

slots_same : (part : PartData) (plan : PlanData) (places : List Slot) → full.words_of_slots part plan places ≡ joined (frames_at part plan places)
slots_same part plan [] = refl
slots_same part plan (s ∷ places) = ap (λ t. frame_at_slot part plan s ++ t) (slots_same part plan places)

-- the pieces up to the frame data
abbrev opening : PartData → List ℕ → List Piece
opening part ws = Put item.Noop ∷ command Shutdown ∷ command Rcrc ∷ Put item.Noop ∷ one Idcode part.idcode ∷ one Cor0 0x02003FE5 ∷ one Mask 0x501 ∷ one Ctl0 0x101 ∷ command Wcfg ∷ one Far (get_or (addresses_in part) 0 0) ∷ Put (WriteLong (number_of Fdri) ws) ∷ []

abbrev closing : List Piece
closing = Check ∷ command Lfrm ∷ command Start ∷ Check ∷ []

-- the words before frame data of this many words
abbrev words_before : PartData → ℕ → List ℕ
words_before part count =
    planner.opening_words ++ ((packet_words.command Shutdown) ++ ((packet_words.command Rcrc) ++ (packet_words.no_op ∷ (packet_words.write_one Idcode part.idcode ++ (packet_words.write_one Cor0 0x02003FE5 ++ (packet_words.write_one Mask 0x501 ++ (packet_words.write_one Ctl0 0x101
    ++ ((packet_words.command Wcfg) ++ (packet_words.write_one Far (get_or (addresses_in part) 0 0) ++ packet_words.frame_data_headers count)))))))))

opening_same : (part : PartData) (ws : List ℕ) → opened bus_width_head (with_checks at_first (opening part ws)) ≡ words_before part (length ws) ++ (ws ++ [])
opening_same part ws = refl

pub full_same : (part : PartData) (plan : PlanData) → IsPart part → IsPlan plan → plan.width ≡ frame_words part → full.full_stream part plan ≡ full_stream part plan
full_same part plan is p e =
    let ws : List ℕ = joined (frames_at part plan (slots_in part)) in
    let fits : ArePieces (full_pieces part plan) = full_fits part plan is p e (have_words plan.rows p.each) in
    let count : frame_words part * length (slots_in part) ≡ length ws = sym (frames_long part plan (slots_in part) p e) in
    let prefix : List Piece = opening part ws in
    let first : bytes_of_words (full.full_opening part) ++ bytes_of_words (full.words_of_slots part plan (slots_in part)) ≡ bytes_so prefix =
    ap (λ t. bytes_of_words (full.full_opening part) ++ bytes_of_words t) (slots_same part plan (slots_in part))
    ∙ ap (λ (k : ℕ). bytes_of_words (words_before part k) ++ bytes_of_words ws) count
    ∙ sym (flat_map-append bytes_of_word (words_before part (length ws)) ws)
    ∙ ap (λ t. bytes_of_words (words_before part (length ws) ++ t)) (sym (append-nil ws))
    ∙ ap bytes_of_words (sym (opening_same part ws)) in
    let prefix_fits : ArePieces prefix = (fits.0, (fits.1.0, (fits.1.1.0, (fits.1.1.1.0, (fits.1.1.1.1.0, (fits.1.1.1.1.1.0, (fits.1.1.1.1.1.1.0, (fits.1.1.1.1.1.1.1.0, (fits.1.1.1.1.1.1.1.1.0, (fits.1.1.1.1.1.1.1.1.1.0, (fits.1.1.1.1.1.1.1.1.1.1.0, tt))))))))))) in
    let closing_fits : ArePieces closing = fits.1.1.1.1.1.1.1.1.1.1.1 in
    ap (λ b. fold planner.with_piece b (planner.Check ∷ planner.Words full.start_words ∷ planner.Check ∷ planner.Words full.full_ending ∷ [])) first
    ∙ ap (λ b. planner.with_piece (planner.with_piece b planner.Check) (planner.Words full.full_ending)) (words_twice (planner.with_piece (bytes_so prefix) planner.Check) (packet_words.command Lfrm) (packet_words.command Start))
    ∙ ap (λ b. planner.with_piece b (planner.Words full.full_ending)) (spelled_all prefix closing prefix_fits closing_fits)
    ∙ spelled_end (full_pieces part plan) 16

-- ---- a partial stream

copies_spelled : (c : Checking) (fars : List ℕ) → items_words (with_checks c (flat_map copy_pieces fars)) ≡ flat_map copy_words fars
copies_spelled c [] = refl
copies_spelled c (far ∷ fars) = ap (λ t. copy_words far ++ t) (copies_spelled (after_pieces c (copy_pieces far)) fars)

rows_joined : (rows : List PlanRow) → joined (row_frames rows) ≡ frames_words rows
rows_joined [] = refl
rows_joined (r ∷ rows) = ap (λ t. r.words ++ t) (rows_joined rows)

run_words : (part : PartData) (rows : List PlanRow) → joined (row_frames rows ++ zero_frame part ∷ []) ≡ frames_words rows ++ zero_frame part
run_words part rows =
    flat_map-append (λ (frame : List ℕ). frame) (row_frames rows) (zero_frame part ∷ [])
    ∙ ap (λ t. joined (row_frames rows) ++ t) (append-nil (zero_frame part))
    ∙ ap (λ t. t ++ zero_frame part) (rows_joined rows)

run_length : (part : PartData) (rows : List PlanRow) → AllByRecursion (λ row. length row.words ≡ frame_words part) rows → length (joined (row_frames rows ++ zero_frame part ∷ [])) ≡ frame_words part * (length rows + 1)
run_length part rows w =
    joined_length (frame_words part) (row_frames rows ++ zero_frame part ∷ []) (rows_wide (frame_words part) rows (zero_frame part) w (length-replicate (frame_words part) 0))
    ∙ ap (λ (k : ℕ). frame_words part * k) (length-append (row_frames rows) (zero_frame part ∷ []) ∙ ap (λ (k : ℕ). k + 1) (frames_count rows))

abbrev HasWidth : PartData → Section → Type 0
HasWidth part (section.Copies words fars) = length words ≡ frame_words part
HasWidth part (section.Rows rows) = AllByRecursion (λ row. length row.words ≡ frame_words part) rows

section_spelled : (part : PartData) (c : Checking) (s : Section) → HasWidth part s → items_words (with_checks c (section_pieces part s)) ≡ section_words part s
section_spelled part c (section.Copies words fars) w =
    let first : Checking = after_pieces c (command Wcfg ∷ one Far (get_or fars 0 0) ∷ Put (WriteLong (number_of Fdri) words) ∷ command Mfw ∷ []) in
    ap (λ t. (packet_words.command Wcfg) ++ (packet_words.write_one Far (get_or fars 0 0) ++ (packet_words.frame_data_headers (length words) ++ (words ++ ((packet_words.command Mfw) ++ t))))) (copies_spelled first fars)
    ∙ ap (λ (k : ℕ). (packet_words.command Wcfg) ++ (packet_words.write_one Far (get_or fars 0 0) ++ (packet_words.frame_data_headers k ++ (words ++ ((packet_words.command Mfw) ++ flat_map copy_words fars))))) w
section_spelled part c (section.Rows rows) w =
    let ws : List ℕ = joined (row_frames rows ++ zero_frame part ∷ []) in
    let far : ℕ = get_or (planned_addresses rows) 0 0 in
    ap (λ t. (packet_words.command Wcfg) ++ (packet_words.write_one Far far ++ (packet_words.frame_data_headers (length ws) ++ t))) (append-nil ws ∙ run_words part rows)
    ∙ ap (λ (k : ℕ). (packet_words.command Wcfg) ++ (packet_words.write_one Far far ++ (packet_words.frame_data_headers k ++ (frames_words rows ++ zero_frame part)))) (run_length part rows w)

sections_spelled : (part : PartData) (c : Checking) (sections : List Section) → AllByRecursion (HasWidth part) sections → items_words (with_checks c (sections_pieces part sections)) ≡ flat_map (section_words part) sections
sections_spelled part c [] w = refl
sections_spelled part c (s ∷ sections) w =
    let pieces : List Piece = section_pieces part s in
    ap items_words (checks_after c pieces (sections_pieces part sections))
    ∙ flat_map-append item_words (with_checks c pieces) (with_checks (after_items c (with_checks c pieces)) (sections_pieces part sections))
    ∙ ap (λ t. t ++ items_words (with_checks (after_items c (with_checks c pieces)) (sections_pieces part sections))) (section_spelled part c s w.0)
    ∙ ap (λ t. section_words part s ++ t) (sections_spelled part (after_items c (with_checks c pieces)) sections w.1)

runs_width : (part : PartData) (runs : List (List PlanRow)) → AllByRecursion (AllByRecursion (λ row. length row.words ≡ frame_words part)) runs → AllByRecursion (HasWidth part) (map section.Rows runs)
runs_width part [] w = tt
runs_width part (run ∷ runs) w = (w.0, runs_width part runs w.1)

groups_width : (part : PartData) (all qs : List PlanRow) → AllByRecursion (λ row. length row.words ≡ frame_words part) qs → AllByRecursion (HasWidth part) (groups_led all qs)
groups_width part all [] w = tt
groups_width part all (r ∷ qs) w = by (is_first_of_group all r) (groups_width part all qs w.1)
  where
    by : (b : Bool) → AllByRecursion (HasWidth part) (groups_led all qs) → AllByRecursion (HasWidth part) (if b then section.Copies r.words (planned_addresses (with_content r.words all)) ∷ groups_led all qs else groups_led all qs)
    by true ih = (w.0, ih)
    by false ih = ih

sections_width : (part : PartData) (rows : List PlanRow) → AllByRecursion (λ row. length row.words ≡ frame_words part) rows → AllByRecursion (HasWidth part) (sections_of part rows)
sections_width part rows w =
    all_append (HasWidth part) (groups_led rows rows) (map section.Rows (bursts_of part (rows_not_shared rows rows)))
    (groups_width part rows rows w) (runs_width part (bursts_of part (rows_not_shared rows rows)) (of_runs (λ row. length row.words ≡ frame_words part) part rows w))

-- the pieces before the check
abbrev before_check : PartData → List PlanRow → List Piece
before_check part rows = Put item.Noop ∷ command Rcrc ∷ Put item.Noop ∷ one Idcode part.idcode ∷ sections_pieces part (sections_of part rows)

prefix_of : (P : Piece → Type 0) (xs ys : List Piece) → AllByRecursion P (xs ++ ys) → AllByRecursion P xs
prefix_of P [] ys a = tt
prefix_of P (x ∷ xs) ys a = (a.0, prefix_of P xs ys a.1)

pub partial_same : (part : PartData) (rows : List PlanRow) → AllByRecursion (λ row. length row.words ≡ frame_words part) rows → ArePieces (plan_pieces part rows) → partial_stream part rows ≡ stream_of (plan_pieces part rows) 4
partial_same part rows w fits =
    let prefix : List Piece = before_check part rows in
    let c : Checking = after_pieces at_first (Put item.Noop ∷ command Rcrc ∷ Put item.Noop ∷ one Idcode part.idcode ∷ []) in
    let words : flat_map (section_words part) (sections_of part rows) ≡ items_words (with_checks c (sections_pieces part (sections_of part rows))) = sym (sections_spelled part c (sections_of part rows) (sections_width part rows w)) in
    ap (λ t. planner.with_piece (planner.with_piece (bytes_of_words (planner.opening_words ++ ((packet_words.command Rcrc) ++ (packet_words.no_op ∷ (packet_words.write_one Idcode part.idcode ++ t))))) planner.Check) (planner.Words section.partial_ending)) words
    ∙ ap (λ b. planner.with_piece b (planner.Words section.partial_ending)) (spelled_one prefix Check (prefix_of IsPiece prefix (Check ∷ []) fits))
    ∙ spelled_end (plan_pieces part rows) 4

-- ---- addresses

pub named : (rows : List PlanRow) (P : ℕ → Type 0) → AllByRecursion (λ row. P row.far) rows → (far : ℕ) → Contains (planned_addresses rows) far → P far
named [] P a far (k, low, e) = absurd (omega arith)
named (r ∷ rows) P a far (zero, low, e) = subst P e a.0
named (r ∷ rows) P a far (suc k, low, e) = named rows P a.1 far (k, omega arith, e)
