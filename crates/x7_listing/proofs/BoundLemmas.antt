-- How far a lister's text lags the bytes that it took.
use Rattle.std.proofs.Common.{◌≡◌, ◌==◌, ℕ, ◌+◌, ◌*◌, ◌-◌, ◌≤◌, Bool, true, false, if◌then◌else◌, List, [], ◌∷◌, ◌++◌, None, drop, length, length-drop, refl, sym, ap, ap₂, ◌∙◌, take, take-append-drop, append-nil, arith, length-append, codes, flat_map, decimal}
use Rattle.std.specs.List.{AllByRecursion}
use Rattle.std.proofs.lemmas.List.{length-map, length-take-le}
use Rattle.x7_words.proofs.WordLemmas.{length_bytes}
use Rattle.x7_packets.specs.SyncWord.{sync_bytes}
use Rattle.x7_packets.specs.ByHand.{before_last_four, Reading, reading_of}
use Rattle.x7_packets.specs.Packet.{Packet, register_named_by, stepped, words}
use Rattle.x7_packets.specs.Reading.{Place, Searching, Synced, EndedSession, IsPlace, IsEndedSession, packet_bytes, place_bytes, session_bytes}
use Rattle.x7_packets.specs.declared.header.Step.{Step}
use Rattle.x7_packets.specs.declared.header.Step.TheVariants.{Payload, Filler, Nop, Open, Read, Bad}
use Rattle.x7_text.specs.Digits.{hex_byte}
use Rattle.x7_text.specs.Row.{bytes_text, close, element_text, in_line_after, line_end, line_start, next_in_line, open_text, spaced}
use Rattle.x7_regs.specs.Command.{code_of, command_by}
use Rattle.x7_regs.specs.declared.command.Command.{Command}
use Rattle.x7_regs.specs.Register.{reg_name}
use Rattle.x7_packets.proofs.ByHandLemmas.{reading_is_found}
use Rattle.x7_text.proofs.LineLemmas.{bytes_closed, open_text_append}
use Rattle.x7_listing.specs.Line.{Bytes, Check, Cmd, Comment, Data, Empty, Line, Read2, Sync, Word, Write, Write2, cmd_line, ended_text, ended_texts, IsWordLine}
use Rattle.x7_listing.specs.Line as line
use Rattle.x7_listing.specs.HeadLine.{line_of_head, text_of_head}
use Rattle.x7_listing.specs.Listing.{gap_and_sync_lines, gap_lines, listing_of, packet_lines, packets_lines, place_lines, session_lines, sessions_text}
use Rattle.x7_listing.specs.Lister.{GapListed, ListerStandsFor, ListerState, HasListedAt, TakerStandsFor, open_payload, in_line_after_word, open_session_word, open_words, in_line_after_words, written_of}
use Rattle.x7_packets.specs.Mode.{Mode}
use Rattle.x7_listing.proofs.line.LineTextLemmas.{head_is_one}
use Rattle.x7_listing.proofs.ListingLemmas.{gap_and_sync_text, gap_text, packets_text, place_after, texts_append}
use Rattle.x7_listing.proofs.PrefixLemmas.{place_sure, session_over, sure_after, sure_place, sure_text, listed_after}
use Rattle.x7_listing.proofs.SessionLemmas.{session_closed}

-- the text of bytes has at least a byte for each
bytes_long : (i : ℕ) (xs : List ℕ) → length xs ≤ length (open_text 32 (codes "bytes ") hex_byte i xs)
bytes_long i [] = omega arith
bytes_long i (x ∷ xs) =
    let more : List ℕ = open_text 32 (codes "bytes ") hex_byte (next_in_line 32 i) xs in
    let first : List ℕ = line_start (codes "bytes ") i ++ hex_byte x in
    let all : length (open_text 32 (codes "bytes ") hex_byte i (x ∷ xs)) ≡ length ((first ++ line_end 32 i) ++ more) = refl in
    omega (arith, all, bytes_long (next_in_line 32 i) xs, length-append (first ++ line_end 32 i) more, length-append first (line_end 32 i), length-append (line_start (codes "bytes ") i) (hex_byte x))

-- the line of one word has at least four bytes
line_long : (l : Line) → IsWordLine l → 4 ≤ length (ended_text l)
line_long Empty h = absurd h
line_long (Comment text) h = absurd h
line_long (Bytes bytes) h = absurd h
line_long Sync h = omega arith
line_long line.Nop h = omega arith
line_long (Write register count) h = omega (arith, length-append (codes "write ") (reg_name register ++ 32 ∷ decimal count ++ 10 ∷ []))
line_long (line.Read register count) h = omega (arith, length-append (codes "read ") (reg_name register ++ 32 ∷ decimal count ++ 10 ∷ []))
line_long (Write2 count) h = omega (arith, length-append (codes "write2 ") (decimal count ++ 10 ∷ []))
line_long (Read2 count) h = omega (arith, length-append (codes "read2 ") (decimal count ++ 10 ∷ []))
line_long (Word w) h = omega arith
line_long (Data words) h = absurd h
line_long (Cmd command) h = omega arith
line_long Check h = absurd h

head_long : (i w : ℕ) (s : Step) → 4 ≤ length (close i ++ text_of_head s w)
head_long i w s = omega (arith, line_long (line_of_head s w) (head_is_one s w), length-append (close i) (text_of_head s w))

command_by_case : (b : Bool) (c : Command) (w : ℕ) → 4 ≤ length (ended_text (if b then Cmd c else Data (w ∷ [])))
command_by_case true c w = omega arith
command_by_case false c w = omega arith

command_long : (w : ℕ) → 4 ≤ length (ended_text (cmd_line w))
command_long w = command_by_case (code_of (command_by w) == w) (command_by w) w

payload_by : (b : Bool) (i w : ℕ) → 4 ≤ length (open_payload b i w)
payload_by true i w = omega (arith, command_long w, length-append (close i) (ended_text (cmd_line w)))
payload_by false i w =
    let first : List ℕ = line_start (codes "data") i ++ spaced w in
    let all : length (open_payload false i w) ≡ length (first ++ line_end 8 i) = refl in
    omega (arith, all, length-append first (line_end 8 i), length-append (line_start (codes "data") i) (spaced w))

-- what a word adds has at least its four bytes
word_long : (i w : ℕ) (step : Step) → 4 ≤ length (open_session_word i w step)
word_long i w (Payload register x) = payload_by (register == 4) i w
word_long i w Filler = head_long i w Filler
word_long i w Nop = head_long i w Nop
word_long i w (Open r n) = head_long i w (Open r n)
word_long i w (Read r n) = head_long i w (Read r n)
word_long i w (Bad x) = head_long i w (Bad x)

words_long : (i : ℕ) (ss : List (ℕ × Step)) → 4 * length ss ≤ length (open_words i ss)
words_long i [] = omega arith
words_long i (s ∷ ss) = omega (arith, words_long (in_line_after_word i s.1) ss, word_long i s.0 s.1, length-append (open_session_word i s.0 s.1) (open_words (in_line_after_word i s.1) ss))

as_many : (ps : List Packet) → length (flat_map words ps) ≡ length (flat_map stepped ps)
as_many [] = refl
as_many (p ∷ ps) =
    omega (arith, as_many ps, length-append (words p) (flat_map words ps), length-append (stepped p) (flat_map stepped ps), length-map {B = ℕ × Step} p.payload (λ (w : ℕ). (w, Payload (register_named_by p.step) w)))

-- the text of a gap, the sync word and packets has at least a byte for each of their bytes
session_long : (gap : List ℕ) (packets : List Packet) → length gap + 4 + length (packet_bytes packets) ≤ length (ended_texts (gap_and_sync_lines gap) ++ open_words 0 (flat_map stepped packets))
session_long gap packets =
    let ws : List ℕ = open_words 0 (flat_map stepped packets) in
    let bytes : length (packet_bytes packets) ≡ 4 * length (flat_map words packets) = length_bytes (flat_map words packets) in
    omega (arith, gap_long gap, ap length (gap_and_sync_text gap), bytes, as_many packets, words_long 0 (flat_map stepped packets), length-append (ended_texts (gap_and_sync_lines gap)) ws, length-append (bytes_text gap) (codes "sync\n"))
  where
    gap_long : (gap : List ℕ) → length gap ≤ length (bytes_text gap)
    gap_long gap = omega (arith, bytes_long 0 gap, ap length (bytes_closed gap), length-append (open_text 32 (codes "bytes ") hex_byte 0 gap) (close (in_line_after 32 0 gap)))

ended_long : (s : EndedSession) → IsEndedSession s → length (session_bytes s) ≤ length (ended_texts (session_lines s))
ended_long s is =
    let over = session_over s.gap s.packets is.packets in
    let sure : List ℕ = ended_texts (gap_and_sync_lines s.gap) ++ open_words 0 (flat_map stepped s.packets) in
    let text : length (ended_texts (session_lines s)) ≡ length (sure ++ over.0) = ap length over.1 in
    let bytes : length (session_bytes s) ≡ length ((s.gap ++ sync_bytes) ++ packet_bytes s.packets) = refl in
    omega (arith, session_long s.gap s.packets, text, bytes, length-append sure over.0, length-append (s.gap ++ sync_bytes) (packet_bytes s.packets), length-append s.gap sync_bytes)

sessions_long : (ss : List EndedSession) → AllByRecursion IsEndedSession ss → length (flat_map session_bytes ss) ≤ length (sessions_text ss)
sessions_long [] all = omega arith
sessions_long (s ∷ ss) all =
    let text : length (sessions_text (s ∷ ss)) ≡ length (ended_texts (session_lines s) ++ sessions_text ss) = ap length (texts_append (session_lines s) (flat_map session_lines ss)) in
    omega (arith, ended_long s all.0, sessions_long ss all.1, text, length-append (session_bytes s) (flat_map session_bytes ss), length-append (ended_texts (session_lines s)) (sessions_text ss))

place_long : (place : Place) → IsPlace place → length (place_bytes place) ≤ length (sure_place place) + 4
place_long (Searching gap) is = omega (arith, bytes_long 0 (before_last_four gap), length-take-le (length gap - 4) gap (omega arith))
place_long (Synced gap packets tail) is =
    let bytes : length (place_bytes (Synced gap packets tail)) ≡ length (((gap ++ sync_bytes) ++ packet_bytes packets) ++ tail) = refl in
    let text : length (sure_place (Synced gap packets tail)) ≡ length (ended_texts (gap_and_sync_lines gap) ++ open_words 0 (flat_map stepped packets)) = refl in
    omega (arith, session_long gap packets, is.3, bytes, text, length-append ((gap ++ sync_bytes) ++ packet_bytes packets) tail, length-append (gap ++ sync_bytes) (packet_bytes packets), length-append gap sync_bytes)

-- a lister's text is at most four bytes behind the bytes that it took
pub few_held : (l : ListerState) (given before bytes : List ℕ) → ListerStandsFor l given before bytes → length before + length bytes ≤ length (given ++ l.text) + 4
few_held l given before bytes s =
    let t = s.has_listed in
    let r = t.cut.reading in
    omega (
      arith,
      ap length (listed_after l given before bytes s),
      length-append (before ++ sessions_text t.sessions) (sure_place t.at),
      length-append before (sessions_text t.sessions),
      ap length r.joined,
      length-append (flat_map session_bytes t.sessions) (place_bytes t.at),
      sessions_long t.sessions r.each,
      place_long t.at r.ends,
    )

-- a sync word is not listed yet: it stands in the gap's bytes, of which all but those that are held are listed
due_long : (all start : List ℕ) (line : ℕ) (held gap : List ℕ) → GapListed all start line held (gap ++ sync_bytes) → length start + length (gap ++ sync_bytes) ≤ length all + 4
due_long all start line held gap t =
    omega (arith, ap length t.split, length-append t.prefix held, t.few, ap length t.listed, length-append start (open_text 32 (codes "bytes ") hex_byte 0 t.prefix), bytes_long 0 t.prefix)

listed_long : (synced : Bool) (line : ℕ) (held all start : List ℕ) (place : Place) (m : Mode) → HasListedAt (written_of synced line held all) start place m → IsPlace place → length start + length (place_bytes place) ≤ length all + 4
listed_long false line held all start (Searching gap) m t p =
    omega (arith, ap length t.split, length-append t.prefix held, t.few, ap length t.listed, length-append start (open_text 32 (codes "bytes ") hex_byte 0 t.prefix), bytes_long 0 t.prefix)
listed_long false line held all start (Synced gap packets tail) m t p =
    let bytes : place_bytes (Synced gap packets tail) ≡ gap ++ sync_bytes = rw (t.1, t.2) (append-nil (gap ++ sync_bytes ++ []) ∙ append-nil (gap ++ sync_bytes)) in
    omega (arith, due_long all start line held gap t.3, ap length bytes)
listed_long true line held all start place m t p = omega (arith, ap length (sure_at line held all start place m t), length-append start (sure_place place), place_long place p)
  where
    sure_at : (line : ℕ) (held all start : List ℕ) (place : Place) (m : Mode) → HasListedAt (written_of true line held all) start place m → all ≡ start ++ sure_place place
    sure_at line held all start (Searching gap) m t = place_sure true line held all start (Searching gap) Mode.Searching (λ e. let f : Mode.Searching ≡ Mode.SyncFound = e in cc) t
    sure_at line held all start (Synced gap packets tail) m t = place_sure true line held all start (Synced gap packets tail) m t.0 t

-- the text of a lister that takes runs is at most four bytes behind their bytes
pub few_taken : (l : ListerState) (given before bytes : List ℕ) (due : Mode) → TakerStandsFor l given before bytes due → length before + length bytes ≤ length (given ++ l.text) + 4
few_taken l given before bytes due t =
    let r = t.reading in
    omega (
      arith,
      listed_long l.is_synced l.in_line l.held (given ++ l.text) (before ++ sessions_text t.sessions) t.at due t.listed r.ends,
      length-append before (sessions_text t.sessions),
      ap length r.joined,
      length-append (flat_map session_bytes t.sessions) (place_bytes t.at),
      sessions_long t.sessions r.each,
    )

-- ---- how little is held back

close_short : (i : ℕ) → length (close i) ≤ 1
close_short i = by (i == 0)
  where
    by : (b : Bool) → length {A = ℕ} (if b then [] else 10 ∷ []) ≤ 1
    by true = omega arith
    by false = omega arith

-- a byte adds two digits, the line's word before it and a line end at most
byte_short : (i x : ℕ) → length (element_text 32 (codes "bytes ") hex_byte i x) ≤ 9
byte_short i x = by (i == 0) (i + 1 == 32)
  where
    by : (b c : Bool) → length ((if b then codes "bytes " else []) ++ hex_byte x ++ (if c then 10 ∷ [] else [])) ≤ 9
    by true true = omega arith
    by true false = omega arith
    by false true = omega arith
    by false false = omega arith

bytes_short : (i : ℕ) (xs : List ℕ) → length (open_text 32 (codes "bytes ") hex_byte i xs) ≤ 9 * length xs
bytes_short i [] = omega arith
bytes_short i (x ∷ xs) =
    omega (arith, bytes_short (next_in_line 32 i) xs, byte_short i x, length-append (element_text 32 (codes "bytes ") hex_byte i x) (open_text 32 (codes "bytes ") hex_byte (next_in_line 32 i) xs))

-- the lines of a place are at most 64 bytes more than what is sure there: those of four bytes of a gap, or of a word
-- that isn't whole, and line ends
place_short : (place : Place) → IsPlace place → length (ended_texts (place_lines place)) ≤ length (sure_place place) + 64
place_short (Searching gap) is =
    let k : ℕ = length gap - 4 in
    let i : ℕ = in_line_after 32 0 (take k gap) in
    let more : List ℕ = open_text 32 (codes "bytes ") hex_byte i (drop k gap) in
    let whole : open_text 32 (codes "bytes ") hex_byte 0 gap ≡ open_text 32 (codes "bytes ") hex_byte 0 (take k gap) ++ more
    = ap (open_text 32 (codes "bytes ") hex_byte 0) (sym (take-append-drop k gap)) ∙ open_text_append 32 (codes "bytes ") hex_byte 0 (take k gap) (drop k gap) in
    omega (
      arith,
      ap length (gap_text gap),
      ap length (bytes_closed gap),
      length-append (open_text 32 (codes "bytes ") hex_byte 0 gap) (close (in_line_after 32 0 gap)),
      close_short (in_line_after 32 0 gap),
      ap length whole,
      length-append (open_text 32 (codes "bytes ") hex_byte 0 (take k gap)) more,
      bytes_short i (drop k gap),
      length-drop k gap,
    )
place_short (Synced gap packets tail) is =
    let over = session_closed None 0 packets is.1 in
    let sure : List ℕ = ended_texts (gap_and_sync_lines gap) in
    let lines : List ℕ = ended_texts (flat_map packet_lines packets) in
    let known : List ℕ = open_words 0 (flat_map stepped packets) in
    let shut : List ℕ = close (in_line_after_words 0 (flat_map stepped packets)) in
    let text : length (ended_texts (place_lines (Synced gap packets tail))) ≡ length ((sure ++ lines) ++ bytes_text tail)
    = ap length (texts_append (packets_lines gap packets) (gap_lines tail) ∙ ap₂ (λ (a b : List ℕ). a ++ b) (packets_text gap packets) (gap_text tail)) in
    let all : length (sure_place (Synced gap packets tail)) ≡ length (sure ++ known) = refl in
    omega (
      arith,
      text,
      all,
      length-append (sure ++ lines) (bytes_text tail),
      length-append sure lines,
      length-append sure known,
      ap length over,
      length-append known shut,
      close_short (in_line_after_words 0 (flat_map stepped packets)),
      ap length (bytes_closed tail),
      length-append (open_text 32 (codes "bytes ") hex_byte 0 tail) (close (in_line_after 32 0 tail)),
      close_short (in_line_after 32 0 tail),
      bytes_short 0 tail,
      is.3,
    )

-- what a lister has listed, after the listings before, is at most 64 bytes shorter than those listings and the listing
-- of the bytes that it took
pub listing_held : (l : ListerState) (given before bytes : List ℕ) → ListerStandsFor l given before bytes → length before + length (listing_of bytes) ≤ length (given ++ l.text) + 64
listing_held l given before bytes s =
    let r : Reading = reading_of bytes in
    let is = reading_is_found bytes s.has_listed.cut.reading.fits in
    omega (arith, ap length (sure_after l given before bytes s), length-append before (sure_text bytes), place_short r.place is.ends, ap length (place_after r.sessions r.place), length-append (sessions_text r.sessions) (ended_texts (place_lines r.place)), length-append (sessions_text r.sessions) (sure_place r.place))
