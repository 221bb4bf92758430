-- A listing has at most five bytes for each byte of its stream, and four more.
use Rattle.std.proofs.Common.{◌≡◌, ◌==◌, ℕ, ◌+◌, ◌*◌, ◌<◌, ◌≤◌, Bool, true, false, if◌then◌else◌, List, [], ◌∷◌, ◌++◌, Result, Ok, Err, length, map, drop, refl, ap, subst, ◌∙◌, arith, codes, length-append}
use Rattle.std.specs.Prelude.{nat_lt}
use Rattle.std.specs.List.{AllByRecursion, flat_map}
use Rattle.std.specs.Fmt.{decimal}
use Rattle.std.proofs.lemmas.Bool.{ltb-true}
use Rattle.std.proofs.lemmas.Fmt.{length-decimal-le}
use Rattle.std.proofs.lemmas.Grind.{flat_map-append}
use Rattle.x7_words.specs.Word.{AreBytes, bytes_of_word}
use Rattle.x7_words.proofs.ListLemmas.{all_append, all_back, all_prefix}
use Rattle.x7_words.proofs.WordLemmas.{length_bytes}
use Rattle.x7_header.specs.Header.{HeaderContents, field_bytes, fixed_bytes, FitHeaderFields, header_bytes, FieldKind}
use Rattle.x7_header.specs.Reading.{header_at}
use Rattle.x7_header.specs.declared.fault.HeaderFault.{HeaderFault}
use Rattle.x7_header.specs.declared.fault.HeaderFault.TheVariants as fault
use Rattle.x7_header.proofs.HeaderLemmas.{header_takes, IsPrefix}
use Rattle.x7_packets.specs.Packet.{Packet, register_named_by}
use Rattle.x7_packets.specs.Reading.{EndedSession, Place, Searching, Synced}
use Rattle.x7_packets.specs.ByHand.{reading_of}
use Rattle.x7_regs.specs.Command.{code_of, command_by, command_name_of}
use Rattle.x7_regs.specs.declared.command.Command.{Command}
use Rattle.x7_regs.specs.declared.command.Command.TheVariants as command
use Rattle.x7_regs.specs.Register.{reg_name, reg_number_count}
use Rattle.x7_text.specs.Digits.{hex_byte}
use Rattle.x7_text.specs.Row.{AreFullButLast, rows, spaced}
use Rattle.x7_text.proofs.ReadRowLemmas.{length_spaced}
use Rattle.x7_text.proofs.RowLemmas.{rows_full}
use Rattle.x7_text.proofs.WholeLineLemmas.{length_hex_bytes}
use Rattle.x7_listing.specs.BitLine.{bit_text, field_text}
use Rattle.x7_listing.specs.HeadLine.{line_of_head}
use Rattle.x7_listing.specs.Line.{Line, Bytes, Cmd, Comment, Check, Data, Empty, Nop, Read, Read2, Sync, Word, Write, Write2, line_bytes, FitsLine, IsWordLine, cmd_line, ended_text, ended_texts}
use Rattle.x7_listing.specs.Listing.{gap_and_sync_lines, gap_lines, listing_of, packet_lines, packets_lines, place_lines, session_lines}
use Rattle.x7_listing.specs.StreamListing.{listing_by, stream_listing}
use Rattle.x7_listing.proofs.GuessLemmas.{each_holds, each_name}
use Rattle.x7_listing.proofs.ListedBytesLemmas.{listing_stands}
use Rattle.x7_listing.proofs.line.LineTextLemmas.{Listed, head_is_one}
use Rattle.x7_packets.specs.PacketWords.{type1_count_bound, type2_count_bound}

-- a register's name has fewer than eight bytes, and a command's fewer than ten
few : List ℕ → ℕ → Bool
few name n = nat_lt (length name) 8

all_few : each_name few 32 ≡ true
unfolding each_name few
all_few = refl

name_few : (n : ℕ) → n < reg_number_count → length (reg_name n) < 8
unfolding few
name_few n h = ltb-true (length (reg_name n)) 8 (each_holds few 32 n h all_few)

command_few : (c : Command) → length (command_name_of c) < 10
command_few command.Null = omega arith
command_few command.Wcfg = omega arith
command_few command.Mfw = omega arith
command_few command.Lfrm = omega arith
command_few command.Rcfg = omega arith
command_few command.Start = omega arith
command_few command.Rcap = omega arith
command_few command.Rcrc = omega arith
command_few command.Aghigh = omega arith
command_few command.Switch = omega arith
command_few command.Grestore = omega arith
command_few command.Shutdown = omega arith
command_few command.Gcapture = omega arith
command_few command.Desync = omega arith
command_few command.Iprog = omega arith
command_few command.Crcc = omega arith
command_few command.Ltimer = omega arith
command_few command.BspiRead = omega arith
command_few command.FallEdge = omega arith

-- a line of a listing that is no `bytes` line
abbrev pub IsWhole : Line → Type 0
IsWhole Empty = ⊥
IsWhole (Comment text) = ⊥
IsWhole (Bytes bytes) = ⊥
IsWhole Check = ⊥
IsWhole _ = Unit {0}

access_few : (word : List ℕ) (n c : ℕ) → length word ≤ 6 → n < reg_number_count → c < type1_count_bound → length ((word ++ (reg_name n ++ 32 ∷ decimal c)) ++ 10 ∷ []) ≤ 20
access_few word n c l h k = omega (arith, l, name_few n h, length-decimal-le 4 c (omega arith) (omega (arith, k)) (omega (arith, k)), length-append (word ++ (reg_name n ++ 32 ∷ decimal c)) (10 ∷ []), length-append word (reg_name n ++ 32 ∷ decimal c), length-append (reg_name n) (32 ∷ decimal c))

count_few : (word : List ℕ) (c : ℕ) → length word ≤ 7 → c < type2_count_bound → length ((word ++ decimal c) ++ 10 ∷ []) ≤ 20
count_few word c l k = omega (arith, l, length-decimal-le 9 c (omega arith) (omega (arith, k)) (omega (arith, k)), length-append (word ++ decimal c) (10 ∷ []), length-append word (decimal c))

line_short : (l : Line) → FitsLine l → IsWhole l → length (ended_text l) ≤ 5 * length (line_bytes 0 l)
line_short Empty f o = absurd o
line_short (Comment text) f o = absurd o
line_short (Bytes bytes) f o = absurd o
line_short Sync f o = omega arith
line_short Nop f o = omega arith
line_short (Write n c) f o = access_few (codes "write ") n c (omega arith) f.0 f.1
line_short (Read n c) f o = access_few (codes "read ") n c (omega arith) f.0 f.1
line_short (Write2 c) f o = count_few (codes "write2 ") c (omega arith) f
line_short (Read2 c) f o = count_few (codes "read2 ") c (omega arith) f
line_short (Word w) f o = omega arith
line_short (Data ws) f o = omega (arith, f.1, length_bytes ws, length_spaced ws, length-append (codes "data" ++ flat_map spaced ws) (10 ∷ []), length-append (codes "data") (flat_map spaced ws))
line_short (Cmd c) f o = omega (arith, command_few c, length-append (codes "cmd " ++ command_name_of c) (10 ∷ []), length-append (codes "cmd ") (command_name_of c))
line_short Check f o = absurd o

-- how long the texts of lines are, and their bytes
texts_long : (a b : List Line) → length (ended_texts (a ++ b)) ≡ length (ended_texts a) + length (ended_texts b)
texts_long a b = ap length (flat_map-append ended_text a b) ∙ length-append (ended_texts a) (ended_texts b)

bytes_long : (a b : List Line) → length (flat_map (line_bytes 0) (a ++ b)) ≡ length (flat_map (line_bytes 0) a) + length (flat_map (line_bytes 0) b)
bytes_long a b = ap length (flat_map-append (line_bytes 0) a b) ∙ length-append (flat_map (line_bytes 0) a) (flat_map (line_bytes 0) b)

lines_short : (ls : List Line) → AllByRecursion Listed ls → AllByRecursion IsWhole ls → length (ended_texts ls) ≤ 5 * length (flat_map (line_bytes 0) ls)
lines_short [] a o = omega arith
lines_short (l ∷ ls) a o = omega (arith, line_short l a.0.0 o.0, lines_short ls a.1 o.1, length-append (ended_text l) (ended_texts ls), length-append (line_bytes 0 l) (flat_map (line_bytes 0) ls))

row_long : (r : List ℕ) → length (ended_text (Bytes r)) ≡ 7 + 2 * length r
row_long r = omega (arith, length_hex_bytes r, length-append (codes "bytes " ++ flat_map hex_byte r) (10 ∷ []), length-append (codes "bytes ") (flat_map hex_byte r))

rows_short : (rs : List (List ℕ)) → AreFullButLast 32 rs → length (ended_texts (map Bytes rs)) ≤ 5 * length (flat_map (line_bytes 0) (map Bytes rs)) + 4
rows_short [] f = omega arith
rows_short (r ∷ []) f = omega (arith, f.0, row_long r, length-append (ended_text (Bytes r)) [], length-append r [])
rows_short (r ∷ s ∷ rs) f = omega (arith, f.0, row_long r, rows_short (s ∷ rs) f.1, length-append (ended_text (Bytes r)) (ended_texts (map Bytes (s ∷ rs))), length-append r (flat_map (line_bytes 0) (map Bytes (s ∷ rs))))

gap_short : (bs : List ℕ) → length (ended_texts (gap_lines bs)) ≤ 5 * length (flat_map (line_bytes 0) (gap_lines bs)) + 4
gap_short bs = rows_short (rows 32 bs) (rows_full 32 [] bs (omega arith))

-- packets have no `bytes` line
word_whole : (l : Line) → IsWordLine l → IsWhole l
word_whole Empty h = h
word_whole (Comment text) h = h
word_whole (Bytes bytes) h = h
word_whole Sync h = tt
word_whole Nop h = tt
word_whole (Write n c) h = tt
word_whole (Read n c) h = tt
word_whole (Write2 c) h = tt
word_whole (Read2 c) h = tt
word_whole (Word w) h = tt
word_whole (Data ws) h = tt
word_whole (Cmd c) h = tt
word_whole Check h = h

cmd_by : (b : Bool) (w : ℕ) → IsWhole (if b then Cmd (command_by w) else Data (w ∷ []))
cmd_by true w = tt
cmd_by false w = tt

cmds_whole : (ws : List ℕ) → AllByRecursion IsWhole (map cmd_line ws)
cmds_whole [] = tt
cmds_whole (w ∷ ws) = (cmd_by (code_of (command_by w) == w) w, cmds_whole ws)

data_whole : (rs : List (List ℕ)) → AllByRecursion IsWhole (map Data rs)
data_whole [] = tt
data_whole (r ∷ rs) = (tt, data_whole rs)

payload_by : (b : Bool) (ws : List ℕ) → AllByRecursion IsWhole (if b then map cmd_line ws else map Data (rows 8 ws))
payload_by true ws = cmds_whole ws
payload_by false ws = data_whole (rows 8 ws)

packets_whole : (ps : List Packet) → AllByRecursion IsWhole (flat_map packet_lines ps)
packets_whole [] = tt
packets_whole (p ∷ ps) = all_append IsWhole (packet_lines p) (flat_map packet_lines ps) (word_whole (line_of_head p.step p.head) (head_is_one p.step p.head), payload_by (register_named_by p.step == 4) p.payload) (packets_whole ps)

-- the lines of a gap, the sync word and packets have at most five bytes for each byte that they stand for, less eleven
session_short : (gap : List ℕ) (packets : List Packet) → AllByRecursion Listed (packets_lines gap packets) → length (ended_texts (packets_lines gap packets)) + 11 ≤ 5 * length (flat_map (line_bytes 0) (packets_lines gap packets))
session_short gap packets a =
    let ls : List Line = flat_map packet_lines packets in
    let first : List Line = gap_and_sync_lines gap in
    let sync : length (ended_texts (Sync ∷ [])) ≡ 5 = refl in
    let four : length (flat_map (line_bytes 0) (Sync ∷ [])) ≡ 4 = refl in
    omega (arith, gap_short gap, lines_short ls (all_back Listed first ls a) (packets_whole packets), sync, four, texts_long first ls, bytes_long first ls, texts_long (gap_lines gap) (Sync ∷ []), bytes_long (gap_lines gap) (Sync ∷ []))

sessions_short : (ss : List EndedSession) → AllByRecursion Listed (flat_map session_lines ss) → length (ended_texts (flat_map session_lines ss)) ≤ 5 * length (flat_map (line_bytes 0) (flat_map session_lines ss))
sessions_short [] a = omega arith
sessions_short (s ∷ ss) a =
    omega (
      arith,
      session_short s.gap s.packets (all_prefix Listed (session_lines s) (flat_map session_lines ss) a),
      sessions_short ss (all_back Listed (session_lines s) (flat_map session_lines ss) a),
      texts_long (session_lines s) (flat_map session_lines ss),
      bytes_long (session_lines s) (flat_map session_lines ss),
    )

place_short : (p : Place) → AllByRecursion Listed (place_lines p) → length (ended_texts (place_lines p)) ≤ 5 * length (flat_map (line_bytes 0) (place_lines p)) + 4
place_short (Searching gap) a = gap_short gap
place_short (Synced gap packets tail) a =
    omega (arith, session_short gap packets (all_prefix Listed (packets_lines gap packets) (gap_lines tail) a), gap_short tail, texts_long (packets_lines gap packets) (gap_lines tail), bytes_long (packets_lines gap packets) (gap_lines tail))

listing_short : (bytes : List ℕ) → AreBytes bytes → length (listing_of bytes) ≤ 5 * length bytes + 4
listing_short bytes fits =
    let s = listing_stands bytes fits in
    let ss : List EndedSession = (reading_of bytes).sessions in
    let p : Place = (reading_of bytes).place in
    let one : List Line = flat_map session_lines (reading_of bytes).sessions in
    let two : List Line = place_lines (reading_of bytes).place in
    omega (arith, sessions_short ss (all_prefix Listed one two s.each), place_short p (all_back Listed one two s.each), texts_long one two, bytes_long one two, ap length s.are)

-- a header's line
field_short : (bs : List ℕ) → length (field_text bs) ≤ 2 * length bs + 1
field_short [] = omega arith
field_short (b ∷ bs) = omega (arith, length_hex_bytes (b ∷ bs))

field_long : (letter : ℕ) (bs rest : List ℕ) → length (field_bytes (record { letter = letter; kind = FieldKind.Counted }) bs ++ rest) ≡ 3 + length bs + length rest
field_long letter bs rest = omega (arith, length-append bs rest)

spaced_long : (text rest : List ℕ) → length (text ++ 32 ∷ rest) ≡ length text + 1 + length rest
spaced_long text rest = omega (arith, length-append text (32 ∷ rest))

bit_short : (x : HeaderContents) → FitHeaderFields x → length (bit_text x) + 1 ≤ 5 * length (header_bytes x)
bit_short x h =
    let e = field_bytes (record { letter = 0x65; kind = FieldKind.Four }) (bytes_of_word x.data_length) ++ [] in
    let d = field_bytes (record { letter = 0x64; kind = FieldKind.Counted }) x.d ++ e in
    let c = field_bytes (record { letter = 0x63; kind = FieldKind.Counted }) x.c ++ d in
    let b = field_bytes (record { letter = 0x62; kind = FieldKind.Counted }) x.b ++ c in
    let n : List ℕ = decimal x.data_length in
    let t4 : List ℕ = field_text x.d ++ 32 ∷ n in
    let t3 : List ℕ = field_text x.c ++ 32 ∷ t4 in
    let t2 : List ℕ = field_text x.b ++ 32 ∷ t3 in
    let all : length (header_bytes x) ≡ 13 + length (field_bytes (record { letter = 0x61; kind = FieldKind.Counted }) x.a ++ b) = length-append fixed_bytes (field_bytes (record { letter = 0x61; kind = FieldKind.Counted }) x.a ++ b) in
    let line : length (bit_text x) ≡ 4 + length (field_text x.a ++ 32 ∷ t2) = length-append (codes "bit ") (field_text x.a ++ 32 ∷ t2) in
    omega (
      arith,
      all,
      field_long 0x61 x.a b,
      field_long 0x62 x.b c,
      field_long 0x63 x.c d,
      field_long 0x64 x.d e,
      line,
      spaced_long (field_text x.a) t2,
      spaced_long (field_text x.b) t3,
      spaced_long (field_text x.c) t4,
      spaced_long (field_text x.d) n,
      field_short x.a,
      field_short x.b,
      field_short x.c,
      field_short x.d,
      length-decimal-le 10 x.data_length (omega arith) (omega (arith, h.data_length)) (omega (arith, h.data_length)),
    )

ok_text : (s t : List ℕ) → ◌≡◌ {A = Result (List ℕ) ℕ} (Ok s) (Ok t) → s ≡ t
ok_text s t f = cc

short_by : (b text : List ℕ) (r : Result (HeaderContents × ℕ) HeaderFault) → header_at b ≡ r → AreBytes b → listing_by b r ≡ Ok text → length text ≤ 5 * length b + 4
short_by b text (Ok top) e fits is =
    let p : IsPrefix b top = header_takes b top fits e in
    let rest : List ℕ = drop top.1 b in
    let whole : AreBytes (header_bytes top.0 ++ drop top.1 b) = subst AreBytes p.prefix fits in
    let more : AreBytes (drop top.1 b) = all_back (λ c. c < 256) (header_bytes top.0) (drop top.1 b) whole in
    omega (arith, ap length (ok_text (bit_text top.0 ++ 10 ∷ listing_of (drop top.1 b)) text is), length-append (bit_text top.0) (10 ∷ listing_of (drop top.1 b)), bit_short top.0 p.fit_header, listing_short (drop top.1 b) more, ap length p.prefix, length-append (header_bytes top.0) (drop top.1 b))
short_by b text (Err fault.Raw) e fits is = omega (arith, ap length (ok_text (listing_of b) text is), listing_short b fits)
short_by b text (Err (fault.Cut place)) e fits is = absurd cc
short_by b text (Err (fault.Field place)) e fits is = absurd cc

pub stream_short : (b text : List ℕ) → AreBytes b → stream_listing b ≡ Ok text → length text ≤ 5 * length b + 4
stream_short b text fits is = short_by b text (header_at b) refl fits is
