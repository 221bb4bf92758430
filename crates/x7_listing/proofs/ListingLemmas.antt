-- Lemmas on specs/Listing: the texts of rows as lines, and of lines after others.
use Rattle.std.proofs.Common.{◌≡◌, ℕ, List, [], ◌∷◌, ◌++◌, map, ap, ◌∙◌, codes}
use Rattle.std.proofs.lemmas.Grind.{flat_map-append}
use Rattle.std.proofs.lemmas.List.Folds.{flat_map-map}
use Rattle.std.specs.List.{flat_map}
use Rattle.x7_words.proofs.ListLemmas.{flat_map_last}
use Rattle.x7_packets.specs.Packet.{Packet}
use Rattle.x7_packets.specs.Reading.{Place, EndedSession}
use Rattle.x7_text.specs.Row.{bytes_text, data_text, rows}
use Rattle.x7_listing.specs.Line.{Line, Bytes, Data, Sync, ended_text, ended_texts}
use Rattle.x7_listing.specs.Listing.{gap_and_sync_lines, gap_lines, packet_lines, packets_lines, place_lines, reading_text, session_lines, sessions_text}

-- bytes and words by rows
pub gap_text : (bs : List ℕ) → ended_texts (gap_lines bs) ≡ bytes_text bs
gap_text bs = flat_map-map ended_text Bytes (rows 32 bs)

pub rows_text : (ws : List ℕ) → ended_texts (map Data (rows 8 ws)) ≡ data_text ws
rows_text ws = flat_map-map ended_text Data (rows 8 ws)

-- lines and others after them
pub texts_append : (ls more : List Line) → ended_texts (ls ++ more) ≡ ended_texts ls ++ ended_texts more
texts_append ls more = flat_map-append ended_text ls more

pub gap_and_sync_text : (gap : List ℕ) → ended_texts (gap_and_sync_lines gap) ≡ bytes_text gap ++ codes "sync\n"
gap_and_sync_text gap = texts_append (gap_lines gap) (Sync ∷ []) ∙ ap (λ t. t ++ codes "sync\n") (gap_text gap)

pub packets_text : (gap : List ℕ) (packets : List Packet) → ended_texts (packets_lines gap packets) ≡ ended_texts (gap_and_sync_lines gap) ++ ended_texts (flat_map packet_lines packets)
packets_text gap packets = texts_append (gap_and_sync_lines gap) (flat_map packet_lines packets)

-- one ended session more
pub session_more : (sessions : List EndedSession) (session : EndedSession) → sessions_text (sessions ++ session ∷ []) ≡ sessions_text sessions ++ ended_texts (session_lines session)
session_more sessions session = ap ended_texts (flat_map_last session_lines sessions session) ∙ texts_append (flat_map session_lines sessions) (session_lines session)

pub place_after : (sessions : List EndedSession) (place : Place) → reading_text sessions place ≡ sessions_text sessions ++ ended_texts (place_lines place)
place_after sessions place = texts_append (flat_map session_lines sessions) (place_lines place)
