-- What a lister has listed of the bytes that it took, word by word and byte by byte (this project's choice).
use Rattle.std.specs.Prelude.{◌≡◌, ℕ, ◌==◌, ◌⊎◌, ◌≤◌, Bool, true, false, if◌then◌else◌, List, [], ◌∷◌, ◌++◌, codes, length}
use Rattle.std.specs.List.{flat_map}
use Rattle.x7_packets.specs.SyncWord.{sync_bytes}
use Rattle.x7_packets.specs.Packet.{Packet, stepped}
use Rattle.x7_packets.specs.Reading.{Place, Searching, Synced, EndedSession, IsReading, tail_of}
use Rattle.x7_packets.specs.Cutter.{CutterState, CutterStandsFor, CutAdds, ChangesMode, IsRun}
use Rattle.x7_packets.specs.declared.header.Step.{Step}
use Rattle.x7_packets.specs.declared.header.Step.TheVariants.{Payload}
use Rattle.x7_packets.specs.declared.cutter.Cut.{Cut}
use Rattle.x7_packets.specs.Mode.{Mode}
use Rattle.x7_regs.specs.Register.{number_of}
use Rattle.x7_regs.specs.declared.register.Reg.TheVariants.{Cmd}
use Rattle.x7_text.specs.Row.{close, element_text, in_line_after, next_in_line, spaced, open_bytes, bytes_row_size, row_words}
use Rattle.x7_listing.specs.HeadLine.{text_of_head}
use Rattle.x7_listing.specs.Line.{cmd_line, ended_text, ended_texts}
use Rattle.x7_listing.specs.Listing.{IsListing, gap_and_sync_lines, sessions_text}

-- the text that a payload word adds where i words stand in an open `data` line (0: none is open)
abbrev pub open_payload : Bool → ℕ → ℕ → List ℕ
open_payload is_cmd i w = if is_cmd then close i ++ ended_text (cmd_line w) else element_text row_words (codes "data") spaced i w

-- how many words stand in an open `data` line after one payload word more
abbrev pub in_line_after_payload : Bool → ℕ → ℕ
in_line_after_payload is_cmd i = if is_cmd then 0 else next_in_line row_words i

-- the text that a word of a session adds where i words stand in an open `data` line, by the word's step
abbrev pub open_session_word : ℕ → ℕ → Step → List ℕ
open_session_word i w (Payload register x) = open_payload (register == number_of Cmd) i w
open_session_word i w step = close i ++ text_of_head step w

-- how many words stand in an open `data` line after one word more of a session
abbrev pub in_line_after_word : ℕ → Step → ℕ
in_line_after_word i (Payload register x) = in_line_after_payload (register == number_of Cmd) i
in_line_after_word i step = 0

-- the text that words of a session add where i words stand in an open `data` line; the last line may stay open
abbrev pub open_words : ℕ → List (ℕ × Step) → List ℕ
open_words i [] = []
open_words i (s ∷ ss) = open_session_word i s.0 s.1 ++ open_words (in_line_after_word i s.1) ss

-- how many words stand in an open `data` line after these words of a session
abbrev pub in_line_after_words : ℕ → List (ℕ × Step) → ℕ
in_line_after_words i [] = i
in_line_after_words i (s ∷ ss) = in_line_after_words (in_line_after_word i s.1) ss

-- the bytes of a gap are listed but for those that are held, the last four at most, which may be bytes of a sync word
pub record GapListed (all start : List ℕ) (in_line : ℕ) (held gap : List ℕ) : Type 0 where
  pub prefix : List ℕ
  pub split : gap ≡ prefix ++ held
  pub listed : all ≡ start ++ open_bytes 0 prefix
  pub count : in_line ≡ in_line_after bytes_row_size 0 prefix
  pub full : (length held ≡ 4) ⊎ (prefix ≡ [])
  pub few : length held ≤ 4

-- the gap before a session, its sync word and its words are listed; a `data` line that isn't full stays open
pub record SessionListed (all start : List ℕ) (in_line : ℕ) (gap : List ℕ) (packets : List Packet) : Type 0 where
  pub listed : all ≡ start ++ ended_texts (gap_and_sync_lines gap) ++ open_words 0 (flat_map stepped packets)
  pub count : in_line ≡ in_line_after_words 0 (flat_map stepped packets)

-- what is written of a listing: its text so far, and what stands in its open line or is held
pub record WrittenSoFar : Type 0 where
  -- whether the last bytes listed are a session's
  pub is_synced : Bool
  -- how many bytes of a gap, or words of a session, stand in the open line; 0 where none is open
  pub in_line : ℕ
  -- the bytes that are held: of a gap, or of no whole word where runs are taken
  pub held : List ℕ
  pub text : List ℕ

-- what is written of a listing, by its parts
abbrev pub written_of : Bool → ℕ → List ℕ → List ℕ → WrittenSoFar
written_of is_synced in_line held text = record { is_synced = is_synced; in_line = in_line; held = held; text = text }

-- the text of what comes before the place is `start`; after it stand, by whether the last bytes listed are a session's,
-- the lines of the session, or those of the gap but for what is held
abbrev pub HasListedBy : Bool → WrittenSoFar → List ℕ → Place → Mode → Type 0
HasListedBy false w start (Searching gap) m = GapListed w.text start w.in_line w.held gap
HasListedBy false w start (Synced gap packets tail) m = (m ≡ Mode.SyncFound) × (packets ≡ []) × (tail ≡ [])
    × GapListed w.text start w.in_line w.held (gap ++ sync_bytes)
HasListedBy true w start (Searching gap) m = (gap ≡ []) × (w.in_line ≡ 0) × (w.text ≡ start)
HasListedBy true w start (Synced gap packets tail) m = (m ≡ Mode.SyncFound → ⊥) × SessionListed w.text start w.in_line gap packets

-- the text of what comes before the place is `start`, and after it stands what is listed at the place
abbrev pub HasListedAt : WrittenSoFar → List ℕ → Place → Mode → Type 0
HasListedAt w start place m = HasListedBy w.is_synced w start place m

-- what is written are the listings before, and then what is listed of these ended sessions and this place
abbrev pub HasListed : WrittenSoFar → List ℕ → List EndedSession → Place → Mode → Type 0
HasListed w before sessions place m = HasListedAt w (before ++ sessions_text sessions) place m

-- all of a reading was listed but what is left for its end: no sync word is still to be listed
pub record HasListedAll (w : WrittenSoFar) (before : List ℕ) (sessions : List EndedSession) (place : Place) : Type 0 where
  pub bytes : List ℕ
  pub reading : IsReading bytes sessions place
  pub mode : Mode
  pub listed : HasListed w before sessions place mode
  pub not_sync_found : mode ≡ Mode.SyncFound → ⊥

-- the run was listed: where a reading was listed before it, the reading with what the run adds is listed after it
abbrev pub WritesRun : Cut → WrittenSoFar → WrittenSoFar → Type 0
WritesRun run w w2 =
    (before bytes : List ℕ) (sessions new_sessions : List EndedSession) (place new_place : Place) (old new : Mode)
    → HasListed w before sessions place old → CutAdds run sessions place new_sessions new_place → ChangesMode run old new new_place → IsRun run
    → IsReading bytes new_sessions new_place → HasListed w2 before new_sessions new_place new

-- a lister: its cutter, what stands in its open line or is held, and its text
pub record ListerState : Type 0 where
  pub cutter : CutterState
  -- whether the last bytes listed are a session's
  pub is_synced : Bool
  -- how many bytes of a gap, or words of a session, stand in the open line; 0 where none is open
  pub in_line : ℕ
  -- the bytes that are held: of a gap, or of no whole word where runs are taken
  pub held : List ℕ
  -- the text since it was last cleared
  pub text : List ℕ

-- a lister by its parts
abbrev pub lister_of : CutterState → Bool → ℕ → List ℕ → List ℕ → ListerState
lister_of cutter is_synced in_line held text = record { cutter = cutter; is_synced = is_synced; in_line = in_line; held = held; text = text }

-- what a lister has written: the texts given, which are those that were cleared, and then its own
abbrev pub listing_written : ListerState → List ℕ → WrittenSoFar
listing_written l given = written_of l.is_synced l.in_line l.held (given ++ l.text)

-- The texts given and the lister's are those of listings before, and then what is listed of these bytes.
pub record HasListedJust (l : ListerState) (given before bytes : List ℕ) : Type 0 where
  pub sessions : List EndedSession
  pub at : Place
  pub cut : CutterStandsFor l.cutter bytes sessions at
  pub listed : HasListed (listing_written l given) before sessions at l.cutter.mode

-- A lister of pieces: the texts given and its own are those of listings before, and then what is listed of these bytes;
-- no sync word is still to be listed.
pub record ListerStandsFor (l : ListerState) (given before bytes : List ℕ) : Type 0 where
  pub has_listed : HasListedJust l given before bytes
  pub ready : l.cutter.mode ≡ Mode.SyncFound → ⊥

-- A lister that takes the runs of a stream: the texts given and its own are those of listings before, and then what is
-- listed of these bytes, a sync word being due to be listed or not. Its own cutter took no byte, and the bytes of no
-- whole word are held.
pub record TakerStandsFor (l : ListerState) (given before bytes : List ℕ) (due : Mode) : Type 0 where
  pub sessions : List EndedSession
  pub at : Place
  pub reading : IsReading bytes sessions at
  pub listed : HasListed (listing_written l given) before sessions at due
  pub tail : l.is_synced ≡ true → l.held ≡ tail_of at
  pub cutter : CutterStandsFor l.cutter [] [] (Searching [])

-- The texts given and the lister's text are those of listings before and the listing of these bytes, and a new listing
-- begins, of bytes or of runs.
pub record HasFinished (l : ListerState) (given before bytes : List ℕ) : Type 0 where
  pub listing : List ℕ
  pub listing_is : IsListing bytes listing
  pub listed : given ++ l.text ≡ before ++ listing
  pub stands : ListerStandsFor l given (before ++ listing) []
  pub takes : TakerStandsFor l given (before ++ listing) [] Mode.Searching
