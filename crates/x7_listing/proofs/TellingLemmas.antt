-- What is listed at each place of a stream, after each kind of run and at the end.
use Rattle.std.proofs.Common.{◌≡◌, ℕ, ◌==◌, ◌&&◌, Bool, true, false, if◌then◌else◌, inl, inr, Bor, List, [], ◌∷◌, ◌++◌, None, length, refl, ap, sym, subst, ◌∙◌, append_assoc, append-nil, arith, length-append, codes, flat_map}
use Rattle.std.specs.List.{AllByRecursion}
use Rattle.x7_words.proofs.ListLemmas.{all_back, same_prefix}
use Rattle.x7_packets.specs.SyncWord.{sync_bytes}
use Rattle.x7_packets.specs.Packet.{Packet, EachPacket, ended, stepped}
use Rattle.x7_packets.specs.Machine.{session_ends_by, is_end}
use Rattle.x7_packets.specs.Reading.{Place, Searching, Synced, EndedSession, IsReading, IsEndedSession, tail_of}
use Rattle.x7_packets.specs.Cutter.{CutAdds, LongerSession, ChangesMode}
use Rattle.x7_packets.specs.declared.header.Step.{Step}
use Rattle.x7_packets.specs.declared.header.Step.TheVariants.{Filler, Nop, Open, Payload, Read, Bad}
use Rattle.x7_packets.specs.Mode.{Mode}
use Rattle.x7_packets.specs.declared.cutter.Cut.TheVariants.{Skip, Sync}
use Rattle.x7_text.specs.Digits.{hex_byte}
use Rattle.x7_text.specs.Row.{bytes_text, close, in_line_after, open_bytes}
use Rattle.x7_text.proofs.LineLemmas.{bytes_closed, in_line_after_append, open_text_append}
use Rattle.x7_listing.specs.Line.{ended_texts}
use Rattle.x7_listing.specs.Listing.{gap_and_sync_lines, gap_lines, packet_lines, packets_lines, place_lines, reading_text, sessions_text}
use Rattle.x7_listing.specs.Lister.{GapListed, SessionListed, HasListed, HasListedAt, in_line_after_word, in_line_after_words, open_words, written_of}
use Rattle.x7_listing.proofs.GapLemmas.{fresh_gap}
use Rattle.x7_listing.proofs.ListingLemmas.{gap_and_sync_text, gap_text, packets_text, place_after, session_more, texts_append}
use Rattle.x7_listing.proofs.SessionLemmas.{session_closed, words_place_append, open_words_append}

skipped : (line2 : ℕ) (held2 all2 start gap : List ℕ) (run : Bor (List ℕ)) (sessions new_sessions : List EndedSession) (np : Place) (old new : Mode)
    → CutAdds (Skip run) sessions (Searching gap) new_sessions np → ChangesMode (Skip run) old new np → GapListed all2 start line2 held2 (gap ++ run.now) → HasListedAt (written_of false line2 held2 all2) start np new
skipped line2 held2 all2 start gap run sessions new_sessions np old new a m g = elim a.1 [
  | inl e ↦ subst (λ p. HasListedAt (written_of false line2 held2 all2) start p new) (sym e) g
  | inr f ↦ subst (λ p. ChangesMode (Skip run) old new p → HasListedAt (written_of false line2 held2 all2) start p new) (sym f.2) (λ k. (k, refl, refl, subst (λ t. GapListed all2 start line2 held2 t) f.1 g)) m
]

same_sessions : (synced : Bool) (line : ℕ) (held all before : List ℕ) (sessions new_sessions : List EndedSession) (np : Place) (new : Mode) → new_sessions ≡ sessions
    → HasListedAt (written_of synced line held all) (before ++ sessions_text sessions) np new
    → HasListed (written_of synced line held all) before new_sessions np new
same_sessions synced line held all before sessions new_sessions np new e a = subst (λ s. HasListedAt (written_of synced line held all) (before ++ sessions_text s) np new) (sym e) a

pub skip_listed : (synced : Bool) (line line2 : ℕ) (held held2 all all2 before : List ℕ) (sessions new_sessions : List EndedSession) (at np : Place) (old new : Mode) (run : Bor (List ℕ))
    → HasListed (written_of synced line held all) before sessions at old → CutAdds (Skip run) sessions at new_sessions np → ChangesMode (Skip run) old new np
    → ((start gap : List ℕ) → GapListed all start (if synced then 0 else line) (if synced then [] else held) gap → GapListed all2 start line2 held2 (gap ++ run.now))
    → HasListed (written_of false line2 held2 all2) before new_sessions np new
skip_listed synced line line2 held held2 all all2 before sessions new_sessions (Synced gap packets tail) np old new run t a m g = absurd a
skip_listed false line line2 held held2 all all2 before sessions new_sessions (Searching gap) np old new run t a m g =
    let start : List ℕ = before ++ sessions_text sessions in
    same_sessions false line2 held2 all2 before sessions new_sessions np new a.0 (skipped line2 held2 all2 start gap run sessions new_sessions np old new a m (g start gap t))
skip_listed true line line2 held held2 all all2 before sessions new_sessions (Searching gap) np old new run t a m g =
    let start : List ℕ = before ++ sessions_text sessions in
    same_sessions false line2 held2 all2 before sessions new_sessions np new a.0 (skipped line2 held2 all2 start gap run sessions new_sessions np old new a m (g start gap (fresh_gap all start gap t.0 t.2)))

gap_closed : (all start : List ℕ) (line : ℕ) (prefix : List ℕ) → all ≡ start ++ open_bytes 0 prefix → line ≡ in_line_after 32 0 prefix → all ++ close line ≡ start ++ bytes_text prefix
gap_closed all start line prefix e n = ap (λ t. t ++ close line) e ∙ append_assoc start (open_bytes 0 prefix) (close line) ∙ ap (λ k. start ++ (open_bytes 0 prefix ++ close k)) n ∙ ap (λ t. start ++ t) (bytes_closed prefix)

-- where a gap ends with the sync word, its four bytes are those held
found_gap : (all start : List ℕ) (line : ℕ) (held gap : List ℕ) → GapListed all start line held (gap ++ sync_bytes) → all ++ close line ≡ start ++ bytes_text gap
found_gap all start line held gap g =
    let four : length held ≡ 4 = elim g.full [
      | inl a ↦ a
      | inr a ↦ let e : gap ++ sync_bytes ≡ held = g.split ∙ ap (λ t. t ++ held) a in omega (arith, ap length e, length-append gap sync_bytes, g.few)
    ] in
    let long : length gap ≡ length g.prefix = omega (arith, ap length g.split, length-append gap sync_bytes, length-append g.prefix held, four) in
    let same : gap ≡ g.prefix = same_prefix gap g.prefix sync_bytes held long g.split in
    gap_closed all start line g.prefix g.listed g.count ∙ ap (λ t. start ++ bytes_text t) (sym same)

pub sync_listed : (synced : Bool) (line : ℕ) (held held2 all all2 before : List ℕ) (sessions new_sessions : List EndedSession) (at np : Place) (old new : Mode)
    → HasListed (written_of synced line held all) before sessions at old → CutAdds Sync sessions at new_sessions np → ChangesMode Sync old new np → (synced ≡ false → all2 ≡ all ++ close line ++ codes "sync\n") → HasListed (written_of true 0 held2 all2) before new_sessions np new
sync_listed synced line held held2 all all2 before sessions new_sessions (Searching gap) np old new t a m e = absurd a
sync_listed true line held held2 all all2 before sessions new_sessions (Synced gap packets tail) np old new t a m e = absurd (t.0 m.0)
sync_listed false line held held2 all all2 before sessions new_sessions (Synced gap packets tail) np old new t a m e =
    let start : List ℕ = before ++ sessions_text sessions in
    let session : SessionListed all2 start 0 gap [] = record {
      listed = e refl ∙ ap (λ t. t ++ codes "sync\n") (found_gap all start line held gap t.3) ∙ append_assoc start (bytes_text gap) (codes "sync\n") ∙ ap (λ t. start ++ t) (sym (gap_and_sync_text gap))
          ∙ sym (append-nil (start ++ ended_texts (gap_and_sync_lines gap)));
      count = refl;
    } in
    same_sessions true 0 held2 all2 before sessions new_sessions np new a.2 (subst (λ p. HasListedAt (written_of true 0 held2 all2) start p new) (sym a.3) (m.1, session))

-- words more of a session, at once
session_words : (all all2 start : List ℕ) (line line2 : ℕ) (gap : List ℕ) (packets all_packets : List Packet) (more : List (ℕ × Step)) → SessionListed all start line gap packets
    → flat_map stepped all_packets ≡ flat_map stepped packets ++ more → all2 ≡ all ++ open_words line more → line2 ≡ in_line_after_words line more → SessionListed all2 start line2 gap all_packets
session_words all all2 start line line2 gap packets all_packets more s grown t n =
    let ss : List (ℕ × Step) = flat_map stepped packets in
    let X : List ℕ = start ++ ended_texts (gap_and_sync_lines gap) in
    record {
      listed = t ∙ ap (λ t. t ++ open_words line more) s.listed ∙ append_assoc X (open_words 0 ss) (open_words line more) ∙ ap (λ k. X ++ (open_words 0 ss ++ open_words k more)) s.count
          ∙ ap (λ t. X ++ t) (sym (open_words_append 0 ss more)) ∙ ap (λ t. X ++ open_words 0 t) (sym grown);
      count = n ∙ ap (λ k. in_line_after_words k more) s.count ∙ sym (words_place_append 0 ss more) ∙ ap (in_line_after_words 0) (sym grown);
    }

both_true : (a b : Bool) → (a && b) ≡ true → a ≡ true
both_true true b e = refl
both_true false b e = absurd (cc)

end_next : (i : ℕ) (step : Step) → is_end step ≡ true → in_line_after_word i step ≡ 0
end_next i (Payload register x) e = let h : (register == 4) ≡ true = both_true (register == 4) _ e in rw h refl
end_next i Filler e = absurd (cc)
end_next i Nop e = absurd (cc)
end_next i (Open r n) e = absurd (cc)
end_next i (Read r n) e = absurd (cc)
end_next i (Bad x) e = absurd (cc)

-- after words that end a session no line is open
ends_next : (i : ℕ) (more : List (ℕ × Step)) → session_ends_by more ≡ true → in_line_after_words i more ≡ 0
ends_next i [] e = absurd (cc)
ends_next i (s ∷ []) e = end_next i s.1 e
ends_next i (s ∷ t ∷ more) e = ends_next (in_line_after_word i s.1) (t ∷ more) e

-- the open session, where its line is ended
session_ended : (all start : List ℕ) (line : ℕ) (gap : List ℕ) (packets : List Packet) → SessionListed all start line gap packets → EachPacket None packets → all ++ close line ≡ start ++ ended_texts (packets_lines gap packets)
session_ended all start line gap packets s each =
    let ss : List (ℕ × Step) = flat_map stepped packets in
    let X : List ℕ = start ++ ended_texts (gap_and_sync_lines gap) in
    ap (λ t. t ++ close line) s.listed ∙ append_assoc X (open_words 0 ss) (close line) ∙ ap (λ k. X ++ (open_words 0 ss ++ close k)) s.count ∙ ap (λ t. X ++ t) (session_closed None 0 packets each)
    ∙ append_assoc start (ended_texts (gap_and_sync_lines gap)) (ended_texts (flat_map packet_lines packets)) ∙ ap (λ t. start ++ t) (sym (packets_text gap packets))

words_by : (line line2 : ℕ) (held2 all all2 before bytes : List ℕ) (sessions new_sessions : List EndedSession) (gap : List ℕ) (packets all_packets : List Packet) (np : Place) (new : Mode) (more : List (ℕ × Step)) (b : Bool)
    → ended all_packets ≡ b → (b ≡ true → line2 ≡ 0)
    → SessionListed all2 (before ++ sessions_text sessions) line2 gap all_packets → (new ≡ Mode.SyncFound → ⊥)
    → (b ≡ true → (new_sessions ≡ sessions ++ record { gap = gap; packets = all_packets } ∷ []) × (np ≡ Searching []))
    → (b ≡ false → (new_sessions ≡ sessions) × (np ≡ Synced gap all_packets []))
    → IsReading bytes new_sessions np → HasListed (written_of true line2 held2 all2) before new_sessions np new
words_by line line2 held2 all all2 before bytes sessions new_sessions gap packets all_packets np new more true is n s due over goes r =
    let session : EndedSession = record { gap = gap; packets = all_packets } in
    let e = over refl in
    let zero : line2 ≡ 0 = n refl in
    let all_sessions : AllByRecursion IsEndedSession (sessions ++ session ∷ []) = subst (λ x. AllByRecursion IsEndedSession x) e.0 r.each in
    let last : IsEndedSession session = (all_back IsEndedSession sessions (session ∷ []) all_sessions).0 in
    let lines : List ℕ = ended_texts (packets_lines gap all_packets) in
    let listed : all2 ≡ before ++ sessions_text sessions ++ lines = sym (append-nil all2) ∙ ap (λ k. all2 ++ close k) (sym zero) ∙ session_ended all2 (before ++ sessions_text sessions) line2 gap all_packets s last.packets in
    let joined : before ++ sessions_text sessions ++ lines ≡ before ++ sessions_text (sessions ++ session ∷ []) =
    append_assoc before (sessions_text sessions) lines ∙ ap (λ t. before ++ t) (sym (session_more sessions session)) in
    subst (λ p. HasListed (written_of true line2 held2 all2) before new_sessions p new) (sym e.1) (refl, zero, listed ∙ joined ∙ ap (λ x. before ++ sessions_text x) (sym e.0))
words_by line line2 held2 all all2 before bytes sessions new_sessions gap packets all_packets np new more false is n s due over goes r =
    let e = goes refl in
    same_sessions true line2 held2 all2 before sessions new_sessions np new e.0 (subst (λ p. HasListedAt (written_of true line2 held2 all2) (before ++ sessions_text sessions) p new) (sym e.1) (due, s))

-- words more of a session are listed: a header's word, or payload words
pub words_listed_at : (synced : Bool) (line line2 : ℕ) (held held2 all all2 before bytes : List ℕ) (sessions new_sessions : List EndedSession) (gap tail : List ℕ) (packets : List Packet) (np : Place) (old new : Mode) (more : List (ℕ × Step))
    → HasListed (written_of synced line held all) before sessions (Synced gap packets tail) old → (old ≡ Mode.SyncFound → ⊥) → (new ≡ Mode.SyncFound → ⊥) → LongerSession gap packets more sessions new_sessions np → IsReading bytes new_sessions np
    → (synced ≡ true → (all2 ≡ all ++ open_words line more) × (line2 ≡ in_line_after_words line more)) → HasListed (written_of true line2 held2 all2) before new_sessions np new
words_listed_at false line line2 held held2 all all2 before bytes sessions new_sessions gap tail packets np old new more t o n l r h = absurd (o t.0)
words_listed_at true line line2 held held2 all all2 before bytes sessions new_sessions gap tail packets np old new more t o n l r h =
    let e = h refl in
    words_by line line2 held2 all all2 before bytes sessions new_sessions gap packets l.all np new more (ended l.all) refl
    (λ b. e.1 ∙ ends_next line more (sym l.end ∙ b))
    (session_words all all2 (before ++ sessions_text sessions) line line2 gap packets l.all more t.1 l.grown e.0 e.1) n l.ends l.goes_on r

-- the end of a listing in a gap
pub gap_ended : (all all2 before : List ℕ) (line : ℕ) (held bytes : List ℕ) (sessions : List EndedSession) (at : Place) (m : Mode) → HasListed (written_of false line held all) before sessions at m → (m ≡ Mode.SyncFound → ⊥)
    → all2 ≡ all ++ open_bytes line held ++ close (in_line_after 32 line held) → all2 ≡ before ++ reading_text sessions at
gap_ended all all2 before line held bytes sessions (Synced gap packets tail) m t d e = absurd (d t.0)
gap_ended all all2 before line held bytes sessions (Searching gap) m t d e =
    let start : List ℕ = before ++ sessions_text sessions in
    let listed : all ++ open_bytes line held ≡ start ++ open_bytes 0 gap = ap (λ t. t ++ open_bytes line held) t.listed ∙ append_assoc start (open_bytes 0 t.prefix) (open_bytes line held)
    ∙ ap (λ k. start ++ (open_bytes 0 t.prefix ++ open_bytes k held)) t.count ∙ ap (λ t. start ++ t) (sym (open_text_append 32 (codes "bytes ") hex_byte 0 t.prefix held))
    ∙ ap (λ t. start ++ open_bytes 0 t) (sym t.split) in
    let count : in_line_after 32 line held ≡ in_line_after 32 0 gap = ap (λ k. in_line_after 32 k held) t.count ∙ sym (in_line_after_append 32 0 t.prefix held) ∙ ap (in_line_after 32 0) (sym t.split) in
    e ∙ gap_closed (all ++ open_bytes line held) start (in_line_after 32 line held) gap listed count ∙ append_assoc before (sessions_text sessions) (bytes_text gap)
    ∙ ap (λ t. before ++ t) (ap (λ t. sessions_text sessions ++ t) (sym (gap_text gap)) ∙ sym (place_after sessions (Searching gap)))

-- the end of a listing in a session
pub session_over : (all all2 before : List ℕ) (line : ℕ) (held kept bytes : List ℕ) (sessions : List EndedSession) (at : Place) (m : Mode) → HasListed (written_of true line held all) before sessions at m → IsReading bytes sessions at → kept ≡ tail_of at
    → all2 ≡ all ++ close line ++ open_bytes 0 kept ++ close (in_line_after 32 0 kept) → all2 ≡ before ++ reading_text sessions at
session_over all all2 before line held kept bytes sessions (Searching gap) m t r k e =
    rw (e, k, t.1, t.2, t.0) (simp (append_assoc, append-nil))
session_over all all2 before line held kept bytes sessions (Synced gap packets tail) m t r k e =
    let start : List ℕ = before ++ sessions_text sessions in
    let lines : List ℕ = ended_texts (packets_lines gap packets) in
    let whole : lines ++ bytes_text tail ≡ ended_texts (place_lines (Synced gap packets tail)) = ap (λ t. lines ++ t) (sym (gap_text tail)) ∙ sym (texts_append (packets_lines gap packets) (gap_lines tail)) in
    e ∙ append_assoc (all ++ close line) (open_bytes 0 kept) (close (in_line_after 32 0 kept)) ∙ ap (λ t. all ++ close line ++ t) (bytes_closed kept) ∙ ap (λ t. all ++ close line ++ bytes_text t) k
    ∙ ap (λ t. t ++ bytes_text tail) (session_ended all start line gap packets t.1 r.ends.1) ∙ append_assoc start lines (bytes_text tail) ∙ append_assoc before (sessions_text sessions) (lines ++ bytes_text tail)
    ∙ ap (λ t. before ++ t) (ap (λ t. sessions_text sessions ++ t) whole ∙ sym (place_after sessions (Synced gap packets tail)))
