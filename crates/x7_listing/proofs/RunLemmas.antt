-- What each kind of run writes.
use Rattle.std.proofs.Common.{◌≡◌, ℕ, Bool, true, false, if◌then◌else◌, Bor, List, [], ◌∷◌, ◌++◌, ap, sym, subst, ◌∙◌, append_assoc, append-nil, codes}
use Rattle.x7_words.specs.Word.{words_of_bytes}
use Rattle.x7_packets.specs.Packet.{payload_steps}
use Rattle.x7_packets.specs.declared.header.Step.{Step}
use Rattle.x7_packets.specs.declared.header.Step.TheVariants.{Filler, Nop, Open, Payload, Read, Bad}
use Rattle.x7_packets.specs.Reading.{Place, Searching, Synced, EndedSession, IsReading}
use Rattle.x7_packets.specs.Cutter.{CutAdds, IsRun, ChangesMode}
use Rattle.x7_packets.specs.Mode.{Mode}
use Rattle.x7_packets.specs.declared.cutter.Cut.{Cut}
use Rattle.x7_packets.specs.declared.cutter.Cut.TheVariants.{Need, Skip, Sync, Head, Word, Body}
use Rattle.x7_text.specs.Row.{close}
use Rattle.x7_listing.specs.HeadLine.{text_of_head}
use Rattle.x7_listing.specs.Lister.{GapListed, HasListed, in_line_after_words, open_words, WritesRun, WrittenSoFar, written_of}
use Rattle.x7_listing.proofs.TellingLemmas.{skip_listed, sync_listed, words_listed_at}
use Rattle.x7_listing.proofs.SessionLemmas.{head_next, head_listed}

-- a statement for a run is one for what the run is
as_run : (run run2 : Cut) (synced s2 : Bool) (line l2 : ℕ) (held h2 all all2 : List ℕ) → run ≡ run2 → WritesRun run2 (written_of synced line held all) (written_of s2 l2 h2 all2) → WritesRun run (written_of synced line held all) (written_of s2 l2 h2 all2)
as_run run run2 synced s2 line l2 held h2 all all2 e w = subst (λ r. WritesRun r (written_of synced line held all) (written_of s2 l2 h2 all2)) (sym e) w

synced_pen : (run : Cut) (synced s2 : Bool) (line l2 l3 : ℕ) (held h2 all all2 : List ℕ) → s2 ≡ true → l2 ≡ l3 → WritesRun run (written_of synced line held all) (written_of true l3 h2 all2) → WritesRun run (written_of synced line held all) (written_of s2 l2 h2 all2)
synced_pen run synced s2 line l2 l3 held h2 all all2 e f w = subst (λ s. WritesRun run (written_of synced line held all) (written_of s l2 h2 all2)) (sym e) (subst (λ l. WritesRun run (written_of synced line held all) (written_of true l h2 all2)) (sym f) w)

longer : (given old new more : List ℕ) → new ≡ old ++ more → given ++ new ≡ given ++ old ++ more
longer given old new more e = ap (λ x. given ++ x) e ∙ sym (append_assoc given old more)

pub by_sync : (run : Cut) (synced s2 : Bool) (line l2 from : ℕ) (held h2 given old new : List ℕ) → run ≡ Sync → (synced ≡ false → from ≡ line) → s2 ≡ true → l2 ≡ 0 → new ≡ old ++ (close from ++ codes "sync\n")
    → WritesRun run (written_of synced line held (given ++ old)) (written_of s2 l2 h2 (given ++ new))
by_sync run synced s2 line l2 from held h2 given old new is same e f t =
    let all2 : given ++ new ≡ given ++ old ++ close from ++ codes "sync\n" = ap (λ x. given ++ x) (t ∙ sym (append_assoc old (close from) (codes "sync\n"))) ∙ sym (append_assoc given (old ++ close from) (codes "sync\n")) ∙ ap (λ x. x ++ codes "sync\n") (sym (append_assoc given old (close from))) in
    as_run run Sync synced s2 line l2 held h2 (given ++ old) (given ++ new) is (synced_pen Sync synced s2 line l2 0 held h2 (given ++ old) (given ++ new) e f
    (λ before bytes sessions new_sessions spot np o n listed adds mode_changes is_run reading. sync_listed synced line held h2 (given ++ old) (given ++ new) before sessions new_sessions spot np o n listed adds mode_changes
    (λ s. all2 ∙ ap (λ (k : ℕ). given ++ old ++ close k ++ codes "sync\n") (same s))))

not_payload : (w : ℕ) (s : Step) → IsRun (Head w s) → (r x : ℕ) → s ≡ Payload r x → ⊥
not_payload w (Payload a b) h r x e = h
not_payload w Filler h r x e = absurd (cc)
not_payload w Nop h r x e = absurd (cc)
not_payload w (Open a b) h r x e = absurd (cc)
not_payload w (Read a b) h r x e = absurd (cc)
not_payload w (Bad a) h r x e = absurd (cc)

head_adds : (synced : Bool) (line l2 : ℕ) (held h2 all all2 before bytes : List ℕ) (sessions new_sessions : List EndedSession) (spot np : Place) (o n : Mode) (w : ℕ) (step : Step)
    → HasListed (written_of synced line held all) before sessions spot o → CutAdds (Head w step) sessions spot new_sessions np → (o ≡ Mode.SyncFound → ⊥) → (n ≡ Mode.SyncFound → ⊥) → IsReading bytes new_sessions np
    → (synced ≡ true → (all2 ≡ all ++ open_words line ((w, step) ∷ [])) × (l2 ≡ in_line_after_words line ((w, step) ∷ []))) → HasListed (written_of true l2 h2 all2) before new_sessions np n
head_adds synced line l2 held h2 all all2 before bytes sessions new_sessions (Searching gap) np o n w step t a p q r h = absurd a
head_adds synced line l2 held h2 all all2 before bytes sessions new_sessions (Synced gap packets tail) np o n w step t a p q r h =
    words_listed_at synced line l2 held h2 all all2 before bytes sessions new_sessions gap tail packets np o n ((w, step) ∷ []) t p q a r h

word_adds : (synced : Bool) (line l2 : ℕ) (held h2 all all2 before bytes : List ℕ) (sessions new_sessions : List EndedSession) (spot np : Place) (o n : Mode) (register w : ℕ)
    → HasListed (written_of synced line held all) before sessions spot o → CutAdds (Word register w) sessions spot new_sessions np → (o ≡ Mode.SyncFound → ⊥) → (n ≡ Mode.SyncFound → ⊥) → IsReading bytes new_sessions np
    → (synced ≡ true → (all2 ≡ all ++ open_words line (payload_steps register (w ∷ []))) × (l2 ≡ in_line_after_words line (payload_steps register (w ∷ [])))) → HasListed (written_of true l2 h2 all2) before new_sessions np n
word_adds synced line l2 held h2 all all2 before bytes sessions new_sessions (Searching gap) np o n register w t a p q r h = absurd a
word_adds synced line l2 held h2 all all2 before bytes sessions new_sessions (Synced gap packets tail) np o n register w t a p q r h =
    words_listed_at synced line l2 held h2 all all2 before bytes sessions new_sessions gap tail packets np o n (payload_steps register (w ∷ [])) t p q a r h

body_adds : (synced : Bool) (line l2 : ℕ) (held h2 all all2 before bytes : List ℕ) (sessions new_sessions : List EndedSession) (spot np : Place) (o n : Mode) (register : ℕ) (body : Bor (List ℕ))
    → HasListed (written_of synced line held all) before sessions spot o → CutAdds (Body register body) sessions spot new_sessions np → (o ≡ Mode.SyncFound → ⊥) → (n ≡ Mode.SyncFound → ⊥) → IsReading bytes new_sessions np
    → (synced ≡ true → (all2 ≡ all ++ open_words line (payload_steps register (words_of_bytes body.now))) × (l2 ≡ in_line_after_words line (payload_steps register (words_of_bytes body.now)))) → HasListed (written_of true l2 h2 all2) before new_sessions np n
body_adds synced line l2 held h2 all all2 before bytes sessions new_sessions (Searching gap) np o n register body t a p q r h = absurd a
body_adds synced line l2 held h2 all all2 before bytes sessions new_sessions (Synced gap packets tail) np o n register body t a p q r h =
    words_listed_at synced line l2 held h2 all all2 before bytes sessions new_sessions gap tail packets np o n (payload_steps register (words_of_bytes body.now)) t p q a r h

pub by_head : (run : Cut) (synced s2 : Bool) (line l2 from : ℕ) (held h2 given old new : List ℕ) (w : ℕ) (step : Step) → run ≡ Head w step → (synced ≡ true → from ≡ line) → s2 ≡ true → l2 ≡ 0
    → new ≡ old ++ (close from ++ text_of_head step w) → WritesRun run (written_of synced line held (given ++ old)) (written_of s2 l2 h2 (given ++ new))
by_head run synced s2 line l2 from held h2 given old new w step is same e f t =
    as_run run (Head w step) synced s2 line l2 held h2 (given ++ old) (given ++ new) is (synced_pen (Head w step) synced s2 line l2 0 held h2 (given ++ old) (given ++ new) e f
    (λ before bytes sessions new_sessions spot np o n listed adds mode_changes is_run reading. head_adds synced line 0 held h2 (given ++ old) (given ++ new) before bytes sessions new_sessions spot np o n w step listed adds mode_changes.0 mode_changes.1 reading
    (λ s. (
      longer given old new (close from ++ text_of_head step w) t ∙ ap (λ k. given ++ old ++ (close k ++ text_of_head step w)) (same s) ∙ ap (λ x. given ++ old ++ x) (sym (head_listed line w step (not_payload w step is_run)) ∙ sym (append-nil _)),
      sym (head_next line step (not_payload w step is_run)),
    ))))

pub by_word : (run : Cut) (synced s2 : Bool) (line l2 from : ℕ) (held h2 given old new : List ℕ) (register w : ℕ) → run ≡ Word register w → (synced ≡ true → from ≡ line) → s2 ≡ true → l2 ≡ in_line_after_words from (payload_steps register (w ∷ []))
    → new ≡ old ++ open_words from (payload_steps register (w ∷ [])) → WritesRun run (written_of synced line held (given ++ old)) (written_of s2 l2 h2 (given ++ new))
by_word run synced s2 line l2 from held h2 given old new register w is same e f t =
    let more : List (ℕ × Step) = payload_steps register (w ∷ []) in
    as_run run (Word register w) synced s2 line l2 held h2 (given ++ old) (given ++ new) is (synced_pen (Word register w) synced s2 line l2 (in_line_after_words from more) held h2 (given ++ old) (given ++ new) e f
    (λ before bytes sessions new_sessions spot np o n listed adds mode_changes is_run reading. word_adds synced line (in_line_after_words from more) held h2 (given ++ old) (given ++ new) before bytes sessions new_sessions spot np o n register w listed adds mode_changes.0 mode_changes.1 reading
    (λ s. (longer given old new (open_words from more) t ∙ ap (λ k. given ++ old ++ open_words k more) (same s), ap (λ k. in_line_after_words k more) (same s)))))

pub by_body : (run : Cut) (synced s2 : Bool) (line l2 from : ℕ) (held h2 given old new : List ℕ) (register : ℕ) (body : Bor (List ℕ)) → run ≡ Body register body → (synced ≡ true → from ≡ line) → s2 ≡ true → l2 ≡ in_line_after_words from (payload_steps register (words_of_bytes body.now))
    → new ≡ old ++ open_words from (payload_steps register (words_of_bytes body.now)) → WritesRun run (written_of synced line held (given ++ old)) (written_of s2 l2 h2 (given ++ new))
by_body run synced s2 line l2 from held h2 given old new register body is same e f t =
    let more : List (ℕ × Step) = payload_steps register (words_of_bytes body.now) in
    as_run run (Body register body) synced s2 line l2 held h2 (given ++ old) (given ++ new) is (synced_pen (Body register body) synced s2 line l2 (in_line_after_words from more) held h2 (given ++ old) (given ++ new) e f
    (λ before bytes sessions new_sessions spot np o n listed adds mode_changes is_run reading. body_adds synced line (in_line_after_words from more) held h2 (given ++ old) (given ++ new) before bytes sessions new_sessions spot np o n register body listed adds mode_changes.0 mode_changes.1 reading
    (λ s. (longer given old new (open_words from more) t ∙ ap (λ k. given ++ old ++ open_words k more) (same s), ap (λ k. in_line_after_words k more) (same s)))))

pub by_skip : (run : Cut) (part : Bor (List ℕ)) (synced s2 : Bool) (line l1 l2 : ℕ) (held h1 h2 given old new : List ℕ) → run ≡ Skip part → s2 ≡ false → l1 ≡ (if synced then 0 else line) → h1 ≡ (if synced then [] else held)
    → ((given start gap : List ℕ) → GapListed (given ++ old) start l1 h1 gap → GapListed (given ++ new) start l2 h2 (gap ++ part.now)) → WritesRun run (written_of synced line held (given ++ old)) (written_of s2 l2 h2 (given ++ new))
by_skip run part synced s2 line l1 l2 held h1 h2 given old new is e f k g =
    as_run run (Skip part) synced s2 line l2 held h2 (given ++ old) (given ++ new) is (subst (λ s. WritesRun (Skip part) (written_of synced line held (given ++ old)) (written_of s l2 h2 (given ++ new))) (sym e)
    (λ before bytes sessions new_sessions spot np o n listed adds mode_changes is_run reading. skip_listed synced line l2 held h2 (given ++ old) (given ++ new) before sessions new_sessions spot np o n part listed adds mode_changes
    (λ start gap t. g given start gap (subst (λ l. GapListed (given ++ old) start l h1 gap) (sym f) (subst (λ h. GapListed (given ++ old) start (if synced then 0 else line) h gap) (sym k) t)))))

-- what was listed at a place after sessions was listed at an equal place after equal sessions
listed_at : (w : WrittenSoFar) (before : List ℕ) (sessions new_sessions : List EndedSession) (spot np : Place) (m : Mode) → new_sessions ≡ sessions → np ≡ spot → HasListed w before sessions spot m → HasListed w before new_sessions np m
listed_at w before sessions new_sessions spot np m e f t = subst (λ (p : Place). HasListed w before new_sessions p m) (sym f) (subst (λ (s : List EndedSession). HasListed w before s spot m) (sym e) t)

pub need_adds : (synced : Bool) (line : ℕ) (held all before : List ℕ) (sessions new_sessions : List EndedSession) (spot np : Place) (o n : Mode)
    → HasListed (written_of synced line held all) before sessions spot o → CutAdds Need sessions spot new_sessions np → ChangesMode Need o n np
    → HasListed (written_of synced line held all) before new_sessions np n
need_adds false line held all before sessions new_sessions (Searching gap) np o n t a m = listed_at (written_of false line held all) before sessions new_sessions (Searching gap) np n a.0 a.1 t
need_adds true line held all before sessions new_sessions (Searching gap) np o n t a m = listed_at (written_of true line held all) before sessions new_sessions (Searching gap) np n a.0 a.1 t
need_adds false line held all before sessions new_sessions (Synced gap packets tail) np o n t a m = absurd (m.0 t.0)
need_adds true line held all before sessions new_sessions (Synced gap packets tail) np o n t a m = listed_at (written_of true line held all) before sessions new_sessions (Synced gap packets (tail ++ a.1)) np n a.0 a.2 (m.1, t.1)
