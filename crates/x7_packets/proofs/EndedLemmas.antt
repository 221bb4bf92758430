-- Where bytes end searching, DESYNC is the newest access of their history, or there is none.
use Rattle.std.proofs.Common.{◌≡◌, inl, inr, ℕ, ◌+◌, ◌*◌, true, false, List, [], ◌∷◌, length, refl, ap, ◌∙◌, append-nil}
use Rattle.std.specs.List.{flat_map, AllByRecursion}
use Rattle.x7_words.specs.Word.{AreBytes}
use Rattle.x7_packets.specs.Ended.{HasEnded, newest_ends}
use Rattle.x7_packets.specs.ByHand.{reading_of}
use Rattle.x7_packets.specs.History.{History, Write, entered, entered_all, entered_sessions, entry, history, history_of}
use Rattle.x7_packets.specs.Packet.{Packet, ended, last_ends, register_named_by, payload_steps, stepped}
use Rattle.x7_packets.specs.Reading.{EndedSession, IsEndedSession, Place, Searching, Synced, is_synced, session_bytes}
use Rattle.x7_packets.proofs.ByHandLemmas.{reading_is_found}
use Rattle.x7_packets.proofs.HistoryLemmas.{entered_all_append}

payload_ends : (n register : ℕ) (ws : List ℕ) (h : History) → last_ends register ws ≡ true → newest_ends (entered_all n (payload_steps register ws) h) ≡ true
payload_ends n register [] h e = absurd (cc)
payload_ends n register (w ∷ []) h e = e
payload_ends n register (w ∷ x ∷ ws) h e = payload_ends (n + 4) register (x ∷ ws) (entry (Write register w) (n + 4) ∷ h) e

packets_end : (n : ℕ) (packets : List Packet) (h : History) → ended packets ≡ true → newest_ends (entered_all n (flat_map stepped packets) h) ≡ true
packets_end n [] h e = absurd (cc)
packets_end n (p ∷ []) h e =
    ap (λ t. newest_ends (entered_all n t h)) (append-nil (stepped p)) ∙ payload_ends (n + 4) (register_named_by p.step) p.payload (entered (n + 4) p.step h) e
packets_end n (p ∷ q ∷ packets) h e =
    ap newest_ends (entered_all_append n (stepped p) (flat_map stepped (q ∷ packets)) h)
    ∙ packets_end (n + 4 * length (stepped p)) (q ∷ packets) (entered_all n (stepped p) h) e

sessions_end : (n : ℕ) (sessions : List EndedSession) (h : History) → AllByRecursion IsEndedSession sessions → HasEnded h → HasEnded (entered_sessions n sessions h)
sessions_end n [] h a e = e
sessions_end n (s ∷ sessions) h a e =
    sessions_end (n + length (session_bytes s)) sessions (entered_all (n + length s.gap + 4) (flat_map stepped s.packets) h) a.1
    (inr (packets_end (n + length s.gap + 4) s.packets h a.0.ended))

searching_ended : (sessions : List EndedSession) (place : Place) → AllByRecursion IsEndedSession sessions → is_synced place ≡ false → HasEnded (history sessions place)
searching_ended sessions (Searching gap) a e = sessions_end 0 sessions [] a (inl refl)
searching_ended sessions (Synced gap packets tail) a e = absurd (cc)

pub has_ended : (bytes : List ℕ) → AreBytes bytes → is_synced (reading_of bytes).place ≡ false → HasEnded (history_of bytes)
has_ended bytes f e = searching_ended (reading_of bytes).sessions (reading_of bytes).place (reading_is_found bytes f).each e
