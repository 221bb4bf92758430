-- From a device at rest to a device at rest.
use Rattle.std.proofs.Common.{◌≡◌, ◌==◌, ◌&&◌, ◌+◌, ◌*◌, ◌%◌, ◌^◌, ◌≤◌, ◌⊎◌, inl, inr, ℕ, Bool, true, false, List, [], ◌∷◌, ◌++◌, length, length-append, refl, sym, ap, subst, ◌∙◌, arith}
use Rattle.std.proofs.lemmas.Bool.Decides.{nat_tests}
use Rattle.x7_words.specs.Word.{AreBytes}
use Rattle.x7_packets.specs.ByHand.{reading_of}
use Rattle.x7_packets.specs.Ended.{HasEnded, writes_desync}
use Rattle.x7_packets.specs.History as access
use Rattle.x7_packets.specs.History.{History, entry, history_of, last_word}
use Rattle.x7_packets.specs.Reading.{is_synced}
use Rattle.x7_packets.proofs.EndedLemmas.{has_ended}
use Rattle.x7_packets.proofs.GrowthLemmas.{placed_of}
use Rattle.x7_part.specs.Part.{PartData}
use Rattle.x7_startup.specs.Startup.{NotBegun, StartupProgress, is_armed, since_shutdown}
use Rattle.x7_startup.specs.Startup as call
use Rattle.x7_regs.specs.Control.{forbids_reading}
use Rattle.x7_flow.specs.Controls.{ctl0_held}
use Rattle.x7_engine.specs.declared.kept.Kept.{Kept}
use Rattle.x7_engine.specs.Clock.{newest_place}
use Rattle.x7_engine.specs.Rest.{AtRest}
use Rattle.x7_engine.specs.Startup.{phase_of, startup_call, startup_calls, startup_progress}
use Rattle.x7_engine.proofs.TurnLemmas.{newest_within}
use Rattle.x7_effects.proofs.Items.{items_entered}
use Rattle.x7_effects.proofs.Checking.{ArePieces, ClearFirst, Piece, at_first, checking_of, pieces_length, with_checks}
use Rattle.x7_effects.proofs.Streams.{stream_of}
use Rattle.x7_effects.proofs.FormLemmas.{last_is, pieces_long, stream_appended, stream_length}
use Rattle.x7_effects.proofs.GoingLemmas.{IsGoing, going_bytes, going_desync, why_none, written, written_is}
use Rattle.x7_effects.proofs.StillLemmas.{IsStill, disarmed, never_armed, still_rests}

-- ---- the beginning

desync_call : (h : History) (w : ℕ) → w % 2 ^ 5 ≡ 13 → startup_call h (access.Write 4 w) ≡ call.Desync (last_word 9 0 h) ∷ []
desync_call h w e = rw e refl

desync_asks : (h : History) (a : access.Access) → writes_desync a ≡ true → startup_call h a ≡ call.Desync (last_word 9 0 h) ∷ []
desync_asks h (access.Read r n) e = absurd (cc)
desync_asks h (access.Bad w) e = absurd (cc)
desync_asks h (access.Write r w) e = by (r == 4) (w % 2 ^ 5 == 13) refl refl e
  where
    by : (a b : Bool) → (r == 4) ≡ a → (w % 2 ^ 5 == 13) ≡ b → (a && b) ≡ true → startup_call h (access.Write r w) ≡ call.Desync (last_word 9 0 h) ∷ []
    by false b f g e = absurd (cc)
    by true false f g e = absurd (cc)
    by true true f g e =
        let four : r ≡ 4 = grind (arith, nat_tests, f) in
        let thirteen : w % 2 ^ 5 ≡ 13 = grind (arith, nat_tests, g) in
        subst (λ (x : ℕ). startup_call h (access.Write x w) ≡ call.Desync (last_word 9 0 h) ∷ []) (sym four) (desync_call h w thirteen)

not_armed : (h : History) (n : ℕ) → newest_place h ≤ n → HasEnded h → is_armed false (since_shutdown (startup_calls h n)) ≡ false
not_armed h n l (inl e) = subst (λ (x : History). is_armed false (since_shutdown (startup_calls x n)) ≡ false) (sym e) (never_armed n)
not_armed [] n l (inr e) = absurd (cc)
not_armed (e ∷ h) n l (inr d) = disarmed h e.access e.place n (last_word 9 0 h) (desync_asks h e.access d) l

still_at_rest : (part : PartData) (h : History) (n : ℕ) → newest_place h ≤ n → HasEnded h → (startup_progress h n ≡ NotBegun) ⊎ (phase_of part h n ≡ 7) → IsStill part (startup_progress h n) h n
still_at_rest part h n l d (inl e) = inl (record { armed_is = not_armed h n l d; progress_is = e }, e)
still_at_rest part h n l d (inr e) = inr (record { seven = e; before = e; same = refl })

pub going_at_rest : (part : PartData) (kept : Kept) (bytes : List ℕ) → AreBytes bytes → AtRest part kept bytes → IsGoing part kept (startup_progress (history_of bytes) (length bytes)) (history_of bytes) (length bytes)
going_at_rest part kept bytes f r =
    let newest : newest_place (history_of bytes) ≤ length bytes = newest_within (length bytes) (history_of bytes) (placed_of bytes f) in
    record {
      calm = record { no_stop = r.no_stop; off = r.no_watchdog; newest = newest };
      still = still_at_rest part (history_of bytes) (length bytes) newest (has_ended bytes f r.searching) r.startup;
      pending = r.no_shutdown;
    }

-- ---- the stream

-- the history of bytes and a stream: that of its pieces, and DESYNC
pub stream_history : (bytes : List ℕ) (pieces : List Piece) (noops : ℕ) → AreBytes bytes → is_synced (reading_of bytes).place ≡ false → ArePieces pieces → ClearFirst pieces
    → history_of (bytes ++ stream_of pieces noops) ≡ entry (access.Write 4 13) (length bytes + 36 + 4 * pieces_length pieces + 8) ∷ written (length bytes + 36) pieces (history_of bytes)
stream_history bytes pieces noops f e a c =
    let h : History = history_of bytes in
    let n : ℕ = length bytes + 36 in
    stream_appended bytes pieces noops f e a
    ∙ last_is n (with_checks at_first pieces) h
    ∙ ap (λ (k : ℕ). entry (access.Write 4 13) (n + 4 * k + 8) ∷ items_entered n (with_checks at_first pieces) h) (pieces_long at_first pieces)
    ∙ ap (λ t. entry (access.Write 4 13) (n + 4 * pieces_length pieces + 8) ∷ items_entered n t h) (sym (c (checking_of h)))
    ∙ ap (λ (t : History). entry (access.Write 4 13) (n + 4 * pieces_length pieces + 8) ∷ t) (written_is n pieces h)

pub stream_count : (bytes : List ℕ) (pieces : List Piece) (noops : ℕ) → length (bytes ++ stream_of pieces noops) ≡ length bytes + 36 + 4 * pieces_length pieces + 8 + 4 * noops
stream_count bytes pieces noops = length-append bytes (stream_of pieces noops) ∙ omega (arith, stream_length pieces noops)

-- ---- the end

pub rests : (part : PartData) (kept : Kept) (startup : StartupProgress) (bytes : List ℕ) (h : History) (n : ℕ) → history_of bytes ≡ h → length bytes ≡ n → is_synced (reading_of bytes).place ≡ false
    → IsGoing part kept startup h n → forbids_reading (ctl0_held h) ≡ false → AtRest part kept bytes
rests part kept startup bytes h n e l s g c =
    let all : IsGoing part kept startup (history_of bytes) (length bytes) = subst (λ (x : History). IsGoing part kept startup x (length bytes)) (sym e) (subst (λ (k : ℕ). IsGoing part kept startup h k) (sym l) g) in
    record {
      no_stop = all.calm.no_stop;
      searching = s;
      startup = still_rests part startup (history_of bytes) (length bytes) all.still;
      sbits = ap (λ (x : History). forbids_reading (ctl0_held x)) e ∙ c;
      no_shutdown = all.pending;
      no_watchdog = all.calm.off;
    }

-- where nothing stops the device and startup stays, DESYNC and no-ops change neither
pub going_closed : (part : PartData) (kept : Kept) (startup : StartupProgress) (h : History) (n noops : ℕ) → IsGoing part kept startup h n → IsGoing part kept startup (entry (access.Write 4 13) (n + 8) ∷ h) (n + 8 + 4 * noops)
going_closed part kept startup h n noops g =
    going_bytes part kept startup (entry (access.Write 4 13) (n + 8) ∷ h) (n + 8) (n + 8 + 4 * noops) (omega arith)
    (going_desync part kept startup h n (n + 8) (omega arith) g (why_none part kept h (access.Write 4 13) refl refl))
