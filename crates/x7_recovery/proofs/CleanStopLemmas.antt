-- A golden stream that begins clean stops no fallback after a slot, where it stopped no attempt at power after a gap.
use Rattle.std.proofs.Common.{◌≡◌, ◌+◌, ◌≤◌, ◌⊎◌, inl, inr, ℕ, Bool, true, false, if◌then◌else◌, None, [], ◌∷◌, ◌++◌, refl, sym, ◌∙◌, arith}
use Rattle.std.specs.Prelude.{nat_lt}
use Rattle.x7_packets.specs.FlashSlot.{sector_size}
use Rattle.x7_packets.specs.History.{Access, History, Write, entry, until}
use Rattle.x7_packets.specs.Appended.{moved}
use Rattle.x7_part.specs.Part.{PartData}
use Rattle.x7_regs.specs.Command.{command_by}
use Rattle.x7_regs.specs.declared.command.Command.{Command}
use Rattle.x7_pipeline.specs.Copies.{is_mfw}
use Rattle.x7_memory.specs.FrameMap.{FrameMap}
use Rattle.x7_memory.specs.Plan.{planned}
use Rattle.x7_pipeline.specs.Runs.{put_over}
use Rattle.x7_pipeline.specs.Flow.{first_flow}
use Rattle.x7_pipeline.proofs.LawLemmas.{no_source}
use Rattle.x7_startup.proofs.CallLemmas.{progress_bytes}
use Rattle.x7_flow.specs.HistoryFlow.{Flow, flow_by, flow_of}
use Rattle.x7_flow.specs.FrameMemory.{memory_of}
use Rattle.x7_flow.specs.Asking.{Commands}
use Rattle.x7_startup.specs.Startup.{NotBegun}
use Rattle.x7_engine.specs.Kept.{is_fallback}
use Rattle.x7_engine.specs.Startup.{startup_calls}
use Rattle.x7_engine.specs.Stop.{first_stop_of_history, why_at_access}
use Rattle.x7_engine.specs.declared.kept.Kept.{Kept}
use Rattle.x7_engine.proofs.PassesLemmas.{goes_past, went_past, why_passes}
use Rattle.x7_engine.proofs.SameLemmas.{IsIdle, IsNear, IsSame, SameStartup, near_clear, near_null, near_shutdown, near_spi, near_write, ordered, same_more}
use Rattle.x7_effects.proofs.GoingLemmas.{IsGoing, going_bytes, why_none}
use Rattle.x7_effects.proofs.StillLemmas.{IsStill, never_armed}
use Rattle.x7_recovery.specs.Clean.{AllPrecedeRcrc, BeginsClean, MayPrecedeRcrc, bspi, bspi_read, clear, later, next, nothing, null, shutdown, timer, wbstar}
use Rattle.x7_recovery.proofs.OpenLemmas.{desync_at}

module _ (part : PartData) (kept power : Kept) (low : ℕ) (fell : is_fallback kept.kind ≡ true) where
  module _ (c : History) (near : IsNear part low c []) (calm : (m : ℕ) → low ≤ m → first_stop_of_history part kept c m ≡ None) where
    near_after : (a : Access) (h : History) (n : ℕ) → low ≤ n → MayPrecedeRcrc a → IsNear part low (moved low h ++ c) (moved low h) → IsNear part low (entry a n ∷ moved low h ++ c) (entry a n ∷ moved low h)
    near_after _ h n k (wbstar w) l = near_write part low (moved low h ++ c) (moved low h) l 16 w n (inl refl) k
    near_after _ h n k (timer w) l = near_write part low (moved low h ++ c) (moved low h) l 17 w n (inr (inl refl)) k
    near_after _ h n k (bspi w) l = near_write part low (moved low h ++ c) (moved low h) l 31 w n (inr (inr refl)) k
    near_after _ h n k null l = near_null part low (moved low h ++ c) (moved low h) l n k
    near_after _ h n k bspi_read l = near_spi part low (moved low h ++ c) (moved low h) l n k
    near_after _ h n k shutdown l = near_shutdown part low (moved low h ++ c) (moved low h) l n k

    lead_near : (h : History) → AllPrecedeRcrc h → IsNear part low (moved low h ++ c) (moved low h)
    lead_near _ nothing = near
    lead_near _ (next a place h p l) = near_after a h (low + place) (omega arith) p (lead_near h l)

    clean_same : (h : History) → BeginsClean h → IsSame part low (moved low h ++ c) (moved low h)
    clean_same _ (clear place h l) = near_clear part low (moved low h ++ c) (moved low h) (lead_near h l) (low + place) (omega arith)
    clean_same _ (later e h b) = same_more part low (moved low h ++ c) (moved low h) (clean_same h b) (entry e.access (low + e.place)) (omega arith)

    no_cause : (a : Access) (h : History) → MayPrecedeRcrc a → why_at_access part kept h a ≡ None
    no_cause _ h (wbstar w) = why_none part kept h (Write 16 w) refl refl
    no_cause _ h (timer w) = why_none part kept h (Write 17 w) refl refl
    no_cause _ h (bspi w) = why_none part kept h (Write 31 w) refl refl
    no_cause _ h null = why_none part kept h (Write 4 0) refl refl
    no_cause _ h bspi_read = why_none part kept h (Write 4 18) refl refl
    no_cause _ h shutdown = why_none part kept h (Write 4 11) refl refl

    lead_stops : (h : History) (m : ℕ) → low ≤ m → AllPrecedeRcrc h → first_stop_of_history part kept (moved low h ++ c) m ≡ None
    lead_stops _ m k nothing = calm m k
    lead_stops _ m k (next a place h p l) = goes_past part kept (moved low h ++ c) a (low + place) m fell (lead_stops h (low + place) (omega arith) l) (no_cause a (moved low h ++ c) p)

    clean_stops : (h : History) (m : ℕ) → low ≤ m → BeginsClean h → first_stop_of_history part power (moved low h) m ≡ None → first_stop_of_history part kept (moved low h ++ c) m ≡ None
    clean_stops _ m k (clear place h l) e = goes_past part kept (moved low h ++ c) (Write 4 7) (low + place) m fell (lead_stops h (low + place) (omega arith) l) (why_none part kept (moved low h ++ c) (Write 4 7) refl refl)
    clean_stops _ m k (later x h b) e =
        let old : (first_stop_of_history part power (moved low h) (low + x.place) ≡ None) × (why_at_access part power (moved low h) x.access ≡ None) = went_past part power (moved low h) (entry x.access (low + x.place)) m e in
        goes_past part kept (moved low h ++ c) x.access (low + x.place) m fell (clean_stops h (low + x.place) (omega arith) b old.0) (why_passes part kept power low (moved low h ++ c) (moved low h) fell (clean_same h b) x.access old.1)

    -- a history that begins clean, or what may stand before
    abbrev pub IsClean : History → Type 0
    IsClean h = AllPrecedeRcrc h ⊎ BeginsClean h

    -- what a prefix comes to: no stop, startup as at power, and the same memory
    pub record ComesAlike (h : History) (m : ℕ) : Type 0 where
      pub none : first_stop_of_history part kept (moved low h ++ c) m ≡ None
      pub startup : SameStartup (startup_calls (moved low h ++ c) m) (startup_calls (moved low h) m)
      pub memory : memory_of part (moved low h ++ c) ≡ memory_of part (moved low h)

    pub comes : (h : History) (m : ℕ) → low ≤ m → IsClean h → first_stop_of_history part power (moved low h) m ≡ None → ComesAlike h m
    comes h m k (inl l) e = (let n : IsNear part low (moved low h ++ c) (moved low h) = lead_near h l in record { none = lead_stops h m k l; startup = n.startup m k; memory = n.memory })
    comes h m k (inr b) e = (let s : IsSame part low (moved low h ++ c) (moved low h) = clean_same h b in record { none = clean_stops h m k b e; startup = s.startup m k; memory = s.memory })

pub not_empty : (h : History) → h ≡ [] → BeginsClean h → ⊥
not_empty _ e (clear place h l) = absurd (cc)
not_empty _ e (later x h b) = absurd (cc)

abbrev pub AreClean : History → Type 0
AreClean h = AllPrecedeRcrc h ⊎ BeginsClean h

pick : (b : Bool) (x y : History) → AreClean x → AreClean y → AreClean (if b then x else y)
pick true x y p q = p
pick false x y p q = q

lead_until : (n : ℕ) (h : History) → AllPrecedeRcrc h → AreClean (until n h)
lead_until n _ nothing = inl nothing
lead_until n _ (next a place h p l) = pick (nat_lt n place) (until n h) (entry a place ∷ h) (lead_until n h l) (inl (next a place h p l))

pub clean_until : (n : ℕ) (h : History) → BeginsClean h → AreClean (until n h)
clean_until n _ (clear place h l) = pick (nat_lt n place) (until n h) (entry (Write 4 7) place ∷ h) (lead_until n h l) (inr (clear place h l))
clean_until n _ (later e h b) = pick (nat_lt n e.place) (until n h) (e ∷ h) (clean_until n h b) (inr (later e h b))

-- ---- a slot, and nothing

idle_order : (part : PartData) (c : Command) (f : Flow) → is_mfw c ≡ false → IsIdle f → IsIdle (flow_by part (Commands c) f)
idle_order part c f e i = record { base = ordered part c f i; run = refl; source = no_source part f.command c f.run e; given = refl }

idle_first : IsIdle first_flow
idle_first = record { base = refl; run = refl; source = refl; given = refl }

idle_slot : (part : PartData) (n start : ℕ) → IsIdle (flow_of part (desync_at n start))
unfolding flow_of
idle_slot part n start = idle_order part (command_by 13) (flow_by part (Commands (command_by 15)) first_flow) refl (idle_order part (command_by 15) first_flow refl idle_first)

none_over : (m : FrameMap) → put_over [] m ≡ m
unfolding planned
none_over m = refl

memory_slot : (part : PartData) (n start : ℕ) → memory_of part (desync_at n start) ≡ memory_of part []
unfolding memory_of flow_of
memory_slot part n start =
    let zero : FrameMap = memory_of part [] in
    none_over (put_over [] (put_over [] zero)) ∙ none_over (put_over [] zero) ∙ none_over zero

idle_none : (part : PartData) → IsIdle (flow_of part [])
unfolding flow_of
idle_none part = idle_first

startup_slot : (part : PartData) (h : History) (n : ℕ) → IsStill part NotBegun h n → SameStartup (startup_calls h n) (startup_calls [] n)
startup_slot part h n (inl s) = (s.0.armed_is ∙ sym (never_armed n), s.0.progress_is ∙ sym (progress_bytes [] n))
startup_slot part h n (inr s) = (let no : 0 ≡ 7 = s.before in absurd (omega (arith, no)))

pub slot_near : (part : PartData) (kept : Kept) (n start : ℕ) → IsGoing part kept NotBegun (desync_at n start) sector_size → IsNear part sector_size (desync_at n start) []
slot_near part kept n start g = record {
  words = λ r d o p. rw (o, p) refl;
  ctl0 = refl;
  matched = refl;
  pending = refl;
  flow = idle_slot part n start;
  other_flow = idle_none part;
  memory = memory_slot part n start;
  startup = λ m l. startup_slot part (desync_at n start) m (going_bytes part kept NotBegun (desync_at n start) sector_size m l g).still;
}
