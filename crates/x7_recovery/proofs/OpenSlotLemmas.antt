-- What the words of an open slot ask, and a fallback that meets them.
use Rattle.std.proofs.Common.{◌≡◌, ◌^◌, ◌<◌, inl, ℕ, true, None, List, [], ◌∷◌, refl, ap, ◌∙◌, arith}
use Rattle.x7_packets.specs.ByHand.{reading_of}
use Rattle.x7_packets.specs.History as access
use Rattle.x7_packets.specs.History.{History, entry, history_of}
use Rattle.x7_packets.specs.Reading.{Searching, is_synced}
use Rattle.x7_part.specs.Part.{PartData}
use Rattle.x7_startup.specs.Startup.{NotBegun}
use Rattle.x7_engine.specs.Kept.{is_fallback}
use Rattle.x7_engine.specs.Rest.{AtRest}
use Rattle.x7_engine.specs.Stop.{why_at_access}
use Rattle.x7_engine.specs.declared.kept.Kept.{Kept}
use Rattle.x7_engine.proofs.FallbackLemmas.{fallback_off}
use Rattle.x7_effects.proofs.Items.{AreItems, Item, MayLead, Noop, Write, bytes_of_words, closed, opened}
use Rattle.x7_effects.proofs.CalmLemmas.{IsCalm, IsOff}
use Rattle.x7_effects.proofs.GoingLemmas.{IsGoing, going_access, going_desync, why_none}
use Rattle.x7_effects.proofs.RestingLemmas.{rests}
use Rattle.x7_effects.proofs.StillLemmas.{never_armed}
use Rattle.x7_effects.proofs.StreamLemmas.{closed_history, closed_place, opened_history}
use Rattle.x7_boot.specs.Image.{open_slot, slot}
use Rattle.x7_recovery.proofs.SlotLemmas.{slot_long}

-- ---- what the open slot asks

-- after its sync word: a no-op, WBSTAR and IPROG
abbrev slot_items : ℕ → List Item
slot_items start = Noop ∷ Write 16 (start ∷ []) ∷ Write 4 (15 ∷ []) ∷ []

nothing_leads : MayLead []
nothing_leads = record { fits = tt; lacks = tt }

are_items : (start : ℕ) → start < 2 ^ 32 → AreItems (slot_items start)
are_items start l = (tt, ((omega arith, omega arith, (l, tt), (refl, tt)), ((omega arith, omega arith, (omega arith, tt), (refl, tt)), tt)))

pub slot_is : (start : ℕ) → open_slot start ≡ bytes_of_words (closed [] (slot_items start) 0)
unfolding slot
slot_is start = refl

-- the bytes up to IPROG
abbrev pub power_bytes : ℕ → List ℕ
power_bytes start = bytes_of_words (opened [] (slot_items start))

-- the histories after WBSTAR, IPROG and DESYNC
abbrev after_wbstar : ℕ → History
after_wbstar start = entry (access.Write 16 start) 16 ∷ []

abbrev pub after_iprog : ℕ → History
after_iprog start = entry (access.Write 4 15) 24 ∷ after_wbstar start

abbrev pub after_slot : ℕ → History
after_slot start = entry (access.Write 4 13) 32 ∷ after_iprog start

pub power_history : (start : ℕ) → start < 2 ^ 32 → history_of (power_bytes start) ≡ after_iprog start
power_history start l = opened_history [] (slot_items start) nothing_leads (are_items start l)

pub slot_history : (start : ℕ) → start < 2 ^ 32 → history_of (open_slot start) ≡ after_slot start
slot_history start l = ap history_of (slot_is start) ∙ closed_history [] (slot_items start) 0 nothing_leads (are_items start l)

pub slot_place : (start : ℕ) → start < 2 ^ 32 → (reading_of (open_slot start)).place ≡ Searching []
slot_place start l = ap (λ (b : List ℕ). (reading_of b).place) (slot_is start) ∙ closed_place [] (slot_items start) 0 nothing_leads (are_items start l)

-- ---- a fallback

calm_new : (part : PartData) (kept : Kept) → IsOff kept [] → IsCalm part kept [] 0
calm_new part kept off = record { no_stop = refl; off = off; newest = omega arith }

pub iprog_ignored : (part : PartData) (kept : Kept) (start : ℕ) → is_fallback kept.kind ≡ true → why_at_access part kept (after_wbstar start) (access.Write 4 15) ≡ None
iprog_ignored part kept start e = rw e refl

slot_going : (part : PartData) (kept : Kept) (start : ℕ) → is_fallback kept.kind ≡ true → IsGoing part kept NotBegun (after_slot start) 32
slot_going part kept start e =
    let first : IsGoing part kept NotBegun [] 0 = record { calm = calm_new part kept (fallback_off kept [] e); still = inl (record { armed_is = never_armed 0; progress_is = refl }, refl); pending = refl } in
    let wbstar : IsGoing part kept NotBegun (after_wbstar start) 16 =
    going_access part kept NotBegun [] (access.Write 16 start) 0 16 (omega arith) first (record { start = refl; shutdown = refl; desync = refl }) (why_none part kept [] (access.Write 16 start) refl refl) (fallback_off kept (after_wbstar start) e) in
    let iprog : IsGoing part kept NotBegun (after_iprog start) 24 =
    going_access part kept NotBegun (after_wbstar start) (access.Write 4 15) 16 24 (omega arith) wbstar (record { start = refl; shutdown = refl; desync = refl }) (iprog_ignored part kept start e) (fallback_off kept (after_iprog start) e) in
    going_desync part kept NotBegun (after_iprog start) 24 32 (omega arith) iprog (why_none part kept (after_iprog start) (access.Write 4 13) refl refl)

pub slot_rests : (part : PartData) (kept : Kept) (start : ℕ) → start < 2 ^ 32 → is_fallback kept.kind ≡ true → AtRest part kept (open_slot start)
slot_rests part kept start l e =
    rests part kept NotBegun (open_slot start) (after_slot start) 32 (slot_history start l) (slot_long 0xAA995566 start) (ap is_synced (slot_place start l)) (slot_going part kept start e) refl
