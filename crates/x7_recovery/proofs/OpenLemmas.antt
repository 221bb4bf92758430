-- What the open slot of a first sector does to an attempt: it leads one at power to its place, and leaves a fallback at
-- rest.
use Rattle.std.proofs.Common.{◌≡◌, ◌+◌, ◌-◌, ◌*◌, ◌^◌, ◌<◌, ◌≤◌, inl, inr, ℕ, true, false, Option, None, Some, List, [], ◌∷◌, ◌++◌, drop, take, length, length-append, refl, ap, sym, subst, ◌∙◌, append_assoc, take-append-drop, length-take-le, arith}
use Rattle.std.proofs.lemmas.Bool.{cases_lt}
use Rattle.std.proofs.lemmas.List.{take-append-le, take-take}
use Rattle.std.proofs.Math.Seq.{take-append-add}
use Rattle.x7_packets.specs.FlashSlot.{sector_size, flash_slot_size}
use Rattle.x7_words.specs.Word.{AreBytes}
use Rattle.x7_words.proofs.ListLemmas.{all_append, all_back, all_prefix, all_take}
use Rattle.x7_packets.specs.ByHand.{reading_of}
use Rattle.x7_packets.specs.Appended.{moved}
use Rattle.x7_packets.specs.History as access
use Rattle.x7_packets.specs.History.{History, entry, history_of, last_word, until}
use Rattle.x7_packets.specs.Reading.{is_synced}
use Rattle.x7_packets.specs.SyncWord.{HasNoSync, sync_bytes}
use Rattle.x7_packets.specs.Gap.{NoneBegins}
use Rattle.x7_packets.proofs.GapLemmas.{history_passed, synced_passed}
use Rattle.x7_packets.proofs.SeamLemmas.{none_before_prefix}
use Rattle.x7_packets.proofs.GrowthLemmas.{placed_of, until_placed}
use Rattle.x7_part.specs.Part.{PartData}
use Rattle.x7_regs.specs.declared.boot_status.Kind.TheVariants.{Power, Iprog}
use Rattle.x7_startup.specs.Startup.{NotBegun}
use Rattle.x7_regs.specs.declared.register.Reg.TheVariants.{Wbstar}
use Rattle.x7_engine.specs.Kept.{is_fallback}
use Rattle.x7_engine.specs.Registers.{wrote_iprog}
use Rattle.x7_engine.specs.Rest.{AtRest, LastGapGoesOn}
use Rattle.x7_engine.specs.State.{history_by, kept_after, why_stopped, first_stop_of_bytes}
use Rattle.x7_engine.specs.Stop.{Stopped, fault_of_stop, why_at_access, first_stop_of_history, stop_at_place}
use Rattle.x7_engine.specs.Value.{failure_of}
use Rattle.x7_engine.specs.declared.kept.Kept.{Kept}
use Rattle.x7_engine.specs.declared.stop.StopCause.TheVariants as stop
use Rattle.x7_engine.proofs.ClockLemmas.{stop_of_access}
use Rattle.x7_engine.proofs.FallbackLemmas.{fallback_off}
use Rattle.x7_engine.proofs.RestLemmas.{history_on, rest_on}
use Rattle.x7_engine.proofs.StateLemmas.{no_stop_before}
use Rattle.x7_effects.proofs.Items.{bytes_of_words}
use Rattle.x7_effects.proofs.CalmLemmas.{IsCalm, IsOff, calm_access, calm_bytes}
use Rattle.x7_effects.proofs.GoingLemmas.{IsGoing, going_access, going_bytes, going_desync, why_none}
use Rattle.x7_effects.proofs.RestingLemmas.{rests}
use Rattle.x7_effects.proofs.StillLemmas.{never_armed}
use Rattle.x7_boot.specs.Attempt.{IsFlashAttempt, NoneBefore, BootAttempt, ending_at, ending_by}
use Rattle.x7_boot.specs.Boot.{LeadsTo, at_power, end_value, start_address}
use Rattle.x7_boot.specs.Image.{open_slot, slot}
use Rattle.x7_boot.specs.declared.attempt.Ending.TheVariants as ending
use Rattle.x7_boot.specs.declared.next.Next.TheVariants.{Again}
use Rattle.x7_boot.proofs.StartLemmas.{NoDesyncAfterStart, prefix_open, never_seven}
use Rattle.x7_boot.proofs.TookLemmas.{ends_by_stop}
use Rattle.x7_recovery.specs.OpenBoot.{kept_at_update}
use Rattle.x7_recovery.specs.OpenSlot.{HasOpenSlot}
use Rattle.x7_recovery.proofs.OpenSlotLemmas.{power_bytes, power_history, slot_history, slot_place, slot_rests}
use Rattle.x7_recovery.proofs.GoldenLemmas.{word_at}
use Rattle.x7_recovery.proofs.SlotLemmas.{slot_fits, slot_long}

-- what IPROG of a slot leaves in a slot
abbrev slot_end : List ℕ
slot_end = bytes_of_words (0x30008001 ∷ 13 ∷ [])

slot_after : (start : ℕ) → open_slot start ≡ power_bytes start ++ slot_end
unfolding slot
slot_after start = refl

power_fits : (start : ℕ) → AreBytes (power_bytes start)
power_fits start = all_prefix (λ b. b < 256) (power_bytes start) slot_end (subst AreBytes (slot_after start) (slot_fits 0xAA995566 start))

-- the histories after WBSTAR, IPROG and DESYNC of a slot after this many bytes
abbrev wbstar_at : ℕ → ℕ → History
wbstar_at n start = entry (access.Write 16 start) (n + 16) ∷ []

abbrev iprog_at : ℕ → ℕ → History
iprog_at n start = entry (access.Write 4 15) (n + 24) ∷ wbstar_at n start

abbrev pub desync_at : ℕ → ℕ → History
desync_at n start = entry (access.Write 4 13) (n + 32) ∷ iprog_at n start

module _ (flash : List ℕ) (number start : ℕ) (o : HasOpenSlot flash number start) (small : start < 2 ^ 32) where
  abbrev pub n : ℕ
  n = flash_slot_size * number

  abbrev pub gap : List ℕ
  gap = take (flash_slot_size * number) flash

  abbrev pub rest : List ℕ
  rest = drop flash_slot_size (drop (flash_slot_size * number) flash)

  abbrev pub sector : List ℕ
  sector = take sector_size flash

  abbrev pub tail : List ℕ
  tail = drop sector_size flash

  pub gap_long : length gap ≡ flash_slot_size * number
  gap_long = length-take-le (flash_slot_size * number) flash (omega (arith, o.within, o.long))

  pub split : flash ≡ gap ++ (open_slot start ++ rest)
  split = sym (take-append-drop (flash_slot_size * number) flash) ∙ ap (λ (x : List ℕ). gap ++ x) (sym (take-append-drop flash_slot_size (drop (flash_slot_size * number) flash))) ∙ ap (λ (x : List ℕ). gap ++ (x ++ rest)) o.stands

  pub gap_fits : AreBytes gap
  gap_fits = subst AreBytes (take-take (flash_slot_size * number) sector_size flash (omega (arith, o.within))) (all_take (λ b. b < 256) (flash_slot_size * number) sector o.fits)

  -- no sync word begins before the slot
  pub none_before : (s more : List ℕ) → flash ≡ (gap ++ s) ++ more → NoneBegins gap s
  none_before s more e = none_before_prefix gap s more (λ prefix back f. elim (cases_lt (length prefix) (length gap)) [
    | inr past ↦ past
    | inl less ↦
        let there : length prefix ≡ flash_slot_size * number = o.alone (length prefix) (omega (arith, less, gap_long, o.within)) (word_at flash prefix back (e ∙ append_assoc gap s more ∙ f)) in
        absurd (omega (arith, there, less, gap_long))
  ])

  -- ---- the attempt at power

  abbrev pub taken : List ℕ
  taken = take (flash_slot_size * number) flash ++ power_bytes start

  abbrev left : List ℕ
  left = slot_end ++ rest

  pub taken_split : flash ≡ taken ++ left
  taken_split =
      let grouped : gap ++ ((power_bytes start ++ slot_end) ++ rest) ≡ (gap ++ power_bytes start) ++ (slot_end ++ rest) = simp append_assoc in
      split ∙ ap (λ (x : List ℕ). gap ++ (x ++ rest)) (slot_after start) ∙ grouped

  taken_fits : AreBytes taken
  taken_fits = all_append (λ b. b < 256) gap (power_bytes start) gap_fits (power_fits start)

  taken_long : length taken ≡ flash_slot_size * number + 24
  taken_long = length-append gap (power_bytes start) ∙ ap (λ (m : ℕ). m + 24) gap_long

  taken_history : history_of taken ≡ iprog_at (flash_slot_size * number) start
  taken_history =
      history_passed gap (power_bytes start) taken_fits (none_before (power_bytes start) left taken_split)
      ∙ ap (moved (length gap)) (power_history start small)
      ∙ ap (λ (m : ℕ). iprog_at m start) gap_long

  calm : (part : PartData) (kept : Kept) → IsOff kept [] → IsCalm part kept (wbstar_at (flash_slot_size * number) start) (flash_slot_size * number + 24)
  calm part kept off =
      let none : why_at_access part kept [] (access.Write 16 start) ≡ None = why_none part kept [] (access.Write 16 start) refl refl in
      calm_bytes part kept (wbstar_at (flash_slot_size * number) start) (flash_slot_size * number + 16) (flash_slot_size * number + 24) (omega arith)
      (calm_access part kept [] (access.Write 16 start) 0 (flash_slot_size * number + 16) (omega arith) (record { no_stop = refl; off = off; newest = omega arith }) none off)

  taken_stop : (part : PartData) → first_stop_of_bytes part at_power taken ≡ Some (record { place = flash_slot_size * number + 24; why = stop.Iprog })
  taken_stop part =
      let why : why_at_access part at_power (wbstar_at (flash_slot_size * number) start) (access.Write 4 15) ≡ Some stop.Iprog = refl in
      ap (λ (h : History). first_stop_of_history part at_power h (length taken)) taken_history
      ∙ ap (first_stop_of_history part at_power (iprog_at (flash_slot_size * number) start)) taken_long
      ∙ stop_of_access part at_power (wbstar_at (flash_slot_size * number) start) (access.Write 4 15) (flash_slot_size * number + 24) (calm part at_power refl).no_stop
      ∙ ap (stop_at_place (flash_slot_size * number + 24)) why

  taken_never : NoDesyncAfterStart (history_of taken)
  taken_never = subst NoDesyncAfterStart (sym taken_history) (inl refl, (inl refl, tt))

  taken_ends : (part : PartData) → ending_at part at_power taken ≡ Some ending.Iprog
  taken_ends part =
      ends_by_stop part at_power taken (never_seven part at_power taken taken_fits taken_never) ∙ ap (λ (s : Option Stopped). ending_by (why_stopped s)) (taken_stop part)

  -- nothing ends it at fewer bytes
  taken_first : (part : PartData) → NoneBefore part at_power flash (length taken)
  taken_first part k few =
      let within : k ≤ length taken = omega (arith, few) in
      let whole : take k taken ++ drop k taken ≡ taken = take-append-drop k taken in
      let count : length (take k taken) ≡ k = length-take-le k taken within in
      let none : first_stop_of_bytes part at_power (take k taken) ≡ None =
      no_stop_before part at_power (take k taken) (drop k taken) (record { place = flash_slot_size * number + 24; why = stop.Iprog }) (subst AreBytes (sym whole) taken_fits) (ap (first_stop_of_bytes part at_power) whole ∙ taken_stop part) (omega (arith, count, few, taken_long)) in
      ap (λ (x : List ℕ). ending_at part at_power (take k x)) taken_split ∙ ap (ending_at part at_power) (take-append-le k taken left within) ∙ prefix_open part at_power k taken taken_fits taken_never none

  abbrev pub power : BootAttempt
  power = record { kept = at_power; address = 0; bytes = taken; wrapped = false; ending = ending.Iprog }

  power_tries : (part : PartData) → IsFlashAttempt part flash power
  power_tries part = inl (record { rest = left; taken = taken_split; ends = taken_ends part; first = taken_first part; in_flash = refl })

  -- what is kept after it
  power_keeps : (part : PartData) → kept_after part at_power false taken Iprog ≡ kept_at_update start
  power_keeps part =
      let same : until (flash_slot_size * number + 24) (iprog_at (flash_slot_size * number) start) ≡ iprog_at (flash_slot_size * number) start =
      ap (until (flash_slot_size * number + 24)) (sym taken_history) ∙ ap (λ (m : ℕ). until m (history_of taken)) (sym taken_long) ∙ until_placed (length taken) (history_of taken) (placed_of taken taken_fits) ∙ taken_history in
      ap (λ (s : Option Stopped). record {
        wbstar = last_word 16 0 (history_by s (history_of taken));
        timer = last_word 17 0 (history_by s (history_of taken));
        bspi = last_word 31 0 (history_by s (history_of taken));
        kind = Iprog;
        before = Some (record { kind = Power; cause = failure_of (fault_of_stop (why_stopped s)) false; ignored = false });
      }) (taken_stop part)
      ∙ ap (λ (h : History). record {
        wbstar = last_word 16 0 (until (flash_slot_size * number + 24) h);
        timer = last_word 17 0 (until (flash_slot_size * number + 24) h);
        bspi = last_word 31 0 (until (flash_slot_size * number + 24) h);
        kind = Iprog;
        before = Some (record { kind = Power; cause = None; ignored = false });
      }) taken_history
      ∙ ap (λ (h : History). record {
        wbstar = last_word 16 0 h;
        timer = last_word 17 0 h;
        bspi = last_word 31 0 h;
        kind = Iprog;
        before = Some (record { kind = Power; cause = None; ignored = false });
      }) same

  -- the attempt at power leads to the place
  pub power_leads : (part : PartData) (place : ℕ) → start_address part.start_unit start ≡ place → LeadsTo part flash (power ∷ []) (Again (kept_at_update start) place)
  power_leads part place leads =
      let keeps : kept_after part at_power false taken Iprog ≡ kept_at_update start = power_keeps part in
      let next : Again (kept_after part at_power false taken Iprog) (start_address part.start_unit (end_value part power Wbstar)) ≡ Again (kept_at_update start) place =
      ap (λ (k : Kept). Again k (start_address part.start_unit k.wbstar)) keeps ∙ ap (Again (kept_at_update start)) leads in
      (refl, power_tries part, sym next)

  -- ---- a fallback

  -- the sector from the slot on
  abbrev pub more : List ℕ
  more = take (sector_size - flash_slot_size * number - flash_slot_size) rest

  abbrev pub from_slot : List ℕ
  from_slot = open_slot start ++ more

  pub sector_is : sector ≡ gap ++ from_slot
  sector_is =
      let m : ℕ = sector_size - flash_slot_size * number in
      let k : ℕ = sector_size - flash_slot_size * number - flash_slot_size in
      let sum : length gap + m ≡ sector_size = omega (arith, gap_long, o.within) in
      let sum_2 : length (open_slot start) + k ≡ m = omega (arith, slot_long 0xAA995566 start, o.within) in
      ap (take sector_size) split
      ∙ ap (λ (x : ℕ). take x (gap ++ (open_slot start ++ rest))) (sym sum)
      ∙ take-append-add gap (open_slot start ++ rest) m
      ∙ ap (λ (x : List ℕ). gap ++ x) (ap (λ (x : ℕ). take x (open_slot start ++ rest)) (sym sum_2) ∙ take-append-add (open_slot start) rest k)

  pub sector_long : length sector ≡ sector_size
  sector_long = length-take-le sector_size flash o.long

  -- no sync word after the slot
  pub more_none : HasNoSync more
  more_none = record {
    none = λ prefix back e.
        let cut : flash ≡ (gap ++ from_slot) ++ tail = sym (take-append-drop sector_size flash) ∙ ap (λ (x : List ℕ). x ++ tail) sector_is in
        let word : more ≡ prefix ++ (sync_bytes ++ back) = e ∙ append_assoc prefix sync_bytes back in
        let prefix_2 : List ℕ = (gap ++ open_slot start) ++ prefix in
        let grouped : (gap ++ (open_slot start ++ (prefix ++ (sync_bytes ++ back)))) ++ tail ≡ ((gap ++ open_slot start) ++ prefix) ++ (sync_bytes ++ (back ++ tail)) = simp append_assoc in
        let there : flash ≡ prefix_2 ++ (sync_bytes ++ (back ++ tail)) = cut ∙ ap (λ (x : List ℕ). (gap ++ (open_slot start ++ x)) ++ tail) word ∙ grouped in
        let long : length prefix_2 ≡ flash_slot_size * number + flash_slot_size + length prefix = length-append (gap ++ open_slot start) prefix ∙ ap (λ (x : ℕ). x + length prefix) (length-append gap (open_slot start) ∙ omega (arith, gap_long, slot_long 0xAA995566 start)) in
        let of_more : length more ≡ length prefix + (4 + length back) = ap length word ∙ length-append prefix (sync_bytes ++ back) ∙ ap (λ (x : ℕ). length prefix + x) (length-append sync_bytes back) in
        let of_sector : sector_size ≡ flash_slot_size * number + (flash_slot_size + length more) =
        sym sector_long ∙ ap length sector_is ∙ length-append gap from_slot ∙ ap (λ (x : ℕ). length gap + x) (length-append (open_slot start) more) ∙ omega (arith, gap_long, slot_long 0xAA995566 start) in
        let here : length prefix_2 ≡ flash_slot_size * number = o.alone (length prefix_2) (omega (arith, long, of_more, of_sector)) (word_at flash prefix_2 (back ++ tail) there) in
        absurd (omega (arith, here, long));
  }

  pub slot_fits' : AreBytes from_slot
  slot_fits' = all_back (λ b. b < 256) gap from_slot (subst AreBytes sector_is o.fits)

  pub goes : LastGapGoesOn (open_slot start) more
  goes = record { gap = []; searching = slot_place start small; none = more_none }

  pub none_sector : NoneBegins gap from_slot
  none_sector = none_before from_slot tail (sym (take-append-drop sector_size flash) ∙ ap (λ (x : List ℕ). x ++ tail) sector_is)

  pub sector_history : history_of sector ≡ desync_at (flash_slot_size * number) start
  sector_history =
      ap history_of sector_is
      ∙ history_passed gap from_slot (subst AreBytes sector_is o.fits) none_sector
      ∙ ap (moved (length gap)) (history_on (open_slot start) more slot_fits' goes ∙ slot_history start small)
      ∙ ap (λ (m : ℕ). desync_at m start) gap_long

  pub sector_going : (part : PartData) (kept : Kept) → is_fallback kept.kind ≡ true → IsGoing part kept NotBegun (desync_at (flash_slot_size * number) start) sector_size
  sector_going part kept e =
      let m : ℕ = flash_slot_size * number in
      let first : IsGoing part kept NotBegun [] 0 = record { calm = record { no_stop = refl; off = fallback_off kept [] e; newest = omega arith }; still = inl (record { armed_is = never_armed 0; progress_is = refl }, refl); pending = refl } in
      let wbstar : IsGoing part kept NotBegun (wbstar_at m start) (m + 16) =
      going_access part kept NotBegun [] (access.Write 16 start) 0 (m + 16) (omega arith) first (record { start = refl; shutdown = refl; desync = refl }) (why_none part kept [] (access.Write 16 start) refl refl) (fallback_off kept (wbstar_at m start) e) in
      let ignored : why_at_access part kept (wbstar_at m start) (access.Write 4 15) ≡ None = rw e refl in
      let iprog : IsGoing part kept NotBegun (iprog_at m start) (m + 24) =
      going_access part kept NotBegun (wbstar_at m start) (access.Write 4 15) (m + 16) (m + 24) (omega arith) wbstar (record { start = refl; shutdown = refl; desync = refl }) ignored (fallback_off kept (iprog_at m start) e) in
      let desync : IsGoing part kept NotBegun (desync_at m start) (m + 32) = going_desync part kept NotBegun (iprog_at m start) (m + 24) (m + 32) (omega arith) iprog (why_none part kept (iprog_at m start) (access.Write 4 13) refl refl) in
      going_bytes part kept NotBegun (desync_at m start) (m + 32) sector_size (omega (arith, o.within)) desync

  -- after the first sector a fallback is at rest, and has ignored IPROG
  pub sector_rests : (part : PartData) (kept : Kept) → is_fallback kept.kind ≡ true → AtRest part kept sector
  sector_rests part kept e =
      let searching : is_synced (reading_of sector).place ≡ false =
      ap (λ (x : List ℕ). is_synced (reading_of x).place) sector_is ∙ synced_passed gap from_slot (subst AreBytes sector_is o.fits) none_sector
      ∙ (rest_on part kept (open_slot start) more slot_fits' goes (slot_rests part kept start small e)).searching in
      rests part kept NotBegun sector (desync_at (flash_slot_size * number) start) sector_size sector_history sector_long searching (sector_going part kept e) refl

  pub sector_never : NoDesyncAfterStart (history_of sector)
  sector_never = subst NoDesyncAfterStart (sym sector_history) (inr (refl, (refl, tt)), (inl refl, (inl refl, tt)))

  pub sector_wrote : wrote_iprog (history_of sector) ≡ true
  sector_wrote = ap wrote_iprog sector_history
