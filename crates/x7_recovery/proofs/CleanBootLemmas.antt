-- A golden stream that begins clean starts as a fallback after an open slot, where it starts at power after an erased
-- sector.
use Rattle.std.proofs.Common.{◌≡◌, ◌==◌, ◌+◌, ◌-◌, ◌*◌, ◌^◌, ◌<◌, ◌≤◌, inl, inr, ℕ, true, false, if◌then◌else◌, None, Some, List, ◌++◌, drop, take, length, length-append, length-drop, refl, ap, sym, subst, ◌∙◌, append_assoc, take-append-drop, drop_of_length-le, arith}
use Rattle.x7_packets.specs.FlashSlot.{sector_size, flash_slot_size}
use Rattle.x7_words.specs.Flash.{erased_sector}
use Rattle.x7_words.proofs.FlashLemmas.{length_erased_sector}
use Rattle.std.proofs.lemmas.Bool.{cases_lt}
use Rattle.std.proofs.lemmas.List.{take-append-le}
use Rattle.std.proofs.Math.Seq.{take-append-add, take-append_seam, take-length}
use Rattle.x7_words.specs.Word.{AreBytes}
use Rattle.x7_words.proofs.ListLemmas.{all_append, all_back, all_take}
use Rattle.x7_packets.specs.Appended.{gap_of, moved}
use Rattle.x7_packets.specs.History.{History, history_of}
use Rattle.x7_packets.specs.Reading.{is_synced}
use Rattle.x7_packets.specs.SyncWord.{sync_bytes}
use Rattle.x7_packets.specs.Gap.{NoneBegins}
use Rattle.x7_packets.proofs.AppendedLemmas.{history_after}
use Rattle.x7_packets.proofs.GapLemmas.{history_passed}
use Rattle.x7_packets.proofs.MovedLemmas.{moved_again, moved_append}
use Rattle.x7_regs.specs.declared.boot_status.Kind.TheVariants.{Fallback}
use Rattle.x7_startup.specs.Startup.{NotBegun, StartupProgress}
use Rattle.x7_flow.specs.FrameMemory.{memory_of}
use Rattle.x7_regs.specs.declared.register.Reg.TheVariants.{Bootsts}
use Rattle.x7_engine.specs.Kept.{is_fallback}
use Rattle.x7_engine.specs.Registers.{wrote_iprog}
use Rattle.x7_engine.specs.Startup.{phase_by, startup_progress}
use Rattle.x7_engine.specs.State.{memory_of_bytes, first_stop_of_bytes}
use Rattle.x7_engine.specs.Stop.{first_stop_of_history}
use Rattle.x7_engine.specs.declared.kept.Kept.{Kept}
use Rattle.x7_regs.specs.BootStatus.{boot_status_of}
use Rattle.x7_regs.specs.declared.boot_status.Attempt.{Attempt}
use Rattle.x7_regs.specs.declared.boot_status.Cause.{Cause}
use Rattle.x7_boot.specs.Attempt.{EndsFirst, IsFlashAttempt, BootAttempt, ending_at}
use Rattle.x7_boot.specs.Boot.{at_power, end_value}
use Rattle.x7_boot.specs.Image.{open_slot}
use Rattle.x7_boot.specs.declared.attempt.Ending.TheVariants.{Started}
use Rattle.x7_boot.proofs.OverLemmas.{ends_alike}
use Rattle.x7_boot.proofs.StartLemmas.{prefix_goes, prefix_history, prefix_open}
use Rattle.x7_boot.proofs.TookLemmas.{ends_going}
use Rattle.x7_recovery.specs.Clean.{StartsClean}
use Rattle.x7_recovery.specs.Golden.{with_first_sector_erased}
use Rattle.x7_boot.specs.BootCourse.{BootCourse, IsCourse}
use Rattle.x7_recovery.specs.OpenBoot.{FallsBackClean, UpdateFallsBack}
use Rattle.x7_recovery.specs.OpenSlot.{HasOpenSlot, IsOpenFlash, OpenFlash}
use Rattle.x7_effects.proofs.EndLemmas.{memory_all}
use Rattle.x7_effects.proofs.GoingLemmas.{IsGoing, going_bytes}
use Rattle.x7_recovery.proofs.SlotLemmas.{slot_long}
use Rattle.x7_recovery.proofs.OpenSlotLemmas.{after_slot, slot_history, slot_place}
use Rattle.x7_recovery.proofs.CleanStopLemmas.{AreClean, ComesAlike, clean_until, comes, not_empty, slot_near}
use Rattle.x7_recovery.proofs.FullAttemptLemmas.{bootsts_is, iprog_later}
use Rattle.x7_recovery.proofs.GoldenLemmas.{ended, erased_drop, erased_history, erased_take, word_at}
use Rattle.x7_recovery.proofs.OpenBootLemmas.{Falls, failed_attempt, falls, kept_then}
use Rattle.x7_recovery.proofs.OpenLemmas as slots
use Rattle.x7_recovery.proofs.OpenLemmas.{desync_at, sector, sector_going, sector_long, sector_never, sector_rests, sector_wrote}

-- ---- the history of the first sector and of bytes after it

regroup : (a b c d : List ℕ) → (a ++ (b ++ c)) ++ d ≡ a ++ (b ++ (c ++ d))
regroup a b c d = simp append_assoc

regroup_word : (a b p w back more : List ℕ) → (a ++ (b ++ (p ++ (w ++ back)))) ++ more ≡ ((a ++ b) ++ p) ++ (w ++ (back ++ more))
regroup_word a b p w back more = simp append_assoc

module _ (flash : List ℕ) (number start : ℕ) (o : HasOpenSlot flash number start) (small : start < 2 ^ 32) (s rest : List ℕ) (split : flash ≡ (sector flash number start o small ++ s) ++ rest) (fits : AreBytes (sector flash number start o small ++ s)) where
  abbrev first : List ℕ
  first = slots.sector flash number start o small

  abbrev before : List ℕ
  before = slots.gap flash number start o small

  abbrev after : List ℕ
  after = slots.more flash number start o small

  whole_is : first ++ s ≡ before ++ (open_slot start ++ (after ++ s))
  whole_is = ap (λ (x : List ℕ). x ++ s) (slots.sector_is flash number start o small) ∙ regroup before (open_slot start) after s

  lengths : length before + (flash_slot_size + length after) ≡ sector_size
  lengths =
      sym (sym (sector_long flash number start o small) ∙ ap length (slots.sector_is flash number start o small) ∙ length-append before (open_slot start ++ after) ∙ ap (λ (x : ℕ). length before + x) (length-append (open_slot start) after)
      ∙ ap (λ (x : ℕ). length before + (x + length after)) (slot_long 0xAA995566 start))

  none_later : NoneBegins after s
  none_later prefix back e = elim (cases_lt (length prefix) (length after)) [
    | inr past ↦ past
    | inl less ↦
        let prefix_2 : List ℕ = (before ++ open_slot start) ++ prefix in
        let there : flash ≡ prefix_2 ++ (sync_bytes ++ (back ++ rest)) = split ∙ ap (λ (x : List ℕ). x ++ rest) whole_is ∙ ap (λ (x : List ℕ). (before ++ (open_slot start ++ x)) ++ rest) e ∙ regroup_word before (open_slot start) prefix sync_bytes back rest in
        let long : length prefix_2 ≡ flash_slot_size * number + flash_slot_size + length prefix =
        length-append (before ++ open_slot start) prefix ∙ ap (λ (x : ℕ). x + length prefix) (length-append before (open_slot start) ∙ omega (arith, slots.gap_long flash number start o small, slot_long 0xAA995566 start)) in
        let here : length prefix_2 ≡ flash_slot_size * number = o.alone (length prefix_2) (omega (arith, long, less, lengths, slots.gap_long flash number start o small)) (word_at flash prefix_2 (back ++ rest) there) in
        absurd (omega (arith, here, long))
  ]

  fits_all : AreBytes (before ++ (open_slot start ++ (after ++ s)))
  fits_all = subst AreBytes whole_is fits

  fits_slot : AreBytes (open_slot start ++ (after ++ s))
  fits_slot = all_back (λ b. b < 256) before (open_slot start ++ (after ++ s)) fits_all

  fits_after : AreBytes (after ++ s)
  fits_after = all_back (λ b. b < 256) (open_slot start) (after ++ s) fits_slot

  after_history : history_of (after ++ s) ≡ moved (length after) (history_of s)
  after_history = history_passed after s fits_after none_later

  slot_then : history_of (open_slot start ++ (after ++ s)) ≡ moved flash_slot_size (moved (length after) (history_of s)) ++ after_slot start
  slot_then =
      history_after (open_slot start) (after ++ s) fits_slot (record { searching = ap is_synced (slot_place start small); apart = inl (ap gap_of (slot_place start small)) })
      ∙ ap (λ (h : History). moved (length (open_slot start)) h ++ history_of (open_slot start)) after_history
      ∙ ap (λ (n : ℕ). moved n (moved (length after) (history_of s)) ++ history_of (open_slot start)) (slot_long 0xAA995566 start)
      ∙ ap (λ (h : History). moved flash_slot_size (moved (length after) (history_of s)) ++ h) (slot_history start small)

  pub sector_then : history_of (first ++ s) ≡ moved sector_size (history_of s) ++ desync_at (flash_slot_size * number) start
  sector_then =
      let inner : History = moved flash_slot_size (moved (length after) (history_of s)) in
      let n : ℕ = length before in
      ap history_of whole_is
      ∙ history_passed before (open_slot start ++ (after ++ s)) fits_all (slots.none_before flash number start o small (open_slot start ++ (after ++ s)) rest (split ∙ ap (λ (x : List ℕ). x ++ rest) whole_is))
      ∙ ap (moved n) slot_then
      ∙ moved_append n inner (after_slot start)
      ∙ ap (λ (h : History). moved n h ++ moved n (after_slot start)) (moved_again flash_slot_size (length after) (history_of s))
      ∙ ap (λ (h : History). h ++ moved n (after_slot start)) (moved_again n (flash_slot_size + length after) (history_of s) ∙ ap (λ (m : ℕ). moved m (history_of s)) lengths)
      ∙ ap (λ (m : ℕ). moved sector_size (history_of s) ++ desync_at m start) (slots.gap_long flash number start o small)

-- ---- the fallback

module _ (o : OpenFlash) (is : IsOpenFlash o) (t : BootAttempt) (c : StartsClean o.part o.flash t) where
  abbrev s : List ℕ
  s = drop sector_size t.bytes

  abbrev one : List ℕ
  one = with_first_sector_erased o.flash

  abbrev prefix' : List ℕ
  prefix' = take sector_size o.flash

  x : EndsFirst o.part one t
  x = ended o.part one t c.starts

  long : sector_size ≤ length t.bytes
  long = elim (cases_lt (length t.bytes) sector_size) [
    | inr past ↦ past
    | inl few ↦
        let short : length t.bytes ≤ sector_size = omega (arith, few) in
        absurd (not_empty (history_of s) (ap history_of (drop_of_length-le t.bytes short)) c.clean)
  ]

  bytes_are : t.bytes ≡ erased_sector ++ s
  bytes_are =
      sym (take-append-drop sector_size t.bytes)
      ∙ ap (λ (y : List ℕ). y ++ s) (sym (take-append-le sector_size t.bytes x.rest long) ∙ ap (take sector_size) (sym x.taken) ∙ erased_take (drop sector_size o.flash))

  one_is : one ≡ (erased_sector ++ s) ++ x.rest
  one_is = x.taken ∙ ap (λ (b : List ℕ). b ++ x.rest) bytes_are

  after_is : drop sector_size o.flash ≡ s ++ x.rest
  after_is = sym (erased_drop (drop sector_size o.flash)) ∙ ap (drop sector_size) (one_is ∙ append_assoc erased_sector s x.rest) ∙ erased_drop (s ++ x.rest)

  flash_is : o.flash ≡ (prefix' ++ s) ++ x.rest
  flash_is = sym (take-append-drop sector_size o.flash) ∙ ap (λ (y : List ℕ). prefix' ++ y) after_is ∙ sym (append_assoc prefix' s x.rest)

  s_fits : AreBytes s
  s_fits = all_back (λ b. b < 256) erased_sector s (subst AreBytes bytes_are c.fits)

  erased_all : AreBytes (erased_sector ++ s)
  erased_all = subst AreBytes bytes_are c.fits

  going : first_stop_of_bytes o.part at_power (erased_sector ++ s) ≡ None
  going = sym (ap (first_stop_of_bytes o.part at_power) bytes_are) ∙ ap (λ (k : Kept). first_stop_of_bytes o.part k t.bytes) (sym c.starts.kept) ∙ c.going

  prefix_long : length prefix' ≡ sector_size
  prefix_long = sector_long o.flash o.slot o.start is.has is.small

  -- prefixes of the golden stream
  module _ (k : ℕ) where
    abbrev sk : List ℕ
    sk = take k s

    sk_fits : AreBytes sk
    sk_fits = all_take (λ b. b < 256) k s s_fits

    power_long : length (erased_sector ++ sk) ≡ sector_size + length sk
    power_long = length-append erased_sector sk ∙ ap (λ (n : ℕ). n + length sk) length_erased_sector

    fall_long : length (prefix' ++ sk) ≡ sector_size + length sk
    fall_long = length-append prefix' sk ∙ ap (λ (n : ℕ). n + length sk) prefix_long

    power_history : history_of (erased_sector ++ sk) ≡ moved sector_size (history_of sk)
    power_history = erased_history sk sk_fits

    fall_history : history_of (prefix' ++ sk) ≡ moved sector_size (history_of sk) ++ desync_at (flash_slot_size * o.slot) o.start
    fall_history =
        let rest_k : List ℕ = drop k s ++ x.rest in
        let split : o.flash ≡ (prefix' ++ sk) ++ rest_k = flash_is ∙ ap (λ (y : List ℕ). (prefix' ++ y) ++ x.rest) (sym (take-append-drop k s)) ∙ ap (λ (y : List ℕ). y ++ x.rest) (sym (append_assoc prefix' sk (drop k s))) ∙ append_assoc (prefix' ++ sk) (drop k s) x.rest in
        sector_then o.flash o.slot o.start is.has is.small sk rest_k split (all_append (λ b. b < 256) prefix' sk is.has.fits sk_fits)

    clean : AreClean (history_of sk)
    clean = subst AreClean (sym (prefix_history k s s_fits)) (clean_until (length sk) (history_of s) c.clean)

    power_going : first_stop_of_bytes o.part at_power (erased_sector ++ sk) ≡ None
    power_going = ap (first_stop_of_bytes o.part at_power) (sym (take-append-add erased_sector s k)) ∙ prefix_goes o.part at_power (length erased_sector + k) (erased_sector ++ s) erased_all going

    module _ (kept : Kept) (fell : is_fallback kept.kind ≡ true) where
      slot_going : IsGoing o.part kept NotBegun (desync_at (flash_slot_size * o.slot) o.start) sector_size
      slot_going = sector_going o.flash o.slot o.start is.has is.small o.part kept fell

      abbrev AreAlikeHere : Type 0
      AreAlikeHere = ComesAlike o.part kept at_power sector_size fell (desync_at (flash_slot_size * o.slot) o.start) (slot_near o.part kept (flash_slot_size * o.slot) o.start slot_going)
          (λ m l. (going_bytes o.part kept NotBegun (desync_at (flash_slot_size * o.slot) o.start) sector_size m l slot_going).calm.no_stop) (history_of sk) (sector_size + length sk)

      alike : AreAlikeHere
      alike = comes o.part kept at_power sector_size fell (desync_at (flash_slot_size * o.slot) o.start) (slot_near o.part kept (flash_slot_size * o.slot) o.start slot_going)
          (λ m l. (going_bytes o.part kept NotBegun (desync_at (flash_slot_size * o.slot) o.start) sector_size m l slot_going).calm.no_stop) (history_of sk) (sector_size + length sk) (omega arith) clean
          (sym (ap (λ (h : History). first_stop_of_history o.part at_power h (length (erased_sector ++ sk))) power_history ∙ ap (first_stop_of_history o.part at_power (moved sector_size (history_of sk))) power_long) ∙ power_going)

      fall_going : first_stop_of_bytes o.part kept (prefix' ++ sk) ≡ None
      fall_going = ap (λ (h : History). first_stop_of_history o.part kept h (length (prefix' ++ sk))) fall_history ∙ ap (first_stop_of_history o.part kept (moved sector_size (history_of sk) ++ desync_at (flash_slot_size * o.slot) o.start)) fall_long ∙ alike.none

      progress_alike : startup_progress (history_of (prefix' ++ sk)) (length (prefix' ++ sk)) ≡ startup_progress (history_of (erased_sector ++ sk)) (length (erased_sector ++ sk))
      progress_alike =
          ap (λ (h : History). startup_progress h (length (prefix' ++ sk))) fall_history ∙ ap (startup_progress (moved sector_size (history_of sk) ++ desync_at (flash_slot_size * o.slot) o.start)) fall_long
          ∙ alike.startup.1
          ∙ sym (ap (λ (h : History). startup_progress h (length (erased_sector ++ sk))) power_history ∙ ap (startup_progress (moved sector_size (history_of sk))) power_long)

      ending_alike : ending_at o.part kept (prefix' ++ sk) ≡ ending_at o.part at_power (erased_sector ++ sk)
      ending_alike =
          ends_going o.part kept (prefix' ++ sk) fall_going
          ∙ ap (λ (p : StartupProgress). if phase_by o.part p == 7 then Some Started else None) progress_alike
          ∙ sym (ends_going o.part at_power (erased_sector ++ sk) power_going)

      memory_alike : memory_of_bytes o.part kept (prefix' ++ sk) ≡ memory_of_bytes o.part at_power (erased_sector ++ sk)
      memory_alike =
          memory_all o.part kept (prefix' ++ sk) fall_going ∙ ap (memory_of o.part) fall_history ∙ alike.memory ∙ ap (memory_of o.part) (sym power_history) ∙ sym (memory_all o.part at_power (erased_sector ++ sk) power_going)

  module _ (kept : Kept) (fell : is_fallback kept.kind ≡ true) where
    all_of : take (length s) s ≡ s
    all_of = take-length s

    abbrev fallen : BootAttempt
    fallen = record { kept = kept; address = 0; bytes = prefix' ++ s; wrapped = false; ending = Started }

    fallen_alike : (k : ℕ) → k ≤ length t.bytes → ending_at o.part kept (take k o.flash) ≡ ending_at o.part t.kept (take k one)
    fallen_alike k within =
        let most : k ≤ length (prefix' ++ s) = omega (arith, within, length-append prefix' s, prefix_long, length-drop sector_size t.bytes, long) in
        let here : take k o.flash ≡ take k (prefix' ++ s) = ap (take k) flash_is ∙ take-append-le k (prefix' ++ s) x.rest most in
        elim (cases_lt k sector_size) [
          | inl early ↦
              ap (ending_at o.part kept) (here ∙ take-append-le k prefix' s (omega (arith, early, prefix_long)))
              ∙ prefix_open o.part kept k prefix' is.has.fits (sector_never o.flash o.slot o.start is.has is.small) (prefix_goes o.part kept k prefix' is.has.fits (sector_rests o.flash o.slot o.start is.has is.small o.part kept fell).no_stop)
              ∙ sym (x.first k (omega (arith, early, long)))
          | inr late ↦
              let j : ℕ = k - sector_size in
              let sum : length prefix' + j ≡ k = omega (arith, late, prefix_long) in
              let same : length erased_sector + j ≡ k = omega (arith, late, length_erased_sector) in
              let whole : k ≤ length (erased_sector ++ s) = omega (arith, within, ap length bytes_are) in
              let taken : take k one ≡ erased_sector ++ take j s =
              ap (take k) one_is ∙ take-append-le k (erased_sector ++ s) x.rest whole ∙ ap (λ (n : ℕ). take n (erased_sector ++ s)) (sym same) ∙ take-append-add erased_sector s j in
              ap (ending_at o.part kept) (here ∙ ap (λ (n : ℕ). take n (prefix' ++ s)) (sym sum) ∙ take-append-add prefix' s j)
              ∙ ending_alike j kept fell
              ∙ ap (ending_at o.part at_power) (sym taken)
              ∙ ap (λ (q : Kept). ending_at o.part q (take k one)) (sym c.starts.kept)
        ]

    pub fallen_is : IsFlashAttempt o.part o.flash fallen
    fallen_is =
        let count : length (prefix' ++ s) ≡ length t.bytes = omega (arith, length-append prefix' s, prefix_long, length-drop sector_size t.bytes, long) in
        inl (ends_alike o.part one o.flash t fallen x (record {
          bytes = sym (ap (take (length t.bytes)) flash_is ∙ ap (λ (n : ℕ). take n ((prefix' ++ s) ++ x.rest)) (sym count) ∙ take-append_seam (prefix' ++ s) x.rest);
          long = omega (arith, ap length flash_is, length-append (prefix' ++ s) x.rest, count);
          ending = sym c.starts.started;
          in_flash = refl;
          prefixes = fallen_alike;
        }))

    fallen_memory : memory_of_bytes o.part kept (prefix' ++ s) ≡ memory_of_bytes o.part t.kept t.bytes
    fallen_memory =
        ap (λ (y : List ℕ). memory_of_bytes o.part kept (prefix' ++ y)) (sym all_of) ∙ memory_alike (length s) kept fell ∙ ap (λ (y : List ℕ). memory_of_bytes o.part at_power (erased_sector ++ y)) all_of
        ∙ ap (memory_of_bytes o.part at_power) (sym bytes_are) ∙ ap (λ (k : Kept). memory_of_bytes o.part k t.bytes) (sym c.starts.kept)

    fallen_going : first_stop_of_bytes o.part kept (prefix' ++ s) ≡ None
    fallen_going = ap (λ (y : List ℕ). first_stop_of_bytes o.part kept (prefix' ++ y)) (sym all_of) ∙ fall_going (length s) kept fell

    fallen_wrote : wrote_iprog (history_of (prefix' ++ s)) ≡ true
    fallen_wrote = iprog_later prefix' s (all_append (λ b. b < 256) prefix' s is.has.fits s_fits) (sector_wrote o.flash o.slot o.start is.has is.small)

  pub falls_clean : (a : BootCourse) (u : BootAttempt) (cause : Cause) → IsCourse o.part o.flash a → UpdateFallsBack o u cause → FallsBackClean o cause t a
  falls_clean a u cause course fails =
      let kept : Kept = kept_then o is u in
      let l : BootAttempt = fallen kept refl in
      let f : Falls o is a l cause = falls o is a u l cause course fails (fallen_is kept refl) refl refl refl in
      record {
        attempts_are = f.attempts_are;
        started = f.started;
        taken = ap (λ (v : BootAttempt). length v.bytes) f.last_is ∙ omega (arith, length-append prefix' s, prefix_long, length-drop sector_size t.bytes, long);
        memory = ap (λ (v : BootAttempt). memory_of_bytes o.part v.kept v.bytes) f.last_is ∙ fallen_memory kept refl;
        bootsts = ap (λ (v : BootAttempt). end_value o.part v Bootsts) f.last_is
            ∙ bootsts_is o.part kept (prefix' ++ s) true (fallen_going kept refl) (fallen_wrote kept refl)
            ∙ ap (λ (a : Attempt). boot_status_of (record { kind = Fallback; cause = None; ignored = true }) (Some a)) (failed_attempt o is u cause fails);
      }
