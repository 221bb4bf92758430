-- A golden stream that starts after one first sector that leads nowhere starts after each.
use Rattle.std.proofs.Common.{◌≡◌, ℕ, ◌+◌, ◌-◌, ◌<◌, ◌≤◌, inl, inr, Bool, false, List, [], ◌∷◌, ◌++◌, length, get_or, take, drop, refl, ap, sym, subst, ◌∙◌, arith, length-append, length-drop, take-append-drop, append_assoc, append-nil, length-take-le}
use Rattle.x7_packets.specs.FlashSlot.{sector_size}
use Rattle.x7_words.specs.Flash.{erased_sector}
use Rattle.x7_words.proofs.FlashLemmas.{length_erased_sector, get_or_erased_sector, bytes_erased_sector}
use Rattle.std.specs.Prelude.{slice_range}
use Rattle.std.proofs.lemmas.List.{get_or-take, get_or-drop, get_or_append_left, get_or-append_right, ext_get_or, take-append-le}
use Rattle.std.proofs.Math.Seq.{take-append_seam, take-length, drop-append_seam}
use Rattle.std.proofs.lemmas.Bool.{cases_lt}
use Rattle.x7_words.specs.Word.{AreBytes}
use Rattle.x7_words.proofs.ListLemmas.{all_append, all_back, all_prefix, all_take}
use Rattle.x7_packets.specs.Appended.{moved}
use Rattle.x7_packets.specs.Gap.{AreAlike, AreGaps, NoneBegins}
use Rattle.x7_packets.specs.History.{history_of}
use Rattle.x7_packets.specs.SyncWord.{HasNoSync, sync_bytes}
use Rattle.x7_packets.proofs.GapLemmas.{alike_prefixes, prefix_asks_nothing, history_passed}
use Rattle.x7_packets.proofs.SeamLemmas.{none_before_prefix, none_in_gap}
use Rattle.x7_part.specs.Part.{PartData}
use Rattle.x7_regs.specs.declared.boot_status.Kind.TheVariants.{Power}
use Rattle.x7_planner.specs.FullStream.{full_stream}
use Rattle.x7_engine.specs.Rest.{AtRest, LastGapGoesOn}
use Rattle.x7_engine.specs.State.{memory_of_bytes, state_of}
use Rattle.x7_engine.proofs.AlikeLemmas.{alike_memory, alike_state}
use Rattle.x7_engine.proofs.RestLemmas.{history_on, rest_on}
use Rattle.x7_engine.specs.declared.kept.Kept.{Kept}
use Rattle.x7_boot.specs.Attempt.{EndsFirst, IsFlashAttempt, BootAttempt}
use Rattle.x7_boot.specs.Boot.{BootedState, IsBoot, LeadsToEnd, at_power, end_state, next_by}
use Rattle.x7_boot.specs.BootCourse.{BootCourse, course_along, course_of}
use Rattle.x7_boot.specs.declared.attempt.Ending.TheVariants as ending
use Rattle.x7_boot.specs.declared.boots.BootEnd.TheVariants as boot_end
use Rattle.x7_boot.specs.declared.boots.Tried.{Tried}
use Rattle.x7_boot.proofs.BootCourseLemmas.{along, boot_course, tried_is}
use Rattle.x7_boot.proofs.OverLemmas.{alike_ends, alike_attempt, started_first, taken_is, attempt_over}
use Rattle.x7_boot.proofs.StartLemmas.{NoDesyncAfterStart}
use Rattle.x7_update.specs.Layout.{IsUpdatable, four_at, open_switch, update_place}
use Rattle.x7_update.specs.After.{IsBetweenSlots, MayBeLeft, after, between, untouched}
use Rattle.x7_update.proofs.LawLemmas.{no_sync}
use Rattle.x7_recovery.specs.Golden.{BootsAlike, GoldenStarts, HaveSameGolden, IsPreparedByAttempt, LeadsNowhere, StartsAlike, StartsAsPlanned, StartsAtPower, UpdatingByAttempt, as_after, as_before, golden, with_first_sector_erased}
use Rattle.x7_recovery.specs.Recovery.{IsPrepared, Updating}
use Rattle.x7_recovery.proofs.FullAttemptLemmas.{StartsWith, full_starts}

-- ---- no sync word begins in the first sector

pub word_at : (flash prefix back : List ℕ) → flash ≡ prefix ++ (sync_bytes ++ back) → four_at flash (length prefix) ≡ open_switch
word_at flash prefix back e =
    let byte : (k : ℕ) → get_or flash (length prefix + k) 0 ≡ get_or (sync_bytes ++ back) k 0 =
    λ k. (let at : length prefix + k - length prefix ≡ k = omega arith in
    ap (λ (l : List ℕ). get_or l (length prefix + k) 0) e
    ∙ get_or-append_right prefix (sync_bytes ++ back) (length prefix) (length prefix + k) 0 refl (omega arith)
    ∙ ap (λ (n : ℕ). get_or (sync_bytes ++ back) n 0) at) in
    let first : get_or flash (length prefix) 0 ≡ 0xAA = let at : length prefix ≡ length prefix + 0 = omega arith in ap (λ (n : ℕ). get_or flash n 0) at ∙ byte 0 in
    rw (first, byte 1, byte 2, byte 3) refl

pub leads_nowhere_none : (flash gap more : List ℕ) → LeadsNowhere flash → flash ≡ gap ++ more → length gap ≤ sector_size → NoneBegins gap more
leads_nowhere_none flash gap more nowhere e l prefix back split = elim (cases_lt (length prefix) (length gap)) [
  | inl less ↦ absurd (nowhere (length prefix) (omega (arith, less, l)) (word_at flash prefix back (e ∙ split)))
  | inr past ↦ past
]

none_before : (flash gap s rest : List ℕ) → LeadsNowhere flash → flash ≡ (gap ++ s) ++ rest → length gap ≤ sector_size → NoneBegins gap s
none_before flash gap s rest nowhere e l = none_before_prefix gap s rest (leads_nowhere_none flash gap (s ++ rest) nowhere (e ∙ append_assoc gap s rest) l)

-- ---- an attempt over the other flash

pub ended : (part : PartData) (flash : List ℕ) (t : BootAttempt) → StartsAtPower part flash t → EndsFirst part flash t
ended part flash t s = subst (λ (n : ℕ). EndsFirst part (drop n flash) t) s.address (started_first part flash t s.is s.started)

-- an attempt at power that starts over a gap and bytes starts alike over another gap and the same bytes, where it took
-- no more than these
pub starts_after : (part : PartData) (g h s f r : List ℕ) (t : BootAttempt) → AreGaps g h s → StartsAtPower part ((g ++ s) ++ f) t → length t.bytes ≤ length (g ++ s)
    → StartsAtPower part ((h ++ s) ++ r) (alike_attempt t ((h ++ s) ++ r)) × AreAlike t.bytes (alike_attempt t ((h ++ s) ++ r)).bytes
starts_after part g h s f r t gaps starts within =
    let one : List ℕ = (g ++ s) ++ f in
    let other : List ℕ = (h ++ s) ++ r in
    let x : EndsFirst part one t = ended part one t starts in
    let as_long : length (h ++ s) ≡ length (g ++ s) = length-append h s ∙ ap (λ (n : ℕ). n + length s) (sym gaps.count) ∙ sym (length-append g s) in
    let alike : (k : ℕ) → k ≤ length t.bytes → AreAlike (take k one) (take k other) =
    λ k l. subst (λ (b : List ℕ). AreAlike b (take k other)) (sym (take-append-le k (g ++ s) f (omega (arith, l, within))))
    (subst (AreAlike (take k (g ++ s))) (sym (take-append-le k (h ++ s) r (omega (arith, l, within, as_long)))) (alike_prefixes g h s k gaps)) in
    let enough : length t.bytes ≤ length other = omega (arith, within, as_long, length-append (h ++ s) r) in (
      record {
        is = subst (λ (n : ℕ). IsFlashAttempt part (drop n other) (alike_attempt t other)) (refl {a = 0}) (inl (subst (λ (n : ℕ). EndsFirst part (drop n other) (alike_attempt t other)) (sym starts.address) (alike_ends part one other t x enough alike)));
        kept = starts.kept;
        address = starts.address;
        started = starts.started;
      },
      subst (λ (b : List ℕ). AreAlike b (take (length t.bytes) other)) (taken_is part one t x) (alike (length t.bytes) (omega arith)),
    )

-- ---- one attempt that starts is the whole boot

alone : (part : PartData) (flash : List ℕ) (u : BootAttempt) (b : BootedState) → StartsAtPower part flash u → (boot : IsBoot part flash b) → course_of b boot.last ≡ course_along u [] boot_end.Started
alone part flash u b s boot =
    let kept_is : u.kept ≡ at_power = s.kept in
    let address_is : u.address ≡ 0 = s.address in
    let led : LeadsToEnd part flash (u ∷ []) boot_end.Started = (cc, s.is, sym (ap (next_by part 1 u) s.started)) in
    along part flash (course_of b boot.last) u [] boot_end.Started (boot_course part flash b boot) led

alike_alone : (part : PartData) (flash : List ℕ) (t u : BootAttempt) (b : BootedState) → StartsAtPower part flash u → u.kept ≡ t.kept → u.wrapped ≡ t.wrapped → AreAlike t.bytes u.bytes → (boot : IsBoot part flash b) → StartsAlike part t (course_of b boot.last)
alike_alone part flash t u b s kept wrapped a boot =
    let c : course_of b boot.last ≡ course_along u [] boot_end.Started = alone part flash u b s boot in
    let last : boot.last ≡ u = ap (λ (x : BootCourse). x.last) c in
    record {
      attempts_are = ap (λ (x : BootCourse). x.attempts) c ∙ ap (λ (x : Tried). x ∷ []) (tried_is u Power 0 ending.Started (ap (λ (k : Kept). k.kind) s.kept) s.address s.started);
      started = ap (λ (x : BootCourse). x.end) c;
      memory = ap (λ (v : BootAttempt). memory_of_bytes part v.kept v.bytes) last ∙ ap (λ (k : Kept). memory_of_bytes part k u.bytes) kept ∙ sym (alike_memory part t.kept t.bytes u.bytes a);
      registers = ap (end_state part) last ∙ ap (λ (k : Kept). state_of part k u.wrapped u.bytes) kept ∙ ap (λ (w : Bool). state_of part t.kept w u.bytes) wrapped ∙ sym (alike_state part t.kept t.bytes u.bytes a t.wrapped);
    }

pub in_flash : (part : PartData) (flash : List ℕ) (t : BootAttempt) → StartsAtPower part flash t → t.wrapped ≡ false
in_flash part flash t s = (ended part flash t s).in_flash

-- ---- two flashes whose first sector leads nowhere

module _ (part : PartData) (one other : List ℕ) (t : BootAttempt) (nowhere : LeadsNowhere one) (other_nowhere : LeadsNowhere other) (fits : AreBytes (take sector_size one)) (other_fits : AreBytes other)
    (least : sector_size ≤ length one) (other_least : sector_size ≤ length other) (starts : StartsAtPower part one t) (same : slice_range other sector_size (length t.bytes) ≡ slice_range one sector_size (length t.bytes)) where
  abbrev g : List ℕ
  g = take sector_size one

  abbrev h : List ℕ
  h = take sector_size other

  abbrev s : List ℕ
  s = take (length t.bytes - sector_size) (drop sector_size one)

  abbrev f : List ℕ
  f = drop (length t.bytes - sector_size) (drop sector_size one)

  abbrev r : List ℕ
  r = drop (length t.bytes - sector_size) (drop sector_size other)

  one_is : one ≡ (g ++ s) ++ f
  one_is = sym (take-append-drop sector_size one) ∙ ap (λ (x : List ℕ). g ++ x) (sym (take-append-drop (length t.bytes - sector_size) (drop sector_size one))) ∙ sym (append_assoc g s f)

  other_is : other ≡ (h ++ s) ++ r
  other_is = sym (take-append-drop sector_size other) ∙ ap (λ (x : List ℕ). h ++ x) (sym (take-append-drop (length t.bytes - sector_size) (drop sector_size other))) ∙ ap (λ (x : List ℕ). h ++ (x ++ r)) same ∙ sym (append_assoc h s r)

  g_long : length g ≡ sector_size
  g_long = length-take-le sector_size one least

  h_long : length h ≡ sector_size
  h_long = length-take-le sector_size other other_least

  within : length t.bytes ≤ length (g ++ s)
  within =
      let x : EndsFirst part one t = ended part one t starts in
      let most : length t.bytes ≤ length one = omega (arith, ap length x.taken, length-append t.bytes x.rest) in
      let left : length t.bytes - sector_size ≤ length (drop sector_size one) = omega (arith, most, length-drop sector_size one) in
      omega (arith, length-append g s, length-take-le (length t.bytes - sector_size) (drop sector_size one) left, g_long)

  other_sum : AreBytes (h ++ s)
  other_sum = all_prefix (λ x. x < 256) (h ++ s) r (subst AreBytes other_is other_fits)

  abbrev there : BootAttempt
  there = alike_attempt t ((h ++ s) ++ r)

  both : StartsAtPower part ((h ++ s) ++ r) there × AreAlike t.bytes there.bytes
  both =
      starts_after part g h s f r t (record {
        count = g_long ∙ sym h_long;
        fits = (all_append (λ x. x < 256) g s fits (all_back (λ x. x < 256) h s other_sum), other_sum);
        none = (none_before one g s f nowhere one_is (omega (arith, g_long)), none_before other h s r other_nowhere other_is (omega (arith, h_long)));
      }) (subst (λ (x : List ℕ). StartsAtPower part x t) one_is starts) within

  pub leading_nowhere_alike : (b : BootedState) → (boot : IsBoot part other b) → StartsAlike part t (course_of b boot.last)
  leading_nowhere_alike b boot = alike_alone part other t there b (subst (λ (x : List ℕ). StartsAtPower part x there) (sym other_is) both.0) refl (sym (in_flash part one t starts)) both.1 boot

pub same_golden_alike : (part : PartData) (one other : List ℕ) (t : BootAttempt) (b : BootedState) → HaveSameGolden part one other t → (boot : IsBoot part other b) → StartsAlike part t (course_of b boot.last)
same_golden_alike part one other t b s boot = leading_nowhere_alike part one other t s.one_is.leads_nowhere s.other_is.leads_nowhere (all_take (λ x. x < 256) sector_size one s.one_is.fits) s.other_is.fits s.one_is.least s.other_is.least s.starts s.same b boot

-- ---- the first sector erased

pub erased_leads_nowhere : (more : List ℕ) → LeadsNowhere (erased_sector ++ more)
erased_leads_nowhere more place h e =
    let byte : get_or (erased_sector ++ more) place 0 ≡ 255 = get_or_append_left erased_sector more 0 place (omega (arith, length_erased_sector, h)) ∙ get_or_erased_sector place h in
    let first : get_or (erased_sector ++ more) place 0 ≡ 0xAA = ap (λ (w : List ℕ). get_or w 0 0) e in
    absurd (omega (arith, byte, first))

pub erased_take : (more : List ℕ) → take sector_size (erased_sector ++ more) ≡ erased_sector
erased_take more = ap (λ (n : ℕ). take n (erased_sector ++ more)) (sym length_erased_sector) ∙ take-append_seam erased_sector more

pub erased_drop : (more : List ℕ) → drop sector_size (erased_sector ++ more) ≡ more
erased_drop more = ap (λ (n : ℕ). drop n (erased_sector ++ more)) (sym length_erased_sector) ∙ drop-append_seam erased_sector more

erased_none : (more : List ℕ) → NoneBegins erased_sector more
erased_none more = leads_nowhere_none (erased_sector ++ more) erased_sector more (erased_leads_nowhere more) refl (omega (arith, length_erased_sector))

pub erased_history : (more : List ℕ) → AreBytes more → history_of (erased_sector ++ more) ≡ moved sector_size (history_of more)
erased_history more fits = history_passed erased_sector more (all_append (λ x. x < 256) erased_sector more bytes_erased_sector fits) (erased_none more) ∙ ap (λ (n : ℕ). moved n (history_of more)) length_erased_sector

pub erased_prefix : (k : ℕ) → k ≤ sector_size → history_of (take k erased_sector) ≡ []
erased_prefix k l = (prefix_asks_nothing erased_sector [] k (omega (arith, l, length_erased_sector)) bytes_erased_sector (erased_none [])).1

-- ---- what a power loss leaves

pub golden_stands : (flash found : List ℕ) (n : ℕ) → IsUpdatable flash → IsBetweenSlots flash found → n ≤ update_place flash → take (n - sector_size) (drop sector_size found) ≡ take (n - sector_size) (drop sector_size flash)
golden_stands flash found n l b most = ext_get_or 0 (take (n - sector_size) (drop sector_size found)) (take (n - sector_size) (drop sector_size flash)) (found_long ∙ sym flash_long) each
  where
    place : update_place flash ≤ length flash
    place = l.slots.place.most

    found_long : length (take (n - sector_size) (drop sector_size found)) ≡ n - sector_size
    found_long = length-take-le (n - sector_size) (drop sector_size found) (omega (arith, length-drop sector_size found, b.size, most, place))

    flash_long : length (take (n - sector_size) (drop sector_size flash)) ≡ n - sector_size
    flash_long = length-take-le (n - sector_size) (drop sector_size flash) (omega (arith, length-drop sector_size flash, most, place))

    each : (i : ℕ) → i < length (take (n - sector_size) (drop sector_size found)) → get_or (take (n - sector_size) (drop sector_size found)) i 0 ≡ get_or (take (n - sector_size) (drop sector_size flash)) i 0
    each i h =
        let short : i < n - sector_size = omega (arith, h, found_long) in
        get_or-take (n - sector_size) (drop sector_size found) i 0 short
        ∙ get_or-drop sector_size found i 0
        ∙ b.golden (sector_size + i) (omega arith) (omega (arith, short, most))
        ∙ sym (get_or-drop sector_size flash i 0)
        ∙ sym (get_or-take (n - sector_size) (drop sector_size flash) i 0 short)

pub between_alike : (part : PartData) (flash found : List ℕ) (t : BootAttempt) (b : BootedState) → IsUpdatable flash → IsBetweenSlots flash found → GoldenStarts part flash t → AreBytes found → (boot : IsBoot part found b) → StartsAlike part t (course_of b boot.last)
between_alike part flash found t b l left starts fits boot =
    leading_nowhere_alike part (with_first_sector_erased flash) found t (erased_leads_nowhere (drop sector_size flash)) (no_sync flash found l left) (subst AreBytes (sym (erased_take (drop sector_size flash))) bytes_erased_sector) fits
    (omega (arith, length-append erased_sector (drop sector_size flash), length_erased_sector)) (omega (arith, left.size, l.size.least)) starts.starts
    (golden_stands flash found (length t.bytes) l left starts.ends ∙ ap (take (length t.bytes - sector_size)) (sym (erased_drop (drop sector_size flash)))) b boot

pub found_alike : (u : UpdatingByAttempt) (found : List ℕ) (b : BootedState) → IsPreparedByAttempt u → MayBeLeft u.stream u.flash found → IsBoot u.part found b → BootsAlike u found b
found_alike u found b p (untouched same) boot = as_before (subst (λ (x : List ℕ). IsBoot u.part x b) same boot)
found_alike u found b p (between l fits left) boot = golden boot (between_alike u.part u.flash found u.golden b l left p.golden fits boot)
found_alike u found b p (after l done) boot = as_after done boot

-- ---- a full stream is such a golden stream

goes : LastGapGoesOn [] erased_sector
goes = record { gap = []; searching = refl; none = subst HasNoSync (take-length erased_sector) (none_in_gap erased_sector [] (length erased_sector) (omega arith) (erased_none [])) }

pub rest_erased : (part : PartData) → AtRest part at_power erased_sector
rest_erased part =
    let new : AtRest part at_power [] = record { no_stop = refl; searching = refl; startup = inl refl; sbits = refl; no_shutdown = refl; no_watchdog = refl } in
    rest_on part at_power [] erased_sector bytes_erased_sector goes new

pub never_erased : NoDesyncAfterStart (history_of erased_sector)
never_erased = subst NoDesyncAfterStart (sym (history_on [] erased_sector bytes_erased_sector goes)) tt

pub full_golden : (u : Updating) → IsPrepared u → (t : BootAttempt) × StartsAsPlanned u t
full_golden u p =
    let stream : List ℕ = full_stream u.part u.golden in
    let short : List ℕ = erased_sector ++ stream in
    let s : StartsWith u.part at_power 0 short u.golden false =
    full_starts u.part at_power erased_sector u.golden 0 short [] false bytes_erased_sector (rest_erased u.part) never_erased p.is_part p.plan (sym (append-nil short)) refl in
    let t : BootAttempt = s.attempt in
    let x : EndsFirst u.part short t = subst (λ (n : ℕ). EndsFirst u.part (drop n short) t) s.address_is (started_first u.part short t s.is s.ending_is) in
    let most : length t.bytes ≤ length short = omega (arith, ap length x.taken, length-append t.bytes x.rest) in
    let whole : with_first_sector_erased u.flash ≡ short ++ p.golden.rest = ap (λ (x : List ℕ). erased_sector ++ x) p.golden.stands ∙ sym (append_assoc erased_sector stream p.golden.rest) in
    let within : length t.bytes ≤ sector_size + length stream = omega (arith, most, length-append erased_sector stream, length_erased_sector) in
    let same : take (t.address + length t.bytes) (with_first_sector_erased u.flash) ≡ take (t.address + length t.bytes) short =
    ap (take (t.address + length t.bytes)) whole ∙ take-append-le (t.address + length t.bytes) short p.golden.rest (omega (arith, most, s.address_is)) in (
      t,
      record {
        golden = record {
          starts = record { is = attempt_over u.part short (with_first_sector_erased u.flash) t s.is x.in_flash same; kept = s.kept_is; address = s.address_is; started = s.ending_is };
          ends = omega (arith, within, p.golden.ends);
        };
        within = within;
        memory = s.memory;
        bootsts = s.bootsts;
      },
    )
