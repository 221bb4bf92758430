-- A boot from a flash with an open slot: at power to the update, and from there to its start or to the fallback.
use Rattle.std.proofs.Common.{◌≡◌, ◌&&◌, ◌<◌, inl, ℕ, Bool, true, false, Option, None, Some, List, [], ◌∷◌, ◌++◌, drop, take, map, reverse, refl, ap, sym, subst, ◌∙◌, append_assoc, take-append-drop}
use Rattle.std.proofs.lemmas.List.{reverse-append, map-append}
use Rattle.x7_packets.specs.FlashSlot.{sector_size}
use Rattle.x7_words.specs.Word.{AreBytes}
use Rattle.x7_words.proofs.ListLemmas.{all_append}
use Rattle.x7_packets.specs.History.{history_of}
use Rattle.x7_regs.specs.BootStatus.{boot_status_of}
use Rattle.x7_regs.specs.declared.boot_status.Attempt.{Attempt}
use Rattle.x7_regs.specs.declared.boot_status.Cause.{Cause}
use Rattle.x7_regs.specs.declared.boot_status.Kind.{Kind}
use Rattle.x7_regs.specs.declared.boot_status.Kind.TheVariants.{Power, Iprog, Fallback}
use Rattle.x7_memory.specs.FrameMap.{HaveSameFrames}
use Rattle.x7_memory.specs.Plan.{PlanData, total}
use Rattle.x7_planner.specs.FullStream.{full_stream}
use Rattle.x7_regs.specs.declared.register.Reg.TheVariants.{Bootsts}
use Rattle.x7_engine.specs.Kept.{AreFallbacks, is_fallback, without_kept}
use Rattle.x7_engine.specs.Registers.{wrote_iprog}
use Rattle.x7_engine.specs.Rest.{AtRest}
use Rattle.x7_engine.specs.State.{attempt_of_bytes, history_by, history_taken, kept_after, memory_of_bytes, first_stop_of_bytes, why_stopped}
use Rattle.x7_engine.specs.Stop.{Stopped, fault_of_stop}
use Rattle.x7_engine.specs.Value.{failure_of}
use Rattle.x7_engine.specs.declared.kept.Kept.{Kept}
use Rattle.x7_engine.proofs.FallbackLemmas.{kept_memory, kept_state, kept_stop}
use Rattle.x7_boot.specs.Attempt.{IsFlashAttempt, BootAttempt}
use Rattle.x7_boot.specs.Boot.{LeadsTo, end_state, end_value, next_by, tried}
use Rattle.x7_boot.specs.declared.attempt.Ending.{Ending}
use Rattle.x7_boot.specs.declared.attempt.Ending.TheVariants as ending
use Rattle.x7_boot.specs.declared.boots.BootEnd.{BootEnd}
use Rattle.x7_boot.specs.declared.boots.BootEnd.TheVariants as boot_end
use Rattle.x7_boot.specs.declared.boots.Tried.{Tried}
use Rattle.x7_boot.specs.declared.next.Next.{Next}
use Rattle.x7_boot.specs.declared.next.Next.TheVariants.{Again, Ends}
use Rattle.x7_boot.specs.BootCourse.{BootCourse, IsCourse, course_along}
use Rattle.x7_boot.proofs.BootCourseLemmas.{along, cause_is, fallback_next, stops_next, tried_is}
use Rattle.x7_boot.proofs.OneBootLemmas.{GoesThrough, goes_through}
use Rattle.x7_boot.proofs.OverLemmas.{kept_ends, started_first, with_kept}
use Rattle.x7_recovery.specs.OpenBoot.{EndsAtUpdate, FallsBack, FallsBackAlike, HasFullUpdate, HasFullGolden, StartsAsFallback, StartsUpdate, TriesUpdate, UpdateEnds, kept_at_update, UpdateStops, UpdateFallsBack}
use Rattle.x7_recovery.specs.OpenSlot.{IsOpenFlash, OpenFlash}
use Rattle.x7_recovery.proofs.FullAttemptLemmas.{StartsWith, full_starts, full_stream_fits, iprog_later}
use Rattle.x7_recovery.proofs.OpenLemmas.{power, power_leads, sector_never, sector_rests, sector_wrote}

-- the first attempt, as it is reported
abbrev pub obeyed : Tried
obeyed = record { kind = Power; address = 0; ending = ending.Iprog }

module _ (o : OpenFlash) (is : IsOpenFlash o) where
  abbrev first : BootAttempt
  first = power o.flash o.slot o.start is.has is.small

  to_place : LeadsTo o.part o.flash (first ∷ []) (Again (kept_at_update o.start) o.place)
  to_place = power_leads o.flash o.slot o.start is.has is.small o.part o.place is.leads

  through : (t : BootAttempt) (next : Next) → IsFlashAttempt o.part o.flash t → t.kept ≡ kept_at_update o.start → t.address ≡ o.place → next ≡ next_by o.part 2 t t.ending → LeadsTo o.part o.flash (t ∷ first ∷ []) next
  through t next tries kept address e =
      let same : Again t.kept t.address ≡ Again (kept_at_update o.start) o.place = ap (λ (k : Kept). Again k t.address) kept ∙ ap (Again (kept_at_update o.start)) address in
      (subst (λ (n : Next). LeadsTo o.part o.flash (first ∷ []) n) (sym same) to_place, tries, e)

  tried_as : (t : BootAttempt) (e : Ending) → t.kept ≡ kept_at_update o.start → t.address ≡ o.place → t.ending ≡ e → tried t ≡ record { kind = Iprog; address = o.place; ending = e }
  tried_as t e kept address ends = tried_is t Iprog o.place e (ap (λ (k : Kept). k.kind) kept) address ends

  -- ---- the attempt at the update is the second

  pub tries : (c : BootCourse) → IsCourse o.part o.flash c → TriesUpdate o c.attempts
  tries c course =
      let attempts : List BootAttempt = c.last ∷ course.older in
      let g : GoesThrough o.part o.flash attempts (first ∷ []) (kept_at_update o.start) o.place = goes_through o.part o.flash attempts (first ∷ []) c.end (kept_at_update o.start) o.place course.leads to_place in
      let t : BootAttempt = g.attempt in
      record {
        attempt = t;
        ended = record { is = g.is; kept = g.kept_is; address = g.address_is; ends = refl };
        more = reverse (map tried g.newer);
        attempts_are = course.attempts_are ∙ ap (λ (l : List BootAttempt). reverse (map tried l)) g.split
            ∙ ap reverse (map-append tried g.newer (t ∷ first ∷ []))
            ∙ reverse-append (map tried g.newer) (tried t ∷ obeyed ∷ [])
            ∙ ap (λ (x : Tried). obeyed ∷ x ∷ reverse (map tried g.newer)) (tried_as t t.ending g.kept_is g.address_is refl);
      }

  -- ---- it is the last

  ends_second : (c : BootCourse) (t : BootAttempt) (e : Ending) (by_end : BootEnd) → IsCourse o.part o.flash c → UpdateEnds o t e → next_by o.part 2 t e ≡ Ends by_end → EndsAtUpdate o t by_end c
  ends_second c t e by_end course ended next =
      let leads : LeadsTo o.part o.flash (t ∷ first ∷ []) (Ends by_end) = through t (Ends by_end) ended.is ended.kept ended.address (sym (ap (next_by o.part 2 t) ended.ends ∙ next)) in
      let a : c ≡ course_along t (first ∷ []) by_end = along o.part o.flash c t (first ∷ []) by_end course leads in
      record {
        attempts_are = ap (λ (x : BootCourse). x.attempts) a ∙ ap (λ (x : Tried). obeyed ∷ x ∷ []) (tried_as t t.ending ended.kept ended.address refl);
        end_is = ap (λ (x : BootCourse). x.end) a;
        last_is = ap (λ (x : BootCourse). x.last) a;
      }

  pub starts : (c : BootCourse) (t : BootAttempt) → IsCourse o.part o.flash c → UpdateEnds o t ending.Started → EndsAtUpdate o t boot_end.Started c
  starts c t course ended = ends_second c t ending.Started boot_end.Started course ended refl

  pub stops : (c : BootCourse) (t : BootAttempt) (cause : Cause) → IsCourse o.part o.flash c → UpdateStops o t cause → EndsAtUpdate o t boot_end.Stopped c
  stops c t cause course fails = ends_second c t (ending.Failed cause) boot_end.Stopped course fails.ended (stops_next o.part 2 t cause fails.forbids)

  -- an update that is a full stream
  pub full : (c : BootCourse) (update : PlanData) → IsCourse o.part o.flash c → HasFullUpdate o update → StartsUpdate o update c
  full c update course has =
      let rest : AtRest o.part (kept_at_update o.start) [] = record { no_stop = refl; searching = refl; startup = inl refl; sbits = refl; no_shutdown = refl; no_watchdog = refl } in
      let s : StartsWith o.part (kept_at_update o.start) o.place o.flash update false = full_starts o.part (kept_at_update o.start) [] update o.place o.flash has.rest false tt rest tt has.is_part has.plan has.stands refl in
      let t : BootAttempt = s.attempt in
      let a : EndsAtUpdate o t boot_end.Started c = starts c t course (record { is = s.is; kept = s.kept_is; address = s.address_is; ends = s.ending_is }) in
      record {
        attempts_are = a.attempts_are ∙ ap (λ (e : Ending). obeyed ∷ record { kind = Iprog; address = o.place; ending = e } ∷ []) s.ending_is;
        started = a.end_is;
        memory = subst (λ (u : BootAttempt). HaveSameFrames (memory_of_bytes o.part u.kept u.bytes) (total o.part update)) (sym a.last_is) s.memory;
        bootsts = ap (λ (u : BootAttempt). end_value o.part u Bootsts) a.last_is ∙ s.bootsts;
      }

  -- ---- a fallback

  -- the attempt that failed, as the next one keeps it
  pub failed_attempt : (t : BootAttempt) (cause : Cause) → UpdateFallsBack o t cause → attempt_of_bytes o.part t.kept t.wrapped t.bytes ≡ record { kind = Iprog; cause = Some cause; ignored = false }
  failed_attempt t cause fails =
      let ended : UpdateEnds o t (ending.Failed cause) = fails.ended in
      let kind : t.kept.kind ≡ Iprog = ap (λ (k : Kept). k.kind) ended.kept in
      ap (λ (k : Kind). record { kind = k; cause = failure_of (fault_of_stop (why_stopped (first_stop_of_bytes o.part t.kept t.bytes))) t.wrapped; ignored = is_fallback k && wrote_iprog (history_taken o.part t.kept t.bytes) }) kind
      ∙ ap (λ (c : Option Cause). record { kind = Iprog; cause = c; ignored = false }) (cause_is o.part o.flash t cause ended.is ended.ends)

  -- what the fallback keeps
  abbrev pub kept_then : BootAttempt → Kept
  kept_then t = kept_after o.part t.kept t.wrapped t.bytes Fallback

  -- the attempts of the boot, where that fallback is an attempt that starts
  pub record Falls (c : BootCourse) (l : BootAttempt) (cause : Cause) : Type 0 where
    pub attempts_are : c.attempts ≡ obeyed ∷ record { kind = Iprog; address = o.place; ending = ending.Failed cause } ∷ record { kind = Fallback; address = 0; ending = ending.Started } ∷ []
    pub started : c.end ≡ boot_end.Started
    pub last_is : c.last ≡ l

  pub falls : (c : BootCourse) (t l : BootAttempt) (cause : Cause) → IsCourse o.part o.flash c → UpdateFallsBack o t cause → IsFlashAttempt o.part o.flash l → l.kept ≡ kept_then t → l.address ≡ 0 → l.ending ≡ ending.Started → Falls c l cause
  falls c t l cause course fails l_tries l_kept l_address l_ends =
      let ended : UpdateEnds o t (ending.Failed cause) = fails.ended in
      let next : Again (kept_then t) 0 ≡ next_by o.part 2 t t.ending = sym (ap (next_by o.part 2 t) ended.ends ∙ fallback_next o.part 2 t cause (ap (λ (k : Kept). is_fallback k.kind) ended.kept) fails.forbids) in
      let same : Again (kept_then t) 0 ≡ Again l.kept l.address = sym (ap (λ (k : Kept). Again k l.address) l_kept ∙ ap (Again (kept_then t)) l_address) in
      let before : LeadsTo o.part o.flash (t ∷ first ∷ []) (Again l.kept l.address) = subst (λ (n : Next). LeadsTo o.part o.flash (t ∷ first ∷ []) n) same (through t (Again (kept_then t) 0) ended.is ended.kept ended.address next) in
      let leads : LeadsTo o.part o.flash (l ∷ t ∷ first ∷ []) (Ends boot_end.Started) = (before, l_tries, ap (next_by o.part 3 l) (sym l_ends)) in
      let a : c ≡ course_along l (t ∷ first ∷ []) boot_end.Started = along o.part o.flash c l (t ∷ first ∷ []) boot_end.Started course leads in
      record {
        attempts_are = ap (λ (x : BootCourse). x.attempts) a
            ∙ ap (λ (x : Tried). obeyed ∷ x ∷ tried l ∷ []) (tried_as t (ending.Failed cause) ended.kept ended.address ended.ends)
            ∙ ap (λ (x : Tried). obeyed ∷ record { kind = Iprog; address = o.place; ending = ending.Failed cause } ∷ x ∷ []) (tried_is l Fallback 0 ending.Started (ap (λ (k : Kept). k.kind) l_kept) l_address l_ends);
        started = ap (λ (x : BootCourse). x.end) a;
        last_is = ap (λ (x : BootCourse). x.last) a;
      }

  -- to the full stream of a plan
  planned_starts : (kept : Kept) (golden : PlanData) → HasFullGolden o golden → is_fallback kept.kind ≡ true → StartsWith o.part kept 0 o.flash golden true
  planned_starts kept golden has e =
      let stream : List ℕ = full_stream o.part golden in
      let prefix : List ℕ = take sector_size o.flash in
      let fits : AreBytes (prefix ++ stream) = all_append (λ b. b < 256) prefix stream is.has.fits (full_stream_fits o.part golden has.is_part has.plan) in
      let wrote : wrote_iprog (history_of prefix) ≡ true = sector_wrote o.flash o.slot o.start is.has is.small in
      let split : o.flash ≡ (prefix ++ stream) ++ has.rest = sym (take-append-drop sector_size o.flash) ∙ ap (λ (x : List ℕ). prefix ++ x) has.stands ∙ sym (append_assoc prefix stream has.rest) in
      full_starts o.part kept prefix golden 0 o.flash has.rest true is.has.fits (sector_rests o.flash o.slot o.start is.has is.small o.part kept e) (sector_never o.flash o.slot o.start is.has is.small) has.is_part has.plan split
      (ap (λ (x : Bool). x && wrote_iprog (history_of (prefix ++ stream))) e ∙ iprog_later prefix stream fits wrote)

  pub fallback_starts : (kept : Kept) (golden : PlanData) → HasFullGolden o golden → kept.kind ≡ Fallback → (f : BootAttempt) × StartsAsFallback o f
  fallback_starts kept golden has e =
      let s : StartsWith o.part kept 0 o.flash golden true = planned_starts kept golden has (ap is_fallback e) in
      (s.attempt, record { is = s.is; kind = ap (λ (k : Kept). k.kind) s.kept_is ∙ e; address = s.address_is; started = s.ending_is })

  pub falls_back : (c : BootCourse) (t : BootAttempt) (cause : Cause) (golden : PlanData) → IsCourse o.part o.flash c → HasFullGolden o golden → UpdateFallsBack o t cause → FallsBack o cause golden c
  falls_back c t cause golden course has fails =
      let f : StartsWith o.part (kept_then t) 0 o.flash golden true = planned_starts (kept_then t) golden has refl in
      let a : Falls c f.attempt cause = falls c t f.attempt cause course fails f.is f.kept_is f.address_is f.ending_is in
      record {
        attempts_are = a.attempts_are;
        started = a.started;
        memory = subst (λ (u : BootAttempt). HaveSameFrames (memory_of_bytes o.part u.kept u.bytes) (total o.part golden)) (sym a.last_is) f.memory;
        bootsts = ap (λ (u : BootAttempt). end_value o.part u Bootsts) a.last_is ∙ f.bootsts
            ∙ ap (λ (a : Attempt). boot_status_of (record { kind = Fallback; cause = None; ignored = true }) (Some a)) (failed_attempt t cause fails);
      }

  -- to a golden stream of any kind
  kept_attempt : (one other : Kept) (wrapped : Bool) (bytes : List ℕ) → one.kind ≡ Fallback → other.kind ≡ Fallback → attempt_of_bytes o.part one wrapped bytes ≡ attempt_of_bytes o.part other wrapped bytes
  kept_attempt one other wrapped bytes e f =
      ap (λ (s : Option Stopped). record { kind = one.kind; cause = failure_of (fault_of_stop (why_stopped s)) wrapped; ignored = is_fallback one.kind && wrote_iprog (history_by s (history_of bytes)) }) (kept_stop o.part one other bytes (ap is_fallback e, ap is_fallback f))
      ∙ ap (λ (k : Kind). record { kind = k; cause = failure_of (fault_of_stop (why_stopped (first_stop_of_bytes o.part other bytes))) wrapped; ignored = is_fallback k && wrote_iprog (history_taken o.part other bytes) }) (e ∙ sym f)

  pub falls_alike : (c : BootCourse) (t : BootAttempt) (cause : Cause) (f : BootAttempt) → IsCourse o.part o.flash c → StartsAsFallback o f → UpdateFallsBack o t cause → FallsBackAlike o cause f c
  falls_alike c t cause f course s fails =
      let kept : Kept = kept_then t in
      let l : BootAttempt = with_kept f kept in
      let both : AreFallbacks kept f.kept = (refl, ap is_fallback s.kind) in
      let a : Falls c l cause = falls c t l cause course fails (inl (kept_ends o.part (drop f.address o.flash) f kept both (started_first o.part o.flash f s.is s.started))) refl s.address s.started in
      record {
        attempts_are = a.attempts_are;
        started = a.started;
        taken = ap (λ (u : BootAttempt). u.bytes) a.last_is;
        memory = ap (λ (u : BootAttempt). memory_of_bytes o.part u.kept u.bytes) a.last_is ∙ kept_memory o.part kept f.kept f.bytes both;
        registers = ap (λ (u : BootAttempt). without_kept (end_state o.part u)) a.last_is ∙ kept_state o.part kept f.kept f.bytes both f.wrapped;
        bootsts = ap (λ (u : BootAttempt). end_value o.part u Bootsts) a.last_is
            ∙ ap (λ (a : Attempt). boot_status_of a kept.before) (kept_attempt kept f.kept f.wrapped f.bytes refl s.kind)
            ∙ ap (λ (a : Attempt). boot_status_of (attempt_of_bytes o.part f.kept f.wrapped f.bytes) (Some a)) (failed_attempt t cause fails);
      }
