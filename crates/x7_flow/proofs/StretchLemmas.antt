-- The memory of a history by its stretches.
use Rattle.std.proofs.Common.{◌≡◌, ℕ, ◌==◌, ◌&&◌, ◌||◌, not, Bool, true, false, if◌then◌else◌, List, [], ◌∷◌, ◌++◌, refl, sym, ap, ◌∙◌, arith, append_assoc, inl, inr}
use Rattle.std.proofs.lemmas.Bool.Decides.{nat_tests}
use Rattle.x7_packets.specs.History.{Access, Write, Read, Bad, Entry, History}
use Rattle.x7_part.specs.Part.{PartData}
use Rattle.x7_memory.specs.FrameMap.{FrameMap, HaveSameFrames}
use Rattle.x7_memory.specs.Plan.{PlanRow, planned}
use Rattle.x7_memory.proofs.MapLemmas.{override_same}
use Rattle.x7_regs.specs.Command.{command_by}
use Rattle.x7_pipeline.specs.Runs.{written_frames, put_over}
use Rattle.x7_pipeline.specs.FarAsRead.{is_frame_address}
use Rattle.x7_pipeline.specs.Copies.{copied_pairs, is_mfw, is_wcfg}
use Rattle.x7_pipeline.proofs.LawLemmas.{landed_empty, put_twice}
use Rattle.x7_flow.specs.FrameAccess.{asks_frame_copy}
use Rattle.x7_regs.specs.declared.command.Command.{Command}
use Rattle.x7_regs.specs.declared.command.Command.TheVariants as command
use Rattle.x7_flow.specs.Asking.{Asked, LoadsFar, Commands, AddsWord, CopiesSource, Reads, NothingAsked}
use Rattle.x7_flow.specs.Settings.{Settings, settings_of, takes_frames, takes_copies, gives_frames}
use Rattle.x7_flow.specs.HistoryFlow.{Flow, asked_under, asked_after, begins_stretch, asks_copy, flow_by, flow_of}
use Rattle.x7_flow.specs.FrameMemory.{copy_pairs, written_frames_more, memory_of, pairs_put}
use Rattle.x7_flow.specs.Stretches.{access_begins_stretch, copies_of, ends_of, memory_by_stretches, stretch_pairs}
use Rattle.x7_flow.proofs.FlowLemmas.{flow_sound, landed_grows, put_none}
use Rattle.x7_words.proofs.CaseLemmas.{true_or_false}

-- ---- boundaries and copies, by what is asked

pub asked_begins_stretch : (s : Settings) (access : Access) → access_begins_stretch access ≡ begins_stretch (asked_under s access)
asked_begins_stretch s (Write r w) = by (r == 1) (r == 4) (r == 2 && takes_frames s) (r == 10 && takes_copies s)
  where
    by : (far cmd fdri mfwr : Bool) → (cmd || far) ≡ begins_stretch (if far then LoadsFar w else if cmd then Commands (command_by w) else if fdri then AddsWord w else if mfwr then CopiesSource else NothingAsked)
    by true true fdri mfwr = refl
    by true false fdri mfwr = refl
    by false true fdri mfwr = refl
    by false false true mfwr = refl
    by false false false true = refl
    by false false false false = refl
asked_begins_stretch s (Read r count) = by (r == 3 && (not (count == 0) && gives_frames s))
  where
    by : (b : Bool) → false ≡ begins_stretch (if b then Reads count else NothingAsked)
    by true = refl
    by false = refl
asked_begins_stretch s (Bad w) = refl

copy_alone : (r : ℕ) (b c : Bool) → (r == 10 && b) ≡ true → ((r == 1) ≡ false) × ((r == 4) ≡ false) × ((r == 2 && c) ≡ false)
copy_alone r b c t = (grind (arith, nat_tests), grind (arith, nat_tests), grind (arith, nat_tests))

pub asked_copy : (idcode : ℕ) (h : History) (access : Access) → asks_frame_copy idcode h access ≡ asks_copy (asked_after idcode h access)
asked_copy idcode h (Write r w) = by (r == 1) (r == 4) (r == 2 && takes_frames (settings_of idcode h)) (r == 10 && takes_copies (settings_of idcode h)) (copy_alone r (takes_copies (settings_of idcode h)) (takes_frames (settings_of idcode h)))
  where
    by : (far cmd fdri mfwr : Bool) → (mfwr ≡ true → (far ≡ false) × (cmd ≡ false) × (fdri ≡ false)) →
        mfwr ≡ asks_copy (if far then LoadsFar w else if cmd then Commands (command_by w) else if fdri then AddsWord w else if mfwr then CopiesSource else NothingAsked)
    by true cmd fdri true p = let e = p refl in absurd (cc e.0)
    by true cmd fdri false p = refl
    by false true fdri true p = let e = p refl in absurd (cc e.1)
    by false true fdri false p = refl
    by false false true true p = let e = p refl in absurd (cc e.2)
    by false false true false p = refl
    by false false false true p = refl
    by false false false false p = refl
asked_copy idcode h (Read r count) = by (r == 3 && (not (count == 0) && gives_frames (settings_of idcode h)))
  where
    by : (b : Bool) → false ≡ asks_copy (if b then Reads count else NothingAsked)
    by true = refl
    by false = refl
asked_copy idcode h (Bad w) = refl

-- ---- the pairs of a stretch and one access more

copies_by : PartData → Asked → Flow → List PlanRow → List PlanRow
copies_by part a f old = if begins_stretch a then [] else if asks_copy a then copy_pairs part f ++ old else old

copies_more : (part : PartData) (e : Entry) (h : History) → copies_of part (e ∷ h) ≡ copies_by part (asked_after part.idcode h e.access) (flow_of part h) (copies_of part h)
unfolding copies_of copies_by
copies_more part e h = rw (asked_begins_stretch (settings_of part.idcode h) e.access, asked_copy part.idcode h e.access) refl

no_landing : (part : PartData) (base : ℕ) (run : List ℕ) → run ≡ [] → written_frames part base run ≡ []
no_landing part base run e = ap (written_frames part base) e ∙ landed_empty part base

-- without MFW no copy puts a pair, and with it no run stands
mfw_not_wcfg : (c : Command) → is_mfw c ≡ true → is_wcfg c ≡ false
mfw_not_wcfg command.Wcfg e = absurd cc
mfw_not_wcfg c e = refl

copy_last : (part : PartData) (f : Flow) (old : List PlanRow) → (is_wcfg f.command ≡ false → f.run ≡ []) →
    written_frames part f.base f.run ++ (copy_pairs part f ++ old) ≡ copy_pairs part f ++ (written_frames part f.base f.run ++ old)
copy_last part f old idle = by (is_mfw f.command) refl
  where
    by : (b : Bool) → is_mfw f.command ≡ b → written_frames part f.base f.run ++ ((if b && is_frame_address part f.base then copied_pairs f.base f.source else []) ++ old) ≡ (if b && is_frame_address part f.base then copied_pairs f.base f.source else []) ++ (written_frames part f.base f.run ++ old)
    by true e = rw (no_landing part f.base f.run (idle (mfw_not_wcfg f.command e))) refl
    by false e = refl

stretch_step : (part : PartData) (a : Asked) (f : Flow) (old : List PlanRow) → begins_stretch a ≡ false → (is_wcfg f.command ≡ false → f.run ≡ []) →
    written_frames part (flow_by part a f).base (flow_by part a f).run ++ copies_by part a f old ≡ pairs_put part a f ++ (written_frames part f.base f.run ++ old)
unfolding copies_by
stretch_step part (LoadsFar w) f old e idle = absurd cc
stretch_step part (Commands c) f old e idle = absurd cc
stretch_step part (AddsWord w) f old e idle = ap (λ ps. ps ++ old) (landed_grows part f.base w f.run) ∙ append_assoc (written_frames_more part f.base f.run) (written_frames part f.base f.run) old
stretch_step part CopiesSource f old e idle = copy_last part f old idle
stretch_step part (Reads count) f old e idle = refl
stretch_step part NothingAsked f old e idle = refl

begin_step : (part : PartData) (a : Asked) (f : Flow) (old : List PlanRow) → begins_stretch a ≡ true →
    (written_frames part (flow_by part a f).base (flow_by part a f).run ++ copies_by part a f old ≡ []) × (pairs_put part a f ≡ [])
unfolding copies_by
begin_step part (LoadsFar w) f old e = (ap (λ ps. ps ++ []) (landed_empty part _), refl)
begin_step part (Commands c) f old e = (ap (λ ps. ps ++ []) (landed_empty part _), refl)
begin_step part (AddsWord w) f old e = absurd cc
begin_step part CopiesSource f old e = absurd cc
begin_step part (Reads count) f old e = absurd cc
begin_step part NothingAsked f old e = absurd cc

-- ---- all stretches

put_joined : (second first : List PlanRow) (m : FrameMap) → HaveSameFrames (put_over (second ++ first) m) (put_over second (put_over first m))
put_joined second first m far = sym (put_twice first second m (put_over first m) (put_over second (put_over first m)) (λ a. refl) (λ a. refl) far)

put_same : (pairs : List PlanRow) (m n : FrameMap) → HaveSameFrames m n → HaveSameFrames (put_over pairs m) (put_over pairs n)
put_same pairs m n e = override_same m n (planned pairs) (planned pairs) e (λ a. refl)

ends_at : (e : Entry) (h : History) → access_begins_stretch e.access ≡ true → h ∷ ends_of h ≡ ends_of (e ∷ h)
unfolding ends_of
ends_at e h b = rw b refl

ends_stay : (e : Entry) (h : History) → access_begins_stretch e.access ≡ false → ends_of h ≡ ends_of (e ∷ h)
unfolding ends_of
ends_stay e h b = rw b refl

pub by_stretches : (part : PartData) (h : History) → HaveSameFrames (memory_of part h) (memory_by_stretches part (h ∷ ends_of h))
unfolding memory_of flow_of memory_by_stretches copies_of ends_of
by_stretches part [] far = sym (put_none (written_frames part 0 [] ++ []) (memory_by_stretches part []) (ap (λ ps. ps ++ []) (landed_empty part 0)) far)
by_stretches part (e ∷ h) far =
    let a : Asked = asked_after part.idcode h e.access in
    let f : Flow = flow_of part h in
    let old : List PlanRow = copies_of part h in
    let ih : HaveSameFrames (memory_of part h) (memory_by_stretches part (h ∷ ends_of h)) = by_stretches part h in
    let pairs : stretch_pairs part (e ∷ h) ≡ written_frames part (flow_by part a f).base (flow_by part a f).run ++ copies_by part a f old =
    ap (λ ps. written_frames part (flow_by part a f).base (flow_by part a f).run ++ ps) (copies_more part e h) in
    elim (true_or_false (begins_stretch a)) [
      | inl t ↦
          let step = begin_step part a f old t in
          let b : access_begins_stretch e.access ≡ true = asked_begins_stretch (settings_of part.idcode h) e.access ∙ t in
          put_none (pairs_put part a f) (memory_of part h) step.1 far ∙ ih far
          ∙ sym (put_none (stretch_pairs part (e ∷ h)) (memory_by_stretches part (h ∷ ends_of h)) (pairs ∙ step.0) far)
          ∙ ap (λ (hs : List History). put_over (stretch_pairs part (e ∷ h)) (memory_by_stretches part hs) far) (ends_at e h b)
      | inr n ↦
          let b : access_begins_stretch e.access ≡ false = asked_begins_stretch (settings_of part.idcode h) e.access ∙ n in
          let i = flow_sound part h in
          put_same (pairs_put part a f) (memory_of part h) (memory_by_stretches part (h ∷ ends_of h)) ih far
          ∙ sym (put_joined (pairs_put part a f) (stretch_pairs part h) (memory_by_stretches part (ends_of h)) far)
          ∙ ap (λ (ps : List PlanRow). put_over ps (memory_by_stretches part (ends_of h)) far) (sym (pairs ∙ stretch_step part a f old n i.idle))
          ∙ ap (λ (hs : List History). put_over (stretch_pairs part (e ∷ h)) (memory_by_stretches part hs) far) (ends_stay e h b)
    ]
