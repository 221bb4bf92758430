-- The faults of accesses that concern frames.
use Rattle.std.proofs.Common.{◌≡◌, ◌↔◌, ℕ, ◌+◌, ◌<◌, ◌==◌, ◌&&◌, not, Bool, true, false, if◌then◌else◌, List, [], ◌∷◌, length, Option, None, Some, is_some, refl, sym, ap, subst, ◌∙◌, arith}
use Rattle.std.proofs.lemmas.Option.{none-some, same_Some}
use Rattle.std.proofs.lemmas.List.{append_cancel_right}
use Rattle.x7_packets.specs.History.{Access, Entry, History}
use Rattle.x7_part.specs.Part.{PartData, frame_words}
use Rattle.x7_part.specs.Slot.{slots_from}
use Rattle.x7_memory.specs.FrameMap.{HaveSameFrames}
use Rattle.x7_pipeline.specs.declared.fault.RunFault.{RunFault}
use Rattle.x7_pipeline.specs.declared.fault.RunFault.TheVariants.{Address, Overrun, Multi}
use Rattle.x7_pipeline.specs.Runs.{frames_of, written_frames, rest_of}
use Rattle.x7_pipeline.specs.FarAsRead.{is_frame_address}
use Rattle.x7_pipeline.specs.Copies.{copied_pairs, is_mfw}
use Rattle.x7_pipeline.specs.Fault.{address_fault, completes, copy_fault, has_filled, write_fault}
use Rattle.x7_pipeline.proofs.LawLemmas.{copy_no_overrun, overrun_is, refused_far, refused_landed, write_no_multi}
use Rattle.std.proofs.lemmas.Bool.{ltb-true}
use Rattle.x7_flow.specs.Asking.{Asked, LoadsFar, Commands, AddsWord, CopiesSource, Reads, NothingAsked}
use Rattle.x7_flow.specs.HistoryFlow.{Flow, asked_after, base_of, far_in, far_read, fault_by, flow_by, flow_of, frame_fault, asks_copy, adds_frame_word, run_of}
use Rattle.x7_flow.specs.FrameMemory.{copy_pairs, written_frames_more, memory_of, pairs_put}
use Rattle.x7_flow.specs.NeedsAddress.{needs_address}
use Rattle.x7_flow.proofs.FlowLemmas.{flow_more, landed_grows, memory_more, put_none}

-- ---- a refused access changes neither the memory nor FAR as read

no_copy : (part : PartData) (f : Flow) (fault : RunFault) → copy_fault part f.command f.base f.source ≡ Some fault → copy_pairs part f ≡ []
unfolding copy_fault address_fault
no_copy part f fault e = by (is_mfw f.command) f.source (is_frame_address part f.base) e
  where
    by : (m : Bool) (source : Option (List ℕ)) (b : Bool) → (if m && is_some source then (if b then None else Some (Address f.base)) else Some Multi) ≡ Some fault → (if m && b then copied_pairs f.base source else []) ≡ []
    by true (Some frame) true e = absurd (none-some fault e)
    by true (Some frame) false e = refl
    by true None true e = refl
    by true None false e = refl
    by false source b e = refl

no_read : (part : PartData) (f : Flow) (count : ℕ) (fault : RunFault) → fault_by part (Reads count) f ≡ Some fault → flow_by part (Reads count) f ≡ f
unfolding address_fault
no_read part f count fault e = by (count == 0) (is_frame_address part f.base) e
  where
    by : (z b : Bool) → (if z then None else if b then None else Some (Address f.base)) ≡ Some fault → record f { given = if b then f.given + count else f.given } ≡ f
    by true b e = absurd (none-some fault e)
    by false true e = absurd (none-some fault e)
    by false false e = refl

refused_by : (part : PartData) (a : Asked) (f : Flow) (fault : RunFault) → fault_by part a f ≡ Some fault → (pairs_put part a f ≡ []) × (far_in part (flow_by part a f) ≡ far_in part f)
refused_by part (LoadsFar w) f fault e = absurd (none-some fault e)
refused_by part (Commands c) f fault e = absurd (none-some fault e)
refused_by part (AddsWord w) f fault e = (
  append_cancel_right (written_frames_more part f.base f.run) [] (written_frames part f.base f.run) (sym (landed_grows part f.base w f.run) ∙ refused_landed part f.base f.run w fault e),
  refused_far part f.base f.run w f.given fault e,
)
refused_by part CopiesSource f fault e = (no_copy part f fault e, refl)
refused_by part (Reads count) f fault e = (refl, ap (far_in part) (no_read part f count fault e))
refused_by part NothingAsked f fault e = absurd (none-some fault e)

pub refused_memory : (part : PartData) (e : Entry) (h : History) (fault : RunFault) → frame_fault part h e.access ≡ Some fault → HaveSameFrames (memory_of part (e ∷ h)) (memory_of part h)
refused_memory part e h fault r far =
    memory_more part e h far ∙ put_none (pairs_put part (asked_after part.idcode h e.access) (flow_of part h)) (memory_of part h) (refused_by part (asked_after part.idcode h e.access) (flow_of part h) fault r).0 far

pub refused_far_read : (part : PartData) (e : Entry) (h : History) (fault : RunFault) → frame_fault part h e.access ≡ Some fault → far_read part (e ∷ h) ≡ far_read part h
refused_far_read part e h fault r = ap (far_in part) (flow_more part e h) ∙ (refused_by part (asked_after part.idcode h e.access) (flow_of part h) fault r).1

-- ---- Address and Multi

address_of : (part : PartData) (base far : ℕ) → (address_fault part base ≡ Some (Address far)) ↔ ((is_frame_address part base ≡ false) × (far ≡ base))
unfolding address_fault
address_of part base far = by (is_frame_address part base)
  where
    by : (b : Bool) → ((if b then None else Some (Address base)) ≡ Some (Address far)) ↔ ((b ≡ false) × (far ≡ base))
    by true = (λ e. absurd (none-some _ e), λ p. absurd (cc (p.0)))
    by false = (λ e. (refl, let s = same_Some _ _ e in cc), λ p. rw p.1 refl)

no_overrun : (b : Bool) (far : ℕ) → (if b then Some Overrun else None) ≡ Some (Address far) → ⊥
no_overrun true far e = let s = same_Some _ _ e in cc
no_overrun false far e = none-some _ e

address_by : (part : PartData) (a : Asked) (f : Flow) (far : ℕ) → (fault_by part a f ≡ Some (Address far)) ↔ ((needs_address a f ≡ true) × (is_frame_address part f.base ≡ false) × (far ≡ f.base))
unfolding write_fault copy_fault
address_by part (LoadsFar w) f far = (λ e. absurd (none-some _ e), λ p. absurd (cc (p.0)))
address_by part (Commands c) f far = (λ e. absurd (none-some _ e), λ p. absurd (cc (p.0)))
address_by part (AddsWord w) f far = by f.run
  where
    by : (run : List ℕ) → (write_fault part f.base run ≡ Some (Address far)) ↔ ((needs_address (AddsWord w) (record f { run = run }) ≡ true) × (is_frame_address part f.base ≡ false) × (far ≡ f.base))
    by [] = (λ e. let p = (address_of part f.base far).0 e in (refl, p.0, p.1), λ p. (address_of part f.base far).1 (p.1, p.2))
    by (v ∷ run) = (λ e. absurd (no_overrun (completes part (v ∷ run) && has_filled part f.base (v ∷ run)) far e), λ p. absurd (cc (p.0)))
address_by part CopiesSource f far = by (is_mfw f.command && is_some f.source)
  where
    by : (b : Bool) → ((if b then address_fault part f.base else Some Multi) ≡ Some (Address far)) ↔ ((b ≡ true) × (is_frame_address part f.base ≡ false) × (far ≡ f.base))
    by true = (λ e. let p = (address_of part f.base far).0 e in (refl, p.0, p.1), λ p. (address_of part f.base far).1 (p.1, p.2))
    by false = (λ e. let s = same_Some _ _ e in absurd cc, λ p. absurd (cc (p.0)))
address_by part (Reads count) f far = by (count == 0)
  where
    by : (z : Bool) → ((if z then None else address_fault part f.base) ≡ Some (Address far)) ↔ ((not z ≡ true) × (is_frame_address part f.base ≡ false) × (far ≡ f.base))
    by true = (λ e. absurd (none-some _ e), λ p. absurd (cc (p.0)))
    by false = (λ e. let p = (address_of part f.base far).0 e in (refl, p.0, p.1), λ p. (address_of part f.base far).1 (p.1, p.2))
address_by part NothingAsked f far = (λ e. absurd (none-some _ e), λ p. absurd (cc (p.0)))

pub address_line : (part : PartData) (h : History) (access : Access) (far : ℕ) →
    (frame_fault part h access ≡ Some (Address far)) ↔ ((needs_address (asked_after part.idcode h access) (flow_of part h) ≡ true) × (is_frame_address part (base_of part h) ≡ false) × (far ≡ base_of part h))
address_line part h access far = address_by part (asked_after part.idcode h access) (flow_of part h) far

multi_by : (part : PartData) (a : Asked) (f : Flow) → (fault_by part a f ≡ Some Multi) ↔ ((asks_copy a ≡ true) × ((is_mfw f.command && is_some f.source) ≡ false))
unfolding copy_fault address_fault
multi_by part (LoadsFar w) f = (λ e. absurd (none-some _ e), λ p. absurd (cc (p.0)))
multi_by part (Commands c) f = (λ e. absurd (none-some _ e), λ p. absurd (cc (p.0)))
multi_by part (AddsWord w) f = (λ e. absurd (write_no_multi part f.base f.run e), λ p. absurd (cc (p.0)))
multi_by part CopiesSource f = by (is_mfw f.command && is_some f.source) (is_frame_address part f.base)
  where
    by : (b c : Bool) → ((if b then (if c then None else Some (Address f.base)) else Some Multi) ≡ Some Multi) ↔ ((true ≡ true) × (b ≡ false))
    by true true = (λ e. absurd (none-some _ e), λ p. absurd (cc (p.1)))
    by true false = (λ e. let s = same_Some _ _ e in absurd cc, λ p. absurd (cc (p.1)))
    by false c = (λ e. (refl, refl), λ p. refl)
multi_by part (Reads count) f = by (count == 0) (is_frame_address part f.base)
  where
    by : (z c : Bool) → ((if z then None else if c then None else Some (Address f.base)) ≡ Some Multi) ↔ ((false ≡ true) × ((is_mfw f.command && is_some f.source) ≡ false))
    by true c = (λ e. absurd (none-some _ e), λ p. absurd (cc (p.0)))
    by false true = (λ e. absurd (none-some _ e), λ p. absurd (cc (p.0)))
    by false false = (λ e. let s = same_Some _ _ e in absurd cc, λ p. absurd (cc (p.0)))
multi_by part NothingAsked f = (λ e. absurd (none-some _ e), λ p. absurd (cc (p.0)))

pub multi_line : (part : PartData) (h : History) (access : Access) →
    (frame_fault part h access ≡ Some Multi) ↔ ((asks_copy (asked_after part.idcode h access) ≡ true) × ((is_mfw (flow_of part h).command && is_some (flow_of part h).source) ≡ false))
multi_line part h access = multi_by part (asked_after part.idcode h access) (flow_of part h)

-- ---- Overrun

-- only a word of frame data overruns
overrun_by : (part : PartData) (a : Asked) (f : Flow) → fault_by part a f ≡ Some Overrun → adds_frame_word a ≡ true
unfolding copy_fault address_fault
overrun_by part (LoadsFar w) f e = absurd (none-some _ e)
overrun_by part (Commands c) f e = absurd (none-some _ e)
overrun_by part (AddsWord w) f e = refl
overrun_by part CopiesSource f e = absurd (copy_no_overrun part f.command f.base f.source e)
overrun_by part (Reads count) f e = absurd (by (count == 0) (is_frame_address part f.base) e)
  where
    by : (z c : Bool) → (if z then None else if c then None else Some (Address f.base)) ≡ Some Overrun → ⊥
    by true c e = none-some _ e
    by false true e = none-some _ e
    by false false e = let s = same_Some _ _ e in cc
overrun_by part NothingAsked f e = absurd (none-some _ e)

pub overrun_word : (part : PartData) (h : History) (access : Access) → frame_fault part h access ≡ Some Overrun → adds_frame_word (asked_after part.idcode h access) ≡ true
overrun_word part h access e = overrun_by part (asked_after part.idcode h access) (flow_of part h) e

no_first_overrun : (part : PartData) (base : ℕ) (b : Bool) → is_frame_address part base ≡ b → b ≡ true → write_fault part base [] ≡ Some Overrun → ⊥
unfolding write_fault address_fault
no_first_overrun part base true t u e = let none : None ≡ Some Overrun = rw t at e in none-some _ none
no_first_overrun part base false t u e = absurd cc

-- from an address there is a slot, and one word makes one frame at most
one_slot : (part : PartData) (base w : ℕ) → is_frame_address part base ≡ true → length (slots_from part base) < length (frames_of (frame_words part) (w ∷ [])) → ⊥
unfolding frames_of rest_of
one_slot part base w t few = by (1 == frame_words part) (ltb-true 0 (length (slots_from part base)) t) few
  where
    by : (b : Bool) → 0 < length (slots_from part base) → length (slots_from part base) < length (if b then (w ∷ []) ∷ [] else []) → ⊥
    by true some few = omega arith
    by false some few = omega arith

overrun_at : (part : PartData) (base w : ℕ) (run : List ℕ) → is_frame_address part base ≡ true →
    (write_fault part base run ≡ Some Overrun) ↔ ((rest_of (frame_words part) (w ∷ run) ≡ []) × (length (slots_from part base) < length (frames_of (frame_words part) (w ∷ run))))
unfolding rest_of
overrun_at part base w [] t = (λ e. absurd (no_first_overrun part base (is_frame_address part base) refl t e), λ p. absurd (one_slot part base w t p.1))
overrun_at part base w (v ∷ run) t = overrun_is part base w v run

pub overrun_line : (part : PartData) (h : History) (access : Access) (w : ℕ) → asked_after part.idcode h access ≡ AddsWord w → is_frame_address part (base_of part h) ≡ true →
    (frame_fault part h access ≡ Some Overrun) ↔ ((rest_of (frame_words part) (w ∷ run_of part h) ≡ []) × (length (slots_from part (base_of part h)) < length (frames_of (frame_words part) (w ∷ run_of part h))))
overrun_line part h access w a t =
    let same : frame_fault part h access ≡ write_fault part (base_of part h) (run_of part h) = ap (λ (x : Asked). fault_by part x (flow_of part h)) a in
    let both = overrun_at part (base_of part h) w (run_of part h) t in
    (λ e. both.0 (sym same ∙ e), λ p. same ∙ both.1 p)

-- ---- without a fault a run begins at an address

none_written : (part : PartData) (base w : ℕ) (run : List ℕ) → (is_frame_address part base ≡ false → run ≡ []) → write_fault part base run ≡ None → is_frame_address part base ≡ false → w ∷ run ≡ []
unfolding write_fault address_fault
none_written part base w run idle none f =
    let first : write_fault part base [] ≡ None = subst (λ (r : List ℕ). write_fault part base r ≡ None) (idle f) none in
    let some : Some (Address base) ≡ None = rw f at first in
    absurd (none-some _ (sym some))

runs_by : (part : PartData) (a : Asked) (f : Flow) → (is_frame_address part f.base ≡ false → f.run ≡ []) → fault_by part a f ≡ None → is_frame_address part (flow_by part a f).base ≡ false → (flow_by part a f).run ≡ []
runs_by part (LoadsFar w) f idle none e = refl
runs_by part (Commands c) f idle none e = refl
runs_by part (AddsWord w) f idle none e = none_written part f.base w f.run idle none e
runs_by part CopiesSource f idle none e = idle e
runs_by part (Reads count) f idle none e = idle e
runs_by part NothingAsked f idle none e = idle e

pub runs_somewhere : (part : PartData) (e : Entry) (h : History) → (is_frame_address part (base_of part h) ≡ false → run_of part h ≡ []) → frame_fault part h e.access ≡ None →
    is_frame_address part (base_of part (e ∷ h)) ≡ false → run_of part (e ∷ h) ≡ []
unfolding flow_of
runs_somewhere part e h idle none f = runs_by part (asked_after part.idcode h e.access) (flow_of part h) idle none f
