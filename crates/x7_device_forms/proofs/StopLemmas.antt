-- Which input an event names of a form that shows a device or has a flash, and in which order flash and inputs are
-- asked for.
use Rattle.std.proofs.Common.{◌≤◌, suc, ◌≡◌, ◌+◌, ℕ, map, length, List, [], ◌∷◌, Bool, true, false, Some, Result, Ok, Err, IfErr, ap, inl, inr, refl, subst, sym, ◌∙◌, arith, ◌⊎◌}
use Rattle.std.proofs.lemmas.List.{length-map}
use Rattle.x7_words.specs.Input.{AsksAtMost, InputsState}
use Rattle.x7_words.proofs.InputLemmas.{few_more, few_on}
use Rattle.x7_words.specs.Flash.{FlashState}
use Rattle.x7_part.specs.Part.{PartData}
use Rattle.x7_forms.specs.declared.refusal.Refusal.{Refusal}
use Rattle.x7_forms.specs.Event.{Event, bad_input, cause_of_event, differs, event_of, missing, no_memory, reading_failed, too_large, too_many_reads, writing_failed}
use Rattle.x7_forms.specs.declared.bad_input.InputFault.TheVariants as input
use Rattle.x7_forms.specs.declared.refusal.Why.{Why}
use Rattle.x7_forms.specs.declared.refusal.Why.TheVariants as why
use Rattle.x7_forms.specs.Form.{flash_names}
use Rattle.x7_forms.specs.AskedForm.{AskedForm}
use Rattle.x7_forms.specs.AskedForm as form
use Rattle.x7_forms.specs.Known.{Answer, part_limit, stream_limit}
use Rattle.x7_forms.specs.Step.{Among, result_by}
use Rattle.x7_forms.specs.ReadingStops.{IsAbout, StopsAmong, limited, limited_together}
use Rattle.x7_forms.specs.Turn.{IsLastAsked}
use Rattle.x7_forms.proofs.AskedLemmas.{about_by, stops_after}
use Rattle.x7_debug.specs.declared.fault.ScriptFault.{ScriptFault}
use Rattle.x7_debug.specs.declared.fault.ScriptFault.TheVariants as script
use Rattle.x7_svf.specs.declared.fault.SvfFault.{SvfFault}
use Rattle.x7_svf.specs.declared.fault.SvfFault.TheVariants as svf
use Rattle.x7_outcome.specs.Outcome.{DebugInputs, DebuggedAs, PartAndText, PlayedSvf, script_event, svf_event, update_event}
use Rattle.x7_update.specs.declared.fault.UpdateFault.{UpdateFault}
use Rattle.x7_update.specs.declared.fault.UpdateFault.TheVariants as update
use Rattle.x7_outcome.specs.Outside.{Sources, sources}
use Rattle.x7_outcome.specs.Ending.{FlashComes, IsUnattachedOrLarge, IsUnusable, JudgesFlash}
use Rattle.x7_device_forms.proofs.FlashLemmas.{flash_open}
use Rattle.x7_outcome.specs.Stopping.{StopsReading, StopsBy}
use Rattle.x7_outcome.proofs.StopLemmas.{among_stops, both_asked, stops_by, want_stops}

-- ---- which input an event names

script_about : (name : List ℕ) (fault : ScriptFault) → IsAbout name (script_event name fault)
script_about name (script.Line line) = inr refl
script_about name script.NoMemory = inl refl

svf_about : (name : List ℕ) (fault : SvfFault) → IsAbout name (svf_event name fault)
svf_about name (svf.Line line) = inr refl
svf_about name svf.NoMemory = inl refl

pub debug_about : (name : List ℕ) (d : DebugInputs) (event : Event) → (event ≡ no_memory) ⊎ DebuggedAs name (Ok d) (Err event) → IsAbout name event
debug_about name d event (inl e) = inl e
debug_about name d event (inr h) = about_by name event (script_event name h.0) (sym h.1.1) (script_about name h.0)

pub svf_played_about : (name : List ℕ) (texts : PartAndText) (event : Event) → (event ≡ no_memory) ⊎ PlayedSvf name (Ok texts) (Err event) → IsAbout name event
svf_played_about name texts event (inl e) = inl e
svf_played_about name texts event (inr h) = about_by name event (svf_event name h.0) (sym h.2) (svf_about name h.0)

-- ---- where reading stops

pub reads_stop : (part : List ℕ) (streams : List (List ℕ)) (old now : InputsState) (event : Event) → (event ≡ no_memory) ⊎ (event ≡ too_many_reads) → StopsBy (cause_of_event event) (form.Play part streams) old now event
reads_stop part streams old now event (inl e) = want_stops (form.Play part streams) old now event e
reads_stop part streams old now event (inr e) = stops_by (cause_of_event event) (form.Play part streams) old now event (inr (inl e))

pub reads_only : {A B : Type 0} (value : A → B) (part : List ℕ) (streams : List (List ℕ)) (old now : InputsState) (r : Result A Refusal) → IfErr r (λ x. (event_of x ≡ no_memory) ⊎ (event_of x ≡ too_many_reads))
    → StopsReading (Some (form.Play part streams)) old now (result_by value r)
reads_only value part streams old now (Ok a) h = tt
reads_only value part streams old now (Err x) h = reads_stop part streams old now (event_of x) h

-- streams that are played one after the other, after a part
pub streams_stop : (part : List ℕ) (streams : List (List ℕ)) (old mid now : InputsState) (event : Event) → AsksAtMost old 1 mid
    → StopsAmong (limited_together now.contents stream_limit streams) mid now event → StopsBy (cause_of_event event) (form.Play part streams) old now event
streams_stop part streams old mid now event n h = among_stops (form.Play part streams) old now event (stops_after (limited part_limit part) (limited_together now.contents stream_limit streams) old mid now event n h)

-- the form's flash
pub flash_stops : (form : AskedForm) (old now : InputsState) (event : Event) (name : List ℕ) → event.concerned ≡ name → Among (flash_names (Some form)) name → StopsBy (cause_of_event event) form old now event
flash_stops form old now event name n a = stops_by (cause_of_event event) form old now event (inl (subst (λ (x : List ℕ). Among (flash_names (Some form)) x) (sym n) a))

-- a boot from a flash
pub boot_stops : (name part_name : List ℕ) (part : PartData) (old now : InputsState) (first last : FlashState) (end : Result Answer Event) → FlashComes name part first last end → StopsReading (Some (form.Boot part_name name)) old now end
boot_stops name part_name part old now first last (Ok answer) h = tt
boot_stops name part_name part old now first last (Err event) (inl e) = want_stops (form.Boot part_name name) old now event e
boot_stops name part_name part old now first last (Err event) (inr (inl (inl h))) = flash_stops (form.Boot part_name name) old now event name (ap (λ (x : Event). x.concerned) h.0) (inl refl)
boot_stops name part_name part old now first last (Err event) (inr (inl (inr h))) = flash_stops (form.Boot part_name name) old now event name (ap (λ (x : Event). x.concerned) h.0) (inl refl)
boot_stops name part_name part old now first last (Err event) (inr (inr h)) = flash_stops (form.Boot part_name name) old now event name (ap (λ (x : Event). x.concerned) (flash_open name part first.bytes event h.0)) (inl refl)

-- a flash that can't be used
pub attach_refused_stops : (name stream : List ℕ) (old now : InputsState) (first last : FlashState) (event : Event) → IsUnattachedOrLarge name first last event → StopsBy (cause_of_event event) (form.Update name stream) old now event
attach_refused_stops name stream old now first last event (inl (inl h, d)) = flash_stops (form.Update name stream) old now event name (ap (λ (x : Event). x.concerned) h.0) (inl refl)
attach_refused_stops name stream old now first last event (inl (inr h, d)) = flash_stops (form.Update name stream) old now event name (ap (λ (x : Event). x.concerned) h.0) (inl refl)
attach_refused_stops name stream old now first last event (inr h) = flash_stops (form.Update name stream) old now event name (ap (λ (x : Event). x.concerned) h.0) (inl refl)

-- a fault of an update
fault_stops : (flash stream : List ℕ) (old now : InputsState) (fault : UpdateFault) → IsLastAsked stream stream_limit now → AsksAtMost old 1 now
    → StopsBy (cause_of_event (update_event (record { flash = flash; stream = stream }) fault)) (form.Update flash stream) old now (update_event (record { flash = flash; stream = stream }) fault)
fault_stops flash stream old now (update.Failed true) s n = tt
fault_stops flash stream old now (update.Failed false) s n = inl (inl refl)
fault_stops flash stream old now update.TooLong s n = inr (inr (record { before = []; input = limited stream_limit stream; after = []; among = refl; concerns = refl; last_asked = s; asks = n }))
fault_stops flash stream old now (update.NoLayout place) s n = inl (inl refl)
fault_stops flash stream old now (update.Differs place wrote read) s n = tt
fault_stops flash stream old now update.NoMemory s n = tt

pub updated_stops : (flash stream : List ℕ) (old now : InputsState) (fault : UpdateFault) (event : Event) → event ≡ update_event (record { flash = flash; stream = stream }) fault → IsLastAsked stream stream_limit now → AsksAtMost old 1 now
    → StopsBy (cause_of_event event) (form.Update flash stream) old now event
updated_stops flash stream old now fault event e s n = subst (λ (x : Event). StopsBy (cause_of_event x) (form.Update flash stream) old now x) (sym e) (fault_stops flash stream old now fault s n)

-- ---- what an update asks for where its flash can't be used

-- the flash wasn't opened, and no input was asked for
pub unopened_judges : (flash stream : List ℕ) (old new : Sources) (event : Event) → new.inputs ≡ old.inputs → JudgesFlash {A = Bool} (Some (form.Update flash stream)) old new (Err event)
unopened_judges flash stream old new event e = λ u. inl (omega (arith, ap (λ (x : InputsState). x.selects) e))

-- the stream wasn't read: an event of its name
same_name : (flash stream : List ℕ) (event is : Event) → event ≡ is → is.concerned ≡ flash → event.concerned ≡ stream → flash ≡ stream
same_name flash stream event is e n c = sym n ∙ sym (ap (λ (x : Event). x.concerned) e) ∙ c

named_judges : (flash stream : List ℕ) (now : FlashState) (event : Event) → event.concerned ≡ stream → IsUnusable flash now event → flash ≡ stream
named_judges flash stream now event c (inl e) = same_name flash stream event (missing flash) e refl c
named_judges flash stream now event c (inr (inl e)) = same_name flash stream event (too_large flash) e refl c
named_judges flash stream now event c (inr (inr e)) = same_name flash stream event (reading_failed flash) e.0 refl c

-- the event of a flash that can't be used has one of three reasons
unusable_reason : (flash : List ℕ) (now : FlashState) (event : Event) → IsUnusable flash now event → (event.reason ≡ why.Missing) ⊎ ((event.reason ≡ why.TooLarge) ⊎ ((event.reason ≡ why.ReadFault) × (now.attached ≡ false)))
unusable_reason flash now event (inl e) = inl (ap (λ (x : Event). x.reason) e)
unusable_reason flash now event (inr (inl e)) = inr (inl (ap (λ (x : Event). x.reason) e))
unusable_reason flash now event (inr (inr e)) = inr (inr (ap (λ (x : Event). x.reason) e.0, e.1))

want_by : (now : FlashState) → (why.NoMemory ≡ why.Missing) ⊎ ((why.NoMemory ≡ why.TooLarge) ⊎ ((why.NoMemory ≡ why.ReadFault) × (now.attached ≡ false))) → ⊥
want_by now (inl e) = absurd cc
want_by now (inr (inl e)) = absurd cc
want_by now (inr (inr e)) = let r : why.NoMemory ≡ why.ReadFault = e.0 in absurd cc

never_wants : (flash : List ℕ) (now : FlashState) (event : Event) → event ≡ no_memory → IsUnusable flash now event → ⊥
never_wants flash now event w u = want_by now (unusable_reason flash now no_memory (subst (λ (x : Event). IsUnusable flash now x) w u))

pub stream_judges : (flash stream : List ℕ) (old new : Sources) (event : Event) → IsAbout stream event → JudgesFlash {A = Bool} (Some (form.Update flash stream)) old new (Err event)
stream_judges flash stream old new event (inl e) = λ u. absurd (never_wants flash new.flash event e u)
stream_judges flash stream old new event (inr n) = λ u. inr (named_judges flash stream new.flash event n u)

-- what the update of an attached flash comes to
fault_by : (now : FlashState) (reason : Why) → now.attached ≡ true → (reason ≡ why.Missing → ⊥) → (reason ≡ why.TooLarge → ⊥)
    → (reason ≡ why.Missing) ⊎ ((reason ≡ why.TooLarge) ⊎ ((reason ≡ why.ReadFault) × (now.attached ≡ false))) → ⊥
fault_by now reason a m t (inl e) = m e
fault_by now reason a m t (inr (inl e)) = t e
fault_by now reason a m t (inr (inr e)) = let f : true ≡ false = sym a ∙ e.1 in absurd cc

fault_judges : (flash stream : List ℕ) (now : FlashState) (fault : UpdateFault) → now.attached ≡ true → IsUnusable flash now (update_event (record { flash = flash; stream = stream }) fault) → ⊥
fault_judges flash stream now (update.Failed true) a u = fault_by now why.WriteFault a (λ e. absurd cc) (λ e. absurd cc) (unusable_reason flash now writing_failed u)
fault_judges flash stream now (update.Failed false) a u = fault_by now why.ReadFault a (λ e. absurd cc) (λ e. absurd cc) (unusable_reason flash now (reading_failed flash) u)
fault_judges flash stream now update.TooLong a u = fault_by now (why.BadInput input.Long) a (λ e. absurd cc) (λ e. absurd cc) (unusable_reason flash now (bad_input stream input.Long) u)
fault_judges flash stream now (update.NoLayout place) a u = fault_by now (why.BadInput (input.Layout place)) a (λ e. absurd cc) (λ e. absurd cc) (unusable_reason flash now (bad_input flash (input.Layout place)) u)
fault_judges flash stream now (update.Differs place wrote read) a u = fault_by now (why.Differs place) a (λ e. absurd cc) (λ e. absurd cc) (unusable_reason flash now (differs flash place) u)
fault_judges flash stream now update.NoMemory a u = fault_by now why.NoMemory a (λ e. absurd cc) (λ e. absurd cc) (unusable_reason flash now no_memory u)

pub updated_judges : (flash stream : List ℕ) (old new : Sources) (fault : UpdateFault) (event : Event) → event ≡ update_event (record { flash = flash; stream = stream }) fault → new.flash.attached ≡ true → JudgesFlash {A = Bool} (Some (form.Update flash stream)) old new (Err event)
updated_judges flash stream old new fault event e a = λ u. absurd (fault_judges flash stream new.flash fault a (subst (λ (x : Event). IsUnusable flash new.flash x) e u))

-- ---- that a boot touches its flash last

-- the part wasn't good
pub untouched_judges : (part_name name : List ℕ) (old new : InputsState) (flash : FlashState) (event : Event) → JudgesFlash {A = Answer} (Some (form.Boot part_name name)) (sources old flash) (sources new flash) (Err event)
untouched_judges part_name name old new flash event = inr (inr (inr refl))

-- what a boot from an attached flash, or from one that isn't, comes to
pub comes_judges : (part_name name : List ℕ) (part : PartData) (old new : InputsState) (first last : FlashState) (got : Result Answer Event) → FlashComes name part first last got
    → JudgesFlash {A = Answer} (Some (form.Boot part_name name)) (sources old first) (sources new last) got
comes_judges part_name name part old new first last (Ok answer) h = tt
comes_judges part_name name part old new first last (Err event) (inl e) = inl e
comes_judges part_name name part old new first last (Err event) (inr (inl (inl h))) = inr (inr (inl (ap (λ (x : Event). x.concerned) h.0)))
comes_judges part_name name part old new first last (Err event) (inr (inl (inr h))) = inr (inr (inl (ap (λ (x : Event). x.concerned) h.0)))
comes_judges part_name name part old new first last (Err event) (inr (inr h)) = inr (inr (inl (ap (λ (x : Event). x.concerned) (flash_open name part first.bytes event h.0))))

-- ---- how often inputs are asked for, and their ends read

-- three inputs, one after the other
pub all_asked : (old first second new : InputsState) → AsksAtMost old 1 first → AsksAtMost first 1 second → AsksAtMost second 1 new → AsksAtMost old 3 new
all_asked old first second new a b d = few_on old second new 2 1 (both_asked old first second a b) d

pub streams_asked : {X : Type 0} (f : X → List ℕ) (part : List ℕ) (streams : List X) (old mid new : InputsState) → AsksAtMost old 1 mid → AsksAtMost mid (length streams) new → AsksAtMost old (length (part ∷ map f streams)) new
streams_asked f part streams old mid new a b = let all : 1 + length streams ≤ suc (length (map f streams)) = omega (arith, length-map streams f) in few_more old new (1 + length streams) (length (part ∷ map f streams)) all (few_on old mid new 1 (length streams) a b)
