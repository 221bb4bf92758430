-- How an update ends, by what it came to, and what it leaves of the flash.
use Rattle.std.proofs.Common.{◌≡◌, ◌≤◌, ◌-◌, ◌∙◌, ap, arith, ℕ, Bool, true, false, List, [], ◌∷◌, length, length-drop, take, take_all, drop, Option, None, Some, Result, Ok, Err, refl, subst, sym, inl, inr}
use Rattle.std.specs.Prelude.{if◌then◌else◌}
use Rattle.std.specs.Str.{bytes_eq}
use Rattle.x7_words.specs.Count.{HasRisen}
use Rattle.x7_words.specs.Flash.{BecomesBytes, FlashState, KeepsBytes, IfKnown}
use Rattle.x7_words.specs.FlashHistory.{FollowsCalls}
use Rattle.x7_words.proofs.FollowLemmas.{follow_on}
use Rattle.x7_words.specs.Input.{InputsState}
use Rattle.x7_words.specs.Sink.{SinkState}
use Rattle.x7_words.proofs.CountLemmas.{risen_from}
use Rattle.x7_words.proofs.SinkLemmas.{appended_nil}
use Rattle.x7_boot.specs.Image.{flash_limit}
use Rattle.x7_update.specs.After.{IsAfterUpdate}
use Rattle.x7_update.specs.Layout.{IsUpdatable}
use Rattle.x7_update.specs.Fault.{CanBeUpdatedWith, HasCause, IsEarly, IsTooLong, NoLayoutAt}
use Rattle.x7_update.specs.Writing.{Becomes, OnlyUses}
use Rattle.x7_update.specs.declared.fault.UpdateFault.{UpdateFault}
use Rattle.x7_update.specs.declared.fault.UpdateFault.TheVariants.{Differs, Failed, NoLayout, NoMemory, TooLong}
use Rattle.x7_forms.specs.declared.bad_input.InputFault.TheVariants as input
use Rattle.x7_forms.specs.declared.refusal.Why.{Why}
use Rattle.x7_forms.specs.declared.refusal.Why.TheVariants as why
use Rattle.x7_forms.specs.Event.{Event, bad_input, cause_of_event, differs, no_memory, reading_failed, status_of_event, too_large, writing_failed}
use Rattle.x7_forms.specs.Form.{names_of}
use Rattle.x7_forms.specs.AskedForm.{AskedForm}
use Rattle.x7_forms.specs.AskedForm as form
use Rattle.x7_forms.specs.Status.{text_status}
use Rattle.x7_forms.specs.Known.{Absent, Answer, Failing, Found, Known, Lacking, Mishap, flash_found, mishap_event, spoiled, spoiled_name, with_inputs, with_mishap}
use Rattle.x7_forms.specs.Step.{Among, CameIn, DueBy, IsCaused, IsDecided, IsDue, IsPossible, IsUnplayed, step_over}
use Rattle.x7_forms.proofs.ReadLemmas.{outside_goes}
use Rattle.x7_outcome.specs.Called.{CallsUpdate, OnlyAttaches, RefusesUpdate}
use Rattle.x7_outcome.specs.Leaving.{HasData, BytesAfterReason, LeavesAnyFlash, UsesFlash}
use Rattle.x7_outcome.specs.Outcome.{FlashUpdates, FormGives, IsUpdateFault, UpdateNames, UpdatesBytes, UpdatesWith, no_text, stream_data, update_event}
use Rattle.x7_outcome.specs.Outside.{CameInRun, IsAskedFor, Outside, known_in, sources}
use Rattle.x7_outcome.specs.Ending.{GivesIfKnown, AnswersOver, CommandEndsAs, FailsLast, IsMeasured, IsUnattachedOrLarge}
use Rattle.x7_device_forms.proofs.FlashLemmas.{bad_small, detached, other_fault, known_flash, unattached_measured, unread_last, unread_measured}
use Rattle.x7_outcome.proofs.FlashLemmas.{attached_follows, attached_leaves, came_wider, not_fault, not_large}
use Rattle.x7_outcome.proofs.EndingLemmas.{has_cause, leaves_all, near_all, no_break}
use Rattle.x7_words.proofs.ListLemmas.{same_by_test, same_as_itself}

-- the names of an update
abbrev names : List ℕ → List ℕ → UpdateNames
names flash stream = record { flash = flash; stream = stream }

-- the flash is no larger than a flash may be, where its bytes are known
abbrev IsWithin : Option (List ℕ) → Type 0
IsWithin known = IfKnown known (λ all. length all ≤ flash_limit)

-- what is known of the flash of this name is what its bytes say
abbrev IsTold : Option Known → List ℕ → Option (List ℕ) → Type 0
IsTold known flash bytes = (t : Known) → known ≡ Some t → t.flash flash ≡ flash_found bytes

-- ---- what is due

found_updates : (n : UpdateNames) (bytes : Option (List ℕ)) (read : Result (List ℕ) Event) (end : Result Answer Event) → UpdatesBytes n bytes read end → FlashUpdates n (flash_found bytes) read end
found_updates n None read end h = h
found_updates n (Some all) read end h = h

-- what is due of a flash that is known
update_given : (t : Known) (bytes : Option (List ℕ)) (flash stream : List ℕ) (end : Result Answer Event) → t.flash flash ≡ flash_found bytes → UpdatesBytes (names flash stream) bytes (stream_data t stream) end → FormGives t (form.Update flash stream) end
update_given t bytes flash stream end same h =
    subst (λ (f : Option Found). FlashUpdates (names flash stream) f (stream_data t stream) end) (sym same) (found_updates (names flash stream) bytes (stream_data t stream) end h)

update_due : (known : Option Known) (bytes : Option (List ℕ)) (flash stream : List ℕ) (end : Result Answer Event) → IsTold known flash bytes → IsPossible end × IsDecided end
    → ((t : Known) → known ≡ Some t → UpdatesBytes (names flash stream) bytes (stream_data t stream) end) → IsDue {A = Answer} known (λ t end. FormGives t (form.Update flash stream) end) end
update_due None bytes flash stream end same o h = o.0
update_due (Some t) bytes flash stream end same o h = (o.1, update_given t bytes flash stream end (same t refl) (h t refl))

update_over : (flash stream : List ℕ) (old new : Outside) (end : Result Answer Event) → IsPossible end × IsDecided end
    → ((t : Known) → known_in old new ≡ Some t → UpdatesBytes (names flash stream) old.flash.bytes (stream_data t stream) end) → AnswersOver (form.Update flash stream) old new end
update_over flash stream old new end o h = inr (update_due (known_in old new) old.flash.bytes flash stream end (known_flash new.inputs.contents old.flash.bytes flash) o h)

agreed : (known : Option Known) (bytes : Option (List ℕ)) (flash stream : List ℕ) (end : Result Answer Event) → IsTold known flash bytes
    → ((t : Known) → known ≡ Some t → UpdatesBytes (names flash stream) bytes (stream_data t stream) end) → GivesIfKnown known (form.Update flash stream) end
agreed None bytes flash stream end same h = tt
agreed (Some t) bytes flash stream end same h = update_given t bytes flash stream end (same t refl) (h t refl)

-- ---- mishaps

-- a mishap of the flash is the first event
flash_mishap : (m : Mishap) (t : Known) (flash stream : List ℕ) (read : Result (List ℕ) Event) → spoiled_name m ≡ flash → FlashUpdates (names flash stream) ((with_mishap m t).flash flash) read (Err (mishap_event m))
flash_mishap (Failing other given) t flash stream read e = let here = same_as_itself flash in rw (e, here) refl
flash_mishap (Lacking other) t flash stream read e = let here = same_as_itself flash in rw (e, here) refl

flash_due : (known : Option Known) (m : Mishap) (flash stream : List ℕ) → spoiled_name m ≡ flash → DueBy {A = Answer} known m (λ t end. FormGives t (form.Update flash stream) end) (mishap_event m)
flash_due None m flash stream e = tt
flash_due (Some t) m flash stream e = flash_mishap m t flash stream (stream_data (with_mishap m t) stream) e

-- the event of a stream that was not read
unread_known : (n : UpdateNames) (bytes : Option (List ℕ)) (read : Result (List ℕ) Event) (event : Event) → IsWithin bytes → read ≡ Err event → UpdatesBytes n bytes read (Err event)
unread_known n bytes read event within e = inr (within, subst (λ (r : Result (List ℕ) Event). UpdatesWith n bytes r (Err event)) (sym e) refl)

spared : (b : Bool) (x y : Option Found) → b ≡ false → (if b then x else y) ≡ y
spared true x y e = absurd (cc)
spared false x y e = refl

-- a mishap of the stream, or of a flash of the same name
stream_mishap : (b : Bool) (m : Mishap) (t : Known) (bytes : Option (List ℕ)) (flash stream : List ℕ) (event : Event) → bytes_eq flash (spoiled_name m) ≡ b → mishap_event m ≡ event → t.flash flash ≡ flash_found bytes → IsWithin bytes
    → stream_data (with_mishap m t) stream ≡ Err event → FormGives (with_mishap m t) (form.Update flash stream) (Err event)
stream_mishap true m t bytes flash stream event b e same within h =
    let read = stream_data (with_mishap m t) stream in
    subst (λ (x : Event). FlashUpdates (names flash stream) ((with_mishap m t).flash flash) read (Err x)) e (flash_mishap m t flash stream read (sym (same_by_test flash (spoiled_name m) b)))
stream_mishap false m t bytes flash stream event b e same within h =
    update_given (with_mishap m t) bytes flash stream (Err event) (spared (bytes_eq flash (spoiled_name m)) (Some (spoiled m Absent)) (t.flash flash) b ∙ same)
    (unread_known (names flash stream) bytes (stream_data (with_mishap m t) stream) event within h)

stream_due : (known : Option Known) (m : Mishap) (bytes : Option (List ℕ)) (flash stream : List ℕ) (event : Event) → mishap_event m ≡ event → IsTold known flash bytes → IsWithin bytes → DueBy {A = List ℕ} known m (λ t r. stream_data t stream ≡ r) event
    → DueBy {A = Answer} known m (λ t end. FormGives t (form.Update flash stream) end) event
stream_due None m bytes flash stream event e same within h = tt
stream_due (Some t) m bytes flash stream event e same within h = stream_mishap (bytes_eq flash (spoiled_name m)) m t bytes flash stream event refl e (same t refl) within h

unread_due : (known : Option Known) (bytes : Option (List ℕ)) (flash stream : List ℕ) (event : Event) → IsTold known flash bytes → IsWithin bytes → IsDue {A = List ℕ} known (λ t r. stream_data t stream ≡ r) (Err event)
    → IsDue {A = Answer} known (λ t end. FormGives t (form.Update flash stream) end) (Err event)
unread_due None bytes flash stream event same within h = h
unread_due (Some t) bytes flash stream event same within h = (h.0, update_given t bytes flash stream (Err event) (same t refl) (unread_known (names flash stream) bytes (stream_data t stream) event within h.1))

-- ---- how an update ends

-- a flash that can't be used, by its size
pub attach_refused_measured : (form : Option AskedForm) (name : List ℕ) (old new : FlashState) (event : Event) → IsUnattachedOrLarge name old new event → IsMeasured form new (Err event)
attach_refused_measured form name old new event (inl h) = unattached_measured form name old new event h.0
attach_refused_measured form name old new event (inr h) = λ other a e. inl h.1

-- the event of a stream that was not read says nothing of how large the flash is
pub unplayed_measured : (form : Option AskedForm) (new : FlashState) (name : List ℕ) (event : Event) → Among (names_of form) name → IsUnplayed name event → IsMeasured form new (Err event)
unplayed_measured form new name event a (inl h) = unread_measured form new name event a h
unplayed_measured form new name event a (inr h) = bad_small form new name (input.Byte h.0) event h.1

-- a flash that could not be attached, and a stream that was not read: the event is no fault of a flash that is attached
pub attach_refused_last : (form : AskedForm) (name : List ℕ) (inputs : InputsState) (old new : FlashState) (event : Event) → IsUnattachedOrLarge name old new event → FailsLast (Some form) inputs new (Err event)
attach_refused_last form name inputs old new event (inl h) = detached form inputs new event h.1
attach_refused_last form name inputs old new event (inr h) = other_fault (Some form) inputs new event (too_large name) h.0 (λ r. absurd (cc))

pub unplayed_last : (form : AskedForm) (inputs : InputsState) (new : FlashState) (name : List ℕ) (event : Event) → Among (names_of (Some form)) name → IsUnplayed name event → FailsLast (Some form) inputs new (Err event)
unplayed_last form inputs new name event a (inl h) = unread_last form inputs new name event a h
unplayed_last form inputs new name event a (inr h) = other_fault (Some form) inputs new event (bad_input name (input.Byte h.0)) h.1 (λ r. absurd (cc))

-- a fault of an update says nothing of the size of a flash
fault_measured : (form : Option AskedForm) (n : UpdateNames) (new : FlashState) (fault : UpdateFault) → IsMeasured form new (Err (update_event n fault))
fault_measured form n new (Failed true) = not_large form new writing_failed (λ r. absurd (cc))
fault_measured form n new (Failed false) = not_large form new (reading_failed n.flash) (λ r. absurd (cc))
fault_measured form n new TooLong = not_large form new (bad_input n.stream input.Long) (λ r. absurd (cc))
fault_measured form n new (NoLayout place) = not_large form new (bad_input n.flash (input.Layout place)) (λ r. absurd (cc))
fault_measured form n new (Differs place wrote read) = not_large form new (differs n.flash place) (λ r. absurd (cc))
fault_measured form n new NoMemory = not_large form new no_memory (λ r. absurd (cc))

-- a flash that can't be used
pub attach_refused_over : (flash stream : List ℕ) (old new : Outside) (event : Event) → IsUnattachedOrLarge flash old.flash new.flash event → AnswersOver (form.Update flash stream) old new (Err event)
attach_refused_over flash stream old new event (inl (inl h, d)) =
    subst (λ (e : Event). AnswersOver (form.Update flash stream) old new (Err e)) (sym h.0) (inl (inr (record { mishap = Lacking flash; came = inr h.1; reports = refl; due = flash_due (known_in old new) (Lacking flash) flash stream refl })))
attach_refused_over flash stream old new event (inl (inr h, d)) =
    subst (λ (e : Event). AnswersOver (form.Update flash stream) old new (Err e)) (sym h.0) (inl (inr (record { mishap = Failing flash new.inputs.given; came = (refl, inr h.1); reports = refl; due = flash_due (known_in old new) (Failing flash new.inputs.given) flash stream refl })))
attach_refused_over flash stream old new event (inr h) =
    subst (λ (e : Event). AnswersOver (form.Update flash stream) old new (Err e)) (sym h.0) (update_over flash stream old new (Err (too_large flash)) (tt, tt) (λ t e. inl (h.2, refl)))

-- a stream that was not read
pub unread_over : (flash stream : List ℕ) (old new : Outside) (event : Event) → IsWithin old.flash.bytes
    → IsCaused {A = List ℕ} (known_in old new) (CameIn (step_over (stream ∷ []) old.inputs new.inputs)) (λ t. stream_data t stream) (Err event) → AnswersOver (form.Update flash stream) old new (Err event)
unread_over flash stream old new event within (inl h) =
    inl (outside_goes (List ℕ) Answer (known_in old new) (CameIn (step_over (stream ∷ []) old.inputs new.inputs)) (CameInRun (Some (form.Update flash stream)) old new) (λ t r. stream_data t stream ≡ r) (λ t end. FormGives t (form.Update flash stream) end) event
    (came_wider (form.Update flash stream) old new) (λ m e x. stream_due (known_in old new) m old.flash.bytes flash stream event e (known_flash new.inputs.contents old.flash.bytes flash) within x) h)
unread_over flash stream old new event within (inr h) = inr (unread_due (known_in old new) old.flash.bytes flash stream event (known_flash new.inputs.contents old.flash.bytes flash) within h)

-- what was written to the output is what it had
out_same : (old new : Outside) → new.out ≡ old.out → new.out.written ≡ old.out.written
out_same old new e = ap (λ (s : SinkState). s.written) e

-- bytes that stay, whatever the reason
pub keeps_all : (reason : Why) (old new : FlashState) → new.bytes ≡ old.bytes → BytesAfterReason reason old new
keeps_all why.ReadFault old new e = inr e
keeps_all why.WriteFault old new e = tt
keeps_all (why.Differs place) old new e = tt
keeps_all reason old new e = e

-- an update that was refused
pub refused_ends : (flash stream : List ℕ) (old new : Outside) (event : Event) → new.out ≡ old.out → IsMeasured (Some (form.Update flash stream)) new.flash (Err event)
    → FailsLast (Some (form.Update flash stream)) new.inputs new.flash (Err event) → AnswersOver (form.Update flash stream) old new (Err event) → BytesAfterReason event.reason old.flash new.flash
    → RefusesUpdate (names flash stream) old new event → CommandEndsAs (Some (form.Update flash stream)) old new (Err event)
refused_ends flash stream old new event out m l a kept called =
    let asked_form = form.Update flash stream in
    record {
      cause = has_cause asked_form old new (Err event) a;
      wrote = leaves_all asked_form (cause_of_event event) old new event refl (no_break (known_in old new) (CameInRun (Some asked_form) old new) (λ t end. FormGives t asked_form end) event a) (out_same old new out);
      near = near_all asked_form (status_of_event event) old new refl;
      measured = m;
      fails_last = l;
      updates = kept;
      called = called;
      as_read = tt;
    }

-- the data of a stream that was read
data_read : (known : Option Known) (C : Mishap → Type 0) (stream bytes : List ℕ) → IsCaused {A = List ℕ} known C (λ t. stream_data t stream) (Ok bytes) → HasData known stream bytes
data_read None C stream bytes h = tt
data_read (Some t) C stream bytes (inl h) = absurd h
data_read (Some t) C stream bytes (inr h) = h.1

-- the data that an update was given are those of its stream
pub data_given : (known : Option Known) (C : Mishap → Type 0) (stream bytes given_bytes : List ℕ) → IsCaused {A = List ℕ} known C (λ t. stream_data t stream) (Ok bytes) → given_bytes ≡ bytes → HasData known stream given_bytes
data_given known C stream bytes given_bytes h e = subst (λ (b : List ℕ). HasData known stream b) (sym e) (data_read known C stream bytes h)

-- the bytes from a place on, as a slice
pub rest_of : (xs ys : List ℕ) (start : ℕ) → xs ≡ ys → take (length xs - start) (drop start xs) ≡ drop start ys
rest_of xs ys start e = take_all (length xs - start) (drop start xs) (omega (arith, length-drop start xs)) ∙ ap (drop start) e

data_at : (known : Option Known) (stream bytes : List ℕ) → HasData known stream bytes → (t : Known) → known ≡ Some t → stream_data t stream ≡ Ok bytes
data_at known stream bytes h t e = let at : HasData (Some t) stream bytes = subst (λ (k : Option Known). HasData k stream bytes) e h in at

-- a refusal by what the flash holds
fault_known : (n : UpdateNames) (known : Option (List ℕ)) (read : Result (List ℕ) Event) (bytes : List ℕ) (fault : UpdateFault) → IsWithin known → read ≡ Ok bytes → IsUpdateFault known bytes fault → UpdatesBytes n known read (Err (update_event n fault))
fault_known n known read bytes fault within e h = inr (within, subst (λ (r : Result (List ℕ) Event). UpdatesWith n known r (Err (update_event n fault))) (sym e) (fault, h, refl))

-- a refusal's cause since before the attach
pub cause_from : (bytes : List ℕ) (a b c : FlashState) (fault : UpdateFault) → b.bytes ≡ a.bytes → b.write_faults ≡ a.write_faults → a.faults ≤ b.faults → HasCause bytes b c fault → HasCause bytes a c fault
cause_from bytes a b c (Failed true) e w f h = (subst (λ (n : ℕ). HasRisen n c.write_faults) w h.0, h.1, subst (λ (o : Option (List ℕ)). IfKnown o (CanBeUpdatedWith bytes)) e h.2)
cause_from bytes a b c (Failed false) e w f h = (risen_from a.faults b.faults c.faults f h.0, h.1)
cause_from bytes a b c TooLong e w f h = subst (λ (o : Option (List ℕ)). IfKnown o (IsTooLong bytes)) e h
cause_from bytes a b c (NoLayout place) e w f h = subst (λ (o : Option (List ℕ)). IfKnown o (λ flash. NoLayoutAt (length flash) flash place)) e h
cause_from bytes a b c (Differs place wrote read) e w f h = sym e ∙ h
cause_from bytes a b c NoMemory e w f h = tt

-- the flash can take the stream's data
could_end : (flash stream bytes : List ℕ) (old new : Outside) → IsWithin old.flash.bytes → HasData (known_in old new) stream bytes → IfKnown old.flash.bytes (CanBeUpdatedWith bytes) → GivesIfKnown (known_in old new) (form.Update flash stream) (Ok no_text)
could_end flash stream bytes old new within has can =
    let known = old.flash.bytes in
    let n = names flash stream in
    agreed (known_in old new) known flash stream (Ok no_text) (known_flash new.inputs.contents known flash)
    (λ t e. inr (within, subst (λ (r : Result (List ℕ) Event). UpdatesWith n known r (Ok no_text)) (sym (data_at (known_in old new) stream bytes has t e)) (refl, can)))

-- the stream is good, whatever the flash holds
stream_good : (contents : Option (List ℕ → Option (List ℕ))) (flash stream bytes : List ℕ) → HasData (with_inputs contents None) stream bytes → GivesIfKnown (with_inputs contents None) (form.Update flash stream) (Ok no_text)
stream_good None flash stream bytes h = tt
stream_good (Some inputs) flash stream bytes h = inr (tt, subst (λ (r : Result (List ℕ) Event). UpdatesWith (names flash stream) None r (Ok no_text)) (sym h) (refl, tt))

-- which fault of an update is one of a flash that is attached
fault_last : (flash stream bytes : List ℕ) (inputs : InputsState) (new : FlashState) (fault : UpdateFault) → HasData (with_inputs inputs.contents None) stream bytes → new.extent ≤ flash_limit
    → FailsLast (Some (form.Update flash stream)) inputs new (Err (update_event (names flash stream) fault))
fault_last flash stream bytes inputs new (Failed true) has size = not_fault (Some (form.Update flash stream)) inputs new writing_failed (λ r. absurd (cc))
fault_last flash stream bytes inputs new (Failed false) has size = λ name a e at. inl (size, (no_text, stream_good inputs.contents flash stream bytes has))
fault_last flash stream bytes inputs new TooLong has size = not_fault (Some (form.Update flash stream)) inputs new (bad_input stream input.Long) (λ r. absurd (cc))
fault_last flash stream bytes inputs new (NoLayout place) has size = not_fault (Some (form.Update flash stream)) inputs new (bad_input flash (input.Layout place)) (λ r. absurd (cc))
fault_last flash stream bytes inputs new (Differs place wrote read) has size = not_fault (Some (form.Update flash stream)) inputs new (differs flash place) (λ r. absurd (cc))
fault_last flash stream bytes inputs new NoMemory has size = not_fault (Some (form.Update flash stream)) inputs new no_memory (λ r. absurd (cc))

-- an update that came to no end
pub fault_ends : (flash stream bytes : List ℕ) (old new : Outside) (fault : UpdateFault) → new.out ≡ old.out → IsAskedFor flash old.flash new.flash → IsWithin old.flash.bytes → HasData (known_in old new) stream bytes
    → HasData (with_inputs new.inputs.contents None) stream bytes → new.flash.extent ≤ flash_limit → HasCause bytes old.flash new.flash fault → (IsEarly fault → new.flash.bytes ≡ old.flash.bytes)
    → RefusesUpdate (names flash stream) old new (update_event (names flash stream) fault) → CommandEndsAs (Some (form.Update flash stream)) old new (Err (update_event (names flash stream) fault))
fault_ends flash stream bytes old new (Failed true) out asked within has reads size h early called =
    record {
      cause = (refl, inr (h.0, size, could_end flash stream bytes old new within has h.2));
      fails_last = fault_last flash stream bytes new.inputs new.flash (Failed true) reads size;
      wrote = out_same old new out;
      near = near_all
          (form.Update flash stream) (status_of_event writing_failed) old new refl;
      measured = fault_measured (Some (form.Update flash stream)) (names flash stream) new.flash
          (Failed true);
      updates = tt;
      called = called;
      as_read = tt;
    }
fault_ends flash stream bytes old new (Failed false) out asked within has reads size h early called =
    refused_ends flash stream old new (reading_failed flash) out (fault_measured (Some (form.Update flash stream)) (names flash stream) new.flash (Failed false)) (fault_last flash stream bytes new.inputs new.flash (Failed false) reads size)
    (inl (inr (record { mishap = Failing flash new.inputs.given; came = (refl, inr (record { among = inl refl; asked = asked; risen = h.0 })); reports = refl; due = flash_due (known_in old new) (Failing flash new.inputs.given) flash stream refl }))) (inl h.0) called
fault_ends flash stream bytes old new TooLong out asked within has reads size h early called =
    refused_ends flash stream old new (bad_input stream input.Long) out (fault_measured (Some (form.Update flash stream)) (names flash stream) new.flash TooLong) (fault_last flash stream bytes new.inputs new.flash TooLong reads size)
    (update_over flash stream old new (Err (bad_input stream input.Long)) (tt, tt) (λ t e. fault_known (names flash stream) old.flash.bytes (stream_data t stream) bytes TooLong within (data_at (known_in old new) stream bytes has t e) h)) (early tt) called
fault_ends flash stream bytes old new (NoLayout place) out asked within has reads size h early called =
    refused_ends flash stream old new (bad_input flash (input.Layout place)) out (fault_measured (Some (form.Update flash stream)) (names flash stream) new.flash (NoLayout place)) (fault_last flash stream bytes new.inputs new.flash (NoLayout place) reads size)
    (update_over flash stream old new (Err (bad_input flash (input.Layout place))) (tt, tt)
    (λ t e. fault_known (names flash stream) old.flash.bytes (stream_data t stream) bytes (NoLayout place) within (data_at (known_in old new) stream bytes has t e) h)) (early tt) called
fault_ends flash stream bytes old new (Differs place wrote read) out asked within has reads size h early called = record {
  cause = (
    (place, refl, h),
    agreed (known_in old new) old.flash.bytes flash stream (Err (differs flash place)) (known_flash new.inputs.contents old.flash.bytes flash)
        (λ t e. fault_known (names flash stream) old.flash.bytes (stream_data t stream) bytes (Differs place wrote read) within (data_at (known_in old new) stream bytes has t e) h),
  );
  wrote = out_same old new out;
  near = near_all (form.Update flash stream) (status_of_event (differs flash place)) old new refl;
  measured = fault_measured (Some (form.Update flash stream)) (names flash stream) new.flash (Differs place wrote read);
  fails_last = fault_last flash stream bytes new.inputs new.flash (Differs place wrote read) reads size;
  updates = tt;
  called = called;
  as_read = tt;
}
fault_ends flash stream bytes old new NoMemory out asked within has reads size h early called = refused_ends flash stream old new no_memory out
    (fault_measured (Some (form.Update flash stream)) (names flash stream) new.flash NoMemory) (fault_last flash stream bytes new.inputs new.flash NoMemory reads size) (inl (inl refl)) (early tt) called

can_take : (known now : Option (List ℕ)) (bytes : List ℕ) → IfKnown known IsUpdatable → BecomesBytes (IsAfterUpdate bytes) known now → IfKnown known (CanBeUpdatedWith bytes)
can_take None now bytes l b = tt
can_take (Some all) now bytes l b = record { updatable = l; fits = b.2.fits }

-- an update that is done
pub done_ends : (flash stream bytes : List ℕ) (old new : Outside) → new.out ≡ old.out → IsWithin old.flash.bytes → HasData (known_in old new) stream bytes → IfKnown old.flash.bytes IsUpdatable → new.flash.extent ≤ flash_limit → Becomes old.flash new.flash (IsAfterUpdate bytes)
    → CallsUpdate flash bytes old.flash new.flash → CommandEndsAs (Some (form.Update flash stream)) old new (Ok false)
done_ends flash stream bytes old new out within has updatable size becomes called =
    let known = old.flash.bytes in (
      [],
      record {
        cause = could_end flash stream bytes old new within has (can_take known new.flash.bytes bytes updatable becomes);
        wrote = out_same old new out ∙ sym (appended_nil old.out.written);
        near = near_all (form.Update flash stream) (text_status false) old new refl;
        measured = λ name a. size;
        fails_last = tt;
        updates = (bytes, has, becomes);
        called = (bytes, has, called);
        as_read = tt;
      },
    )

-- ---- what an update leaves of the flash

-- a flash that was attached at most
pub uses_opened : (flash stream : List ℕ) (inputs : InputsState) (old new : FlashState) → KeepsBytes old new → IsAskedFor flash old new → OnlyAttaches flash old new → UsesFlash (Some (form.Update flash stream)) (sources inputs old) new
uses_opened flash stream inputs old new s a only = record {
  keeps = record { faults = s.faults; absences = s.absences; write_faults = omega (arith, s.write_faults); asked = inr a };
  follows = attached_follows flash old new s only;
  left = λ f found long fits h. inl (attached_leaves flash old new f found only h);
}

-- a flash that was attached and updated
pub uses_updated : (flash stream : List ℕ) (inputs : InputsState) (old mid new : FlashState) → KeepsBytes old mid → IsAskedFor flash old mid → OnlyAttaches flash old mid → OnlyUses mid new → FollowsCalls mid new → LeavesAnyFlash (Some (form.Update flash stream)) (sources inputs old) new
    → UsesFlash (Some (form.Update flash stream)) (sources inputs old) new
uses_updated flash stream inputs old mid new s a only o follows left = record {
  keeps = record {
    faults = omega (arith, s.faults, o.faults);
    absences = omega (arith, s.absences, o.absences);
    write_faults = omega (arith, s.write_faults, o.write_faults);
    asked = inr (o.names ∙ a);
  };
  follows = follow_on old mid new (attached_follows flash old mid s only) follows;
  left = left;
}
