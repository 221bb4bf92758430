-- Where reading stops of a form whose text was put, and the order in which flash and inputs are asked for.
use Rattle.std.proofs.Common.{◌≡◌, ℕ, List, Bool, Some, Result, Ok, Err, inl, inr, subst, sym}
use Rattle.x7_words.specs.Input.{InputsState}
use Rattle.x7_words.specs.Sink.{SinkState}
use Rattle.x7_forms.specs.Event.{Event, cause_of_event}
use Rattle.x7_forms.specs.Form.{Unused, flash_use}
use Rattle.x7_forms.specs.AskedForm.{AskedForm}
use Rattle.x7_forms.specs.AskedForm as form
use Rattle.x7_forms.specs.Known.{Answer}
use Rattle.x7_outcome.specs.Outside.{Sources}
use Rattle.x7_outcome.specs.Ending.{JudgesFlash, PutsAnswer}
use Rattle.x7_outcome.specs.Stopping.{StopsReading, StopsBy}

-- ---- where reading stops

-- a text that is ready, or none, and how it was written
pub puts_stop : (form : AskedForm) (first now : InputsState) (whole : Result Answer Event) (old new : SinkState) (got : Result Bool Event) → StopsReading (Some form) first now whole → PutsAnswer whole old new got → StopsReading (Some form) first now got
puts_stop form first now (Err event) old new got s p = subst (λ (r : Result Bool Event). StopsReading (Some form) first now r) (sym p.0) s
puts_stop form first now (Ok answer) old new (Ok stopped) s p = tt
puts_stop form first now (Ok answer) old new (Err event) s p = subst (λ (x : Event). StopsBy (cause_of_event x) form first now x) (sym p.0) tt

-- ---- what an update asks for where its flash can't be used

-- a form that uses no flash judges none
pub unused_judges : {A : Type 0} (form : AskedForm) (old new : Sources) (got : Result A Event) → flash_use (Some form) ≡ Unused → JudgesFlash {A = A} (Some form) old new got
unused_judges (form.Update flash stream) old new got u = absurd (cc)
unused_judges (form.Boot part flash) old new got u = absurd (cc)
unused_judges form old new got u = tt

pub done_judges : (form : AskedForm) (old new : Sources) (answer : Answer) → JudgesFlash {A = Answer} (Some form) old new (Ok answer)
done_judges (form.Update flash stream) old new answer = tt
done_judges (form.Boot part flash) old new answer = tt
done_judges form old new answer = tt

pub refused_judges : (form : AskedForm) (old new : Sources) (event : Event) → JudgesFlash {A = Bool} (Some form) old new (Err event) → JudgesFlash {A = Answer} (Some form) old new (Err event)
refused_judges (form.Update flash stream) old new event j = j
refused_judges (form.Boot part flash) old new event j = j
refused_judges form old new event j = tt

-- ---- that a boot touches its flash last

-- a text of a boot that is ready, or none, and how it was written
pub boot_judges : (part flash : List ℕ) (old new : Sources) (whole : Result Answer Event) (before after : SinkState) (got : Result Bool Event) → JudgesFlash {A = Answer} (Some (form.Boot part flash)) old new whole → PutsAnswer whole before after got
    → JudgesFlash {A = Bool} (Some (form.Boot part flash)) old new got
boot_judges part flash old new (Err event) before after got j p = subst (λ (r : Result Bool Event). JudgesFlash {A = Bool} (Some (form.Boot part flash)) old new r) (sym p.0) j
boot_judges part flash old new (Ok answer) before after (Ok stopped) j p = tt
boot_judges part flash old new (Ok answer) before after (Err event) j p = inr (inl p.0)
