-- A part and then a text that are read.
use Rattle.std.proofs.Common.{inr, ℕ, List, [], ◌∷◌, Ok, Err, refl}
use Rattle.x7_part.specs.Part.{PartData}
use Rattle.x7_words.specs.Input.{InputsState, InputsStay}
use Rattle.x7_forms.specs.Event.{Event}
use Rattle.x7_forms.specs.Known.{and_so, part_known, whole_known, text_limit}
use Rattle.x7_forms.specs.Step.{AnswersAs, ReadsWhole, step_over}
use Rattle.x7_forms.proofs.ReadLemmas.{answers_end, answers_go, answers_stop, part_steady, whole_steady}
use Rattle.x7_outcome.specs.Outcome.{PartAndText, part_and_text}

-- the part and the text were read
pub texts_read : (part frames : List ℕ) (old mid new : InputsState) (p : PartData) (text : List ℕ) → InputsStay old mid → InputsStay mid new → AnswersAs {A = PartData} (step_over (part ∷ []) old mid) (λ t. part_known t part) (Ok p) → ReadsWhole mid new text_limit frames (Ok text)
    → AnswersAs {A = PartAndText} (step_over (part ∷ frames ∷ []) old new) (λ t. part_and_text t part frames) (Ok (record { part = p; text = text }))
texts_read part frames old mid new p text stays later h r =
    answers_go PartData PartAndText (part ∷ []) (frames ∷ []) (part ∷ frames ∷ []) old mid new (λ t. part_known t part) (λ t q. and_so (whole_known t text_limit frames) (λ bytes. Ok (record { part = q; text = bytes }))) p (Ok (record { part = p; text = text }))
    (part_steady part) stays later (λ n k. inr k) h
    (answers_end (List ℕ) PartAndText (frames ∷ []) mid new (λ t. whole_known t text_limit frames) (λ bytes. Ok (record { part = p; text = bytes })) text (Ok (record { part = p; text = text })) (whole_steady text_limit frames) r (inr (tt, tt, refl)))

-- the part was read, and the text was not
pub texts_unread : (part frames : List ℕ) (old mid new : InputsState) (p : PartData) (event : Event) → InputsStay old mid → InputsStay mid new → AnswersAs {A = PartData} (step_over (part ∷ []) old mid) (λ t. part_known t part) (Ok p) → ReadsWhole mid new text_limit frames (Err event)
    → AnswersAs {A = PartAndText} (step_over (part ∷ frames ∷ []) old new) (λ t. part_and_text t part frames) (Err event)
texts_unread part frames old mid new p event stays later h r =
    answers_go PartData PartAndText (part ∷ []) (frames ∷ []) (part ∷ frames ∷ []) old mid new (λ t. part_known t part) (λ t q. and_so (whole_known t text_limit frames) (λ bytes. Ok (record { part = q; text = bytes }))) p (Err event)
    (part_steady part) stays later (λ n k. inr k) h
    (answers_stop (List ℕ) PartAndText (frames ∷ []) (frames ∷ []) mid new (λ t. whole_known t text_limit frames) (λ t bytes. Ok (record { part = p; text = bytes })) event (λ n k. k) r)
