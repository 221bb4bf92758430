-- A flash text that gives an image, and one that gives none.
use Rattle.std.proofs.Common.{◌≡◌, ℕ, List, [], ◌∷◌, false, Result, Ok, Err, MatchResult, refl, ap, subst, ◌⊎◌, inl, inr}
use Rattle.x7_words.specs.Input.{InputsState}
use Rattle.x7_mcs.specs.Flash.{mcs_of}
use Rattle.x7_mcs.specs.McsLines.{HasMcsFault}
use Rattle.x7_text.specs.Lines.{split}
use Rattle.x7_mcs.specs.declared.fault.McsFault.{McsFault}
use Rattle.x7_mcs.specs.declared.fault.McsFault.TheVariants as mcs
use Rattle.x7_forms.specs.Event.{Event, no_memory}
use Rattle.x7_forms.specs.AskedForm as form
use Rattle.x7_forms.specs.Known.{Answer, and_so, whole_known, text_limit}
use Rattle.x7_forms.specs.Step.{IsDecided, IsPossible, ReadsWhole}
use Rattle.x7_forms.proofs.ReadLemmas.{answers_end, whole_steady}
use Rattle.x7_outcome.specs.Outcome.{mcs_event, mcs_image, mcs_read}
use Rattle.x7_outcome.specs.Ending.{AnswersForm}
use Rattle.x7_outcome.proofs.FeedLemmas.{unread_by}

-- want of memory is free, and any other fault is the text's
faulted_by : (name text : List ℕ) (f : McsFault) → HasMcsFault f (split text)
    → let got : Result Answer Event = Err (mcs_event name f) in (got ≡ Err no_memory) ⊎ (IsPossible got × IsDecided got × (mcs_image name (mcs_of text) ≡ got))
faulted_by name text mcs.NoMemory h = inl refl
faulted_by name text (mcs.Line n) (inl e) = absurd (cc)
faulted_by name text (mcs.Line n) (inr h) = inr (tt, tt, ap (mcs_image name) h)
faulted_by name text (mcs.Sum n want got) (inl e) = absurd (cc)
faulted_by name text (mcs.Sum n want got) (inr h) = inr (tt, tt, ap (mcs_image name) h)
faulted_by name text (mcs.Overlap place) (inl e) = absurd (cc)
faulted_by name text (mcs.Overlap place) (inr h) = inr (tt, tt, ap (mcs_image name) h)
faulted_by name text mcs.NoEnd (inl e) = absurd (cc)
faulted_by name text mcs.NoEnd (inr h) = inr (tt, tt, ap (mcs_image name) h)
faulted_by name text (mcs.TooLarge n) (inl e) = absurd (cc)
faulted_by name text (mcs.TooLarge n) (inr h) = inr (tt, tt, ap (mcs_image name) h)

-- a text that was read to its end
module _ {V : Type 0} (items : V → List ℕ) (old new : InputsState) (name text : List ℕ) (read : Result V McsFault) (h : MatchResult read (λ v. mcs_of text ≡ Ok (items v)) (λ f. HasMcsFault f (split text))) (whole : ReadsWhole old new text_limit name (Ok text)) where
  ended : (r : Result V McsFault) → read ≡ r → MatchResult r (λ v. mcs_of text ≡ Ok (items v)) (λ f. HasMcsFault f (split text))
  ended r e = subst (λ o. MatchResult o (λ v. mcs_of text ≡ Ok (items v)) (λ f. HasMcsFault f (split text))) e h

  pub mcs_faulted : (f : McsFault) (event : Event) → read ≡ Err f → mcs_event name f ≡ event → AnswersForm (form.Unmcs name) old new (Err event)
  mcs_faulted f event r e =
      subst (λ (x : Event). AnswersForm (form.Unmcs name) old new (Err x)) e
      (answers_end (List ℕ) Answer (name ∷ []) old new (λ t. whole_known t text_limit name) (λ bytes. mcs_image name (mcs_of bytes)) text (Err (mcs_event name f)) (whole_steady text_limit name) whole (faulted_by name text f (ended (Err f) r)))

  pub mcs_given : (v : V) → read ≡ Ok v → AnswersForm (form.Unmcs name) old new (Ok (record { stopped = false; text = items v }))
  mcs_given v r =
      answers_end (List ℕ) Answer (name ∷ []) old new (λ t. whole_known t text_limit name) (λ bytes. mcs_image name (mcs_of bytes)) text (Ok (record { stopped = false; text = items v })) (whole_steady text_limit name) whole (inr (tt, tt, ap (mcs_image name) (ended (Ok v) r)))

pub mcs_unread : (old new : InputsState) (name : List ℕ) (event : Event) → ReadsWhole old new text_limit name (Err event) → AnswersForm (form.Unmcs name) old new (Err event)
mcs_unread old new name event h = unread_by name text_limit (λ t end. mcs_read t name ≡ end) old new event (λ t e. ap (λ (r : Result (List ℕ) Event). and_so r (λ bytes. mcs_image name (mcs_of bytes))) e) h
