-- A text that assembles to nothing.
use Rattle.std.proofs.Common.{◌≡◌, ℕ, List, [], ◌∷◌, Result, Ok, Err, MatchResult, false, refl, subst, sym, inl, inr, ◌⊎◌}
use Rattle.x7_listing.specs.Assembly.{IsAsm}
use Rattle.x7_listing.specs.declared.assembler.AsmFault.{AsmFault}
use Rattle.x7_listing.specs.declared.assembler.AsmFault.TheVariants as fault
use Rattle.x7_words.specs.Input.{InputsState}
use Rattle.x7_forms.specs.Event.{Event, no_memory}
use Rattle.x7_forms.specs.Known.{Answer, whole_known, text_limit}
use Rattle.x7_outcome.specs.Outcome.{AssembledAs, asm_event}
use Rattle.x7_forms.specs.Step.{IsDecided, IsPossible, ReadsWhole}
use Rattle.x7_forms.specs.AskedForm as form
use Rattle.x7_outcome.specs.Ending.{AnswersForm}
use Rattle.x7_forms.proofs.ReadLemmas.{answers_by}
use Rattle.x7_outcome.proofs.FeedLemmas.{unread_by}

-- the fault is the first of the text, or want of memory, which says nothing of the text
abbrev pub IsAsmFault : AsmFault → List ℕ → Type 0
IsAsmFault f text = (f ≡ fault.NoMemory) ⊎ IsAsm text (Err f)

-- want of memory is free, and any other fault is the text's
faulted_by : (name text : List ℕ) (f : AsmFault) → IsAsmFault f text
    → let got : Result Answer Event = Err (asm_event name f) in (got ≡ Err no_memory) ⊎ (IsPossible got × IsDecided got × AssembledAs name (Ok text) got)
faulted_by name text fault.NoMemory h = inl refl
faulted_by name text (fault.Line n) (inl e) = absurd (cc)
faulted_by name text (fault.Line n) (inr h) = inr (tt, tt, (fault.Line n, (h, refl)))
faulted_by name text (fault.TooLong n) (inl e) = absurd (cc)
faulted_by name text (fault.TooLong n) (inr h) = inr (tt, tt, (fault.TooLong n, (h, refl)))

-- a text that was read to its end
module _ {V : Type 0} (items : V → List ℕ) (old new : InputsState) (name text : List ℕ) (read : Result V AsmFault) (h : MatchResult read (λ v. IsAsm text (Ok (items v))) (λ f. IsAsmFault f text)) (whole : ReadsWhole old new text_limit name (Ok text)) where
  ended : (r : Result V AsmFault) → read ≡ r → MatchResult r (λ v. IsAsm text (Ok (items v))) (λ f. IsAsmFault f text)
  ended r e = subst (λ o. MatchResult o (λ v. IsAsm text (Ok (items v))) (λ f. IsAsmFault f text)) e h

  pub asm_faulted : (f : AsmFault) (event : Event) → read ≡ Err f → asm_event name f ≡ event → AnswersForm (form.Asm name) old new (Err event)
  asm_faulted f event r e =
      subst (λ (x : Event). AnswersForm (form.Asm name) old new (Err x)) e
      (answers_by (List ℕ) Answer (name ∷ []) old new (λ t. whole_known t text_limit name) text (AssembledAs name) (Err (asm_event name f)) whole (faulted_by name text f (ended (Err f) r)))

  pub asm_given : (v : V) → read ≡ Ok v → AnswersForm (form.Asm name) old new (Ok (record { stopped = false; text = items v }))
  asm_given v r = answers_by (List ℕ) Answer (name ∷ []) old new (λ t. whole_known t text_limit name) text (AssembledAs name) (Ok (record { stopped = false; text = items v })) whole (inr (tt, tt, (refl, ended (Ok v) r)))

pub asm_unread : (old new : InputsState) (name : List ℕ) (event : Event) → ReadsWhole old new text_limit name (Err event) → AnswersForm (form.Asm name) old new (Err event)
asm_unread old new name event h = unread_by name text_limit (λ t end. AssembledAs name (whole_known t text_limit name) end) old new event (λ t e. subst (λ (r : Result (List ℕ) Event). AssembledAs name r (Err event)) (sym e) refl) h
