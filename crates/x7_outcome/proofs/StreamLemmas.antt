-- What a stream that was read whole comes to, by its header.
use Rattle.std.proofs.Common.{◌≡◌, ℕ, List, [], ◌∷◌, Result, Ok, Err, inr, subst, sym}
use Rattle.x7_words.specs.Input.{InputsState}
use Rattle.x7_header.specs.Header.{HeaderContents}
use Rattle.x7_header.specs.Reading.{header_at}
use Rattle.x7_header.specs.declared.fault.HeaderFault.{HeaderFault}
use Rattle.x7_header.specs.declared.fault.HeaderFault.TheVariants as header
use Rattle.x7_forms.specs.declared.bad_input.InputFault.TheVariants as input
use Rattle.x7_forms.specs.Event.{Event, bad_input}
use Rattle.x7_forms.specs.Known.{data_by, data_in, stream_limit, whole_known}
use Rattle.x7_forms.specs.Step.{AnswersAs, IsDecided, IsPossible, ReadsWhole, step_over}
use Rattle.x7_forms.proofs.ReadLemmas.{answers_end, whole_steady}
use Rattle.x7_outcome.specs.Outcome.{stream_data}
use Rattle.std.proofs.Common.{◌≡◌, ℕ, List, subst, sym}
use Rattle.x7_forms.specs.Known.{data_in, stream_limit, whole_known}
use Rattle.x7_forms.proofs.ReadLemmas.{Steady, so_steady, whole_steady, work_steady}
use Rattle.x7_outcome.specs.Outcome.{stream_data}

-- a header that is refused is a matter of the contents
refused_by : (name bytes : List ℕ) (read : Result (HeaderContents × ℕ) HeaderFault) (event : Event) → Err event ≡ data_by name bytes read → IsPossible {A = List ℕ} (Err event) × IsDecided {A = List ℕ} (Err event)
refused_by name bytes (Ok head) event e = absurd (cc)
refused_by name bytes (Err header.Raw) event e = absurd (cc)
refused_by name bytes (Err (header.Cut place)) event e =
    let same : bad_input name (input.Byte place) ≡ event = cc in
    subst (λ (x : Event). IsPossible {A = List ℕ} (Err x) × IsDecided {A = List ℕ} (Err x)) same (tt, tt)
refused_by name bytes (Err (header.Field place)) event e =
    let same : bad_input name (input.Byte place) ≡ event = cc in
    subst (λ (x : Event). IsPossible {A = List ℕ} (Err x) × IsDecided {A = List ℕ} (Err x)) same (tt, tt)

judged : (name bytes : List ℕ) (got : Result (List ℕ) Event) → got ≡ data_in name bytes → IsPossible got × IsDecided got × (data_in name bytes ≡ got)
judged name bytes (Ok after) e = (tt, tt, sym e)
judged name bytes (Err event) e = let refused = refused_by name bytes (header_at bytes) event e in (refused.0, refused.1, sym e)

-- the data of a stream that was read whole, or the refusal of its header
pub data_read : (name bytes : List ℕ) (old new : InputsState) (got : Result (List ℕ) Event) → ReadsWhole old new stream_limit name (Ok bytes) → got ≡ data_in name bytes → AnswersAs (step_over (name ∷ []) old new) (λ known. stream_data known name) got
data_read name bytes old new got read e =
    answers_end (List ℕ) (List ℕ) (name ∷ []) old new (λ t. whole_known t stream_limit name) (λ whole. data_in name whole) bytes got (whole_steady stream_limit name) read (inr (judged name bytes got e))

-- data that were read, with a mishap
pub stream_steady : (name : List ℕ) → Steady (List ℕ) (λ t. stream_data t name)
stream_steady name = so_steady (List ℕ) (List ℕ) (λ t. whole_known t stream_limit name) (λ t whole. data_in name whole) (whole_steady stream_limit name) (λ whole. work_steady (List ℕ) (data_in name whole))
