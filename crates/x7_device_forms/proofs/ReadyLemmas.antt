-- What a script, an SVF text and a text of a known answer come to where all that they need was read.
use Rattle.std.proofs.Common.{◌≡◌, ℕ, List, Result, Ok, Err, IfErr, IfOk, ap, sym, inl, inr, ◌⊎◌}
use Rattle.std.specs.Prelude.{Vec}
use Rattle.std.specs.declared.alloc.Global.{Global}
use Rattle.x7_debug.specs.Script.{IsScriptOf}
use Rattle.x7_debug.specs.declared.fault.ScriptFault.{ScriptFault}
use Rattle.x7_debug.specs.declared.fault.ScriptFault.TheVariants as script
use Rattle.x7_svf.specs.Svf.{IsSvfOf}
use Rattle.x7_svf.specs.declared.fault.SvfFault.{SvfFault}
use Rattle.x7_svf.specs.declared.fault.SvfFault.TheVariants as svf
use Rattle.x7_report.specs.Reports.{PlayTextState}
use Rattle.x7_forms.specs.declared.bad_input.InputFault.TheVariants as input
use Rattle.x7_forms.specs.declared.refusal.Refusal.{Refusal}
use Rattle.x7_forms.specs.Event.{Event, event_of, no_memory}
use Rattle.x7_forms.specs.Known.{Answer}
use Rattle.x7_forms.specs.Step.{result_by}
use Rattle.x7_outcome.specs.declared.text.Text.{Text}
use Rattle.x7_outcome.specs.Outcome.{DebugInputs, DebuggedAs, PartAndText, PlayedSvf, script_event, svf_event}
use Rattle.x7_outcome.specs.Play.{play_answer}
use Rattle.x7_outcome.specs.Ready.{bytes_answer, text_answer}
use Rattle.x7_outcome.proofs.ReadyLemmas.{EndsDue, bad_due, want_due}

-- ---- a text of a known answer

pub made_due : (answer : Answer) (r : Result (Vec ℕ Global) Refusal) → IfOk r (λ t. bytes_answer t ≡ answer) → IfErr r (λ x. event_of x ≡ no_memory) → EndsDue (λ got. Ok answer ≡ got) (result_by bytes_answer r)
made_due answer (Ok t) ok err = inr (tt, tt, ap (λ (a : Answer). Ok a) (sym ok))
made_due answer (Err x) ok err = inl (ap (λ (e : Event). Err e) err)

-- ---- what a script shows

script_due : (name : List ℕ) (d : DebugInputs) (event : Event) (fault : ScriptFault) → IsScriptOf d.script (Err fault) → script_event name fault ≡ event → EndsDue (DebuggedAs name (Ok d)) (Err event)
script_due name d event (script.Line line) is e = bad_due (DebuggedAs name (Ok d)) name (input.Line line) event e (script.Line line, (is, e))
script_due name d event script.NoMemory is e = want_due (DebuggedAs name (Ok d)) event e

pub debug_due : (name : List ℕ) (d : DebugInputs) (r : Result Text Refusal) → IfOk r (λ t. DebuggedAs name (Ok d) (Ok (text_answer t))) → IfErr r (λ x. (event_of x ≡ no_memory) ⊎ DebuggedAs name (Ok d) (Err (event_of x)))
    → EndsDue (DebuggedAs name (Ok d)) (result_by text_answer r)
debug_due name d (Ok t) ok err = inr (tt, tt, ok)
debug_due name d (Err x) ok (inl e) = inl (ap (λ (event : Event). Err event) e)
debug_due name d (Err x) ok (inr h) = script_due name d (event_of x) h.0 h.1.0 h.1.1

-- ---- an SVF text

svf_fault_due : (name : List ℕ) (texts : PartAndText) (event : Event) (fault : SvfFault) → IsSvfOf texts.text (Err fault) → svf_event name fault ≡ event → EndsDue (PlayedSvf name (Ok texts)) (Err event)
svf_fault_due name texts event (svf.Line line) is e = bad_due (PlayedSvf name (Ok texts)) name (input.Line line) event e (svf.Line line, is, e)
svf_fault_due name texts event svf.NoMemory is e = want_due (PlayedSvf name (Ok texts)) event e

pub svf_due : (name : List ℕ) (texts : PartAndText) (r : Result PlayTextState Refusal) → IfOk r (λ t. PlayedSvf name (Ok texts) (Ok (play_answer t))) → IfErr r (λ x. (event_of x ≡ no_memory) ⊎ PlayedSvf name (Ok texts) (Err (event_of x)))
    → EndsDue (PlayedSvf name (Ok texts)) (result_by play_answer r)
svf_due name texts (Ok t) ok err = inr (tt, tt, ok)
svf_due name texts (Err x) ok (inl e) = inl (ap (λ (event : Event). Err event) e)
svf_due name texts (Err x) ok (inr h) = svf_fault_due name texts (event_of x) h.0 h.1 h.2
