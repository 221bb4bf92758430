-- What playing an SVF text comes to, from the tap and the device that played it.
use Rattle.std.proofs.Common.{◌≡◌, ◌++◌, ℕ, List, [], Bool, false, Option, ap, ◌∙◌}
use Rattle.std.specs.Prelude.{◌||◌, is_some}
use Rattle.x7_part.specs.Part.{PartData}
use Rattle.x7_engine.specs.declared.fault.Fault.{Fault}
use Rattle.x7_engine.specs.declared.snapshot.Snapshot.{Snapshot}
use Rattle.x7_engine.specs.Kept.{on_the_bench}
use Rattle.x7_engine.specs.Past.{past_of, state_owing_at}
use Rattle.x7_engine.specs.Standing.{DeviceState, frames_due}
use Rattle.x7_engine.specs.State.{memory_of_bytes}
use Rattle.x7_report.specs.Reports.{PlayTextState, report_text}
use Rattle.x7_jtag.specs.declared.play.Differ.{Differ}
use Rattle.x7_svf.specs.declared.statement.Statement.{Statement}
use Rattle.x7_jtag.specs.Play.{clocks_played, first_difference}
use Rattle.x7_jtag.specs.Text.{play_text}
use Rattle.x7_jtag.specs.Port.{Port, port_after}
use Rattle.x7_jtag.specs.Shown.{bytes_taken, fault_shown, memory_shown, state_shown}
use Rattle.x7_jtag.specs.Tap.{TapStandsFor, TapState}
use Rattle.x7_jtag.proofs.LawLemmas.{shows_is}
use Rattle.x7_outcome.specs.Outcome.{svf_answer, svf_shown}
use Rattle.x7_outcome.specs.Play.{play_answer}

-- the port after the clocks that were played
abbrev pub played_to : PartData → List Statement → Option Differ → Port
played_to part statements differ = port_after part (clocks_played statements differ)

pub svf_is : (part : PartData) (statements : List Statement) (t : TapState) (d : DeviceState) (differ : Option Differ) (fault : Option Fault) (stopped : Bool) (line : List ℕ) (text : PlayTextState)
    → TapStandsFor part t d (clocks_played statements differ) → differ ≡ first_difference part statements → fault ≡ fault_shown part (played_to part statements differ) → stopped ≡ (is_some differ || is_some fault) → line ≡ play_text differ
    → text ≡ record {
      stopped = stopped;
      text = line ++ report_text part (state_owing_at (past_of part on_the_bench false (bytes_taken part (played_to part statements differ))) (frames_due d.registers.values.due)) [] (memory_of_bytes part on_the_bench (bytes_taken part (played_to part statements differ)));
    } → play_answer text ≡ svf_answer part statements
svf_is part statements t d differ fault stopped line text s e f b l is =
    let p : Port = played_to part statements differ in
    ap play_answer is
    ∙ ap (λ (x : List ℕ). record { stopped = stopped; text = x ++ report_text part (state_owing_at (past_of part on_the_bench false (bytes_taken part p)) (frames_due d.registers.values.due)) [] (memory_shown part p) }) l
    ∙ ap (λ (x : Snapshot). record { stopped = stopped; text = play_text differ ++ report_text part x [] (memory_shown part p) }) (shows_is part t d (clocks_played statements differ) s)
    ∙ ap (λ (x : Bool). record { stopped = x; text = play_text differ ++ report_text part (state_shown part p) [] (memory_shown part p) }) (b ∙ ap (λ (x : Option Fault). is_some differ || is_some x) f)
    ∙ ap (λ (x : Option Differ). svf_shown part x (played_to part statements x)) e
