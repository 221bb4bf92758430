-- Words written in order.
use Rattle.std.proofs.Common.{◌≡◌, ℕ, ◌+◌, List, [], ◌∷◌, length, Option, Some, None, refl, sym, ap, ◌∙◌, arith}
use Rattle.std.proofs.lemmas.Option.{none-some}
use Rattle.x7_part.specs.Part.{PartData}
use Rattle.x7_memory.specs.FrameMap.{FrameMap}
use Rattle.x7_regs.specs.declared.command.Command.{Command}
use Rattle.x7_pipeline.specs.declared.fault.RunFault.{RunFault}
use Rattle.x7_pipeline.specs.Runs.{onto, Lands}
use Rattle.x7_pipeline.specs.Fault.{write_fault}
use Rattle.x7_pipeline.specs.RunWritten.{RunWritten, with_later_words, run_written, HasFirstRefused}
use Rattle.x7_pipeline.specs.Pipeline.{PipelineData}
use Rattle.x7_pipeline.proofs.FlowLemmas.{StandsFor}
use Rattle.x7_pipeline.proofs.LawLemmas.{lands_none}

-- `count` words were looked at before these
abbrev pub after : ℕ → RunWritten → RunWritten
after count w = record w { count = count + w.count }

-- ---- one word of the rest

pub written_end : (part : PartData) (base : ℕ) (run : List ℕ) → run_written part base run [] ≡ record { run = run; count = 0; fault = None }
unfolding run_written
written_end part base run = refl

pub written_next : (part : PartData) (base w : ℕ) (run words : List ℕ) → None ≡ write_fault part base run → run_written part base run (w ∷ words) ≡ after 1 (run_written part base (w ∷ run) words)
unfolding run_written
written_next part base w run words e = ap (λ o. with_later_words o run (run_written part base (w ∷ run) words)) (sym e)

pub written_refused : (part : PartData) (base w : ℕ) (run words : List ℕ) (fault : RunFault) → Some fault ≡ write_fault part base run → run_written part base run (w ∷ words) ≡ record { run = run; count = 1; fault = Some fault }
unfolding run_written
written_refused part base w run words fault e = ap (λ o. with_later_words o run (run_written part base (w ∷ run) words)) (sym e)

-- ---- on the way

-- from a run that a pipeline stood for it has come to a longer one, with what the memory got, and the rest is to be
-- written
pub record Reached (part : PartData) (now : PipelineData) (old new : FrameMap) (command : Command) (base : ℕ) (run : List ℕ) (source : Option (List ℕ)) (given : ℕ) (all rest : List ℕ) (count : ℕ) : Type 0 where
  pub longer : List ℕ
  pub stands : StandsFor part now command base longer source given
  pub lands : Lands part base run longer old new
  pub later : run_written part base run all ≡ after count (run_written part base longer rest)

-- whatever flow the pipeline stood for at the start, it has reached a longer run
abbrev pub ReachesRun : PartData → PipelineData → PipelineData → FrameMap → FrameMap → List ℕ → List ℕ → ℕ → Type 0
ReachesRun part start now old new all rest count =
    (command : Command) (base : ℕ) (run : List ℕ) (source : Option (List ℕ)) (given : ℕ) → StandsFor part start command base run source given →
    Reached part now old new command base run source given all rest count

pub goes_first : (part : PartData) (start : PipelineData) (memory : FrameMap) (all rest : List ℕ) → all ≡ rest → ReachesRun part start start memory memory all rest 0
goes_first part start memory all rest e command base run source given s = record {
  longer = run;
  stands = s;
  lands = lands_none part base run memory memory (λ far. refl);
  later = rw e (ap (λ n. record (run_written part base run rest) { count = n }) (omega arith));
}

-- ---- at the end

-- what was written where no word is left, and where the next one is refused
pub ends_whole : (part : PartData) (base : ℕ) (run longer all : List ℕ) (count : ℕ) → run_written part base run all ≡ after count (run_written part base longer []) → run_written part base run all ≡ record { run = longer; count = count; fault = None }
ends_whole part base run longer all count e = e ∙ ap (after count) (written_end part base longer) ∙ ap (λ n. record { run = longer; count = n; fault = None }) (omega arith)

pub ends_refused : (part : PartData) (base w : ℕ) (run longer all rest : List ℕ) (count : ℕ) (fault : RunFault) → run_written part base run all ≡ after count (run_written part base longer (w ∷ rest)) → Some fault ≡ write_fault part base longer →
    run_written part base run all ≡ record { run = longer; count = count + 1; fault = Some fault }
ends_refused part base w run longer all rest count fault e f = e ∙ ap (after count) (written_refused part base w longer rest fault f)

-- ---- in plain words

-- where no word is refused all are written
pub all_written : (part : PartData) (base : ℕ) (run words : List ℕ) → (run_written part base run words).fault ≡ None → run_written part base run words ≡ record { run = onto words run; count = length words; fault = None }
unfolding run_written
all_written part base run [] e = refl
all_written part base run (w ∷ words) e = by (write_fault part base run) e (all_written part base (w ∷ run) words)
  where
    by : (o : Option RunFault) → (with_later_words o run (run_written part base (w ∷ run) words)).fault ≡ None →
        ((run_written part base (w ∷ run) words).fault ≡ None → run_written part base (w ∷ run) words ≡ record { run = onto words (w ∷ run); count = length words; fault = None }) →
        with_later_words o run (run_written part base (w ∷ run) words) ≡ record { run = onto words (w ∷ run); count = length (w ∷ words); fault = None }
    by (Some fault) e later = absurd (none-some fault (sym e))
    by None e later = ap (after 1) (later e) ∙ ap (λ n. record { run = onto words (w ∷ run); count = n; fault = None }) (omega arith)

pub some_refused : (part : PartData) (base : ℕ) (run words : List ℕ) (fault : RunFault) → (run_written part base run words).fault ≡ Some fault → HasFirstRefused part base run words fault
unfolding run_written
some_refused part base run [] fault e = absurd (none-some fault e)
some_refused part base run (w ∷ words) fault e = by (write_fault part base run) refl e (some_refused part base (w ∷ run) words fault)
  where
    by : (o : Option RunFault) → write_fault part base run ≡ o → (with_later_words o run (run_written part base (w ∷ run) words)).fault ≡ Some fault →
        ((run_written part base (w ∷ run) words).fault ≡ Some fault → HasFirstRefused part base (w ∷ run) words fault) → HasFirstRefused part base run (w ∷ words) fault
    by (Some f) is e later = record {
      before = [];
      word = w;
      later = words;
      words_are = refl;
      written_is = ap (λ o. with_later_words o run (run_written part base (w ∷ run) words)) is ∙ ap (λ o. record { run = run; count = 1; fault = o }) e;
      refused = is ∙ e;
    }
    by None is e later =
        let r : HasFirstRefused part base (w ∷ run) words fault = later e in
        record {
          before = w ∷ r.before;
          word = r.word;
          later = r.later;
          words_are = ap (λ t. w ∷ t) r.words_are;
          written_is = ap (λ o. with_later_words o run (run_written part base (w ∷ run) words)) is ∙ ap (after 1) r.written_is
              ∙ ap (λ n. record { run = onto r.before (w ∷ run); count = n; fault = Some fault }) (omega arith);
          refused = r.refused;
        }
