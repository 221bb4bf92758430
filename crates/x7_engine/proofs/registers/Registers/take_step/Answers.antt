use Rattle.std.proofs.Common.{◌≡◌, ◌==◌, ◌∷◌, ◌++◌, ℕ, List, Option, Some, None, true, false, refl, ap, sym, ◌∙◌, arith, eq-eqb, rules}
use Rattle.std.proofs.lemmas.Bool.{ne_eqb}
use Rattle.x7_packets.specs.History.{Bad, History, entered, entry}
use Rattle.x7_flow.proofs.TakenLemmas.{other_access}
use Rattle.x7_engine.specs.declared.fault.Fault.TheVariants as fault
use Rattle.x7_engine.specs.declared.stop.StopCause.{StopCause}
use Rattle.x7_engine.specs.declared.stop.StopCause.TheVariants as stop
use Rattle.x7_engine.specs.Standing.{counted_in, registers_in}
use Rattle.x7_engine.specs.Stop.{first_stop_of_history, stop_at_place}
use Rattle.x7_engine.specs.Value.{read_out}
use Rattle.x7_engine.proofs.ClockLemmas.{stop_of_access}
use Rattle.x7_engine.proofs.FrameLemmas.{frames_none_at, standing_frames, no_word_due, none_among, none_left}
use Rattle.x7_engine.proofs.PlainLemmas.{clock_other}
use Rattle.x7_engine.proofs.registers.Registers.take_step.Goals as goal

pub returns-in-Read-clause-none_due_at_stop : goal.returns-in-Read-clause-none_due_at_stop
returns-in-Read-clause-none_due_at_stop c = c.read.ensures.none_due_at_stop

pub returns-in-Read-clause-counts : goal.returns-in-Read-clause-counts
returns-in-Read-clause-counts c = c.read.ensures.counts

pub returns-in-Read-clause-enters : goal.returns-in-Read-clause-enters
returns-in-Read-clause-enters c = λ kept h place next s.
    let some : (c.in-Read.count == 0) ≡ false = ne_eqb c.in-Read.count 0 (λ e. omega (arith, e, c.if-count-gt0.true)) in
    rw (c.in-Read.is, some) (c.read.ensures.enters kept h place next s)

pub returns-in-Read-clause-reads : goal.returns-in-Read-clause-reads
returns-in-Read-clause-reads c = λ kept h place s.
    let some : (c.in-Read.count == 0) ≡ false = ne_eqb c.in-Read.count 0 (λ e. omega (arith, e, c.if-count-gt0.true)) in
    rw (c.in-Read.is, some) (ap (λ (words : List ℕ). read_out c.args.part.now kept h ++ words) (c.read.ensures.reads kept h place s))

pub returns-else-count-gt0-clause-none_due_at_stop : goal.returns-else-count-gt0-clause-none_due_at_stop
returns-else-count-gt0-clause-none_due_at_stop c = record { none_due_at_stop = λ why e. c.requires.may_take.no_word_due; frames = c.requires.may_take.frames }

pub returns-else-count-gt0-clause-counts : goal.returns-else-count-gt0-clause-counts
returns-else-count-gt0-clause-counts c = λ n. ap (λ (o : Option StopCause). counted_in o n) c.requires.may_take.going

pub returns-else-count-gt0-clause-enters : goal.returns-else-count-gt0-clause-enters
returns-else-count-gt0-clause-enters c = λ kept h place next s.
    let none : (c.in-Read.count == 0) ≡ true = eq-eqb c.in-Read.count 0 (omega (arith, c.if-count-gt0.false)) in
    rw (c.in-Read.is, none) s

pub returns-else-count-gt0-clause-reads : goal.returns-else-count-gt0-clause-reads
returns-else-count-gt0-clause-reads c = λ kept h place s.
    let none : (c.in-Read.count == 0) ≡ true = eq-eqb c.in-Read.count 0 (omega (arith, c.if-count-gt0.false)) in
    rw (c.in-Read.is, none) (no_word_due (read_out c.args.part.now kept h) c.args.part.now h c.args.self.now.values.due c.requires.may_take.no_word_due)

pub returns-in-Bad-clause-none_due_at_stop : goal.returns-in-Bad-clause-none_due_at_stop
returns-in-Bad-clause-none_due_at_stop c = record { none_due_at_stop = λ why e. c.requires.may_take.no_word_due; frames = c.requires.may_take.frames }

pub returns-in-Bad-clause-counts : goal.returns-in-Bad-clause-counts
returns-in-Bad-clause-counts c = λ n. refl

pub returns-in-Bad-clause-enters : goal.returns-in-Bad-clause-enters
returns-in-Bad-clause-enters c = λ kept h place next s.
    let going : first_stop_of_history c.args.part.now kept h place ≡ None = s.stop ∙ ap (stop_at_place place) c.requires.may_take.going in
    rw c.in-Bad.is record {
      places = (next.0, omega arith, next.1);
      words = record { each = s.words.each };
      controls = record { ctl0 = s.controls.ctl0; ctl1 = s.controls.ctl1 };
      progress = record { check = s.progress.check; has_idcode = s.progress.has_idcode; pending = s.progress.pending; ghigh = s.progress.ghigh; iprog = s.progress.iprog };
      kind = s.kind;
      before = s.before;
      clock = clock_other c.args.part.now kept (registers_in c.args.self.now).values.clock h (Bad c.in-Bad.word) place refl refl s.clock;
      stop = stop_of_access c.args.part.now kept h (Bad c.in-Bad.word) place going;
      frames = frames_none_at c.args.part.now c.args.self.now.frames (Some (stop.Fault (fault.Packet c.in-Bad.word))) (entry (Bad c.in-Bad.word) place ∷ h) c.args.self.now.values.due refl c.requires.may_take.no_word_due
          (other_access c.args.part.now c.args.self.now.frames h (entry (Bad c.in-Bad.word) place) refl (standing_frames c.args.part.now c.args.self.now.frames c.args.self.now.values.stop h c.args.self.now.values.due c.requires.may_take.going c.requires.may_take.no_word_due s.frames));
      due_kind = none_among c.args.self.now.values.due (entry (Bad c.in-Bad.word) place ∷ h) c.requires.may_take.no_word_due;
    }

pub returns-in-Bad-clause-reads : goal.returns-in-Bad-clause-reads
returns-in-Bad-clause-reads c = λ kept h place s.
    rw c.in-Bad.is
    (ap (λ (words : List ℕ). read_out c.args.part.now kept h ++ words) (sym (none_left c.args.part.now (entry (Bad c.in-Bad.word) place ∷ h) c.args.self.now.values.due c.requires.may_take.no_word_due)))

pub returns : goal.returns
returns c =
    let stays : (place : ℕ) (h : History) → entered place c.args.step h ≡ h = λ place h. search rules in
    record {
      none_due_at_stop = record { none_due_at_stop = λ why e. c.requires.may_take.no_word_due; frames = c.requires.may_take.frames };
      counts = λ n. ap (λ (o : Option StopCause). counted_in o n) c.requires.may_take.going;
      enters = λ kept h place next s. rw (stays place h) s;
      reads = λ kept h place s. rw (stays place h) (no_word_due (read_out c.args.part.now kept h) c.args.part.now h c.args.self.now.values.due c.requires.may_take.no_word_due);
    }
