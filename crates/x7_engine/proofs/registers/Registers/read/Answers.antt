use Rattle.std.proofs.Common.{◌≡◌, ◌∷◌, ℕ, Bool, None, Option, Some, true, false, if◌then◌else◌, [], replicate, refl, sym, ap, subst, ◌∙◌, arith}
use Rattle.std.specs.Option.{is_some}
use Rattle.x7_packets.specs.History.{History, Read, entry}
use Rattle.x7_part.specs.Part.{PartData}
use Rattle.x7_pipeline.specs.declared.fault.RunFault.{RunFault}
use Rattle.x7_flow.specs.FrameAccess.{reads_frame_data}
use Rattle.x7_flow.specs.HistoryFlow.{frame_fault}
use Rattle.x7_flow.specs.Standing.{FramesStandFor, frames_read}
use Rattle.x7_flow.proofs.StandingLemmas.{other_read}
use Rattle.x7_engine.specs.Course.{course_at}
use Rattle.x7_engine.specs.declared.kept.Kept.{Kept}
use Rattle.x7_engine.specs.declared.stop.StopCause.{StopCause}
use Rattle.x7_engine.specs.Standing.{FramesAre, frames_due, registers_in}
use Rattle.x7_engine.specs.Stop.{why_by_frames, why_at_access, stop_of_refused, first_stop_of_history, stop_at_place}
use Rattle.x7_engine.specs.Value.{words_read_by, read_value, words_of_read}
use Rattle.x7_engine.proofs.ClockLemmas.{stop_of_access}
use Rattle.x7_engine.proofs.FrameLemmas.{frames_at, goes_on, none_among, none_frames, none_left, refused, standing_frames}
use Rattle.x7_engine.proofs.PlainLemmas.{clock_other}
use Rattle.x7_engine.proofs.registers.Registers.read.Goals as goal

read_why : (part : PartData) (kept : Kept) (h : History) (register count : ℕ) (result : Option RunFault) → frame_fault part h (Read register count) ≡ result → why_at_access part kept h (Read register count) ≡ why_by_frames result
read_why part kept h register count result e = ap why_by_frames e

answered : (part : PartData) (kept : Kept) (h : History) (register count place : ℕ) (why : Option StopCause)
    → why_at_access part kept h (Read register count) ≡ why → words_read_by part kept h (Read register count) place ≡ (if is_some why then [] else words_of_read (course_at part kept h place) register count)
answered part kept h register count place why e = ap (λ (o : Option StopCause). if is_some o then [] else words_of_read (course_at part kept h place) register count) e

pub returns-then-not-reads_frames-clause-enters : goal.returns-then-not-reads_frames-clause-enters
returns-then-not-reads_frames-clause-enters c = λ kept h place next s.
    let part : PartData = c.args.part.now in
    let going : first_stop_of_history part kept h place ≡ None = s.stop ∙ ap (stop_at_place place) c.requires.may_take.going in
    let other : reads_frame_data h (Read c.args.register c.args.count) ≡ false = sym (c.reads_frames.ensures part.idcode h (c.settings.ensures.after part kept h place s)) ∙ c.if-not-reads_frames.true in
    let are : FramesStandFor part c.args.self.now.frames h 0 = standing_frames part c.args.self.now.frames c.args.self.now.values.stop h c.args.self.now.values.due c.requires.may_take.going c.requires.may_take.no_word_due s.frames in
    let read = other_read part c.args.self.now.frames.pipeline c.args.self.now.frames.memory h c.args.register c.args.count place other are in
    record {
      places = (next.0, omega arith, next.1);
      words = record { each = s.words.each };
      controls = record { ctl0 = s.controls.ctl0; ctl1 = s.controls.ctl1 };
      progress = record { check = s.progress.check; has_idcode = s.progress.has_idcode; pending = s.progress.pending; ghigh = s.progress.ghigh; iprog = s.progress.iprog };
      kind = s.kind;
      before = s.before;
      clock = clock_other part kept (registers_in c.args.self.now).values.clock h (Read c.args.register c.args.count) place refl refl s.clock;
      stop = stop_of_access part kept h (Read c.args.register c.args.count) place going ∙ ap (stop_at_place place) (read_why part kept h c.args.register c.args.count None read.0) ∙ sym (ap (stop_at_place place) c.requires.may_take.going);
      frames = frames_at part c.args.self.now.frames c.args.self.now.values.stop (entry (Read c.args.register c.args.count) place ∷ h) 0 (goes_on c.args.self.now.values.stop c.requires.may_take.going) read.1;
      due_kind = sym (ap (λ (b : Bool). if b then c.args.count else 0) other);
    }

pub returns-then-not-reads_frames-clause-reads : goal.returns-then-not-reads_frames-clause-reads
returns-then-not-reads_frames-clause-reads c = λ kept h place s.
    let part : PartData = c.args.part.now in
    let other : reads_frame_data h (Read c.args.register c.args.count) ≡ false = sym (c.reads_frames.ensures part.idcode h (c.settings.ensures.after part kept h place s)) ∙ c.if-not-reads_frames.true in
    let are : FramesStandFor part c.args.self.now.frames h 0 = standing_frames part c.args.self.now.frames c.args.self.now.values.stop h c.args.self.now.values.due c.requires.may_take.going c.requires.may_take.no_word_due s.frames in
    let read = other_read part c.args.self.now.frames.pipeline c.args.self.now.frames.memory h c.args.register c.args.count place other are in
    answered part kept h c.args.register c.args.count place None (read_why part kept h c.args.register c.args.count None read.0)
    ∙ ap (λ b. if b then frames_read part h c.args.count else replicate c.args.count (read_value (course_at part kept h place) c.args.register)) other
    ∙ ap (replicate c.args.count) (sym (c.read_value.ensures c.requires.may_take.going c.requires.may_take.no_word_due kept h place s))

pub returns-in-Some-clause-enters : goal.returns-in-Some-clause-enters
returns-in-Some-clause-enters c = λ kept h place next s.
    let part : PartData = c.args.part.now in
    let going : first_stop_of_history part kept h place ≡ None = s.stop ∙ ap (stop_at_place place) c.requires.may_take.going in
    let frames : reads_frame_data h (Read c.args.register c.args.count) ≡ true = sym (c.reads_frames.ensures part.idcode h (c.settings.ensures.after part kept h place s)) ∙ c.if-not-reads_frames.false in
    let are : FramesStandFor part c.args.self.now.frames h 0 = standing_frames part c.args.self.now.frames c.args.self.now.values.stop h c.args.self.now.values.due c.requires.may_take.going c.requires.may_take.no_word_due s.frames in
    let refusal : frame_fault part h (Read c.args.register c.args.count) ≡ Some c.in-Some.fault = c.in-Some.ensures h c.args.register c.args.count place frames are in
    let why : c.stop_of_refused.result ≡ stop_of_refused c.in-Some.fault = c.stop_of_refused.ensures.value in
    record {
      places = (next.0, omega arith, next.1);
      words = record { each = s.words.each };
      controls = record { ctl0 = s.controls.ctl0; ctl1 = s.controls.ctl1 };
      progress = record { check = s.progress.check; has_idcode = s.progress.has_idcode; pending = s.progress.pending; ghigh = s.progress.ghigh; iprog = s.progress.iprog };
      kind = s.kind;
      before = s.before;
      clock = clock_other part kept (registers_in c.args.self.now).values.clock h (Read c.args.register c.args.count) place refl refl s.clock;
      stop = stop_of_access part kept h (Read c.args.register c.args.count) place going ∙ ap (stop_at_place place) (read_why part kept h c.args.register c.args.count (Some c.in-Some.fault) refusal ∙ ap Some (sym why));
      frames = subst (λ (l : StopCause). FramesAre part c.args.self.now.frames (Some l) (entry (Read c.args.register c.args.count) place ∷ h) (frames_due c.args.self.now.values.due)) (sym why)
          (subst (λ (n : ℕ). FramesAre part c.args.self.now.frames (Some (stop_of_refused c.in-Some.fault)) (entry (Read c.args.register c.args.count) place ∷ h) n) (sym (none_frames c.args.self.now.values.due c.requires.may_take.no_word_due))
          (refused part c.args.self.now.frames h (entry (Read c.args.register c.args.count) place) c.in-Some.fault refusal are));
      due_kind = none_among c.args.self.now.values.due (entry (Read c.args.register c.args.count) place ∷ h) c.requires.may_take.no_word_due;
    }

pub returns-in-Some-clause-reads : goal.returns-in-Some-clause-reads
returns-in-Some-clause-reads c = λ kept h place s.
    let part : PartData = c.args.part.now in
    let frames : reads_frame_data h (Read c.args.register c.args.count) ≡ true = sym (c.reads_frames.ensures part.idcode h (c.settings.ensures.after part kept h place s)) ∙ c.if-not-reads_frames.false in
    let are : FramesStandFor part c.args.self.now.frames h 0 = standing_frames part c.args.self.now.frames c.args.self.now.values.stop h c.args.self.now.values.due c.requires.may_take.going c.requires.may_take.no_word_due s.frames in
    let refusal : frame_fault part h (Read c.args.register c.args.count) ≡ Some c.in-Some.fault = c.in-Some.ensures h c.args.register c.args.count place frames are in
    answered part kept h c.args.register c.args.count place (Some (stop_of_refused c.in-Some.fault)) (read_why part kept h c.args.register c.args.count (Some c.in-Some.fault) refusal)
    ∙ sym (none_left part (entry (Read c.args.register c.args.count) place ∷ h) c.args.self.now.values.due c.requires.may_take.no_word_due)

pub returns-in-None-clause-enters : goal.returns-in-None-clause-enters
returns-in-None-clause-enters c = λ kept h place next s.
    let part : PartData = c.args.part.now in
    let going : first_stop_of_history part kept h place ≡ None = s.stop ∙ ap (stop_at_place place) c.requires.may_take.going in
    let frames : reads_frame_data h (Read c.args.register c.args.count) ≡ true = sym (c.reads_frames.ensures part.idcode h (c.settings.ensures.after part kept h place s)) ∙ c.if-not-reads_frames.false in
    let are : FramesStandFor part c.args.self.now.frames h 0 = standing_frames part c.args.self.now.frames c.args.self.now.values.stop h c.args.self.now.values.due c.requires.may_take.going c.requires.may_take.no_word_due s.frames in
    let read = c.in-None.ensures h c.args.register c.args.count place frames are in
    record {
      places = (next.0, omega arith, next.1);
      words = record { each = s.words.each };
      controls = record { ctl0 = s.controls.ctl0; ctl1 = s.controls.ctl1 };
      progress = record { check = s.progress.check; has_idcode = s.progress.has_idcode; pending = s.progress.pending; ghigh = s.progress.ghigh; iprog = s.progress.iprog };
      kind = s.kind;
      before = s.before;
      clock = clock_other part kept (registers_in c.args.self.now).values.clock h (Read c.args.register c.args.count) place refl refl s.clock;
      stop = stop_of_access part kept h (Read c.args.register c.args.count) place going ∙ ap (stop_at_place place) (read_why part kept h c.args.register c.args.count None read.0) ∙ sym (ap (stop_at_place place) c.requires.may_take.going);
      frames = frames_at part c.args.self.now.frames c.args.self.now.values.stop (entry (Read c.args.register c.args.count) place ∷ h) c.args.count (goes_on c.args.self.now.values.stop c.requires.may_take.going) read.1;
      due_kind = sym (ap (λ (b : Bool). if b then c.args.count else 0) frames);
    }

pub returns-in-None-clause-reads : goal.returns-in-None-clause-reads
returns-in-None-clause-reads c = λ kept h place s.
    let part : PartData = c.args.part.now in
    let frames : reads_frame_data h (Read c.args.register c.args.count) ≡ true = sym (c.reads_frames.ensures part.idcode h (c.settings.ensures.after part kept h place s)) ∙ c.if-not-reads_frames.false in
    let are : FramesStandFor part c.args.self.now.frames h 0 = standing_frames part c.args.self.now.frames c.args.self.now.values.stop h c.args.self.now.values.due c.requires.may_take.going c.requires.may_take.no_word_due s.frames in
    let read = c.in-None.ensures h c.args.register c.args.count place frames are in
    answered part kept h c.args.register c.args.count place None (read_why part kept h c.args.register c.args.count None read.0)
    ∙ ap (λ b. if b then frames_read part h c.args.count else replicate c.args.count (read_value (course_at part kept h place) c.args.register)) frames
    ∙ sym read.2
