use Rattle.std.proofs.Common.{false, subst, sym, true, ◌∙◌}
use Rattle.x7_regs.specs.declared.command.Command.{Command}
use Rattle.x7_flow.specs.Asking.{Commands}
use Rattle.x7_flow.specs.Standing.{HaveDone, frames_state}
use Rattle.x7_flow.proofs.StandingLemmas.{copies_asked, did_as, did_copy, did_load, did_order, did_other, did_word, fault_as, nothing_asked, word_asked}
use Rattle.x7_flow.proofs.taking.take_written_word.Goals as goal

pub returns-in-Far-clause-done : goal.returns-in-Far-clause-done
returns-in-Far-clause-done c = λ h s. rw c.in-Far.is (did_load c.args.part.now c.args.pipeline.now c.load.new.self c.args.memory.now c.args.word c.load.ensures.stands)

pub returns-in-Far-clause-part : goal.returns-in-Far-clause-part
returns-in-Far-clause-part c =
    record { pipeline_fits = c.load.ensures.part c.args.part.now c.requires.part.pipeline_fits; frames_fit = c.requires.part.frames_fit }

pub returns-in-Cmd-clause-done : goal.returns-in-Cmd-clause-done
returns-in-Cmd-clause-done c = λ h s. rw c.in-Cmd.is
    (subst (λ (x : Command). HaveDone c.args.part.now (Commands x) (frames_state c.args.pipeline.now c.args.memory.now) (frames_state c.command.new.self c.args.memory.now)) c.command_of.ensures
    (did_order c.args.part.now c.args.pipeline.now c.command.new.self c.args.memory.now c.command_of.result c.command.ensures.stands))

pub returns-in-Ok-clause-done : goal.returns-in-Ok-clause-done
returns-in-Ok-clause-done c = λ h s.
    did_as c.args.part.now h c.args.reg c.args.word _ (frames_state c.args.pipeline.now c.args.memory.now) (frames_state c.write.new.self c.write.new.memory)
    (word_asked c.args.part.now.idcode h c.args.reg c.args.word true c.in-Fdri.is (sym (c.takes_frames.ensures.after c.args.part.now.idcode h s) ∙ c.if-not-takes_frames.false))
    (did_word c.args.part.now c.args.pipeline.now c.write.new.self c.args.memory.now c.write.new.memory c.args.word c.in-Ok.ensures.stands c.in-Ok.ensures.lands)

pub returns-in-Ok-clause-fault : goal.returns-in-Ok-clause-fault
returns-in-Ok-clause-fault c = λ h s f has.
    c.in-Ok.ensures.fault f has.stands ∙ fault_as c.args.part.now h c.args.reg c.args.word _ f
    (word_asked c.args.part.now.idcode h c.args.reg c.args.word true c.in-Fdri.is (sym (c.takes_frames.ensures.after c.args.part.now.idcode h s) ∙ c.if-not-takes_frames.false))

pub returns-in-Err-clause-fault : goal.returns-in-Err-clause-fault
returns-in-Err-clause-fault c = λ h s f has.
    c.in-Err.ensures.fault f has.stands ∙ fault_as c.args.part.now h c.args.reg c.args.word _ f
    (word_asked c.args.part.now.idcode h c.args.reg c.args.word true c.in-Fdri.is (sym (c.takes_frames.ensures.after c.args.part.now.idcode h s) ∙ c.if-not-takes_frames.false))

pub returns-in-Ok-copy-clause-done : goal.returns-in-Ok-copy-clause-done
returns-in-Ok-copy-clause-done c = λ h s.
    did_as c.args.part.now h c.args.reg c.args.word _ (frames_state c.args.pipeline.now c.args.memory.now) (frames_state c.copy.new.self c.copy.new.memory)
    (copies_asked c.args.part.now.idcode h c.args.reg c.args.word true c.in-Mfwr.is (sym (c.takes_copies.ensures.after c.args.part.now.idcode h s) ∙ c.if-not-takes_copies.false))
    (did_copy c.args.part.now c.args.pipeline.now c.copy.new.self c.args.memory.now c.copy.new.memory c.in-Ok-copy.ensures.same_pipeline c.in-Ok-copy.ensures.put c.in-Ok-copy.ensures.fault)

pub returns-in-Ok-copy-clause-fault : goal.returns-in-Ok-copy-clause-fault
returns-in-Ok-copy-clause-fault c = λ h s f has.
    c.in-Ok-copy.ensures.fault f has.stands ∙ fault_as c.args.part.now h c.args.reg c.args.word _ f
    (copies_asked c.args.part.now.idcode h c.args.reg c.args.word true c.in-Mfwr.is (sym (c.takes_copies.ensures.after c.args.part.now.idcode h s) ∙ c.if-not-takes_copies.false))

pub returns-in-Err-copy-clause-fault : goal.returns-in-Err-copy-clause-fault
returns-in-Err-copy-clause-fault c = λ h s f has.
    c.in-Err-copy.ensures.fault f has.stands ∙ fault_as c.args.part.now h c.args.reg c.args.word _ f
    (copies_asked c.args.part.now.idcode h c.args.reg c.args.word true c.in-Mfwr.is (sym (c.takes_copies.ensures.after c.args.part.now.idcode h s) ∙ c.if-not-takes_copies.false))

pub returns-then-not-takes_frames-clause-done : goal.returns-then-not-takes_frames-clause-done
returns-then-not-takes_frames-clause-done c = λ h s.
    did_as c.args.part.now h c.args.reg c.args.word _ (frames_state c.args.pipeline.now c.args.memory.now) (frames_state c.args.pipeline.now c.args.memory.now)
    (word_asked c.args.part.now.idcode h c.args.reg c.args.word false c.in-Fdri.is (sym (c.takes_frames.ensures.after c.args.part.now.idcode h s) ∙ c.if-not-takes_frames.true))
    (did_other c.args.part.now (frames_state c.args.pipeline.now c.args.memory.now))

pub returns-then-not-takes_copies-clause-done : goal.returns-then-not-takes_copies-clause-done
returns-then-not-takes_copies-clause-done c = λ h s.
    did_as c.args.part.now h c.args.reg c.args.word _ (frames_state c.args.pipeline.now c.args.memory.now) (frames_state c.args.pipeline.now c.args.memory.now)
    (copies_asked c.args.part.now.idcode h c.args.reg c.args.word false c.in-Mfwr.is (sym (c.takes_copies.ensures.after c.args.part.now.idcode h s) ∙ c.if-not-takes_copies.true))
    (did_other c.args.part.now (frames_state c.args.pipeline.now c.args.memory.now))

pub returns-in_default-clause-done : goal.returns-in_default-clause-done
returns-in_default-clause-done c = λ h s.
    did_as c.args.part.now h c.args.reg c.args.word _ (frames_state c.args.pipeline.now c.args.memory.now) (frames_state c.args.pipeline.now c.args.memory.now)
    (nothing_asked c.args.part.now.idcode h c.args.reg c.args.word c.in_default.not-Far c.in_default.not-Cmd c.in_default.not-Fdri c.in_default.not-Mfwr)
    (did_other c.args.part.now (frames_state c.args.pipeline.now c.args.memory.now))
