use Rattle.std.proofs.Common.{sym, subst}
use Rattle.x7_packets.specs.History.{Write, entry}
use Rattle.x7_regs.specs.Register.{number_of}
use Rattle.x7_flow.specs.Standing.{FramesState, FramesStandFor, frames_state}
use Rattle.x7_flow.proofs.StandingLemmas.{access_taken, word_fault_is}
use Rattle.x7_flow.proofs.frames.Frames.write.Goals as goal

pub returns-clause-stands : goal.returns-clause-stands
returns-clause-stands c = λ h settings are place.
    access_taken c.args.part.now (frames_state c.self.inside.pipeline c.self.inside.memory) (frames_state c.take_written_word.new.pipeline c.take_written_word.new.memory) h (entry (Write (number_of c.args.reg) c.args.word) place) c.take_written_word.result
    (c.take_written_word.ensures.done h settings) c.take_written_word.ensures.unchanged c.take_written_word.ensures.same_memory
    (subst (λ (f : FramesState). FramesStandFor c.args.part.now f h 0) (sym c.self.view_is) are)

pub returns-clause-fault : goal.returns-clause-fault
returns-clause-fault c = λ h settings are.
    word_fault_is c.args.part.now c.self.inside.pipeline c.self.inside.memory h (Write (number_of c.args.reg) c.args.word) c.take_written_word.result
    (c.take_written_word.ensures.fault h settings)
    (subst (λ (f : FramesState). FramesStandFor c.args.part.now f h 0) (sym c.self.view_is) are)
