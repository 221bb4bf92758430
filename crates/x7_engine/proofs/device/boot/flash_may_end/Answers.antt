use Rattle.x7_engine.proofs.BootLemmas.{may_wrap, none_due_at_first}
use Rattle.x7_engine.proofs.device.boot.flash_may_end.Goals as goal

pub returns-clause-may_wrap : goal.returns-clause-may_wrap
returns-clause-may_wrap c = λ d part kept wrapped bytes s goes none. may_wrap part kept wrapped d bytes s goes.boots goes.not_started goes.not_failed goes.not_left none

pub returns-clause-no_word_due : goal.returns-clause-no_word_due
returns-clause-no_word_due c = none_due_at_first
