use Rattle.x7_engine.proofs.StateLemmas.{no_stop_before, stop_is_final_memory, stop_is_final_reads, stop_is_final_state, stop_is_final_stop, stop_place}
use Rattle.x7_engine.proofs.laws.stops_are_final.Goals as goal

pub returns-clause-place : goal.returns-clause-place
returns-clause-place c = stop_place

pub returns-clause-before : goal.returns-clause-before
returns-clause-before c = λ p more s. no_stop_before p.part p.kept p.bytes more s

pub returns-clause-stop : goal.returns-clause-stop
returns-clause-stop c = λ p more s t. stop_is_final_stop p.part p.kept p.bytes more s t.fits t.stop

pub returns-clause-state : goal.returns-clause-state
returns-clause-state c = λ p more s t. stop_is_final_state p.part p.kept p.wrapped p.bytes more s t.fits t.stop

pub returns-clause-reads : goal.returns-clause-reads
returns-clause-reads c = λ p more s t. stop_is_final_reads p.part p.kept p.bytes more s t.fits t.stop

pub returns-clause-memory : goal.returns-clause-memory
returns-clause-memory c = λ p more s t. stop_is_final_memory p.part p.kept p.bytes more s t.fits t.stop
