use Rattle.x7_packets.specs.History.{next_in}
use Rattle.x7_packets.proofs.HistoryLemmas.{cut_enters, history_is, next_on, next_word_is, run_enters, words_on}
use Rattle.x7_packets.proofs.laws.words_enter.Goals as goal

pub returns-clause-words : goal.returns-clause-words
returns-clause-words c = λ old new more l. words_on more old.sessions old.place new l

pub returns-clause-next : goal.returns-clause-next
returns-clause-next c = λ old new more l. (next_on more old.sessions old.place new l).0

pub returns-clause-tail : goal.returns-clause-tail
returns-clause-tail c = λ old new more l. (next_on more old.sessions old.place new l).1

pub returns-clause-run : goal.returns-clause-run
returns-clause-run c = λ run old new a. run_enters run old.sessions new.sessions old.place new.place a

pub returns-clause-place : goal.returns-clause-place
returns-clause-place c = next_word_is

pub returns-clause-cut : goal.returns-clause-cut
returns-clause-cut c = λ bytes more r run h. cut_enters h.old h.new bytes more r.sessions r.place run (next_in r) h.reads h.went (next_word_is bytes r.sessions r.place h.reads.reading)

pub returns-clause-history : goal.returns-clause-history
returns-clause-history c = history_is
