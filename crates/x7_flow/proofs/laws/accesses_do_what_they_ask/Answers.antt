use Rattle.x7_flow.specs.Settings.{settings_of}
use Rattle.x7_flow.proofs.StretchLemmas.{asked_begins_stretch, asked_copy}
use Rattle.x7_flow.proofs.WordLemmas.{asked_read, asked_word}
use Rattle.x7_flow.proofs.laws.accesses_do_what_they_ask.Goals as goal

pub returns-clause-begins : goal.returns-clause-begins
returns-clause-begins c = λ idcode h access. asked_begins_stretch (settings_of idcode h) access

pub returns-clause-word : goal.returns-clause-word
returns-clause-word c = asked_word

pub returns-clause-copy : goal.returns-clause-copy
returns-clause-copy c = asked_copy

pub returns-clause-read : goal.returns-clause-read
returns-clause-read c = asked_read
