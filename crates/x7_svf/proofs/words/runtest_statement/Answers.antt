use Rattle.x7_svf.proofs.WordsLemmas.{no_runtest}
use Rattle.x7_svf.proofs.words.runtest_statement.Goals as goal

pub returns-in_default : goal.returns-in_default
returns-in_default c = (no_runtest c.args.saved.now c.args.words c.in_default.not-Two c.in_default.not-Three c.in_default.not-Four, tt)
