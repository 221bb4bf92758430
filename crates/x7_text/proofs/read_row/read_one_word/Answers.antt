use Rattle.std.proofs.Common.{refl, arith}
use Rattle.x7_text.proofs.ReadRowLemmas.{no_one_word, no_space_first, yes_one_word}
use Rattle.x7_text.proofs.read_row.read_one_word.Goals as goal

pub returns-then-text-ne32-clause-reads : goal.returns-then-text-ne32-clause-reads
returns-then-text-ne32-clause-reads c = (no_space_first c.args.text.now c.requires.length c.if-text-ne32.true, refl)

pub returns-in-Some-clause-reads : goal.returns-in-Some-clause-reads
returns-in-Some-clause-reads c =
    yes_one_word c.args.text.now c.args.out.now.items c.put.new.text.items c.bytes_of.result c.in-Some.word c.requires.length c.if-text-ne32.false (omega arith) c.in-Some.ensures c.bytes_of.ensures.value c.put.ensures.appends.items

pub returns-in-None-clause-reads : goal.returns-in-None-clause-reads
returns-in-None-clause-reads c = (no_one_word c.args.text.now c.requires.length c.in-None.ensures, refl)
