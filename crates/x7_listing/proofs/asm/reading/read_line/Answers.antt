use Rattle.std.proofs.Common.{◌∙◌, sym}
use Rattle.x7_listing.proofs.LineLemmas.{bytes_line, data_line, none_read, nothing_read, word_read}
use Rattle.x7_listing.proofs.asm.reading.read_line.Goals as goal

pub returns-in-Some-clause-reads : goal.returns-in-Some-clause-reads
returns-in-Some-clause-reads c = λ check. data_line check c.read_word_row.result c.args.line.now c.in-Some.words.now c.args.out.now.items c.read_word_row.new.out.items c.in-Some.ensures c.read_word_row.ensures.reads

pub returns-in-Some-after-clause-reads : goal.returns-in-Some-after-clause-reads
returns-in-Some-after-clause-reads c = λ check. bytes_line check c.read_byte_row.result c.args.line.now c.in-Some-after.digits.now c.args.out.now.items c.read_byte_row.new.out.items c.in-Some-after.ensures c.read_byte_row.ensures.reads

pub returns-then-means_nothing-clause-reads : goal.returns-then-means_nothing-clause-reads
returns-then-means_nothing-clause-reads c = λ check. nothing_read check c.args.line.now c.args.out.now.items (sym c.means_nothing.ensures ∙ c.if-means_nothing.true)

pub returns-in_default-word_of_line-clause-reads : goal.returns-in_default-word_of_line-clause-reads
returns-in_default-word_of_line-clause-reads c = λ check.
    none_read check c.args.line.now c.args.out.now.items c.in_default.ensures c.in_default-after.ensures (sym c.means_nothing.ensures ∙ c.if-means_nothing.false) c.requires.no_check c.in_default-word_of_line.ensures

pub returns-clause-reads : goal.returns-clause-reads
returns-clause-reads c = λ check.
    word_read check c.in-Some-word_of_line.word c.args.line.now c.args.out.now.items c.put_word_bytes.new.out.items c.in-Some-word_of_line.ensures c.put_word_bytes.ensures.appends.items

pub returns-in-Some-clause-room : goal.returns-in-Some-clause-room
returns-in-Some-clause-room c = c.read_word_row.ensures.room

pub returns-in-Some-after-clause-room : goal.returns-in-Some-after-clause-room
returns-in-Some-after-clause-room c = c.read_byte_row.ensures.room
