use Rattle.x7_forms.proofs.message.write_line.Goals as goal

pub returns-in-Nothing : goal.returns-in-Nothing
returns-in-Nothing g c = rw c.in-Nothing.is c.write_text.ensures

pub returns-in-Number : goal.returns-in-Number
returns-in-Number g c = rw (c.in-Number.is, ← c.format.ensures.text, ← c.as_bytes-digits.ensures.value) c.write_text-in-Number.ensures

pub returns-in-Word : goal.returns-in-Word
returns-in-Word g c = rw c.in-Word.is (rw c.hex_of_word.ensures at c.write_text-in-Word.ensures)

pub returns-in-Sum : goal.returns-in-Sum
returns-in-Sum g c = rw c.in-Sum.is c.write_sum.ensures

pub returns-in-Key : goal.returns-in-Key
returns-in-Key g c = rw c.in-Key.is c.write_key.ensures
