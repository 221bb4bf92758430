-- The answer of each kind of text that is ready: its bytes, and whether the command then ends with `Status::Stopped`
-- (this project's choice).
use Rattle.std.specs.Prelude.{ℕ, List, Vec, false}
use Rattle.std.specs.declared.alloc.Global.{Global}
use Rattle.x7_mcs.specs.Text.{mcs_text}
use Rattle.x7_forms.specs.Known.{Answer}
use Rattle.x7_outcome.specs.declared.text.Text.{Text}

-- the answer of a text that was made whole
abbrev pub text_answer : Text → Answer
text_answer t = record { stopped = t.stopped; text = t.text.items }

-- the answer of bytes that are a whole text, which reports nothing that could stop
abbrev pub bytes_answer : Vec ℕ Global → Answer
bytes_answer bytes = record { stopped = false; text = bytes.items }

-- the answer of the Intel HEX text of a flash image
abbrev pub mcs_answer : List ℕ → Answer
mcs_answer image = record { stopped = false; text = mcs_text image }
