-- The lines of the words read out (this project's choice).
use Rattle.std.specs.Prelude.{ℕ, List, ◌++◌, codes, decimal, length}
use Rattle.x7_text.specs.Row.{data_text}

-- the number of the words read out, and these in lines of eight
unfoldable pub reads_text : List ℕ → List ℕ
reads_text reads = codes "reads " ++ decimal (length reads) ++ codes "\n" ++ data_text reads
