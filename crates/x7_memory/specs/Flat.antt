-- Frames as one list of words (this project's choice).
use Rattle.std.specs.Prelude.{ℕ, ◌+◌, ◌++◌, List, length, take, drop}

-- words, with a frame in the place of as many words from number `start` on, where the first has number 0
abbrev pub words_with_frame : ℕ → List ℕ → List ℕ → List ℕ
words_with_frame start frame words = take start words ++ (frame ++ drop (start + length frame) words)
