-- Plans that are made from a number, and the summary of their streams (this project's choice).
use Rattle.std.specs.Prelude.{ℕ, ◌+◌, ◌*◌, ◌%◌, ◌^◌, nat_lt, if◌then◌else◌, List, [], ◌∷◌, ◌++◌, false, codes, decimal, length, map, unwrap_or}
use Rattle.std.specs.List.{range_with_len, sum}
use Rattle.x7_text.specs.Digits.{hex_word}
use Rattle.x7_part.specs.AddressOrder.{addresses_in}
use Rattle.x7_part.specs.Part.{PartData, frame_words}
use Rattle.x7_memory.specs.FrameMap.{FrameMap}
use Rattle.x7_memory.specs.Plan.{PlanData, PlanRow, total}
use Rattle.x7_planner.specs.FullStream.{full_stream}
use Rattle.x7_engine.specs.Kept.{on_the_bench}
use Rattle.x7_engine.specs.State.{memory_of_bytes, state_of}

-- the number after `number` in the sequence that a seed begins: a linear congruence modulo 2^32
abbrev pub next_number : ℕ → ℕ
next_number number = (1664525 * number + 1013904223) % 2 ^ 32

-- `count` words that count up from the word `first`, modulo 2^32
abbrev pub counted : ℕ → ℕ → List ℕ
counted count first = map (λ i. (first + i) % 2 ^ 32) (range_with_len 0 count)

-- the least number with which a frame is planned
abbrev pub least_planned : ℕ
least_planned = 2 ^ 31

-- what is planned for the address `far` by `number`: nothing where that is below the least, and else `width` words that
-- count up from it
abbrev pub row_by : ℕ → ℕ → ℕ → List PlanRow
row_by width far number = if nat_lt number least_planned then [] else record { far = far; words = counted width number } ∷ []

-- what is planned for these addresses: the number of the first is the one after `number`, that of each other the one
-- after the number of the address before it
abbrev pub rows_after : ℕ → ℕ → List ℕ → List PlanRow
rows_after width number [] = []
rows_after width number (far ∷ fars) = row_by width far (next_number number) ++ rows_after width (next_number number) fars

-- the plan of a seed
abbrev pub plan_of_seed : PartData → ℕ → PlanData
plan_of_seed part seed = record { width = frame_words part; rows = rows_after (frame_words part) seed (addresses_in part) }

-- the words of the frames at these addresses, added up; an address without a frame adds nothing
abbrev pub words_sum : FrameMap → List ℕ → ℕ
words_sum memory [] = 0
words_sum memory (far ∷ fars) = sum (unwrap_or (memory far) []) + words_sum memory fars

-- the first line of the text of `gen`: the name of the part, and the seed
abbrev pub gen_line : List ℕ → ℕ → List ℕ
gen_line name seed = codes "gen " ++ name ++ codes " " ++ decimal seed ++ codes "\n"

-- the line of a number in decimal digits, after its key
abbrev pub count_line : List ℕ → ℕ → List ℕ
count_line key n = key ++ decimal n ++ codes "\n"

-- the line of a sum, a word of 32 bits
abbrev pub sum_line : ℕ → List ℕ
sum_line n = codes "sum " ++ hex_word n ++ codes "\n"

-- what a summary says of a stream that was played: how many frames are planned, how many bytes the stream has, and of a
-- device that took it the phase and the sum of all words of its memory
pub record SummaryData : Type 0 where
  pub planned : ℕ
  pub size : ℕ
  pub phase : ℕ
  pub sum : ℕ

-- the text of a summary, by the part's name and the seed
unfoldable pub summary_text : List ℕ → ℕ → SummaryData → List ℕ
summary_text name seed s =
    gen_line name seed ++ count_line (codes "planned ") s.planned ++ count_line (codes "stream ") s.size ++ count_line (codes "phase ") s.phase ++ sum_line s.sum

-- the summary of a stream, played on a new device, whose plan has `planned` frames; the sum is modulo 2^32
abbrev pub played_summary : PartData → ℕ → ℕ → List ℕ → List ℕ
played_summary part seed planned stream =
    summary_text part.name seed (record {
      planned = planned;
      size = length stream;
      phase = (state_of part on_the_bench false stream).phase;
      sum = words_sum (memory_of_bytes part on_the_bench stream) (addresses_in part) % 2 ^ 32;
    })

-- the text of `gen`
unfoldable pub gen_text : PartData → ℕ → List ℕ
gen_text part seed = played_summary part seed (length (plan_of_seed part seed).rows) (full_stream part (plan_of_seed part seed))

-- the summary by what was planned: how many frames the plan has and how many bytes its full stream, phase 7, and the
-- sum modulo 2^32 of the words of the plan over zeros
abbrev pub planned_summary : PartData → ℕ → List ℕ
planned_summary part seed =
    summary_text part.name seed (record {
      planned = length (plan_of_seed part seed).rows;
      size = length (full_stream part (plan_of_seed part seed));
      phase = 7;
      sum = words_sum (total part (plan_of_seed part seed)) (addresses_in part) % 2 ^ 32;
    })
