-- A lister that takes the runs of a stream, one after another (this project's choice).
use Rattle.std.specs.Prelude.{ℕ, List, ◌++◌}
use Rattle.x7_packets.specs.Mode.{Mode}
use Rattle.x7_packets.specs.Run.{IsNext, bytes_of_run}
use Rattle.x7_packets.specs.declared.stream.Run.{Run}
use Rattle.x7_packets.specs.declared.stream.Run.TheVariants as run
use Rattle.x7_listing.specs.Lister.{HasFinished, ListerState, TakerStandsFor}

-- what a lister of runs has listed: the texts given before its own, the listings before, the bytes of the runs, and
-- where a cutter stands after them
pub record RunsListed : Type 0 where
  pub given : List ℕ
  pub before : List ℕ
  pub bytes : List ℕ
  pub due : Mode

-- a `RunsListed` with these fields
abbrev pub runs_listed : List ℕ → List ℕ → List ℕ → Mode → RunsListed
runs_listed given before bytes due = record { given = given; before = before; bytes = bytes; due = due }

-- a run was taken, with which these bytes are listed; the end ends the listing
abbrev pub TakesRun : Run → ListerState → RunsListed → Type 0
TakesRun run.End l listed = HasFinished l listed.given listed.before listed.bytes
TakesRun r l listed = TakerStandsFor l listed.given listed.before listed.bytes listed.due

-- the next run of a stream is taken
abbrev pub TakesNext : Run → ListerState → ListerState → Type 0
TakesNext r old new = (given before bytes : List ℕ) (due next : Mode)
    → TakerStandsFor old given before bytes due → IsNext bytes due r next → TakesRun r new (runs_listed given before (bytes ++ bytes_of_run r) next)
