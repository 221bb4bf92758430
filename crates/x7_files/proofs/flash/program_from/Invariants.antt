use Rattle.std.proofs.Common.{◌-◌, ◌≤◌, length, take}
use Rattle.x7_files.specs.File.{file_tells}
use Rattle.x7_files.specs.Flash.{ClearsBits}
use Rattle.x7_files.proofs.flash.program_from.Given as goal

abbrev pub invariant-loop-done : goal.invariant-loop-done
invariant-loop-done g l = (l.done ≤ length l.given) × ClearsBits (file_tells g.F.Seek.stream_position g.F.Read.remaining) (file_tells g.F.Seek.stream_position g.F.Write.contents) l.place (take l.done l.given) l.initial.file l.file

abbrev pub decreases-loop-done : goal.decreases-loop-done
decreases-loop-done g l = length l.given - l.done
