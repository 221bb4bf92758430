-- How a flash in memory keeps the write that is torn (this project's choice).
use Rattle.std.specs.Prelude.{Option, None, Some}
use Rattle.x7_in_memory.specs.Memory.{Tear}
use Rattle.x7_in_memory.specs.declared.flash.Torn.{Torn}

-- the call that is torn, and the pattern by which it is
abbrev pub tear_of : Option Torn → Option Tear
tear_of None = None
tear_of (Some torn) = Some (record { call = torn.call; pattern = torn.pattern })
