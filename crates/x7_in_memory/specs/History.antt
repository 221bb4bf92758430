-- What calls of a flash in memory did to it, one by one and one after another (this project's choice).
use Rattle.std.specs.Prelude.{◌≡◌, List, [], ◌∷◌, ◌++◌}
use Rattle.x7_words.specs.FlashHistory.{IsHistory, Makes}
use Rattle.x7_words.specs.declared.flash_call.FlashCall.{FlashCall}
use Rattle.x7_in_memory.specs.Memory.{FlashInMemory}

-- this call was done: the flash keeps it, and it made of the bytes what it says
pub record IsCallOf (call : FlashCall) (old new : FlashInMemory) : Type 0 where
  pub kept : new.history ≡ old.history ++ call ∷ []
  pub makes : Makes call old.bytes new.bytes

-- these calls were done, one after the other
abbrev pub AreCallsOf : List FlashCall → FlashInMemory → FlashInMemory → Type 0
AreCallsOf [] old new = new ≡ old
AreCallsOf (call ∷ calls) old new = (mid : FlashInMemory) × IsCallOf call old mid × AreCallsOf calls mid new

-- the flash keeps these calls, and its bytes are what they make of those that it had before them: each read gave what was
-- there
pub record GivesWhatWasWritten (calls : List FlashCall) (old new : FlashInMemory) : Type 0 where
  pub kept : new.history ≡ old.history ++ calls
  pub bytes : IsHistory calls old.bytes new.bytes
