-- Calls of a flash that follow a plan (this project's choice).
use Rattle.std.specs.Prelude.{◌≡◌, ℕ, ◌⊎◌, List, [], ◌∷◌, length}
use Rattle.x7_words.specs.declared.flash_call.FlashCall.{FlashCall}
use Rattle.x7_words.specs.declared.flash_call.FlashCall.TheVariants.{Read, ReadFailed, Erased, EraseFailed, Programmed, ProgramFailed}

-- a call ends a plan early, in the place of this call of the plan: it failed, or read other bytes
abbrev pub EndsEarly : FlashCall → FlashCall → Type 0
EndsEarly (Read place bytes) call = (wanted : List ℕ) × (call ≡ Read place wanted) × (length bytes ≡ length wanted)
EndsEarly (ReadFailed place count) call = (wanted : List ℕ) × (call ≡ Read place wanted) × (count ≡ length wanted)
EndsEarly (EraseFailed sector) call = call ≡ Erased sector
EndsEarly (ProgramFailed place given) call = call ≡ Programmed place given
EndsEarly made call = ⊥

-- the calls are the first ones of a plan, and no others, but that the last may have ended it early
abbrev pub Follows : List FlashCall → List FlashCall → Type 0
Follows [] plan = Unit {0}
Follows (call ∷ calls) [] = ⊥
Follows (call ∷ calls) (next ∷ plan) = ((call ≡ next) × Follows calls plan) ⊎ ((calls ≡ []) × EndsEarly call next)
