-- What a flash answered to calls, and which bytes agree with that (this project's choice).
use Rattle.std.specs.Prelude.{◌≡◌, ◌≤◌, ℕ, List, ◌++◌, length, drop}
use Rattle.x7_words.specs.Flash.{FlashState, IfKnown}
use Rattle.x7_words.specs.FlashHistory.{Gave}
use Rattle.x7_words.specs.declared.flash_call.FlashCall.{FlashCall}

-- a flash by what it answered since some moment: its size in bytes, and its calls, the newest last
pub record FlashAnswers : Type 0 where
  pub extent : ℕ
  pub calls : List FlashCall

-- what a flash has answered since it was as `first`
abbrev pub answers_since : FlashState → FlashState → FlashAnswers
answers_since first now = record { extent = now.extent; calls = drop (length first.calls) now.calls }

-- a flash is as `first`, or was so some calls before
abbrev pub IsSince : FlashState → FlashState → Type 0
IsSince first now = length first.calls ≤ length now.calls

-- a flash that has these bytes all along answers so
pub record Agrees (flash : FlashAnswers) (all : List ℕ) : Type 0 where
  pub size : length all ≡ flash.extent
  pub gave : Gave all flash.calls

-- `P` holds of the bytes of each flash that answers so; of none, where it gave two things at a place
abbrev pub IfAgrees : FlashAnswers → (List ℕ → Type 0) → Type 0
IfAgrees flash P = (all : List ℕ) → Agrees flash all → P all

-- `P` holds of the calls between two moments; where the flash's bytes are known, the reads among these calls gave them
pub record HasCalled (P : List FlashCall → Type 0) (old new : FlashState) : Type 0 where
  pub calls : List FlashCall
  pub are : new.calls ≡ old.calls ++ calls
  pub such : P calls
  pub gave : IfKnown old.bytes (λ all. Gave all calls)
