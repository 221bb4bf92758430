-- Lemmas on the names that calls of a flash ask for.
use Rattle.std.proofs.Common.{◌≡◌, ℕ, List, [], ◌∷◌, ◌++◌, Result, Ok, Err, refl}
use Rattle.x7_words.specs.Flash.{names_asked}
use Rattle.x7_words.specs.declared.flash_call.FlashCall.{FlashCall}
use Rattle.x7_words.specs.declared.input.Failed.{Failed}
use Rattle.x7_words.proofs.FlashLemmas.{asks_none}
use Rattle.x7_ghost.specs.Answered.{erase_call, program_call, read_call}

-- a read, whatever it answers, asks for no name
pub read_asks_none : (calls : List FlashCall) (place : ℕ) (buffer : List ℕ) (answer : Result (Unit {0}) Failed) → names_asked (calls ++ read_call place buffer answer ∷ []) ≡ names_asked calls
read_asks_none calls place buffer (Ok done) = asks_none calls (read_call place buffer (Ok done)) refl
read_asks_none calls place buffer (Err fault) = asks_none calls (read_call place buffer (Err fault)) refl

-- an erase, whatever it answers, asks for no name
pub erase_asks_none : (calls : List FlashCall) (sector : ℕ) (answer : Result (Unit {0}) Failed) → names_asked (calls ++ erase_call sector answer ∷ []) ≡ names_asked calls
erase_asks_none calls sector (Ok done) = asks_none calls (erase_call sector (Ok done)) refl
erase_asks_none calls sector (Err fault) = asks_none calls (erase_call sector (Err fault)) refl

-- a program, whatever it answers, asks for no name
pub program_asks_none : (calls : List FlashCall) (place : ℕ) (given : List ℕ) (answer : Result (Unit {0}) Failed) → names_asked (calls ++ program_call place given answer ∷ []) ≡ names_asked calls
program_asks_none calls place given (Ok done) = asks_none calls (program_call place given (Ok done)) refl
program_asks_none calls place given (Err fault) = asks_none calls (program_call place given (Err fault)) refl
