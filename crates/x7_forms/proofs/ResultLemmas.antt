-- Results by their clauses.
use Rattle.std.proofs.Common.{◌≡◌, Result, Ok, Err, IfErr, IfOk, false, OnErr, OnOk, ap}
use Rattle.std.specs.Prelude.{IsErr, IsErrAnd}
use Rattle.std.specs.Result.{is_err}
use Rattle.x7_forms.specs.declared.refusal.Refusal.{Refusal}

-- an error by a weaker clause
pub err_weaker : {A B : Type 0} {P Q : B → Type 0} (r : Result A B) → ((e : B) → P e → Q e) → IfErr r P → IfErr r Q
err_weaker (Ok a) f p = tt
err_weaker (Err e) f p = f e p

-- a value by a weaker clause
pub ok_weaker : {A B : Type 0} {P Q : A → Type 0} (r : Result A B) → ((a : A) → P a → Q a) → IfOk r P → IfOk r Q
ok_weaker (Ok a) f p = f a p
ok_weaker (Err e) f p = tt

-- what holds of a value
pub from_ok : {A B P : Type 0} (r : Result A B) → is_err r ≡ false → OnOk r P → P
from_ok (Ok a) e h = h
from_ok (Err b) e h = absurd (cc)

-- a refusal that is handed on is the one that the call ends with
pub handed_on : {A : Type 0} (r : Result A Refusal) (refusal : Refusal) → IsErr r × IsErrAnd r (λ e. e ≡ refusal) → r ≡ Err refusal
handed_on (Ok a) refusal h = absurd h.1
handed_on (Err b) refusal h = ap Err h.1

-- what holds at an error
pub at_err : {A B P : Type 0} (r : Result A B) → P → OnErr r P
at_err (Ok a) p = tt
at_err (Err b) p = p
