-- Each name stands at its own place in the tables, by a computed test.
use Rattle.std.proofs.Common.{◌≡◌, ℕ, zero, suc, ◌<◌, ◌==◌, Bool, true, ◌&&◌, List, [], ◌∷◌, length, get_or, nat_lt, refl, ap, sym, ◌∙◌, arith, inl, inr, subst}
use Rattle.std.proofs.lemmas.Bool.{cases_lt, and_parts, eqb-true, ltb-true}
use Rattle.x7_regs.specs.Register.{reg_name, reg_number_count}
use Rattle.x7_regs.specs.Command.{code_of, command_by, command_code_of, command_name_of}
use Rattle.x7_regs.specs.Named.{place_of_name}
use Rattle.x7_regs.specs.declared.command.Command.{Command}
use Rattle.x7_regs.specs.declared.command.Command.TheVariants.{Null, Wcfg, Mfw, Lfrm, Rcfg, Start, Rcap, Rcrc, Aghigh, Switch, Grestore, Shutdown, Gcapture, Desync, Iprog, Crcc, Ltimer, BspiRead, FallEdge}
use Rattle.x7_regs.specs.declared.named.TheConstants.{REGISTERS, COMMANDS}
use Rattle.x7_regs.proofs.CommandLemmas.{command_by_named}

-- a test holds of each number below n
unfoldable each : (ℕ → Bool) → ℕ → Bool
each test zero = true
each test (suc n) = test n && each test n

each_holds : (test : ℕ → Bool) (k n : ℕ) → n < k → each test k ≡ true → test n ≡ true
unfolding each
each_holds test zero n h e = absurd (omega arith)
each_holds test (suc k) n h e =
    let parts = and_parts (test k) (each test k) e in
    elim (cases_lt n k) [
      | inl below ↦ each_holds test k n below parts.1
      | inr above ↦ let same : k ≡ n = omega arith in let P : ℕ → Type 0 = λ j. test j ≡ true in subst P same parts.0
    ]

-- the table has this register number at the place of its name, and the name has two to nine bytes
unfoldable is_found : ℕ → Bool
is_found n = (get_or REGISTERS (place_of_name (reg_name n)) 0 == n) && (nat_lt 1 (length (reg_name n)) && nat_lt (length (reg_name n)) 10)

all_found : each is_found 32 ≡ true
unfolding each is_found
all_found = refl

pub register_place : (n : ℕ) → n < reg_number_count → (get_or REGISTERS (place_of_name (reg_name n)) 0 ≡ n) × (1 < length (reg_name n)) × (length (reg_name n) < 10)
unfolding is_found
register_place n h =
    let parts = and_parts (get_or REGISTERS (place_of_name (reg_name n)) 0 == n) (nat_lt 1 (length (reg_name n)) && nat_lt (length (reg_name n)) 10) (each_holds is_found 32 n h all_found) in
    let lengths = and_parts (nat_lt 1 (length (reg_name n))) (nat_lt (length (reg_name n)) 10) parts.1 in
    (eqb-true _ _ parts.0, ltb-true _ _ lengths.0, ltb-true _ _ lengths.1)

-- each number of the table is below 32
unfoldable are_below : List ℕ → Bool
are_below [] = true
are_below (x ∷ xs) = nat_lt x 32 && are_below xs

all_below : are_below REGISTERS ≡ true
unfolding are_below
all_below = refl

below_at : (xs : List ℕ) (k : ℕ) → are_below xs ≡ true → get_or xs k 0 < reg_number_count
unfolding are_below
below_at [] k e = omega arith
below_at (x ∷ xs) zero e = ltb-true x 32 (and_parts (nat_lt x 32) (are_below xs) e).0
below_at (x ∷ xs) (suc k) e = below_at xs k (and_parts (nat_lt x 32) (are_below xs) e).1

pub register_below : (k : ℕ) → get_or REGISTERS k 0 < reg_number_count
register_below k = below_at REGISTERS k all_below

pub command_place : (c : Command) → (get_or COMMANDS (place_of_name (command_name_of c)) 0 ≡ code_of c) × (1 < length (command_name_of c)) × (length (command_name_of c) < 10)
command_place Null = (refl, omega arith, omega arith)
command_place Wcfg = (refl, omega arith, omega arith)
command_place Mfw = (refl, omega arith, omega arith)
command_place Lfrm = (refl, omega arith, omega arith)
command_place Rcfg = (refl, omega arith, omega arith)
command_place Start = (refl, omega arith, omega arith)
command_place Rcap = (refl, omega arith, omega arith)
command_place Rcrc = (refl, omega arith, omega arith)
command_place Aghigh = (refl, omega arith, omega arith)
command_place Switch = (refl, omega arith, omega arith)
command_place Grestore = (refl, omega arith, omega arith)
command_place Shutdown = (refl, omega arith, omega arith)
command_place Gcapture = (refl, omega arith, omega arith)
command_place Desync = (refl, omega arith, omega arith)
command_place Iprog = (refl, omega arith, omega arith)
command_place Crcc = (refl, omega arith, omega arith)
command_place Ltimer = (refl, omega arith, omega arith)
command_place BspiRead = (refl, omega arith, omega arith)
command_place FallEdge = (refl, omega arith, omega arith)

-- a text of fewer than two bytes or of more than nine is the name of no register number
pub no_register_length : (text : List ℕ) → (1 < length text → length text < 10 → ⊥) → (n : ℕ) → n < reg_number_count → text ≡ reg_name n → ⊥
no_register_length text h n b e = let p = register_place n b in let l : length text ≡ length (reg_name n) = ap length e in h (omega (arith, p.1)) (omega (arith, p.2))

-- a text is the name of no register number, where the number at its place has another name
pub no_register : (text name : List ℕ) (k : ℕ) → k ≡ get_or REGISTERS (place_of_name text) 0 → name ≡ reg_name k → (name ≡ text → ⊥) → (n : ℕ) → n < reg_number_count → text ≡ reg_name n → ⊥
no_register text name k found is other n b e =
    other (is ∙ ap reg_name (found ∙ ap (λ t. get_or REGISTERS (place_of_name t) 0) e ∙ (register_place n b).0) ∙ sym e)

small : (c : Command) → command_code_of (code_of c) ≡ code_of c
small Null = refl
small Wcfg = refl
small Mfw = refl
small Lfrm = refl
small Rcfg = refl
small Start = refl
small Rcap = refl
small Rcrc = refl
small Aghigh = refl
small Switch = refl
small Grestore = refl
small Shutdown = refl
small Gcapture = refl
small Desync = refl
small Iprog = refl
small Crcc = refl
small Ltimer = refl
small BspiRead = refl
small FallEdge = refl

-- a text is the name of no command, where the command at its place has another name
pub no_command : (text name : List ℕ) (k : ℕ) (found : Command) → k ≡ get_or COMMANDS (place_of_name text) 0 → found ≡ command_by k → name ≡ command_name_of found → (name ≡ text → ⊥) → (c : Command) → text ≡ command_name_of c → ⊥
no_command text name k found is by named other c e =
    let code : k ≡ code_of c = is ∙ ap (λ t. get_or COMMANDS (place_of_name t) 0) e ∙ (command_place c).0 in
    let same : found ≡ c = by ∙ ap command_by code ∙ command_by_named c (code_of c) (small c) in
    other (named ∙ ap command_name_of same ∙ sym e)
