-- Lemmas on specs/Sequence: what a device keeps of startup says the same as the guide's words.
use Rattle.std.proofs.Common.{◌≡◌, ◌==◌, ◌&&◌, ◌||◌, inl, inr, ◌↔◌, IsTrue, ℕ, Bool, true, false, if◌then◌else◌, Option, None, Some, [], ◌∷◌, refl, arith}
use Rattle.std.proofs.lemmas.Bool.Decides.{nat_tests}
use Rattle.std.proofs.lemmas.Bool.{and_left, or_from}
use Rattle.x7_packets.specs.History.{Access, Bad, History, Read, Write, command_held, executed_by, executes, is_command}
use Rattle.x7_crc.specs.RunningCheck.{running_check}
use Rattle.x7_engine.specs.Registers.{has_ghigh, clears_check, is_pending, takes_shutdown}
use Rattle.x7_engine.specs.Sequence.{Executes, HasGhigh, IsPending, lowers_ghigh}
use Rattle.x7_engine.proofs.SinceLemmas.{since_here, since_more, since_none, since_parts}

-- ---- an access executes one command, and a write to CRC none

pub other_command : (o : Option ℕ) (c d : ℕ) → (c == d) ≡ false → is_command c o ≡ true → is_command d o ≡ false
other_command None c d n e = absurd (cc)
other_command (Some k) c d n e = let same : k ≡ c = grind (arith, nat_tests, e) in grind (arith, nat_tests, n, same)

pub no_clearance : (h : History) (access : Access) (c : ℕ) → (c == 7) ≡ false → executes c h access ≡ true → clears_check h access ≡ false
no_clearance h (Read register n) c d e = absurd (cc)
no_clearance h (Bad w) c d e = absurd (cc)
no_clearance h (Write register w) c d e = by (register == 0) refl
  where
    by : (b : Bool) → (register == 0) ≡ b → clears_check h (Write register w) ≡ false
    by false z = or_from (executes 7 h (Write register w)) (register == 0 && w == running_check h) (other_command (executed_by (command_held h) (Write register w)) c 7 d e) (and_left (register == 0) (w == running_check h) z)
    by true z =
        let cmd : (register == 4) ≡ false = grind (arith, nat_tests, z) in
        let far : (register == 1) ≡ false = grind (arith, nat_tests, z) in
        let none = rw (cmd, far) at e in
        absurd (cc)

pub no_taking : (h : History) (access : Access) (c : ℕ) → (c == 7) ≡ false → executes c h access ≡ true → takes_shutdown h access ≡ false
no_taking h access c d e = and_left (clears_check h access) (is_pending h) (no_clearance h access c d e)

-- ---- a pending shutdown

pub pending_is : (h : History) → IsTrue (is_pending h) ↔ IsPending h
pending_is [] = (λ e. absurd (cc), λ s. absurd (since_none (Executes 11) clears_check s))
pending_is (e ∷ h) = by (clears_check h e.access) (executes 11 h e.access) (is_pending h) refl refl (pending_is h)
  where
    by : (c x p : Bool) → clears_check h e.access ≡ c → executes 11 h e.access ≡ x → (IsTrue p ↔ IsPending h) → IsTrue (if c then false else x || p) ↔ IsPending (e ∷ h)
    by true x p c d i = (
      λ q. absurd (cc),
      λ s. elim (since_parts (Executes 11) clears_check e h s) [ inl k ↦ absurd (let no : clears_check h e.access ≡ false = no_clearance h e.access 11 refl k in cc) | inr k ↦ absurd (let no : clears_check h e.access ≡ false = k.0 in cc) ],
    )
    by false true p c d i = (λ q. since_here (Executes 11) clears_check e h d, λ s. refl)
    by false false p c d i = (
      λ q. since_more (Executes 11) clears_check e h c (i.0 q),
      λ s. elim (since_parts (Executes 11) clears_check e h s) [ inl k ↦ absurd (let yes : executes 11 h e.access ≡ true = k in cc) | inr k ↦ i.1 k.1 ],
    )

pub taking_is : (h : History) (access : Access) → IsTrue (takes_shutdown h access) ↔ (IsTrue (clears_check h access) × IsPending h)
taking_is h access = by (clears_check h access) (is_pending h) refl (pending_is h)
  where
    by : (c p : Bool) → clears_check h access ≡ c → (IsTrue p ↔ IsPending h) → IsTrue (c && p) ↔ (IsTrue c × IsPending h)
    by true p c i = (λ q. (refl, i.0 q), λ s. i.1 s.1)
    by false p c i = (λ q. absurd (cc), λ s. absurd (let no : false ≡ true = s.0 in cc))

-- ---- GHIGH_B

pub ghigh_is : (h : History) → IsTrue (has_ghigh h) ↔ HasGhigh h
ghigh_is [] = (λ e. absurd (cc), λ s. absurd (since_none (Executes 3) lowers_ghigh s))
ghigh_is (e ∷ h) = by (executes 3 h e.access) (lowers_ghigh h e.access) (has_ghigh h) refl refl (ghigh_is h)
  where
    by : (x l g : Bool) → executes 3 h e.access ≡ x → lowers_ghigh h e.access ≡ l → (IsTrue g ↔ HasGhigh h) → IsTrue (if x then true else if l then false else g) ↔ HasGhigh (e ∷ h)
    by true l g d c i = (λ q. since_here (Executes 3) lowers_ghigh e h d, λ s. refl)
    by false true g d c i = (
      λ q. absurd (cc),
      λ s. elim (since_parts (Executes 3) lowers_ghigh e h s) [ inl k ↦ absurd (let yes : executes 3 h e.access ≡ true = k in cc) | inr k ↦ absurd (let no : lowers_ghigh h e.access ≡ false = k.0 in cc) ],
    )
    by false false g d c i = (
      λ q. since_more (Executes 3) lowers_ghigh e h c (i.0 q),
      λ s. elim (since_parts (Executes 3) lowers_ghigh e h s) [ inl k ↦ absurd (let yes : executes 3 h e.access ≡ true = k in cc) | inr k ↦ i.1 k.1 ],
    )

-- an access executes one command
pub other_executed : (h : History) (access : Access) (c d : ℕ) → (c == d) ≡ false → executes c h access ≡ true → executes d h access ≡ false
other_executed h access c d n e = other_command (executed_by (command_held h) access) c d n e
