-- How fast startup goes: over k bytes by one phase at most for each four of them that are begun, whatever they are.
use Rattle.std.proofs.Common.{◌≡◌, ◌+◌, ◌-◌, ◌/◌, ◌<◌, ◌≤◌, ◌⊎◌, inl, inr, ℕ, zero, suc, Bool, true, false, if◌then◌else◌, List, [], ◌∷◌, ◌++◌, length, length-append, refl, ap, sym, subst, ◌∙◌, append_assoc, append-nil, replicate, arith}
use Rattle.std.proofs.lemmas.Bool.{cases_lt}
use Rattle.x7_words.specs.Word.{AreBytes}
use Rattle.x7_words.proofs.ListLemmas.{all_prefix}
use Rattle.x7_packets.specs.History.{Access, History, entry, executes, history_of, last_word, Placed}
use Rattle.x7_packets.proofs.GrowthLemmas.{byte_enters, placed_of}
use Rattle.x7_part.specs.Part.{PartData}
use Rattle.x7_startup.specs.Phases.{first_tick_of, IsPhase, wait_of}
use Rattle.x7_startup.specs.Startup.{Call, Arm, Byte, Desync, DropBack, StartupProgress, NotBegun, Begun, is_armed, progress_of, since_shutdown}
use Rattle.x7_startup.proofs.CallLemmas.{progress_after_desync, further, progress_arm, progress_bytes, progress_desync, progress_drop}
use Rattle.x7_startup.proofs.PhaseLemmas.{first_tick_grows, phase_first}
use Rattle.x7_engine.specs.Registers.{takes_shutdown}
use Rattle.x7_engine.specs.Startup.{phase_by, phase_of, startup_call, startup_calls, startup_progress}
use Rattle.x7_engine.proofs.ClockLemmas.{startup_more}
use Rattle.x7_engine.proofs.StartupLemmas.{phase_is}
use Rattle.x7_engine.proofs.TurnLemmas.{newest_within}

-- k bytes after a progress: not begun, gone on, or begun since then
abbrev pub Reaches : StartupProgress → StartupProgress → ℕ → Type 0
Reaches old new k = (new ≡ NotBegun) ⊎ (((c : ℕ) × (m : ℕ) × (old ≡ Begun c m) × (new ≡ Begun c (m + k))) ⊎ ((c : ℕ) × (m : ℕ) × (new ≡ Begun c m) × (m ≤ k)))

starts : (p : StartupProgress) → Reaches p p 0
starts NotBegun = inl refl
starts (Begun c m) = let e : m ≡ m + 0 = omega arith in inr (inl (c, m, refl, ap (Begun c) e))

one_more : (p q : StartupProgress) (k : ℕ) → Reaches p q k → Reaches p (further 1 q) (k + 1)
one_more p q k (inl e) = inl (ap (further 1) e)
one_more p q k (inr (inl r)) = let e : r.1 + k + 1 ≡ r.1 + (k + 1) = omega arith in inr (inl (r.0, r.1, r.2, ap (further 1) r.3 ∙ ap (Begun r.0) e))
one_more p q k (inr (inr r)) = inr (inr (r.0, r.1 + 1, ap (further 1) r.2, omega (arith, r.3)))

placed_first : (p q : StartupProgress) (k : ℕ) (armed : Bool) (d : ℕ) → Reaches p q k → Reaches p (progress_after_desync q armed d) k
placed_first p q k true d (inl e) = inr (inr (d, 0, ap (λ (x : StartupProgress). progress_after_desync x true d) e, omega arith))
placed_first p q k false d (inl e) = inl (ap (λ (x : StartupProgress). progress_after_desync x false d) e)
placed_first p q k armed d (inr (inl r)) = inr (inl (r.0, r.1, r.2, ap (λ (x : StartupProgress). progress_after_desync x armed d) r.3))
placed_first p q k armed d (inr (inr r)) = inr (inr (r.0, r.1, ap (λ (x : StartupProgress). progress_after_desync x armed d) r.2, r.3))

-- the call of an access keeps what k bytes reach
called : (p : StartupProgress) (calls : List Call) (k : ℕ) (arms drops desyncs : Bool) (d : ℕ) → Reaches p (progress_of calls) k
    → Reaches p (progress_of (calls ++ (if arms then Arm ∷ [] else if drops then DropBack ∷ [] else if desyncs then Desync d ∷ [] else []))) k
called p calls k true drops desyncs d r = subst (λ (x : StartupProgress). Reaches p x k) (sym (progress_arm calls)) r
called p calls k false true desyncs d r = inl (progress_drop calls)
called p calls k false false true d r = subst (λ (x : StartupProgress). Reaches p x k) (sym (progress_desync calls d)) (placed_first p (progress_of calls) k (is_armed false (since_shutdown calls)) d r)
called p calls k false false false d r = subst (λ (t : List Call). Reaches p (progress_of t) k) (sym (append-nil calls)) r

-- ---- a byte more

-- how far startup is k bytes further in a history
startup_on : (h : History) (n k : ℕ) → Placed n h → startup_progress h (n + k) ≡ further k (startup_progress h n)
startup_on h n k placed = ap progress_of (startup_more h n k (newest_within n h placed)) ∙ progress_bytes (startup_calls h n) k

-- an access that ends at the last byte keeps what k bytes reach
startup_entered : (p : StartupProgress) (h : History) (access : Access) (n k : ℕ) → Reaches p (startup_progress h n) k → Reaches p (startup_progress (entry access n ∷ h) n) k
startup_entered p h access n k r =
    let none : n - n ≡ 0 = omega arith in
    let here : Reaches p (progress_of (startup_calls h n ++ startup_call h access)) k = called p (startup_calls h n) k (executes 5 h access) (takes_shutdown h access) (executes 13 h access) (last_word 9 0 h) r in
    subst (λ (t : List Call). Reaches p (progress_of t) k) (sym (append_nil' none)) here
  where
    append_nil' : n - n ≡ 0 → startup_calls (entry access n ∷ h) n ≡ startup_calls h n ++ startup_call h access
    append_nil' e = let none : replicate (n - n) Byte ≡ [] = ap (λ (m : ℕ). replicate m Byte) e in ap (λ (t : List Call). (startup_calls h n ++ startup_call h access) ++ t) none ∙ append-nil (startup_calls h n ++ startup_call h access)

reach_byte : (p : StartupProgress) (bytes : List ℕ) (x k : ℕ) → AreBytes (bytes ++ x ∷ []) → Reaches p (startup_progress (history_of bytes) (length bytes)) k
    → Reaches p (startup_progress (history_of (bytes ++ x ∷ [])) (length bytes + 1)) (k + 1)
reach_byte p bytes x k fits r =
    let placed : Placed (length bytes) (history_of bytes) = placed_of bytes (all_prefix (λ b. b < 256) bytes (x ∷ []) fits) in
    let on : Reaches p (startup_progress (history_of bytes) (length bytes + 1)) (k + 1) =
    subst (λ (q : StartupProgress). Reaches p q (k + 1)) (sym (startup_on (history_of bytes) (length bytes) 1 placed)) (one_more p (startup_progress (history_of bytes) (length bytes)) k r) in
    elim (byte_enters bytes x fits) [
      | inl same ↦ subst (λ (h : History). Reaches p (startup_progress h (length bytes + 1)) (k + 1)) (sym same) on
      | inr more ↦ subst (λ (h : History). Reaches p (startup_progress h (length bytes + 1)) (k + 1)) (sym more.1) (startup_entered p (history_of bytes) more.0 (length bytes + 1) (k + 1) on)
    ]

-- ---- bytes more

reach_bytes : (p : StartupProgress) (bytes more : List ℕ) (k : ℕ) → AreBytes (bytes ++ more) → Reaches p (startup_progress (history_of bytes) (length bytes)) k
    → Reaches p (startup_progress (history_of (bytes ++ more)) (length (bytes ++ more))) (k + length more)
reach_bytes p bytes [] k fits r =
    let e : k ≡ k + 0 = omega arith in
    subst (λ (b : List ℕ). Reaches p (startup_progress (history_of b) (length b)) (k + 0)) (sym (append-nil bytes)) (subst (λ (m : ℕ). Reaches p (startup_progress (history_of bytes) (length bytes)) m) e r)
reach_bytes p bytes (x ∷ more) k fits r =
    let shift : bytes ++ x ∷ more ≡ (bytes ++ x ∷ []) ++ more = sym (append_assoc bytes (x ∷ []) more) in
    let fits' : AreBytes ((bytes ++ x ∷ []) ++ more) = subst AreBytes shift fits in
    let one : Reaches p (startup_progress (history_of (bytes ++ x ∷ [])) (length bytes + 1)) (k + 1) = reach_byte p bytes x k (all_prefix (λ b. b < 256) (bytes ++ x ∷ []) more fits') r in
    let long : length bytes + 1 ≡ length (bytes ++ x ∷ []) = sym (length-append bytes (x ∷ [])) in
    let one' : Reaches p (startup_progress (history_of (bytes ++ x ∷ [])) (length (bytes ++ x ∷ []))) (k + 1) = subst (λ (m : ℕ). Reaches p (startup_progress (history_of (bytes ++ x ∷ [])) m) (k + 1)) long one in
    let count : k + 1 + length more ≡ k + length (x ∷ more) = omega arith in
    subst (λ (m : ℕ). Reaches p (startup_progress (history_of (bytes ++ x ∷ more)) (length (bytes ++ x ∷ more))) m) count
    (subst (λ (b : List ℕ). Reaches p (startup_progress (history_of b) (length b)) (k + 1 + length more)) (sym shift) (reach_bytes p (bytes ++ x ∷ []) more (k + 1) fits' one'))

-- ---- phases

-- j phases further take j ticks at least
first_tick_late : (w : ℕ → ℕ) (p j : ℕ) → first_tick_of w p + j ≤ first_tick_of w (p + j)
first_tick_late w p zero = let e : p + 0 ≡ p = omega arith in rw e (omega arith)
first_tick_late w p (suc j) =
    let e : p + suc j ≡ suc (p + j) = omega arith in
    let h : first_tick_of w p + j ≤ first_tick_of w (p + j) = first_tick_late w p j in
    let g : first_tick_of w (p + j) + 1 ≤ first_tick_of w (suc (p + j)) = first_tick_grows w (p + j) in
    rw e (omega arith)

-- d ticks later the phase is higher by d at most
phase_within : (w : ℕ → ℕ) (t u d p q : ℕ) → IsPhase w t p → IsPhase w u q → u ≤ t + d → q ≤ p + d
phase_within w t u d p q a b l = elim (cases_lt (p + d) q) [
  | inr low ↦ low
  | inl high ↦
      let m : ℕ = q - d in
      let is : m + d ≡ q = omega arith in
      let far : first_tick_of w m + d ≤ first_tick_of w (m + d) = first_tick_late w m d in
      let far' : first_tick_of w m + d ≤ first_tick_of w q = subst (λ (x : ℕ). first_tick_of w m + d ≤ first_tick_of w x) is far in
      let begun : first_tick_of w q ≤ u = b.begun in
      let last : q ≤ 7 = b.most in
      let top : m ≤ p = a.greatest m (omega arith) (omega arith) in
      omega arith
]

-- the phase after a progress that was reached in k bytes
phase_reached : (part : PartData) (old new : StartupProgress) (k : ℕ) → Reaches old new k → phase_by part new ≤ phase_by part old + (k + 3) / 4
phase_reached part old new k (inl e) = rw e (omega arith)
phase_reached part old new k (inr (inl r)) =
    let w : ℕ → ℕ = wait_of part.lock part.matched r.0 in
    let from : IsPhase w (r.1 / 4) (phase_by part (Begun r.0 r.1)) = phase_is part (Begun r.0 r.1) in
    let to : IsPhase w ((r.1 + k) / 4) (phase_by part (Begun r.0 (r.1 + k))) = phase_is part (Begun r.0 (r.1 + k)) in
    let ticks : (r.1 + k) / 4 ≤ r.1 / 4 + (k + 3) / 4 = omega arith in
    let grown : phase_by part (Begun r.0 (r.1 + k)) ≤ phase_by part (Begun r.0 r.1) + (k + 3) / 4 = phase_within w (r.1 / 4) ((r.1 + k) / 4) ((k + 3) / 4) _ _ from to ticks in
    subst (λ (x : StartupProgress). phase_by part new ≤ phase_by part x + (k + 3) / 4) (sym r.2) (subst (λ (x : StartupProgress). phase_by part x ≤ phase_by part (Begun r.0 r.1) + (k + 3) / 4) (sym r.3) grown)
phase_reached part old new k (inr (inr r)) =
    let w : ℕ → ℕ = wait_of part.lock part.matched r.0 in
    let to : IsPhase w (r.1 / 4) (phase_by part (Begun r.0 r.1)) = phase_is part (Begun r.0 r.1) in
    let grown : phase_by part (Begun r.0 r.1) ≤ 0 + (k + 3) / 4 = phase_within w 0 (r.1 / 4) ((k + 3) / 4) 0 (phase_by part (Begun r.0 r.1)) (phase_first w) to (omega (arith, r.3)) in
    let grown' : phase_by part new ≤ 0 + (k + 3) / 4 = subst (λ (x : StartupProgress). phase_by part x ≤ 0 + (k + 3) / 4) (sym r.2) grown in
    omega arith

-- the phase some bytes later: higher by one at most for each four bytes that are begun
pub phase_later : (part : PartData) (bytes more : List ℕ) → AreBytes (bytes ++ more)
    → phase_of part (history_of (bytes ++ more)) (length (bytes ++ more)) ≤ phase_of part (history_of bytes) (length bytes) + (length more + 3) / 4
phase_later part bytes more fits =
    let old : StartupProgress = startup_progress (history_of bytes) (length bytes) in
    let r : Reaches old (startup_progress (history_of (bytes ++ more)) (length (bytes ++ more))) (0 + length more) = reach_bytes old bytes more 0 fits (starts old) in
    let e : 0 + length more ≡ length more = omega arith in
    phase_reached part old (startup_progress (history_of (bytes ++ more)) (length (bytes ++ more))) (length more) (subst (λ (m : ℕ). Reaches old (startup_progress (history_of (bytes ++ more)) (length (bytes ++ more))) m) e r)
