-- Settings after one access, and after a later history.
use Rattle.std.proofs.Common.{◌≡◌, ℕ, ◌%◌, ◌^◌, ◌==◌, ◌&&◌, not, Bool, true, false, if◌then◌else◌, [], ◌∷◌, ◌++◌, refl, ap, ◌∙◌, arith}
use Rattle.std.proofs.lemmas.Bool.Decides.{nat_tests}
use Rattle.x7_packets.specs.History.{Access, Write, Read, Bad, Entry, History, last_word, written}
use Rattle.x7_flow.specs.Controls.{ctl0_held, has_idcode, mask_held}
use Rattle.x7_regs.specs.Command.{command_by, command_with}
use Rattle.x7_flow.specs.Asking.{Asked, LoadsFar, Commands, AddsWord, CopiesSource, Reads, NothingAsked}
use Rattle.x7_flow.specs.Settings.{Settings, settings_of, settings_after, settings_from, command_code_after, takes_frames, takes_copies, gives_frames}
use Rattle.x7_flow.specs.HistoryFlow.{asked_under}

held_more : (access : Access) (old : ℕ) → written 4 access old % 2 ^ 5 ≡ command_code_after access (old % 2 ^ 5)
held_more (Write register w) old = by (register == 4)
  where
    by : (b : Bool) → (if b then w else old) % 2 ^ 5 ≡ (if b then w % 2 ^ 5 else old % 2 ^ 5)
    by true = refl
    by false = refl
held_more (Read register count) old = refl
held_more (Bad w) old = refl

pub settings_more : (idcode : ℕ) (e : Entry) (h : History) → settings_of idcode (e ∷ h) ≡ settings_after idcode e.access (settings_of idcode h)
settings_more idcode e h =
    let with_held : ℕ → Settings = λ c. record { has_idcode = has_idcode idcode (e ∷ h); mask = mask_held (e ∷ h); ctl0 = ctl0_held (e ∷ h); command_code = c } in
    ap with_held (held_more e.access (last_word 4 0 h))

pub settings_joined : (idcode : ℕ) (later earlier : History) → settings_of idcode (later ++ earlier) ≡ settings_from idcode (settings_of idcode earlier) later
unfolding settings_from
settings_joined idcode [] earlier = refl
settings_joined idcode (e ∷ later) earlier = settings_more idcode e (later ++ earlier) ∙ ap (settings_after idcode e.access) (settings_joined idcode later earlier)

-- ---- what is asked, by its tests

-- the code `held` after what is asked is the one before it, but for a write to CMD, whose command it stands for; a word
-- of frame data comes under WCFG alone
abbrev pub Means : Settings → Asked → ℕ → Type 0
Means s (LoadsFar w) held = held ≡ s.command_code
Means s (Commands c) held = c ≡ command_with held
Means s (AddsWord w) held = (held ≡ s.command_code) × (s.command_code ≡ 1)
Means s CopiesSource held = held ≡ s.command_code
Means s (Reads count) held = held ≡ s.command_code
Means s NothingAsked held = held ≡ s.command_code

pub far_no_cmd : (r : ℕ) → (r == 1) ≡ true → (r == 4) ≡ false
far_no_cmd r t = grind (arith, nat_tests)

held_wcfg : (r held : ℕ) (m f : Bool) → (r == 2 && (m && (held == 1 && f))) ≡ true → held ≡ 1
held_wcfg r held m f t = grind (arith, nat_tests)

pub asked_means : (s : Settings) (access : Access) → Means s (asked_under s access) (command_code_after access s.command_code)
asked_means s (Write r w) = by (r == 1) (r == 4) (r == 2 && takes_frames s) (r == 10 && takes_copies s) (far_no_cmd r) (held_wcfg r s.command_code s.has_idcode _)
  where
    by : (far cmd fdri mfwr : Bool) → (far ≡ true → cmd ≡ false) → (fdri ≡ true → s.command_code ≡ 1) →
        Means s (if far then LoadsFar w else if cmd then Commands (command_by w) else if fdri then AddsWord w else if mfwr then CopiesSource else NothingAsked) (if cmd then w % 2 ^ 5 else s.command_code)
    by true true fdri mfwr p q = let e = p refl in absurd cc
    by true false fdri mfwr p q = refl
    by false true fdri mfwr p q = refl
    by false false true mfwr p q = (refl, q refl)
    by false false false true p q = refl
    by false false false false p q = refl
asked_means s (Read r count) = by (r == 3 && (not (count == 0) && gives_frames s))
  where
    by : (b : Bool) → Means s (if b then Reads count else NothingAsked) s.command_code
    by true = refl
    by false = refl
asked_means s (Bad w) = refl
