-- The flow of a history in other words, and what accesses ask.
use Rattle.std.proofs.Common.{◌≡◌, ℕ, ◌+◌, ◌%◌, ◌^◌, ◌==◌, ◌&&◌, ◌||◌, not, Bool, true, false, if◌then◌else◌, List, [], ◌∷◌, Option, None, refl, sym, ap, ◌∙◌, arith, inl, inr}
use Rattle.std.proofs.lemmas.Bool.Decides.{nat_tests}
use Rattle.x7_packets.specs.History.{Access, Write, Read, Bad, Entry, History, command_held, writes}
use Rattle.x7_part.specs.Part.{PartData, frame_words}
use Rattle.x7_regs.specs.declared.command.Command.{Command}
use Rattle.x7_regs.specs.declared.command.Command.TheVariants as command
use Rattle.x7_regs.specs.Command.{command_by, command_with}
use Rattle.x7_pipeline.specs.Runs.{frames_of}
use Rattle.x7_pipeline.specs.FarAsRead.{is_frame_address, loaded_base}
use Rattle.x7_pipeline.specs.Copies.{is_mfw, is_wcfg, newest_of, source_after}
use Rattle.x7_flow.specs.FrameAccess.{reads_frame_data, writes_frame_data}
use Rattle.x7_flow.specs.Asking.{LoadsFar, Commands, AddsWord, CopiesSource, Reads, NothingAsked}
use Rattle.x7_flow.specs.Settings.{Settings, command_code_after, settings_of, takes_frames, takes_copies, gives_frames}
use Rattle.x7_flow.specs.HistoryFlow.{Flow, asked_under, asked_after, asks_frame_read, adds_frame_word, far_in, far_read, flow_by, flow_of, base_of, run_of, source_of, count_given}
use Rattle.x7_flow.specs.Stretches.{access_begins_stretch}
use Rattle.x7_flow.specs.FlowInWords.{base_after, count_asked, frame_taken, run_with_word, sum_of_reads, words_written}
use Rattle.x7_flow.proofs.SettingsLemmas.{settings_more, far_no_cmd}
use Rattle.x7_flow.proofs.FlowLemmas.{flow_sound}
use Rattle.x7_words.proofs.CaseLemmas.{true_or_false}

-- ---- what is asked

fdri_alone : (r : ℕ) (b : Bool) → (r == 2 && b) ≡ true → ((r == 1) ≡ false) × ((r == 4) ≡ false)
fdri_alone r b t = (grind (arith, nat_tests), grind (arith, nat_tests))

pub asked_word : (idcode : ℕ) (h : History) (access : Access) → writes_frame_data idcode h access ≡ adds_frame_word (asked_after idcode h access)
asked_word idcode h (Write r w) = by (r == 1) (r == 4) (r == 2 && takes_frames (settings_of idcode h)) (r == 10 && takes_copies (settings_of idcode h)) (fdri_alone r (takes_frames (settings_of idcode h)))
  where
    by : (far cmd fdri mfwr : Bool) → (fdri ≡ true → (far ≡ false) × (cmd ≡ false)) →
        fdri ≡ adds_frame_word (if far then LoadsFar w else if cmd then Commands (command_by w) else if fdri then AddsWord w else if mfwr then CopiesSource else NothingAsked)
    by true cmd true mfwr p = let e = p refl in absurd (cc e.0)
    by true cmd false mfwr p = refl
    by false true true mfwr p = let e = p refl in absurd (cc e.1)
    by false true false mfwr p = refl
    by false false true mfwr p = refl
    by false false false true p = refl
    by false false false false p = refl
asked_word idcode h (Read r count) = by (r == 3 && (not (count == 0) && gives_frames (settings_of idcode h)))
  where
    by : (b : Bool) → false ≡ adds_frame_word (if b then Reads count else NothingAsked)
    by true = refl
    by false = refl
asked_word idcode h (Bad w) = refl

pub asked_read : (idcode : ℕ) (h : History) (access : Access) → reads_frame_data h access ≡ asks_frame_read (asked_after idcode h access)
asked_read idcode h (Write r w) = by (r == 1) (r == 4) (r == 2 && takes_frames (settings_of idcode h)) (r == 10 && takes_copies (settings_of idcode h))
  where
    by : (far cmd fdri mfwr : Bool) → false ≡ asks_frame_read (if far then LoadsFar w else if cmd then Commands (command_by w) else if fdri then AddsWord w else if mfwr then CopiesSource else NothingAsked)
    by true cmd fdri mfwr = refl
    by false true fdri mfwr = refl
    by false false true mfwr = refl
    by false false false true = refl
    by false false false false = refl
asked_read idcode h (Read r count) = by (r == 3 && (not (count == 0) && gives_frames (settings_of idcode h)))
  where
    by : (b : Bool) → b ≡ asks_frame_read (if b then Reads count else NothingAsked)
    by true = refl
    by false = refl
asked_read idcode h (Bad w) = refl

-- ---- the run

run_step : (part : PartData) (s : Settings) (access : Access) (f : Flow) (fdri : Bool) → fdri ≡ adds_frame_word (asked_under s access) →
    (flow_by part (asked_under s access) f).run ≡ (if access_begins_stretch access then [] else if fdri then run_with_word access f.run else f.run)
run_step part s (Write r w) f fdri e = rw e (by (r == 1) (r == 4) (r == 2 && takes_frames s) (r == 10 && takes_copies s))
  where
    by : (far cmd word mfwr : Bool) → (flow_by part (if far then LoadsFar w else if cmd then Commands (command_by w) else if word then AddsWord w else if mfwr then CopiesSource else NothingAsked) f).run
        ≡ (if cmd || far then [] else if adds_frame_word (if far then LoadsFar w else if cmd then Commands (command_by w) else if word then AddsWord w else if mfwr then CopiesSource else NothingAsked) then w ∷ f.run else f.run)
    by true true word mfwr = refl
    by true false word mfwr = refl
    by false true word mfwr = refl
    by false false true mfwr = refl
    by false false false true = refl
    by false false false false = refl
run_step part s (Read r count) f fdri e = rw e (by (r == 3 && (not (count == 0) && gives_frames s)))
  where
    by : (b : Bool) → (flow_by part (if b then Reads count else NothingAsked) f).run ≡ (if adds_frame_word (if b then Reads count else NothingAsked) then f.run else f.run)
    by true = refl
    by false = refl
run_step part s (Bad w) f fdri e = rw e refl

pub run_is : (part : PartData) (h : History) → run_of part h ≡ words_written part.idcode h
unfolding flow_of words_written
run_is part [] = refl
run_is part (e ∷ h) =
    run_step part (settings_of part.idcode h) e.access (flow_of part h) (writes_frame_data part.idcode h e.access) (asked_word part.idcode h e.access)
    ∙ ap (λ (ws : List ℕ). if access_begins_stretch e.access then [] else if writes_frame_data part.idcode h e.access then run_with_word e.access ws else ws) (run_is part h)

-- ---- the base

base_step : (part : PartData) (s : Settings) (access : Access) (f : Flow) → (flow_by part (asked_under s access) f).base ≡ base_after part access (far_in part f) f.base
base_step part s (Write r w) f = by (r == 1) (r == 4) (r == 2 && takes_frames s) (r == 10 && takes_copies s) (far_no_cmd r)
  where
    by : (far cmd word mfwr : Bool) → (far ≡ true → cmd ≡ false) →
        (flow_by part (if far then LoadsFar w else if cmd then Commands (command_by w) else if word then AddsWord w else if mfwr then CopiesSource else NothingAsked) f).base
        ≡ (if cmd then far_in part f else if far then loaded_base part w else f.base)
    by true true word mfwr p = let e = p refl in absurd cc
    by true false word mfwr p = refl
    by false true word mfwr p = refl
    by false false true mfwr p = refl
    by false false false true p = refl
    by false false false false p = refl
base_step part s (Read r count) f = by (r == 3 && (not (count == 0) && gives_frames s))
  where
    by : (b : Bool) → (flow_by part (if b then Reads count else NothingAsked) f).base ≡ f.base
    by true = refl
    by false = refl
base_step part s (Bad w) f = refl

pub base_is : (part : PartData) (e : Entry) (h : History) → base_of part (e ∷ h) ≡ base_after part e.access (far_read part h) (base_of part h)
unfolding flow_of
base_is part e h = base_step part (settings_of part.idcode h) e.access (flow_of part h)

-- ---- the count given

given_step : (part : PartData) (idcode : ℕ) (h : History) (access : Access) (f : Flow) →
    (flow_by part (asked_after idcode h access) f).given ≡ (if access_begins_stretch access then 0 else if reads_frame_data h access && is_frame_address part f.base then f.given + count_asked access else f.given)
given_step part idcode h (Write r w) f = by (r == 1) (r == 4) (r == 2 && takes_frames (settings_of idcode h)) (r == 10 && takes_copies (settings_of idcode h))
  where
    by : (far cmd word mfwr : Bool) → (flow_by part (if far then LoadsFar w else if cmd then Commands (command_by w) else if word then AddsWord w else if mfwr then CopiesSource else NothingAsked) f).given
        ≡ (if cmd || far then 0 else f.given)
    by true true word mfwr = refl
    by true false word mfwr = refl
    by false true word mfwr = refl
    by false false true mfwr = refl
    by false false false true = refl
    by false false false false = refl
given_step part idcode h (Read r count) f = by (r == 3 && (not (count == 0) && gives_frames (settings_of idcode h)))
  where
    by : (b : Bool) → (flow_by part (if b then Reads count else NothingAsked) f).given ≡ (if b && is_frame_address part f.base then f.given + count else f.given)
    by true = refl
    by false = refl
given_step part idcode h (Bad w) f = refl

pub given_is : (part : PartData) (h : History) → count_given part h ≡ sum_of_reads part h
unfolding flow_of sum_of_reads
given_is part [] = refl
given_is part (e ∷ h) =
    given_step part part.idcode h e.access (flow_of part h)
    ∙ ap (λ (n : ℕ). if access_begins_stretch e.access then 0 else if reads_frame_data h e.access && is_frame_address part (base_of part h) then n + count_asked e.access else n) (given_is part h)

-- ---- the source

no_if : (test : Command → Bool) (b : Bool) (x y : Command) → test x ≡ false → test y ≡ false → test (if b then x else y) ≡ false
no_if test true x y e f = e
no_if test false x y e f = f

-- the commands from LFRM on are neither WCFG nor MFW
late_commands : (test : Command → Bool) (n : ℕ) → test command.Lfrm ≡ false → test command.Rcfg ≡ false → test command.Start ≡ false → test command.Rcap ≡ false → test command.Rcrc ≡ false →
    test command.Aghigh ≡ false → test command.Switch ≡ false → test command.Grestore ≡ false → test command.Shutdown ≡ false → test command.Gcapture ≡ false → test command.Desync ≡ false →
    test command.Iprog ≡ false → test command.Crcc ≡ false → test command.Ltimer ≡ false → test command.BspiRead ≡ false → test command.FallEdge ≡ false → test command.Null ≡ false →
    test (if n == 3 then command.Lfrm else if n == 4 then command.Rcfg else if n == 5 then command.Start else if n == 6 then command.Rcap else if n == 7 then command.Rcrc else
    if n == 8 then command.Aghigh else if n == 9 then command.Switch else if n == 10 then command.Grestore else if n == 11 then command.Shutdown else if n == 12 then command.Gcapture else
    if n == 13 then command.Desync else if n == 15 then command.Iprog else if n == 16 then command.Crcc else if n == 17 then command.Ltimer else if n == 18 then command.BspiRead else
    if n == 19 then command.FallEdge else command.Null) ≡ false
late_commands test n a b c d e f g h i j k l m o p q r =
    no_if test (n == 3) _ _ a (no_if test (n == 4) _ _ b (no_if test (n == 5) _ _ c (no_if test (n == 6) _ _ d (no_if test (n == 7) _ _ e (no_if test (n == 8) _ _ f (no_if test (n == 9) _ _ g (no_if test (n == 10) _ _ h
    (no_if test (n == 11) _ _ i (no_if test (n == 12) _ _ j (no_if test (n == 13) _ _ k (no_if test (n == 15) _ _ l (no_if test (n == 16) _ _ m (no_if test (n == 17) _ _ o (no_if test (n == 18) _ _ p (no_if test (n == 19) _ _ q r)))))))))))))))

pub wcfg_with : (n : ℕ) → is_wcfg (command_with n) ≡ (n == 1)
wcfg_with n = elim (true_or_false (n == 1)) [
  | inl t ↦ rw t refl
  | inr f ↦ rw f (no_if is_wcfg (n == 2) command.Mfw _ refl (late_commands is_wcfg n refl refl refl refl refl refl refl refl refl refl refl refl refl refl refl refl refl))
]

one_no_two : (n : ℕ) → (n == 2) ≡ true → (n == 1) ≡ false
one_no_two n t = grind (arith, nat_tests)

pub mfw_with : (n : ℕ) → is_mfw (command_with n) ≡ (n == 2)
mfw_with n = elim (true_or_false (n == 2)) [
  | inl t ↦ rw (one_no_two n t, t) refl
  | inr f ↦ rw f (no_if is_mfw (n == 1) command.Wcfg _ refl (late_commands is_mfw n refl refl refl refl refl refl refl refl refl refl refl refl refl refl refl refl refl))
]

source_step : (part : PartData) (s : Settings) (access : Access) (f : Flow) → f.command ≡ command_with s.command_code →
    (flow_by part (asked_under s access) f).source ≡ (if writes 4 access then (if command_code_after access s.command_code == 2 && s.command_code == 1 then newest_of (frames_of (frame_words part) f.run) else None) else f.source)
unfolding source_after
source_step part s (Write r w) f c = by (r == 1) (r == 4) (r == 2 && takes_frames s) (r == 10 && takes_copies s) (far_no_cmd r) ordered
  where
    swapped : (a b : Bool) (x : Option (List ℕ)) → (if a && b then x else None) ≡ (if b && a then x else None)
    swapped true true x = refl
    swapped true false x = refl
    swapped false true x = refl
    swapped false false x = refl

    ordered : source_after part f.command (command_by w) f.run ≡ (if w % 2 ^ 5 == 2 && s.command_code == 1 then newest_of (frames_of (frame_words part) f.run) else None)
    ordered =
        ap (λ (b : Bool). if b && is_mfw (command_by w) then newest_of (frames_of (frame_words part) f.run) else None) (ap is_wcfg c ∙ wcfg_with s.command_code)
        ∙ ap (λ (b : Bool). if s.command_code == 1 && b then newest_of (frames_of (frame_words part) f.run) else None) (mfw_with (w % 2 ^ 5))
        ∙ swapped (s.command_code == 1) (w % 2 ^ 5 == 2) (newest_of (frames_of (frame_words part) f.run))

    by : (far cmd word mfwr : Bool) → (far ≡ true → cmd ≡ false) →
        source_after part f.command (command_by w) f.run ≡ (if w % 2 ^ 5 == 2 && s.command_code == 1 then newest_of (frames_of (frame_words part) f.run) else None) →
        (flow_by part (if far then LoadsFar w else if cmd then Commands (command_by w) else if word then AddsWord w else if mfwr then CopiesSource else NothingAsked) f).source
        ≡ (if cmd then (if (if cmd then w % 2 ^ 5 else s.command_code) == 2 && s.command_code == 1 then newest_of (frames_of (frame_words part) f.run) else None) else f.source)
    by true true word mfwr p q = let e = p refl in absurd cc
    by true false word mfwr p q = refl
    by false true word mfwr p q = q
    by false false true mfwr p q = refl
    by false false false true p q = refl
    by false false false false p q = refl
source_step part s (Read r count) f c = by (r == 3 && (not (count == 0) && gives_frames s))
  where
    by : (b : Bool) → (flow_by part (if b then Reads count else NothingAsked) f).source ≡ f.source
    by true = refl
    by false = refl
source_step part s (Bad w) f c = refl

pub source_is : (part : PartData) (h : History) → source_of part h ≡ frame_taken part h
unfolding flow_of frame_taken
source_is part [] = refl
source_is part (e ∷ h) =
    let i = flow_sound part h in
    let held : command_code_after e.access (command_held h) ≡ command_held (e ∷ h) = sym (ap (λ (s : Settings). s.command_code) (settings_more part.idcode e h)) in
    source_step part (settings_of part.idcode h) e.access (flow_of part h) i.command_is
    ∙ ap (λ (n : ℕ). if writes 4 e.access then (if n == 2 && command_held h == 1 then newest_of (frames_of (frame_words part) (run_of part h)) else None) else source_of part h) held
    ∙ ap (λ (ws : List ℕ). if writes 4 e.access then (if command_held (e ∷ h) == 2 && command_held h == 1 then newest_of (frames_of (frame_words part) ws) else None) else source_of part h) (run_is part h)
    ∙ ap (λ (o : Option (List ℕ)). if writes 4 e.access then (if command_held (e ∷ h) == 2 && command_held h == 1 then newest_of (frames_of (frame_words part) (words_written part.idcode h)) else None) else o) (source_is part h)
