-- What a planner writes after a history in which nothing stops the device, and which leaves startup as it is.
use Rattle.std.proofs.Common.{◌≡◌, ◌==◌, ◌||◌, ◌+◌, ◌*◌, ◌%◌, ◌^◌, ◌≤◌, ℕ, Bool, true, false, if◌then◌else◌, None, List, [], ◌∷◌, ◌++◌, length, refl, sym, ap, ◌∙◌, arith}
use Rattle.std.proofs.lemmas.Bool.{and_right}
use Rattle.std.specs.Option.{option_or}
use Rattle.x7_packets.specs.History as access
use Rattle.x7_packets.specs.History.{Access, History, command_held, entry, executes, last_word}
use Rattle.x7_crc.specs.RunningCheck.{running_check}
use Rattle.x7_part.specs.Part.{PartData}
use Rattle.x7_startup.specs.Startup.{StartupProgress}
use Rattle.x7_startup.specs.Startup as call
use Rattle.x7_engine.specs.declared.kept.Kept.{Kept}
use Rattle.x7_flow.specs.Controls.{ctl0_held, has_idcode, mask_held, masked_word}
use Rattle.x7_engine.specs.Registers.{clears_check, is_pending, takes_shutdown}
use Rattle.x7_engine.specs.Startup.{startup_call}
use Rattle.x7_flow.specs.HistoryFlow.{frame_fault}
use Rattle.x7_regs.specs.Control.{has_dec}
use Rattle.x7_engine.specs.Stop.{why_besides_frames, why_by_frames, why_at_access}
use Rattle.x7_effects.proofs.Items.{Item, item_words, items_entered, item_entered}
use Rattle.x7_effects.proofs.Checking.{Checking, Piece, checking_of, piece_item, piece_length, pieces_length, with_checks}
use Rattle.x7_effects.proofs.CheckingLemmas.{item_checked}
use Rattle.x7_effects.proofs.FormLemmas.{piece_long}
use Rattle.x7_effects.proofs.CalmLemmas.{IsCalm, IsOff, calm_access, calm_bytes}
use Rattle.x7_effects.proofs.StillLemmas.{IsStill, still_bytes, still_desynced, still_none}

-- ---- pieces one after another; each check is the running one

abbrev pub written : ℕ → List Piece → History → History
written place [] h = h
written place (p ∷ pieces) h = written (place + 4 * piece_length p) pieces (item_entered place (piece_item (checking_of h) p) h)

pub written_is : (place : ℕ) (pieces : List Piece) (h : History) → items_entered place (with_checks (checking_of h) pieces) h ≡ written place pieces h
written_is place [] h = refl
written_is place (p ∷ pieces) h =
    let i : Item = piece_item (checking_of h) p in
    let g : History = item_entered place i h in
    ap (λ (c : Checking). items_entered (place + 4 * length (item_words i)) (with_checks c pieces) g) (sym (item_checked place i h))
    ∙ ap (λ (k : ℕ). items_entered (place + 4 * k) (with_checks (checking_of g) pieces) g) (piece_long (checking_of h) p)
    ∙ written_is (place + 4 * piece_length p) pieces g

pub written_append : (place : ℕ) (xs ys : List Piece) (h : History) → written place (xs ++ ys) h ≡ written (place + 4 * pieces_length xs) ys (written place xs h)
written_append place [] ys h = ap (λ (k : ℕ). written k ys h) (omega arith)
written_append place (p ∷ xs) ys h =
    let g : History = item_entered place (piece_item (checking_of h) p) h in
    written_append (place + 4 * piece_length p) xs ys g
    ∙ ap (λ (k : ℕ). written k ys (written (place + 4 * piece_length p) xs g)) (omega arith)

-- ---- nothing stops the device, and startup stays as it is

pub record IsGoing (part : PartData) (kept : Kept) (startup : StartupProgress) (h : History) (n : ℕ) : Type 0 where
  pub calm : IsCalm part kept h n
  pub still : IsStill part startup h n
  pub pending : is_pending h ≡ false

pub going_bytes : (part : PartData) (kept : Kept) (startup : StartupProgress) (h : History) (n m : ℕ) → n ≤ m → IsGoing part kept startup h n → IsGoing part kept startup h m
going_bytes part kept startup h n m l g = record { calm = calm_bytes part kept h n m l g.calm; still = still_bytes part startup h n m g.calm.newest l g.still; pending = g.pending }

-- an access that executes neither START, SHUTDOWN nor DESYNC
pub record IsQuiet (h : History) (access : Access) : Type 0 where
  pub start : executes 5 h access ≡ false
  pub shutdown : executes 11 h access ≡ false
  pub desync : executes 13 h access ≡ false

pub no_taking : (h : History) (access : Access) → is_pending h ≡ false → takes_shutdown h access ≡ false
no_taking h access e = and_right (clears_check h access) (is_pending h) e

pub quiet_call : (h : History) (access : Access) → is_pending h ≡ false → IsQuiet h access → startup_call h access ≡ []
quiet_call h access e q = rw (q.start, no_taking h access e, q.desync) refl

pending_by : (cleared shutdown pending : Bool) → shutdown ≡ false → pending ≡ false → (if cleared then false else shutdown || pending) ≡ false
pending_by true shutdown pending e f = refl
pending_by false true pending e f = absurd (cc)
pending_by false false pending e f = f

pub still_none_pending : (h : History) (access : Access) (place : ℕ) → is_pending h ≡ false → executes 11 h access ≡ false → is_pending (entry access place ∷ h) ≡ false
still_none_pending h access place e f = pending_by (clears_check h access) (executes 11 h access) (is_pending h) f e

pub going_access : (part : PartData) (kept : Kept) (startup : StartupProgress) (h : History) (access : Access) (n place : ℕ) → n ≤ place → IsGoing part kept startup h n
    → IsQuiet h access → why_at_access part kept h access ≡ None → IsOff kept (entry access place ∷ h) → IsGoing part kept startup (entry access place ∷ h) place
going_access part kept startup h access n place l g q none off =
    let before : IsGoing part kept startup h place = going_bytes part kept startup h n place l g in
    record {
      calm = calm_access part kept h access n place l g.calm none off;
      still = still_none part startup h access place (quiet_call h access g.pending q) before.still;
      pending = still_none_pending h access place g.pending q.shutdown;
    }

-- what DESYNC calls for in startup
desync_call : (h : History) → startup_call h (access.Write 4 13) ≡ call.Desync (last_word 9 0 h) ∷ []
desync_call h = refl

pub going_desync : (part : PartData) (kept : Kept) (startup : StartupProgress) (h : History) (n place : ℕ) → n ≤ place → IsGoing part kept startup h n
    → why_at_access part kept h (access.Write 4 13) ≡ None → IsGoing part kept startup (entry (access.Write 4 13) place ∷ h) place
going_desync part kept startup h n place l g none =
    let before : IsGoing part kept startup h place = going_bytes part kept startup h n place l g in
    record {
      calm = calm_access part kept h (access.Write 4 13) n place l g.calm none g.calm.off;
      still = still_desynced part startup h (access.Write 4 13) place (last_word 9 0 h) (desync_call h) before.still;
      pending = still_none_pending h (access.Write 4 13) place g.pending refl;
    }

-- an access that executes neither START, SHUTDOWN nor DESYNC: RCRC, and a FAR load under another command
pub quiet_rcrc : (h : History) → IsQuiet h (access.Write 4 7)
quiet_rcrc h = record { start = refl; shutdown = refl; desync = refl }

pub quiet_far : (h : History) (far held : ℕ) → command_held h ≡ held → (held == 5) ≡ false → (held == 11) ≡ false → (held == 13) ≡ false → (held == 15) ≡ false → IsQuiet h (access.Write 1 far)
quiet_far h far held e a b c d = record { start = rw (e, c, d) a; shutdown = rw (e, c, d) b; desync = rw (e, c, d) c }

-- ---- lines that no access of a stream comes to

-- no stop by the registers, and no fault of the frames
pub why_none : (part : PartData) (kept : Kept) (h : History) (access : Access) → why_besides_frames part kept h access ≡ None → frame_fault part h access ≡ None → why_at_access part kept h access ≡ None
why_none part kept h access e f = ap (λ o. option_or o (why_by_frames (frame_fault part h access))) e ∙ ap why_by_frames f

pub far_passes : (part : PartData) (kept : Kept) (h : History) (far held : ℕ) → command_held h ≡ held → (held == 5) ≡ false → (held == 13) ≡ false → (held == 15) ≡ false → why_besides_frames part kept h (access.Write 1 far) ≡ None
far_passes part kept h far held e a b c = rw (e, b, c, a) refl

pub eq_itself : (n : ℕ) → (n == n) ≡ true
eq_itself n = grind arith

pub idcode_passes : (part : PartData) (kept : Kept) (h : History) → why_besides_frames part kept h (access.Write 12 part.idcode) ≡ None
idcode_passes part kept h = rw (eq_itself (part.idcode % 2 ^ 28)) refl

pub check_passes : (part : PartData) (kept : Kept) (h : History) → why_besides_frames part kept h (access.Write 0 (running_check h)) ≡ None
check_passes part kept h = rw (eq_itself (running_check h)) refl

pub data_passes : (part : PartData) (kept : Kept) (h : History) (w : ℕ) → has_idcode part.idcode h ≡ true → why_besides_frames part kept h (access.Write 2 w) ≡ None
data_passes part kept h w m = rw m refl

pub copy_passes : (part : PartData) (kept : Kept) (h : History) (w : ℕ) → has_idcode part.idcode h ≡ true → why_besides_frames part kept h (access.Write 10 w) ≡ None
copy_passes part kept h w m = rw m refl

pub start_passes : (part : PartData) (kept : Kept) (h : History) → has_idcode part.idcode h ≡ true → why_besides_frames part kept h (access.Write 4 5) ≡ None
start_passes part kept h m = rw m refl

pub ctl0_passes : (part : PartData) (kept : Kept) (h : History) (w : ℕ) → has_dec (masked_word 5 (mask_held h) (access.Write 5 w) (ctl0_held h)) ≡ false → why_besides_frames part kept h (access.Write 5 w) ≡ None
ctl0_passes part kept h w e = rw e refl
