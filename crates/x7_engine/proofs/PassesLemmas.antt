-- A fallback stops at no access at which another attempt goes on, where their histories have left the same.
use Rattle.std.proofs.Common.{◌≡◌, ◌==◌, ◌&&◌, ◌||◌, ◌%◌, ◌^◌, ◌-◌, ℕ, Bool, true, false, not, if◌then◌else◌, Option, None, Some, ◌∷◌, refl, ap, sym, ◌∙◌}
use Rattle.std.proofs.lemmas.Bool.{and_right}
use Rattle.std.specs.Option.{option_or}
use Rattle.x7_packets.specs.History.{Access, Bad, Entry, History, Read, Write, command_held, entry, executed_by, is_command}
use Rattle.x7_crc.specs.RunningCheck.{running_check}
use Rattle.x7_part.specs.Part.{PartData}
use Rattle.x7_regs.specs.Command.{code_of}
use Rattle.x7_regs.specs.Register.{number_of}
use Rattle.x7_regs.specs.declared.command.Command.TheVariants as command
use Rattle.x7_regs.specs.declared.register.Reg.TheVariants as reg
use Rattle.x7_flow.specs.Controls.{ctl0_held, has_idcode, mask_held, masked_word, same_idcode}
use Rattle.x7_flow.specs.HistoryFlow.{frame_fault}
use Rattle.x7_engine.specs.Kept.{is_fallback}
use Rattle.x7_regs.specs.Control.{has_dec}
use Rattle.x7_engine.specs.Stop.{Stopped, first_stop_of_history, stop_at_place, stop_at_firing, why_at_access, why_besides_frames, why_by_frames, why_by_write}
use Rattle.x7_engine.specs.Watching.{first_firing}
use Rattle.x7_engine.specs.declared.fault.Fault.TheVariants as fault
use Rattle.x7_engine.specs.declared.kept.Kept.{Kept}
use Rattle.x7_engine.specs.declared.stop.StopCause.{StopCause}
use Rattle.x7_engine.specs.declared.stop.StopCause.TheVariants as stop
use Rattle.x7_engine.proofs.FallbackLemmas.{none_fired}
use Rattle.x7_engine.proofs.SameLemmas.{IsSame, check, faults, held, mask}
use Rattle.x7_engine.proofs.StateLemmas.{parts_none}
use Rattle.x7_engine.proofs.CheckedLemmas.{none_at}

-- ---- why a write stops a device, by what was left before it

abbrev why_from : PartData → Bool → ℕ → ℕ → ℕ → Bool → ℕ → ℕ → ℕ → Option StopCause
why_from part fallback check mask ctl0 matched held r w =
    if r == number_of reg.Crc && not (w == check) then Some (stop.Fault (fault.Crc check w)) else
    if r == number_of reg.Cbc || (r == number_of reg.Ctl0 && has_dec (masked_word (number_of reg.Ctl0) mask (Write r w) ctl0)) then Some (stop.Fault fault.Encrypted) else
    if r == number_of reg.Idcode && not (same_idcode part.idcode w) then Some (stop.Fault (fault.Id part.idcode w)) else
    if (r == number_of reg.Fdri || (r == number_of reg.Mfwr || is_command (code_of command.Start) (executed_by held (Write r w)))) && not matched then Some (stop.Fault (fault.Id part.idcode 0)) else
    if r == number_of reg.Cmd && (w % 2 ^ 5 == code_of command.Iprog && not fallback) then Some stop.Iprog else None

from_is : (part : PartData) (kept : Kept) (h : History) (r w : ℕ) → why_by_write part kept h r w ≡ why_from part (is_fallback kept.kind) (running_check h) (mask_held h) (ctl0_held h) (has_idcode part.idcode h) (command_held h) r w
from_is part kept h r w = refl

less : (b1 b2 b3 b4 x y : Bool) (s1 s2 s3 s4 s5 : StopCause) → y ≡ false → (if b1 then Some s1 else if b2 then Some s2 else if b3 then Some s3 else if b4 then Some s4 else if x then Some s5 else None) ≡ None
    → (if b1 then Some s1 else if b2 then Some s2 else if b3 then Some s3 else if b4 then Some s4 else if y then Some s5 else None) ≡ None
less true b2 b3 b4 x y s1 s2 s3 s4 s5 e f = absurd (cc)
less false true b3 b4 x y s1 s2 s3 s4 s5 e f = absurd (cc)
less false false true b4 x y s1 s2 s3 s4 s5 e f = absurd (cc)
less false false false true x y s1 s2 s3 s4 s5 e f = absurd (cc)
less false false false false x y s1 s2 s3 s4 s5 e f = ap (λ (b : Bool). if b then Some s5 else None) e

-- a fallback stops at no write that stops no other attempt
lets_pass : (part : PartData) (fallback : Bool) (check mask ctl0 : ℕ) (matched : Bool) (held r w : ℕ) → why_from part fallback check mask ctl0 matched held r w ≡ None → why_from part true check mask ctl0 matched held r w ≡ None
lets_pass part fallback check mask ctl0 matched held r w e =
    less (r == number_of reg.Crc && not (w == check)) (r == number_of reg.Cbc || (r == number_of reg.Ctl0 && has_dec (masked_word (number_of reg.Ctl0) mask (Write r w) ctl0))) (r == number_of reg.Idcode && not (same_idcode part.idcode w))
    ((r == number_of reg.Fdri || (r == number_of reg.Mfwr || is_command (code_of command.Start) (executed_by held (Write r w)))) && not matched)
    (r == number_of reg.Cmd && (w % 2 ^ 5 == code_of command.Iprog && not fallback)) (r == number_of reg.Cmd && (w % 2 ^ 5 == code_of command.Iprog && not true))
    (stop.Fault (fault.Crc check w)) (stop.Fault fault.Encrypted) (stop.Fault (fault.Id part.idcode w)) (stop.Fault (fault.Id part.idcode 0)) stop.Iprog (and_right (r == number_of reg.Cmd) (w % 2 ^ 5 == code_of command.Iprog && not true) (and_right (w % 2 ^ 5 == code_of command.Iprog) false refl)) e

-- a fallback without a stop has none after an access that stops nothing; and an attempt without a stop after an access
-- had none before it, nor by it
pub goes_past : (part : PartData) (kept : Kept) (h : History) (a : Access) (place m : ℕ) → is_fallback kept.kind ≡ true → first_stop_of_history part kept h place ≡ None → why_at_access part kept h a ≡ None → first_stop_of_history part kept (entry a place ∷ h) m ≡ None
goes_past part kept h a place m fell before why =
    ap (λ (o : Option Stopped). option_or o (option_or (stop_at_place place (why_at_access part kept h a)) (stop_at_firing (first_firing part kept (entry a place ∷ h) place (m - place))))) before
    ∙ ap (λ (w : Option StopCause). option_or (stop_at_place place w) (stop_at_firing (first_firing part kept (entry a place ∷ h) place (m - place)))) why
    ∙ ap stop_at_firing (none_fired part kept (entry a place ∷ h) place (m - place) fell)

pub went_past : (part : PartData) (kept : Kept) (h : History) (e : Entry) (m : ℕ) → first_stop_of_history part kept (e ∷ h) m ≡ None → (first_stop_of_history part kept h e.place ≡ None) × (why_at_access part kept h e.access ≡ None)
went_past part kept h e m none =
    let fired : Option Stopped = stop_at_firing (first_firing part kept (e ∷ h) e.place (m - e.place)) in
    let here : Option Stopped = stop_at_place e.place (why_at_access part kept h e.access) in
    let parts : (first_stop_of_history part kept h e.place ≡ None) × (option_or here fired ≡ None) = parts_none (first_stop_of_history part kept h e.place) (option_or here fired) none in
    (parts.0, none_at e.place (why_at_access part kept h e.access) (parts_none here fired parts.1).0)

module _ (part : PartData) (kept power : Kept) (low : ℕ) (g h : History) (fell : is_fallback kept.kind ≡ true) (s : IsSame part low g h) where
  passes : (a : Access) → why_besides_frames part power h a ≡ None → why_besides_frames part kept g a ≡ None
  passes (Write r w) e =
      from_is part kept g r w
      ∙ ap (λ (f : Bool). why_from part f (running_check g) (mask_held g) (ctl0_held g) (has_idcode part.idcode g) (command_held g) r w) fell
      ∙ ap (λ (x : ℕ). why_from part true x (mask_held g) (ctl0_held g) (has_idcode part.idcode g) (command_held g) r w) (check part low g h s)
      ∙ ap (λ (x : ℕ). why_from part true (running_check h) x (ctl0_held g) (has_idcode part.idcode g) (command_held g) r w) (mask part low g h s)
      ∙ ap (λ (x : ℕ). why_from part true (running_check h) (mask_held h) x (has_idcode part.idcode g) (command_held g) r w) s.ctl0
      ∙ ap (λ (x : Bool). why_from part true (running_check h) (mask_held h) (ctl0_held h) x (command_held g) r w) s.matched
      ∙ ap (λ (x : ℕ). why_from part true (running_check h) (mask_held h) (ctl0_held h) (has_idcode part.idcode h) x r w) (held part low g h s)
      ∙ lets_pass part (is_fallback power.kind) (running_check h) (mask_held h) (ctl0_held h) (has_idcode part.idcode h) (command_held h) r w (sym (from_is part power h r w) ∙ e)
  passes (Read r n) e = refl
  passes (Bad w) e = absurd (cc)

  pub why_passes : (a : Access) → why_at_access part power h a ≡ None → why_at_access part kept g a ≡ None
  why_passes a e =
      let parts : (why_besides_frames part power h a ≡ None) × (why_by_frames (frame_fault part h a) ≡ None) = parts_none (why_besides_frames part power h a) (why_by_frames (frame_fault part h a)) e in
      ap (λ (o : Option StopCause). option_or o (why_by_frames (frame_fault part g a))) (passes a parts.0) ∙ ap why_by_frames (faults part low g h s a) ∙ parts.1
