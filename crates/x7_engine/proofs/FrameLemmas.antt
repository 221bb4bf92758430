-- Lemmas on the frames of a device: accesses that they take, and those that they refuse.
use Rattle.std.proofs.Common.{◌≡◌, ◌==◌, ◌&&◌, not, ◌+◌, ◌%◌, ◌^◌, ℕ, zero, suc, Bool, true, false, if◌then◌else◌, Option, None, Some, List, [], ◌∷◌, ◌++◌, length, replicate, refl, sym, ap, subst, ◌∙◌, append-nil}
use Rattle.std.proofs.lemmas.Bool.{and_parts, eqb-true}
use Rattle.std.proofs.lemmas.List.{length-replicate}
use Rattle.std.proofs.lemmas.Option.{none-some}
use Rattle.std.specs.Option.{option_or}
use Rattle.x7_packets.specs.History.{Access, Bad, Entry, History, Read, Write, entered_all, entry}
use Rattle.x7_packets.specs.Packet.{payload_steps}
use Rattle.x7_packets.proofs.HistoryLemmas.{kept_all}
use Rattle.x7_crc.specs.RunningCheck.{running_check}
use Rattle.x7_part.specs.Part.{PartData}
use Rattle.x7_regs.specs.Command.{command_by}
use Rattle.x7_pipeline.specs.declared.fault.RunFault.{RunFault}
use Rattle.x7_pipeline.specs.declared.fault.RunFault.TheVariants.{Address, Multi, Overrun}
use Rattle.x7_flow.specs.Asking.{CopiesSource, LoadsFar, Commands, NothingAsked, AddsWord}
use Rattle.x7_flow.specs.Controls.{has_idcode, same_idcode}
use Rattle.x7_flow.specs.FrameAccess.{reads_frame_data}
use Rattle.x7_flow.specs.Settings.{settings_of, takes_copies, takes_frames}
use Rattle.x7_flow.specs.HistoryFlow.{far_in, fault_by, flow_of, frame_fault}
use Rattle.x7_flow.specs.FrameMemory.{memory_of}
use Rattle.x7_flow.specs.Standing.{AfterAccess, FramesStandFor, FramesState, far_owing, words_due, readback_words}
use Rattle.x7_flow.proofs.FaultLemmas.{refused_far_read, refused_memory}
use Rattle.x7_flow.proofs.StandingLemmas.{no_less}
use Rattle.x7_flow.proofs.TakenLemmas.{other_access}
use Rattle.x7_engine.specs.declared.due.Due.{Due}
use Rattle.x7_engine.specs.declared.due.Due.TheVariants as due
use Rattle.x7_engine.specs.declared.fault.Fault.TheVariants as fault
use Rattle.x7_engine.specs.declared.kept.Kept.{Kept}
use Rattle.x7_engine.specs.declared.stop.StopCause.{StopCause}
use Rattle.x7_engine.specs.declared.stop.StopCause.TheVariants as stop
use Rattle.x7_engine.specs.Kept.{is_fallback}
use Rattle.x7_engine.specs.Standing.{FramesAre, due_count, frames_among, frames_due, frames_history, is_refusal, without_newest, words_still_due}
use Rattle.x7_engine.specs.Stop.{why_besides_frames, asks_decryption, why_by_frames, why_at_access, needs_idcode, stop_of_refused, why_by_write}
use Rattle.x7_engine.proofs.PlainLemmas.{IsPlain, plain_asks}

-- ---- the history that the frames stand for

-- frames that stand for a history are its frames, where no access was refused
pub frames_at : (part : PartData) (f : FramesState) (why : Option StopCause) (h : History) (due : ℕ) → is_refusal why ≡ false → FramesStandFor part f h due → FramesAre part f why h due
frames_at part f why h due e s =
    let same : frames_history why h ≡ h = ap (λ (b : Bool). if b then without_newest h else h) e in
    record {
      stands = subst (λ (x : History). FramesStandFor part f x due) (sym same) s;
      memory_same = λ far. ap (λ (x : History). memory_of part x far) same;
      far_same = ap (λ (x : History). far_owing part x due) same;
    }

pub frames_of : (part : PartData) (f : FramesState) (why : Option StopCause) (h : History) (due : ℕ) → is_refusal why ≡ false → FramesAre part f why h due → FramesStandFor part f h due
frames_of part f why h due e s =
    let same : frames_history why h ≡ h = ap (λ (b : Bool). if b then without_newest h else h) e in
    subst (λ (x : History). FramesStandFor part f x due) same s.stands

-- a device that goes on has refused nothing
pub goes_on : (why : Option StopCause) → why ≡ None → is_refusal why ≡ false
goes_on why e = ap is_refusal e

-- a device that goes on, or that the watchdog stopped, has refused nothing
pub ticks_on : (why : Option StopCause) (P : Type 0) → ((l : StopCause) → why ≡ Some l → (l ≡ stop.Fault fault.Watchdog) × P) → is_refusal why ≡ false
ticks_on None P f = refl
ticks_on (Some l) P f = ap (λ (x : StopCause). is_refusal (Some x)) (f l refl).0

-- ---- what is due

pub none_frames : (d : Due) → due_count d ≡ 0 → frames_due d ≡ 0
none_frames due.Nothing e = refl
none_frames (due.Same word count) e = refl
none_frames (due.Frames count) e = e

if_same : (b : Bool) (n : ℕ) → (if b then n else n) ≡ n
if_same true n = refl
if_same false n = refl

zero_among : (h : History) → frames_among h 0 ≡ 0
zero_among [] = refl
zero_among (e ∷ h) = if_same (reads_frame_data h e.access) 0

-- where no word is due none is frame data
pub none_among : (d : Due) (h : History) → due_count d ≡ 0 → frames_due d ≡ frames_among h (due_count d)
none_among d h e = none_frames d e ∙ sym (ap (frames_among h) e ∙ zero_among h)

pub none_left : (part : PartData) (h : History) (d : Due) → due_count d ≡ 0 → words_still_due part h d ≡ []
none_left part h due.Nothing e = refl
none_left part h (due.Same word count) e = ap (λ (n : ℕ). replicate n word) e
none_left part h (due.Frames count) e = ap (λ (n : ℕ). words_due part h n) e

-- where no word is due, the words read out are the same without those due
pub no_word_due : (reads : List ℕ) (part : PartData) (h : History) (d : Due) → due_count d ≡ 0 → reads ≡ reads ++ words_still_due part h d
no_word_due reads part h d e = sym (ap (λ (ws : List ℕ). reads ++ ws) (none_left part h d e) ∙ append-nil reads)

length_from : (part : PartData) (base : ℕ) (memory : ℕ → Option (List ℕ)) (place count : ℕ) → length (readback_words part base memory place count) ≡ count
length_from part base memory place zero = refl
length_from part base memory place (suc count) = ap suc (length_from part base memory (place + 1) count)

pub length_left : (part : PartData) (h : History) (d : Due) → length (words_still_due part h d) ≡ due_count d
length_left part h due.Nothing = refl
length_left part h (due.Same word count) = length-replicate count word
length_left part h (due.Frames count) = length_from part _ _ _ count

-- where no word is due and nothing stopped the device, the frames stand for the whole history
pub standing_frames : (part : PartData) (f : FramesState) (why : Option StopCause) (h : History) (d : Due) → why ≡ None → due_count d ≡ 0 → FramesAre part f why h (frames_due d) → FramesStandFor part f h 0
standing_frames part f why h d e z s = frames_of part f why h 0 (goes_on why e) (subst (λ (n : ℕ). FramesAre part f why h n) (none_frames d z) s)

pub frames_none_at : (part : PartData) (f : FramesState) (why : Option StopCause) (h : History) (d : Due) → is_refusal why ≡ false → due_count d ≡ 0 → FramesStandFor part f h 0 → FramesAre part f why h (frames_due d)
frames_none_at part f why h d e z s = subst (λ (n : ℕ). FramesAre part f why h n) (sym (none_frames d z)) (frames_at part f why h 0 e s)

pub frames_none : (part : PartData) (f : FramesState) (why : Option StopCause) (h : History) (d : Due) → why ≡ None → due_count d ≡ 0 → FramesStandFor part f h 0 → FramesAre part f why h (frames_due d)
frames_none part f why h d e z s = subst (λ (n : ℕ). FramesAre part f why h n) (sym (none_frames d z)) (frames_at part f why h 0 (goes_on why e) s)

-- ---- an access stops a device by one thing alone

pub why_fdri : (part : PartData) (kept : Kept) (h : History) (w : ℕ) → has_idcode part.idcode h ≡ true → why_by_write part kept h 2 w ≡ None
why_fdri part kept h w t = rw t refl

pub why_mfwr : (part : PartData) (kept : Kept) (h : History) (w : ℕ) → has_idcode part.idcode h ≡ true → why_by_write part kept h 10 w ≡ None
why_mfwr part kept h w t = rw t refl

-- an access that the frames refuse stops a device by nothing else
pub one_why : (part : PartData) (kept : Kept) (h : History) (access : Access) (fault : RunFault) → frame_fault part h access ≡ Some fault → why_besides_frames part kept h access ≡ None
one_why part kept h (Read r count) fault e = refl
one_why part kept h (Bad w) fault e = absurd (none-some _ e)
one_why part kept h (Write r w) fault e = by (r == 1) (r == 4) (r == 2 && takes_frames (settings_of part.idcode h)) (r == 10 && takes_copies (settings_of part.idcode h)) e at_fdri at_mfwr
  where
    at_fdri : (r == 2 && takes_frames (settings_of part.idcode h)) ≡ true → why_by_write part kept h r w ≡ None
    at_fdri t =
        let p = and_parts (r == 2) (takes_frames (settings_of part.idcode h)) t in
        let m = and_parts (has_idcode part.idcode h) _ p.1 in
        subst (λ (n : ℕ). why_by_write part kept h n w ≡ None) (sym (eqb-true r 2 p.0)) (why_fdri part kept h w m.0)

    at_mfwr : (r == 10 && takes_copies (settings_of part.idcode h)) ≡ true → why_by_write part kept h r w ≡ None
    at_mfwr t =
        let p = and_parts (r == 10) (takes_copies (settings_of part.idcode h)) t in
        let m = and_parts (has_idcode part.idcode h) _ p.1 in
        subst (λ (n : ℕ). why_by_write part kept h n w ≡ None) (sym (eqb-true r 10 p.0)) (why_mfwr part kept h w m.0)

    by : (far cmd fdri mfwr : Bool) → fault_by part (if far then LoadsFar w else if cmd then Commands (command_by w) else if fdri then AddsWord w else if mfwr then CopiesSource else NothingAsked) (flow_of part h) ≡ Some fault →
        (fdri ≡ true → why_by_write part kept h r w ≡ None) → (mfwr ≡ true → why_by_write part kept h r w ≡ None) → why_by_write part kept h r w ≡ None
    by true cmd fdri mfwr e p q = absurd (none-some _ e)
    by false true fdri mfwr e p q = absurd (none-some _ e)
    by false false true mfwr e p q = p refl
    by false false false true e p q = q refl
    by false false false false e p q = absurd (none-some _ e)

-- a stop by an access, the faults of frames left out, is no refusal of the frames
no_refusal : (part : PartData) (kept : Kept) (h : History) (access : Access) → is_refusal (why_besides_frames part kept h access) ≡ false
no_refusal part kept h (Read r count) = refl
no_refusal part kept h (Bad w) = refl
no_refusal part kept h (Write r w) =
    by (r == 0 && not (w == running_check h)) (asks_decryption h r w) (r == 12 && not (same_idcode part.idcode w)) (needs_idcode h r w && not (has_idcode part.idcode h)) (r == 4 && (w % 2 ^ 5 == 15 && not (is_fallback kept.kind)))
  where
    by : (crc dec id match iprog : Bool) → is_refusal (
        if crc then Some (stop.Fault (fault.Crc (running_check h) w)) else
        if dec then Some (stop.Fault fault.Encrypted) else
        if id then Some (stop.Fault (fault.Id part.idcode w)) else
        if match then Some (stop.Fault (fault.Id part.idcode 0)) else
        if iprog then Some stop.Iprog else None) ≡ false
    by true dec id match iprog = refl
    by false true id match iprog = refl
    by false false true match iprog = refl
    by false false false true iprog = refl
    by false false false false true = refl
    by false false false false false = refl

-- ---- one access more

-- a refused access leaves the frames as they are
pub refused : (part : PartData) (f : FramesState) (h : History) (e : Entry) (refusal : RunFault) → frame_fault part h e.access ≡ Some refusal → FramesStandFor part f h 0 → FramesAre part f (Some (stop_of_refused refusal)) (e ∷ h) 0
refused part f h e refusal r s = by refusal r
  where
    far : (fault : RunFault) → frame_fault part h e.access ≡ Some fault → far_owing part h 0 ≡ far_owing part (e ∷ h) 0
    far fault r = sym (ap (far_in part) (no_less (flow_of part h))) ∙ sym (refused_far_read part e h fault r) ∙ ap (far_in part) (no_less (flow_of part (e ∷ h)))

    by : (fault : RunFault) → frame_fault part h e.access ≡ Some fault → FramesAre part f (Some (stop_of_refused fault)) (e ∷ h) 0
    by (Address a) r = record { stands = s; memory_same = λ x. sym (refused_memory part e h (Address a) r x); far_same = far (Address a) r }
    by Overrun r = record { stands = s; memory_same = λ x. sym (refused_memory part e h Overrun r x); far_same = far Overrun r }
    by Multi r = record { stands = s; memory_same = λ x. sym (refused_memory part e h Multi r x); far_same = far Multi r }

-- the frames after an access, by why it stops the device
pub access_frames : (part : PartData) (kept : Kept) (f g : FramesState) (h : History) (e : Entry) (why now : Option StopCause) (result : Option RunFault) → FramesStandFor part f h 0
    → AfterAccess part g h e result → result ≡ frame_fault part h e.access → why ≡ why_besides_frames part kept h e.access → now ≡ option_or why (why_by_frames result) → FramesAre part g now (e ∷ h) 0
access_frames part kept f g h e why now None s after r l n =
    let same : now ≡ why = n ∙ alone why in
    frames_at part g now (e ∷ h) 0 (ap is_refusal (same ∙ l) ∙ no_refusal part kept h e.access) after
  where
    alone : (o : Option StopCause) → option_or o None ≡ o
    alone None = refl
    alone (Some x) = refl
access_frames part kept f g h e why now (Some refusal) s after r l n =
    let none : why ≡ None = l ∙ one_why part kept h e.access refusal (sym r) in
    let same : now ≡ Some (stop_of_refused refusal) = n ∙ ap (λ (o : Option StopCause). option_or o (Some (stop_of_refused refusal))) none in
    subst (λ (o : Option StopCause). FramesAre part g o (e ∷ h) 0) (sym same) (refused part g h e refusal (sym r) after)

-- why an access stops a device
pub why_is : (part : PartData) (kept : Kept) (h : History) (access : Access) (why now : Option StopCause) (result : Option RunFault) → result ≡ frame_fault part h access → why ≡ why_besides_frames part kept h access → now ≡ option_or why (why_by_frames result)
    → now ≡ why_at_access part kept h access
why_is part kept h access why now result r l n = n ∙ ap (λ (o : Option StopCause). option_or o (why_by_frames result)) l ∙ ap (λ (o : Option RunFault). option_or (why_besides_frames part kept h access) (why_by_frames o)) r

-- words of a register without an effect ask nothing of the frames
pub plain_frames : (part : PartData) (f : FramesState) (register n : ℕ) (ws : List ℕ) (h : History) → IsPlain register → FramesStandFor part f h 0 → FramesStandFor part f (entered_all n (payload_steps register ws) h) 0
plain_frames part f register n ws h p s =
    kept_all (λ (x : History). FramesStandFor part f x 0) register (λ (x : History) (w place : ℕ) (t : FramesStandFor part f x 0). other_access part f x (entry (Write register w) place) (plain_asks part.idcode x register w p) t) n ws h s

pub plain_are : (part : PartData) (f : FramesState) (why : Option StopCause) (register n : ℕ) (ws : List ℕ) (h : History) (d : Due) → IsPlain register → is_refusal why ≡ false → due_count d ≡ 0 → FramesAre part f why h (frames_due d)
    → FramesAre part f why (entered_all n (payload_steps register ws) h) (frames_due d)
plain_are part f why register n ws h d p e z s =
    let now : FramesStandFor part f h 0 = frames_of part f why h 0 e (subst (λ (k : ℕ). FramesAre part f why h k) (none_frames d z) s) in
    subst (λ (k : ℕ). FramesAre part f why (entered_all n (payload_steps register ws) h) k) (sym (none_frames d z)) (frames_at part f why (entered_all n (payload_steps register ws) h) 0 e (plain_frames part f register n ws h p now))
