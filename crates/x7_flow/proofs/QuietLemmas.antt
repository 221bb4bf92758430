-- Accesses that move no frame, and a read of which words are due.
use Rattle.std.proofs.Common.{◌≡◌, ℕ, ◌-◌, ◌<◌, ◌==◌, ◌&&◌, ◌||◌, not, Bool, true, false, if◌then◌else◌, List, [], ◌∷◌, ◌++◌, refl, sym, ap, ◌∙◌, arith, ne_eqb}
use Rattle.x7_packets.specs.History.{Access, Write, Read, Bad, History, entry, writes}
use Rattle.x7_part.specs.Part.{PartData}
use Rattle.x7_memory.specs.FrameMap.{HaveSameFrames}
use Rattle.x7_memory.specs.Plan.{PlanRow}
use Rattle.x7_regs.specs.Command.{command_by}
use Rattle.x7_pipeline.specs.FarAsRead.{is_frame_address}
use Rattle.x7_flow.specs.Asking.{Asked, LoadsFar, Commands, AddsWord, CopiesSource, Reads, NothingAsked}
use Rattle.x7_flow.specs.Settings.{Settings, gives_frames, settings_from, settings_of, takes_copies, takes_frames}
use Rattle.x7_flow.specs.HistoryFlow.{Flow, asked_under, asked_after, flow_by, flow_of}
use Rattle.x7_flow.specs.FrameMemory.{memory_of, pairs_put}
use Rattle.x7_flow.specs.Later.{flow_from, pairs_from}
use Rattle.x7_flow.specs.Quiet.{AreQuiet}
use Rattle.x7_flow.specs.Standing.{without_due}
use Rattle.x7_flow.proofs.FlowLemmas.{flow_more, flow_sound, memory_joined, put_none}

quiet_puts : (part : PartData) (s : Settings) (access : Access) (f : Flow) → (writes 2 access || writes 10 access) ≡ false → pairs_put part (asked_under s access) f ≡ []
quiet_puts part s (Write r w) f e = by (r == 1) (r == 4) (r == 2) (r == 10) (takes_frames s) (takes_copies s) e
  where
    by : (far cmd fdri mfwr t c : Bool) → (fdri || mfwr) ≡ false → pairs_put part (if far then LoadsFar w else if cmd then Commands (command_by w) else if fdri && t then AddsWord w else if mfwr && c then CopiesSource else NothingAsked) f ≡ []
    by true cmd fdri mfwr t c e = refl
    by false true fdri mfwr t c e = refl
    by false false true mfwr t c e = absurd cc
    by false false false true t c e = absurd cc
    by false false false false t c e = refl
quiet_puts part s (Read r count) f e = by (r == 3 && (not (count == 0) && gives_frames s))
  where
    by : (b : Bool) → pairs_put part (if b then Reads count else NothingAsked) f ≡ []
    by true = refl
    by false = refl
quiet_puts part s (Bad w) f e = refl

pub quiet_pairs : (part : PartData) (s : Settings) (f : Flow) (later : History) → AreQuiet later → pairs_from part s f later ≡ []
unfolding pairs_from
quiet_pairs part s f [] q = refl
quiet_pairs part s f (e ∷ later) q =
    ap (λ (ps : List PlanRow). ps ++ pairs_from part s f later) (quiet_puts part (settings_from part.idcode s later) e.access (flow_from part s f later) q.0) ∙ quiet_pairs part s f later q.1

pub quiet_memory : (part : PartData) (later earlier : History) → AreQuiet later → HaveSameFrames (memory_of part (later ++ earlier)) (memory_of part earlier)
quiet_memory part later earlier q far =
    memory_joined part later earlier far
    ∙ put_none (pairs_from part (settings_of part.idcode earlier) (flow_of part earlier) later) (memory_of part earlier) (quiet_pairs part (settings_of part.idcode earlier) (flow_of part earlier) later q) far

-- a read of which words are due has the flow of a read without them
pub less_is : (part : PartData) (h : History) (r count due place : ℕ) → asked_after part.idcode h (Read r count) ≡ Reads count → due < count → asked_after part.idcode h (Read r (count - due)) ≡ Reads (count - due) →
    without_due due (flow_of part (entry (Read r count) place ∷ h)) ≡ flow_of part (entry (Read r (count - due)) place ∷ h)
less_is part h r count due place a l b =
    ap (without_due due) (flow_more part (entry (Read r count) place) h ∙ ap (λ (x : Asked). flow_by part x (flow_of part h)) a)
    ∙ by (is_frame_address part f.base) refl
    ∙ sym (flow_more part (entry (Read r (count - due)) place) h ∙ ap (λ (x : Asked). flow_by part x (flow_of part h)) b)
  where
    f : Flow
    f = flow_of part h

    by : (x : Bool) → is_frame_address part f.base ≡ x → without_due due (flow_by part (Reads count) f) ≡ flow_by part (Reads (count - due)) f
    by true t = rw t (ap (λ (n : ℕ). record f { given = n }) (omega arith))
    by false t = let none = (flow_sound part h).nowhere t in rw t (ap (λ (n : ℕ). record f { given = n }) (omega arith))

read_test : (g : Bool) (r count : ℕ) → (r == 3 && (not (count == 0) && g)) ≡ true → (due : ℕ) → due < count → (r == 3 && (not (count - due == 0) && g)) ≡ true
read_test g r count t due l =
    let some : (count - due == 0) ≡ false = ne_eqb (count - due) 0 (λ z. absurd (omega arith)) in
    let first : (count == 0) ≡ false = ne_eqb count 0 (λ z. absurd (omega arith)) in
    let given : (r == 3 && g) ≡ true = rw first at t in
    rw some given

pub due_is : (part : PartData) (h : History) (r count due place : ℕ) → (r == 3 && (not (count == 0) && gives_frames (settings_of part.idcode h))) ≡ true → due < count →
    without_due due (flow_of part (entry (Read r count) place ∷ h)) ≡ flow_of part (entry (Read r (count - due)) place ∷ h)
due_is part h r count due place t l =
    less_is part h r count due place (ap (λ (b : Bool). if b then Reads count else NothingAsked) t) l
    (ap (λ (b : Bool). if b then Reads (count - due) else NothingAsked) (read_test (gives_frames (settings_of part.idcode h)) r count t due l))

-- a read of which all words are due has the flow of the history before it
pub all_due_is : (part : PartData) (h : History) (r count place : ℕ) → (r == 3 && (not (count == 0) && gives_frames (settings_of part.idcode h))) ≡ true →
    without_due count (flow_of part (entry (Read r count) place ∷ h)) ≡ flow_of part h
all_due_is part h r count place t =
    ap (without_due count) (flow_more part (entry (Read r count) place) h ∙ ap (λ (b : Bool). flow_by part (if b then Reads count else NothingAsked) f) t) ∙ by (is_frame_address part f.base) refl
  where
    f : Flow
    f = flow_of part h

    by : (x : Bool) → is_frame_address part f.base ≡ x → without_due count (flow_by part (Reads count) f) ≡ f
    by true t = rw t (ap (λ (n : ℕ). record f { given = n }) (omega arith))
    by false t = let none = (flow_sound part h).nowhere t in rw t (ap (λ (n : ℕ). record f { given = n }) (omega arith))
