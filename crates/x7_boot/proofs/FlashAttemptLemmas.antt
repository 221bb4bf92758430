-- Lemmas on an attempt over a flash: how it begins, goes on by a page, and ends.
use Rattle.std.proofs.Common.{◌≡◌, ◌==◌, ◌+◌, ◌-◌, ◌*◌, ◌/◌, ◌^◌, ◌<◌, ◌≤◌, ℕ, suc, Bool, true, false, List, [], ◌++◌, length, take, drop, slice_range, Option, None, Some, IsSome, Result, Ok, IfOk, length-append, length-drop, length-take-le, take-add, take-append-drop, take-take, take_all, drop-drop, refl, ap, sym, subst, ◌∙◌, append_assoc, inl, inr, arith}
use Rattle.std.proofs.lemmas.Bool.{cases_lt}
use Rattle.std.proofs.lemmas.List.{take-append-le}
use Rattle.std.proofs.Math.Seq.{take-append-add, take-append_seam}
use Rattle.x7_words.specs.Flash.{FlashState}
use Rattle.x7_words.specs.Word.{AreBytes}
use Rattle.x7_words.specs.declared.flash_call.FlashCall.{FlashCall}
use Rattle.x7_words.proofs.ListLemmas.{all_back, all_prefix}
use Rattle.x7_part.specs.Part.{PartData}
use Rattle.x7_regs.specs.declared.boot_status.Cause.TheVariants.{Wrap}
use Rattle.x7_regs.specs.declared.boot_status.Kind.TheVariants.{Bench}
use Rattle.x7_engine.specs.declared.kept.Kept.{Kept}
use Rattle.x7_engine.specs.declared.snapshot.Snapshot.{Snapshot}
use Rattle.x7_engine.specs.declared.stop.StopCause.{StopCause}
use Rattle.x7_engine.specs.declared.stop.StopCause.TheVariants as stop
use Rattle.x7_engine.specs.Standing.{DeviceState, DeviceStandsFor, MayWrap, NoWordDue}
use Rattle.x7_engine.specs.State.{why_stopped, state_of, first_stop_of_bytes, taken_of, taken_by}
use Rattle.x7_engine.specs.Stop.{Stopped, fault_of_stop, stop_at_place}
use Rattle.x7_engine.specs.Value.{failure_of}
use Rattle.x7_engine.proofs.BootLemmas.{may_wrap, none_due_at_first}
use Rattle.x7_engine.proofs.StateLemmas.{stop_is_final_state, stop_is_final_stop}
use Rattle.x7_boot.specs.Attempt.{IsUnderWay, CanTakePage, TakesByte, NoneBefore, StepsTo, TookPiece, BootAttempt, AttemptEnds, AttemptStart, attempt_at, ending_at, ending_by, failed_by, past_in_flash}
use Rattle.x7_boot.specs.declared.attempt.Ending.{Ending}
use Rattle.x7_boot.specs.declared.attempt.Ending.TheVariants.{Started, Iprog, Failed}
use Rattle.x7_boot.specs.declared.attempt.AttemptStep.{AttemptStep}
use Rattle.x7_boot.specs.declared.attempt.AttemptStep.TheVariants.{GoesOn, Ends, Stops}
use Rattle.x7_boot.specs.Boot.{IsTakenFrom, ReadsInAttempt}
use Rattle.x7_boot.specs.Pages.{EndsWithBlock, IsLoaded, LoadCalls, LoadsBy, ReadsPages, block_end, page_size}
use Rattle.x7_boot.specs.declared.cache.Loaded.{Loaded}
use Rattle.x7_boot.specs.declared.cache.Loaded.TheVariants.{Cached, Read}
use Rattle.x7_boot.specs.declared.fault.BootFault.{BootFault}
use Rattle.x7_boot.specs.Reads.{Agrees, FlashAnswers, HasCalled, IfAgrees, IsSince, answers_since}
use Rattle.x7_boot.proofs.ReadLemmas.{IsLater, end_of, called_on, called_with, taken_later, later_on, pages_once, pages_with}
use Rattle.x7_boot.proofs.TookLemmas.{ends_by_stop, ends_started}

-- ---- nothing ends an attempt

-- an attempt that no bytes ended is neither started, nor failed, nor left by an IPROG
not_started : (part : PartData) (kept : Kept) (bytes : List ℕ) → ending_at part kept bytes ≡ None → ((state_of part kept false bytes).phase == 7) ≡ false
not_started part kept bytes none = by ((state_of part kept false bytes).phase == 7) refl
  where
    by : (b : Bool) → ((state_of part kept false bytes).phase == 7) ≡ b → ((state_of part kept false bytes).phase == 7) ≡ false
    by false e = e
    by true e = let some : ending_at part kept bytes ≡ Some Started = ends_started part kept bytes e in cc

no_ending : (part : PartData) (kept : Kept) (bytes : List ℕ) → ending_at part kept bytes ≡ None → ending_by (why_stopped (first_stop_of_bytes part kept bytes)) ≡ None
no_ending part kept bytes none = sym (ends_by_stop part kept bytes (not_started part kept bytes none)) ∙ none

-- what ends no attempt is no cause of a failure
pub no_cause : (o : Option StopCause) → ending_by o ≡ None → failure_of (fault_of_stop o) false ≡ None
no_cause None e = refl
no_cause (Some stop.Iprog) e = refl
no_cause (Some (stop.Fault f)) e = by (failure_of (Some f) false) e
  where
    by : (c : Option _) → failed_by c ≡ None → c ≡ None
    by None e = refl
    by (Some c) e = cc

not_left : (o : Option StopCause) → ending_by o ≡ None → o ≡ Some stop.Iprog → ⊥
not_left o e f = let some : ending_by o ≡ Some Iprog = ap ending_by f in cc

-- the flash may end where nothing ended the attempt
pub ends_here : (part : PartData) (kept : Kept) (d : DeviceState) (bytes : List ℕ) → (kept.kind ≡ Bench → ⊥) → DeviceStandsFor part kept false d bytes → ending_at part kept bytes ≡ None → NoWordDue d → MayWrap d
ends_here part kept d bytes boots s none due =
    let o : ending_by (why_stopped (first_stop_of_bytes part kept bytes)) ≡ None = no_ending part kept bytes none in
    may_wrap part kept false d bytes s boots (not_started part kept bytes none) (no_cause (why_stopped (first_stop_of_bytes part kept bytes)) o) (not_left (why_stopped (first_stop_of_bytes part kept bytes)) o) due

-- ---- how an attempt begins, and goes on

-- no byte ends an attempt
none_at_first : (part : PartData) (kept : Kept) → ending_at part kept [] ≡ None
none_at_first part kept = refl

empty_range : (all : List ℕ) (at : ℕ) → [] ≡ slice_range all at at
empty_range all at = let e : at - at ≡ 0 = omega arith in sym (ap (λ (n : ℕ). take n (drop at all)) e)

pub feeds_first : (part : PartData) (kept : Kept) (address : ℕ) (flash : FlashAnswers) (d : DeviceState) → DeviceStandsFor part kept false d [] → IsUnderWay (attempt_at part kept address) flash d address
feeds_first part kept address flash d s = record {
  bytes = [];
  stands = s;
  going = refl;
  not_ended = none_at_first part kept;
  due = none_due_at_first part kept false d s;
  count = omega arith;
  read = λ all agrees. empty_range all address;
  none = λ k l. absurd (omega (arith, l));
}

pub feeds_ready : (part : PartData) (kept : Kept) (address : ℕ) (flash : FlashAnswers) (d : DeviceState) (at more : ℕ) → at + more ≤ 2 ^ 63 → IsUnderWay (attempt_at part kept address) flash d at → CanTakePage d more
feeds_ready part kept address flash d at more l f = record {
  part = part;
  kept = kept;
  bytes = f.bytes;
  stands = f.stands;
  going = f.going;
  not_ended = f.not_ended;
  fits = let c : address + length f.bytes ≡ at = f.count in omega (arith, l, c);
}

-- what nothing ended among the bytes before a piece and in it
none_joined : (part : PartData) (kept : Kept) (bytes page : List ℕ) (n : ℕ) → n ≤ length page → ((k : ℕ) → k < length bytes → ending_at part kept (take k bytes) ≡ None)
    → ((k : ℕ) → k < n → ending_at part kept (bytes ++ take k page) ≡ None) → (k : ℕ) → k < length (bytes ++ take n page) → ending_at part kept (take k (bytes ++ take n page)) ≡ None
none_joined part kept bytes page n within before inside k l = elim (cases_lt k (length bytes)) [
  | inl early ↦ subst (λ (b : List ℕ). ending_at part kept b ≡ None) (sym (take-append-le k bytes (take n page) (omega (arith, early)))) (before k early)
  | inr late ↦
      let sum : length (bytes ++ take n page) ≡ length bytes + length (take n page) = length-append bytes (take n page) in
      let long : length (take n page) ≡ n = length-take-le n page within in
      let e : length bytes + (k - length bytes) ≡ k = omega (arith, late) in
      let here : take k (bytes ++ take n page) ≡ bytes ++ take (k - length bytes) page =
      sym (ap (λ (m : ℕ). take m (bytes ++ take n page)) e) ∙ take-append-add bytes (take n page) (k - length bytes) ∙ ap (λ (x : List ℕ). bytes ++ x) (take-take (k - length bytes) n page (omega (arith, l, sum, long, late))) in
      subst (λ (b : List ℕ). ending_at part kept b ≡ None) (sym here) (inside (k - length bytes) (omega (arith, l, sum, long, late)))
]

-- bytes of the flash after others
ranges_join : (all : List ℕ) (a b c : ℕ) → a ≤ b → b ≤ c → slice_range all a b ++ slice_range all b c ≡ slice_range all a c
ranges_join all a b c l m =
    let e : a + (b - a) ≡ b = omega (arith, l) in
    let f : b - a + (c - b) ≡ c - a = omega (arith, l, m) in
    let d : drop b all ≡ drop (b - a) (drop a all) = sym (ap (λ (n : ℕ). drop n all) e) ∙ sym (drop-drop (b - a) a all) in
    ap (λ (x : List ℕ). take (b - a) (drop a all) ++ take (c - b) x) d ∙ sym (take-add (b - a) (c - b) (drop a all)) ∙ ap (λ (n : ℕ). take n (drop a all)) f

-- an attempt that is under way, by what its flash answered and by what it answered later
pub feeds_later : (part : PartData) (kept : Kept) (address : ℕ) (one other : FlashAnswers) (d : DeviceState) (at : ℕ) → IsLater one other → IsUnderWay (attempt_at part kept address) one d at → IsUnderWay (attempt_at part kept address) other d at
feeds_later part kept address one other d at later f =
    record { bytes = f.bytes; stands = f.stands; going = f.going; not_ended = f.not_ended; due = f.due; count = f.count; read = λ all agrees. f.read all (later.agrees all agrees); none = f.none }

pub feeds_on : (part : PartData) (kept : Kept) (address : ℕ) (flash : FlashAnswers) (d new : DeviceState) (page : List ℕ) (at end : ℕ) (step : AttemptStep) → at + length page ≡ end → (f : IsUnderWay (attempt_at part kept address) flash d at)
    → IfAgrees flash (λ all. page ≡ slice_range all at end) → TookPiece (past_in_flash part kept f.bytes) new page step → step ≡ GoesOn → IsUnderWay (attempt_at part kept address) flash new end
feeds_on part kept address flash d new page at end step sum f knows t goes =
    let whole : t.count ≡ length page = t.all goes in
    let all : take t.count page ≡ page = ap (λ (n : ℕ). take n page) whole ∙ take_all (length page) page (omega arith) in
    let steps : StepsTo part kept (f.bytes ++ page) GoesOn = subst (λ (s : AttemptStep). StepsTo part kept (f.bytes ++ page) s) goes (subst (λ (b : List ℕ). StepsTo part kept (f.bytes ++ b) step) all t.steps) in
    let count : address + length f.bytes ≡ at = f.count in
    let long : length (f.bytes ++ page) ≡ length f.bytes + length page = length-append f.bytes page in
    record {
      bytes = f.bytes ++ page;
      stands = subst (λ (b : List ℕ). DeviceStandsFor part kept false new (f.bytes ++ b)) all t.stands;
      going = steps.0;
      not_ended = steps.1;
      due = t.due;
      count = omega (arith, count, long, sum);
      read = λ all agrees. ap (λ (x : List ℕ). x ++ page) (f.read all agrees) ∙ ap (λ (x : List ℕ). slice_range all address at ++ x) (knows all agrees) ∙ ranges_join all address at end (omega (arith, count)) (omega (arith, sum));
      none = subst (λ (b : List ℕ). (k : ℕ) → k < length (f.bytes ++ b) → ending_at part kept (take k (f.bytes ++ b)) ≡ None) all (none_joined part kept f.bytes page t.count t.within f.none t.none);
    }

-- ---- how an attempt ends

-- the bytes of a flash from an address on begin with those taken
flash_from : (all bytes page : List ℕ) (address at end n : ℕ) → address ≤ at → at ≤ end → n ≤ length page → bytes ≡ slice_range all address at → page ≡ slice_range all at end
    → drop address all ≡ (bytes ++ take n page) ++ (drop n page ++ drop (end - address) (drop address all))
flash_from all bytes page address at end n l m within e f =
    let whole : bytes ++ page ≡ take (end - address) (drop address all) = ap (λ (x : List ℕ). x ++ page) e ∙ ap (λ (x : List ℕ). slice_range all address at ++ x) f ∙ ranges_join all address at end l m in
    let cut : page ≡ take n page ++ drop n page = sym (take-append-drop n page) in
    let rest : List ℕ = drop (end - address) (drop address all) in
    sym (take-append-drop (end - address) (drop address all)) ∙ ap (λ (x : List ℕ). x ++ rest) (sym whole)
    ∙ ap (λ (x : List ℕ). (bytes ++ x) ++ rest) cut ∙ ap (λ (x : List ℕ). x ++ rest) (sym (append_assoc bytes (take n page) (drop n page))) ∙ append_assoc (bytes ++ take n page) (drop n page) rest

-- nothing ends an attempt at fewer bytes than those taken
none_of : (part : PartData) (kept : Kept) (from bytes rest : List ℕ) → from ≡ bytes ++ rest → ((k : ℕ) → k < length bytes → ending_at part kept (take k bytes) ≡ None) → NoneBefore part kept from (length bytes)
none_of part kept from bytes rest e none k l =
    subst (λ (b : List ℕ). ending_at part kept b ≡ None) (sym (ap (take k) e ∙ take-append-le k bytes rest (omega (arith, l)))) (none k l)

-- the attempt of a page that ends it
pub tries_ended : (part : PartData) (kept : Kept) (address : ℕ) (flash : FlashAnswers) (all : List ℕ) (d new : DeviceState) (page : List ℕ) (at end : ℕ) (step : AttemptStep) (e : Ending) → Agrees flash all → at ≤ end → (f : IsUnderWay (attempt_at part kept address) flash d at)
    → page ≡ slice_range all at end → TookPiece (past_in_flash part kept f.bytes) new page step → step ≡ Ends e → AttemptEnds (attempt_at part kept address) all new e
tries_ended part kept address flash all d new page at end step e agrees order f knows t is =
    let bytes : List ℕ = f.bytes ++ take t.count page in
    let count : address + length f.bytes ≡ at = f.count in
    let rest : List ℕ = drop t.count page ++ drop (end - address) (drop address all) in
    let from : drop address all ≡ bytes ++ rest = flash_from all f.bytes page address at end t.count (omega (arith, count)) order t.within (f.read all agrees) knows in
    let ends : ending_at part kept bytes ≡ Some e = subst (λ (s : AttemptStep). StepsTo part kept bytes s) is t.steps in
    let attempt : BootAttempt = record { kept = kept; address = address; bytes = bytes; wrapped = false; ending = e } in
    record {
      attempt = attempt;
      is = inl (record { rest = rest; taken = from; ends = ends; first = none_of part kept (drop address all) bytes rest from (none_joined part kept f.bytes page t.count t.within f.none t.none); in_flash = refl });
      kept_is = refl;
      address_is = refl;
      ending_is = refl;
      device = t.stands;
    }

-- a stop that doesn't end an attempt stays to the flash's end
stays_open : (part : PartData) (kept : Kept) (bytes more : List ℕ) → AreBytes (bytes ++ more) → IsSome (first_stop_of_bytes part kept bytes) → ending_at part kept bytes ≡ None → ending_at part kept (bytes ++ more) ≡ None
stays_open part kept bytes more fits some none = by (first_stop_of_bytes part kept bytes) refl some
  where
    by : (o : Option Stopped) → first_stop_of_bytes part kept bytes ≡ o → IsSome o → ending_at part kept (bytes ++ more) ≡ None
    by None e s = cc
    by (Some s) e i =
        let later : first_stop_of_bytes part kept (bytes ++ more) ≡ Some s = stop_is_final_stop part kept bytes more s fits e in
        let same : state_of part kept false (bytes ++ more) ≡ state_of part kept false bytes = stop_is_final_state part kept false bytes more s fits e in
        let no : ((state_of part kept false (bytes ++ more)).phase == 7) ≡ false = ap (λ (r : Snapshot). r.phase == 7) same ∙ not_started part kept bytes none in
        ends_by_stop part kept (bytes ++ more) no ∙ ap (λ (o : Option Stopped). ending_by (why_stopped o)) (later ∙ sym e) ∙ no_ending part kept bytes none

stop_at_last : (part : PartData) (kept : Kept) (d : DeviceState) (bytes : List ℕ) → DeviceStandsFor part kept false d bytes → (s : Stopped) → first_stop_of_bytes part kept bytes ≡ Some s → s.place ≡ length bytes
stop_at_last part kept d bytes stands s e = by d.registers.values.stop (sym e ∙ stands.stop_is)
  where
    by : (o : Option StopCause) → Some s ≡ stop_at_place (length bytes) o → s.place ≡ length bytes
    by None f = cc
    by (Some why) f = cc

none_stopped : (part : PartData) (kept : Kept) (from bytes rest : List ℕ) → from ≡ bytes ++ rest → AreBytes (bytes ++ rest) → IsSome (first_stop_of_bytes part kept bytes) → ending_at part kept bytes ≡ None
    → ((k : ℕ) → k < length bytes → ending_at part kept (take k bytes) ≡ None) → NoneBefore part kept from (suc (length from))
none_stopped part kept from bytes rest e fits some not_ended none k l = elim (cases_lt k (length bytes)) [
  | inl early ↦ none_of part kept from bytes rest e none k early
  | inr late ↦
      let m : ℕ = k - length bytes in
      let sum : length bytes + m ≡ k = omega (arith, late) in
      let here : take k from ≡ bytes ++ take m rest = ap (take k) e ∙ sym (ap (λ (n : ℕ). take n (bytes ++ rest)) sum) ∙ take-append-add bytes rest m in
      let cut : bytes ++ rest ≡ (bytes ++ take m rest) ++ drop m rest = ap (λ (x : List ℕ). bytes ++ x) (sym (take-append-drop m rest)) ∙ sym (append_assoc bytes (take m rest) (drop m rest)) in
      let fits' : AreBytes (bytes ++ take m rest) = all_prefix (λ b. b < 256) (bytes ++ take m rest) (drop m rest) (subst AreBytes cut fits) in
      subst (λ (b : List ℕ). ending_at part kept b ≡ None) (sym here) (stays_open part kept bytes (take m rest) fits' some not_ended)
]

taken_stopped : (part : PartData) (kept : Kept) (d : DeviceState) (from bytes rest : List ℕ) → from ≡ bytes ++ rest → AreBytes (bytes ++ rest) → DeviceStandsFor part kept false d bytes → IsSome (first_stop_of_bytes part kept bytes)
    → bytes ≡ take (taken_of part kept from) from
taken_stopped part kept d from bytes rest e fits stands some = by (first_stop_of_bytes part kept bytes) refl some
  where
    by : (o : Option Stopped) → first_stop_of_bytes part kept bytes ≡ o → IsSome o → bytes ≡ take (taken_of part kept from) from
    by None f s = cc
    by (Some s) f i =
        let later : first_stop_of_bytes part kept from ≡ Some s = ap (first_stop_of_bytes part kept) e ∙ stop_is_final_stop part kept bytes rest s fits f in
        let count : taken_of part kept from ≡ length bytes = ap (λ (o : Option Stopped). taken_by o (length from)) later ∙ stop_at_last part kept d bytes stands s f in
        sym (ap (λ (n : ℕ). take n from) count ∙ ap (take (length bytes)) e ∙ take-append_seam bytes rest)

-- the attempt of a page in which the device stopped, where the flash has ended for it
pub tries_stopped : (part : PartData) (kept : Kept) (address : ℕ) (flash : FlashAnswers) (all : List ℕ) (d new wrapped : DeviceState) (page : List ℕ) (at end : ℕ) (step : AttemptStep) (e : Ending) → Agrees flash all → AreBytes all → at ≤ end → (f : IsUnderWay (attempt_at part kept address) flash d at)
    → page ≡ slice_range all at end → (t : TookPiece (past_in_flash part kept f.bytes) new page step) → step ≡ Stops → DeviceStandsFor part kept true wrapped (f.bytes ++ take t.count page) → e ≡ Failed Wrap → AttemptEnds (attempt_at part kept address) all wrapped e
tries_stopped part kept address flash all d new wrapped page at end step e agrees fits order f knows t is w failed =
    let bytes : List ℕ = f.bytes ++ take t.count page in
    let count : address + length f.bytes ≡ at = f.count in
    let rest : List ℕ = drop t.count page ++ drop (end - address) (drop address all) in
    let from : drop address all ≡ bytes ++ rest = flash_from all f.bytes page address at end t.count (omega (arith, count)) order t.within (f.read all agrees) knows in
    let stopped : StepsTo part kept bytes Stops = subst (λ (s : AttemptStep). StepsTo part kept bytes s) is t.steps in
    let fits' : AreBytes (bytes ++ rest) = subst AreBytes from (all_back (λ b. b < 256) (take address all) (drop address all) (subst AreBytes (sym (take-append-drop address all)) fits)) in
    record {
      attempt = record { kept = kept; address = address; bytes = bytes; wrapped = true; ending = Failed Wrap };
      is = inr (record {
        none = none_stopped part kept (drop address all) bytes rest from fits' stopped.0 stopped.1 (none_joined part kept f.bytes page t.count t.within f.none t.none);
        taken = taken_stopped part kept new (drop address all) bytes rest from fits' t.stands stopped.0;
        failed = refl;
        past_end = refl;
      });
      kept_is = refl;
      address_is = refl;
      ending_is = sym failed;
      device = w;
    }

-- the attempt that took all bytes of the flash
pub tries_out : (part : PartData) (kept : Kept) (address : ℕ) (flash : FlashAnswers) (all : List ℕ) (d wrapped : DeviceState) (at : ℕ) (e : Ending) → Agrees flash all → (f : IsUnderWay (attempt_at part kept address) flash d at) → flash.extent ≤ at
    → DeviceStandsFor part kept true wrapped f.bytes → e ≡ Failed Wrap → AttemptEnds (attempt_at part kept address) all wrapped e
tries_out part kept address flash all d wrapped at e agrees f past w failed =
    let from : List ℕ = drop address all in
    let left : length from ≡ length all - address = length-drop address all in
    let count : address + length f.bytes ≡ at = f.count in
    let size : length all ≡ flash.extent = agrees.size in
    let whole : f.bytes ≡ from = f.read all agrees ∙ take_all (at - address) from (omega (arith, left, past, count, size)) in
    let going : first_stop_of_bytes part kept from ≡ None = ap (first_stop_of_bytes part kept) (sym whole) ∙ f.going in
    let taken : taken_of part kept from ≡ length from = ap (λ (o : Option Stopped). taken_by o (length from)) going in
    record {
      attempt = record { kept = kept; address = address; bytes = f.bytes; wrapped = true; ending = Failed Wrap };
      is = inr (record {
        none = λ k l. elim (cases_lt k (length f.bytes)) [
          | inl early ↦ subst (λ (b : List ℕ). ending_at part kept (take k b) ≡ None) whole (f.none k early)
          | inr late ↦
              let same : take k from ≡ f.bytes = sym (ap (take k) whole) ∙ take_all k f.bytes late in
              subst (λ (b : List ℕ). ending_at part kept b ≡ None) (sym same) f.not_ended
        ];
        taken = whole ∙ sym (ap (λ (n : ℕ). take n from) taken ∙ take_all (length from) from (omega arith));
        failed = refl;
        past_end = refl;
      });
      kept_is = refl;
      address_is = refl;
      ending_is = sym failed;
      device = w;
    }

-- a device that stopped, where the flash may end
pub stops_here : (part : PartData) (kept : Kept) (d : DeviceState) (bytes page : List ℕ) (step : AttemptStep) → (kept.kind ≡ Bench → ⊥) → TookPiece (past_in_flash part kept bytes) d page step → step ≡ Stops → MayWrap d
stops_here part kept d bytes page step boots t is =
    let steps : StepsTo part kept (bytes ++ take t.count page) Stops = subst (λ (s : AttemptStep). StepsTo part kept (bytes ++ take t.count page) s) is t.steps in
    ends_here part kept d (bytes ++ take t.count page) boots t.stands steps.1 t.due

-- ---- what an attempt reads

-- an attempt that is under way takes the next byte of the flash
pub takes_next : (part : PartData) (kept : Kept) (address : ℕ) (flash : FlashAnswers) (all : List ℕ) (d : DeviceState) (at : ℕ) → IsUnderWay (attempt_at part kept address) flash d at → at < flash.extent → Agrees flash all → TakesByte (attempt_at part kept address) all at
takes_next part kept address flash all d at f inside agrees =
    let count : address + length f.bytes ≡ at = f.count in
    let size : length all ≡ flash.extent = agrees.size in
    let bytes : f.bytes ≡ slice_range all address at = f.read all agrees in
    record {
      from = omega (arith, count);
      within = omega (arith, inside, size);
      going = ap (first_stop_of_bytes part kept) (sym bytes) ∙ f.going;
      none = λ k l. elim (cases_lt k (length f.bytes)) [
        | inl early ↦ subst (λ (b : List ℕ). ending_at part kept b ≡ None) (ap (take k) bytes ∙ take-take k (at - address) (drop address all) (omega (arith, early, count))) (f.none k early)
        | inr late ↦
            let last : k ≡ at - address = omega (arith, l, late, count) in
            ap (λ (n : ℕ). ending_at part kept (take n (drop address all))) last ∙ ap (ending_at part kept) (sym bytes) ∙ f.not_ended
      ];
    }

-- the calls so far of an attempt that has come to a place: they read to the page of the place at most
abbrev pub ReadsSoFar : AttemptStart → FlashAnswers → ℕ → List FlashCall → Type 0
ReadsSoFar a flash place calls = (to : ℕ) × (place < flash.extent → to ≤ place / page_size * page_size) × ReadsPages (IsTakenFrom (TakesByte a) flash) 0 calls to

-- where the bytes end that a load gave an attempt at a place, by the calls of the load
load_end : (to at end number : ℕ) (block : List ℕ) (loaded : Loaded) (calls : List FlashCall) → to ≤ at / page_size * page_size → at ≤ end → number ≡ at / page_size
    → LoadsBy number block loaded calls → (flash : FlashAnswers) → IsLoaded flash number block loaded → end < flash.extent → (bytes : List ℕ) → end ≡ at + length bytes → EndsWithBlock at block loaded bytes → end_of to calls ≤ end / page_size * page_size
load_end to at end number block Cached calls l order same by flash read inside bytes sum ends = let e : end_of to calls ≡ to = ap (end_of to) by in omega (arith, e, l, order)
load_end to at end number block (Read n) calls l order same by flash read inside bytes sum ends =
    let e : end_of to calls ≡ number * page_size + length block = ap (end_of to) by in
    let long : length block ≡ block_end number n flash.extent - number * page_size = read.1.long in
    omega (arith, e, long, ends, same, sum, inside)

module _ (part : PartData) (kept : Kept) (address : ℕ) (first start old new : FlashState) (d : DeviceState) (at : ℕ) (since : IsSince first old) (same : old.bytes ≡ start.bytes) (size : new.extent ≡ old.extent)
    (f : IsUnderWay (attempt_at part kept address) (answers_since first old) d at) (inside : at < old.extent) (block : List ℕ) (due : HasCalled (ReadsSoFar (attempt_at part kept address) (answers_since first old) at) start old) where
  -- the calls so far and those of a load
  load_calls : (result : Result Loaded BootFault) → HasCalled (LoadCalls (at / page_size) block result) old new → (Q : List FlashCall → Type 0)
      → ((xs ys : List FlashCall) (to : ℕ) → to ≤ at / page_size * page_size → IfOk result (λ loaded. LoadsBy (at / page_size) block loaded ys) → ReadsPages (IsTakenFrom (TakesByte (attempt_at part kept address)) (answers_since first new)) 0 (xs ++ ys) (end_of to ys) → Q (xs ++ ys))
      → HasCalled Q start new
  load_calls result read Q ends =
      let a : AttemptStart = attempt_at part kept address in
      let one : FlashAnswers = answers_since first old in
      let latest : FlashAnswers = answers_since first new in
      let later : IsLater one latest = later_on first old new since size read in
      let g : IsUnderWay a latest d at = feeds_later part kept address one latest d at later f in
      let here : IsTakenFrom (TakesByte a) latest (at / page_size) = record { place = at; inside = refl; taken = λ all agrees fits. takes_next part kept address latest all d at g (omega (arith, inside, size)) agrees } in
      called_on (ReadsSoFar a one at) (LoadCalls (at / page_size) block result) Q start old new same
      (λ xs ys r once. ends xs ys r.0 (r.1 inside) once.1
      (pages_once (IsTakenFrom (TakesByte a) latest) 0 r.0 (at / page_size) xs ys (r.1 inside) (pages_with (IsTakenFrom (TakesByte a) one) (IsTakenFrom (TakesByte a) latest) 0 r.0 xs (taken_later (TakesByte a) one latest later) r.2) here once.0)) due read

  -- the attempt ends there
  pub load_ends : (result : Result Loaded BootFault) → HasCalled (LoadCalls (at / page_size) block result) old new → HasCalled (ReadsInAttempt (attempt_at part kept address) (answers_since first new)) start new
  load_ends result read = load_calls result read (ReadsInAttempt (attempt_at part kept address) (answers_since first new)) (λ xs ys to l by r. (end_of to ys, r))

  -- the attempt goes on after the bytes that were loaded
  pub load_goes : (loaded : Loaded) (bytes : List ℕ) → HasCalled (LoadCalls (at / page_size) block (Ok loaded)) old new → IsLoaded (answers_since first new) (at / page_size) block loaded → EndsWithBlock at block loaded bytes
      → HasCalled (ReadsSoFar (attempt_at part kept address) (answers_since first new) (at + length bytes)) start new
  load_goes loaded bytes read is ends =
      load_calls (Ok loaded) read (ReadsSoFar (attempt_at part kept address) (answers_since first new) (at + length bytes))
      (λ xs ys to l by r. (end_of to ys, λ within. load_end to at (at + length bytes) (at / page_size) block loaded ys l (omega arith) refl by (answers_since first new) is within bytes refl ends, r))

-- or at a place from which it loads nothing
pub reads_so_far : (a : AttemptStart) (flash : FlashAnswers) (start now : FlashState) (at : ℕ) → HasCalled (ReadsSoFar a flash at) start now → HasCalled (ReadsInAttempt a flash) start now
reads_so_far a flash start now at = called_with (ReadsSoFar a flash at) (ReadsInAttempt a flash) start now (λ xs r. (r.0, r.2))
