-- A device that took up to four bytes since it was saved goes back to what it was.
use Rattle.std.proofs.Common.{◌≡◌, ℕ, ◌+◌, ◌<◌, ◌≤◌, inl, inr, ◌⊎◌, Bool, true, false, if◌then◌else◌, List, [], ◌∷◌, ◌++◌, length, Option, None, Some, refl, ap, sym, subst, ◌∙◌, arith, append-nil, length-append}
use Rattle.std.specs.Prelude.{nat_lt}
use Rattle.x7_words.specs.Word.{AreBytes}
use Rattle.x7_words.proofs.ListLemmas.{all_prefix}
use Rattle.x7_packets.specs.History.{Entry, History, Placed, history_of, until}
use Rattle.x7_packets.proofs.GrowthLemmas.{placed_of, placed_within, until_placed}
use Rattle.x7_packets.proofs.OnceLemmas.{enter_once}
use Rattle.x7_part.specs.Part.{PartData}
use Rattle.x7_memory.specs.FrameMap.{HaveSameFrames}
use Rattle.x7_memory.specs.PartFrames.{frame_at}
use Rattle.x7_flow.specs.FrameMemory.{memory_of}
use Rattle.x7_flow.specs.Saved.{FramesBack, SavesFrames}
use Rattle.x7_flow.specs.Standing.{FramesFit, FramesStandFor}
use Rattle.x7_flow.proofs.SavedLemmas.{back_one, back_same}
use Rattle.x7_engine.specs.declared.fed.Fed.{Fed}
use Rattle.x7_engine.specs.declared.fed.Fed.TheVariants as fed
use Rattle.x7_engine.specs.declared.kept.Kept.{Kept}
use Rattle.x7_engine.specs.declared.stop.StopCause.{StopCause}
use Rattle.x7_engine.specs.ReadBuffer.{IsFullBy, ReadBufState, dropping, with_words}
use Rattle.x7_engine.specs.Past.{AnswersAt, Past}
use Rattle.x7_engine.specs.Standing.{DeviceState, DeviceStandsFor, NoWordDue, frames_due}
use Rattle.x7_engine.specs.State.{history_by, history_taken, last_counted, memory_of_bytes, first_stop_of_bytes}
use Rattle.x7_engine.specs.Stop.{Stopped, stop_at_place}
use Rattle.x7_engine.specs.Undo.{UndoLeadsBack, SavesDevice, UndoState}
use Rattle.x7_engine.proofs.DeviceLemmas.{going_taken}
use Rattle.x7_engine.proofs.FrameLemmas.{frames_of, goes_on, none_frames}
use Rattle.x7_engine.proofs.StateLemmas.{stop_is_final_stop, counted_most}

-- ---- the history of up to four bytes more

abbrev OneEntry : History → History → Type 0
OneEntry h g = (g ≡ h) ⊎ ((e : Entry) × (g ≡ e ∷ h))

until_one : (n k : ℕ) (h g : History) → n ≤ k → Placed n h → OneEntry h g → OneEntry h (until k g)
until_one n k h g l p (inl same) = inl (ap (until k) same ∙ until_placed k h (placed_within n k h l p))
until_one n k h g l p (inr one) = subst (λ (x : History). OneEntry h (until k x)) (sym one.1) (by (nat_lt k one.0.place))
  where
    by : (b : Bool) → OneEntry h (if b then until k h else one.0 ∷ h)
    by true = inl (until_placed k h (placed_within n k h l p))
    by false = inr (one.0, refl)

taken_one : (part : PartData) (kept : Kept) (bytes more : List ℕ) (why : Option StopCause) → AreBytes (bytes ++ more) → length more ≤ 4 → 0 < length more → first_stop_of_bytes part kept (bytes ++ more) ≡ stop_at_place (length (bytes ++ more)) why
    → OneEntry (history_of bytes) (history_taken part kept (bytes ++ more))
taken_one part kept bytes more None f few some e = subst (OneEntry (history_of bytes)) (sym (going_taken part kept (bytes ++ more) e)) (enter_once bytes more f few)
taken_one part kept bytes more (Some why) f few some e =
    let place : ℕ = length (bytes ++ more) in
    let long : place ≡ length bytes + length more = length-append bytes more in
    subst (OneEntry (history_of bytes)) (sym (ap (λ (o : Option Stopped). history_by o (history_of (bytes ++ more))) e))
    (until_one (length bytes) (last_counted why place) (history_of bytes) (history_of (bytes ++ more)) (counted_most why place (length bytes) (omega (arith, long, some))) (placed_of bytes (all_prefix (λ b. b < 256) bytes more f))
    (enter_once bytes more f few))

-- a device that took more bytes had no stop before them
no_stop : (part : PartData) (kept : Kept) (bytes more : List ℕ) (now why : Option StopCause) → AreBytes (bytes ++ more) → 0 < length more → first_stop_of_bytes part kept bytes ≡ stop_at_place (length bytes) now → first_stop_of_bytes part kept (bytes ++ more) ≡ stop_at_place (length (bytes ++ more)) why
    → now ≡ None
no_stop part kept bytes more None why f some e g = refl
no_stop part kept bytes more (Some now) why f some e g = by why g
  where
    at : Stopped
    at = record { place = length bytes; why = now }

    final : first_stop_of_bytes part kept (bytes ++ more) ≡ Some at
    final = stop_is_final_stop part kept bytes more at f e

    place_of : Option Stopped → ℕ
    place_of None = 0
    place_of (Some s) = s.place

    by : (why : Option StopCause) → first_stop_of_bytes part kept (bytes ++ more) ≡ stop_at_place (length (bytes ++ more)) why → Some now ≡ None
    by None g = absurd (let no : Some at ≡ None = sym final ∙ g in cc)
    by (Some later) g = absurd (let same : length bytes ≡ length (bytes ++ more) = ap (λ (o : Option Stopped). place_of o) (sym final ∙ g) in omega (arith, same, length-append bytes more, some))

-- ---- back

memory_stands : (part : PartData) (kept : Kept) (wrapped : Bool) (d : DeviceState) (bytes : List ℕ) → DeviceStandsFor part kept wrapped d bytes → HaveSameFrames (frame_at part d.registers.frames.memory) (memory_of_bytes part kept bytes)
memory_stands part kept wrapped d bytes s = λ far. s.registers_are.frames.stands.memory far ∙ s.registers_are.frames.memory_same far

module _ (part : PartData) (kept : Kept) (wrapped : Bool) (u : UndoState) (old new : DeviceState) (bytes more : List ℕ) where
  frames_more : SavesFrames part u.frames old.registers.frames → FramesFit part old.registers.frames → FramesFit part new.registers.frames → NoWordDue old → length more ≤ 4 → 0 < length more
      → DeviceStandsFor part kept wrapped old bytes → DeviceStandsFor part kept wrapped new (bytes ++ more) → FramesBack part u.frames new.registers.frames old.registers.frames
  frames_more k o n none few some s t =
      let going : old.registers.values.stop ≡ None = no_stop part kept bytes more old.registers.values.stop new.registers.values.stop t.fits some s.stop_is t.stop_is in
      let before : first_stop_of_bytes part kept bytes ≡ None = s.stop_is ∙ ap (stop_at_place (length bytes)) going in
      let h : History = history_of bytes in
      let taken : history_taken part kept bytes ≡ h = going_taken part kept bytes before in
      let stands : FramesStandFor part old.registers.frames h 0 =
      subst (λ (k : ℕ). FramesStandFor part old.registers.frames h k) (none_frames old.registers.values.due none)
      (subst (λ (x : History). FramesStandFor part old.registers.frames x (frames_due old.registers.values.due)) taken
      (frames_of part old.registers.frames old.registers.values.stop (history_taken part kept bytes) (frames_due old.registers.values.due) (goes_on old.registers.values.stop going) s.registers_are.frames)) in
      let memory : HaveSameFrames (frame_at part new.registers.frames.memory) (memory_of_bytes part kept (bytes ++ more)) = memory_stands part kept wrapped new (bytes ++ more) t in
      elim (taken_one part kept bytes more new.registers.values.stop t.fits few some t.stop_is) [
        | inl same ↦
            back_same part u.frames old.registers.frames new.registers.frames k o n
            (λ far. memory far ∙ ap (λ (x : History). memory_of part x far) (same ∙ sym taken) ∙ sym (memory_stands part kept wrapped old bytes s far))
        | inr one ↦ back_one part u.frames old.registers.frames new.registers.frames h one.0 k o n stands (λ far. memory far ∙ ap (λ (x : History). memory_of part x far) one.1)
      ]

  frames_none : SavesFrames part u.frames old.registers.frames → FramesFit part old.registers.frames → FramesFit part new.registers.frames → more ≡ []
      → DeviceStandsFor part kept wrapped old bytes → DeviceStandsFor part kept wrapped new (bytes ++ more) → FramesBack part u.frames new.registers.frames old.registers.frames
  frames_none k o n e s t =
      let all : bytes ++ more ≡ bytes = ap (λ (m : List ℕ). bytes ++ m) e ∙ append-nil bytes in
      back_same part u.frames old.registers.frames new.registers.frames k o n
      (λ far. memory_stands part kept wrapped new (bytes ++ more) t far ∙ ap (λ (b : List ℕ). memory_of_bytes part kept b far) all ∙ sym (memory_stands part kept wrapped old bytes s far))

pub frames_back : (part : PartData) (kept : Kept) (wrapped : Bool) (u : UndoState) (old new : DeviceState) (bytes more : List ℕ) → SavesFrames part u.frames old.registers.frames → FramesFit part old.registers.frames → FramesFit part new.registers.frames
    → NoWordDue old → length more ≤ 4 → DeviceStandsFor part kept wrapped old bytes → DeviceStandsFor part kept wrapped new (bytes ++ more) → FramesBack part u.frames new.registers.frames old.registers.frames
frames_back part kept wrapped u old new bytes [] k o n none few s t = frames_none part kept wrapped u old new bytes [] k o n refl s t
frames_back part kept wrapped u old new bytes (x ∷ more) k o n none few s t = frames_more part kept wrapped u old new bytes (x ∷ more) k o n none few (omega arith) s t

-- what was saved of a device leads back to it from the same device after up to four bytes
pub leads_back : (part : PartData) (kept : Kept) (wrapped : Bool) (u : UndoState) (old new : DeviceState) (bytes more : List ℕ) → SavesDevice u old → FramesFit new.part new.registers.frames → NoWordDue old → length more ≤ 4
    → DeviceStandsFor part kept wrapped old bytes → DeviceStandsFor part kept wrapped new (bytes ++ more) → UndoLeadsBack u new old
leads_back part kept wrapped u old new bytes more k n none few s t =
    let there : old.part ≡ part = s.part_is in
    let here : new.part ≡ part = t.part_is in
    record {
      part = here ∙ sym there;
      values = k.values;
      frames = subst (λ (p : PartData). FramesBack p u.frames new.registers.frames old.registers.frames) (sym there)
          (frames_back part kept wrapped u old new bytes more (subst (λ (p : PartData). SavesFrames p u.frames old.registers.frames) there k.frames) (subst (λ (p : PartData). FramesFit p old.registers.frames) there k.frames_fit)
          (subst (λ (p : PartData). FramesFit p new.registers.frames) here n) none few s t);
    }

-- what a feed with a dropping buffer answers also holds of the buffer as it began
pub answers_dropping : (p : Past) (d : DeviceState) (more : List ℕ) (first read : ReadBufState) (f : Fed) → first ≡ dropping → read ≡ with_words first more → AnswersAt p d read f → AnswersAt p d dropping f
answers_dropping p d more first read fed.All e g a = a
answers_dropping p d more first read (fed.Stopped n) e g a = a
answers_dropping p d more first read (fed.Iprog n) e g a = a
answers_dropping p d more first read (fed.ReadFull n) e g a =
    let most : read.most ≡ None = ap (λ (b : ReadBufState). b.most) g ∙ ap (λ (b : ReadBufState). b.most) e in
    (a.0, a.1, absurd (subst (λ (m : Option ℕ). IsFullBy m (length read.words)) most a.2))
