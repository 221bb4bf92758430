-- Lemmas on a feed: words given to a buffer, and the bytes taken of a piece.
use Rattle.std.proofs.Common.{◌≡◌, ◌+◌, ◌-◌, ◌≤◌, ◌<◌, ℕ, zero, suc, ◌↔◌, Option, None, Some, List, [], ◌∷◌, ◌++◌, length, take, drop, refl, ap, sym, subst, ◌∙◌, append_assoc, append-nil, arith, Bool, true, false, if◌then◌else◌}
use Rattle.std.proofs.Math.Seq.{take-length}
use Rattle.std.proofs.lemmas.List.{drop-take, length-take, take-append-drop, take-take}
use Rattle.std.proofs.lemmas.Option.{none-some}
use Rattle.std.specs.Option.{is_some}
use Rattle.x7_packets.specs.Cutter.{between}
use Rattle.x7_packets.specs.History.{History}
use Rattle.x7_part.specs.Part.{PartData}
use Rattle.x7_flow.specs.FrameAccess.{reads_frame_data}
use Rattle.x7_flow.specs.Standing.{FramesStandFor, FramesState, words_due}
use Rattle.x7_engine.specs.declared.due.Due.{Due}
use Rattle.x7_engine.specs.declared.due.Due.TheVariants as due
use Rattle.x7_engine.specs.declared.kept.Kept.{Kept}
use Rattle.x7_engine.specs.declared.stop.StopCause.{StopCause}
use Rattle.x7_engine.specs.declared.stop.StopCause.TheVariants as stop
use Rattle.x7_engine.specs.ReadBuffer.{ReadBufState, gathered, with_words}
use Rattle.x7_engine.specs.Readout.{GotAllBut}
use Rattle.x7_engine.specs.Feeding.{DeviceAndBuffer, GivesWordsNext, with_buffer}
use Rattle.x7_engine.specs.Past.{HasPast, Past, first_stop_at, AnswersAt, past_of, reads_given_at}
use Rattle.x7_engine.specs.Standing.{DeviceStandsFor, DeviceState, NoWordDue, RegistersStandFor, RegistersState, due_count, answer_at_stop, frames_among, frames_due, taken_in, reads_given, words_still_due}
use Rattle.x7_engine.specs.State.{history_taken, reads_of}
use Rattle.x7_engine.specs.Stop.{Stopped, stop_at_place}
use Rattle.x7_engine.proofs.DeviceLemmas.{given_by}
use Rattle.x7_engine.proofs.FrameLemmas.{frames_at, frames_of, goes_on}

-- the words read out, where some of those that were due were given
now_due : (part : PartData) (left : Due) (known : List ℕ) (h : History) (words reads : List ℕ) (old new : ReadBufState) → reads ≡ known ++ words → (g : GotAllBut (words_still_due part h left) words old new)
    → reads ≡ (known ++ g.more) ++ words_still_due part h left
now_due part left known h words reads old new all g = all ∙ ap (λ t. known ++ t) g.words_are ∙ sym (append_assoc known g.more (words_still_due part h left))

-- the device gave words that were due
pub given : (part : PartData) (kept : Kept) (wrapped : Bool) (d : DeviceState) (r : RegistersState) (bytes : List ℕ) (old new : ReadBufState) → DeviceStandsFor part kept wrapped d bytes
    → GotAllBut (words_still_due part (history_taken part kept bytes) r.values.due) (words_still_due part (history_taken part kept bytes) d.registers.values.due) old new
    → GivesWordsNext (past_of part kept wrapped bytes) (past_of part kept wrapped bytes) (with_buffer d old) (with_buffer (record d { registers = r }) new)
given part kept wrapped d r bytes old new s g =
    let known : List ℕ = s.due_are.given in
    let h : History = history_taken part kept bytes in (
      g.more,
      g.read_is,
      given_by part kept (record d { registers = r }) bytes (known ++ g.more) h (now_due part r.values.due known h _ _ old new s.due_are.all g) ∙ ap (λ t. t ++ g.more) (sym (given_by part kept d bytes known h s.due_are.all)),
    )

-- a device that gave words that were due stands for what it stood for
pub stands_given : (part : PartData) (kept : Kept) (wrapped : Bool) (d : DeviceState) (r : RegistersState) (bytes : List ℕ) (old new : ReadBufState) → d.registers.values.stop ≡ None → r.values.stop ≡ None → DeviceStandsFor part kept wrapped d bytes
    → RegistersStandFor part kept r (history_taken part kept bytes) (length bytes) → GotAllBut (words_still_due part (history_taken part kept bytes) r.values.due) (words_still_due part (history_taken part kept bytes) d.registers.values.due) old new
    → DeviceStandsFor part kept wrapped (record d { registers = r }) bytes
stands_given part kept wrapped d r bytes old new going on s registers g = record {
  fits = s.fits;
  part_is = s.part_is;
  wrapped_is = s.wrapped_is;
  taken_is = s.taken_is;
  stop_is = s.stop_is ∙ ap (stop_at_place (length bytes)) (going ∙ sym on);
  registers_are = registers;
  cutter_is = λ o. s.cutter_is going;
  due_are = record { given = s.due_are.given ++ g.more; all = now_due part r.values.due s.due_are.given (history_taken part kept bytes) _ _ old new s.due_are.all g };
  none_due_at_stop = λ why q. absurd (none-some _ (sym on ∙ q));
}

-- a buffer after words, and then after more, is that after all of them
pub words_append : (b : ReadBufState) (first more : List ℕ) → with_words (with_words b first) more ≡ with_words b (first ++ more)
words_append b first more = ap (λ ws. record { most = b.most; words = ws }) (by_most b.most b.words first more)
  where
    by_most : (most : Option ℕ) (words first more : List ℕ) → gathered most (gathered most words first) more ≡ gathered most words (first ++ more)
    by_most None words first more = refl
    by_most (Some most) words first more = append_assoc words first more

-- a buffer after no words is as it was
pub words_none : (b : ReadBufState) → b ≡ with_words b []
words_none b = ap (λ ws. record { most = b.most; words = ws }) (by_most b.most b.words)
  where
    by_most : (most : Option ℕ) (words : List ℕ) → words ≡ gathered most words []
    by_most None words = refl
    by_most (Some most) words = sym (append-nil words)

-- the bytes of a piece up to a place, and then those up to a later one
pub taken_more : (bytes piece : List ℕ) (from to : ℕ) → from ≤ to → (bytes ++ take from piece) ++ between piece from to ≡ bytes ++ take to piece
taken_more bytes piece from to l =
    let sum : from + (to - from) ≡ to = omega arith in
    append_assoc bytes (take from piece) (between piece from to)
    ∙ ap (λ t. bytes ++ t)
    (ap (λ t. t ++ between piece from to) (sym (take-take from to piece l))
    ∙ ap (λ t. take from (take to piece) ++ t) (sym (ap (λ (k : ℕ). drop from (take k piece)) (sym sum) ∙ drop-take from (to - from) piece))
    ∙ take-append-drop from (take to piece))

-- the device after the bytes of a piece up to a place, and then up to a later one
pub stands_on : (part : PartData) (kept : Kept) (wrapped : Bool) (d e : DeviceState) (bytes piece : List ℕ) (from to : ℕ) → from ≤ to
    → ((b : List ℕ) → DeviceStandsFor part kept wrapped d b → DeviceStandsFor part kept wrapped e (b ++ between piece from to))
    → DeviceStandsFor part kept wrapped d (bytes ++ take from piece) → DeviceStandsFor part kept wrapped e (bytes ++ take to piece)
stands_on part kept wrapped d e bytes piece from to l f s = subst (λ (b : List ℕ). DeviceStandsFor part kept wrapped e b) (taken_more bytes piece from to l) (f (bytes ++ take from piece) s)

pub given_on : (part : PartData) (kept : Kept) (wrapped : Bool) (d e : DeviceState) (bytes piece : List ℕ) (from to : ℕ) → from ≤ to
    → ((b : List ℕ) → DeviceStandsFor part kept wrapped d b → reads_given part kept e (b ++ between piece from to) ≡ reads_given part kept d b)
    → DeviceStandsFor part kept wrapped d (bytes ++ take from piece) → reads_given part kept e (bytes ++ take to piece) ≡ reads_given part kept d (bytes ++ take from piece)
given_on part kept wrapped d e bytes piece from to l f s = sym (ap (reads_given part kept e) (taken_more bytes piece from to l)) ∙ f (bytes ++ take from piece) s

-- the words given before, and those that are given now
pub now_given : (p : Past) (x y z : DeviceAndBuffer) (q : Past) → GivesWordsNext q q y z → GivesWordsNext p q x y → GivesWordsNext p q x z
now_given p x y z q g m = (
  m.0 ++ g.0,
  g.1 ∙ ap (λ (b : ReadBufState). with_words b g.0) m.1 ∙ words_append x.buffer m.0 g.0,
  g.2 ∙ ap (λ t. t ++ g.0) m.2 ∙ append_assoc (reads_given_at x.device p) m.0 g.0,
)

-- the answer for a stop at a place says that the bytes up to there were taken
pub taken_by_stop : (why : StopCause) (n at : ℕ) → taken_in n (answer_at_stop why at) ≡ at
taken_by_stop (stop.Fault f) n at = refl
taken_by_stop stop.Iprog n at = refl

pub answers_stop : (part : PartData) (kept : Kept) (wrapped : Bool) (d : DeviceState) (bytes : List ℕ) (read : ReadBufState) (why : StopCause) (at : ℕ)
    → DeviceStandsFor part kept wrapped d bytes → Some why ≡ d.registers.values.stop → AnswersAt (past_of part kept wrapped bytes) d read (answer_at_stop why at)
answers_stop part kept wrapped d bytes read (stop.Fault f) at s e = (f, s.stop_is ∙ ap (stop_at_place (length bytes)) (sym e), s.none_due_at_stop (stop.Fault f) (sym e))
answers_stop part kept wrapped d bytes read stop.Iprog at s e = (s.stop_is ∙ ap (stop_at_place (length bytes)) (sym e), s.none_due_at_stop stop.Iprog (sym e))

-- a device stopped just where its bytes have a stop
pub same_stop : (d : DeviceState) (p : Past) → HasPast d p → is_some (first_stop_at p) ≡ is_some d.registers.values.stop
same_stop d p s = ap (λ (o : Option Stopped). is_some o) s.stop_is ∙ same (length p.bytes) d.registers.values.stop
  where
    same : (n : ℕ) (o : Option StopCause) → is_some (stop_at_place n o) ≡ is_some o
    same n None = refl
    same n (Some why) = refl

-- a device that goes on hadn't stopped before
pub none_before : (old now : DeviceState) → (is_some old.registers.values.stop ≡ true → now ≡ old) → None ≡ now.registers.values.stop → is_some old.registers.values.stop ≡ true → ⊥
none_before old now same going e =
    let both : true ≡ false = sym e ∙ ap (λ (d : DeviceState). is_some d.registers.values.stop) (sym (same e)) ∙ sym (ap (λ (o : Option StopCause). is_some o) going) in cc

-- words are due where a call doesn't say that none is
pub some_due : (n : ℕ) (none_left : Bool) → (none_left ≡ true) ↔ (n ≡ 0) → none_left ≡ false → 0 < n
some_due zero none_left same e = absurd (let both : true ≡ false = sym (same.1 refl) ∙ e in cc)
some_due (suc n) none_left same e = omega arith

-- fewer calls are left, or none after a stop
pub fewer_left : (now next : Option StopCause) (before after : ℕ) → is_some now ≡ false → (next ≡ None → after < before)
    → (if is_some next then 0 else after + 1) < (if is_some now then 0 else before + 1)
fewer_left None None before after going fewer = let less = fewer refl in omega arith
fewer_left None (Some why) before after going fewer = omega arith
fewer_left (Some why) next before after going fewer = absurd cc

-- ---- named facts for the crates above

-- no word is due, so all that was read out was given
pub given_all : (part : PartData) (kept : Kept) (d : DeviceState) (bytes : List ℕ) → NoWordDue d → reads_given part kept d bytes ≡ reads_of part kept bytes
given_all part kept d bytes e = ap (λ (n : ℕ). take (length (reads_of part kept bytes) - n) (reads_of part kept bytes)) e ∙ whole (reads_of part kept bytes)
  where
    whole : (xs : List ℕ) → take (length xs - 0) xs ≡ xs
    whole xs =
        let all : length xs - 0 ≡ length xs = omega arith in
        ap (λ (n : ℕ). take n xs) all ∙ take-length xs

-- no more was given than was read out
pub given_within : (part : PartData) (kept : Kept) (d : DeviceState) (bytes : List ℕ) → length (reads_given part kept d bytes) ≤ length (reads_of part kept bytes)
given_within part kept d bytes = omega (arith, length-take (length (reads_of part kept bytes) - due_count d.registers.values.due) (reads_of part kept bytes))

-- ---- words of frame data given to a buffer

-- the next word is due
pub one_due : (part : PartData) (f : FramesState) (h : History) (count i : ℕ) → i < count → FramesStandFor part f h (count - i) → FramesStandFor part f h (count - (i + 1) + 1)
one_due part f h count i l s =
    let next : count - i ≡ count - (i + 1) + 1 = omega (arith, l) in
    subst (FramesStandFor part f h) next s

-- a buffer that gets one word of frame data more
pub got_more : (part : PartData) (f : FramesState) (h : History) (count i w : ℕ) (first read new : ReadBufState) → i < count → GotAllBut (words_due part h (count - i)) (words_due part h count) first read
    → FramesStandFor part f h (count - i) → ((due : ℕ) → FramesStandFor part f h (due + 1) → words_due part h (suc due) ≡ w ∷ words_due part h due)
    → new ≡ with_words read (w ∷ []) → GotAllBut (words_due part h (count - (i + 1))) (words_due part h count) first new
got_more part f h count i w first read new l g s word e =
    let due : ℕ = count - (i + 1) in
    let later : count - i ≡ suc due = omega (arith, l) in
    record {
      more = g.more ++ w ∷ [];
      read_is = e ∙ ap (λ (b : ReadBufState). with_words b (w ∷ [])) g.read_is ∙ words_append first g.more (w ∷ []);
      words_are = g.words_are ∙ ap (λ (k : ℕ). g.more ++ words_due part h k) later ∙ ap (λ t. g.more ++ t) (word due (one_due part f h count i l s)) ∙ sym (append_assoc g.more (w ∷ []) (words_due part h due));
    }

-- a dropping buffer takes all words
pub got_dropped : (words : List ℕ) (read : ReadBufState) → read.most ≡ None → GotAllBut [] words read read
got_dropped words read e = record {
  more = words;
  read_is = ap (λ ws. record { most = read.most; words = ws }) (sym (ap (λ (most : Option ℕ). gathered most read.words words) e));
  words_are = sym (append-nil words);
}

-- where all words due are frame data, so are fewer of them
fewer_among : (h : History) (count left : ℕ) → left ≤ count → count ≡ frames_among h count → left ≡ frames_among h left
fewer_among [] count left l e = omega (arith, l, e)
fewer_among (a ∷ h) count left l e = by (reads_frame_data h a.access) e
  where
    by : (b : Bool) → count ≡ (if b then count else 0) → left ≡ (if b then left else 0)
    by true e = refl
    by false e = omega (arith, l, e)

-- the frames of registers of which words of frame data are due
frames_due_here : (part : PartData) (kept : Kept) (d : RegistersState) (h : History) (n count : ℕ) → d.values.stop ≡ None → d.values.due ≡ due.Frames count → RegistersStandFor part kept d h n → FramesStandFor part d.frames h count
frames_due_here part kept d h n count going is s = subst (FramesStandFor part d.frames h) (ap frames_due is) (frames_of part d.frames d.values.stop h (frames_due d.values.due) (goes_on d.values.stop going) s.frames)

-- the words of frame data that a buffer got
pub got_frames : (part : PartData) (kept : Kept) (d : RegistersState) (h : History) (n count left : ℕ) (old new : ReadBufState) → d.values.stop ≡ None → d.values.due ≡ due.Frames count
    → (FramesStandFor part d.frames h count → GotAllBut (words_due part h left) (words_due part h count) old new) → RegistersStandFor part kept d h n
    → GotAllBut (words_due part h left) (words_still_due part h d.values.due) old new
got_frames part kept d h n count left old new going is got s = subst (λ (x : Due). GotAllBut (words_due part h left) (words_still_due part h x) old new) (sym is) (got (frames_due_here part kept d h n count going is s))

-- registers after some of the words of frame data that were due
pub gave_frames : (part : PartData) (kept : Kept) (d : RegistersState) (frames : FramesState) (h : History) (n count left : ℕ) → d.values.stop ≡ None → d.values.due ≡ due.Frames count → left ≤ count
    → (FramesStandFor part d.frames h count → FramesStandFor part frames h left) → RegistersStandFor part kept d h n → RegistersStandFor part kept (record { values = record d.values { due = due.Frames left }; frames = frames }) h n
gave_frames part kept d frames h n count left going is few stands s = record {
  places = s.places;
  words = s.words;
  controls = s.controls;
  progress = s.progress;
  kind = s.kind;
  before = s.before;
  clock = s.clock;
  stop = s.stop;
  frames = frames_at part frames d.values.stop h left (goes_on d.values.stop going) (stands (frames_due_here part kept d h n count going is s));
  due_kind = fewer_among h count left few (sym (ap frames_due is) ∙ s.due_kind ∙ ap (λ (x : Due). frames_among h (due_count x)) is);
}
