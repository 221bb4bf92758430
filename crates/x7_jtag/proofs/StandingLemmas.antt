-- Lemmas on specs/Tap: what a queue and its device stand for after each of their steps.
use Rattle.std.proofs.Common.{◌≡◌, inl, ℕ, zero, suc, ◌+◌, ◌-◌, ◌*◌, ◌/◌, ◌%◌, ◌^◌, ◌<◌, ◌≤◌, ◌==◌, ◌&&◌, nat_lt, Bool, true, false, if◌then◌else◌, List, [], ◌∷◌, ◌++◌, length, take, drop, slice_index, Option, Some, None, refl, ap, ap₂, sym, subst, ◌∙◌, append_assoc, length-append, length-drop, arith}
use Rattle.std.proofs.Math.Seq.{get_or-append_seam}
use Rattle.std.proofs.lemmas.List.{nil_from_length, take_all}
use Rattle.std.specs.Option.{IsSome}
use Rattle.std.specs.List.{fold}
use Rattle.x7_words.specs.Word.{AreBytes}
use Rattle.x7_words.proofs.ListLemmas.{all_append}
use Rattle.x7_part.specs.Part.{PartData}
use Rattle.x7_engine.specs.declared.fed.Fed.{Fed}
use Rattle.x7_engine.specs.Kept.{on_the_bench}
use Rattle.x7_engine.specs.ReadBuffer.{HoldsWithinMost, IsFull, IsFullBy, ReadBufState}
use Rattle.x7_engine.specs.ReadBuffer.{with_words as read_with}
use Rattle.x7_engine.specs.Past.{AnswersAt, past_of}
use Rattle.x7_engine.specs.Standing.{DeviceStandsFor, DeviceState, NoWordDue, due_count, taken_in, words_still_due}
use Rattle.x7_engine.specs.State.{history_taken, reads_of, first_stop_of_bytes}
use Rattle.x7_engine.proofs.FrameLemmas.{length_left}
use Rattle.x7_jtag.specs.Port.{words_read_out}
use Rattle.x7_jtag.specs.Queue.{Queue, bits_read, bit_shown, dropped, empty_queue, in_turn, most_bytes_held, give_held, shifted_out, waits, queue_with_room, word_bit, queue_of}
use Rattle.x7_jtag.specs.Tap.{QueueHolds, QueueStandsFor, QueueState, TookOfGiven, reads_taken, with_word_taken}
use Rattle.x7_jtag.proofs.QueueLemmas.{turns_wait}
use Rattle.x7_jtag.proofs.TookLemmas.{goes_on, goes_on_dropping, none_given, reads_took, taken_all, taken_few, taken_first, took_more}

-- ---- what waits

pub none_waits : (part : PartData) (k : QueueState) (d : DeviceState) (given held : List ℕ) (out : ℕ) → QueueStandsFor part k d (queue_of given held out) → k.bits_left ≡ 0 → waits (words_read_out part) given out ≡ false
none_waits part k d given held out s z =
    let h : QueueHolds part k d (queue_of given held out) = s.holds in
    let all : length (words_read_out part given) ≡ length (reads_taken part d h.bytes) = ap length (reads_took part given h.bytes h.took) ∙ ap length (sym (taken_all part d h.bytes (s.no_word_due z))) in
    grind (arith, all, h.out_is, z)

pub one_waits : (part : PartData) (k : QueueState) (d : DeviceState) (given held : List ℕ) (out : ℕ) → QueueHolds part k d (queue_of given held out) → 0 < k.bits_left → waits (words_read_out part) given out ≡ true
one_waits part k d given held out h l =
    let all : length (words_read_out part given) ≡ length (reads_of part on_the_bench h.bytes) = ap length (reads_took part given h.bytes h.took) in
    let few : length (reads_taken part d h.bytes) ≤ length (reads_of part on_the_bench h.bytes) = taken_few part d h.bytes in
    let more : out < 32 * length (words_read_out part given) = omega (arith, all, few, h.out_is, l) in
    grind (arith, more)

-- the bit that is next
seam : (prefix more words : List ℕ) (w n : ℕ) → n ≡ length prefix → words ≡ (prefix ++ w ∷ []) ++ more → slice_index words n ≡ w
seam prefix more words w n e f =
    ap₂ (λ (i : ℕ) (ws : List ℕ). slice_index ws i) e (f ∙ append_assoc prefix (w ∷ []) more) ∙ get_or-append_seam prefix w more 0

pub bit_is : (part : PartData) (k : QueueState) (d : DeviceState) (given held : List ℕ) (out : ℕ) → QueueHolds part k d (queue_of given held out) → 0 < k.bits_left → word_bit (words_read_out part given) out ≡ (k.word / 2 ^ (k.bits_left - 1) % 2 == 1)
bit_is part k d given held out h l =
    let first : (more : List ℕ) × (reads_taken part d h.bytes ++ more ≡ reads_of part on_the_bench h.bytes) = taken_first part d h.bytes in
    let all : words_read_out part given ≡ (h.prefix ++ k.word ∷ []) ++ first.0 = reads_took part given h.bytes h.took ∙ sym first.1 ∙ ap (λ t. t ++ first.0) (h.word_is l) in
    let count : out + k.bits_left ≡ 32 * (length h.prefix + 1) = omega (arith, h.out_is, ap length (h.word_is l), length-append h.prefix (k.word ∷ [])) in
    let place : out / 32 ≡ length h.prefix = omega (arith, count, l, h.bits_left_is) in
    let shift : 31 - out % 32 ≡ k.bits_left - 1 = omega (arith, count, l, h.bits_left_is) in
    ap₂ (λ (w n : ℕ). w / 2 ^ n % 2 == 1) (seam h.prefix first.0 (words_read_out part given) k.word (out / 32) place all) shift

-- ---- a bit more is out

pub bit_out : (part : PartData) (k : QueueState) (d : DeviceState) (given held : List ℕ) (out : ℕ) → QueueHolds part k d (queue_of given held out) → 0 < k.bits_left → QueueHolds part (record k { bits_left = k.bits_left - 1 }) d (queue_of given held (out + 1))
bit_out part k d given held out h l = record {
  bytes = h.bytes;
  took = h.took;
  device = h.device;
  held_is = h.held_is;
  held_fits = h.held_fits;
  out_is = omega (arith, h.out_is, l);
  bits_left_is = omega (arith, h.bits_left_is);
  prefix = h.prefix;
  word_is = λ m. h.word_is l;
}

-- ---- a byte is held

pub held_more : (part : PartData) (k n : QueueState) (d : DeviceState) (given held : List ℕ) (out x : ℕ) → x < 256 → n ≡ record k { held = k.held ++ x ∷ [] } → QueueStandsFor part k d (queue_of given held out) → QueueStandsFor part n d (queue_of given (held ++ x ∷ []) out)
held_more part k n d given held out x f e s =
    let h : QueueHolds part k d (queue_of given held out) = s.holds in
    let P : QueueState → Type 0 = λ q. QueueStandsFor part q d (queue_of given (held ++ x ∷ []) out) in
    subst P (sym e) (record {
      holds = record {
        bytes = h.bytes;
        took = h.took;
        device = h.device;
        held_is = ap (λ t. t ++ x ∷ []) h.held_is;
        held_fits = all_append (λ b. b < 256) held (x ∷ []) h.held_fits (f, tt);
        out_is = h.out_is;
        bits_left_is = h.bits_left_is;
        prefix = h.prefix;
        word_is = h.word_is;
      };
      no_word_due = s.no_word_due;
    })

-- the held bytes stand apart
pub held_apart : (part : PartData) (k n : QueueState) (d : DeviceState) (given held : List ℕ) (out : ℕ) → n ≡ record k { held = [] } → QueueStandsFor part k d (queue_of given held out) → QueueStandsFor part n d (queue_of given [] out)
held_apart part k n d given held out e s =
    let h : QueueHolds part k d (queue_of given held out) = s.holds in
    let P : QueueState → Type 0 = λ q. QueueStandsFor part q d (queue_of given [] out) in
    subst P (sym e) (record {
      holds = record {
        bytes = h.bytes;
        took = h.took;
        device = h.device;
        held_is = refl;
        held_fits = tt;
        out_is = h.out_is;
        bits_left_is = h.bits_left_is;
        prefix = h.prefix;
        word_is = h.word_is;
      };
      no_word_due = s.no_word_due;
    })

-- ---- a byte in its turn

turn_by : (part : PartData) (k : QueueState) (d : DeviceState) (q : Queue) (x : ℕ) (b : Bool) → waits (words_read_out part) q.given q.out ≡ b
    → QueueStandsFor part k d (if b then record { given = q.given; held = q.held ++ x ∷ []; out = q.out } else record { given = q.given ++ x ∷ []; held = q.held; out = q.out })
    → QueueStandsFor part k d (in_turn (words_read_out part) q x)
turn_by part k d q x b e s =
    subst (λ (c : Bool). QueueStandsFor part k d (if c then record { given = q.given; held = q.held ++ x ∷ []; out = q.out } else record { given = q.given ++ x ∷ []; held = q.held; out = q.out })) (sym e) s

pub turn_held : (part : PartData) (k n : QueueState) (d : DeviceState) (q : Queue) (x : ℕ) → x < 256 → 0 < k.bits_left → n ≡ record k { held = k.held ++ x ∷ [] } → QueueStandsFor part k d q → QueueStandsFor part n d (in_turn (words_read_out part) q x)
turn_held part k n d q x f l e s = turn_by part n d q x true (one_waits part k d q.given q.held q.out s.holds l) (held_more part k n d q.given q.held q.out x f e s)

pub turn_given : (part : PartData) (k n : QueueState) (d e : DeviceState) (q : Queue) (x : ℕ) → k.bits_left ≡ 0 → QueueStandsFor part k d q → QueueStandsFor part n e (queue_of (q.given ++ x ∷ []) q.held q.out) → QueueStandsFor part n e (in_turn (words_read_out part) q x)
turn_given part k n d e q x z s t = turn_by part n e q x false (none_waits part k d q.given q.held q.out s z) t

-- ---- what the device was fed

fed_by : (part : PartData) (k n : QueueState) (d e : DeviceState) (given held piece more : List ℕ) (out : ℕ) (read : ReadBufState) (f : Fed) → (h : QueueHolds part k d (queue_of given held out)) → k.bits_left ≡ 0 → AreBytes piece → length piece ≤ 1
    → (0 < length piece → NoWordDue d) → taken_in (length piece) f ≤ length piece
    → DeviceStandsFor part on_the_bench false e (h.bytes ++ take (taken_in (length piece) f) piece)
    → AnswersAt (past_of part on_the_bench false (h.bytes ++ take (taken_in (length piece) f) piece)) e read f
    → reads_taken part e (h.bytes ++ take (taken_in (length piece) f) piece) ≡ reads_taken part d h.bytes ++ more
    → (IsSome (first_stop_of_bytes part on_the_bench h.bytes) → taken_in (length piece) f ≡ 0)
    → read ≡ record { most = Some 1; words = more } → length more ≤ 1 → n ≡ with_word_taken k more → QueueStandsFor part n e (queue_of (given ++ piece) held out)
fed_by part k n d e given held piece [] out read f h z fits few none w stands a grown stopped is l with =
    let P : QueueState → Type 0 = λ q. QueueStandsFor part q e (queue_of (given ++ piece) held out) in
    let empty_read : IsFull read → ⊥ = λ u. absurd (let v : 0 ≡ 1 = subst IsFull is u in omega (arith, v)) in
    let new : List ℕ = h.bytes ++ take (taken_in (length piece) f) piece in
    subst P (sym with) (record {
      holds = record {
        bytes = new;
        took = took_more part given h.bytes piece (taken_in (length piece) f) fits h.took stopped (goes_on part d e h.bytes piece [] read f a w few none (λ u. absurd (empty_read u)) grown);
        device = stands;
        held_is = h.held_is;
        held_fits = h.held_fits;
        out_is = omega (arith, h.out_is, z, ap length grown, length-append (reads_taken part d h.bytes) []);
        bits_left_is = h.bits_left_is;
        prefix = [];
        word_is = λ m. absurd (omega (arith, m, z));
      };
      no_word_due = λ m. none_given part e h.bytes piece read f a empty_read;
    })
fed_by part k n d e given held piece (v ∷ []) out read f h z fits few none w stands a grown stopped is l with =
    let P : QueueState → Type 0 = λ q. QueueStandsFor part q e (queue_of (given ++ piece) held out) in
    let new : List ℕ = h.bytes ++ take (taken_in (length piece) f) piece in
    subst P (sym with) (record {
      holds = record {
        bytes = new;
        took = took_more part given h.bytes piece (taken_in (length piece) f) fits h.took stopped (goes_on part d e h.bytes piece (v ∷ []) read f a w few none (λ u. refl) grown);
        device = stands;
        held_is = h.held_is;
        held_fits = h.held_fits;
        out_is = omega (arith, h.out_is, z, ap length grown, length-append (reads_taken part d h.bytes) (v ∷ []));
        bits_left_is = omega arith;
        prefix = reads_taken part d h.bytes;
        word_is = λ m. grown;
      };
      no_word_due = λ m. absurd (omega (arith, m));
    })
fed_by part k n d e given held piece (v ∷ u ∷ us) out read f h z fits few none w stands a grown stopped is l with = absurd (omega (arith, l))

-- a feed of at most one byte, where the buffer had no word before
pub fed : (part : PartData) (k n : QueueState) (d e : DeviceState) (given held piece words : List ℕ) (out : ℕ) (old read : ReadBufState) (f : Fed) → (h : QueueHolds part k d (queue_of given held out)) → k.bits_left ≡ 0 → AreBytes piece → length piece ≤ 1
    → (0 < length piece → NoWordDue d) → taken_in (length piece) f ≤ length piece
    → DeviceStandsFor part on_the_bench false e (h.bytes ++ take (taken_in (length piece) f) piece)
    → AnswersAt (past_of part on_the_bench false (h.bytes ++ take (taken_in (length piece) f) piece)) e read f
    → ((more : List ℕ) × (read ≡ read_with old more) × (reads_taken part e (h.bytes ++ take (taken_in (length piece) f) piece) ≡ reads_taken part d h.bytes ++ more))
    → (IsSome (first_stop_of_bytes part on_the_bench h.bytes) → taken_in (length piece) f ≡ 0)
    → old ≡ record { most = Some 1; words = [] } → words ≡ read.words → HoldsWithinMost read.most words → n ≡ with_word_taken k words → QueueStandsFor part n e (queue_of (given ++ piece) held out)
fed part k n d e given held piece words out old read f h z fits few none w stands a reads stopped is there holds with =
    let more : List ℕ = reads.0 in
    let all : read ≡ record { most = Some 1; words = more } = reads.1 ∙ ap (λ (b : ReadBufState). read_with b more) is in
    let same : words ≡ more = there ∙ ap (λ (b : ReadBufState). b.words) all in
    let count : length words ≤ 1 = subst (λ (m : Option ℕ). HoldsWithinMost m words) (ap (λ (b : ReadBufState). b.most) all) holds in
    fed_by part k n d e given held piece more out read f h z fits few none w stands a reads.2 stopped all (omega (arith, count, ap length same)) (with ∙ ap (with_word_taken k) same)

-- ---- all that is held is given, and what is read of it dropped

pub all_dropped : (part : PartData) (k n : QueueState) (d e : DeviceState) (given held piece : List ℕ) (out : ℕ) (old read : ReadBufState) (f : Fed) → (s : QueueStandsFor part k d (queue_of given held out)) → piece ≡ k.held
    → DeviceStandsFor part on_the_bench false e (s.holds.bytes ++ take (taken_in (length piece) f) piece)
    → AnswersAt (past_of part on_the_bench false (s.holds.bytes ++ take (taken_in (length piece) f) piece)) e read f
    → ((more : List ℕ) × (read ≡ read_with old more) × (reads_taken part e (s.holds.bytes ++ take (taken_in (length piece) f) piece) ≡ reads_taken part d s.holds.bytes ++ more))
    → (IsSome (first_stop_of_bytes part on_the_bench s.holds.bytes) → taken_in (length piece) f ≡ 0)
    → old ≡ record { most = None; words = [] } → n ≡ record { held = []; word = k.word; bits_left = 0 } → QueueStandsFor part n e (queue_of (given ++ held) [] (bits_read (words_read_out part) (given ++ held)))
all_dropped part k n d e given held piece out old read f s there stands a reads stopped is with =
    let h : QueueHolds part k d (queue_of given held out) = s.holds in
    let all : piece ≡ held = there ∙ h.held_is in
    let none : read.most ≡ None = ap (λ (b : ReadBufState). b.most) (reads.1 ∙ ap (λ (b : ReadBufState). read_with b reads.0) is) in
    let full : IsFull read → ⊥ = λ u. subst (λ (m : Option ℕ). IsFullBy m (length read.words)) none u in
    let new : List ℕ = h.bytes ++ take (taken_in (length piece) f) piece in
    let took : TookOfGiven part (given ++ piece) new =
    took_more part given h.bytes piece (taken_in (length piece) f) (subst AreBytes (sym all) h.held_fits) h.took stopped (goes_on_dropping part e h.bytes piece read f a full) in
    let due : NoWordDue e = none_given part e h.bytes piece read f a full in
    let took_held : TookOfGiven part (given ++ held) new = subst (λ p. TookOfGiven part (given ++ p) new) all took in
    let whole : length (words_read_out part (given ++ held)) ≡ length (reads_taken part e new) = ap length (reads_took part (given ++ held) new took_held) ∙ ap length (sym (taken_all part e new due)) in
    let P : QueueState → Type 0 = λ q. QueueStandsFor part q e (queue_of (given ++ held) [] (bits_read (words_read_out part) (given ++ held))) in
    subst P (sym with) (record {
      holds = record {
        bytes = new;
        took = took_held;
        device = stands;
        held_is = refl;
        held_fits = tt;
        out_is = omega (arith, whole);
        bits_left_is = omega arith;
        prefix = [];
        word_is = λ m. absurd (omega (arith, m));
      };
      no_word_due = λ m. due;
    })

-- ---- a bit that is shifted out

shown_by : (reads : List ℕ → List ℕ) (q : Queue) (b : Bool) → waits reads q.given q.out ≡ b → bit_shown reads q ≡ (if b then word_bit (reads q.given) q.out else false)
shown_by reads q b e = ap (λ (c : Bool). if c then word_bit (reads q.given) q.out else false) e

pub shows_none : (part : PartData) (k : QueueState) (d : DeviceState) (q : Queue) → QueueStandsFor part k d q → k.bits_left ≡ 0 → false ≡ bit_shown (words_read_out part) q
shows_none part k d q s z = sym (shown_by (words_read_out part) q false (none_waits part k d q.given q.held q.out s z))

pub shows_bit : (part : PartData) (k : QueueState) (d : DeviceState) (q : Queue) (b : Bool) → QueueStandsFor part k d q → 0 < k.bits_left → b ≡ (k.word / 2 ^ (k.bits_left - 1) % 2 == 1) → b ≡ bit_shown (words_read_out part) q
shows_bit part k d q b s l e = e ∙ sym (bit_is part k d q.given q.held q.out s.holds l) ∙ sym (shown_by (words_read_out part) q true (one_waits part k d q.given q.held q.out s.holds l))

pub shifts_none : (part : PartData) (k : QueueState) (d : DeviceState) (q : Queue) → QueueStandsFor part k d q → k.bits_left ≡ 0 → QueueStandsFor part k d (shifted_out (words_read_out part) q)
shifts_none part k d q s z =
    subst (λ (b : Bool). QueueStandsFor part k d (if b then give_held (words_read_out part) (record q { out = q.out + 1 }) else q)) (sym (none_waits part k d q.given q.held q.out s z)) s

shifts : (part : PartData) (k n : QueueState) (d e : DeviceState) (q : Queue) → QueueStandsFor part k d q → 0 < k.bits_left → QueueStandsFor part n e (give_held (words_read_out part) (record q { out = q.out + 1 })) → QueueStandsFor part n e (shifted_out (words_read_out part) q)
shifts part k n d e q s l t =
    subst (λ (b : Bool). QueueStandsFor part n e (if b then give_held (words_read_out part) (record q { out = q.out + 1 }) else q)) (sym (one_waits part k d q.given q.held q.out s.holds l)) t

pub shifts_last : (part : PartData) (k m n : QueueState) (d e : DeviceState) (q : Queue) → QueueStandsFor part k d q → 0 < k.bits_left → m ≡ record k { bits_left = k.bits_left - 1 }
    → (QueueHolds part m d (queue_of q.given q.held (q.out + 1)) → QueueStandsFor part n e (give_held (words_read_out part) (record q { out = q.out + 1 }))) → QueueStandsFor part n e (shifted_out (words_read_out part) q)
shifts_last part k m n d e q s l with next =
    let P : QueueState → Type 0 = λ t. QueueHolds part t d (queue_of q.given q.held (q.out + 1)) in
    shifts part k n d e q s l (next (subst P (sym with) (bit_out part k d q.given q.held q.out s.holds l)))

pub shifts_inside : (part : PartData) (k n : QueueState) (d : DeviceState) (q : Queue) → QueueStandsFor part k d q → 0 < n.bits_left → n ≡ record k { bits_left = k.bits_left - 1 } → QueueStandsFor part n d (shifted_out (words_read_out part) q)
shifts_inside part k n d q s l with =
    let P : QueueState → Type 0 = λ t. QueueHolds part t d (queue_of q.given q.held (q.out + 1)) in
    let some : 0 < k.bits_left = omega (arith, l, ap (λ (t : QueueState). t.bits_left) with) in
    let h : QueueHolds part n d (queue_of q.given q.held (q.out + 1)) = subst P (sym with) (bit_out part k d q.given q.held q.out s.holds some) in
    let t : QueueStandsFor part n d (queue_of q.given q.held (q.out + 1)) = record { holds = h; no_word_due = λ z. absurd (omega (arith, z, l)) } in
    shifts part k n d d q s some (subst (QueueStandsFor part n d) (sym (turns_wait (words_read_out part) q.given [] q.held (q.out + 1) (one_waits part n d q.given q.held (q.out + 1) h l))) t)

-- ---- room for a byte

room_by : (part : PartData) (n : QueueState) (e : DeviceState) (q : Queue) (b : Bool) → (waits (words_read_out part) q.given q.out && length q.held == most_bytes_held) ≡ b
    → QueueStandsFor part n e (if b then dropped (words_read_out part) q else q) → QueueStandsFor part n e (queue_with_room (words_read_out part) q)
room_by part n e q b is s = subst (λ (c : Bool). QueueStandsFor part n e (if c then dropped (words_read_out part) q else q)) (sym is) s

overflow_is : (part : PartData) (k : QueueState) (d : DeviceState) (q : Queue) (b : Bool) → QueueStandsFor part k d q → b ≡ (nat_lt 0 k.bits_left && length k.held == 64) → (waits (words_read_out part) q.given q.out && length q.held == most_bytes_held) ≡ b
overflow_is part k d q b s e = by k.bits_left refl
  where
    count : length k.held ≡ length q.held
    count = ap length s.holds.held_is

    by : (left : ℕ) → k.bits_left ≡ left → (waits (words_read_out part) q.given q.out && length q.held == most_bytes_held) ≡ b
    by zero z = let w : waits (words_read_out part) q.given q.out ≡ false = none_waits part k d q.given q.held q.out s z in grind (arith, w, e, z, count)
    by (suc m) z =
        let l : 0 < k.bits_left = omega (arith, z) in
        let w : waits (words_read_out part) q.given q.out ≡ true = one_waits part k d q.given q.held q.out s.holds l in
        grind (arith, w, e, l, count)

pub room_made : (part : PartData) (k n : QueueState) (d e : DeviceState) (q : Queue) (b : Bool) → QueueStandsFor part k d q → b ≡ (nat_lt 0 k.bits_left && length k.held == 64) → b ≡ true
    → QueueStandsFor part n e (queue_of (q.given ++ q.held) [] (bits_read (words_read_out part) (q.given ++ q.held))) → QueueStandsFor part n e (queue_with_room (words_read_out part) q)
room_made part k n d e q b s is t new = room_by part n e q true (overflow_is part k d q b s is ∙ t) new

pub room_there : (part : PartData) (k : QueueState) (d : DeviceState) (q : Queue) (b : Bool) → QueueStandsFor part k d q → b ≡ (nat_lt 0 k.bits_left && length k.held == 64) → b ≡ false → QueueStandsFor part k d (queue_with_room (words_read_out part) q)
room_there part k d q b s is f = room_by part k d q false (overflow_is part k d q b s is ∙ f) s

-- ---- a reset

reads_none : (part : PartData) → reads_of part on_the_bench [] ≡ []
reads_none part = refl

pub resets : (part : PartData) (n : QueueState) (d e : DeviceState) (part_was : PartData) → DeviceStandsFor part_was on_the_bench false e [] → part_was ≡ part → n.held ≡ [] → n.bits_left ≡ 0 → QueueStandsFor part n e empty_queue
resets part n d e part_was s p h z =
    let t : DeviceStandsFor part on_the_bench false e [] = subst (λ (q : PartData). DeviceStandsFor q on_the_bench false e []) p s in
    let due : due_count e.registers.values.due ≡ 0 = omega (arith, sym (length_left part (history_taken part on_the_bench []) e.registers.values.due), ap length t.due_are.all, length-append t.due_are.given (words_still_due part (history_taken part on_the_bench []) e.registers.values.due), ap length (reads_none part)) in
    record {
      holds = record {
        bytes = [];
        took = record { fits = tt; rest = []; parts = refl; over = inl refl };
        device = t;
        held_is = h;
        held_fits = tt;
        out_is = omega (arith, z, ap length (taken_all part e [] due), ap length (reads_none part));
        bits_left_is = omega (arith, z);
        prefix = [];
        word_is = λ m. absurd (omega (arith, m, z));
      };
      no_word_due = λ m. due;
    }

-- ---- bytes in their turns

first_of : (xs : List ℕ) → 0 < length xs → xs ≡ slice_index xs 0 ∷ drop 1 xs
first_of [] l = absurd (omega (arith, l))
first_of (x ∷ xs) l = refl

pub rest_of : (xs : List ℕ) → take (length xs - 1) (drop 1 xs) ≡ drop 1 xs
rest_of xs = take_all (length xs - 1) (drop 1 xs) (omega (arith, length-drop 1 xs))

pub room_more : (rest : List ℕ) (new old most : ℕ) → 0 < length rest → new ≤ old + 1 → old + length rest ≤ most → new + length (take (length rest - 1) (drop 1 rest)) ≤ most
room_more rest new old most some l m = omega (arith, some, l, m, ap length (rest_of rest), length-drop 1 rest)

pub turn_more : (part : PartData) (k l n : QueueState) (c d e : DeviceState) (all rest : List ℕ) → 0 < length rest
    → ((m : Queue) → QueueStandsFor part k c m → (p : Queue) × QueueStandsFor part l d p × (fold (in_turn (words_read_out part)) m all ≡ fold (in_turn (words_read_out part)) p rest))
    → ((m : Queue) → QueueStandsFor part l d m → QueueStandsFor part n e (in_turn (words_read_out part) m (slice_index rest 0)))
    → (m : Queue) → QueueStandsFor part k c m → (p : Queue) × QueueStandsFor part n e p × (fold (in_turn (words_read_out part)) m all ≡ fold (in_turn (words_read_out part)) p (take (length rest - 1) (drop 1 rest)))
turn_more part k l n c d e all rest some before step m s =
    let b = before m s in
    (in_turn (words_read_out part) b.0 (slice_index rest 0), step b.0 b.1, b.2 ∙ ap (fold (in_turn (words_read_out part)) b.0) (first_of rest some) ∙ ap (fold (in_turn (words_read_out part)) (in_turn (words_read_out part) b.0 (slice_index rest 0))) (sym (rest_of rest)))

pub turns_end : (part : PartData) (k l n : QueueState) (d e : DeviceState) (given held all rest : List ℕ) (out : ℕ) → QueueStandsFor part k d (queue_of given held out) → l ≡ record k { held = [] } → all ≡ k.held → length rest ≡ 0
    → ((m : Queue) → QueueStandsFor part l d m → (p : Queue) × QueueStandsFor part n e p × (fold (in_turn (words_read_out part)) m all ≡ fold (in_turn (words_read_out part)) p rest))
    → QueueStandsFor part n e (give_held (words_read_out part) (queue_of given held out))
turns_end part k l n d e given held all rest out s apart whole none turns =
    let first : Queue = record { given = given; held = []; out = out } in
    let b = turns first (held_apart part k l d given held out apart s) in
    let end : b.0 ≡ give_held (words_read_out part) (queue_of given held out) =
    sym (ap (fold (in_turn (words_read_out part)) b.0) (nil_from_length rest none)) ∙ sym b.2 ∙ ap (fold (in_turn (words_read_out part)) first) (whole ∙ s.holds.held_is) in
    subst (QueueStandsFor part n e) end b.1
