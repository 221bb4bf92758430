-- Lemmas on bytes that are offered while no word waits: the device takes them at once, up to the one with which a word
-- is read out.
use Rattle.std.proofs.Common.{◌≡◌, ◌⊎◌, inl, inr, ℕ, zero, suc, ◌+◌, ◌-◌, ◌*◌, ◌<◌, ◌≤◌, ◌==◌, ◌&&◌, Bool, false, if◌then◌else◌, List, [], ◌∷◌, ◌++◌, length, take, drop, slice_index, refl, ap, sym, subst, ◌∙◌, append_assoc, append-nil, length-append, length-drop, arith}
use Rattle.std.proofs.lemmas.List.{length-take-le, nil_from_length, take_all, take-append-drop, take-take}
use Rattle.std.specs.Option.{IsSome, is_some}
use Rattle.std.specs.List.{fold}
use Rattle.x7_words.specs.Word.{AreBytes}
use Rattle.x7_words.proofs.ListLemmas.{all_prefix}
use Rattle.x7_part.specs.Part.{PartData}
use Rattle.x7_engine.specs.declared.fed.Fed.{Fed}
use Rattle.x7_engine.specs.declared.fed.Fed.TheVariants as fed
use Rattle.x7_engine.specs.Kept.{on_the_bench}
use Rattle.x7_engine.specs.Past.{AnswersAt, past_of}
use Rattle.x7_engine.specs.ReadBuffer.{HoldsWithinMost, ReadBufState, no_room, with_words}
use Rattle.x7_engine.specs.Standing.{DeviceStandsFor, DeviceState, NoWordDue, taken_in}
use Rattle.x7_engine.specs.State.{reads_of, first_stop_of_bytes}
use Rattle.x7_engine.specs.UntilRead.{RoomBefore}
use Rattle.x7_engine.proofs.ReadsLemmas.{reads_grow}
use Rattle.x7_jtag.specs.Port.{words_read_out}
use Rattle.x7_jtag.specs.Queue.{Queue, dropped, in_turn, most_bytes_held, offered, waits, queue_with_room, queue_of}
use Rattle.x7_jtag.specs.Tap.{QueueHolds, QueueStandsFor, QueueState, TookOfGiven, given_by, reads_taken}
use Rattle.x7_jtag.proofs.TookLemmas.{reads_took, taken_all, took_more}

-- ---- bytes offered while no word waits

offered_given : (reads : List ℕ → List ℕ) (given held : List ℕ) (out x : ℕ) → waits reads given out ≡ false
    → offered reads (record { given = given; held = held; out = out }) x ≡ record { given = given ++ x ∷ []; held = held; out = out }
offered_given reads given held out x e =
    let q : Queue = record { given = given; held = held; out = out } in
    let there : queue_with_room reads q ≡ q = ap (λ (b : Bool). if b && length held == most_bytes_held then dropped reads q else q) e in
    ap (λ (r : Queue). in_turn reads r x) there ∙ ap (λ (b : Bool). if b then record { given = given; held = held ++ x ∷ []; out = out } else record { given = given ++ x ∷ []; held = held; out = out }) e

fold_given : (reads : List ℕ → List ℕ) (given held xs : List ℕ) (out : ℕ) → ((k : ℕ) → k < length xs → waits reads (given ++ take k xs) out ≡ false)
    → fold (offered reads) (record { given = given; held = held; out = out }) xs ≡ record { given = given ++ xs; held = held; out = out }
fold_given reads given held [] out f = ap (λ (g : List ℕ). record { given = g; held = held; out = out }) (sym (append-nil given))
fold_given reads given held (x ∷ xs) out f =
    let now : waits reads given out ≡ false = ap (λ (g : List ℕ). waits reads g out) (sym (append-nil given)) ∙ f 0 (omega arith) in
    ap (λ (q : Queue). fold (offered reads) q xs) (offered_given reads given held out x now)
    ∙ fold_given reads (given ++ x ∷ []) held xs out (λ k l. ap (λ (g : List ℕ). waits reads g out) (append_assoc given (x ∷ []) (take k xs)) ∙ f (suc k) (omega (arith, l)))
    ∙ ap (λ (g : List ℕ). record { given = g; held = held; out = out }) (append_assoc given (x ∷ []) xs)

fold_stands : (part : PartData) (n : QueueState) (e : DeviceState) (q : Queue) (xs : List ℕ) → ((k : ℕ) → k < length xs → waits (words_read_out part) (q.given ++ take k xs) q.out ≡ false) → QueueStandsFor part n e (queue_of (q.given ++ xs) q.held q.out)
    → QueueStandsFor part n e (fold (offered (words_read_out part)) q xs)
fold_stands part n e q xs f s = subst (QueueStandsFor part n e) (sym (fold_given (words_read_out part) q.given q.held xs q.out f)) s

none_waits_by : (reads : List ℕ → List ℕ) (given : List ℕ) (out count : ℕ) → length (reads given) ≤ count → out ≡ 32 * count → waits reads given out ≡ false
none_waits_by reads given out count l e = grind (arith, l, e)

-- ---- what the device took of a piece

prefix_bytes : (n : ℕ) (xs : List ℕ) → AreBytes xs → AreBytes (take n xs)
prefix_bytes n xs f = all_prefix (λ b. b < 256) (take n xs) (drop n xs) (subst AreBytes (sym (take-append-drop n xs)) f)

-- where all is given
module _ (part : PartData) (given bytes piece : List ℕ) (t : ℕ) where
  took_piece : (count : ℕ) → AreBytes piece → t ≤ count → count ≤ length piece → TookOfGiven part given bytes → (IsSome (first_stop_of_bytes part on_the_bench bytes) → t ≡ 0) → IsSome (first_stop_of_bytes part on_the_bench (bytes ++ take t piece)) ⊎ (t ≡ count)
      → TookOfGiven part (given ++ take count piece) (bytes ++ take t piece)
  took_piece count f l m took z over =
      let prefix : List ℕ = take count piece in
      let same : take t prefix ≡ take t piece = take-take t count piece l in
      let long : length prefix ≡ count = length-take-le count piece m in
      let ends : IsSome (first_stop_of_bytes part on_the_bench (bytes ++ take t prefix)) ⊎ (t ≡ length prefix) = elim over [
        | inl s ↦ inl (subst (λ (x : List ℕ). IsSome (first_stop_of_bytes part on_the_bench (bytes ++ x))) (sym same) s)
        | inr e ↦ inr (e ∙ sym long)
      ] in
      subst (λ (x : List ℕ). TookOfGiven part (given ++ prefix) (bytes ++ x)) same (took_more part given bytes prefix t (prefix_bytes count piece f) took z ends)

  holds_piece : (k : QueueState) (d e : DeviceState) (held : List ℕ) (out count : ℕ) → (h : QueueHolds part k d (queue_of given held out)) → h.bytes ≡ bytes → k.bits_left ≡ 0 → TookOfGiven part (given ++ take count piece) (bytes ++ take t piece)
      → DeviceStandsFor part on_the_bench false e (bytes ++ take t piece) → reads_taken part e (bytes ++ take t piece) ≡ reads_taken part d bytes → QueueHolds part k e (queue_of (given ++ take count piece) held out)
  holds_piece k d e held out count h is z took stands same = record {
    bytes = bytes ++ take t piece;
    took = took;
    device = stands;
    held_is = h.held_is;
    held_fits = h.held_fits;
    out_is = omega (arith, h.out_is, ap length same, ap (λ (b : List ℕ). length (reads_taken part d b)) is);
    bits_left_is = h.bits_left_is;
    prefix = [];
    word_is = λ m. absurd (omega (arith, m, z));
  }

-- where no word is due after a piece, none is read out of it
quiet_whole : (part : PartData) (e : DeviceState) (given bytes piece : List ℕ) (words : List ℕ) → TookOfGiven part (given ++ piece) bytes → NoWordDue e → reads_taken part e bytes ≡ words
    → (k : ℕ) → length (words_read_out part (given ++ take k piece)) ≤ length words
quiet_whole part e given bytes piece words took due is k =
    let joined : (given ++ take k piece) ++ drop k piece ≡ given ++ piece = append_assoc given (take k piece) (drop k piece) ∙ ap (λ (x : List ℕ). given ++ x) (take-append-drop k piece) in
    let all : reads_of part on_the_bench (given ++ piece) ≡ words = reads_took part (given ++ piece) bytes took ∙ sym (taken_all part e bytes due) ∙ is in
    let grown : (rest : List ℕ) × (reads_of part on_the_bench ((given ++ take k piece) ++ drop k piece) ≡ reads_of part on_the_bench (given ++ take k piece) ++ rest) =
    reads_grow part on_the_bench (given ++ take k piece) (drop k piece) (subst AreBytes (sym joined) took.fits) in
    omega (arith, ap length grown.1, length-append (reads_of part on_the_bench (given ++ take k piece)) grown.0, ap (λ (b : List ℕ). length (reads_of part on_the_bench b)) joined, ap length all)

-- where a word is due after a piece, none is read out before the piece's last byte that was taken
quiet_before : (part : PartData) (given bytes piece words : List ℕ) (n : ℕ) → n ≤ length piece → given ≡ bytes
    → RoomBefore (record { part = part; kept = on_the_bench; wrapped = false; bytes = bytes }) piece n words no_room → (k : ℕ) → k < n
    → length (words_read_out part (given ++ take k (take n piece))) ≤ length words
quiet_before part given bytes piece words n m is before k l =
    let same : given ++ take k (take n piece) ≡ bytes ++ take k piece = ap (λ (x : List ℕ). given ++ x) (take-take k n piece (omega (arith, l))) ∙ ap (λ (g : List ℕ). g ++ take k piece) is in
    let r = before k l in
    let none : 0 + length r.0 ≤ 0 = r.2 in
    omega (arith, ap (λ (b : List ℕ). length (reads_of part on_the_bench b)) same, ap length r.1, length-append words r.0, none)

-- a device that took a byte had no stop, so all that was given was taken
given_is : (part : PartData) (given bytes : List ℕ) (n : ℕ) → (t : TookOfGiven part given bytes) → (IsSome (first_stop_of_bytes part on_the_bench bytes) → n ≡ 0) → 0 < n → given ≡ bytes
given_is part given bytes n t z l = by t.over
  where
    by : (t.rest ≡ []) ⊎ IsSome (first_stop_of_bytes part on_the_bench bytes) → given ≡ bytes
    by (inl e) = t.parts ∙ ap (λ r. bytes ++ r) e ∙ append-nil bytes
    by (inr s) = absurd (omega (arith, z s, l))

-- ---- by what the feed answers

-- what is to be shown of a piece of which this many bytes are given
record Given (part : PartData) (k : QueueState) (d e : DeviceState) (q : Queue) (piece : List ℕ) (count : ℕ) : Type 0 where
  pub holds : QueueHolds part k e (queue_of (q.given ++ take count piece) q.held q.out)
  pub quiet : (i : ℕ) → i < length (take count piece) → waits (words_read_out part) (q.given ++ take i (take count piece)) q.out ≡ false

module _ (part : PartData) (k : QueueState) (d e : DeviceState) (q : Queue) (piece : List ℕ) where
  given_whole : (t : ℕ) → (s : QueueStandsFor part k d q) → k.bits_left ≡ 0 → AreBytes piece → t ≤ length piece → DeviceStandsFor part on_the_bench false e (s.holds.bytes ++ take t piece)
      → NoWordDue e → IsSome (first_stop_of_bytes part on_the_bench (s.holds.bytes ++ take t piece)) ⊎ (t ≡ length piece)
      → reads_taken part e (s.holds.bytes ++ take t piece) ≡ reads_taken part d s.holds.bytes → (IsSome (first_stop_of_bytes part on_the_bench s.holds.bytes) → t ≡ 0) → Given part k d e q piece (length piece)
  given_whole t s z f l stands due over same stopped =
      let h : QueueHolds part k d q = s.holds in
      let took : TookOfGiven part (q.given ++ take (length piece) piece) (h.bytes ++ take t piece) = took_piece part q.given h.bytes piece t (length piece) f l (omega arith) h.took stopped over in
      record {
        holds = holds_piece part q.given h.bytes piece t k d e q.held q.out (length piece) h refl z took stands same;
        quiet = λ i m. none_waits_by (words_read_out part) (q.given ++ take i (take (length piece) piece)) q.out (length (reads_taken part d h.bytes))
            (quiet_whole part e q.given (h.bytes ++ take t piece) (take (length piece) piece) (reads_taken part d h.bytes) took due same i) (omega (arith, h.out_is, z));
      }

  given_prefix : (n : ℕ) → (s : QueueStandsFor part k d q) → k.bits_left ≡ 0 → AreBytes piece → n ≤ length piece → DeviceStandsFor part on_the_bench false e (s.holds.bytes ++ take n piece)
      → reads_taken part e (s.holds.bytes ++ take n piece) ≡ reads_taken part d s.holds.bytes → (IsSome (first_stop_of_bytes part on_the_bench s.holds.bytes) → n ≡ 0)
      → RoomBefore (record { part = part; kept = on_the_bench; wrapped = false; bytes = s.holds.bytes }) piece n (reads_taken part d s.holds.bytes) no_room → Given part k d e q piece n
  given_prefix n s z f l stands same stopped before =
      let h : QueueHolds part k d q = s.holds in
      let took : TookOfGiven part (q.given ++ take n piece) (h.bytes ++ take n piece) = took_piece part q.given h.bytes piece n n f (omega arith) l h.took stopped (inr refl) in
      let long : length (take n piece) ≡ n = length-take-le n piece l in
      record {
        holds = holds_piece part q.given h.bytes piece n k d e q.held q.out n h refl z took stands same;
        quiet = λ i m.
            let inside : i < n = omega (arith, m, long) in
            none_waits_by (words_read_out part) (q.given ++ take i (take n piece)) q.out (length (reads_taken part d h.bytes))
            (quiet_before part q.given h.bytes piece (reads_taken part d h.bytes) n l (given_is part q.given h.bytes n h.took stopped (omega (arith, inside))) before i inside) (omega (arith, h.out_is, z));
      }

  given_by_is : (f : Fed) (read : ReadBufState) → (s : QueueStandsFor part k d q) → k.bits_left ≡ 0 → AreBytes piece → taken_in (length piece) f ≤ length piece
      → DeviceStandsFor part on_the_bench false e (s.holds.bytes ++ take (taken_in (length piece) f) piece)
      → AnswersAt (past_of part on_the_bench false (s.holds.bytes ++ take (taken_in (length piece) f) piece)) e read f
      → reads_taken part e (s.holds.bytes ++ take (taken_in (length piece) f) piece) ≡ reads_taken part d s.holds.bytes
      → RoomBefore (record { part = part; kept = on_the_bench; wrapped = false; bytes = s.holds.bytes }) piece (taken_in (length piece) f) (reads_taken part d s.holds.bytes) no_room
      → (IsSome (first_stop_of_bytes part on_the_bench s.holds.bytes) → taken_in (length piece) f ≡ 0) → Given part k d e q piece (given_by f (length piece))
  given_by_is fed.All read s z b l stands a same before stopped = given_whole (length piece) s z b l stands a.1 (inr refl) same stopped
  given_by_is (fed.Stopped n) read s z b l stands a same before stopped = given_whole n s z b l stands a.2 (inl (ap is_some a.1)) same stopped
  given_by_is (fed.Iprog n) read s z b l stands a same before stopped = given_whole n s z b l stands a.1 (inl (ap is_some a.0)) same stopped
  given_by_is (fed.ReadFull n) read s z b l stands a same before stopped = given_prefix n s z b l stands same stopped before

-- a buffer without room gets no word
pub none_got : (words : List ℕ) (read : ReadBufState) → read ≡ with_words no_room words → HoldsWithinMost read.most read.words → words ≡ []
none_got [] read e f = refl
none_got (w ∷ words) read e f =
    let few : suc (length words) ≤ 0 = subst (λ (b : ReadBufState). HoldsWithinMost b.most b.words) e f in
    absurd (omega (arith, few))

-- a piece is given, and then the word that it reads out is taken
pub gives : (part : PartData) (k n : QueueState) (d e g : DeviceState) (q : Queue) (piece : List ℕ) (read : ReadBufState) (f : Fed) (count : ℕ) → (s : QueueStandsFor part k d q) → k.bits_left ≡ 0 → AreBytes piece → taken_in (length piece) f ≤ length piece
    → DeviceStandsFor part on_the_bench false e (s.holds.bytes ++ take (taken_in (length piece) f) piece)
    → AnswersAt (past_of part on_the_bench false (s.holds.bytes ++ take (taken_in (length piece) f) piece)) e read f
    → reads_taken part e (s.holds.bytes ++ take (taken_in (length piece) f) piece) ≡ reads_taken part d s.holds.bytes
    → RoomBefore (record { part = part; kept = on_the_bench; wrapped = false; bytes = s.holds.bytes }) piece (taken_in (length piece) f) (reads_taken part d s.holds.bytes) no_room
    → (IsSome (first_stop_of_bytes part on_the_bench s.holds.bytes) → (e ≡ d) × (taken_in (length piece) f ≡ 0)) → count ≡ given_by f (length piece)
    → ((given held : List ℕ) (out : ℕ) → QueueHolds part k e (queue_of given held out) → QueueStandsFor part n g (queue_of (given ++ []) held out))
    → QueueStandsFor part n g (fold (offered (words_read_out part)) q (take count piece))
gives part k n d e g q piece read f count s z b l stands a same before stopped is next =
    let m : ℕ = given_by f (length piece) in
    let given : Given part k d e q piece m = given_by_is part k d e q piece f read s z b l stands a same before (λ x. (stopped x).1) in
    let all : QueueStandsFor part n g (queue_of (q.given ++ take m piece) q.held q.out) = subst (λ (x : List ℕ). QueueStandsFor part n g (queue_of x q.held q.out)) (append-nil (q.given ++ take m piece)) (next (q.given ++ take m piece) q.held q.out given.holds) in
    subst (λ (c : ℕ). QueueStandsFor part n g (fold (offered (words_read_out part)) q (take c piece))) (sym is) (fold_stands part n g q (take m piece) given.quiet all)

-- no more bytes are given than the device took and the piece has
pub given_within : (f : Fed) (length : ℕ) → taken_in length f ≤ length → given_by f length ≤ length
given_within fed.All length l = omega arith
given_within (fed.Stopped n) length l = omega arith
given_within (fed.Iprog n) length l = omega arith
given_within (fed.ReadFull n) length l = l

pub offers_one : (part : PartData) (k n : QueueState) (d e : DeviceState) (q : Queue) (piece : List ℕ) (count : ℕ) → count ≡ 0 → 0 < length piece → QueueStandsFor part k d (fold (offered (words_read_out part)) q (take count piece))
    → ((m : Queue) → QueueStandsFor part k d m → QueueStandsFor part n e (offered (words_read_out part) m (slice_index piece 0))) → QueueStandsFor part n e (fold (offered (words_read_out part)) q (take 1 piece))
offers_one part k n d e q [] count z l s step = absurd (omega (arith, l))
offers_one part k n d e q (x ∷ xs) count z l s step = step q (subst (λ (c : ℕ). QueueStandsFor part k d (fold (offered (words_read_out part)) q (take c (x ∷ xs)))) z s)

-- ---- pieces one after another

first_part : (n : ℕ) (xs : List ℕ) (reads : List ℕ → List ℕ) (q : Queue) → fold (offered reads) q xs ≡ fold (offered reads) (fold (offered reads) q (take n xs)) (drop n xs)
first_part zero xs reads q = refl
first_part (suc n) [] reads q = refl
first_part (suc n) (x ∷ xs) reads q = first_part n xs reads (offered reads q x)

pub rest_after : (n : ℕ) (xs : List ℕ) → take (length xs - n) (drop n xs) ≡ drop n xs
rest_after n xs = take_all (length xs - n) (drop n xs) (omega (arith, length-drop n xs))

pub offers_more : (part : PartData) (k l n : QueueState) (c d e : DeviceState) (all rest : List ℕ) (count : ℕ) → count ≤ length rest
    → ((m : Queue) → QueueStandsFor part k c m → (p : Queue) × QueueStandsFor part l d p × (fold (offered (words_read_out part)) m all ≡ fold (offered (words_read_out part)) p rest))
    → ((m : Queue) → QueueStandsFor part l d m → QueueStandsFor part n e (fold (offered (words_read_out part)) m (take count rest)))
    → (m : Queue) → QueueStandsFor part k c m → (p : Queue) × QueueStandsFor part n e p × (fold (offered (words_read_out part)) m all ≡ fold (offered (words_read_out part)) p (take (length rest - count) (drop count rest)))
offers_more part k l n c d e all rest count few before step m s =
    let b = before m s in (
      fold (offered (words_read_out part)) b.0 (take count rest),
      step b.0 b.1,
      b.2 ∙ first_part count rest (words_read_out part) b.0 ∙ ap (fold (offered (words_read_out part)) (fold (offered (words_read_out part)) b.0 (take count rest))) (sym (rest_after count rest)),
    )

pub offers_end : (part : PartData) (k n : QueueState) (c e : DeviceState) (all rest : List ℕ) → length rest ≡ 0
    → ((m : Queue) → QueueStandsFor part k c m → (p : Queue) × QueueStandsFor part n e p × (fold (offered (words_read_out part)) m all ≡ fold (offered (words_read_out part)) p rest))
    → (m : Queue) → QueueStandsFor part k c m → QueueStandsFor part n e (fold (offered (words_read_out part)) m all)
offers_end part k n c e all rest none turns m s =
    let b = turns m s in
    subst (QueueStandsFor part n e) (sym (b.2 ∙ ap (fold (offered (words_read_out part)) b.0) (nil_from_length rest none))) b.1
