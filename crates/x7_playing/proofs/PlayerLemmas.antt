-- A player that is given bytes piece by piece.
use Rattle.std.proofs.Common.{◌≡◌, ℕ, ◌+◌, ◌≤◌, ◌<◌, List, [], ◌++◌, length, length-append, take, drop, Bool, true, false, Option, None, Some, refl, ap, subst, sym, ◌∙◌, append_assoc, append-nil, arith, inl, inr, ◌⊎◌}
use Rattle.std.specs.Prelude.{IsSome}
use Rattle.std.proofs.Math.Seq.{take-add, take-length}
use Rattle.std.proofs.lemmas.List.{take-append-drop}
use Rattle.x7_words.specs.Input.{taken_bytes_limit}
use Rattle.x7_words.specs.Word.{AreBytes}
use Rattle.x7_words.proofs.ListLemmas.{all_append, all_back, all_prefix, all_take, taken_and_left}
use Rattle.x7_part.specs.Part.{PartData}
use Rattle.x7_engine.specs.declared.fed.Fed.{Fed}
use Rattle.x7_engine.specs.declared.fed.Fed.TheVariants as fed
use Rattle.x7_engine.specs.Kept.{on_the_bench}
use Rattle.x7_engine.specs.ReadBuffer.{ReadBufState}
use Rattle.x7_engine.specs.Past.{AnswersAt, past_of}
use Rattle.x7_engine.specs.Standing.{CanBeGiven, DeviceState, DeviceStandsFor, NoWordDue, taken_in, reads_given, words_still_due}
use Rattle.x7_engine.specs.State.{history_taken, reads_of, first_stop_of_bytes}
use Rattle.x7_engine.specs.Stop.{Stopped}
use Rattle.x7_engine.proofs.FeedLemmas.{given_all}
use Rattle.x7_engine.proofs.FrameLemmas.{length_left}
use Rattle.x7_engine.proofs.ReadsLemmas.{reads_grow}
use Rattle.x7_engine.proofs.StateLemmas.{stop_is_final_stop}
use Rattle.x7_forms.specs.Known.{reads_limit}
use Rattle.x7_playing.specs.Playing.{HasPlayed, HasPlayedBy, MayPlay, PlayState, DevicePlayed, PlaysOn, ReadsOver}
use Rattle.x7_playing.specs.declared.player.Player.{Player}
use Rattle.x7_playing.proofs.PlayLemmas.{IsPlayed, IsEnd, over_limit, stopped_end}

some_is : {A : Type 0} (o : Option A) (a : A) → o ≡ Some a → IsSome o
some_is None a e = absurd (cc)
some_is (Some b) a e = refl

the_some : {A : Type 0} (o : Option A) → IsSome o → (a : A) × (o ≡ Some a)
the_some None i = absurd (cc)
the_some (Some a) i = (a, refl)

-- ---- words over the limit

pub over_grows : (part : PartData) (bytes more : List ℕ) → AreBytes (bytes ++ more) → ReadsOver part bytes → ReadsOver part (bytes ++ more)
over_grows part bytes more fits o =
    let grown = reads_grow part on_the_bench bytes more fits in
    record { fits = fits; many = omega (arith, o.many, ap length grown.1, length-append (reads_of part on_the_bench bytes) grown.0) }

-- ---- a feed

-- what was taken before and of a piece, and what is left of all
pub rest_of_turn : (part : PartData) (bytes piece : List ℕ) (n : ℕ) (d : DeviceState) (reads : List ℕ) → (s : DevicePlayed part bytes d reads) → (IsSome (first_stop_of_bytes part on_the_bench s.taken) → n ≡ 0) → (rest : List ℕ) × (bytes ++ piece ≡ (s.taken ++ take n piece) ++ rest)
rest_of_turn part bytes piece n d reads s still = by s.ends
  where
    by : (s.left ≡ []) ⊎ IsSome (first_stop_of_bytes part on_the_bench s.taken) → (rest : List ℕ) × (bytes ++ piece ≡ (s.taken ++ take n piece) ++ rest)
    by (inl e) = (
      drop n piece,
      ap (λ b. b ++ piece) (s.split ∙ ap (λ l. s.taken ++ l) e ∙ append-nil s.taken) ∙ sym (append_assoc s.taken (take n piece) (drop n piece) ∙ ap (λ x. s.taken ++ x) (take-append-drop n piece)),
    )
    by (inr i) = (
      s.left ++ piece,
      ap (λ b. b ++ piece) s.split ∙ append_assoc s.taken s.left piece ∙ ap (λ t. t ++ (s.left ++ piece)) (sym (ap (λ k. s.taken ++ take k piece) (still i) ∙ append-nil s.taken)),
    )

-- a device that goes on had taken all
pub went_on : (part : PartData) (bytes piece : List ℕ) (d : DeviceState) (reads : List ℕ) → (s : DevicePlayed part bytes d reads) → AreBytes (s.taken ++ piece) → first_stop_of_bytes part on_the_bench (s.taken ++ piece) ≡ None → bytes ≡ s.taken
went_on part bytes piece d reads s fits none = by s.ends
  where
    by : (s.left ≡ []) ⊎ IsSome (first_stop_of_bytes part on_the_bench s.taken) → bytes ≡ s.taken
    by (inl e) = s.split ∙ ap (λ l. s.taken ++ l) e ∙ append-nil s.taken
    by (inr i) =
        let st = the_some (first_stop_of_bytes part on_the_bench s.taken) i in
        let later = stop_is_final_stop part on_the_bench s.taken piece st.0 fits st.1 in
        absurd (cc)

taken_fit : (part : PartData) (bytes piece : List ℕ) (d : DeviceState) (reads : List ℕ) → (s : DevicePlayed part bytes d reads) → AreBytes piece → AreBytes (s.taken ++ piece)
taken_fit part bytes piece d reads s fits = all_append (λ b. b < 256) s.taken piece (all_prefix (λ b. b < 256) s.taken s.left (subst (λ x. AreBytes x) s.split s.fits)) fits

-- a feed that waits for room
pub fed_full : (part : PartData) (bytes piece : List ℕ) (d e : DeviceState) (reads now : List ℕ) → (s : DevicePlayed part bytes d reads) → AreBytes piece → DeviceStandsFor part on_the_bench false e (s.taken ++ piece) → first_stop_of_bytes part on_the_bench (s.taken ++ piece) ≡ None
    → now ≡ reads_given part on_the_bench e (s.taken ++ piece) → length now ≤ reads_limit → DevicePlayed part (bytes ++ piece) e now
fed_full part bytes piece d e reads now s fits stands none known few =
    let fit = taken_fit part bytes piece d reads s fits in
    let all = ap (λ b. b ++ piece) (went_on part bytes piece d reads s fit none) in
    record {
      taken = s.taken ++ piece;
      left = [];
      split = all ∙ sym (append-nil (s.taken ++ piece));
      ends = inl refl;
      fits = subst (λ x. AreBytes x) (sym all) fit;
      stands = stands;
      reads_are = known;
      within_limit = few;
    }

fed_stopped : (part : PartData) (bytes piece : List ℕ) (n : ℕ) (d e : DeviceState) (reads now : List ℕ)
    → (s : DevicePlayed part bytes d reads) → (IsSome (first_stop_of_bytes part on_the_bench s.taken) → n ≡ 0) → AreBytes (bytes ++ piece) → DeviceStandsFor part on_the_bench false e (s.taken ++ take n piece) → (st : Stopped) → first_stop_of_bytes part on_the_bench (s.taken ++ take n piece) ≡ Some st
    → now ≡ reads_given part on_the_bench e (s.taken ++ take n piece) → length now ≤ reads_limit → DevicePlayed part (bytes ++ piece) e now
fed_stopped part bytes piece n d e reads now s still fits stands st stop known few =
    let rest = rest_of_turn part bytes piece n d reads s still in
    record {
      taken = s.taken ++ take n piece;
      left = rest.0;
      split = rest.1;
      ends = inr (some_is (first_stop_of_bytes part on_the_bench (s.taken ++ take n piece)) st stop);
      fits = fits;
      stands = stands;
      reads_are = known;
      within_limit = few;
    }

-- a feed that ends
pub fed_end : (part : PartData) (bytes piece : List ℕ) (d e : DeviceState) (read : ReadBufState) (reads now : List ℕ) (f : Fed) → (s : DevicePlayed part bytes d reads) → IsEnd f → AreBytes piece → (IsSome (first_stop_of_bytes part on_the_bench s.taken) → taken_in (length piece) f ≡ 0)
    → DeviceStandsFor part on_the_bench false e (s.taken ++ take (taken_in (length piece) f) piece) → AnswersAt (past_of part on_the_bench false (s.taken ++ take (taken_in (length piece) f) piece)) e read f
    → now ≡ reads_given part on_the_bench e (s.taken ++ take (taken_in (length piece) f) piece) → length now ≤ reads_limit → DevicePlayed part (bytes ++ piece) e now × NoWordDue e
fed_end part bytes piece d e read reads now (fed.ReadFull n) s end fits still stands answer known few = absurd end
fed_end part bytes piece d e read reads now (fed.Stopped n) s end fits still stands answer known few =
    (fed_stopped part bytes piece n d e reads now s still (all_append (λ b. b < 256) bytes piece s.fits fits) stands _ answer.1 known few, answer.2)
fed_end part bytes piece d e read reads now (fed.Iprog n) s end fits still stands answer known few =
    (fed_stopped part bytes piece n d e reads now s still (all_append (λ b. b < 256) bytes piece s.fits fits) stands _ answer.0 known few, answer.1)
fed_end part bytes piece d e read reads now fed.All s end fits still stands answer known few =
    let whole : take (length piece) piece ≡ piece = take-length piece in
    let there = rw whole at stands in
    let none = rw whole at answer.0 in
    let words = rw whole at known in
    (fed_full part bytes piece d e reads now s fits there none words few, answer.1)

-- ---- the end of a play

-- what was played where no word is due
pub played_all : (part : PartData) (bytes : List ℕ) (d : DeviceState) (reads : List ℕ) → DevicePlayed part bytes d reads → NoWordDue d → IsPlayed part bytes d reads
played_all part bytes d reads s due = by s.ends
  where
    by : (s.left ≡ []) ⊎ IsSome (first_stop_of_bytes part on_the_bench s.taken) → IsPlayed part bytes d reads
    by (inl e) =
        let all : bytes ≡ s.taken = s.split ∙ ap (λ l. s.taken ++ l) e ∙ append-nil s.taken in
        record {
          prefix = s.taken;
          stands = s.stands;
          stop = rw all refl;
          state = rw all refl;
          memory = rw all refl;
          no_word_due = due;
          reads_are = s.reads_are ∙ given_all part on_the_bench d s.taken due ∙ ap (reads_of part on_the_bench) (sym all);
          within_limit = s.within_limit;
        }
    by (inr i) =
        let st = the_some (first_stop_of_bytes part on_the_bench s.taken) i in
        stopped_end part bytes s.taken s.left d reads st.0 s.fits s.split s.stands s.reads_are s.within_limit st.1 due

-- ---- a player

-- a new device took nothing, and no word is due
pub new_plays : (part : PartData) (d : DeviceState) (reads : List ℕ) → DeviceStandsFor part on_the_bench false d [] → reads ≡ [] → DevicePlayed part [] d reads × NoWordDue d
new_plays part d reads s e =
    let h = history_taken part on_the_bench [] in
    let none : length (reads_of part on_the_bench []) ≡ 0 = refl in
    let due : NoWordDue d = omega (arith, none, ap length s.due_are.all, length-append s.due_are.given (words_still_due part h d.registers.values.due), length_left part h d.registers.values.due) in (
      record {
        taken = [];
        left = [];
        split = refl;
        ends = inl refl;
        fits = tt;
        stands = s;
        reads_are = e ∙ sym (given_all part on_the_bench d [] due);
        within_limit = omega (arith, ap length e);
      },
      due,
    )

-- a device that was given these bytes may be given more
pub may_feed : (part : PartData) (bytes : List ℕ) (d : DeviceState) (reads : List ℕ) (count : ℕ) → DevicePlayed part bytes d reads → length bytes + count ≤ taken_bytes_limit → CanBeGiven d count
may_feed part bytes d reads count s few = omega (arith, few, s.stands.taken_is, ap length s.split, length-append s.taken s.left)

pub may_less : (p : Player) (count fewer : ℕ) → fewer ≤ count → MayPlay p count → MayPlay p fewer
may_less p count fewer l m = (m.0, (m.1.0, (m.1.1.0, omega (arith, l, m.1.1.1))))

pub may_on : (p q : Player) (more : List ℕ) (count fewer : ℕ) → length more + fewer ≤ count → PlaysOn p q more → MayPlay p count → MayPlay q fewer
may_on p q more count fewer l on m = (m.0, (m.1.0 ++ more, (on m.0 m.1.0 m.1.1.0, omega (arith, l, m.1.1.1, length-append m.1.0 more))))

pub on_none : (p : Player) → PlaysOn p p []
on_none p = λ part bytes h. subst (λ b. HasPlayed part b p) (sym (append-nil bytes)) h

pub on_on : (p q r : Player) (first second : List ℕ) → PlaysOn p q first → PlaysOn q r second → PlaysOn p r (first ++ second)
on_on p q r first second a b = λ part bytes h. subst (λ x. HasPlayed part x r) (append_assoc bytes first second) (b part (bytes ++ first) (a part bytes h))

-- what a player was given, by whether it is over
pub is_over_limit : (over : Bool) (part : PartData) (bytes : List ℕ) (s : PlayState) → over ≡ true → HasPlayedBy over part bytes s → ReadsOver part bytes
is_over_limit true part bytes s e h = h
is_over_limit false part bytes s e h = absurd (cc)

pub not_over : (over : Bool) (part : PartData) (bytes : List ℕ) (s : PlayState) → over ≡ false → HasPlayedBy over part bytes s → HasPlayedBy false part bytes s
not_over false part bytes s e h = h
not_over true part bytes s e h = absurd (cc)

-- ---- the turns of a feed

more_piece : (bytes piece : List ℕ) (at n : ℕ) → (bytes ++ take at piece) ++ take n (drop at piece) ≡ bytes ++ take (at + n) piece
more_piece bytes piece at n = append_assoc bytes (take at piece) (take n (drop at piece)) ∙ ap (λ x. bytes ++ x) (sym (take-add at n piece))

rest_fits : (piece : List ℕ) (at : ℕ) → AreBytes piece → AreBytes (drop at piece)
rest_fits piece at fits = all_back (λ b. b < 256) (take at piece) (drop at piece) (subst (λ x. AreBytes x) (sym (take-append-drop at piece)) fits)

pub turn_over : (part : PartData) (bytes piece : List ℕ) (at n : ℕ) (d e : DeviceState) (reads more : List ℕ) → AreBytes bytes → AreBytes piece → (s : DevicePlayed part (bytes ++ take at piece) d reads) → (IsSome (first_stop_of_bytes part on_the_bench s.taken) → n ≡ 0)
    → reads_given part on_the_bench e (s.taken ++ take n (drop at piece)) ≡ reads_given part on_the_bench d s.taken ++ more → reads_limit < length reads + length more → ReadsOver part (bytes ++ piece)
turn_over part bytes piece at n d e reads more fb fp s still known many =
    let fits : AreBytes (bytes ++ piece) = all_append (λ b. b < 256) bytes piece fb fp in
    let rest = rest_of_turn part (bytes ++ take at piece) (drop at piece) n d reads s still in
    record {
      fits = fits;
      many = over_limit part e (bytes ++ piece) reads more (s.taken ++ take n (drop at piece)) rest.0 fits (sym (taken_and_left bytes piece at) ∙ rest.1) (known ∙ ap (λ x. x ++ more) (sym s.reads_are)) many;
    }

pub turn_full : (part : PartData) (bytes piece : List ℕ) (at n : ℕ) (d e : DeviceState) (reads now more : List ℕ) → AreBytes piece → (s : DevicePlayed part (bytes ++ take at piece) d reads) → DeviceStandsFor part on_the_bench false e (s.taken ++ take n (drop at piece))
    → first_stop_of_bytes part on_the_bench (s.taken ++ take n (drop at piece)) ≡ None → reads_given part on_the_bench e (s.taken ++ take n (drop at piece)) ≡ reads_given part on_the_bench d s.taken ++ more → now ≡ reads ++ more → length now ≤ reads_limit
    → DevicePlayed part (bytes ++ take (at + n) piece) e now
turn_full part bytes piece at n d e reads now more fp s stands none known is few =
    let words : now ≡ reads_given part on_the_bench e (s.taken ++ take n (drop at piece)) = is ∙ ap (λ x. x ++ more) s.reads_are ∙ sym known in
    subst (λ b. DevicePlayed part b e now) (more_piece bytes piece at n)
    (fed_full part (bytes ++ take at piece) (take n (drop at piece)) d e reads now s (all_take (λ b. b < 256) n (drop at piece) (rest_fits piece at fp)) stands none words few)

pub turn_end : (part : PartData) (bytes piece : List ℕ) (at : ℕ) (d e : DeviceState) (read : ReadBufState) (reads now more : List ℕ) (f : Fed) → AreBytes piece → (s : DevicePlayed part (bytes ++ take at piece) d reads) → IsEnd f
    → (IsSome (first_stop_of_bytes part on_the_bench s.taken) → taken_in (length (drop at piece)) f ≡ 0) → DeviceStandsFor part on_the_bench false e (s.taken ++ take (taken_in (length (drop at piece)) f) (drop at piece))
    → AnswersAt (past_of part on_the_bench false (s.taken ++ take (taken_in (length (drop at piece)) f) (drop at piece))) e read f
    → reads_given part on_the_bench e (s.taken ++ take (taken_in (length (drop at piece)) f) (drop at piece)) ≡ reads_given part on_the_bench d s.taken ++ more → now ≡ reads ++ more → length now ≤ reads_limit
    → DevicePlayed part (bytes ++ piece) e now × NoWordDue e
turn_end part bytes piece at d e read reads now more f fp s end still stands answer known is few =
    let words : now ≡ reads_given part on_the_bench e (s.taken ++ take (taken_in (length (drop at piece)) f) (drop at piece)) = is ∙ ap (λ x. x ++ more) s.reads_are ∙ sym known in
    subst (λ b. DevicePlayed part b e now × NoWordDue e) (taken_and_left bytes piece at)
    (fed_end part (bytes ++ take at piece) (drop at piece) d e read reads now f s end (rest_fits piece at fp) still stands answer words few)

-- a player that is over stays so
pub over_stays : (over : Bool) (part : PartData) (bytes piece : List ℕ) (s : PlayState) → over ≡ true → AreBytes piece → HasPlayedBy over part bytes s → HasPlayedBy over part (bytes ++ piece) s
over_stays true part bytes piece s e fits h = over_grows part bytes piece (all_append (λ b. b < 256) bytes piece h.fits fits) h
over_stays false part bytes piece s e fits h = absurd (cc)
