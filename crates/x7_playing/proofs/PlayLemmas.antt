-- What is known where a play ends.
use Rattle.std.proofs.Common.{◌≡◌, ℕ, ◌+◌, ◌≤◌, ◌<◌, List, [], ◌++◌, length, length-append, false, Option, Some, refl, ap, subst, sym, ◌∙◌, arith}
use Rattle.x7_words.specs.Word.{AreBytes}
use Rattle.x7_part.specs.Part.{PartData}
use Rattle.x7_engine.specs.declared.fed.Fed.{Fed}
use Rattle.x7_engine.specs.Kept.{on_the_bench}
use Rattle.x7_engine.specs.ReadBuffer.{IsFull, IsFullBy, ReadBufState, gathered, with_words}
use Rattle.x7_engine.proofs.FeedLemmas.{given_all, given_within}
use Rattle.x7_engine.specs.Standing.{NoWordDue, DeviceState, DeviceStandsFor, reads_given}
use Rattle.x7_engine.specs.State.{memory_of_bytes, reads_of, state_of, first_stop_of_bytes}
use Rattle.x7_engine.specs.Stop.{Stopped}
use Rattle.x7_forms.specs.Known.{reads_limit}
use Rattle.x7_playing.specs.Playing.{empty_buffer, reads_room}
use Rattle.x7_engine.proofs.ReadsLemmas.{reads_grow}
use Rattle.x7_engine.proofs.StateLemmas.{stop_is_final_memory, stop_is_final_reads, stop_is_final_state, stop_is_final_stop}
use Rattle.x7_engine.specs.declared.fed.Fed.TheVariants as fed

-- ---- one turn of a play

pub words_are : (old new : ReadBufState) (more : List ℕ) → new ≡ with_words old more → old ≡ empty_buffer → new.words ≡ more
words_are old new more e o = ap (λ (b : ReadBufState). b.words) e ∙ ap (λ (b : ReadBufState). gathered b.most b.words more) o

pub most_is : (old new : ReadBufState) (more : List ℕ) → new ≡ with_words old more → old ≡ empty_buffer → new.most ≡ Some reads_room
most_is old new more e o = ap (λ (b : ReadBufState). b.most) e ∙ ap (λ (b : ReadBufState). b.most) o

pub emptied_again : (full empty : ReadBufState) → empty ≡ record full { words = [] } → full.most ≡ Some reads_room → empty ≡ empty_buffer
emptied_again full empty e m = e ∙ ap (λ (most : Option ℕ). record { most = most; words = [] }) m

pub full_words : (b : ReadBufState) → b.most ≡ Some reads_room → IsFull b → length b.words ≡ reads_room
full_words b m f = subst (λ (most : Option ℕ). IsFullBy most (length b.words)) m f

-- ---- the ends of a play

-- more words than the limit were given
pub over_limit : (part : PartData) (d : DeviceState) (bytes reads words prefix rest : List ℕ) → AreBytes bytes → bytes ≡ prefix ++ rest → reads_given part on_the_bench d prefix ≡ reads ++ words → reads_limit < length reads + length words
    → reads_limit < length (reads_of part on_the_bench bytes)
over_limit part d bytes reads words prefix rest fits split known k =
    let grown = reads_grow part on_the_bench prefix rest (subst (λ x. AreBytes x) split fits) in
    let all : length (reads_of part on_the_bench bytes) ≡ length (reads_of part on_the_bench prefix) + length grown.0
    = ap (λ x. length (reads_of part on_the_bench x)) split ∙ ap length grown.1 ∙ length-append (reads_of part on_the_bench prefix) grown.0 in
    let some : length (reads_given part on_the_bench d prefix) ≤ length (reads_of part on_the_bench prefix) = given_within part on_the_bench d prefix in
    omega (arith, all, some, ap length known, length-append reads words, k)

abbrev pub IsEnd : Fed → Type 0
IsEnd (fed.ReadFull n) = ⊥
IsEnd _ = Unit {0}

pub is_end : (f : Fed) → ((n : ℕ) → f ≡ fed.ReadFull n → ⊥) → IsEnd f
is_end (fed.ReadFull n) h = h n refl
is_end fed.All h = tt
is_end (fed.Stopped n) h = tt
is_end (fed.Iprog n) h = tt

-- The device took a prefix of the data, after which nothing changes: its state, its stop, its memory and the words read
-- out are those of all data, and no word is due.
pub record IsPlayed (part : PartData) (bytes : List ℕ) (d : DeviceState) (reads : List ℕ) : Type 0 where
  pub prefix : List ℕ
  pub stands : DeviceStandsFor part on_the_bench false d prefix
  pub stop : first_stop_of_bytes part on_the_bench bytes ≡ first_stop_of_bytes part on_the_bench prefix
  pub state : state_of part on_the_bench false bytes ≡ state_of part on_the_bench false prefix
  pub memory : memory_of_bytes part on_the_bench bytes ≡ memory_of_bytes part on_the_bench prefix
  pub no_word_due : NoWordDue d
  pub reads_are : reads ≡ reads_of part on_the_bench bytes
  pub within_limit : length reads ≤ reads_limit

pub stopped_end : (part : PartData) (bytes prefix rest : List ℕ) (d : DeviceState) (reads : List ℕ) (s : Stopped) → AreBytes bytes → bytes ≡ prefix ++ rest → DeviceStandsFor part on_the_bench false d prefix → reads ≡ reads_given part on_the_bench d prefix → length reads ≤ reads_limit
    → first_stop_of_bytes part on_the_bench prefix ≡ Some s → NoWordDue d → IsPlayed part bytes d reads
stopped_end part bytes prefix rest d reads s fits split stands known few stop due =
    let all : AreBytes (prefix ++ rest) = subst (λ x. AreBytes x) split fits in
    record {
      prefix = prefix;
      stands = stands;
      stop = ap (first_stop_of_bytes part on_the_bench) split ∙ stop_is_final_stop part on_the_bench prefix rest s all stop ∙ sym stop;
      state = ap (state_of part on_the_bench false) split ∙ stop_is_final_state part on_the_bench false prefix rest s all stop;
      memory = ap (memory_of_bytes part on_the_bench) split ∙ stop_is_final_memory part on_the_bench prefix rest s all stop;
      no_word_due = due;
      reads_are = known ∙ given_all part on_the_bench d prefix due ∙ sym (ap (reads_of part on_the_bench) split ∙ stop_is_final_reads part on_the_bench prefix rest s all stop);
      within_limit = few;
    }
