-- Words of frame data and copies taken at once.
use Rattle.std.proofs.Common.{◌≡◌, ℕ, suc, ◌+◌, ◌<◌, Bool, true, false, if◌then◌else◌, append-nil, List, [], ◌∷◌, ◌++◌, length, Option, None, Some, refl, sym, ap, subst, ◌∙◌, arith}
use Rattle.std.proofs.lemmas.List.{append_cancel_right}
use Rattle.x7_packets.specs.History.{Entry, Write, History, entry}
use Rattle.x7_part.specs.Part.{PartData}
use Rattle.x7_regs.specs.declared.register.Reg.{Reg}
use Rattle.x7_regs.specs.declared.register.Reg.TheVariants as reg
use Rattle.x7_regs.specs.Register.{number_of}
use Rattle.x7_memory.specs.FrameMap.{FrameMap, HaveSameFrames}
use Rattle.x7_memory.specs.PartFrames.{frame_at}
use Rattle.x7_memory.specs.Plan.{PlanRow, planned}
use Rattle.x7_memory.proofs.MapLemmas.{override_same}
use Rattle.x7_pipeline.specs.declared.fault.RunFault.{RunFault}
use Rattle.x7_pipeline.specs.Runs.{written_frames, onto, put_over, Lands}
use Rattle.x7_pipeline.specs.Fault.{write_fault}
use Rattle.x7_pipeline.specs.Flow.{HoldsFlow, ForEachFlow, after_words, with_run, flow_written}
use Rattle.x7_pipeline.specs.Pipeline.{PipelineData}
use Rattle.x7_pipeline.specs.RunWritten.{RunWritten, with_later_words, run_written}
use Rattle.x7_flow.specs.Asking.{Asked, CopiesSource, NothingAsked, AddsWord}
use Rattle.x7_flow.specs.Settings.{settings_of, takes_copies, takes_frames}
use Rattle.x7_flow.specs.HistoryFlow.{Flow, asked_after, base_of, fault_by, flow_of, frame_fault, run_of}
use Rattle.x7_flow.specs.FrameMemory.{copy_pairs, memory_of}
use Rattle.x7_flow.specs.Standing.{AreFramesAfter, HaveDone, FramesStandFor, FramesState, HasFlow, frames_state, without_due}
use Rattle.x7_words.specs.Word.{words_of_bytes}
use Rattle.x7_flow.specs.WordsTaken.{EndsBy, NoneRefused, WordsTaken, with_copies, with_frame_data, with_words_to, count_seen, words_to}
use Rattle.x7_flow.proofs.StreamLemmas.{IsCopied, copied_all, copy_asked, copy_flow}
use Rattle.x7_flow.proofs.StandingLemmas.{did_other, no_less, one_more, same_flow}
use Rattle.x7_flow.proofs.ManyLemmas.{word_asked, word_flow, words_flow, words_land}

word_fault : (part : PartData) (h : History) (w : ℕ) → takes_frames (settings_of part.idcode h) ≡ true → frame_fault part h (Write 2 w) ≡ write_fault part (base_of part h) (run_of part h)
word_fault part h w t = ap (λ (a : Asked). fault_by part a (flow_of part h)) (word_asked (settings_of part.idcode h) w t)

-- ---- the words before the first refused one

-- words written to FDRI in order are those that were taken, `prefix`, and a rest: none, or one whose first word is
-- refused
record Parted (part : PartData) (n : ℕ) (h : History) (words : List ℕ) (w : RunWritten) : Type 0 where
  prefix : List ℕ
  rest : List ℕ
  words_are : words ≡ prefix ++ rest
  none_refused : NoneRefused part reg.Fdri n prefix h
  run_is : w.run ≡ onto prefix (run_of part h)
  end : EndsBy part reg.Fdri (with_frame_data n prefix h) rest w.fault
  counted : w.count ≡ count_seen (length prefix) w.fault

one_counted : (taken count : ℕ) (fault : Option RunFault) → count ≡ count_seen taken fault → 1 + count ≡ count_seen (suc taken) fault
one_counted taken count None e = omega (arith, e)
one_counted taken count (Some fault) e = omega (arith, e)

parted : (part : PartData) (n : ℕ) (words : List ℕ) (h : History) → takes_frames (settings_of part.idcode h) ≡ true → Parted part n h words (run_written part (base_of part h) (run_of part h) words)
unfolding run_written NoneRefused
parted part n [] h t = record { prefix = []; rest = []; words_are = refl; none_refused = tt; run_is = refl; end = refl; counted = refl }
parted part n (w ∷ words) h t =
    by (write_fault part (base_of part h) (run_of part h)) refl
    (subst (λ (f : Flow). Parted part (n + 4) (entry (Write 2 w) (n + 4) ∷ h) words (run_written part f.base f.run words)) (word_flow part w (n + 4) h t) (parted part (n + 4) words (entry (Write 2 w) (n + 4) ∷ h) t))
  where
    now : History
    now = entry (Write 2 w) (n + 4) ∷ h

    later : RunWritten
    later = run_written part (base_of part h) (w ∷ run_of part h) words

    by : (o : Option RunFault) → write_fault part (base_of part h) (run_of part h) ≡ o → Parted part (n + 4) now words later → Parted part n h (w ∷ words) (with_later_words o (run_of part h) later)
    by (Some fault) e more = record {
      prefix = [];
      rest = w ∷ words;
      words_are = refl;
      none_refused = tt;
      run_is = refl;
      end = (w, words, refl, word_fault part h w t ∙ e);
      counted = refl;
    }
    by None e more = record {
      prefix = w ∷ more.prefix;
      rest = more.rest;
      words_are = ap (λ ws. w ∷ ws) more.words_are;
      none_refused = (word_fault part h w t ∙ e, more.none_refused);
      run_is = more.run_is ∙ ap (λ (f : Flow). onto more.prefix f.run) (word_flow part w (n + 4) h t);
      end = more.end;
      counted = one_counted (length more.prefix) later.count later.fault more.counted;
    }

-- ---- the pipeline and the memory

lands_alike : (part : PartData) (base : ℕ) (run longer : List ℕ) (old new under over : FrameMap) → Lands part base run longer old new → Lands part base run longer under over → HaveSameFrames old under → HaveSameFrames new over
lands_alike part base run longer old new under over first second same far =
    let added : first.added ≡ second.added = append_cancel_right first.added second.added (written_frames part base run) (sym first.grows ∙ second.grows) in
    first.memory far ∙ ap (λ (ps : List PlanRow). put_over ps old far) added
    ∙ override_same old under (planned second.added) (planned second.added) same (λ a. refl) far ∙ sym (second.memory far)

pub words_taken : (part : PartData) (p q : PipelineData) (old new : List (List ℕ)) (bytes : List ℕ) (n : ℕ) (seen : ℕ × Option RunFault) (h : History) →
    ForEachFlow part p (λ f. HoldsFlow part q (with_run (flow_written part f (words_of_bytes bytes)).run f)) →
    ForEachFlow part p (λ f. Lands part f.base f.run (flow_written part f (words_of_bytes bytes)).run (frame_at part old) (frame_at part new)) →
    ForEachFlow part p (λ f. seen.0 ≡ (flow_written part f (words_of_bytes bytes)).count) →
    ForEachFlow part p (λ f. seen.1 ≡ (flow_written part f (words_of_bytes bytes)).fault) →
    takes_frames (settings_of part.idcode h) ≡ true → AreFramesAfter part p old h 0 → WordsTaken part (frames_state q new) h (words_to reg.Fdri n bytes) seen
words_taken part p q old new bytes n seen h stands lands counted faulty t are =
    let words : List ℕ = words_of_bytes bytes in
    let f : Flow = flow_of part h in
    let has : HasFlow part p f = same_flow part p (without_due 0 f) f (sym (no_less f)) are.flow in
    let w : RunWritten = run_written part f.base f.run words in
    let parts : Parted part n h words w = parted part n words h t in
    let end : History = with_frame_data n parts.prefix h in
    let flow : flow_of part end ≡ record f { run = onto parts.prefix f.run } = words_flow part n parts.prefix h t in
    let reached : HoldsFlow part q (after_words parts.prefix f) =
    subst (λ (run : List ℕ). HoldsFlow part q (with_run run f)) parts.run_is (stands f has.stands) in
    let grown : Lands part f.base f.run (onto parts.prefix f.run) (frame_at part old) (frame_at part new) =
    subst (λ (run : List ℕ). Lands part f.base f.run run (frame_at part old) (frame_at part new)) parts.run_is (lands f has.stands) in
    record {
      taken = parts.prefix;
      rest = parts.rest;
      words_are = parts.words_are;
      none_refused = parts.none_refused;
      end = rw (faulty f has.stands) parts.end;
      counted = rw (counted f has.stands, faulty f has.stands) parts.counted;
      stands = record {
        flow = same_flow part q (record f { run = onto parts.prefix f.run }) (without_due 0 (flow_of part end)) (sym flow ∙ no_less (flow_of part end)) (record { stands = reached; nowhere = has.nowhere });
        memory = lands_alike part f.base f.run (onto parts.prefix f.run) (frame_at part old) (frame_at part new) (memory_of part h) (memory_of part end) grown (words_land part n parts.prefix h t) are.memory;
        due_given = omega arith;
      };
    }

-- ---- copies

copies_none : (part : PartData) (n : ℕ) (ws : List ℕ) (h : History) → takes_copies (settings_of part.idcode h) ≡ true → fault_by part CopiesSource (flow_of part h) ≡ None → NoneRefused part reg.Mfwr n ws h
unfolding NoneRefused
copies_none part n [] h t e = tt
copies_none part n (w ∷ ws) h t e = (
  ap (λ (a : Asked). fault_by part a (flow_of part h)) (copy_asked (settings_of part.idcode h) w t) ∙ e,
  copies_none part (n + 4) ws (entry (Write 10 w) (n + 4) ∷ h) t (ap (fault_by part CopiesSource) (copy_flow part h w (n + 4) t) ∙ e),
)

-- after words of MFWR, one at least, frames stand for the history with all of them where they did one copy
copies_stand : (part : PartData) (old new : FramesState) (n w : ℕ) (ws : List ℕ) (h : History) → takes_copies (settings_of part.idcode h) ≡ true → HaveDone part CopiesSource old new → FramesStandFor part old h 0
    → FramesStandFor part new (with_copies n (w ∷ ws) h) 0
copies_stand part old new n w ws h t did are =
    let f : Flow = flow_of part h in
    let all : History = with_copies n (w ∷ ws) h in
    let pairs : List PlanRow = copy_pairs part f in
    let c : IsCopied part f (settings_of part.idcode h) (memory_of part h) pairs all = copied_all part n w ws h t in
    let has : HasFlow part old.pipeline f = same_flow part old.pipeline (without_due 0 f) f (sym (no_less f)) are.flow in
    record {
      flow = same_flow part new.pipeline f (without_due 0 (flow_of part all)) (sym c.flow_is ∙ no_less (flow_of part all)) (did.flow f has);
      memory = λ far. did.memory f has far ∙ override_same (frame_at part old.memory) (memory_of part h) (planned pairs) (planned pairs) are.memory (λ a. refl) far ∙ sym (c.memory_is far);
      due_given = omega arith;
    }

pub copies_taken : (part : PartData) (old new : FramesState) (n count : ℕ) (ws : List ℕ) (h : History) → takes_copies (settings_of part.idcode h) ≡ true → 0 < length ws → count ≡ length ws
    → None ≡ fault_by part CopiesSource (flow_of part h) → HaveDone part CopiesSource old new → FramesStandFor part old h 0
    → WordsTaken part new h (record { register = reg.Mfwr; place = n; words = ws }) (count, None)
copies_taken part old new n count [] h t some c none did are = absurd (omega (arith, some))
copies_taken part old new n count (w ∷ ws) h t some c none did are = record {
  taken = w ∷ ws;
  rest = [];
  words_are = sym (append-nil (w ∷ ws));
  none_refused = copies_none part n (w ∷ ws) h t (sym none);
  end = refl;
  counted = c;
  stands = copies_stand part old new n w ws h t did are;
}

pub copies_refused : (part : PartData) (f : FramesState) (n : ℕ) (ws : List ℕ) (fault : RunFault) (h : History) → takes_copies (settings_of part.idcode h) ≡ true → 0 < length ws
    → Some fault ≡ fault_by part CopiesSource (flow_of part h) → FramesStandFor part f h 0
    → WordsTaken part f h (record { register = reg.Mfwr; place = n; words = ws }) (1, Some fault)
unfolding NoneRefused
copies_refused part f n [] fault h t some e are = absurd (omega (arith, some))
copies_refused part f n (w ∷ ws) fault h t some e are = record {
  taken = [];
  rest = w ∷ ws;
  words_are = refl;
  none_refused = tt;
  end = (w, ws, refl, ap (λ (a : Asked). fault_by part a (flow_of part h)) (copy_asked (settings_of part.idcode h) w t) ∙ sym e);
  counted = refl;
  stands = are;
}

-- of no words written to MFWR none is taken
pub none_given : (part : PartData) (f : FramesState) (n : ℕ) (ws : List ℕ) (h : History) → length ws ≡ 0 → FramesStandFor part f h 0 → WordsTaken part f h (record { register = reg.Mfwr; place = n; words = ws }) (0, None)
unfolding NoneRefused
none_given part f n [] h e are = record { taken = []; rest = []; words_are = refl; none_refused = tt; end = refl; counted = refl; stands = are }
none_given part f n (w ∷ ws) h e are = absurd (omega (arith, e))

-- ---- words that no frame takes

-- after a history of which P holds, words of a register ask nothing, and P holds after them too
record AsksNothing (part : PartData) (r : Reg) (P : History → Type 0) : Type 1 where
  asks_other : (h : History) (w : ℕ) → P h → asked_after part.idcode h (Write (number_of r) w) ≡ NothingAsked
  keeps : (h : History) (w place : ℕ) → P h → P (entry (Write (number_of r) w) place ∷ h)

pub other_access : (part : PartData) (f : FramesState) (h : History) (e : Entry) → asked_after part.idcode h e.access ≡ NothingAsked → FramesStandFor part f h 0 → FramesStandFor part f (e ∷ h) 0
other_access part f h e a s = one_more part f f e h (subst (λ (x : Asked). HaveDone part x f f) (sym a) (did_other part f)) s

none_refused : (part : PartData) (r : Reg) (P : History → Type 0) (n : ℕ) (ws : List ℕ) (h : History) → AsksNothing part r P → P h → NoneRefused part r n ws h
unfolding NoneRefused
none_refused part r P n [] h a p = tt
none_refused part r P n (w ∷ ws) h a p =
    (ap (λ (x : Asked). fault_by part x (flow_of part h)) (a.asks_other h w p), none_refused part r P (n + 4) ws (entry (Write (number_of r) w) (n + 4) ∷ h) a (a.keeps h w (n + 4) p))

still_stand : (part : PartData) (r : Reg) (P : History → Type 0) (f : FramesState) (n : ℕ) (ws : List ℕ) (h : History) → AsksNothing part r P → P h → FramesStandFor part f h 0 → FramesStandFor part f (with_words_to r n ws h) 0
still_stand part r P f n [] h a p s = s
still_stand part r P f n (w ∷ ws) h a p s =
    still_stand part r P f (n + 4) ws (entry (Write (number_of r) w) (n + 4) ∷ h) a (a.keeps h w (n + 4) p) (other_access part f h (entry (Write (number_of r) w) (n + 4)) (a.asks_other h w p) s)

words_folded : (part : PartData) (r : Reg) (P : History → Type 0) (f : FramesState) (n count : ℕ) (ws : List ℕ) (h : History) → AsksNothing part r P → P h → count ≡ length ws → FramesStandFor part f h 0
    → WordsTaken part f h (record { register = r; place = n; words = ws }) (count, None)
words_folded part r P f n count ws h a p c s = record {
  taken = ws;
  rest = [];
  words_are = sym (append-nil ws);
  none_refused = none_refused part r P n ws h a p;
  end = refl;
  counted = c;
  stands = still_stand part r P f n ws h a p s;
}

pub data_folded : (part : PartData) (f : FramesState) (n count : ℕ) (ws : List ℕ) (h : History) → takes_frames (settings_of part.idcode h) ≡ false → count ≡ length ws → FramesStandFor part f h 0
    → WordsTaken part f h (record { register = reg.Fdri; place = n; words = ws }) (count, None)
data_folded part f n count ws h t c s =
    words_folded part reg.Fdri (λ g. takes_frames (settings_of part.idcode g) ≡ false) f n count ws h
    (record { asks_other = λ g w e. ap (λ (b : Bool). if b then AddsWord w else NothingAsked) e; keeps = λ g w place e. e }) t c s

pub copies_folded : (part : PartData) (f : FramesState) (n count : ℕ) (ws : List ℕ) (h : History) → takes_copies (settings_of part.idcode h) ≡ false → count ≡ length ws → FramesStandFor part f h 0
    → WordsTaken part f h (record { register = reg.Mfwr; place = n; words = ws }) (count, None)
copies_folded part f n count ws h t c s =
    words_folded part reg.Mfwr (λ g. takes_copies (settings_of part.idcode g) ≡ false) f n count ws h
    (record { asks_other = λ g w e. ap (λ (b : Bool). if b then CopiesSource else NothingAsked) e; keeps = λ g w place e. e }) t c s
