-- A whole frame that is written at once, which is its words one by one.
use Rattle.std.proofs.Common.{◌≡◌, ℕ, ◌+◌, ◌-◌, ◌*◌, ◌/◌, ◌%◌, ◌<◌, ◌≤◌, List, [], ◌∷◌, ◌++◌, length, get_or, take, drop, Option, Some, None, refl, sym, ap, ◌∙◌, arith, append_assoc, append-nil, length-append, take-add, true, lt-ltb}
use Rattle.std.proofs.lemmas.List.{length-take-le, drop-drop, drop_all}
use Rattle.std.proofs.lemmas.Option.{none-some}
use Rattle.x7_words.specs.Word.{word_of_bytes, words_of_bytes}
use Rattle.x7_words.proofs.WordLemmas.{words_apart, words_count, words_of_bytes_append}
use Rattle.x7_part.specs.Part.{PartData}
use Rattle.x7_part.specs.Slot.{slots_from}
use Rattle.x7_part.specs.declared.slot.Slot.TheVariants.{End}
use Rattle.x7_memory.specs.FrameMap.{FrameMap, HaveSameFrames}
use Rattle.x7_regs.specs.declared.command.Command.{Command}
use Rattle.x7_pipeline.specs.declared.fault.RunFault.{RunFault}
use Rattle.x7_pipeline.specs.FarAsRead.{is_frame_address}
use Rattle.x7_pipeline.specs.Runs.{at_slot, onto, put_over, Lands}
use Rattle.x7_pipeline.specs.Fault.{write_fault}
use Rattle.x7_pipeline.specs.RunWritten.{RunWritten, with_later_words, run_written}
use Rattle.x7_pipeline.specs.Flow.{Flow, HoldsFlow, with_run}
use Rattle.x7_pipeline.specs.Pipeline.{PipelineData}
use Rattle.x7_pipeline.proofs.FlowLemmas.{StandsFor, flow}
use Rattle.x7_pipeline.proofs.LawLemmas.{lands_none, lands_more}
use Rattle.x7_pipeline.proofs.StateLemmas.{goes_on, completes_frame, lands_nothing, lands_frame, write_allowed}
use Rattle.x7_pipeline.proofs.WordLemmas.{after, written_end, written_next, ends_refused, ReachesRun, Reached}

-- ---- some words at once

pub written_some : (part : PartData) (base : ℕ) (run words rest : List ℕ) → (run_written part base run words).fault ≡ None →
    run_written part base run (words ++ rest) ≡ after (length words) (run_written part base (onto words run) rest)
unfolding run_written
written_some part base run [] rest e = ap (λ n. record (run_written part base run rest) { count = n }) (omega arith)
written_some part base run (w ∷ words) rest e = by (write_fault part base run) e (written_some part base (w ∷ run) words rest)
  where
    by : (o : Option RunFault) → (with_later_words o run (run_written part base (w ∷ run) words)).fault ≡ None →
        ((run_written part base (w ∷ run) words).fault ≡ None → run_written part base (w ∷ run) (words ++ rest) ≡ after (length words) (run_written part base (onto words (w ∷ run)) rest)) →
        with_later_words o run (run_written part base (w ∷ run) (words ++ rest)) ≡ after (length (w ∷ words)) (run_written part base (onto words (w ∷ run)) rest)
    by (Some fault) e later = absurd (none-some fault (sym e))
    by None e later = ap (after 1) (later e) ∙ ap (λ n. record (run_written part base (onto words (w ∷ run)) rest) { count = n }) (omega arith)

pub goes_some : (part : PartData) (start now next : PipelineData) (old middle new : FrameMap) (all words rest : List ℕ) (count : ℕ) → ReachesRun part start now old middle all (words ++ rest) count →
    ((f : Flow) → HoldsFlow part now f → HoldsFlow part next (with_run (onto words f.run) f)) →
    ((f : Flow) → HoldsFlow part now f → Lands part f.base f.run (onto words f.run) middle new) →
    ((f : Flow) → HoldsFlow part now f → (run_written part f.base f.run words).fault ≡ None) →
    ReachesRun part start next old new all rest (count + length words)
goes_some part start now next old middle new all words rest count before stands lands passes command base run source given s =
    let r : Reached part now old middle command base run source given all (words ++ rest) count = before command base run source given s in
    record {
      longer = onto words r.longer;
      stands = stands (flow command base r.longer source given) r.stands;
      lands = lands_more part base run r.longer (onto words r.longer) old middle new r.lands (lands (flow command base r.longer source given) r.stands);
      later = r.later ∙ ap (after count) (written_some part base r.longer words rest (passes (flow command base r.longer source given) r.stands))
          ∙ ap (λ n. record (run_written part base (onto words r.longer) rest) { count = n }) (omega arith);
    }

-- ---- the words of a frame

-- what comes of words that complete no frame: the rest has them more, and the memory stays
pub record Within (part : PartData) (p : PipelineData) (memory : FrameMap) (command : Command) (base : ℕ) (run : List ℕ) (source : Option (List ℕ)) (given : ℕ) (words : List ℕ) : Type 0 where
  pub stands : StandsFor part (record p { rest = p.rest ++ words }) command base (onto words run) source given
  pub lands : Lands part base run (onto words run) memory memory
  pub passes : (run_written part base run words).fault ≡ None

passes_next : (part : PartData) (base w : ℕ) (run words : List ℕ) → None ≡ write_fault part base run → (run_written part base (w ∷ run) words).fault ≡ None → (run_written part base run (w ∷ words)).fault ≡ None
passes_next part base w run words e f = ap (λ (x : RunWritten). x.fault) (written_next part base w run words e) ∙ f

pub within : (part : PartData) (p : PipelineData) (memory : FrameMap) (command : Command) (base : ℕ) (run : List ℕ) (source : Option (List ℕ)) (given : ℕ) (words : List ℕ) →
    StandsFor part p command base run source given → (p.frame_count ≡ 0 → length p.rest ≡ 0 → is_frame_address part p.base ≡ true) → length p.rest + length words < p.width →
    Within part p memory command base run source given words
unfolding run_written
within part p memory command base run source given [] s first short = record {
  stands = rw (append-nil p.rest) s;
  lands = lands_none part base run memory memory (λ far. refl);
  passes = refl;
}
within part p memory command base run source given (w ∷ words) s first short =
    let q : PipelineData = record p { rest = p.rest ++ w ∷ [] } in
    let more : length (p.rest ++ w ∷ []) ≡ length p.rest + 1 = length-append p.rest (w ∷ []) in
    let next = goes_on part p q w command base run source given s (omega arith) refl in
    let r : Within part q memory command base (w ∷ run) source given words =
    within part q memory command base (w ∷ run) source given words next (λ none no_rest. absurd (omega arith)) (omega arith) in
    let joined : p.rest ++ w ∷ words ≡ (p.rest ++ w ∷ []) ++ words = sym (append_assoc p.rest (w ∷ []) words) in
    record {
      stands = rw joined r.stands;
      lands = lands_more part base run (w ∷ run) (onto words (w ∷ run)) memory memory memory
          (lands_nothing part p w command base run source given memory memory s (omega arith) (λ far. refl)) r.lands;
      passes = passes_next part base w run words (write_allowed part p command base run source given s first (λ full. absurd (omega arith))) r.passes;
    }

pub onto_last : (words run : List ℕ) (w : ℕ) → onto (words ++ w ∷ []) run ≡ w ∷ onto words run
onto_last [] run w = refl
onto_last (v ∷ words) run w = onto_last words (v ∷ run) w

pub record Front (words : List ℕ) : Type 0 where
  pub prefix : List ℕ
  pub last : ℕ
  pub are : words ≡ prefix ++ last ∷ []

pub prefix_of : (words : List ℕ) → 0 < length words → Front words
prefix_of [] h = absurd (omega arith)
prefix_of (w ∷ []) h = record { prefix = []; last = w; are = refl }
prefix_of (w ∷ v ∷ words) h =
    let f : Front (v ∷ words) = prefix_of (v ∷ words) (omega arith) in
    record { prefix = w ∷ f.prefix; last = f.last; are = ap (λ t. w ∷ t) f.are }

-- what comes of words that are all taken: the flow with them, and the frames that land
pub record Whole (part : PartData) (q : PipelineData) (old new : FrameMap) (command : Command) (base : ℕ) (run : List ℕ) (source : Option (List ℕ)) (given : ℕ) (frame : List ℕ) : Type 0 where
  pub stands : StandsFor part q command base (onto frame run) source given
  pub lands : Lands part base run (onto frame run) old new
  pub passes : (run_written part base run frame).fault ≡ None

pub whole : (part : PartData) (p q : PipelineData) (old new : FrameMap) (command : Command) (base : ℕ) (run : List ℕ) (source : Option (List ℕ)) (given : ℕ) (frame : List ℕ) →
    StandsFor part p command base run source given → p.rest ≡ [] → length frame ≡ p.width → p.frame_count < length (slots_from part p.base) →
    q ≡ record p { newest = Some frame; frame_count = p.frame_count + 1 } → (p.newest ≡ None → HaveSameFrames new old) →
    ((kept : List ℕ) → p.newest ≡ Some kept → HaveSameFrames new (put_over (at_slot (get_or (slots_from part p.base) (p.frame_count - 1) End) kept []) old)) →
    Whole part q old new command base run source given frame
unfolding run_written
whole part p q old new command base run source given frame s begins wide slot e none some =
    let nothing : length p.rest ≡ 0 = ap length begins in
    let positive = s.some_words in
    let f : Front frame = prefix_of frame (omega arith) in
    let long : length frame ≡ length f.prefix + 1 = ap length f.are ∙ length-append f.prefix (f.last ∷ []) in
    let first : p.frame_count ≡ 0 → length p.rest ≡ 0 → is_frame_address part p.base ≡ true = λ a b. lt-ltb 0 (length (slots_from part p.base)) (omega arith) in
    let w : Within part p old command base run source given f.prefix = within part p old command base run source given f.prefix s first (omega arith) in
    let m : PipelineData = record p { rest = p.rest ++ f.prefix } in
    let filled : length (p.rest ++ f.prefix) ≡ length p.rest + length f.prefix = length-append p.rest f.prefix in
    let same : onto frame run ≡ f.last ∷ onto f.prefix run = ap (λ t. onto t run) f.are ∙ onto_last f.prefix run f.last in
    let base_is = s.base_is in
    let is_whole : (p.rest ++ f.prefix) ++ f.last ∷ [] ≡ frame = ap (λ t. (t ++ f.prefix) ++ f.last ∷ []) begins ∙ sym f.are in
    let made : q ≡ record m { rest = []; newest = Some (m.rest ++ f.last ∷ []); frame_count = m.frame_count + 1 } =
    e ∙ ap (λ t. record p { rest = t; newest = Some frame; frame_count = p.frame_count + 1 }) begins
    ∙ ap (λ t. record p { rest = []; newest = Some t; frame_count = p.frame_count + 1 }) (sym is_whole) in
    let here : p.frame_count < length (slots_from part base) = rw (← base_is) slot in
    record {
      stands = rw same (completes_frame part m q f.last command base (onto f.prefix run) source given w.stands (omega arith) here made);
      lands = rw same (lands_more part base run (onto f.prefix run) (f.last ∷ onto f.prefix run) old old new w.lands
          (lands_frame part m f.last command base (onto f.prefix run) source given old new w.stands (omega arith) none some));
      passes = rw f.are (ap (λ (x : RunWritten). x.fault) (written_some part base run f.prefix (f.last ∷ []) w.passes)
          ∙ passes_next part base f.last (onto f.prefix run) []
          (write_allowed part m command base (onto f.prefix run) source given w.stands (λ a b. lt-ltb 0 (length (slots_from part p.base)) (omega arith)) (λ full. slot)) refl);
    }

-- ---- frames one after the other

-- whatever flow the pipeline stood for, it took all of `words`, which are whole frames
abbrev pub WritesFrames : PartData → PipelineData → PipelineData → FrameMap → FrameMap → List ℕ → Type 0
WritesFrames part p q old new words =
    (command : Command) (base : ℕ) (run : List ℕ) (source : Option (List ℕ)) (given : ℕ) → StandsFor part p command base run source given →
    Whole part q old new command base run source given words

pub onto_more : (first second run : List ℕ) → onto (first ++ second) run ≡ onto second (onto first run)
onto_more [] second run = refl
onto_more (w ∷ first) second run = onto_more first second (w ∷ run)

pub went_more : (part : PartData) (p q r : PipelineData) (old middle new : FrameMap) (first second all : List ℕ) → all ≡ first ++ second →
    WritesFrames part p q old middle first → WritesFrames part q r middle new second → WritesFrames part p r old new all
went_more part p q r old middle new first second all e before later command base run source given s =
    let a : Whole part q old middle command base run source given first = before command base run source given s in
    let b : Whole part r middle new command base (onto first run) source given second = later command base (onto first run) source given a.stands in
    let same : onto all run ≡ onto second (onto first run) = ap (λ t. onto t run) e ∙ onto_more first second run in
    record {
      stands = rw same b.stands;
      lands = rw same (lands_more part base run (onto first run) (onto second (onto first run)) old middle new a.lands b.lands);
      passes = ap (λ t. (run_written part base run t).fault) e ∙ ap (λ (x : RunWritten). x.fault) (written_some part base run first second a.passes) ∙ b.passes;
    }

-- a word that isn't refused is written
pub passes_one : (part : PartData) (base w : ℕ) (run : List ℕ) → None ≡ write_fault part base run → (run_written part base run (w ∷ [])).fault ≡ None
passes_one part base w run e = passes_next part base w run [] e (ap (λ (x : RunWritten). x.fault) (written_end part base (w ∷ run)))

-- ---- words of a slice

pub words_from : (at n : ℕ) (bs : List ℕ) → n % 4 ≡ 0 → n ≤ length (drop at bs) → words_of_bytes (drop at bs) ≡ words_of_bytes (take n (drop at bs)) ++ words_of_bytes (drop (at + n) bs)
words_from at n bs e h =
    let k : n / 4 * 4 ≡ n = omega arith in
    let split : words_of_bytes (drop at bs) ≡ words_of_bytes (take (n / 4 * 4) (drop at bs)) ++ words_of_bytes (drop (n / 4 * 4) (drop at bs)) = words_apart (n / 4) (drop at bs) (omega arith) in
    split ∙ ap (λ m. words_of_bytes (take m (drop at bs)) ++ words_of_bytes (drop m (drop at bs))) k
    ∙ ap (λ t. words_of_bytes (take n (drop at bs)) ++ words_of_bytes t) (drop-drop n at bs)

pub words_taken : (at n : ℕ) (bs : List ℕ) → at % 4 ≡ 0 → at + n ≤ length bs → words_of_bytes (take (at + n) bs) ≡ words_of_bytes (take at bs) ++ words_of_bytes (take n (drop at bs))
words_taken at n bs e h =
    let long : length (take at bs) ≡ at = length-take-le at bs (omega arith) in
    ap words_of_bytes (take-add at n bs) ∙ words_of_bytes_append (at / 4) (take at bs) (take n (drop at bs)) (omega arith)

-- the first word of a slice
pub first_word : (bs : List ℕ) (w : ℕ) → 4 ≤ length bs → w ≡ word_of_bytes (get_or bs 0 0 ∷ get_or bs 1 0 ∷ get_or bs 2 0 ∷ get_or bs 3 0 ∷ []) → w ∷ [] ≡ words_of_bytes (take 4 bs)
first_word [] w h e = absurd (omega arith)
first_word (a ∷ []) w h e = absurd (omega arith)
first_word (a ∷ b ∷ []) w h e = absurd (omega arith)
first_word (a ∷ b ∷ c ∷ []) w h e = absurd (omega arith)
first_word (a ∷ b ∷ c ∷ d ∷ bs) w h e = ap (λ v. v ∷ []) e

pub frame_wide : (n : ℕ) (bs : List ℕ) → 4 * n ≤ length bs → length (words_of_bytes (take (4 * n) bs)) ≡ n
frame_wide n bs h = let long : length (take (4 * n) bs) ≡ 4 * n = length-take-le (4 * n) bs h in words_count (take (4 * n) bs) ∙ (omega arith)

-- ---- on the way through a slice

pub goes_bytes : (part : PartData) (start now next : PipelineData) (old middle new : FrameMap) (all bs : List ℕ) (at n : ℕ) →
    ReachesRun part start now old middle all (words_of_bytes (drop at bs)) (at / 4) → at % 4 ≡ 0 → n % 4 ≡ 0 → n ≤ length (drop at bs) →
    ((f : Flow) → HoldsFlow part now f → HoldsFlow part next (with_run (onto (words_of_bytes (take n (drop at bs))) f.run) f)) →
    ((f : Flow) → HoldsFlow part now f → Lands part f.base f.run (onto (words_of_bytes (take n (drop at bs))) f.run) middle new) →
    ((f : Flow) → HoldsFlow part now f → (run_written part f.base f.run (words_of_bytes (take n (drop at bs)))).fault ≡ None) →
    ReachesRun part start next old new all (words_of_bytes (drop (at + n) bs)) ((at + n) / 4)
goes_bytes part start now next old middle new all bs at n before a b h stands lands passes =
    let words = words_of_bytes (take n (drop at bs)) in
    let long : length (take n (drop at bs)) ≡ n = length-take-le n (drop at bs) h in
    let count : length words ≡ n / 4 = words_count (take n (drop at bs)) ∙ ap (λ k. k / 4) long in
    let sum : at / 4 + length words ≡ (at + n) / 4 = omega arith in
    rw (← sum) (goes_some part start now next old middle new all words (words_of_bytes (drop (at + n) bs)) (at / 4)
    (rw (← words_from at n bs b h) before) stands lands passes)

-- on the way through a slice, where the bytes that are left are given
pub goes_left : (part : PartData) (start now next : PipelineData) (old middle new : FrameMap) (all bs left : List ℕ) (at n : ℕ) → left ≡ drop at bs →
    ReachesRun part start now old middle all (words_of_bytes (drop at bs)) (at / 4) → at % 4 ≡ 0 → n % 4 ≡ 0 → n ≤ length left →
    ((f : Flow) → HoldsFlow part now f → HoldsFlow part next (with_run (onto (words_of_bytes (take n left)) f.run) f)) →
    ((f : Flow) → HoldsFlow part now f → Lands part f.base f.run (onto (words_of_bytes (take n left)) f.run) middle new) →
    ((f : Flow) → HoldsFlow part now f → (run_written part f.base f.run (words_of_bytes (take n left))).fault ≡ None) →
    ReachesRun part start next old new all (words_of_bytes (drop (at + n) bs)) ((at + n) / 4)
goes_left part start now next old middle new all bs left at n e before a b h stands lands passes =
    goes_bytes part start now next old middle new all bs at n before a b (rw e at h) (rw e at stands) (rw e at lands) (rw e at passes)

-- all bytes are taken
pub goes_through : (part : PartData) (start now : PipelineData) (old new : FrameMap) (all bs : List ℕ) (at : ℕ) →
    ReachesRun part start now old new all (words_of_bytes (drop at bs)) (at / 4) → length bs ≤ at → ReachesRun part start now old new all [] (at / 4)
goes_through part start now old new all bs at goes h = rw (ap words_of_bytes (sym (drop_all at bs h))) goes

-- the first word of bytes, and the words after it
pub record Next (bs : List ℕ) : Type 0 where
  pub word : ℕ
  pub later : List ℕ
  pub are : words_of_bytes bs ≡ word ∷ later

pub next_of : (bs : List ℕ) → 4 ≤ length bs → Next bs
next_of [] h = absurd (omega arith)
next_of (a ∷ []) h = absurd (omega arith)
next_of (a ∷ b ∷ []) h = absurd (omega arith)
next_of (a ∷ b ∷ c ∷ []) h = absurd (omega arith)
next_of (a ∷ b ∷ c ∷ d ∷ bs) h = record { word = word_of_bytes (a ∷ b ∷ c ∷ d ∷ []); later = words_of_bytes bs; are = refl }

-- what was written where the next word is refused
pub refused_here : (part : PartData) (base : ℕ) (run longer all bs : List ℕ) (at : ℕ) (fault : RunFault) → run_written part base run all ≡ after (at / 4) (run_written part base longer (words_of_bytes (drop at bs))) →
    at % 4 ≡ 0 → 4 ≤ length (drop at bs) → Some fault ≡ write_fault part base longer → run_written part base run all ≡ record { run = longer; count = at / 4 + 1; fault = Some fault }
refused_here part base run longer all bs at fault e a h f =
    let n : Next (drop at bs) = next_of (drop at bs) h in
    ends_refused part base n.word run longer all n.later (at / 4) fault (e ∙ ap (λ t. after (at / 4) (run_written part base longer t)) n.are) f
