-- Lines of frames, some written at once.
use Rattle.std.proofs.Common.{◌≡◌, ◌++◌, ℕ, Bool, List, [], Option, codes, decimal, length, take, drop, refl, sym, ap, subst, ◌∙◌, append_assoc, append-nil}
use Rattle.std.proofs.lemmas.Grind.{flat_map-append}
use Rattle.std.proofs.lemmas.List.{take-append-drop}
use Rattle.std.specs.List.{flat_map}
use Rattle.x7_words.specs.Sink.{appended, PutsPrefix}
use Rattle.x7_words.proofs.SinkLemmas.{appended_nil, appended_appended, prefix_more, begins_more}
use Rattle.x7_part.specs.AddressOrder.{addresses_in}
use Rattle.x7_part.specs.Part.{PartData}
use Rattle.x7_memory.specs.FrameMap.{HaveSameFrames, FrameMap}
use Rattle.x7_memory.specs.PartFrames.{frame_at}
use Rattle.x7_engine.specs.declared.snapshot.Snapshot.{Snapshot}
use Rattle.x7_engine.specs.declared.kept.Kept.{Kept}
use Rattle.x7_engine.specs.Past.{past_of, state_owing_at}
use Rattle.x7_engine.specs.Standing.{DeviceState, NoWordDue, frames_due}
use Rattle.x7_engine.specs.State.{state_of}
use Rattle.x7_engine.proofs.FrameLemmas.{none_frames}
use Rattle.x7_engine.proofs.ShownLemmas.{state_now}
use Rattle.x7_report.specs.Frames.{AreRanksShown, addresses_shown, frames_text, lines_of_ranks}
use Rattle.x7_report.specs.Reads.{reads_text}
use Rattle.x7_report.specs.Reports.{report_head, report_text}
use Rattle.x7_report.specs.State.{state_text}
use Rattle.x7_report.proofs.ReportLemmas.{frames_same}

-- the lines of all but the rest were written
pub record Sent (first now : Option (List ℕ)) (line : ℕ → List ℕ) (ranks rest : List ℕ) : Type 0 where
  pub done : List ℕ
  pub put : now ≡ appended first done
  pub lines : flat_map line ranks ≡ done ++ flat_map line rest

pub none_sent : (first : Option (List ℕ)) (line : ℕ → List ℕ) (ranks : List ℕ) → Sent first first line ranks ranks
none_sent first line ranks = record { done = []; put = sym (appended_nil first); lines = refl }

parted : (line : ℕ → List ℕ) (k : ℕ) (rest group more : List ℕ) → group ≡ take k rest → more ≡ drop k rest → flat_map line rest ≡ flat_map line group ++ flat_map line more
parted line k rest group more e f =
    ap (flat_map line) (sym (take-append-drop k rest)) ∙ flat_map-append line (take k rest) (drop k rest)
    ∙ ap (λ t. flat_map line t ++ flat_map line (drop k rest)) (sym e) ∙ ap (λ t. flat_map line group ++ flat_map line t) (sym f)

module _ (first now : Option (List ℕ)) (line : ℕ → List ℕ) (ranks rest group more : List ℕ) (k : ℕ) (g : Sent first now line ranks rest) (e : group ≡ take k rest) (f : more ≡ drop k rest) where
  pub more_sent : (next : Option (List ℕ)) → next ≡ appended now (flat_map line group) → Sent first next line ranks more
  more_sent next p = record {
    done = g.done ++ flat_map line group;
    put = p ∙ ap (λ t. appended t (flat_map line group)) g.put ∙ appended_appended first g.done (flat_map line group);
    lines = g.lines ∙ ap (λ t. g.done ++ t) (parted line k rest group more e f) ∙ sym (append_assoc g.done (flat_map line group) (flat_map line more));
  }

  pub next_failed : (next : Option (List ℕ)) → PutsPrefix now (flat_map line group) next → PutsPrefix first (flat_map line ranks) next
  next_failed next p = rw (g.lines, parted line k rest group more e f) (prefix_more first now next g.done (flat_map line group) (flat_map line more) g.put p)

-- a text that was put after a head
pub after_head : (first mid new : Option (List ℕ)) (head lines : List ℕ) → mid ≡ appended first head → new ≡ appended mid lines → new ≡ appended first (head ++ lines)
after_head first mid new head lines e f = f ∙ ap (λ t. appended t lines) e ∙ appended_appended first head lines

pub lines_failed : (first mid new : Option (List ℕ)) (head lines : List ℕ) → mid ≡ appended first head → PutsPrefix mid lines new → PutsPrefix first (head ++ lines) new
lines_failed first mid new head lines e p = rw (ap (λ t. head ++ t) (sym (append-nil lines))) (prefix_more first mid new head lines [] e p)

-- ---- the whole report

after : (prefix a b c d : List ℕ) → prefix ++ a ++ b ++ c ++ d ≡ prefix ++ (a ++ b ++ c ++ d)
after prefix a b c d =
    ap (λ t. t ++ c ++ d) (append_assoc prefix a b) ∙ ap (λ t. t ++ d) (append_assoc prefix (a ++ b) c) ∙ append_assoc prefix (a ++ b ++ c) d

-- a state, words read out and a number of frames that were put one after the other are what a report has before the
-- lines of its frames
pub head_is : (name part_name : List ℕ) (snapshot state : Snapshot) (reads old first second third : List ℕ) (count : ℕ) → name ≡ part_name → snapshot ≡ state → first ≡ old ++ state_text name snapshot → second ≡ first ++ reads_text reads
    → third ≡ second ++ codes "frames " ++ decimal count ++ codes "\n" → third ≡ old ++ (state_text part_name state ++ reads_text reads ++ codes "frames " ++ decimal count ++ codes "\n")
head_is name part_name snapshot state reads old first second third count a b e f g =
    let shown = state_text part_name state in
    g ∙ ap (λ (t : List ℕ). t ++ codes "frames " ++ decimal count ++ codes "\n") (f ∙ ap (λ (t : List ℕ). t ++ reads_text reads) (e ∙ ap (λ (x : List ℕ). old ++ state_text x snapshot) a ∙ ap (λ (x : Snapshot). old ++ state_text part_name x) b))
    ∙ ap (λ (t : List ℕ). t ++ codes "\n") (after old shown (reads_text reads) (codes "frames ") (decimal count)) ∙ append_assoc old (shown ++ reads_text reads ++ codes "frames " ++ decimal count) (codes "\n")

play_is : (part : PartData) (state : Snapshot) (reads : List ℕ) (frames : List (List ℕ)) (n : FrameMap) (ranks : List ℕ) → HaveSameFrames (frame_at part frames) n → AreRanksShown part frames (addresses_in part) ranks →
    report_head part state reads (length ranks) ++ lines_of_ranks part frames ranks ≡ report_text part state reads n
unfolding report_text frames_text
play_is part state reads frames n ranks same shown =
    let prefix = state_text part.name state ++ reads_text reads in
    let m = frame_at part frames in
    after prefix (codes "frames ") (decimal (length ranks)) (codes "\n") (lines_of_ranks part frames ranks)
    ∙ ap (λ (count : ℕ). prefix ++ (codes "frames " ++ decimal count ++ codes "\n" ++ lines_of_ranks part frames ranks)) shown.count
    ∙ ap (λ (t : List ℕ). prefix ++ (codes "frames " ++ decimal (length (addresses_shown m (addresses_in part))) ++ codes "\n" ++ t)) shown.lines
    ∙ ap (λ (t : List ℕ). prefix ++ t) (frames_same m n (addresses_in part) same)

-- the text after which a report begins, and then the whole report
pub begun_is : (part : PartData) (state : Snapshot) (reads : List ℕ) (frames : List (List ℕ)) (n : FrameMap) (old head ranks : List ℕ) → HaveSameFrames (frame_at part frames) n → AreRanksShown part frames (addresses_in part) ranks
    → head ≡ old ++ report_head part state reads (length ranks) → head ++ lines_of_ranks part frames ranks ≡ old ++ report_text part state reads n
begun_is part state reads frames n old head ranks same shown h =
    let lines = lines_of_ranks part frames ranks in
    ap (λ (t : List ℕ). t ++ lines) h ∙ append_assoc old (report_head part state reads (length ranks)) lines ∙ ap (λ (t : List ℕ). old ++ t) (play_is part state reads frames n ranks same shown)

-- where no word is due, the state reported is that of the bytes
pub owing_none : (part : PartData) (kept : Kept) (wrapped : Bool) (bytes : List ℕ) (d : DeviceState) → NoWordDue d → state_owing_at (past_of part kept wrapped bytes) (frames_due d.registers.values.due) ≡ state_of part kept wrapped bytes
owing_none part kept wrapped bytes d none = ap (state_owing_at (past_of part kept wrapped bytes)) (none_frames d.registers.values.due none) ∙ state_now part kept wrapped bytes

-- ---- a report that is written

pub joined : (p q : PartData) (frames memory : List (List ℕ)) (head kept ranks places : List ℕ) → p ≡ q → frames ≡ memory → head ≡ kept → ranks ≡ places →
    head ++ lines_of_ranks p frames ranks ≡ kept ++ lines_of_ranks q memory places
joined p q frames memory head kept ranks places a b e f =
    ap (λ (t : List ℕ). t ++ lines_of_ranks p frames ranks) e ∙ ap (λ (x : PartData). kept ++ lines_of_ranks x frames ranks) a
    ∙ ap (λ (x : List (List ℕ)). kept ++ lines_of_ranks q x ranks) b ∙ ap (λ (x : List ℕ). kept ++ lines_of_ranks q memory x) f

pub report_failed : (first mid new : Option (List ℕ)) (p q : PartData) (frames memory : List (List ℕ)) (head kept ranks places text : List ℕ) → p ≡ q → frames ≡ memory → head ≡ kept → ranks ≡ places →
    kept ++ lines_of_ranks q memory places ≡ text → mid ≡ appended first head → PutsPrefix mid (lines_of_ranks p frames ranks) new → PutsPrefix first text new
report_failed first mid new p q frames memory head kept ranks places text a b e f t put failed =
    let whole : head ++ lines_of_ranks p frames ranks ≡ text = joined p q frames memory head kept ranks places a b e f ∙ t in
    rw (← whole) (lines_failed first mid new head (lines_of_ranks p frames ranks) put failed)

pub report_whole : (first mid new : Option (List ℕ)) (p q : PartData) (frames memory : List (List ℕ)) (head kept ranks places text : List ℕ) → p ≡ q → frames ≡ memory → head ≡ kept → ranks ≡ places →
    kept ++ lines_of_ranks q memory places ≡ text → mid ≡ appended first head → new ≡ appended mid (lines_of_ranks p frames ranks) → new ≡ appended first text
report_whole first mid new p q frames memory head kept ranks places text a b e f t put lines =
    after_head first mid new head (lines_of_ranks p frames ranks) put lines ∙ ap (appended first) (joined p q frames memory head kept ranks places a b e f ∙ t)

-- a prefix of a report's head is one of the report
pub report_began : (first new : Option (List ℕ)) (head kept lines text : List ℕ) → head ≡ kept → kept ++ lines ≡ text → PutsPrefix first head new → PutsPrefix first text new
report_began first new head kept lines text e t p = subst (λ (x : List ℕ). PutsPrefix first x new) (ap (λ (h : List ℕ). h ++ lines) e ∙ t) (begins_more first new head lines p)
