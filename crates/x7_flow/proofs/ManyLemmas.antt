-- Many words of frame data, and a history that goes on in parts.
use Rattle.std.proofs.Common.{◌≡◌, ℕ, ◌+◌, Bool, true, false, if◌then◌else◌, List, [], ◌∷◌, ◌++◌, Option, None, refl, sym, ap, subst, ◌∙◌, append_assoc, append-nil}
use Rattle.x7_packets.specs.History.{Access, Write, History, command_held, entered_all, entry}
use Rattle.x7_packets.specs.Packet.{payload_steps}
use Rattle.x7_part.specs.Part.{PartData}
use Rattle.x7_memory.specs.FrameMap.{FrameMap, HaveSameFrames}
use Rattle.x7_memory.specs.Plan.{PlanRow}
use Rattle.x7_pipeline.specs.Runs.{written_frames, onto, put_over, Lands}
use Rattle.x7_pipeline.specs.Copies.{is_mfw}
use Rattle.x7_pipeline.proofs.LawLemmas.{landed_empty, lands_more, lands_none}
use Rattle.x7_regs.specs.Command.{command_with}
use Rattle.x7_flow.specs.Asking.{Asked, AddsWord, NothingAsked}
use Rattle.x7_flow.specs.Settings.{Settings, settings_of, settings_after, settings_from, takes_frames}
use Rattle.x7_flow.specs.HistoryFlow.{Flow, asked_under, base_of, flow_by, flow_of, run_of}
use Rattle.x7_flow.specs.FrameMemory.{written_frames_more, memory_of, pairs_put}
use Rattle.x7_flow.specs.Later.{flow_from, pairs_from, pairs_loaded}
use Rattle.x7_flow.proofs.FlowLemmas.{flow_more, flow_sound, landed_grows, memory_after_load, memory_more, pairs_same}

-- ---- words of frame data after a history

pub words_settings : (idcode n : ℕ) (ws : List ℕ) (h : History) → settings_of idcode (entered_all n (payload_steps 2 ws) h) ≡ settings_of idcode h
words_settings idcode n [] h = refl
words_settings idcode n (w ∷ ws) h = words_settings idcode (n + 4) ws (entry (Write 2 w) (n + 4) ∷ h)

pub word_asked : (s : Settings) (w : ℕ) → takes_frames s ≡ true → asked_under s (Write 2 w) ≡ AddsWord w
word_asked s w t = ap (λ (b : Bool). if b then AddsWord w else NothingAsked) t

pub word_flow : (part : PartData) (w place : ℕ) (h : History) → takes_frames (settings_of part.idcode h) ≡ true → flow_of part (entry (Write 2 w) place ∷ h) ≡ record (flow_of part h) { run = w ∷ run_of part h }
word_flow part w place h t = flow_more part (entry (Write 2 w) place) h ∙ ap (λ (a : Asked). flow_by part a (flow_of part h)) (word_asked (settings_of part.idcode h) w t)

pub words_flow : (part : PartData) (n : ℕ) (ws : List ℕ) (h : History) → takes_frames (settings_of part.idcode h) ≡ true →
    flow_of part (entered_all n (payload_steps 2 ws) h) ≡ record (flow_of part h) { run = onto ws (run_of part h) }
words_flow part n [] h t = refl
words_flow part n (w ∷ ws) h t =
    words_flow part (n + 4) ws (entry (Write 2 w) (n + 4) ∷ h) t ∙ ap (λ (f : Flow). record f { run = onto ws f.run }) (word_flow part w (n + 4) h t)

word_lands : (part : PartData) (w place : ℕ) (h : History) → takes_frames (settings_of part.idcode h) ≡ true →
    Lands part (base_of part h) (run_of part h) (w ∷ run_of part h) (memory_of part h) (memory_of part (entry (Write 2 w) place ∷ h))
word_lands part w place h t = record {
  added = written_frames_more part (base_of part h) (run_of part h);
  grows = landed_grows part (base_of part h) w (run_of part h);
  memory = λ far.
      memory_more part (entry (Write 2 w) place) h far
      ∙ ap (λ (a : Asked). put_over (pairs_put part a (flow_of part h)) (memory_of part h) far) (word_asked (settings_of part.idcode h) w t);
}

pub words_land : (part : PartData) (n : ℕ) (ws : List ℕ) (h : History) → takes_frames (settings_of part.idcode h) ≡ true →
    Lands part (base_of part h) (run_of part h) (onto ws (run_of part h)) (memory_of part h) (memory_of part (entered_all n (payload_steps 2 ws) h))
words_land part n [] h t = lands_none part (base_of part h) (run_of part h) (memory_of part h) (memory_of part h) (λ far. refl)
words_land part n (w ∷ ws) h t =
    let now : History = entry (Write 2 w) (n + 4) ∷ h in
    let end : FrameMap = memory_of part (entered_all (n + 4) (payload_steps 2 ws) now) in
    let later : Lands part (base_of part h) (w ∷ run_of part h) (onto ws (w ∷ run_of part h)) (memory_of part now) end =
    subst (λ (f : Flow). Lands part f.base f.run (onto ws f.run) (memory_of part now) end) (word_flow part w (n + 4) h t) (words_land part (n + 4) ws now t) in
    lands_more part (base_of part h) (run_of part h) (w ∷ run_of part h) (onto ws (w ∷ run_of part h)) (memory_of part h) (memory_of part now) end (word_lands part w (n + 4) h t) later

-- ---- a history that goes on in two parts

pub settings_twice : (idcode : ℕ) (s : Settings) (later middle : History) → settings_from idcode s (later ++ middle) ≡ settings_from idcode (settings_from idcode s middle) later
unfolding settings_from
settings_twice idcode s [] middle = refl
settings_twice idcode s (e ∷ later) middle = ap (settings_after idcode e.access) (settings_twice idcode s later middle)

step_same : (part : PartData) (access : Access) (s t : Settings) (f g : Flow) → s ≡ t → f ≡ g → flow_by part (asked_under s access) f ≡ flow_by part (asked_under t access) g
step_same part access s t f g e d = ap (λ (x : Settings). flow_by part (asked_under x access) f) e ∙ ap (flow_by part (asked_under t access)) d

pub flow_twice : (part : PartData) (s : Settings) (f : Flow) (later middle : History) →
    flow_from part s f (later ++ middle) ≡ flow_from part (settings_from part.idcode s middle) (flow_from part s f middle) later
unfolding flow_from
flow_twice part s f [] middle = refl
flow_twice part s f (e ∷ later) middle = step_same part e.access _ _ _ _ (settings_twice part.idcode s later middle) (flow_twice part s f later middle)

pub pairs_twice : (part : PartData) (s : Settings) (f : Flow) (later middle : History) →
    pairs_from part s f (later ++ middle) ≡ pairs_from part (settings_from part.idcode s middle) (flow_from part s f middle) later ++ pairs_from part s f middle
unfolding pairs_from
pairs_twice part s f [] middle = refl
pairs_twice part s f (e ∷ later) middle =
    let t : Settings = settings_from part.idcode s middle in
    let g : Flow = flow_from part s f middle in
    let first : List PlanRow = pairs_put part (asked_under (settings_from part.idcode t later) e.access) (flow_from part t g later) in
    let same : pairs_put part (asked_under (settings_from part.idcode s (later ++ middle)) e.access) (flow_from part s f (later ++ middle)) ≡ first =
    pairs_same part e.access _ _ _ _ (settings_twice part.idcode s later middle) (flow_twice part s f later middle) in
    ap (λ (ps : List PlanRow). ps ++ pairs_from part s f (later ++ middle)) same
    ∙ ap (λ (ps : List PlanRow). first ++ ps) (pairs_twice part s f later middle)
    ∙ sym (append_assoc first (pairs_from part t g later) (pairs_from part s f middle))

-- ---- words of frame data of a history that goes on

-- a word of frame data more: the run has it too, and the pairs by which the written frames grow come first
word_pairs : (part : PartData) (s : Settings) (f : Flow) (w place : ℕ) (later : History) → takes_frames (settings_from part.idcode s later) ≡ true →
    (flow_from part s f (entry (Write 2 w) place ∷ later) ≡ record (flow_from part s f later) { run = w ∷ (flow_from part s f later).run })
    × (pairs_from part s f (entry (Write 2 w) place ∷ later) ≡ written_frames_more part (flow_from part s f later).base (flow_from part s f later).run ++ pairs_from part s f later)
unfolding flow_from pairs_from
word_pairs part s f w place later t = (
  ap (λ (a : Asked). flow_by part a (flow_from part s f later)) (word_asked (settings_from part.idcode s later) w t),
  ap (λ (a : Asked). pairs_put part a (flow_from part s f later) ++ pairs_from part s f later) (word_asked (settings_from part.idcode s later) w t),
)

-- pairs put by words of frame data, and the pairs by which the written frames grow
pub record Grown (part : PartData) (base : ℕ) (run longer : List ℕ) (old new : List PlanRow) : Type 0 where
  pub added : List PlanRow
  pub grows : written_frames part base longer ≡ added ++ written_frames part base run
  pub pairs : new ≡ added ++ old

word_settings : (idcode w place : ℕ) (s : Settings) (later : History) → settings_from idcode s (entry (Write 2 w) place ∷ later) ≡ settings_from idcode s later
unfolding settings_from
word_settings idcode w place s later = refl

words_grow : (part : PartData) (s : Settings) (f : Flow) (n : ℕ) (ws : List ℕ) (later : History) → takes_frames (settings_from part.idcode s later) ≡ true →
    Grown part (flow_from part s f later).base (flow_from part s f later).run (onto ws (flow_from part s f later).run) (pairs_from part s f later) (pairs_from part s f (entered_all n (payload_steps 2 ws) later))
words_grow part s f n [] later t = record { added = []; grows = refl; pairs = refl }
words_grow part s f n (w ∷ ws) later t =
    let now : History = entry (Write 2 w) (n + 4) ∷ later in
    let g : Flow = flow_from part s f later in
    let step = word_pairs part s f w (n + 4) later t in
    let end : List PlanRow = pairs_from part s f (entered_all (n + 4) (payload_steps 2 ws) now) in
    let more : Grown part g.base (w ∷ g.run) (onto ws (w ∷ g.run)) (pairs_from part s f now) end =
    subst (λ (x : Flow). Grown part x.base x.run (onto ws x.run) (pairs_from part s f now) end) step.0 (words_grow part s f (n + 4) ws now (ap takes_frames (word_settings part.idcode w (n + 4) s later) ∙ t)) in
    record {
      added = more.added ++ written_frames_more part g.base g.run;
      grows = more.grows ∙ ap (λ (ps : List PlanRow). more.added ++ ps) (landed_grows part g.base w g.run) ∙ sym (append_assoc more.added (written_frames_more part g.base g.run) (written_frames part g.base g.run));
      pairs = more.pairs ∙ ap (λ (ps : List PlanRow). more.added ++ ps) step.1 ∙ sym (append_assoc more.added (written_frames_more part g.base g.run) (pairs_from part s f later));
    }

pub words_pairs : (part : PartData) (s : Settings) (f : Flow) (n : ℕ) (ws : List ℕ) (later : History) → takes_frames (settings_from part.idcode s later) ≡ true → (flow_from part s f later).run ≡ [] →
    pairs_from part s f (entered_all n (payload_steps 2 ws) later) ≡ written_frames part (flow_from part s f later).base (onto ws []) ++ pairs_from part s f later
words_pairs part s f n ws later t none =
    let g : Flow = flow_from part s f later in
    let more = words_grow part s f n ws later t in
    let added : written_frames part g.base (onto ws []) ≡ more.added =
    ap (λ (run : List ℕ). written_frames part g.base (onto ws run)) (sym none) ∙ more.grows ∙ ap (λ (run : List ℕ). more.added ++ written_frames part g.base run) none
    ∙ ap (λ (ps : List PlanRow). more.added ++ ps) (landed_empty part g.base) ∙ append-nil more.added in
    more.pairs ∙ ap (λ (ps : List PlanRow). ps ++ pairs_from part s f later) (sym added)

-- ---- after a load under another command than MFW no frame is older

pub memory_after_load_alone : (part : PartData) (later earlier : History) (w place : ℕ) → is_mfw (command_with (command_held earlier)) ≡ false →
    HaveSameFrames (memory_of part (later ++ entry (Write 1 w) place ∷ earlier)) (put_over (pairs_loaded part (settings_of part.idcode earlier) None w later) (memory_of part earlier))
memory_after_load_alone part later earlier w place other far =
    let i = flow_sound part earlier in
    memory_after_load part later earlier w place far
    ∙ ap (λ (source : Option (List ℕ)). put_over (pairs_loaded part (settings_of part.idcode earlier) source w later) (memory_of part earlier) far) (i.sourceless (ap is_mfw i.command_is ∙ other))
