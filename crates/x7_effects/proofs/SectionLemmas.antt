-- Section by section through what a planner writes: runs of frames, and a content with its copies.
use Rattle.std.proofs.Common.{◌≡◌, ◌+◌, ◌*◌, ◌≤◌, ◌<◌, ℕ, Bool, true, if◌then◌else◌, Option, None, Some, List, [], ◌∷◌, ◌++◌, length, map, reverse, get_or, refl, sym, ap, subst, ◌∙◌, append-nil, arith}
use Rattle.std.specs.List.{flat_map, AllByRecursion}
use Rattle.std.proofs.lemmas.Grind.{reverse_onto}
use Rattle.x7_regs.specs.declared.command.Command.TheVariants.{Mfw, Wcfg}
use Rattle.x7_regs.specs.declared.register.Reg.TheVariants.{Far}
use Rattle.x7_packets.specs.History as access
use Rattle.x7_packets.specs.History.{History, command_held, entry}
use Rattle.x7_startup.specs.Startup.{StartupProgress}
use Rattle.x7_part.specs.Part.{PartData, frame_words}
use Rattle.x7_part.specs.Slot.{slots_from}
use Rattle.x7_memory.specs.FrameMap.{HaveSameFrames, FrameMap}
use Rattle.x7_memory.specs.Plan.{PlanRow, planned_addresses}
use Rattle.x7_regs.specs.Command.{command_with}
use Rattle.x7_regs.specs.declared.command.Command.{Command}
use Rattle.x7_pipeline.specs.Copies.{is_mfw}
use Rattle.x7_pipeline.specs.FarAsRead.{is_frame_address, loaded_base}
use Rattle.x7_pipeline.specs.Fault.{address_fault, copy_fault}
use Rattle.x7_pipeline.specs.Runs.{written_frames, onto, put_over}
use Rattle.x7_pipeline.proofs.LawLemmas.{put_twice}
use Rattle.x7_flow.specs.Asking.{CopiesSource, NothingAsked}
use Rattle.x7_flow.specs.Controls.{ctl0_held}
use Rattle.x7_flow.specs.HistoryFlow.{Flow, base_of, fault_by, flow_of, frame_fault, run_of, source_of}
use Rattle.x7_flow.specs.FrameMemory.{memory_of}
use Rattle.x7_flow.specs.Settings.{settings_of, takes_copies}
use Rattle.x7_flow.proofs.FlowLemmas.{flow_more, flow_sound, put_none}
use Rattle.x7_flow.proofs.PlanLemmas.{copies_keep, source_left}
use Rattle.x7_flow.proofs.StreamLemmas.{copies_put}
use Rattle.x7_flow.proofs.WordLemmas.{mfw_with}
use Rattle.x7_engine.specs.declared.kept.Kept.{Kept}
use Rattle.x7_effects.proofs.Items.{Write, WriteLong, item_entered}
use Rattle.x7_effects.proofs.Checking.{Piece, Put, piece_length, pieces_length}
use Rattle.x7_effects.proofs.Frames.{joined, row_frames}
use Rattle.x7_planner.specs.FullStream.{zero_frame}
use Rattle.x7_planner.specs.PartialStream.{Section, Rows}
use Rattle.x7_effects.proofs.Streams.{command, copy_pieces, one, section_pieces, sections_pieces}
use Rattle.x7_planner.specs.PartialStream as section
use Rattle.x7_planner.specs.PartialStream.{pairs_of}
use Rattle.x7_effects.proofs.Groups.{LandsAs, put_sections}
use Rattle.x7_effects.proofs.GoingLemmas.{IsGoing, copy_passes, far_passes, quiet_far, written, written_append}
use Rattle.x7_effects.proofs.WalkLemmas.{HasWritten, IsLoaded, IsReady, allows_writing, going_one, loaded_words, put_same, quiet_one, ready_load}

-- ---- copies

-- a device that takes copies: CMD holds MFW, and `words` are the source
record IsCopying (part : PartData) (kept : Kept) (startup : StartupProgress) (words : List ℕ) (h : History) (n : ℕ) (m : FrameMap) : Type 0 where
  ready : IsReady part kept startup h n m
  held_is : command_held h ≡ 2
  source_is : source_of part h ≡ Some words

-- MFW after the words of one frame makes this the source
begins_copies : (part : PartData) (kept : Kept) (startup : StartupProgress) (far : ℕ) (words : List ℕ) (h : History) (n : ℕ) (m : FrameMap) → 0 < frame_words part → length words ≡ frame_words part → HasWritten part kept startup far words h n m
    → written_frames part far (onto words []) ≡ [] → IsCopying part kept startup words (written n (command Mfw ∷ []) h) (n + 8) m
begins_copies part kept startup far words h n m some wide w none =
    let run : run_of part h ≡ onto (flat_map (λ frame. frame) ([] ++ words ∷ [])) [] = w.run_is ∙ ap (λ t. onto t []) (sym (append-nil words)) in
    record {
      ready = record {
        going = going_one part kept startup h n 4 2 (record { start = refl; shutdown = refl; desync = refl }) refl refl w.ready.going.calm.off w.ready.going;
        matched = w.ready.matched;
        allows = w.ready.allows;
        memory = quiet_one part h (access.Write 4 2) (n + 4 + 4) m refl (λ a. w.ready.memory a ∙ put_none (written_frames part far (onto words [])) m none a);
      };
      held_is = refl;
      source_is = source_left part h 2 (n + 4 + 4) [] words some w.held_is refl run (wide, tt);
    }

-- a target of a stream: an address of the part, which a FAR load takes as it is

abbrev pub IsTarget : PartData → ℕ → Type 0
IsTarget part far = (loaded_base part far ≡ far) × (is_frame_address part far ≡ true)

copy_none : (part : PartData) (held : Command) (base : ℕ) (words : List ℕ) (source : Option (List ℕ)) → is_mfw held ≡ true → source ≡ Some words → is_frame_address part base ≡ true → copy_fault part held base source ≡ None
unfolding copy_fault address_fault
copy_none part held base words source e f a = rw (e, f, a) refl

copy_one : (part : PartData) (kept : Kept) (startup : StartupProgress) (far : ℕ) (words : List ℕ) (h : History) (n : ℕ) (m : FrameMap) → IsCopying part kept startup words h n m → IsTarget part far
    → IsCopying part kept startup words (written n (copy_pieces far) h) (n + 8 + 8) (put_over (record { far = far; words = words } ∷ []) m)
copy_one part kept startup far words h n m c t =
    let place : ℕ = n + 4 + 4 in
    let g : History = entry (access.Write 1 far) place ∷ h in
    let first : IsGoing part kept startup g (n + 8) =
    going_one part kept startup h n 1 far (quiet_far h far 2 c.held_is refl refl refl refl) (far_passes part kept h far 2 c.held_is refl refl refl) refl c.ready.going.calm.off c.ready.going in
    let allowed : takes_copies (settings_of part.idcode h) ≡ true = rw (c.ready.matched, allows_writing (ctl0_held h) c.ready.allows) refl in
    let loaded = flow_more part (entry (access.Write 1 far) place) h in
    let base : base_of part g ≡ far = ap (λ (f : Flow). f.base) loaded ∙ t.0 in
    let source : source_of part g ≡ Some words = ap (λ (f : Flow). f.source) loaded ∙ c.source_is in
    let held : (flow_of part g).command ≡ command_with 2 = (flow_sound part g).command_is ∙ ap command_with c.held_is in
    let mfw : is_mfw (flow_of part g).command ≡ true = ap is_mfw held ∙ mfw_with 2 in
    let fault : frame_fault part g (access.Write 10 0) ≡ None =
    ap (λ (b : Bool). fault_by part (if b then CopiesSource else NothingAsked) (flow_of part g)) allowed
    ∙ copy_none part (flow_of part g).command (base_of part g) words (source_of part g) mfw source (ap (is_frame_address part) base ∙ t.1) in
    let second : IsGoing part kept startup (item_entered (n + 8) (Write 10 (0 ∷ [])) g) (n + 8 + 8) =
    going_one part kept startup g (n + 8) 10 0 (record { start = refl; shutdown = refl; desync = refl }) (copy_passes part kept g 0 c.ready.matched) fault first.calm.off first in
    let puts : HaveSameFrames (memory_of part (item_entered (n + 8) (Write 10 (0 ∷ [])) g)) (put_over (record { far = loaded_base part far; words = words } ∷ []) (memory_of part h)) =
    copies_put part h far place (n + 8 + 4) 0 [] words allowed (ap (λ (k : ℕ). is_mfw (command_with k)) c.held_is ∙ mfw_with 2) c.source_is (ap (is_frame_address part) t.0 ∙ t.1) in
    let keeps = copies_keep part h far place (n + 8 + 4) (0 ∷ []) in
    record {
      ready = record {
        going = second;
        matched = c.ready.matched;
        allows = c.ready.allows;
        memory = λ a. puts a ∙ put_same (record { far = loaded_base part far; words = words } ∷ []) (record { far = far; words = words } ∷ []) (memory_of part h) m (ap (λ (x : ℕ). record { far = x; words = words } ∷ []) t.0) c.ready.memory a;
      };
      held_is = c.held_is;
      source_is = keeps.0 ∙ c.source_is;
    }

abbrev Pairs : List ℕ → List ℕ → List PlanRow
Pairs words fars = map (λ far. record { far = far; words = words }) fars

copies_length : (fars : List ℕ) → pieces_length (flat_map copy_pieces fars) ≡ 4 * length fars
copies_length [] = refl
copies_length (far ∷ fars) = omega (arith, copies_length fars)

copy_all : (part : PartData) (kept : Kept) (startup : StartupProgress) (words fars : List ℕ) (h : History) (n : ℕ) (m : FrameMap) → IsCopying part kept startup words h n m → AllByRecursion (IsTarget part) fars
    → IsCopying part kept startup words (written n (flat_map copy_pieces fars) h) (n + 16 * length fars) (put_over (reverse (Pairs words fars)) m)
copy_all part kept startup words [] h n m c a =
    let same : n ≡ n + 16 * length {A = ℕ} [] = omega arith in
    subst (λ (k : ℕ). IsCopying part kept startup words h k (put_over (reverse (Pairs words [])) m)) same (record {
      ready = record { going = c.ready.going; matched = c.ready.matched; allows = c.ready.allows; memory = λ x. c.ready.memory x ∙ sym (put_none [] m refl x) };
      held_is = c.held_is;
      source_is = c.source_is;
    })
copy_all part kept startup words (far ∷ fars) h n m c a =
    let pair : PlanRow = record { far = far; words = words } in
    let once : IsCopying part kept startup words (written n (copy_pieces far) h) (n + 8 + 8) (put_over (pair ∷ []) m) = copy_one part kept startup far words h n m c a.0 in
    let rest : IsCopying part kept startup words (written (n + 8 + 8) (flat_map copy_pieces fars) (written n (copy_pieces far) h)) (n + 8 + 8 + 16 * length fars) (put_over (reverse (Pairs words fars)) (put_over (pair ∷ []) m)) =
    copy_all part kept startup words fars (written n (copy_pieces far) h) (n + 8 + 8) (put_over (pair ∷ []) m) once a.1 in
    let end : n + 8 + 8 + 16 * length fars ≡ n + 16 * length (far ∷ fars) = omega arith in
    subst (λ (k : ℕ). IsCopying part kept startup words (written (n + 8 + 8) (flat_map copy_pieces fars) (written n (copy_pieces far) h)) k (put_over (reverse (Pairs words (far ∷ fars))) m)) end (record {
      ready = record {
        going = rest.ready.going;
        matched = rest.ready.matched;
        allows = rest.ready.allows;
        memory = λ x. rest.ready.memory x
            ∙ put_twice (pair ∷ []) (reverse (Pairs words fars)) m (put_over (pair ∷ []) m) (put_over (reverse (Pairs words fars)) (put_over (pair ∷ []) m)) (λ y. refl) (λ y. refl) x
            ∙ ap (λ t. put_over t m x) (sym (reverse_onto (Pairs words fars) pair []));
      };
      held_is = rest.held_is;
      source_is = rest.source_is;
    })

-- ---- sections

-- a section at addresses of the part, for whose words there are slots
pub record IsSectionOf (part : PartData) (first : ℕ) (fars words : List ℕ) : Type 0 where
  pub targets : AllByRecursion (IsTarget part) fars
  pub begins : IsTarget part first
  pub few : length words ≤ frame_words part * length (slots_from part first)

abbrev pub Stands : PartData → Section → Type 0
Stands part (section.Copies words fars) = IsSectionOf part (get_or fars 0 0) fars words × (length words ≡ frame_words part)
Stands part (Rows rows) = IsSectionOf part (get_or (planned_addresses rows) 0 0) [] (joined (row_frames rows ++ zero_frame part ∷ []))

rows_ready : (part : PartData) (kept : Kept) (startup : StartupProgress) (rows : List PlanRow) (h : History) (n : ℕ) (m : FrameMap) → IsReady part kept startup h n m → LandsAs part (Rows rows) → Stands part (Rows rows)
    → IsReady part kept startup (written n (section_pieces part (Rows rows)) h) (n + 4 * pieces_length (section_pieces part (Rows rows))) (put_over (reverse rows) m)
rows_ready part kept startup rows h n m r l s =
    let far : ℕ = get_or (planned_addresses rows) 0 0 in
    let ws : List ℕ = joined (row_frames rows ++ zero_frame part ∷ []) in
    let loaded : IsLoaded part kept startup 1 far (written n (command Wcfg ∷ one Far far ∷ []) h) (n + 8 + 8) m = ready_load part kept startup far h n m r s.begins.0 in
    let w : HasWritten part kept startup far ws (written (n + 8 + 8) (Put (WriteLong 2 ws) ∷ []) (written n (command Wcfg ∷ one Far far ∷ []) h)) (n + 8 + 8 + 4 * piece_length (Put (WriteLong 2 ws))) m =
    loaded_words part kept startup far (written n (command Wcfg ∷ one Far far ∷ []) h) (n + 8 + 8) m ws loaded s.begins.1 s.few in
    let end : n + 8 + 8 + 4 * piece_length (Put (WriteLong 2 ws)) ≡ n + 4 * pieces_length (section_pieces part (Rows rows)) = omega arith in
    subst (λ (k : ℕ). IsReady part kept startup (written n (section_pieces part (Rows rows)) h) k (put_over (reverse rows) m)) end (record {
      going = w.ready.going;
      matched = w.ready.matched;
      allows = w.ready.allows;
      memory = λ a. w.ready.memory a ∙ put_same (written_frames part far (onto ws [])) (reverse rows) m m l (λ x. refl) a;
    })

copies_ready : (part : PartData) (kept : Kept) (startup : StartupProgress) (words fars : List ℕ) (h : History) (n : ℕ) (m : FrameMap) → 0 < frame_words part → IsReady part kept startup h n m → LandsAs part (section.Copies words fars) → Stands part (section.Copies words fars)
    → IsReady part kept startup (written n (section_pieces part (section.Copies words fars)) h) (n + 4 * pieces_length (section_pieces part (section.Copies words fars))) (put_over (reverse (Pairs words fars)) m)
copies_ready part kept startup words fars h n m some r l s =
    let far : ℕ = get_or fars 0 0 in
    let prefix : History = written n (command Wcfg ∷ one Far far ∷ []) h in
    let loaded : IsLoaded part kept startup 1 far prefix (n + 8 + 8) m = ready_load part kept startup far h n m r s.0.begins.0 in
    let k : ℕ = n + 8 + 8 + 4 * piece_length (Put (WriteLong 2 words)) in
    let data_in : History = written (n + 8 + 8) (Put (WriteLong 2 words) ∷ []) prefix in
    let w : HasWritten part kept startup far words data_in k m = loaded_words part kept startup far prefix (n + 8 + 8) m words loaded s.0.begins.1 s.0.few in
    let copying : IsCopying part kept startup words (written k (command Mfw ∷ []) data_in) (k + 8) m = begins_copies part kept startup far words data_in k m some s.1 w l.0 in
    let all : IsCopying part kept startup words (written (k + 8) (flat_map copy_pieces fars) (written k (command Mfw ∷ []) data_in)) (k + 8 + 16 * length fars) (put_over (reverse (Pairs words fars)) m) =
    copy_all part kept startup words fars (written k (command Mfw ∷ []) data_in) (k + 8) m copying s.0.targets in
    let end : k + 8 + 16 * length fars ≡ n + 4 * pieces_length (section_pieces part (section.Copies words fars)) = omega (arith, copies_length fars) in
    subst (λ (x : ℕ). IsReady part kept startup (written (k + 8) (flat_map copy_pieces fars) (written k (command Mfw ∷ []) data_in)) x (put_over (reverse (Pairs words fars)) m)) end all.ready

section_ready : (part : PartData) (kept : Kept) (startup : StartupProgress) (s : Section) (h : History) (n : ℕ) (m : FrameMap) → 0 < frame_words part → IsReady part kept startup h n m → LandsAs part s → Stands part s
    → IsReady part kept startup (written n (section_pieces part s) h) (n + 4 * pieces_length (section_pieces part s)) (put_over (reverse (pairs_of s)) m)
section_ready part kept startup (section.Copies words fars) h n m some r l t = copies_ready part kept startup words fars h n m some r l t
section_ready part kept startup (Rows rows) h n m some r l t = rows_ready part kept startup rows h n m r l t

pub pieces_sum : (xs ys : List Piece) → pieces_length (xs ++ ys) ≡ pieces_length xs + pieces_length ys
pieces_sum [] ys = omega arith
pieces_sum (x ∷ xs) ys = omega (arith, pieces_sum xs ys)

pub sections_ready : (part : PartData) (kept : Kept) (startup : StartupProgress) (sections : List Section) (h : History) (n : ℕ) (m : FrameMap) → 0 < frame_words part → IsReady part kept startup h n m → AllByRecursion (LandsAs part) sections → AllByRecursion (Stands part) sections
    → IsReady part kept startup (written n (sections_pieces part sections) h) (n + 4 * pieces_length (sections_pieces part sections)) (put_sections m sections)
sections_ready part kept startup [] h n m some r l t =
    let same : n ≡ n + 4 * pieces_length [] = omega arith in
    subst (λ (k : ℕ). IsReady part kept startup h k m) same r
sections_ready part kept startup (s ∷ sections) h n m some r l t =
    let pieces : List Piece = section_pieces part s in
    let rest : List Piece = sections_pieces part sections in
    let k : ℕ = n + 4 * pieces_length pieces in
    let first : IsReady part kept startup (written n pieces h) k (put_over (reverse (pairs_of s)) m) = section_ready part kept startup s h n m some r l.0 t.0 in
    let all : IsReady part kept startup (written k rest (written n pieces h)) (k + 4 * pieces_length rest) (put_sections (put_over (reverse (pairs_of s)) m) sections) =
    sections_ready part kept startup sections (written n pieces h) k (put_over (reverse (pairs_of s)) m) some first l.1 t.1 in
    let end : k + 4 * pieces_length rest ≡ n + 4 * pieces_length (pieces ++ rest) = omega (arith, pieces_sum pieces rest) in
    subst (λ (x : History). IsReady part kept startup x (n + 4 * pieces_length (pieces ++ rest)) (put_sections (put_over (reverse (pairs_of s)) m) sections)) (sym (written_append n pieces rest h))
    (subst (λ (x : ℕ). IsReady part kept startup (written k rest (written n pieces h)) x (put_sections (put_over (reverse (pairs_of s)) m) sections)) end all)
