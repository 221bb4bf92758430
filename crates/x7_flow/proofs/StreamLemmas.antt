-- What a planned stream's writes and copies put.
use Rattle.std.proofs.Common.{◌≡◌, ℕ, ◌+◌, ◌<◌, ◌&&◌, Bool, true, if◌then◌else◌, List, [], ◌∷◌, ◌++◌, length, reverse, Some, refl, sym, ap, subst, ◌∙◌, arith, append_assoc, append-nil, length-append}
use Rattle.std.specs.List.{flat_map, filter_map, zip, AllByRecursion}
use Rattle.std.proofs.lemmas.List.{reverse-append, reverse-reverse}
use Rattle.x7_packets.specs.History.{Write, History, command_held, entered_all, entry}
use Rattle.x7_packets.specs.Packet.{payload_steps}
use Rattle.x7_packets.proofs.HistoryLemmas.{kept_all}
use Rattle.x7_part.specs.Part.{PartData, frame_words}
use Rattle.x7_part.specs.Slot.{slots_from}
use Rattle.x7_memory.specs.FrameMap.{FrameMap, HaveSameFrames}
use Rattle.x7_memory.specs.Plan.{PlanRow, planned}
use Rattle.x7_memory.proofs.MapLemmas.{override_again, override_same}
use Rattle.x7_regs.specs.Command.{command_with}
use Rattle.x7_pipeline.specs.RunsInWords.{pair_of}
use Rattle.x7_pipeline.specs.Runs.{older_frames, frames_of, written_frames, onto, put_over, rest_of, Lands}
use Rattle.x7_pipeline.specs.FarAsRead.{is_frame_address, loaded_base}
use Rattle.x7_pipeline.specs.Copies.{copied_pairs, is_mfw}
use Rattle.x7_pipeline.proofs.LawLemmas.{landed_empty, landed_in_order, reverse_cons}
use Rattle.x7_pipeline.proofs.RunLemmas.{frames_completes, frames_goes_on, rest_completes, rest_goes_on}
use Rattle.x7_flow.specs.Asking.{Asked, CopiesSource, NothingAsked}
use Rattle.x7_flow.specs.Settings.{Settings, settings_of, takes_copies, takes_frames}
use Rattle.x7_flow.specs.HistoryFlow.{Flow, asked_under, base_of, flow_by, flow_of, run_of, source_of}
use Rattle.x7_flow.specs.FrameMemory.{copy_pairs, memory_of, pairs_put}
use Rattle.x7_flow.proofs.FlowLemmas.{flow_more, flow_sound, memory_more, put_none}
use Rattle.x7_flow.proofs.ManyLemmas.{words_land}
use Rattle.x7_pipeline.proofs.FrameLemmas.{onto_more}

-- ---- a run of whole frames

-- the last words of a frame complete it
completes_frame : (width w : ℕ) (ws run : List ℕ) → length (rest_of width run) + length (w ∷ ws) ≡ width →
    (frames_of width (onto (w ∷ ws) run) ≡ (rest_of width run ++ w ∷ ws) ∷ frames_of width run) × (rest_of width (onto (w ∷ ws) run) ≡ [])
completes_frame width w [] run e = (frames_completes width w run e, rest_completes width w run e)
completes_frame width w (x ∷ ws) run e =
    let not_yet : length (rest_of width run) + 1 ≡ width → ⊥ = λ full. absurd (omega arith) in
    let rest : rest_of width (w ∷ run) ≡ rest_of width run ++ w ∷ [] = rest_goes_on width w run not_yet in
    let long = length-append (rest_of width run) (w ∷ []) in
    let size = ap length rest in
    let later = completes_frame width x ws (w ∷ run) (omega arith) in (
      later.0
          ∙ ap (λ (fs : List (List ℕ)). (rest_of width (w ∷ run) ++ x ∷ ws) ∷ fs) (frames_goes_on width w run not_yet)
          ∙ ap (λ (r : List ℕ). (r ++ x ∷ ws) ∷ frames_of width run) rest
          ∙ ap (λ (f : List ℕ). f ∷ frames_of width run) (append_assoc (rest_of width run) (w ∷ []) (x ∷ ws)),
      later.1,
    )

one_frame : (width : ℕ) (frame run : List ℕ) → 0 < width → length frame ≡ width → rest_of width run ≡ [] →
    (frames_of width (onto frame run) ≡ frame ∷ frames_of width run) × (rest_of width (onto frame run) ≡ [])
one_frame width [] run some e none = absurd (omega arith)
one_frame width (w ∷ ws) run some e none =
    let short = ap length none in
    let now = completes_frame width w ws run (omega arith) in
    (now.0 ∙ ap (λ (r : List ℕ). (r ++ w ∷ ws) ∷ frames_of width run) none, now.1)

pub whole_frames : (width : ℕ) (frames : List (List ℕ)) (run : List ℕ) → 0 < width → AllByRecursion (λ frame. length frame ≡ width) frames → rest_of width run ≡ [] →
    frames_of width (onto (flat_map (λ frame. frame) frames) run) ≡ reverse frames ++ frames_of width run
whole_frames width [] run some all none = refl
whole_frames width (frame ∷ frames) run some all none =
    let first = one_frame width frame run some all.0 none in
    ap (frames_of width) (onto_more frame (flat_map (λ f. f) frames) run)
    ∙ whole_frames width frames (onto frame run) some all.1 first.1
    ∙ ap (λ (fs : List (List ℕ)). reverse frames ++ fs) first.0
    ∙ sym (append_assoc (reverse frames) (frame ∷ []) (frames_of width run))
    ∙ ap (λ (fs : List (List ℕ)). fs ++ frames_of width run) (sym (reverse_cons frame frames))

nothing_yet : (width : ℕ) → (rest_of width [] ≡ []) × (frames_of width [] ≡ [])
unfolding rest_of frames_of
nothing_yet width = (refl, refl)

-- the newest of whole frames is the last
pub whole_cut : (part : PartData) (frames : List (List ℕ)) (last : List ℕ) → 0 < frame_words part → AllByRecursion (λ frame. length frame ≡ frame_words part) (frames ++ last ∷ []) →
    frames_of (frame_words part) (onto (flat_map (λ frame. frame) (frames ++ last ∷ [])) []) ≡ last ∷ reverse frames
whole_cut part frames last some all =
    whole_frames (frame_words part) (frames ++ last ∷ []) [] some all (nothing_yet (frame_words part)).0
    ∙ ap (λ (fs : List (List ℕ)). reverse (frames ++ last ∷ []) ++ fs) (nothing_yet (frame_words part)).1
    ∙ append-nil (reverse (frames ++ last ∷ [])) ∙ reverse-append frames (last ∷ [])

-- whole frames and one more, which stays after, land in order
pub frames_land : (part : PartData) (base : ℕ) (frames : List (List ℕ)) (last : List ℕ) → 0 < frame_words part → AllByRecursion (λ frame. length frame ≡ frame_words part) (frames ++ last ∷ []) →
    written_frames part base (onto (flat_map (λ frame. frame) (frames ++ last ∷ [])) []) ≡ reverse (filter_map pair_of (zip (slots_from part base) frames))
frames_land part base frames last some all =
    let run : List ℕ = onto (flat_map (λ frame. frame) (frames ++ last ∷ [])) [] in
    let cut : frames_of (frame_words part) run ≡ last ∷ reverse frames =
    whole_frames (frame_words part) (frames ++ last ∷ []) [] some all (nothing_yet (frame_words part)).0
    ∙ ap (λ (fs : List (List ℕ)). reverse (frames ++ last ∷ []) ++ fs) (nothing_yet (frame_words part)).1
    ∙ append-nil (reverse (frames ++ last ∷ [])) ∙ reverse-append frames (last ∷ []) in
    let back : reverse (older_frames (frames_of (frame_words part) run)) ≡ frames = ap (λ (fs : List (List ℕ)). reverse (older_frames fs)) cut ∙ reverse-reverse frames in
    sym (reverse-reverse (written_frames part base run))
    ∙ ap reverse (landed_in_order part base run ∙ ap (λ (fs : List (List ℕ)). filter_map pair_of (zip (slots_from part base) fs)) back)

-- ---- a write under WCFG from a FAR load

loaded_here : (part : PartData) (w place : ℕ) (h : History) → (run_of part (entry (Write 1 w) place ∷ h) ≡ []) × (base_of part (entry (Write 1 w) place ∷ h) ≡ loaded_base part w)
unfolding flow_of
loaded_here part w place h = (refl, refl)

load_memory : (part : PartData) (w place : ℕ) (h : History) → HaveSameFrames (memory_of part (entry (Write 1 w) place ∷ h)) (memory_of part h)
load_memory part w place h far = memory_more part (entry (Write 1 w) place) h far ∙ put_none [] (memory_of part h) refl far

pub write_puts : (part : PartData) (earlier : History) (w place n : ℕ) (frames : List (List ℕ)) (last : List ℕ) → 0 < frame_words part → takes_frames (settings_of part.idcode earlier) ≡ true →
    AllByRecursion (λ frame. length frame ≡ frame_words part) (frames ++ last ∷ []) →
    HaveSameFrames (memory_of part (entered_all n (payload_steps 2 (flat_map (λ frame. frame) (frames ++ last ∷ []))) (entry (Write 1 w) place ∷ earlier)))
    (put_over (reverse (filter_map pair_of (zip (slots_from part (loaded_base part w)) frames))) (memory_of part earlier))
write_puts part earlier w place n frames last some t all far =
    let words : List ℕ = flat_map (λ frame. frame) (frames ++ last ∷ []) in
    let h : History = entry (Write 1 w) place ∷ earlier in
    let here = loaded_here part w place earlier in
    let base : ℕ = loaded_base part w in
    let l0 : Lands part (base_of part h) (run_of part h) (onto words (run_of part h)) (memory_of part h) (memory_of part (entered_all n (payload_steps 2 words) h)) = words_land part n words h t in
    let l1 : Lands part (base_of part h) [] (onto words []) (memory_of part h) (memory_of part (entered_all n (payload_steps 2 words) h)) =
    subst (λ (run : List ℕ). Lands part (base_of part h) run (onto words run) (memory_of part h) (memory_of part (entered_all n (payload_steps 2 words) h))) here.0 l0 in
    let l : Lands part base [] (onto words []) (memory_of part h) (memory_of part (entered_all n (payload_steps 2 words) h)) =
    subst (λ (b : ℕ). Lands part b [] (onto words []) (memory_of part h) (memory_of part (entered_all n (payload_steps 2 words) h))) here.1 l1 in
    let added : l.added ≡ reverse (filter_map pair_of (zip (slots_from part base) frames)) =
    sym (l.grows ∙ ap (λ (ps : List PlanRow). l.added ++ ps) (landed_empty part base) ∙ append-nil l.added) ∙ frames_land part base frames last some all in
    l.memory far ∙ ap (λ (ps : List PlanRow). put_over ps (memory_of part h) far) added
    ∙ override_same (memory_of part h) (memory_of part earlier) (planned (reverse (filter_map pair_of (zip (slots_from part base) frames)))) (planned (reverse (filter_map pair_of (zip (slots_from part base) frames))))
    (load_memory part w place earlier) (λ a. refl) far

-- ---- copies under MFW from a FAR load

-- a history has this flow and these settings, and its memory is `memory` with the pairs put over it
pub record IsCopied (part : PartData) (f : Flow) (s : Settings) (memory : FrameMap) (pairs : List PlanRow) (h : History) : Type 0 where
  pub flow_is : flow_of part h ≡ f
  pub settings_are : settings_of part.idcode h ≡ s
  pub memory_is : HaveSameFrames (memory_of part h) (put_over pairs memory)

pub copy_asked : (s : Settings) (w : ℕ) → takes_copies s ≡ true → asked_under s (Write 10 w) ≡ CopiesSource
copy_asked s w t = ap (λ (b : Bool). if b then CopiesSource else NothingAsked) t

copy_memory : (part : PartData) (h : History) (w place : ℕ) → takes_copies (settings_of part.idcode h) ≡ true → HaveSameFrames (memory_of part (entry (Write 10 w) place ∷ h)) (put_over (copy_pairs part (flow_of part h)) (memory_of part h))
copy_memory part h w place t far = memory_more part (entry (Write 10 w) place) h far ∙ ap (λ (a : Asked). put_over (pairs_put part a (flow_of part h)) (memory_of part h) far) (copy_asked (settings_of part.idcode h) w t)

pub copy_flow : (part : PartData) (h : History) (w place : ℕ) → takes_copies (settings_of part.idcode h) ≡ true → flow_of part (entry (Write 10 w) place ∷ h) ≡ flow_of part h
copy_flow part h w place t = flow_more part (entry (Write 10 w) place) h ∙ ap (λ (a : Asked). flow_by part a (flow_of part h)) (copy_asked (settings_of part.idcode h) w t)

-- one copy more changes nothing
again : (part : PartData) (f : Flow) (s : Settings) (memory : FrameMap) → takes_copies s ≡ true → (h : History) (w place : ℕ) →
    IsCopied part f s memory (copy_pairs part f) h → IsCopied part f s memory (copy_pairs part f) (entry (Write 10 w) place ∷ h)
again part f s memory t h w place i =
    let now : takes_copies (settings_of part.idcode h) ≡ true = ap takes_copies i.settings_are ∙ t in
    record {
      flow_is = copy_flow part h w place now ∙ i.flow_is;
      settings_are = i.settings_are;
      memory_is = λ far.
          copy_memory part h w place now far ∙ ap (λ (g : Flow). put_over (copy_pairs part g) (memory_of part h) far) i.flow_is
          ∙ override_same (memory_of part h) (put_over (copy_pairs part f) memory) (planned (copy_pairs part f)) (planned (copy_pairs part f)) i.memory_is (λ a. refl) far
          ∙ override_again memory (planned (copy_pairs part f)) far;
    }

first_copy : (part : PartData) (h : History) (w place : ℕ) → takes_copies (settings_of part.idcode h) ≡ true →
    IsCopied part (flow_of part h) (settings_of part.idcode h) (memory_of part h) (copy_pairs part (flow_of part h)) (entry (Write 10 w) place ∷ h)
first_copy part h w place t = record { flow_is = copy_flow part h w place t; settings_are = refl; memory_is = copy_memory part h w place t }

-- words of MFWR, one at least, leave what one of them leaves
pub copied_all : (part : PartData) (n word : ℕ) (ws : List ℕ) (h : History) → takes_copies (settings_of part.idcode h) ≡ true →
    IsCopied part (flow_of part h) (settings_of part.idcode h) (memory_of part h) (copy_pairs part (flow_of part h)) (entered_all n (payload_steps 10 (word ∷ ws)) h)
copied_all part n word ws h t =
    kept_all (IsCopied part (flow_of part h) (settings_of part.idcode h) (memory_of part h) (copy_pairs part (flow_of part h))) 10 (again part (flow_of part h) (settings_of part.idcode h) (memory_of part h) t)
    (n + 4) ws (entry (Write 10 word) (n + 4) ∷ h) (first_copy part h word (n + 4) t)

copies_here : (part : PartData) (w place : ℕ) (earlier : History) (frame : List ℕ) → is_mfw (command_with (command_held earlier)) ≡ true → source_of part earlier ≡ Some frame → is_frame_address part (loaded_base part w) ≡ true →
    copy_pairs part (flow_of part (entry (Write 1 w) place ∷ earlier)) ≡ record { far = loaded_base part w; words = frame } ∷ []
unfolding flow_of
copies_here part w place earlier frame m s a =
    let i = flow_sound part earlier in
    let mfw : is_mfw (flow_of part earlier).command ≡ true = ap is_mfw i.command_is ∙ m in
    ap (λ (b : Bool). if b && is_frame_address part (loaded_base part w) then copied_pairs (loaded_base part w) (source_of part earlier) else []) mfw
    ∙ ap (λ (b : Bool). if b then copied_pairs (loaded_base part w) (source_of part earlier) else []) a
    ∙ ap (copied_pairs (loaded_base part w)) s

-- words of MFWR, one at least, put the source at the base
pub copies_put : (part : PartData) (earlier : History) (w place n word : ℕ) (ws frame : List ℕ) → takes_copies (settings_of part.idcode earlier) ≡ true →
    is_mfw (command_with (command_held earlier)) ≡ true → source_of part earlier ≡ Some frame → is_frame_address part (loaded_base part w) ≡ true →
    HaveSameFrames (memory_of part (entered_all n (payload_steps 10 (word ∷ ws)) (entry (Write 1 w) place ∷ earlier)))
    (put_over (record { far = loaded_base part w; words = frame } ∷ []) (memory_of part earlier))
copies_put part earlier w place n word ws frame t m s a far =
    let h : History = entry (Write 1 w) place ∷ earlier in
    let f : Flow = flow_of part h in
    let all : IsCopied part f (settings_of part.idcode h) (memory_of part h) (copy_pairs part f) (entered_all n (payload_steps 10 (word ∷ ws)) h) = copied_all part n word ws h t in
    all.memory_is far ∙ ap (λ (ps : List PlanRow). put_over ps (memory_of part h) far) (copies_here part w place earlier frame m s a)
    ∙ override_same (memory_of part h) (memory_of part earlier) (planned (record { far = loaded_base part w; words = frame } ∷ [])) (planned (record { far = loaded_base part w; words = frame } ∷ []))
    (load_memory part w place earlier) (λ b. refl) far
