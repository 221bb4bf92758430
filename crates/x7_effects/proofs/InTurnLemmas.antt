-- Streams one after another: each begins where the one before has left the device at rest.
use Rattle.std.proofs.Common.{◌≡◌, ℕ, ◌<◌, List, [], ◌∷◌, ◌++◌, ap, ◌∙◌}
use Rattle.std.specs.List.{flat_map, fold}
use Rattle.std.specs.Option.{option_or}
use Rattle.x7_words.specs.Word.{AreBytes}
use Rattle.x7_words.proofs.ListLemmas.{all_append}
use Rattle.x7_crc.specs.Checker.{check_of_bytes}
use Rattle.x7_part.specs.Part.{PartData}
use Rattle.x7_part.specs.Ranges.{IsPart}
use Rattle.x7_memory.specs.FrameMap.{FrameMap, HaveSameFrames, override}
use Rattle.x7_memory.specs.Plan.{IsPlanFor, PlanData, PlanRow, planned, total}
use Rattle.x7_planner.specs.FullStream.{full_pieces, full_stream}
use Rattle.x7_planner.specs.PartialStream.{partial_ending, partial_opening, partial_stream, section_words, sections_of}
use Rattle.x7_planner.specs.ReadStream.{read_stream}
use Rattle.x7_planner.specs.Fault.{CanRead}
use Rattle.x7_planner.specs.Writer.{StreamPiece, Words, Check, bytes_of_words, check_words, stream_of, with_piece}
use Rattle.x7_engine.specs.declared.kept.Kept.{Kept}
use Rattle.x7_engine.specs.Rest.{AtRest}
use Rattle.x7_engine.specs.State.{memory_of_bytes, reads_of}
use Rattle.x7_effects.specs.Played.{PlaysBoth, PlaysFull, PlaysPartial, PlaysRead, ReadsBack, device_after, words_along}
use Rattle.x7_effects.proofs.LawLemmas.{full_law, partial_law, read_law}
use Rattle.x7_effects.proofs.ReadbackLemmas.{along_same}
use Rattle.x7_effects.proofs.StreamLemmas.{bytes_fit}

-- ---- streams are bytes

pieces_fit : (pieces : List StreamPiece) (bytes : List ℕ) → AreBytes bytes → AreBytes (fold with_piece bytes pieces)
pieces_fit [] bytes f = f
pieces_fit (Words ws ∷ pieces) bytes f = pieces_fit pieces (bytes ++ bytes_of_words ws) (all_append (λ b. b < 256) bytes (bytes_of_words ws) f (bytes_fit ws))
pieces_fit (Check ∷ pieces) bytes f =
    let check : List ℕ = check_words (check_of_bytes bytes) in
    pieces_fit pieces (bytes ++ bytes_of_words check) (all_append (λ b. b < 256) bytes (bytes_of_words check) f (bytes_fit check))

longer_fits : (bytes : List ℕ) (pieces : List StreamPiece) → AreBytes bytes → AreBytes (bytes ++ stream_of pieces)
longer_fits bytes pieces f = all_append (λ b. b < 256) bytes (stream_of pieces) f (pieces_fit pieces [] tt)

full_fits : (part : PartData) (bytes : List ℕ) (plan : PlanData) → AreBytes bytes → AreBytes (bytes ++ full_stream part plan)
full_fits part bytes plan f = longer_fits bytes (full_pieces part plan) f

partial_fits : (part : PartData) (bytes : List ℕ) (rows : List PlanRow) → AreBytes bytes → AreBytes (bytes ++ partial_stream part rows)
partial_fits part bytes rows f =
    longer_fits bytes
    (Words (partial_opening part ++ flat_map (section_words part) (sections_of part rows)) ∷ Check ∷ Words partial_ending ∷ []) f

-- ---- in turn

-- a read stream after bytes that read nothing more out and left this memory reads it back
reads_back : (part : PartData) (kept : Kept) (bytes written : List ℕ) (m : FrameMap) (far n : ℕ) → AreBytes written → AtRest part kept written → IsPart part → CanRead part far n
    → reads_of part kept written ≡ reads_of part kept bytes → HaveSameFrames (memory_of_bytes part kept written) m → ReadsBack (device_after part kept bytes) written m far n
reads_back part kept bytes written m far n f r is can none same =
    let read : PlaysRead (device_after part kept written) (read_stream part far n) far n = read_law part kept written far n f r is can in
    record {
      reads = read.reads
          ∙ ap (λ t. t ++ words_along part (memory_of_bytes part kept written) far n) none
          ∙ ap (λ t. reads_of part kept bytes ++ t) (along_same part (memory_of_bytes part kept written) m far n same);
      same = λ x. read.memory x ∙ same x;
      phase = read.phase;
      rests = read.rests;
    }

pub full_reads_back : (part : PartData) (kept : Kept) (bytes : List ℕ) (plan : PlanData) (far n : ℕ) → AreBytes bytes → AtRest part kept bytes → IsPart part → IsPlanFor part plan → CanRead part far n
    → ReadsBack (device_after part kept bytes) (bytes ++ full_stream part plan) (total part plan) far n
full_reads_back part kept bytes plan far n f r is p can =
    let full : PlaysFull (device_after part kept bytes) (full_stream part plan) plan = full_law part kept bytes plan f r is p.is_plan p.width p.addressed in
    reads_back part kept bytes (bytes ++ full_stream part plan) (total part plan) far n (full_fits part bytes plan f) full.rests is can full.reads full.memory

pub partial_reads_back : (part : PartData) (kept : Kept) (bytes : List ℕ) (plan : PlanData) (far n : ℕ) → AreBytes bytes → AtRest part kept bytes → IsPart part → IsPlanFor part plan → CanRead part far n
    → ReadsBack (device_after part kept bytes) (bytes ++ partial_stream part plan.rows) (override (memory_of_bytes part kept bytes) (planned plan.rows)) far n
partial_reads_back part kept bytes plan far n f r is p can =
    let partial : PlaysPartial (device_after part kept bytes) (partial_stream part plan.rows) plan = partial_law part kept bytes plan f r is p.is_plan p.width p.addressed in
    reads_back part kept bytes (bytes ++ partial_stream part plan.rows) (override (memory_of_bytes part kept bytes) (planned plan.rows)) far n (partial_fits part bytes plan.rows f) partial.rests is can partial.reads partial.memory

pub both_play : (part : PartData) (kept : Kept) (bytes : List ℕ) (plan later : PlanData) → AreBytes bytes → AtRest part kept bytes → IsPart part → IsPlanFor part plan → IsPlanFor part later
    → PlaysBoth (record { device = device_after part kept bytes; plan = plan }) later
both_play part kept bytes plan later f r is p q =
    let longer : List ℕ = bytes ++ full_stream part plan in
    let full : PlaysFull (device_after part kept bytes) (full_stream part plan) plan = full_law part kept bytes plan f r is p.is_plan p.width p.addressed in
    let partial : PlaysPartial (device_after part kept longer) (partial_stream part later.rows) later = partial_law part kept longer later (full_fits part bytes plan f) full.rests is q.is_plan q.width q.addressed in
    record {
      memory = λ far. partial.memory far ∙ ap (λ o. option_or (planned later.rows far) o) (full.memory far);
      phase = λ wrapped. partial.phase wrapped ∙ full.phase wrapped;
    }
