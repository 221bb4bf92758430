-- Lemmas on frame data that is taken at once.
use Rattle.std.proofs.Common.{◌≡◌, ◌+◌, ◌*◌, ◌/◌, ◌%◌, ◌-◌, ◌≤◌, ℕ, true, inl, inr, List, [], ◌∷◌, ◌++◌, length, take, drop, Option, None, Some, sym, ap, subst, ◌∙◌, arith}
use Rattle.std.proofs.lemmas.List.{length-drop, length-map, length-take-le, map-append, take-append-drop, take_all}
use Rattle.std.specs.Option.{option_or}
use Rattle.x7_words.specs.Word.{words_of_bytes}
use Rattle.x7_words.proofs.WordLemmas.{words_of_bytes_append, words_count}
use Rattle.x7_packets.specs.History.{History, Write, entered_all, entry}
use Rattle.x7_packets.specs.Packet.{payload_steps}
use Rattle.x7_packets.proofs.HistoryLemmas.{entered_all_append}
use Rattle.x7_part.specs.Part.{PartData}
use Rattle.x7_pipeline.specs.declared.fault.RunFault.{RunFault}
use Rattle.x7_flow.specs.Controls.{has_idcode}
use Rattle.x7_flow.specs.HistoryFlow.{frame_fault}
use Rattle.x7_flow.specs.Standing.{FramesStandFor, FramesState}
use Rattle.x7_flow.specs.WordsTaken.{NoneRefused, TakesWords, WordsTaken, WordsTo, with_words_to, count_taken, count_seen}
use Rattle.x7_regs.specs.declared.register.Reg.{Reg}
use Rattle.x7_regs.specs.declared.register.Reg.TheVariants as reg
use Rattle.x7_regs.specs.Register.{number_of}
use Rattle.x7_engine.specs.declared.kept.Kept.{Kept}
use Rattle.x7_engine.specs.declared.stop.StopCause.{StopCause}
use Rattle.x7_engine.specs.Stop.{why_by_frames, why_by_write, why_at_access}
use Rattle.x7_engine.proofs.FrameLemmas.{why_fdri, why_mfwr}
use Rattle.x7_engine.proofs.PlainLemmas.{IsQuiet, NoneStop, fdri_quiet, mfwr_quiet}
use Rattle.std.proofs.Math.Seq.{take-append_seam}

-- words of a register on a device whose IDCODE was written, none of which the frames refuse, stop nothing
none_stop : (part : PartData) (kept : Kept) (r : Reg) (n : ℕ) (ws : List ℕ) (h : History) → ((g : History) (w : ℕ) → has_idcode part.idcode g ≡ true → why_by_write part kept g (number_of r) w ≡ None)
    → ((g : History) (w place : ℕ) → has_idcode part.idcode g ≡ true → has_idcode part.idcode (entry (Write (number_of r) w) place ∷ g) ≡ true)
    → has_idcode part.idcode h ≡ true → NoneRefused part r n ws h → NoneStop part kept (number_of r) n ws h
unfolding NoneRefused
none_stop part kept r n [] h own stays m none = tt
none_stop part kept r n (w ∷ ws) h own stays m none =
    let free : why_at_access part kept h (Write (number_of r) w) ≡ None = ap (λ (o : Option StopCause). option_or o (why_by_frames (frame_fault part h (Write (number_of r) w)))) (own h w m) ∙ ap why_by_frames none.0 in
    (free, none_stop part kept r (n + 4) ws (entry (Write (number_of r) w) (n + 4) ∷ h) own stays (stays h w (n + 4) m) none.1)

pub data_none : (part : PartData) (kept : Kept) (r : Reg) (n : ℕ) (ws : List ℕ) (h : History) → TakesWords r → has_idcode part.idcode h ≡ true → NoneRefused part r n ws h → NoneStop part kept (number_of r) n ws h
data_none part kept r n ws h t = elim t [
  | inl e ↦ rw e (none_stop part kept reg.Fdri n ws h (why_fdri part kept) (λ g w place m. m))
  | inr e ↦ rw e (none_stop part kept reg.Mfwr n ws h (why_mfwr part kept) (λ g w place m. m))
]

pub data_quiet : (r : Reg) → TakesWords r → IsQuiet (number_of r)
data_quiet r t = elim t [
  | inl e ↦ rw e fdri_quiet
  | inr e ↦ rw e mfwr_quiet
]

-- the words before the refused one
pub given : (part : PartData) (f : FramesState) (h : History) (x : WordsTo) (seen : ℕ × Option RunFault) → WordsTaken part f h x seen
    → (NoneRefused part x.register x.place (take (count_taken seen.0 seen.1) x.words) h) × FramesStandFor part f (with_words_to x.register x.place (take (count_taken seen.0 seen.1) x.words) h) 0
given part f h x seen t =
    let size : count_taken seen.0 seen.1 ≡ length t.taken = by seen.1 t.counted in
    let prefix : take (count_taken seen.0 seen.1) x.words ≡ t.taken = ap (λ (k : ℕ). take k x.words) size ∙ ap (take (length t.taken)) t.words_are ∙ take-append_seam t.taken t.rest in (
      subst (λ (ws : List ℕ). NoneRefused part x.register x.place ws h) (sym prefix) t.none_refused,
      subst (λ (ws : List ℕ). FramesStandFor part f (with_words_to x.register x.place ws h) 0) (sym prefix) t.stands,
    )
  where
    by : (f : Option RunFault) → seen.0 ≡ count_seen (length t.taken) f → count_taken seen.0 f ≡ length t.taken
    by None e = e
    by (Some refusal) e = omega (arith, e)

-- the words of the first bytes, and those of the rest
data_words : (m : ℕ) (bytes : List ℕ) → m % 4 ≡ 0 → m ≤ length bytes → words_of_bytes bytes ≡ words_of_bytes (take m bytes) ++ words_of_bytes (drop m bytes)
data_words m bytes whole l =
    let four : length (take m bytes) ≡ 4 * (m / 4) = length-take-le m bytes l ∙ omega (arith, whole) in
    ap words_of_bytes (sym (take-append-drop m bytes)) ∙ words_of_bytes_append (m / 4) (take m bytes) (drop m bytes) four

data_entered : (register n m : ℕ) (bytes : List ℕ) (h : History) → m % 4 ≡ 0 → m ≤ length bytes
    → entered_all (n + m) (payload_steps register (words_of_bytes (drop m bytes))) (entered_all n (payload_steps register (words_of_bytes (take m bytes))) h) ≡ entered_all n (payload_steps register (words_of_bytes bytes)) h
data_entered register n m bytes h whole l =
    let prefix : List ℕ = words_of_bytes (take m bytes) in
    let rest : List ℕ = words_of_bytes (drop m bytes) in
    let size : length (payload_steps register prefix) ≡ length (take m bytes) / 4 = length-map prefix _ ∙ words_count (take m bytes) in
    let place : n + 4 * length (payload_steps register prefix) ≡ n + m = omega (arith, size, length-take-le m bytes l, whole) in
    sym (ap (λ (ws : List ℕ). entered_all n (payload_steps register ws) h) (data_words m bytes whole l)
    ∙ ap (λ t. entered_all n t h) (map-append _ prefix rest)
    ∙ entered_all_append n (payload_steps register prefix) (payload_steps register rest) h
    ∙ ap (λ (k : ℕ). entered_all k (payload_steps register rest) (entered_all n (payload_steps register prefix) h)) place)

-- words written in two parts are all of them, where the second part is cut out of the bytes
pub rest_entered : (register n m : ℕ) (bytes : List ℕ) (h : History) → m % 4 ≡ 0 → m ≤ length bytes
    → entered_all (n + m) (payload_steps register (words_of_bytes (take (length bytes - m) (drop m bytes)))) (entered_all n (payload_steps register (words_of_bytes (take m bytes))) h) ≡ entered_all n (payload_steps register (words_of_bytes bytes)) h
rest_entered register n m bytes h whole l =
    let rest : take (length bytes - m) (drop m bytes) ≡ drop m bytes = take_all (length bytes - m) (drop m bytes) (omega (arith, length-drop m bytes)) in
    ap (λ (xs : List ℕ). entered_all (n + m) (payload_steps register (words_of_bytes xs)) (entered_all n (payload_steps register (words_of_bytes (take m bytes))) h)) rest
    ∙ data_entered register n m bytes h whole l
