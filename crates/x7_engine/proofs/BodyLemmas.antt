-- Lemmas on the words of a payload that are taken one by one.
use Rattle.std.proofs.Common.{◌≡◌, ◌+◌, ◌-◌, ◌*◌, ◌/◌, ◌<◌, ◌≤◌, ℕ, Bool, if◌then◌else◌, Option, None, [], ◌∷◌, ◌++◌, List, length, take, get_or, map, refl, sym, ap, subst, ◌∙◌, arith}
use Rattle.std.proofs.lemmas.Bool.{le-ltb}
use Rattle.std.proofs.lemmas.List.{get_or-map, length-map, length-take-le, map-append, take-map, take_all, take_more}
use Rattle.std.specs.Simd.{first_chunks}
use Rattle.x7_words.specs.Word.{word_of_bytes, words_of_bytes}
use Rattle.x7_packets.specs.History.{History, Write, entered_all, entry, until}
use Rattle.x7_packets.specs.Packet.{payload_steps}
use Rattle.x7_packets.proofs.HistoryLemmas.{entered_all_append}
use Rattle.x7_words.proofs.WordLemmas.{words_by_chunks}
use Rattle.x7_part.specs.Part.{PartData}
use Rattle.x7_engine.specs.declared.kept.Kept.{Kept}
use Rattle.x7_engine.specs.declared.stop.StopCause.{StopCause}
use Rattle.x7_engine.specs.Standing.{RegistersStandFor, RegistersState, counted_in}
use Rattle.x7_engine.proofs.TurnLemmas.{all_counted, counted_within, prefix_until}

-- one word more enters one write more, which ends four bytes on
pub write_more : (register n w : ℕ) (ws : List ℕ) (h : History)
    → entered_all n (payload_steps register (ws ++ w ∷ [])) h ≡ entry (Write register w) (n + 4 * length (payload_steps register ws) + 4) ∷ entered_all n (payload_steps register ws) h
write_more register n w ws h =
    ap (λ t. entered_all n t h) (map-append _ ws (w ∷ []))
    ∙ entered_all_append n (payload_steps register ws) (payload_steps register (w ∷ [])) h

-- the words of the first i chunks, four bytes each, and then that of the next chunk
pub chunk_word : (bytes : List ℕ) (chunks : List (List ℕ)) (i w : ℕ) → chunks ≡ first_chunks 4 (length bytes / 4) bytes → i < length chunks → w ≡ word_of_bytes (get_or chunks i [])
    → take (i + 1) (words_of_bytes bytes) ≡ take i (words_of_bytes bytes) ++ w ∷ []
chunk_word bytes chunks i w e l f =
    let words : words_of_bytes bytes ≡ map word_of_bytes chunks = words_by_chunks (length bytes / 4) bytes refl ∙ ap (map word_of_bytes) (sym e) in
    let within : i < length (words_of_bytes bytes) = omega (arith, ap length words, length-map chunks word_of_bytes) in
    take_more (words_of_bytes bytes) i 0 within
    ∙ ap (λ (x : ℕ). take i (words_of_bytes bytes) ++ x ∷ []) (ap (λ t. get_or t i 0) words ∙ get_or-map word_of_bytes chunks i [] 0 l ∙ sym f)

-- there are as many words as chunks of four bytes
pub chunks_are : (bytes : List ℕ) (chunks : List (List ℕ)) → chunks ≡ first_chunks 4 (length bytes / 4) bytes → length (words_of_bytes bytes) ≡ length chunks
chunks_are bytes chunks e = ap length (words_by_chunks (length bytes / 4) bytes refl ∙ ap (map word_of_bytes) (sym e)) ∙ length-map chunks word_of_bytes

-- ---- words one by one, up to a byte that stops the device

words_place : (register i : ℕ) (ws : List ℕ) → i ≤ length ws → length (payload_steps register (take i ws)) ≡ i
words_place register i ws l = length-map (take i ws) _ ∙ length-take-le i ws l

word_entered : (register n i w taken : ℕ) (ws : List ℕ) (h : History) → take (i + 1) ws ≡ take i ws ++ w ∷ [] → i < length ws → taken ≡ 4 * i
    → entry (Write register w) (n + taken + 4) ∷ entered_all n (payload_steps register (take i ws)) h ≡ entered_all n (payload_steps register (take (i + 1) ws)) h
word_entered register n i w taken ws h e l t =
    let place : n + 4 * length (payload_steps register (take i ws)) + 4 ≡ n + taken + 4 = omega (arith, words_place register i ws (omega (arith, l)), t) in
    sym (ap (λ (x : List ℕ). entered_all n (payload_steps register x) h) e ∙ write_more register n w (take i ws) h
    ∙ ap (λ (k : ℕ). entry (Write register w) k ∷ entered_all n (payload_steps register (take i ws)) h) place)

-- a word more, in which the device may have stopped
pub word_after : (part : PartData) (kept : Kept) (old new : RegistersState) (register n i w left taken m : ℕ) (ws : List ℕ) (h : History) → take (i + 1) ws ≡ take i ws ++ w ∷ [] → i < length ws → taken ≡ 4 * i → left ≤ 4 → m ≡ n + (taken + (4 - left))
    → ((h : History) (n : ℕ) → 0 < 4 → RegistersStandFor part kept old h n → RegistersStandFor part kept new (until (counted_in new.values.stop (n + (4 - left))) (entry (Write register w) (n + 4) ∷ h)) (n + (4 - left)))
    → RegistersStandFor part kept old (entered_all n (payload_steps register (take i ws)) h) (n + taken)
    → RegistersStandFor part kept new (until (counted_in new.values.stop m) (entered_all n (payload_steps register ws) h)) m
word_after part kept old new register n i w left taken m ws h e l t k r f s =
    let prefix : History = entered_all n (payload_steps register (take i ws)) h in
    let here : n + taken + (4 - left) ≡ m = omega (arith, k, r) in
    let one : RegistersStandFor part kept new (until (counted_in new.values.stop m) (entry (Write register w) (n + taken + 4) ∷ prefix)) m =
    subst (λ (x : ℕ). RegistersStandFor part kept new (until (counted_in new.values.stop x) (entry (Write register w) (n + taken + 4) ∷ prefix)) x) here (f prefix (n + taken) (omega arith) s) in
    let steps : length (payload_steps register ws) ≡ length ws = length-map ws _ in
    let some : i + 1 ≤ length (payload_steps register ws) = omega (arith, steps, l) in
    let after : counted_in new.values.stop m < n + 4 * (i + 1) + 4 = omega (arith, counted_within new.values.stop m, r, t) in
    let all : until (counted_in new.values.stop m) (entered_all n (payload_steps register ws) h) ≡ until (counted_in new.values.stop m) (entry (Write register w) (n + taken + 4) ∷ prefix) =
    prefix_until n (i + 1) (counted_in new.values.stop m) (payload_steps register ws) h some after
    ∙ ap (λ t. until (counted_in new.values.stop m) (entered_all n t h)) (take-map _ (i + 1) ws)
    ∙ ap (until (counted_in new.values.stop m)) (sym (word_entered register n i w taken ws h e l t)) in
    subst (λ (x : History). RegistersStandFor part kept new x m) (sym all) one

-- a word more, after which the device goes on
pub word_on : (part : PartData) (kept : Kept) (old new : RegistersState) (register n i w left taken m : ℕ) (ws : List ℕ) (h : History) → take (i + 1) ws ≡ take i ws ++ w ∷ [] → i < length ws → taken ≡ 4 * i → left ≡ 0 → m ≡ n + (taken + (4 - left)) → new.values.stop ≡ None
    → ((h : History) (n : ℕ) → 0 < 4 → RegistersStandFor part kept old h n → RegistersStandFor part kept new (until (counted_in new.values.stop (n + (4 - left))) (entry (Write register w) (n + 4) ∷ h)) (n + (4 - left)))
    → RegistersStandFor part kept old (entered_all n (payload_steps register (take i ws)) h) (n + taken)
    → RegistersStandFor part kept new (entered_all n (payload_steps register (take (i + 1) ws)) h) m
word_on part kept old new register n i w left taken m ws h e l t k r g f s =
    let prefix : History = entered_all n (payload_steps register (take i ws)) h in
    let here : n + taken + (4 - left) ≡ m = omega (arith, k, r) in
    let last : n + taken + 4 ≤ m = omega (arith, k, r) in
    let one : RegistersStandFor part kept new (until (counted_in new.values.stop m) (entry (Write register w) (n + taken + 4) ∷ prefix)) m =
    subst (λ (x : ℕ). RegistersStandFor part kept new (until (counted_in new.values.stop x) (entry (Write register w) (n + taken + 4) ∷ prefix)) x) here (f prefix (n + taken) (omega arith) s) in
    let all : until (counted_in new.values.stop m) (entry (Write register w) (n + taken + 4) ∷ prefix) ≡ entered_all n (payload_steps register (take (i + 1) ws)) h =
    ap (λ (o : Option StopCause). until (counted_in o m) (entry (Write register w) (n + taken + 4) ∷ prefix)) g
    ∙ ap (λ (b : Bool). if b then until m prefix else entry (Write register w) (n + taken + 4) ∷ prefix) (le-ltb m (n + taken + 4) last)
    ∙ word_entered register n i w taken ws h e l t in
    subst (λ (x : History). RegistersStandFor part kept new x m) all one

-- registers that took all words, and that nothing stopped, are those after these words
pub words_all : (part : PartData) (kept : Kept) (d : RegistersState) (register n i m : ℕ) (ws : List ℕ) (h : History) → length ws ≤ i → d.values.stop ≡ None → RegistersStandFor part kept d (entered_all n (payload_steps register (take i ws)) h) m
    → RegistersStandFor part kept d (until (counted_in d.values.stop m) (entered_all n (payload_steps register ws) h)) m
words_all part kept d register n i m ws h l e s =
    let all : take i ws ≡ ws = take_all i ws l in
    all_counted part kept d (entered_all n (payload_steps register ws) h) m (ap (λ (o : Option StopCause). counted_in o m) e)
    (subst (λ (t : List ℕ). RegistersStandFor part kept d (entered_all n (payload_steps register t) h) m) all s)
