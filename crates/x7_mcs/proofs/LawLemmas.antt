-- Laws of what a flash text gives.
use Rattle.std.proofs.Common.{◌≡◌, ℕ, zero, suc, ◌+◌, ◌-◌, ◌*◌, ◌/◌, ◌%◌, ◌^◌, ◌==◌, ◌&&◌, ◌||◌, nat_le, nat_lt, ◌<◌, ◌≤◌, Bool, true, false, not, if◌then◌else◌, List, [], ◌∷◌, ◌++◌, Option, None, Some, Result, Ok, Err, length, take, drop, get_or, refl, ap, ap₂, sym, subst, ◌∙◌, arith, append_assoc, length-append, length-drop}
use Rattle.std.proofs.lemmas.Grind.{common_steps}
use Rattle.std.proofs.lemmas.List.{take-append-le, nil_from_length}
use Rattle.std.proofs.lemmas.List.FromFn.{get_or-map-range_with_len, length-map-range_with_len}
use Rattle.std.proofs.lemmas.Bool.{or_left, or_parts, or_right}
use Rattle.x7_text.specs.Row.{rows}
use Rattle.x7_mcs.specs.Lines.{lines_of}
use Rattle.x7_mcs.specs.Record.{block_size, record_address, record_count, record_data, sum_found, meaning_by_type, meaning_of, bytes_of_pairs, record_type, base_value, sum_wanted}
use Rattle.x7_mcs.specs.DataRecords.{HaveNoOverlap, DataRecord, byte_at, covered, covers, record_end, extent, records_image, overlap, unless_covered, with_record}
use Rattle.x7_mcs.specs.Flash.{FlashReading, after_bytes, after_line, after_lines, after_meaning, and_then, flash_in, mcs_of, of_no_line, flash_reading, with_end, with_records}
use Rattle.x7_mcs.specs.Text.{block_start, data_line, row_lines}
use Rattle.x7_mcs.specs.declared.fault.McsFault.{McsFault}
use Rattle.x7_mcs.specs.declared.fault.McsFault.TheVariants as fault
use Rattle.x7_mcs.specs.declared.record.Meaning.{Meaning}
use Rattle.x7_mcs.specs.declared.record.Meaning.TheVariants as meaning
use Rattle.x7_mcs.proofs.OutcomeLemmas.{none_is}
use Rattle.x7_mcs.proofs.RowsLemmas.{first_of_16}
use Rattle.std.proofs.Math.Seq.{drop-append-le}

-- ---- lines in turn

then_again : (r : Result FlashReading McsFault) (f g : FlashReading → Result FlashReading McsFault) → and_then (and_then r f) g ≡ and_then r (λ s. and_then (f s) g)
then_again (Err e) f g = refl
then_again (Ok s) f g = refl

then_same : (r : Result FlashReading McsFault) (f g : FlashReading → Result FlashReading McsFault) → ((s : FlashReading) → f s ≡ g s) → and_then r f ≡ and_then r g
then_same (Err e) f g h = refl
then_same (Ok s) f g h = h s

pub in_turn : (first : List (List ℕ)) (n : ℕ) (r : FlashReading) (others : List (List ℕ)) → after_lines n r (first ++ others) ≡ and_then (after_lines n r first) (λ s. after_lines (n + length first) s others)
in_turn [] n r others = let e : n ≡ n + length {A = List ℕ} [] = omega arith in ap (λ (k : ℕ). after_lines k r others) e
in_turn (t ∷ ts) n r others =
    let e : n + 1 + length ts ≡ n + length (t ∷ ts) = omega arith in
    then_same (after_line n r t) _ _ (λ s. in_turn ts (n + 1) s others ∙ ap (λ (k : ℕ). and_then (after_lines (n + 1) s ts) (λ q. after_lines k q others)) e)
    ∙ sym (then_again (after_line n r t) (λ s. after_lines (n + 1) s ts) (λ s. after_lines (n + length (t ∷ ts)) s others))

-- ---- bytes by place

pub image_long : (xs : List DataRecord) → length (records_image xs) ≡ extent xs
image_long xs = length-map-range_with_len (byte_at xs) 0 (extent xs)

pub image_at : (xs : List DataRecord) (p : ℕ) → p < extent xs → get_or (records_image xs) p 255 ≡ byte_at xs p
image_at xs p h = get_or-map-range_with_len (byte_at xs) 0 (extent xs) p p 255 h (omega arith)

covered_there : (before after : List DataRecord) (x : DataRecord) (p : ℕ) → covers x p ≡ true → covered (before ++ x ∷ after) p ≡ true
covered_there [] after x p c = or_left (covers x p) (covered after p) c
covered_there (y ∷ ys) after x p c = or_right (covers y p) (covered (ys ++ x ∷ after) p) (covered_there ys after x p c)

pub byte_there : (before after : List DataRecord) (x : DataRecord) (p : ℕ) → HaveNoOverlap (before ++ x ∷ after) → covers x p ≡ true → byte_at (before ++ x ∷ after) p ≡ get_or x.bytes (p - x.place) 255
byte_there [] after x p a c = ap (λ (b : Bool). if b then get_or x.bytes (p - x.place) 255 else byte_at after p) c
byte_there (y ∷ ys) after x p a c = by (covers y p) refl (byte_there ys after x p a.1 c)
  where
    by : (b : Bool) → covers y p ≡ b → byte_at (ys ++ x ∷ after) p ≡ get_or x.bytes (p - x.place) 255 → (if covers y p then get_or y.bytes (p - y.place) 255 else byte_at (ys ++ x ∷ after) p) ≡ get_or x.bytes (p - x.place) 255
    by true e h = let f : true ≡ false = sym (covered_there ys after x p c) ∙ a.0 p e in absurd cc
    by false e h = ap (λ (b : Bool). if b then get_or y.bytes (p - y.place) 255 else byte_at (ys ++ x ∷ after) p) e ∙ h

pub byte_free : (xs : List DataRecord) (p : ℕ) → covered xs p ≡ false → byte_at xs p ≡ 255
byte_free [] p c = refl
byte_free (x ∷ xs) p c = let b = or_parts (covers x p) (covered xs p) c in ap (λ (d : Bool). if d then get_or x.bytes (p - x.place) 255 else byte_at xs p) b.0 ∙ byte_free xs p b.1

-- ---- records are apart

within_record : (x : DataRecord) (p : ℕ) → covers x p ≡ true → (x.place ≤ p) × (p < x.place + length x.bytes)
within_record x p e = grind (arith, common_steps)

apart_if : (o : Option ℕ) (xs ys : List DataRecord) (x : DataRecord) → o ≡ overlap xs x.place (length x.bytes) → unless_covered o (x ∷ xs) ≡ Ok ys → HaveNoOverlap xs → HaveNoOverlap ys
apart_if (Some q) xs ys x e f a = absurd cc
apart_if None xs ys x e f a =
    let same : x ∷ xs ≡ ys = cc in
    subst HaveNoOverlap same (λ p c. (let w = within_record x p c in none_is xs x.place (length x.bytes) (sym e) p w.0 w.1), a)

apart_with : (b : Bool) (n : ℕ) (xs ys : List DataRecord) (x : DataRecord) → (if b then Err (fault.TooLarge n) else unless_covered (overlap xs x.place (length x.bytes)) (x ∷ xs)) ≡ Ok ys → HaveNoOverlap xs → HaveNoOverlap ys
apart_with true n xs ys x f a = absurd cc
apart_with false n xs ys x f a = apart_if (overlap xs x.place (length x.bytes)) xs ys x refl f a

apart_records : (q : Result (List DataRecord) McsFault) (r s : FlashReading) → with_records r q ≡ Ok s → ((ys : List DataRecord) → q ≡ Ok ys → HaveNoOverlap ys) → HaveNoOverlap s.records
apart_records (Err f) r s e h = absurd cc
apart_records (Ok ys) r s e h = let same : record { base = r.base; has_ended = r.has_ended; records = ys } ≡ s = cc in ap_apart same (h ys refl)
  where
    ap_apart : {t u : FlashReading} → t ≡ u → HaveNoOverlap t.records → HaveNoOverlap u.records
    ap_apart p a = subst (λ (v : FlashReading). HaveNoOverlap v.records) p a

apart_meaning : (m : Result Meaning McsFault) (n : ℕ) (r s : FlashReading) (bs : List ℕ) → after_meaning n r bs m ≡ Ok s → HaveNoOverlap r.records → HaveNoOverlap s.records
apart_meaning (Err f) n r s bs e a = absurd cc
apart_meaning (Ok meaning.Start) n r s bs e a = let same : r ≡ s = cc in subst (λ (v : FlashReading). HaveNoOverlap v.records) same a
apart_meaning (Ok meaning.End) n r s bs e a = let same : record { base = r.base; has_ended = true; records = r.records } ≡ s = cc in subst (λ (v : FlashReading). HaveNoOverlap v.records) same a
apart_meaning (Ok (meaning.Base base)) n r s bs e a = let same : record { base = base; has_ended = r.has_ended; records = r.records } ≡ s = cc in subst (λ (v : FlashReading). HaveNoOverlap v.records) same a
apart_meaning (Ok (meaning.Data address)) n r s bs e a = let x : DataRecord = record { place = r.base + address; bytes = record_data bs } in
    apart_records (with_record n r.records x) r s e (λ ys f. apart_with (nat_lt (2 ^ 27) (record_end x)) n r.records ys x f a)

apart_bytes : (o : Option (List ℕ)) (n : ℕ) (r s : FlashReading) → after_bytes n r o ≡ Ok s → HaveNoOverlap r.records → HaveNoOverlap s.records
apart_bytes None n r s e a = absurd cc
apart_bytes (Some bs) n r s e a = apart_meaning (meaning_of n r.has_ended bs) n r s bs e a

apart_colon : (b : Bool) (o : Option (List ℕ)) (n : ℕ) (r s : FlashReading) → (if b then after_bytes n r o else Err (fault.Line n)) ≡ Ok s → HaveNoOverlap r.records → HaveNoOverlap s.records
apart_colon true o n r s e a = apart_bytes o n r s e a
apart_colon false o n r s e a = absurd cc

apart_line : (t : List ℕ) (n : ℕ) (r s : FlashReading) → after_line n r t ≡ Ok s → HaveNoOverlap r.records → HaveNoOverlap s.records
apart_line [] n r s e a = let same : r ≡ s = cc in subst (λ (v : FlashReading). HaveNoOverlap v.records) same a
apart_line (c ∷ cs) n r s e a = apart_colon (c == 58) (bytes_of_pairs cs) n r s e a

apart_then : (q : Result FlashReading McsFault) (more : FlashReading → Result FlashReading McsFault) (s : FlashReading) → and_then q more ≡ Ok s → ((t : FlashReading) → q ≡ Ok t → more t ≡ Ok s → HaveNoOverlap s.records) → HaveNoOverlap s.records
apart_then (Err f) more s e h = absurd cc
apart_then (Ok t) more s e h = h t refl e

apart_lines : (ts : List (List ℕ)) (n : ℕ) (r s : FlashReading) → after_lines n r ts ≡ Ok s → HaveNoOverlap r.records → HaveNoOverlap s.records
apart_lines [] n r s e a = let same : r ≡ s = cc in subst (λ (v : FlashReading). HaveNoOverlap v.records) same a
apart_lines (t ∷ ts) n r s e a = apart_then (after_line n r t) (λ q. after_lines (n + 1) q ts) s e (λ q f g. apart_lines ts (n + 1) q s g (apart_line t n r q f a))

end_if : (b : Bool) (r s : FlashReading) → (if b then Ok r else Err fault.NoEnd) ≡ Ok s → r ≡ s
end_if true r s e = cc
end_if false r s e = absurd cc

apart_end : (q : Result FlashReading McsFault) (s : FlashReading) → with_end q ≡ Ok s → q ≡ Ok s
apart_end (Err f) s e = absurd cc
apart_end (Ok r) s e = ap Ok (end_if r.has_ended r s e)

pub records_apart : (text : List ℕ) (r : FlashReading) → flash_reading text ≡ Ok r → HaveNoOverlap r.records
records_apart text r e = apart_lines (lines_of text) 1 of_no_line r (apart_end (after_lines 1 of_no_line (lines_of text)) r e) tt

-- ---- rows in parts

pub in_parts : (k place : ℕ) (xs ys : List ℕ) → length xs ≡ 16 * k → row_lines place (rows 16 (xs ++ ys)) ≡ row_lines place (rows 16 xs) ++ row_lines (place + length xs) (rows 16 ys)
in_parts zero place xs ys e =
    let none : xs ≡ [] = nil_from_length xs (omega (arith, e)) in
    let here : place ≡ place + length xs = omega (arith, e) in
    ap (λ (t : List ℕ). row_lines place (rows 16 (t ++ ys))) none ∙ ap (λ (p : ℕ). row_lines p (rows 16 ys)) here ∙ ap (λ (t : List ℕ). row_lines place (rows 16 t) ++ row_lines (place + length xs) (rows 16 ys)) (sym none)
in_parts (suc k) place xs ys e =
    let long : length (drop 16 xs) ≡ length xs - 16 = length-drop 16 xs in
    let both : length (xs ++ ys) ≡ length xs + length ys = length-append xs ys in
    let one : length (take 16 xs) ≡ 16 = first_long xs (omega (arith, e)) in
    let rest : length (drop 16 xs) ≡ 16 * k = omega (arith, e, long) in
    let there : place + length (take 16 xs) + length (drop 16 xs) ≡ place + length xs = omega (arith, one, long, e) in
    ap (row_lines place) (first_of_16 (xs ++ ys) (omega (arith, both, e)))
    ∙ ap₂ (λ (t u : List ℕ). block_start place ++ data_line (place % block_size) t ++ row_lines (place + length t) (rows 16 u)) (take-append-le 16 xs ys (omega (arith, e))) (drop-append-le 16 xs ys (omega (arith, e)))
    ∙ ap (λ (t : List ℕ). block_start place ++ data_line (place % block_size) (take 16 xs) ++ t) (in_parts k (place + length (take 16 xs)) (drop 16 xs) ys rest ∙ ap (λ (p : ℕ). row_lines (place + length (take 16 xs)) (rows 16 (drop 16 xs)) ++ row_lines p (rows 16 ys)) there)
    ∙ joined (block_start place) (data_line (place % block_size) (take 16 xs)) (row_lines (place + length (take 16 xs)) (rows 16 (drop 16 xs))) (row_lines (place + length xs) (rows 16 ys))
    ∙ ap (λ (t : List (List ℕ)). row_lines place t ++ row_lines (place + length xs) (rows 16 ys)) (sym (first_of_16 xs (omega (arith, e))))
  where
    first_long : (zs : List ℕ) → 16 ≤ length zs → length (take 16 zs) ≡ 16
    first_long zs h = grind (arith, common_steps)

    joined : (a b c d : List ℕ) → a ++ b ++ (c ++ d) ≡ (a ++ b ++ c) ++ d
    joined a b c d = sym (append_assoc (a ++ b) c d)

sixteens : (n : ℕ) → n % 16 ≡ 0 → n ≡ 16 * (n / 16)
sixteens n h = omega (arith, h)

pub rows_in_parts : (place : ℕ) (xs ys : List ℕ) → length xs % 16 ≡ 0 → row_lines place (rows 16 (xs ++ ys)) ≡ row_lines place (rows 16 xs) ++ row_lines (place + length xs) (rows 16 ys)
rows_in_parts place xs ys h = in_parts (length xs / 16) place xs ys (sixteens (length xs) h)

-- ---- want of memory

-- no fault, or another than want of memory
abbrev pub IsReported : {A : Type 0} → Result A McsFault → Type 0
IsReported r = r ≡ Err fault.NoMemory → ⊥

reported_if_ok : (b : Bool) (m : Meaning) (r : Result Meaning McsFault) → IsReported r → IsReported (if b then Ok m else r)
reported_if_ok true m r h e = absurd cc
reported_if_ok false m r h e = h e

reported_if_err : (b : Bool) (f : McsFault) (r : Result Meaning McsFault) → (f ≡ fault.NoMemory → ⊥) → IsReported r → IsReported (if b then Err f else r)
reported_if_err true f r g h e = g (let s : f ≡ fault.NoMemory = cc in s)
reported_if_err false f r g h e = h e

reported_line : {A : Type 0} (n : ℕ) → IsReported {A = A} (Err (fault.Line n))
reported_line n e = absurd cc

reported_type : (n : ℕ) (bs : List ℕ) → IsReported (meaning_by_type n bs)
reported_type n bs =
    reported_if_ok (record_type bs == 0 && nat_le (record_address bs + record_count bs) block_size) (meaning.Data (record_address bs)) _
    (reported_if_ok (record_type bs == 1 && record_count bs == 0) meaning.End _
    (reported_if_ok (record_type bs == 2 && record_count bs == 2) (meaning.Base (16 * base_value bs)) _
    (reported_if_ok (record_type bs == 4 && record_count bs == 2) (meaning.Base (block_size * base_value bs)) _
    (reported_if_ok ((record_type bs == 3 || record_type bs == 5) && record_count bs == 4) meaning.Start (Err (fault.Line n)) (reported_line n)))))

reported_meaning : (n : ℕ) (has_ended : Bool) (bs : List ℕ) → IsReported (meaning_of n has_ended bs)
reported_meaning n has_ended bs =
    reported_if_err (not (record_count bs + 5 == length bs)) (fault.Line n) _ (λ e. absurd cc)
    (reported_if_err (not (sum_wanted bs == sum_found bs)) (fault.Sum n (sum_wanted bs) (sum_found bs)) _ (λ e. absurd cc) (reported_if_err has_ended (fault.Line n) (meaning_by_type n bs) (λ e. absurd cc) (reported_type n bs)))

reported_covered : (o : Option ℕ) (xs : List DataRecord) → IsReported (unless_covered o xs)
reported_covered (Some q) xs e = absurd cc
reported_covered None xs e = absurd cc

reported_large : (b : Bool) (n : ℕ) (o : Option ℕ) (xs : List DataRecord) → IsReported (if b then Err (fault.TooLarge n) else unless_covered o xs)
reported_large true n o xs e = absurd cc
reported_large false n o xs e = reported_covered o xs e

reported_records : (r : FlashReading) (q : Result (List DataRecord) McsFault) → IsReported q → IsReported (with_records r q)
reported_records r (Err f) h e = h (let s : Err f ≡ Err fault.NoMemory = cc in s)
reported_records r (Ok xs) h e = absurd cc

reported_after : (m : Result Meaning McsFault) (n : ℕ) (r : FlashReading) (bs : List ℕ) → IsReported m → IsReported (after_meaning n r bs m)
reported_after (Err f) n r bs h e = h (let s : Err f ≡ Err fault.NoMemory = cc in s)
reported_after (Ok meaning.Start) n r bs h e = absurd cc
reported_after (Ok meaning.End) n r bs h e = absurd cc
reported_after (Ok (meaning.Base base)) n r bs h e = absurd cc
reported_after (Ok (meaning.Data address)) n r bs h e =
    let x : DataRecord = record { place = r.base + address; bytes = record_data bs } in
    reported_records r (with_record n r.records x) (reported_large (nat_lt (2 ^ 27) (record_end x)) n (overlap r.records x.place (length x.bytes)) (x ∷ r.records)) e

reported_bytes : (o : Option (List ℕ)) (n : ℕ) (r : FlashReading) → IsReported (after_bytes n r o)
reported_bytes None n r e = absurd cc
reported_bytes (Some bs) n r e = reported_after (meaning_of n r.has_ended bs) n r bs (reported_meaning n r.has_ended bs) e

reported_colon : (b : Bool) (o : Option (List ℕ)) (n : ℕ) (r : FlashReading) → IsReported (if b then after_bytes n r o else Err (fault.Line n))
reported_colon true o n r e = reported_bytes o n r e
reported_colon false o n r e = absurd cc

pub reported_one : (t : List ℕ) (n : ℕ) (r : FlashReading) → IsReported (after_line n r t)
reported_one [] n r e = absurd cc
reported_one (c ∷ cs) n r e = reported_colon (c == 58) (bytes_of_pairs cs) n r e

reported_then : (q : Result FlashReading McsFault) (more : FlashReading → Result FlashReading McsFault) → IsReported q → ((s : FlashReading) → IsReported (more s)) → IsReported (and_then q more)
reported_then (Err f) more h k e = h (let s : Err f ≡ Err fault.NoMemory = cc in s)
reported_then (Ok s) more h k e = k s e

reported_lines : (ts : List (List ℕ)) (n : ℕ) (r : FlashReading) → IsReported (after_lines n r ts)
reported_lines [] n r e = absurd cc
reported_lines (t ∷ ts) n r e = reported_then (after_line n r t) (λ s. after_lines (n + 1) s ts) (reported_one t n r) (λ s. reported_lines ts (n + 1) s) e

reported_flash : (b : Bool) (r : FlashReading) → IsReported (flash_in (if b then Ok r else Err fault.NoEnd))
reported_flash true r e = absurd cc
reported_flash false r e = absurd cc

reported_end : (q : Result FlashReading McsFault) → IsReported q → IsReported (flash_in (with_end q))
reported_end (Err f) h e = h (let s : Err f ≡ Err fault.NoMemory = cc in s)
reported_end (Ok r) h e = reported_flash r.has_ended r e

pub no_memory : (text : List ℕ) → mcs_of text ≡ Err fault.NoMemory → ⊥
no_memory text = reported_end (after_lines 1 of_no_line (lines_of text)) (reported_lines (lines_of text) 1 of_no_line)
