-- Lines that were written are read.
use Rattle.std.proofs.Common.{◌≡◌, ℕ, ◌+◌, ◌-◌, ◌*◌, ◌/◌, ◌%◌, ◌<◌, ◌≤◌, Bool, false, if◌then◌else◌, List, [], ◌∷◌, ◌++◌, Option, Ok, Err, length, refl, ap, ap₂, ◌∙◌, arith, length-append}
use Rattle.x7_text.proofs.CaseLemmas.{pairs_back}
use Rattle.std.proofs.lemmas.List.{take_at}
use Rattle.std.proofs.lemmas.Bool.{le-leb}
use Rattle.x7_words.specs.Word.{AreBytes}
use Rattle.x7_mcs.specs.Lines.{lines_of}
use Rattle.x7_mcs.specs.Record.{block_size, meaning_of, sum_byte}
use Rattle.x7_mcs.specs.DataRecords.{DataRecord, with_record}
use Rattle.x7_mcs.specs.Flash.{FlashReading, after_bytes, after_lines, after_meaning, and_then, with_records}
use Rattle.x7_mcs.specs.Flash.{mcs_reading}
use Rattle.x7_mcs.specs.Text.{base_line, data_line, record_line}
use Rattle.x7_mcs.specs.declared.fault.McsFault.TheVariants as fault
use Rattle.x7_mcs.specs.declared.record.Meaning.TheVariants as meaning
use Rattle.x7_mcs.proofs.RoundLemmas.{record_first, meaning_written}

-- a record's line is read
pub read_record : (n : ℕ) (g : FlashReading) (bs rest : List ℕ) → AreBytes (bs ++ sum_byte bs ∷ [])
    → after_lines n g (lines_of (record_line bs ++ rest)) ≡ and_then (after_meaning n g (bs ++ sum_byte bs ∷ []) (meaning_of n g.has_ended (bs ++ sum_byte bs ∷ []))) (λ h. after_lines (n + 1) h (lines_of rest))
read_record n g bs rest h =
    ap (after_lines n g) (record_first bs rest)
    ∙ ap (λ (o : Option (List ℕ)). and_then (after_bytes n g o) (λ k. after_lines (n + 1) k (lines_of rest))) (pairs_back (bs ++ sum_byte bs ∷ []) h)

whole : (k : ℕ) → 256 * (k / 256) + k % 256 ≡ k
whole k = omega arith

sum_fits : (s : ℕ) → (256 - s % 256) % 256 < 256
sum_fits s = omega arith

pub read_base : (n base k : ℕ) (xs : List DataRecord) (rest : List ℕ) → k < 65536 → after_lines n (mcs_reading base false xs) (lines_of (base_line k ++ rest)) ≡ after_lines (n + 1) (mcs_reading (block_size * k) false xs) (lines_of rest)
read_base n base k xs rest h =
    let bs : List ℕ = 2 ∷ 0 ∷ 0 ∷ 4 ∷ k / 256 ∷ k % 256 ∷ [] in
    let s : sum_byte (2 ∷ 0 ∷ 0 ∷ 4 ∷ k / 256 ∷ k % 256 ∷ []) < 256 = sum_fits _ in
    read_record n (mcs_reading base false xs) (2 ∷ 0 ∷ 0 ∷ 4 ∷ k / 256 ∷ k % 256 ∷ []) rest (omega arith, (omega arith, (omega arith, (omega arith, (omega arith, (omega arith, (s, tt)))))))
    ∙ ap (λ r. and_then (after_meaning n (mcs_reading base false xs) ((2 ∷ 0 ∷ 0 ∷ 4 ∷ k / 256 ∷ k % 256 ∷ []) ++ sum_byte (2 ∷ 0 ∷ 0 ∷ 4 ∷ k / 256 ∷ k % 256 ∷ []) ∷ []) r) (λ g. after_lines (n + 1) g (lines_of rest)))
    (meaning_written n (2 ∷ 0 ∷ 0 ∷ 4 ∷ k / 256 ∷ k % 256 ∷ []) refl)
    ∙ ap (λ (v : ℕ). after_lines (n + 1) (mcs_reading (block_size * v) false xs) (lines_of rest)) (whole k)

no_more : (bs : List ℕ) (s : ℕ) → AreBytes bs → s < 256 → AreBytes (bs ++ s ∷ [])
no_more [] s h k = (k, tt)
no_more (b ∷ bs) s h k = (h.0, no_more bs s h.1 k)

pub read_data : (n base a : ℕ) (xs : List DataRecord) (r rest : List ℕ) → AreBytes r → length r < 256 → a + length r ≤ block_size → a < block_size
    → after_lines n (mcs_reading base false xs) (lines_of (data_line a r ++ rest)) ≡ and_then (with_records (mcs_reading base false xs) (with_record n xs (record { place = base + a; bytes = r }))) (λ g. after_lines (n + 1) g (lines_of rest))
read_data n base a xs r rest h small fits low =
    let bs : List ℕ = length r ∷ a / 256 ∷ a % 256 ∷ 0 ∷ r in
    let v : ℕ = sum_byte (length r ∷ a / 256 ∷ a % 256 ∷ 0 ∷ r) in
    let s : sum_byte (length r ∷ a / 256 ∷ a % 256 ∷ 0 ∷ r) < 256 = sum_fits _ in
    let long : length r + 5 ≡ length ((length r ∷ a / 256 ∷ a % 256 ∷ 0 ∷ r) ++ sum_byte (length r ∷ a / 256 ∷ a % 256 ∷ 0 ∷ r) ∷ []) = omega (arith, length-append r (sum_byte (length r ∷ a / 256 ∷ a % 256 ∷ 0 ∷ r) ∷ [])) in
    read_record n (mcs_reading base false xs) (length r ∷ a / 256 ∷ a % 256 ∷ 0 ∷ r) rest (omega arith, (omega arith, (omega arith, (omega arith, no_more r (sum_byte (length r ∷ a / 256 ∷ a % 256 ∷ 0 ∷ r)) h s))))
    ∙ ap (λ t. and_then (after_meaning n (mcs_reading base false xs) ((length r ∷ a / 256 ∷ a % 256 ∷ 0 ∷ r) ++ sum_byte (length r ∷ a / 256 ∷ a % 256 ∷ 0 ∷ r) ∷ []) t) (λ g. after_lines (n + 1) g (lines_of rest)))
    (meaning_written n (length r ∷ a / 256 ∷ a % 256 ∷ 0 ∷ r) long)
    ∙ ap (λ (b : Bool). and_then
    (after_meaning n (mcs_reading base false xs) ((length r ∷ a / 256 ∷ a % 256 ∷ 0 ∷ r) ++ sum_byte (length r ∷ a / 256 ∷ a % 256 ∷ 0 ∷ r) ∷ []) (if b then Ok (meaning.Data (256 * (a / 256) + a % 256)) else Err (fault.Line n)))
    (λ g. after_lines (n + 1) g (lines_of rest)))
    (le-leb (256 * (a / 256) + a % 256 + length r) block_size (omega arith))
    ∙ ap₂ (λ (d : ℕ) (t : List ℕ). and_then (with_records (mcs_reading base false xs) (with_record n xs (record { place = base + d; bytes = t }))) (λ g. after_lines (n + 1) g (lines_of rest)))
    (whole a) (take_at r (sum_byte (length r ∷ a / 256 ∷ a % 256 ∷ 0 ∷ r) ∷ []) (length r) refl)

pub read_free : (n base a : ℕ) (xs : List DataRecord) (r rest : List ℕ) → AreBytes r → length r < 256 → a + length r ≤ block_size → a < block_size → with_record n xs (record { place = base + a; bytes = r }) ≡ Ok (record { place = base + a; bytes = r } ∷ xs)
    → after_lines n (mcs_reading base false xs) (lines_of (data_line a r ++ rest)) ≡ after_lines (n + 1) (mcs_reading base false (record { place = base + a; bytes = r } ∷ xs)) (lines_of rest)
read_free n base a xs r rest h small fits low w = read_data n base a xs r rest h small fits low ∙ ap (λ t. and_then (with_records (mcs_reading base false xs) t) (λ g. after_lines (n + 1) g (lines_of rest))) w
