-- What lines of a flash text came to.
use Rattle.std.proofs.Common.{◌≡◌, ℕ, ◌%◌, ◌==◌, Bool, true, false, if◌then◌else◌, List, [], Ok, Err, refl, ap, sym, ◌∙◌, inl, inr}
use Rattle.std.proofs.lemmas.List.FromFn.{fill_by_all}
use Rattle.std.proofs.lemmas.Nat.Bits.{bit_at-zero}
use Rattle.x7_mcs.specs.Lines.{bare_lines}
use Rattle.x7_mcs.specs.DataRecords.{DataRecord, byte_at, extent, records_image}
use Rattle.x7_mcs.specs.Flash.{after_lines, flash_in, mcs_reading, of_no_line, with_end}
use Rattle.x7_mcs.specs.Image.{HoldsRecords, is_marked}
use Rattle.x7_mcs.specs.Readings.{FailsAsReading}
use Rattle.x7_mcs.specs.declared.mcs_lines.McsLines.{McsLines}
use Rattle.x7_mcs.specs.McsLines.{HasMcsFault, HasReadRecords, LinesCameTo, flash_of_lines}
use Rattle.x7_mcs.specs.declared.fault.McsFault.{McsFault}
use Rattle.x7_mcs.specs.declared.fault.McsFault.TheVariants as fault

no_mark : (p : ℕ) → is_marked [] p ≡ false
no_mark p = ap (λ (v : ℕ). v == 1) (bit_at-zero (p % 16))

pub nothing_read : (b : McsLines) → b.context.base ≡ 0 → b.context.has_ended ≡ false → b.image.bytes.items ≡ [] → b.image.marks.items ≡ [] → HasReadRecords b []
nothing_read b base has_ended e f = record { records = []; came = rw (base, has_ended) refl; holds = rw (e, f) (record { long = refl; at = λ p. refl; marked = λ p. no_mark p }) }

image_held : (xs : List DataRecord) (bytes marks : List ℕ) → HoldsRecords xs bytes marks → bytes ≡ records_image xs
image_held xs bytes marks h = fill_by_all (byte_at xs) bytes (extent xs) 255 h.long (λ k l. h.at k)

-- the lines of a text came to this
module _ (lines : List (List ℕ)) where
  pub gives_bytes : (s : McsLines) → LinesCameTo (after_lines 1 of_no_line (bare_lines lines)) s → s.context.has_ended ≡ true → flash_of_lines lines ≡ Ok s.image.bytes.items
  gives_bytes s t e =
      ap (λ r. flash_in (with_end r)) t.came ∙ ap (λ (b : Bool). flash_in (if b then Ok (mcs_reading s.context.base s.context.has_ended t.records) else Err fault.NoEnd)) e ∙ ap Ok (sym (image_held t.records s.image.bytes.items s.image.marks.items t.holds))

  pub gives_no_end : (s : McsLines) → LinesCameTo (after_lines 1 of_no_line (bare_lines lines)) s → s.context.has_ended ≡ false → flash_of_lines lines ≡ Err fault.NoEnd
  gives_no_end s t e = ap (λ r. flash_in (with_end r)) t.came ∙ ap (λ (b : Bool). flash_in (if b then Ok (mcs_reading s.context.base s.context.has_ended t.records) else Err fault.NoEnd)) e

  pub gives_fault : (f : McsFault) → FailsAsReading (after_lines 1 of_no_line (bare_lines lines)) f → HasMcsFault f lines
  gives_fault f (inl h) = inl h.0
  gives_fault f (inr h) = inr (ap (λ r. flash_in (with_end r)) h)
