-- All that a boot from a flash with an open slot comes to, and from one that was updated.
use Rattle.std.proofs.Common.{ℕ, List, None, ◌++◌, length, refl, subst}
use Rattle.x7_part.specs.Part.{PartData}
use Rattle.x7_regs.specs.declared.boot_status.Cause.{Cause}
use Rattle.x7_regs.specs.declared.boot_status.Kind.TheVariants.{Fallback}
use Rattle.x7_memory.specs.Plan.{PlanData}
use Rattle.x7_planner.specs.FullStream.{full_stream}
use Rattle.x7_engine.specs.declared.kept.Kept.{Kept}
use Rattle.x7_boot.specs.Attempt.{BootAttempt}
use Rattle.x7_boot.specs.Image.{image_of, place_after_golden}
use Rattle.x7_recovery.specs.OpenBoot.{BootsOpen, EachBootsOpen, EachFallsBackClean, HasImageOf, HasStreams, StartsAsFallback, UpdateFallsBack}
use Rattle.x7_recovery.specs.OpenSlot.{BeginsAsImage, IsOpenFlash, OpenFlash, image_of_flash, slot_of_flash}
use Rattle.x7_recovery.specs.PlannedImage.{HasImage, flash_of_image, golden_image, place_after}
use Rattle.x7_recovery.specs.Updated.{IsUpdated, UpdatedFlash, one_more, opened_by}
use Rattle.x7_recovery.proofs.CleanBootLemmas.{falls_clean}
use Rattle.x7_recovery.proofs.HasOpenLemmas.{after_is_opened, image_as, image_golden_stands, image_is_opened, image_planned, image_update_stands}
use Rattle.x7_recovery.proofs.OpenBootLemmas.{fallback_starts, falls_alike, falls_back, full, starts, stops, tries}
use Rattle.x7_recovery.proofs.StaysLemmas.{clean_later, place_later}

pub boots_open : (o : OpenFlash) → IsOpenFlash o → EachBootsOpen o
boots_open o is c course = record {
  tries = tries o is c course;
  starts = λ t ended. starts o is c t course ended;
  full = λ update has. full o is c update course has;
  stops = λ t cause fails. stops o is c t cause course fails;
  falls_back = λ t cause golden has fails. falls_back o is c t cause golden course has fails;
  falls_clean = λ t cause golden clean fails. falls_clean o is golden clean c t cause course fails;
  falls_alike = λ t cause f fell fails. falls_alike o is c t cause f course fell fails;
}

-- boots from an image of two streams, with anything after it
pub image_boots : (part : PartData) (golden update after : List ℕ) → HasImageOf part golden update → HasStreams part golden update (image_of part.start_unit golden update ++ after)
image_boots part golden update after has =
    let place : ℕ = place_after_golden (length golden) in
    let flash : List ℕ = image_of part.start_unit golden update ++ after in
    let begins : BeginsAsImage part flash place = image_as part golden update after has.is_part has.fits in
    record {
      begins = begins;
      has_golden = image_golden_stands part golden update after has.is_part has.fits;
      has_update = image_update_stands part golden update after has.is_part has.fits;
      boots = boots_open (image_of_flash part flash place) (image_is_opened part flash place has.is_part begins);
    }

-- ---- what the laws ask of golden streams can hold

-- what some fallback keeps over its reset
abbrev some_kept : Kept
some_kept = record { wbstar = 0; timer = 0; bspi = 0; kind = Fallback; before = None }

-- over an image whose golden stream is the full stream of a plan a fallback starts
pub some_fallback_starts : (part : PartData) (golden : PlanData) (update after : List ℕ) → HasImage part golden update → (f : BootAttempt) × StartsAsFallback (flash_of_image part golden update after) f
some_fallback_starts part golden update after image =
    let streams : HasStreams part (full_stream part golden) update (golden_image part golden update ++ after) = image_boots part (full_stream part golden) update after (record { is_part = image.is_part; fits = image.fits }) in
    fallback_starts (flash_of_image part golden update after) (image_is_opened part (golden_image part golden update ++ after) (place_after part golden) image.is_part streams.begins) some_kept golden
    (image_planned part golden update after image) refl

-- ---- after updates

updated_is_opened : (u : UpdatedFlash) → (is : IsUpdated u) → IsOpenFlash (opened_by is)
updated_is_opened u is =
    subst (λ (place : ℕ). IsOpenFlash (slot_of_flash u.part u.found is.last.after.next place)) (place_later u.flash is.before is.updates) (after_is_opened u.part is.stream is.before u.found is.last)

pub updated_boots : (u : UpdatedFlash) → (is : IsUpdated u) → EachBootsOpen (opened_by is)
updated_boots u is = boots_open (opened_by is) (updated_is_opened u is)

pub updated_falls_back : (u : UpdatedFlash) (t : BootAttempt) (cause : Cause) → (is : IsUpdated u) → UpdateFallsBack (opened_by is) t cause → EachFallsBackClean (opened_by is) cause u.golden
updated_falls_back u t cause is fails c course =
    let boots : BootsOpen (opened_by is) c = updated_boots u is c course in
    boots.falls_clean t cause u.golden (clean_later u.part u.flash u.found u.golden (one_more is.before u.found is.stream is.updates is.last.updatable is.last.after) is.starts.ends is.clean) fails
