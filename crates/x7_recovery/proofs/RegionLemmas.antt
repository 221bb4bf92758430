-- A boot from a flash of which a region was updated.
use Rattle.std.proofs.Common.{◌≡◌, ℕ, ◌+◌, ◌-◌, ◌<◌, ◌≤◌, List, [], ◌∷◌, ◌++◌, length, get_or, take, drop, refl, ap, sym, subst, ◌∙◌, arith, length-append, length-drop}
use Rattle.std.proofs.lemmas.List.{drop-append-le, get_or_append_left, take-append-le}
use Rattle.x7_packets.specs.FlashSlot.{sector_size}
use Rattle.x7_words.specs.Flash.{erased_sector}
use Rattle.x7_words.specs.Word.{AreBytes}
use Rattle.x7_words.proofs.FlashLemmas.{length_erased_sector, bytes_erased_sector}
use Rattle.x7_words.proofs.ListLemmas.{all_append}
use Rattle.x7_part.specs.Part.{PartData}
use Rattle.x7_boot.specs.Attempt.{BootAttempt, attempt_end}
use Rattle.x7_boot.specs.Boot.{BootedState, IsBoot, LeadsTo}
use Rattle.x7_boot.specs.BootCourse.{course_of}
use Rattle.x7_boot.specs.declared.next.Next.{Next}
use Rattle.x7_boot.proofs.OverLemmas.{attempt_over}
use Rattle.x7_update.specs.Layout.{IsUpdatable, four_at}
use Rattle.x7_update.specs.After.{IsBetweenSlots, MayBeLeft, after, between, untouched}
use Rattle.x7_update.proofs.LawLemmas.{no_sync}
use Rattle.x7_recovery.specs.Golden.{GoldenStarts, IsPreparedByAttempt, LeadsNowhere, StartsAlike, UpdatingByAttempt, with_first_sector_erased}
use Rattle.x7_recovery.specs.Region.{EndWithin, RegionBootsAlike, as_after, as_before, golden}
use Rattle.x7_recovery.proofs.GoldenLemmas.{erased_drop, erased_leads_nowhere, erased_take, golden_stands, leading_nowhere_alike}

-- four bytes of a region
four_before : (region more : List ℕ) (place : ℕ) → place + 3 < length region → four_at (region ++ more) place ≡ four_at region place
four_before region more place h =
    let at : (k : ℕ) → k < length region → get_or (region ++ more) k 0 ≡ get_or region k 0 = λ k l. get_or_append_left region more 0 k l in
    rw (at place (omega (arith, h)), at (place + 1) (omega (arith, h)), at (place + 2) (omega (arith, h)), at (place + 3) (omega (arith, h))) refl

-- the golden stream of a region that was left between slots
region_alike : (part : PartData) (flash found more : List ℕ) (t : BootAttempt) (b : BootedState) → IsUpdatable flash → IsBetweenSlots flash found → GoldenStarts part flash t → AreBytes found → AreBytes more
    → (boot : IsBoot part (found ++ more) b) → StartsAlike part t (course_of b boot.last)
region_alike part flash found more t b l left starts fits others boot =
    let n = length t.bytes - sector_size in
    let long : sector_size + sector_size ≤ length found = omega (arith, left.size, l.size.least) in
    let nowhere : LeadsNowhere (found ++ more) = λ place h e. no_sync flash found l left place h (sym (four_before found more place (omega (arith, h, long))) ∙ e) in
    let within : n ≤ length (drop sector_size found) = omega (arith, length-drop sector_size found, left.size, starts.ends, l.slots.place.most) in
    let same : take n (drop sector_size (found ++ more)) ≡ take n (drop sector_size found) =
    ap (take n) (drop-append-le sector_size found more (omega (arith, long))) ∙ take-append-le n (drop sector_size found) more within in
    leading_nowhere_alike part (with_first_sector_erased flash) (found ++ more) t (erased_leads_nowhere (drop sector_size flash)) nowhere (subst AreBytes (sym (erased_take (drop sector_size flash))) bytes_erased_sector)
    (all_append (λ x. x < 256) found more fits others) (omega (arith, length-append erased_sector (drop sector_size flash), length_erased_sector)) (omega (arith, length-append found more, long)) starts.starts
    (same ∙ golden_stands flash found (length t.bytes) l left starts.ends ∙ ap (take n) (sym (erased_drop (drop sector_size flash)))) b boot

pub region_boots : (u : UpdatingByAttempt) (more found : List ℕ) (b : BootedState) → IsPreparedByAttempt u → AreBytes more → MayBeLeft u.stream u.flash found → IsBoot u.part (found ++ more) b → RegionBootsAlike u more found b
region_boots u more found b p others (untouched same) boot = as_before (subst (λ (x : List ℕ). IsBoot u.part (x ++ more) b) same boot)
region_boots u more found b p others (between l fits left) boot = golden boot (region_alike u.part u.flash found more u.golden b l left p.golden fits others boot)
region_boots u more found b p others (after l done) boot = as_after done boot

-- ---- attempts that end within a region

leads_more : (part : PartData) (region more : List ℕ) (attempts : List BootAttempt) (next : Next) → EndWithin region attempts → LeadsTo part region attempts next → LeadsTo part (region ++ more) attempts next
leads_more part region more [] next ends leads = leads
leads_more part region more (t ∷ older) next ends leads =
    (leads_more part region more older _ ends.2 leads.0, attempt_over part region (region ++ more) t leads.1 ends.0 (take-append-le (attempt_end t) region more ends.1), leads.2)

pub boots_more : (part : PartData) (region more : List ℕ) (b : BootedState) (boot : IsBoot part region b) → EndWithin region (boot.last ∷ boot.older) → IsBoot part (region ++ more) b
boots_more part region more b boot ends = record {
  last = boot.last;
  older = boot.older;
  leads = leads_more part region more (boot.last ∷ boot.older) _ ends boot.leads;
  attempts = boot.attempts;
  device = boot.device;
}
