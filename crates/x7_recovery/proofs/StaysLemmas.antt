-- A golden stream that starts does so after updates too.
use Rattle.std.proofs.Common.{◌≡◌, ◌+◌, ◌-◌, ◌≤◌, inl, inr, ℕ, List, ◌++◌, drop, take, length, refl, ap, sym, ◌∙◌, arith}
use Rattle.x7_packets.specs.FlashSlot.{sector_size}
use Rattle.x7_words.specs.Flash.{erased_sector}
use Rattle.x7_words.proofs.FlashLemmas.{length_erased_sector}
use Rattle.std.proofs.lemmas.Bool.{cases_lt}
use Rattle.std.proofs.lemmas.List.{take-append-le}
use Rattle.std.proofs.Math.Seq.{take-append-add}
use Rattle.x7_part.specs.Part.{PartData}
use Rattle.x7_boot.specs.Attempt.{BootAttempt}
use Rattle.x7_update.specs.After.{IsAfterUpdate}
use Rattle.x7_update.specs.Layout.{IsUpdatable, update_place}
use Rattle.x7_recovery.specs.Clean.{StartsClean}
use Rattle.x7_recovery.specs.Golden.{GoldenStarts, StartsAtPower, with_first_sector_erased}
use Rattle.x7_recovery.specs.Updated.{AfterUpdates, none, one_more}
use Rattle.x7_boot.proofs.OverLemmas.{attempt_over}
use Rattle.x7_recovery.proofs.GoldenLemmas.{in_flash}
use Rattle.x7_recovery.proofs.HasOpenLemmas.{after_golden_same, after_place}

same_prefixes : (e xs ys : List ℕ) (m : ℕ) → take (m - length e) xs ≡ take (m - length e) ys → take m (e ++ xs) ≡ take m (e ++ ys)
same_prefixes e xs ys m same = elim (cases_lt m (length e)) [
  | inl few ↦ (let l : m ≤ length e = omega (arith, few) in take-append-le m e xs l ∙ sym (take-append-le m e ys l))
  | inr more ↦ (let sum : length e + (m - length e) ≡ m = omega (arith, more) in
      ap (λ (n : ℕ). take n (e ++ xs)) (sym sum) ∙ take-append-add e xs (m - length e) ∙ ap (λ (x : List ℕ). e ++ x) same ∙ sym (take-append-add e ys (m - length e)) ∙ ap (λ (n : ℕ). take n (e ++ ys)) sum)
]

power_moves : (part : PartData) (flash other : List ℕ) (t : BootAttempt) → StartsAtPower part (with_first_sector_erased flash) t → take (length t.bytes - sector_size) (drop sector_size other) ≡ take (length t.bytes - sector_size) (drop sector_size flash) → StartsAtPower part (with_first_sector_erased other) t
power_moves part flash other t s same =
    let at : t.address + length t.bytes ≡ length t.bytes = omega (arith, s.address) in
    let prefixes : take (length t.bytes) (with_first_sector_erased other) ≡ take (length t.bytes) (with_first_sector_erased flash) =
    same_prefixes erased_sector (drop sector_size other) (drop sector_size flash) (length t.bytes) (ap (λ (n : ℕ). take (length t.bytes - n) (drop sector_size other)) length_erased_sector ∙ same ∙ ap (λ (n : ℕ). take (length t.bytes - n) (drop sector_size flash)) (sym length_erased_sector)) in
    record {
      is = attempt_over part (with_first_sector_erased flash) (with_first_sector_erased other) t s.is (in_flash part (with_first_sector_erased flash) t s)
          (ap (λ (n : ℕ). take n (with_first_sector_erased other)) at ∙ prefixes ∙ ap (λ (n : ℕ). take n (with_first_sector_erased flash)) (sym at));
      kept = s.kept;
      address = s.address;
      started = s.started;
    }

pub golden_stays : (part : PartData) (stream flash found : List ℕ) (t : BootAttempt) → IsUpdatable flash → IsAfterUpdate stream flash found → GoldenStarts part flash t → GoldenStarts part found t
golden_stays part stream flash found t l a g = record {
  starts = power_moves part flash found t g.starts (after_golden_same stream flash found l a (length t.bytes) g.ends);
  ends = omega (arith, g.ends, after_place stream flash found l a);
}

pub clean_stays : (part : PartData) (stream flash found : List ℕ) (t : BootAttempt) → IsUpdatable flash → IsAfterUpdate stream flash found → length t.bytes ≤ update_place flash → StartsClean part flash t → StartsClean part found t
clean_stays part stream flash found t l a ends c = record {
  starts = power_moves part flash found t c.starts (after_golden_same stream flash found l a (length t.bytes) ends);
  going = c.going;
  clean = c.clean;
  fits = c.fits;
}

-- ---- after any number of updates

pub place_later : (flash found : List ℕ) → AfterUpdates flash found → update_place found ≡ update_place flash
place_later flash _ none = refl
place_later flash _ (one_more before found stream u l a) = after_place stream before found l a ∙ place_later flash before u

pub golden_later : (part : PartData) (flash found : List ℕ) (t : BootAttempt) → AfterUpdates flash found → GoldenStarts part flash t → GoldenStarts part found t
golden_later part flash _ t none g = g
golden_later part flash _ t (one_more before found stream u l a) g = golden_stays part stream before found t l a (golden_later part flash before t u g)

pub clean_later : (part : PartData) (flash found : List ℕ) (t : BootAttempt) → AfterUpdates flash found → length t.bytes ≤ update_place flash → StartsClean part flash t → StartsClean part found t
clean_later part flash _ t none ends c = c
clean_later part flash _ t (one_more before found stream u l a) ends c = clean_stays part stream before found t l a (omega (arith, ends, place_later flash before u)) (clean_later part flash before t u ends c)
