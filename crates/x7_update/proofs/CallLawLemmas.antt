-- The laws on the calls of an update.
use Rattle.std.proofs.Common.{◌≡◌, ℕ, ◌+◌, ◌/◌, ◌<◌, ◌≤◌, inl, inr, List, [], ◌∷◌, ◌++◌, length, get_or, ap, ◌∙◌, arith}
use Rattle.x7_words.specs.Flash.{sector_size}
use Rattle.x7_words.specs.Word.{AreBytes}
use Rattle.x7_words.proofs.FlashLemmas.{get_or_slice_range}
use Rattle.x7_update.specs.After.{IsAfterUpdate, MayBeLeft, untouched}
use Rattle.x7_update.specs.Layout.{HasSlots, IsUpdatable, IsUpdatableSize, update_place}
use Rattle.x7_update.specs.Slots.{IsTargetIn, TargetFits}
use Rattle.x7_words.specs.declared.flash_call.FlashCall.{FlashCall}
use Rattle.x7_words.specs.declared.flash_call.FlashCall.TheVariants.{Read, Erased, Programmed}
use Rattle.x7_update.specs.Plan.{Follows}
use Rattle.x7_words.specs.FlashHistory.{IsHistory, Makes, MayLeave, WasRead, writes_of}
use Rattle.x7_update.specs.UpdateCalls.{calls_to_open, opening, spending, target_in, update_calls}
use Rattle.x7_update.specs.Writing.{wanted_at}
use Rattle.x7_update.proofs.CallLemmas.{follows_leaves}
use Rattle.x7_update.proofs.SlotLemmas.{target_fits}
use Rattle.x7_update.proofs.TargetCallLemmas.{target_in_is, target_in_sector}
use Rattle.x7_update.proofs.UpdateCallLemmas.{update_becomes, update_leaves}
use Rattle.x7_update.proofs.WearLemmas.{verified_before, writes_above, writes_below}

module _ (flash stream first_sector : List ℕ) (l : IsUpdatable flash) (bytes : AreBytes stream) (fits : update_place flash + length stream ≤ length flash) (size : length first_sector ≡ sector_size) where
  finds : (mid : List ℕ) → Makes (Read 0 first_sector) flash mid → IsTargetIn (length flash) flash (target_in first_sector)
  finds mid m = target_in_sector first_sector flash same l
    where
      same : (i : ℕ) → i < sector_size → get_or first_sector i 0 ≡ get_or flash i 0
      same i h = let at : 0 + i ≡ i = omega arith in ap (λ b. get_or b i 0) m.1 ∙ get_or_slice_range flash 0 (length first_sector) i (omega (arith, size, h)) ∙ ap (λ k. get_or flash k 0) at

  pub calls_leave : (found : List ℕ) (calls : List FlashCall) → AreBytes flash → Follows calls (update_calls (length flash) first_sector stream) → MayLeave calls flash found → MayBeLeft stream flash found
  calls_leave found calls are f m = go (follows_leaves calls (update_calls (length flash) first_sector stream) flash found f m)
    where
      go : MayLeave (update_calls (length flash) first_sector stream) flash found → MayBeLeft stream flash found
      go (inl w) = untouched w
      go (inr n) = let t = finds n.0 n.1 in update_leaves flash stream (target_in first_sector) t (omega (arith, t.update, fits)) bytes first_sector found are (inr n)

  pub calls_become : (now : List ℕ) → IsHistory (update_calls (length flash) first_sector stream) flash now → IsAfterUpdate stream flash now
  calls_become now h = let t = finds h.0 h.1 in update_becomes flash stream (target_in first_sector) t (omega (arith, t.update, fits)) bytes first_sector now h

module _ (size : ℕ) (first_sector stream : List ℕ) (sized : IsUpdatableSize size) (has : HasSlots size first_sector) (fits : update_place first_sector + length stream ≤ size) (at : ℕ) where
  well : TargetFits size (target_in first_sector)
  well = target_fits size first_sector (target_in first_sector) (target_in_is size first_sector sized has)

  pub calls_above : update_place first_sector ≤ at → at < size → writes_of at (update_calls size first_sector stream) ≡ Erased (at / sector_size) ∷ writes_of at (Programmed (update_place first_sector) stream ∷ [])
  calls_above h k = writes_above size first_sector stream (target_in first_sector) well fits at h k

  pub calls_below : at < update_place first_sector → writes_of at (update_calls size first_sector stream) ≡ writes_of at (spending (target_in first_sector).slots.open_slot) ++ writes_of at (opening (target_in first_sector).slots.next)
  calls_below h = writes_below size first_sector stream (target_in first_sector) well fits at h

  pub calls_verified : update_place first_sector ≤ at → at < size → WasRead at (wanted_at (update_place first_sector) stream at) (calls_to_open size first_sector stream (target_in first_sector))
  calls_verified h k = verified_before size first_sector stream (target_in first_sector) well fits at h k
