use Rattle.std.proofs.Common.{◌≡◌, ◌-◌, ◌*◌, ◌<◌, ℕ, IfErr, refl, ap, rules, subst, ◌∙◌}
use Rattle.x7_words.specs.Word.{word_of_bytes}
use Rattle.x7_packets.specs.FlashSlot.{flash_slot_size, flash_slot_count}
use Rattle.x7_update.specs.Layout.{CanStandAt, update_place}
use Rattle.x7_update.specs.Fault.{IsBadSlotAt, IsGoodSlot, NoLayoutAt, bad_slot}
use Rattle.x7_update.proofs.StepLemmas.{if_err_map}
use Rattle.x7_update.proofs.SlotLemmas.{all_found, none_free}
use Rattle.x7_update.proofs.slots.target_of.Goals as goal

pub returns-clause-found : goal.returns-clause-found
returns-clause-found c =
    let is : c.from-place.result ≡ update_place c.args.first_sector.now = c.from-place.ensures ∙ c.word_of.ensures.value ∙ ap word_of_bytes c.four_at.ensures in
    let P : ℕ → Type 0 = λ u. CanStandAt c.args.size u in
    all_found c.args.size c.args.first_sector.now (record { place = c.from-place.result; slots = c.in_ok-slots.slots }) c.requires.size
    (subst P is (c.can_stand.ensures.0 c.if-not-can_stand.false)) c.in_ok-slots.ensures.slots c.if-slots-ge-FLASH_SLOT_COUNT.false is

pub returns-then-slots-ge-FLASH_SLOT_COUNT-clause-no_layout : goal.returns-then-slots-ge-FLASH_SLOT_COUNT-clause-no_layout
returns-then-slots-ge-FLASH_SLOT_COUNT-clause-no_layout c =
    let is : c.from-place.result ≡ update_place c.args.first_sector.now = c.from-place.ensures ∙ c.word_of.ensures.value ∙ ap word_of_bytes c.four_at.ensures in
    let P : ℕ → Type 0 = λ u. CanStandAt c.args.size u in
    none_free c.args.size c.args.first_sector.now c.in_ok-slots.slots (flash_slot_size * (flash_slot_count - 1))
    (record { sized = c.requires.size; leads = c.in_default.ensures.leads; place = subst P is (c.can_stand.ensures.0 c.if-not-can_stand.false) }) c.in_ok-slots.ensures.slots c.if-slots-ge-FLASH_SLOT_COUNT.true refl

pub returns-in_err-slots-clause-no_layout : goal.returns-in_err-slots-clause-no_layout
returns-in_err-slots-clause-no_layout c =
    let first = c.args.first_sector.now in
    let is : c.from-place.result ≡ update_place first = c.from-place.ensures ∙ c.word_of.ensures.value ∙ ap word_of_bytes c.four_at.ensures in
    let P : ℕ → Type 0 = λ u. CanStandAt c.args.size u in
    let Bad : ℕ → Type 0 = λ place. (slot : ℕ) × (slot < flash_slot_count) × ((earlier : ℕ) → earlier < slot → IsGoodSlot first earlier) × IsBadSlotAt first slot place in
    let none : IfErr c.look_at_slots.result (NoLayoutAt c.args.size first) =
    if_err_map Bad (NoLayoutAt c.args.size first) c.look_at_slots.result
    (λ place bad. bad_slot (record { sized = c.requires.size; leads = c.in_default.ensures.leads; place = subst P is (c.can_stand.ensures.0 c.if-not-can_stand.false) }) bad.0 bad.1 bad.2 bad.3) c.look_at_slots.ensures.bad_slot in
    search rules
