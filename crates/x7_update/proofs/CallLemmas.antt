-- Lemmas on calls of a flash, whichever they are.
use Rattle.std.proofs.Common.{◌≡◌, ℕ, ◌⊎◌, inl, inr, ⊎_elim, List, [], ◌∷◌, ◌++◌, refl, sym, subst}
use Rattle.x7_words.specs.Flash.{sector_place, cleared, erased_sector}
use Rattle.x7_words.specs.Word.{AreBytes}
use Rattle.x7_words.proofs.FlashLemmas.{old_is_torn, torn_bytes, bytes_erased_sector, bytes_cleared, bytes_replaced}
use Rattle.x7_words.specs.declared.flash_call.FlashCall.{FlashCall}
use Rattle.x7_words.specs.declared.flash_call.FlashCall.TheVariants.{Attached, NotAttached, Read, ReadFailed, Erased, EraseFailed, Programmed, ProgramFailed}
use Rattle.x7_words.specs.FlashHistory.{IsWithin, Makes, IsHistory, MayLeave}
use Rattle.x7_update.specs.Plan.{EndsEarly, Follows}

-- ---- calls in two parts

pub history_on : (xs ys : List FlashCall) (a c : List ℕ) → IsHistory (xs ++ ys) a c → (b : List ℕ) × IsHistory xs a b × IsHistory ys b c
history_on [] ys a c h = (a, refl, h)
history_on (x ∷ xs) ys a c h = let r = history_on xs ys h.0 c h.2 in (r.0, (h.0, h.1, r.1), r.2)

pub leaves_on : (xs ys : List FlashCall) (a found : List ℕ) → MayLeave (xs ++ ys) a found → MayLeave xs a found ⊎ ((b : List ℕ) × IsHistory xs a b × MayLeave ys b found)
leaves_on [] ys a found h = inr (a, refl, h)
leaves_on (x ∷ xs) ys a found (inl w) = inl (inl w)
leaves_on (x ∷ xs) ys a found (inr r) = ⊎_elim (λ l. inl (inr (r.0, r.1, l))) (λ m. inr (m.0, (r.0, r.1, m.1), m.2)) (leaves_on xs ys r.0 found r.2)

-- ---- calls that follow a plan leave what the plan may leave

within_old : (call : FlashCall) (old : List ℕ) → IsWithin call old old
within_old (Attached name size) old = refl
within_old (NotAttached name fault) old = refl
within_old (Read place bytes) old = refl
within_old (ReadFailed place count) old = refl
within_old (Erased sector) old = old_is_torn (sector_place sector) erased_sector old
within_old (EraseFailed sector) old = old_is_torn (sector_place sector) erased_sector old
within_old (Programmed place given) old = old_is_torn place (cleared place given old) old
within_old (ProgramFailed place given) old = old_is_torn place (cleared place given old) old

-- nothing yet
pub leaves_first : (calls : List FlashCall) (first : List ℕ) → MayLeave calls first first
leaves_first [] first = refl
leaves_first (call ∷ calls) first = inl (within_old call first)

early_makes : (call next : FlashCall) (old new : List ℕ) → EndsEarly call next → Makes call old new → IsWithin call old new
early_makes (Attached name size) next old new e m = absurd e
early_makes (NotAttached name fault) next old new e m = absurd e
early_makes (Read place bytes) next old new e m = m.0
early_makes (ReadFailed place count) next old new e m = m
early_makes (Erased sector) next old new e m = absurd e
early_makes (EraseFailed sector) next old new e m = m
early_makes (Programmed place given) next old new e m = absurd e
early_makes (ProgramFailed place given) next old new e m = m

early_within : (call next : FlashCall) (old found : List ℕ) → EndsEarly call next → IsWithin call old found → IsWithin next old found
early_within (Attached name size) next old found e w = absurd e
early_within (NotAttached name fault) next old found e w = absurd e
early_within (Read place bytes) next old found e w = subst (λ n. IsWithin n old found) (sym e.1) w
early_within (ReadFailed place count) next old found e w = subst (λ n. IsWithin n old found) (sym e.1) w
early_within (Erased sector) next old found e w = absurd e
early_within (EraseFailed sector) next old found e w = subst (λ n. IsWithin n old found) (sym e) w
early_within (Programmed place given) next old found e w = absurd e
early_within (ProgramFailed place given) next old found e w = subst (λ n. IsWithin n old found) (sym e) w

pub follows_leaves : (calls plan : List FlashCall) (first found : List ℕ) → Follows calls plan → MayLeave calls first found → MayLeave plan first found
follows_leaves [] plan first found f m = subst (λ l. MayLeave plan first l) (sym m) (leaves_first plan first)
follows_leaves (call ∷ calls) [] first found f m = absurd f
follows_leaves (call ∷ calls) (next ∷ plan) first found (inl f) (inl w) = inl (subst (λ n. IsWithin n first found) f.0 w)
follows_leaves (call ∷ calls) (next ∷ plan) first found (inl f) (inr m) = inr (m.0, subst (λ n. Makes n first m.0) f.0 m.1, follows_leaves calls plan m.0 found f.1 m.2)
follows_leaves (call ∷ calls) (next ∷ plan) first found (inr e) (inl w) = inl (early_within call next first found e.1 w)
follows_leaves (call ∷ calls) (next ∷ plan) first found (inr e) (inr m) =
    let same : found ≡ m.0 = subst (λ l. MayLeave l m.0 found) e.0 m.2 in
    inl (early_within call next first found e.1 (subst (λ l. IsWithin call first l) (sym same) (early_makes call next first m.0 e.1 m.1)))

-- what honest calls have left by now a power loss may leave
pub history_leaves : (calls : List FlashCall) (first now : List ℕ) → IsHistory calls first now → MayLeave calls first now
history_leaves [] first now h = h
history_leaves (call ∷ calls) first now h = inr (h.0, h.1, history_leaves calls h.0 now h.2)

-- ---- bytes

-- what the calls program is bytes
abbrev pub ProgramBytes : List FlashCall → Type 0
ProgramBytes [] = Unit {0}
ProgramBytes (Programmed place given ∷ calls) = AreBytes given × ProgramBytes calls
ProgramBytes (ProgramFailed place given ∷ calls) = AreBytes given × ProgramBytes calls
ProgramBytes (call ∷ calls) = ProgramBytes calls

pub program_bytes_on : (xs ys : List FlashCall) → ProgramBytes xs → ProgramBytes ys → ProgramBytes (xs ++ ys)
program_bytes_on [] ys p q = q
program_bytes_on (Attached name size ∷ xs) ys p q = program_bytes_on xs ys p q
program_bytes_on (NotAttached name fault ∷ xs) ys p q = program_bytes_on xs ys p q
program_bytes_on (Read place bytes ∷ xs) ys p q = program_bytes_on xs ys p q
program_bytes_on (ReadFailed place count ∷ xs) ys p q = program_bytes_on xs ys p q
program_bytes_on (Erased sector ∷ xs) ys p q = program_bytes_on xs ys p q
program_bytes_on (EraseFailed sector ∷ xs) ys p q = program_bytes_on xs ys p q
program_bytes_on (Programmed place given ∷ xs) ys p q = (p.0, program_bytes_on xs ys p.1 q)
program_bytes_on (ProgramFailed place given ∷ xs) ys p q = (p.0, program_bytes_on xs ys p.1 q)

-- of bytes a power loss leaves bytes
pub leaves_bytes : (calls : List FlashCall) (first found : List ℕ) → ProgramBytes calls → AreBytes first → MayLeave calls first found → AreBytes found
leaves_bytes [] first found p h m = subst AreBytes (sym m) h
leaves_bytes (Read place bytes ∷ calls) first found p h (inl w) = subst AreBytes (sym w) h
leaves_bytes (Read place bytes ∷ calls) first found p h (inr m) = leaves_bytes calls m.0 found p (subst AreBytes (sym m.1.0) h) m.2
leaves_bytes (Attached name size ∷ calls) first found p h (inl w) = subst AreBytes (sym w) h
leaves_bytes (Attached name size ∷ calls) first found p h (inr m) = leaves_bytes calls m.0 found p (subst AreBytes (sym m.1) h) m.2
leaves_bytes (NotAttached name fault ∷ calls) first found p h (inl w) = subst AreBytes (sym w) h
leaves_bytes (NotAttached name fault ∷ calls) first found p h (inr m) = leaves_bytes calls m.0 found p (subst AreBytes (sym m.1) h) m.2
leaves_bytes (ReadFailed place count ∷ calls) first found p h (inl w) = subst AreBytes (sym w) h
leaves_bytes (ReadFailed place count ∷ calls) first found p h (inr m) = leaves_bytes calls m.0 found p (subst AreBytes (sym m.1) h) m.2
leaves_bytes (Erased sector ∷ calls) first found p h (inl w) = torn_bytes (sector_place sector) erased_sector first found bytes_erased_sector h w
leaves_bytes (Erased sector ∷ calls) first found p h (inr m) =
    leaves_bytes calls m.0 found p (subst AreBytes (sym m.1) (bytes_replaced (sector_place sector) erased_sector first bytes_erased_sector h)) m.2
leaves_bytes (EraseFailed sector ∷ calls) first found p h (inl w) = torn_bytes (sector_place sector) erased_sector first found bytes_erased_sector h w
leaves_bytes (EraseFailed sector ∷ calls) first found p h (inr m) = leaves_bytes calls m.0 found p (torn_bytes (sector_place sector) erased_sector first m.0 bytes_erased_sector h m.1) m.2
leaves_bytes (Programmed place given ∷ calls) first found p h (inl w) = torn_bytes place (cleared place given first) first found (bytes_cleared place given first p.0) h w
leaves_bytes (Programmed place given ∷ calls) first found p h (inr m) =
    leaves_bytes calls m.0 found p.1 (subst AreBytes (sym m.1) (bytes_replaced place (cleared place given first) first (bytes_cleared place given first p.0) h)) m.2
leaves_bytes (ProgramFailed place given ∷ calls) first found p h (inl w) = torn_bytes place (cleared place given first) first found (bytes_cleared place given first p.0) h w
leaves_bytes (ProgramFailed place given ∷ calls) first found p h (inr m) =
    leaves_bytes calls m.0 found p.1 (torn_bytes place (cleared place given first) first m.0 (bytes_cleared place given first p.0) h m.1) m.2
