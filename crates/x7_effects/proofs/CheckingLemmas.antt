-- The running check of items that are entered.
use Rattle.std.proofs.Common.{◌≡◌, ℕ, ◌+◌, ◌*◌, ◌%◌, ◌^◌, ◌<◌, ◌==◌, Bool, true, false, if◌then◌else◌, List, [], ◌∷◌, ◌++◌, length, refl, ap, sym, ◌∙◌, arith, lit<}
use Rattle.x7_packets.specs.History as access
use Rattle.x7_packets.specs.History.{History, entry, last_word}
use Rattle.x7_packets.specs.CheckedWrites.{RegisterWrite, checked_writes, clears, write_to}
use Rattle.x7_crc.specs.Check.{check_after, check_after_one, check_of}
use Rattle.x7_crc.specs.RunningCheck.{in_order}
use Rattle.x7_crc.proofs.CheckLemmas.{check_after_none, check_after_fits, check_of_more}
use Rattle.x7_effects.proofs.Items.{Item, Noop, Dummy, Write, WriteLong, Read, ReadLong, item_words, IsItem, AreItems, writes_entered, item_entered, items_entered}
use Rattle.x7_effects.proofs.Checking.{Checking, clears_under, after_write, after_writes, after_item, after_items, checking_of, Piece, Put, Check, piece_item, with_checks, IsPiece, ArePieces}

checking_is : (c d : Checking) → c.check ≡ d.check → c.held ≡ d.held → c ≡ d
checking_is c d e f = ap (λ (x : ℕ). record { check = x; held = c.held }) e ∙ ap (λ (x : ℕ). record { check = d.check; held = x }) f

check_by_tests : (b d : Bool) (r w : ℕ) (ws : List RegisterWrite)
    → check_of (in_order (if b then [] else if d then ws else record { register = r; word = w } ∷ ws)) ≡ (if b then 0 else if d then check_of (in_order ws) else check_after (check_of (in_order ws)) (write_to r w ∷ []))
check_by_tests true d r w ws = check_after_none 0 (lit< tt)
check_by_tests false true r w ws = refl
check_by_tests false false r w ws = sym (check_of_more (check_of (in_order ws)) (in_order ws) (write_to r w ∷ []) refl)

held_by_test : (b : Bool) (w old : ℕ) → (if b then w else old) % 2 ^ 5 ≡ (if b then w % 2 ^ 5 else old % 2 ^ 5)
held_by_test true w old = refl
held_by_test false w old = refl

-- the check and the command after one word more that is written
write_checked : (h : History) (r w place : ℕ) → checking_of (entry (access.Write r w) place ∷ h) ≡ after_write (checking_of h) r w
write_checked h r w place =
    checking_is (checking_of (entry (access.Write r w) place ∷ h)) (after_write (checking_of h) r w)
    (check_by_tests (clears h (access.Write r w)) (r == 8) r w (checked_writes h))
    (held_by_test (r == 4) w (last_word 4 0 h))

writes_checked : (place r : ℕ) (ws : List ℕ) (h : History) → checking_of (writes_entered place r ws h) ≡ after_writes (checking_of h) r ws
writes_checked place r [] h = refl
writes_checked place r (w ∷ ws) h = writes_checked (place + 4) r ws (entry (access.Write r w) (place + 4) ∷ h) ∙ ap (λ (c : Checking). after_writes c r ws) (write_checked h r w (place + 4))

pub item_checked : (place : ℕ) (i : Item) (h : History) → checking_of (item_entered place i h) ≡ after_item (checking_of h) i
item_checked place Noop h = refl
item_checked place Dummy h = refl
item_checked place (Write r ws) h = writes_checked (place + 4) r ws h
item_checked place (WriteLong r ws) h = writes_checked (place + 8) r ws h
item_checked place (Read r n) h = refl
item_checked place (ReadLong r n) h = refl

pub items_checked : (place : ℕ) (items : List Item) (h : History) → checking_of (items_entered place items h) ≡ after_items (checking_of h) items
items_checked place [] h = refl
items_checked place (i ∷ items) h = items_checked (place + 4 * length (item_words i)) items (item_entered place i h) ∙ ap (λ (c : Checking). after_items c items) (item_checked place i h)

-- a check has 32 bits
write_fits : (c : Checking) (r w : ℕ) → c.check < 2 ^ 32 → (after_write c r w).check < 2 ^ 32
write_fits c r w f = by_tests (clears_under c.held (access.Write r w)) (r == 8)
  where
    by_tests : (b d : Bool) → (if b then 0 else if d then c.check else check_after_one c.check r w) < 2 ^ 32
    by_tests true d = omega arith
    by_tests false true = f
    by_tests false false = check_after_fits c.check (write_to r w ∷ [])

writes_fit : (c : Checking) (r : ℕ) (ws : List ℕ) → c.check < 2 ^ 32 → (after_writes c r ws).check < 2 ^ 32
writes_fit c r [] f = f
writes_fit c r (w ∷ ws) f = writes_fit (after_write c r w) r ws (write_fits c r w f)

item_fits : (c : Checking) (i : Item) → c.check < 2 ^ 32 → (after_item c i).check < 2 ^ 32
item_fits c Noop f = f
item_fits c Dummy f = f
item_fits c (Write r ws) f = writes_fit c r ws f
item_fits c (WriteLong r ws) f = writes_fit c r ws f
item_fits c (Read r n) f = f
item_fits c (ReadLong r n) f = f

piece_fits : (c : Checking) (p : Piece) → c.check < 2 ^ 32 → IsPiece p → IsItem (piece_item c p)
piece_fits c (Put i) f a = a.0
piece_fits c Check f a = (omega arith, omega arith, (f, tt), (refl, tt))

pub pieces_fit : (c : Checking) (pieces : List Piece) → c.check < 2 ^ 32 → ArePieces pieces → AreItems (with_checks c pieces)
pieces_fit c [] f a = tt
pieces_fit c (p ∷ pieces) f a = (piece_fits c p f a.0, pieces_fit (after_item c (piece_item c p)) pieces (item_fits c (piece_item c p) f) a.1)

-- pieces after others are written with the checks that follow from those
pub checks_after : (c : Checking) (prefix back : List Piece) → with_checks c (prefix ++ back) ≡ with_checks c prefix ++ with_checks (after_items c (with_checks c prefix)) back
checks_after c [] back = refl
checks_after c (p ∷ prefix) back = ap (λ t. piece_item c p ∷ t) (checks_after (after_item c (piece_item c p)) prefix back)

pub begins : checking_of [] ≡ record { check = 0; held = 0 }
begins = checking_is (checking_of []) (record { check = 0; held = 0 }) (check_after_none 0 (lit< tt)) refl
