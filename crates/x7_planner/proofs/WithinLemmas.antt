-- What calls append, one after another, within a most.
use Rattle.std.proofs.Common.{◌≡◌, ℕ, ◌+◌, ◌<◌, ◌≤◌, List, ◌++◌, length, take, drop, Result, Ok, Err, Vec, vec_capacity, IsErr, OnErr, OnOk, sym, ap, ◌∙◌, arith, append_assoc, take_all}
use Rattle.std.proofs.Math.Seq.{take-append_seam}
use Rattle.std.proofs.lemmas.Bool.{true≢false}
use Rattle.std.proofs.lemmas.List.{take-append-drop}
use Rattle.std.specs.declared.alloc.Global.{Global}
use Rattle.x7_words.specs.declared.input.NoMemory.{NoMemory}
use Rattle.x7_planner.specs.FullStreamPieces.{AppendsWithin}

-- bytes that stand first stand first in what was appended to them
first_kept : (old mid new piece : List ℕ) → mid ≡ old ++ piece → take (length mid) new ≡ mid → take (length old) new ≡ old
first_kept old mid new piece e f =
    ap (take (length old)) (sym (take-append-drop (length mid) new) ∙ ap (λ (t : List ℕ). t ++ drop (length mid) new) (f ∙ e) ∙ append_assoc old piece (drop (length mid) new)) ∙ take-append_seam old (piece ++ drop (length mid) new)

-- a call that appends `n` bytes or nothing
pub within_call : {T : Type 0} (old new : Vec ℕ Global) (result : Result T NoMemory) (n most : ℕ) → OnOk result (length new.items ≡ length old.items + n) → OnErr result (new.items ≡ old.items) → vec_capacity old ≤ vec_capacity new
    → OnErr result (vec_capacity old < length old.items + n) → n ≤ most → AppendsWithin old new result most
within_call old new (Ok x) n most long same room none h = record { within = omega (arith, long, h); failed = tt; room = room; no_room = tt }
within_call old new (Err e) n most long same room none h = record { within = tt; failed = ap (take (length old.items)) same ∙ take_all (length old.items) old.items (omega arith); room = room; no_room = omega (arith, none, h) }

-- a call after one that appended a piece
pub within_after : {T : Type 0} (old mid new : Vec ℕ Global) (result : Result T NoMemory) (piece : List ℕ) (n m most : ℕ) → mid.items ≡ old.items ++ piece → length mid.items ≤ length old.items + n → vec_capacity old ≤ vec_capacity mid
    → AppendsWithin mid new result m → n + m ≤ most → AppendsWithin old new result most
within_after old mid new (Ok x) piece n m most e long room w h =
    let a : length new.items ≤ length mid.items + m = w.within in
    let r : vec_capacity mid ≤ vec_capacity new = w.room in
    record { within = omega (arith, a, long, h); failed = tt; room = omega (arith, room, r); no_room = tt }
within_after old mid new (Err x) piece n m most e long room w h =
    let r : vec_capacity mid ≤ vec_capacity new = w.room in
    let s : vec_capacity mid < length mid.items + m = w.no_room in
    record { within = tt; failed = first_kept old.items mid.items new.items piece e w.failed; room = omega (arith, room, r); no_room = omega (arith, room, s, long, h) }

-- an error that is handed on
pub within_handed : {T : Type 0} (old new : Vec ℕ Global) (result : Result T NoMemory) (most : ℕ) → IsErr result → ((e : NoMemory) → AppendsWithin {T = T} old new (Err e) most) → AppendsWithin old new result most
within_handed old new (Ok x) most i w = absurd (true≢false (sym i))
within_handed old new (Err e) most i w = w e
