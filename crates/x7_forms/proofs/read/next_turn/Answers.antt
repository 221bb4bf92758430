use Rattle.std.proofs.Common.{◌≡◌, ◌≤◌, ◌++◌, ℕ, List, arith, drop, length, length-append, length-drop, length-take-le, take}
use Rattle.x7_forms.proofs.AskedLemmas.{gives_fewer}
use Rattle.x7_forms.proofs.read.next_turn.Goals as goal

-- a buffer keeps its length where its front was filled
filled_length : (old new : List ℕ) (n : ℕ) → n ≤ length old → length new ≡ length (take n old) → length (new ++ drop n old) ≡ length old
filled_length old new n h e = omega (arith, length-append new (drop n old), length-drop n old, length-take-le n old h, e)

pub returns-in_default-clause-length : goal.returns-in_default-clause-length
returns-in_default-clause-length g c = filled_length c.args.buffer.now c.fill.new.buffer c.asked_count-most.result c.asked_count-most.ensures.within c.fill.ensures.length

pub returns-then-count-left-clause-length : goal.returns-then-count-left-clause-length
returns-then-count-left-clause-length g c = filled_length c.args.buffer.now c.fill.new.buffer c.asked_count-most.result c.asked_count-most.ensures.within c.fill.ensures.length

pub returns-clause-length : goal.returns-clause-length
returns-clause-length g c = filled_length c.args.buffer.now c.fill.new.buffer c.asked_count-most.result c.asked_count-most.ensures.within c.fill.ensures.length

pub returns-in_default-clause-gives_few : goal.returns-in_default-clause-gives_few
returns-in_default-clause-gives_few g c = gives_fewer _ _ _ _ (omega (arith, length-take-le c.asked_count-most.result c.args.buffer.now c.asked_count-most.ensures.within, c.asked_count-most.ensures.within_left)) c.fill.ensures.gives

pub returns-then-count-left-clause-gives_few : goal.returns-then-count-left-clause-gives_few
returns-then-count-left-clause-gives_few g c = gives_fewer _ _ _ _ (omega (arith, length-take-le c.asked_count-most.result c.args.buffer.now c.asked_count-most.ensures.within, c.asked_count-most.ensures.within_left)) c.fill.ensures.gives

pub returns-clause-gives_few : goal.returns-clause-gives_few
returns-clause-gives_few g c = gives_fewer _ _ _ _ (omega (arith, length-take-le c.asked_count-most.result c.args.buffer.now c.asked_count-most.ensures.within, c.asked_count-most.ensures.within_left)) c.fill.ensures.gives

pub returns-in_default-clause-gives_a_turn : goal.returns-in_default-clause-gives_a_turn
returns-in_default-clause-gives_a_turn g c = gives_fewer _ _ _ _ (omega (arith, length-take-le c.asked_count-most.result c.args.buffer.now c.asked_count-most.ensures.within, c.asked_count-most.ensures.within)) c.fill.ensures.gives

pub returns-then-count-left-clause-gives_a_turn : goal.returns-then-count-left-clause-gives_a_turn
returns-then-count-left-clause-gives_a_turn g c = gives_fewer _ _ _ _ (omega (arith, length-take-le c.asked_count-most.result c.args.buffer.now c.asked_count-most.ensures.within, c.asked_count-most.ensures.within)) c.fill.ensures.gives

pub returns-clause-gives_a_turn : goal.returns-clause-gives_a_turn
returns-clause-gives_a_turn g c = gives_fewer _ _ _ _ (omega (arith, length-take-le c.asked_count-most.result c.args.buffer.now c.asked_count-most.ensures.within, c.asked_count-most.ensures.within)) c.fill.ensures.gives
