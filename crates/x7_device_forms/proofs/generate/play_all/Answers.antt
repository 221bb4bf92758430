use Rattle.std.proofs.Common.{◌≡◌, ◌+◌, ◌^◌, ◌≤◌, ℕ, List, [], length, refl, ap, subst, ◌∙◌, arith}
use Rattle.x7_planner.specs.FullStream.{full_stream}
use Rattle.x7_planner.specs.FullStreamPieces.{AppendsNext}
use Rattle.x7_playing.specs.Playing.{HasPlayed}
use Rattle.x7_device_forms.proofs.GenerateLemmas.{along, piece_fits}
use Rattle.x7_device_forms.proofs.generate.play_all.Goals as goal

pub loop-player-init : goal.loop-player-init
loop-player-init c = record { known = []; stands = c.requires.given; played = c.requires.played; counted = refl; empty = c.clear.ensures.items; of_part = refl; of_plan = refl }

pub play-requires : goal.play-requires
play-requires c =
    let v = c.loop-player.invariant in
    let s = c.args.stream in
    let new : List ℕ = c.put_next.new.out.items in
    let m : AppendsNext c.put_next.new.self v.known c.loop-player.piece.items new = c.in_ok-put_next.ensures.more v.known v.stands c.if-branch.true in
    let fits : length v.known + length new ≤ 2 ^ 27 = piece_fits s.part s.plan c.loop-player.stream c.put_next.new.self c.loop-player.player c.loop-player.size c.loop-player.piece.items new v m
    c.requires.part c.requires.plan c.requires.width c.in_ok-put_next.ensures.part c.in_ok-put_next.ensures.plan in
    (s.part, (v.known, (v.played, omega (arith, fits, ap length c.deref.ensures.value))))

pub overflow_add-size : goal.overflow_add-size
overflow_add-size c =
    let v = c.loop-player.invariant in
    let s = c.args.stream in
    let new : List ℕ = c.put_next.new.out.items in
    let m : AppendsNext c.put_next.new.self v.known c.loop-player.piece.items new = c.in_ok-put_next.ensures.more v.known v.stands c.if-branch.true in
    let fits : length v.known + length new ≤ 2 ^ 27 = piece_fits s.part s.plan c.loop-player.stream c.put_next.new.self c.loop-player.player c.loop-player.size c.loop-player.piece.items new v m
    c.requires.part c.requires.plan c.requires.width c.in_ok-put_next.ensures.part c.in_ok-put_next.ensures.plan in
    omega (arith, fits, v.counted, c.len.ensures, c.put_next.new.out.ok.0)

pub loop-player-preserved : goal.loop-player-preserved
loop-player-preserved c =
    let v = c.loop-player.invariant in
    let s = c.args.stream in
    let new : List ℕ = c.put_next.new.out.items in
    let m : AppendsNext c.put_next.new.self v.known c.loop-player.piece.items new = c.in_ok-put_next.ensures.more v.known v.stands c.if-branch.true in
    along s.part s.plan c.loop-player.stream c.put_next.new.self c.loop-player.player c.loop-player.size c.loop-player.piece.items new v m
    c.play.new.self (c.loop-player.size + c.len.result) c.deref.result.now c.clear-in-loop-player.new.self.items c.in_ok-put_next.ensures.part c.in_ok-put_next.ensures.plan c.deref.ensures.value c.in_ok-play.ensures.played
    (omega (arith, c.len.ensures, c.put_next.new.out.ok.0)) c.clear-in-loop-player.ensures.items

pub returns-clause-played : goal.returns-clause-played
returns-clause-played c =
    let v = c.loop-player.invariant in
    let s = c.args.stream in
    let whole : v.known ≡ full_stream s.part s.plan =
    c.in_ok-put_next.ensures.end v.known v.stands c.if-branch.false ∙ ap (λ p. full_stream p c.loop-player.stream.plan) v.of_part ∙ ap (full_stream s.part) v.of_plan in
    subst (λ (t : List ℕ). HasPlayed s.part t c.loop-player.player) whole v.played

pub returns-clause-size : goal.returns-clause-size
returns-clause-size c =
    let v = c.loop-player.invariant in
    let s = c.args.stream in
    let whole : v.known ≡ full_stream s.part s.plan =
    c.in_ok-put_next.ensures.end v.known v.stands c.if-branch.false ∙ ap (λ p. full_stream p c.loop-player.stream.plan) v.of_part ∙ ap (full_stream s.part) v.of_plan in
    v.counted ∙ ap length whole
