use Rattle.x7_playing.proofs.PlayerLemmas.{new_plays}
use Rattle.x7_playing.proofs.player.Player.new.Goals as goal

pub returns : goal.returns
returns c =
    let p = new_plays c.args.part.now c.in_ok-new.field-0 c.new-3.result.items c.in_ok-new.ensures.stands c.new-3.ensures.items in
    (p.0, p.1, c.in_ok-new-2.ensures)
