use Rattle.std.proofs.Common.{◌<◌, arith}
use Rattle.x7_words.specs.Word.{AreBytes}
use Rattle.x7_words.proofs.ListLemmas.{all_from_places}
use Rattle.x7_playing.specs.Playing.{play_state}
use Rattle.x7_playing.proofs.PlayerLemmas.{not_over, over_stays}
use Rattle.x7_forms.proofs.ResultLemmas.{at_err}
use Rattle.x7_playing.proofs.player.Player.play.Goals as goal

pub returns-then-self-clause-played : goal.returns-then-self-clause-played
returns-then-self-clause-played c = λ part bytes h.
    let p = c.args.self.now in
    let piece = c.args.piece.now in
    let fits : AreBytes piece = all_from_places (λ b. b < 256) piece (λ k l. omega (arith, c.type_inv.piece k)) in
    over_stays p.is_over_limit part bytes piece (play_state p.device p.buffer p.reads.items) c.if-self.true fits h

pub returns-in_err-self-clause-prefix : goal.returns-in_err-self-clause-prefix
returns-in_err-self-clause-prefix c =
    let p = c.args.self.now in
    let f = c.in_err-self.ensures.prefix in
    at_err c.from_residual.result (record {
      prefix = f.prefix;
      left = f.left;
      split = f.split;
      holds = λ part bytes h. f.holds part bytes (not_over p.is_over_limit part bytes (play_state p.device p.buffer p.reads.items) c.if-self.false h);
    })
