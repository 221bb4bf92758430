use Rattle.std.proofs.Common.{ℕ, sym, ap, ◌∷◌, [], ◌∙◌}
use Rattle.x7_crc.specs.Check.{check_after}
use Rattle.x7_engine.proofs.PlainLemmas.{AreFlags, IsPlain, clears_none, flags_more, plain_is}
use Rattle.x7_engine.proofs.progress.Progress.pass.Goals as goal
use Rattle.x7_crc.proofs.CheckerLemmas.{check_folded}

pub returns : goal.returns
returns c = λ idcode h place s.
    let p : IsPlain c.args.plain.register = plain_is c.args.plain.register c.args.plain.plain in
    let q = p.quiet in
    let flags : AreFlags idcode c.args.self.now.has_idcode c.args.self.now.pending c.args.self.now.ghigh c.args.self.now.iprog _ =
    flags_more idcode c.args.self.now.has_idcode c.args.self.now.pending c.args.self.now.ghigh c.args.self.now.iprog h c.args.plain.register c.args.word place q (record { matched_is = s.has_idcode; pending_is = s.pending; ghigh_is = s.ghigh; iprog_is = s.iprog }) in
    record {
      check = c.fold-self.ensures.value ∙ ap (λ (k : ℕ). check_after k (record { register = c.args.plain.register; word = c.args.word } ∷ [])) s.check ∙ sym (check_folded h c.args.plain.register c.args.word place (clears_none h c.args.plain.register c.args.word q) q.lout);
      has_idcode = flags.matched_is;
      pending = flags.pending_is;
      ghigh = flags.ghigh_is;
      iprog = flags.iprog_is;
    }
