use Rattle.std.proofs.Common.{ℕ, List, sym, ap, ◌∙◌}
use Rattle.x7_words.specs.Word.{words_of_bytes}
use Rattle.x7_packets.specs.History.{History}
use Rattle.x7_crc.specs.Check.{check_after, writes_to}
use Rattle.x7_engine.proofs.PlainLemmas.{AreFlags, IsQuiet, clears_none, flags_stay, quiet_is}
use Rattle.x7_engine.proofs.progress.Progress.pass_all.Goals as goal
use Rattle.x7_crc.proofs.CheckerLemmas.{check_all_folded}

pub returns : goal.returns
returns c = λ idcode h n s.
    let ws : List ℕ = words_of_bytes c.args.bytes.now in
    let p : IsQuiet c.args.register = quiet_is c.args.register c.requires.controls_nothing in
    let flags : AreFlags idcode c.args.self.now.has_idcode c.args.self.now.pending c.args.self.now.ghigh c.args.self.now.iprog _ =
    flags_stay idcode c.args.self.now.has_idcode c.args.self.now.pending c.args.self.now.ghigh c.args.self.now.iprog c.args.register n ws h p (record { matched_is = s.has_idcode; pending_is = s.pending; ghigh_is = s.ghigh; iprog_is = s.iprog }) in
    record {
      check = c.fold_slice-self.ensures.value ∙ ap (λ (k : ℕ). check_after k (writes_to c.args.register ws)) s.check
          ∙ sym (check_all_folded c.args.register n ws h p.lout (λ (h : History) (w : ℕ). clears_none h c.args.register w p));
      has_idcode = flags.matched_is;
      pending = flags.pending_is;
      ghigh = flags.ghigh_is;
      iprog = flags.iprog_is;
    }
