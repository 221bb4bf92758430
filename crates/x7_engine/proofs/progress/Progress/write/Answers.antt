use Rattle.std.proofs.Common.{◌≡◌, ◌&&◌, ◌||◌, ap, ◌∙◌}
use Rattle.x7_packets.specs.History.{Access, Write}
use Rattle.x7_regs.specs.Register.{number_of}
use Rattle.x7_crc.specs.RunningCheck.{running_check}
use Rattle.x7_flow.specs.Controls.{names_part}
use Rattle.x7_engine.specs.Registers.{clears_check_by, has_ghigh_after, has_ghigh, clears_check, is_pending, is_pending_after, takes_shutdown, writes_command}
use Rattle.x7_engine.proofs.progress.Progress.write.Goals as goal

pub returns-clause-takes : goal.returns-clause-takes
returns-clause-takes c = λ h e p.
    let access : Access = Write (number_of c.args.reg) c.args.word in
    let cleared : c.clears_check_by-cleared.result ≡ clears_check h access = c.clears_check_by-cleared.ensures ∙ ap (λ k. clears_check_by c.args.executed k access) p.check ∙ ap (λ o. clears_check_by o (running_check h) access) e in
    c.takes_shutdown-taken.ensures ∙ ap (λ b. b && c.args.self.now.pending) cleared ∙ ap (λ b. clears_check h access && b) p.pending

pub returns-clause-stands : goal.returns-clause-stands
returns-clause-stands c = λ h place e p.
    let access : Access = Write (number_of c.args.reg) c.args.word in
    let cleared : c.clears_check_by-cleared.result ≡ clears_check h access = c.clears_check_by-cleared.ensures ∙ ap (λ k. clears_check_by c.args.executed k access) p.check ∙ ap (λ o. clears_check_by o (running_check h) access) e in
    let taken : c.takes_shutdown-taken.result ≡ takes_shutdown h access = c.takes_shutdown-taken.ensures ∙ ap (λ b. b && c.args.self.now.pending) cleared ∙ ap (λ b. clears_check h access && b) p.pending in
    record {
      check = c.check_after_write.ensures h place p.check e;
      has_idcode = c.has_idcode_after.ensures ∙ ap (λ b. names_part c.args.idcode access || b) p.has_idcode;
      pending = c.is_pending_after.ensures ∙ ap (λ b. is_pending_after c.args.executed b c.args.self.now.pending) cleared ∙ ap (λ b. is_pending_after c.args.executed (clears_check h access) b) p.pending ∙ ap (λ o. is_pending_after o (clears_check h access) (is_pending h)) e;
      ghigh = c.has_ghigh_after.ensures ∙ ap (λ b. has_ghigh_after c.args.executed b c.args.self.now.ghigh) taken ∙ ap (λ b. has_ghigh_after c.args.executed (takes_shutdown h access) b) p.ghigh ∙ ap (λ o. has_ghigh_after o (takes_shutdown h access) (has_ghigh h)) e;
      iprog = c.wrote_iprog_after.ensures ∙ ap (λ b. writes_command 15 access || b) p.iprog;
    }
