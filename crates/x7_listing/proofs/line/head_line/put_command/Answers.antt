use Rattle.std.proofs.Common.{ap, sym, ◌∙◌, append_assoc, arith}
use Rattle.x7_regs.specs.Command.{code_of}
use Rattle.x7_listing.proofs.line.LineTextLemmas.{command_line, no_command_line}
use Rattle.x7_listing.proofs.line.head_line.put_command.Goals as goal

pub returns-then-code-word : goal.returns-then-code-word
returns-then-code-word c =
    let line = no_command_line c.args.word (λ e. c.if-code-word.true (c.code.ensures.value ∙ ap code_of c.command_of-command.ensures ∙ e)) in
    record {
      appends = record {
        items = rw (line, c.put_whole_word.ensures.appends.items, c.put_close.ensures.appends.items) (simp append_assoc);
        within = omega arith;
        room = omega arith;
      };
    }

pub returns : goal.returns
returns c =
    let line = command_line c.args.word (sym (c.code.ensures.value ∙ ap code_of c.command_of-command.ensures) ∙ c.if-code-word.false) in
    record {
      appends = record {
        items = rw (line, c.put-3.ensures.appends.items, c.put-2.ensures.appends.items, c.bytes.ensures.value, c.command_name.ensures, c.command_of-command.ensures, c.put.ensures.appends.items, c.put_close.ensures.appends.items) (simp append_assoc);
        within = omega arith;
        room = omega arith;
      };
    }
