use Rattle.std.proofs.Common.{◌∙◌, sym}
use Rattle.std.proofs.lemmas.Bool.{false≢true}
use Rattle.x7_part.proofs.BlankLemmas.{blank_parsed}
use Rattle.x7_part.proofs.part_file.table_in.Goals as goal

pub returns-else-is_memory-clause-blank : goal.returns-else-is_memory-clause-blank
returns-else-is_memory-clause-blank c h =
    absurd (blank_parsed c.args.text.now c.in-Ok.text.now c.in-Ok.ensures.cases.0 h (c.in-Err-table_from_str.ensures.refused (λ m. false≢true (sym c.if-is_memory.false ∙ c.is_memory.ensures.1 m))))
