use Rattle.std.proofs.Common.{◌+◌, ap, ◌∙◌}
use Rattle.dm_table.specs.StackText.{entry_lines}
use Rattle.table_text.proofs.ReadLemmas.{after, after_end}
use Rattle.table_text.proofs.GrammarLemmas.{entry_table-grammar}
use Rattle.table_text.proofs.stack_text.read_lines.Goals as goal

pub new-requires-2 : goal.new-requires-2
new-requires-2 c =
    let lines = c.lines.lines.items in
    entry_table-grammar c.args.number 1 c.args.first.now c.args.fields lines
    (c.lines.invariant.1 ∙ ap (λ fields. after lines (entry_lines c.args.number (c.lines.line + 1) fields)) c.in_default.ensures.0 ∙ after_end lines)
