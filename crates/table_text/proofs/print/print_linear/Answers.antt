use Rattle.std.proofs.Common.{rules, append_assoc}
use Rattle.table_text.proofs.print.print_linear.Goals as goal

pub returns-clause-ok : goal.returns-clause-ok
returns-clause-ok c = search (rules, append_assoc)
