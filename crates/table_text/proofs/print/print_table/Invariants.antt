use Rattle.std.proofs.Common.{◌≡◌, take}
use Rattle.table_text.specs.Print.{printed_table}
use Rattle.table_text.proofs.print.print_table.Given as goal

abbrev pub invariant-loop-line : goal.invariant-loop-line
invariant-loop-line l = l.text.items ≡ printed_table l.fn.show_keys (take l.line-index l.line-items)
