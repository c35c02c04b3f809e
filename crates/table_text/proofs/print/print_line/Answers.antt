use Rattle.std.proofs.Common.{◌≡◌, ap, ◌∙◌, rules}
use Rattle.dm_table.specs.TableText.{table_of}
use Rattle.table_text.specs.Print.{line_text}
use Rattle.table_text.proofs.HiddenKeyLemmas.{one_line-printed}
use Rattle.table_text.proofs.print.print_line.Goals as goal

pub returns-clause-reads_back : goal.returns-clause-reads_back
returns-clause-reads_back c h =
    let printed : c.push_line.new.text.items ≡ line_text c.args.show_keys c.args.line.now = search rules in
    ap table_of printed ∙ one_line-printed c.args.show_keys c.args.line.now h
