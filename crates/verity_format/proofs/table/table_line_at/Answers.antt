use Rattle.std.proofs.Common.{OnErr, length, subst, true}
use Rattle.std.proofs.lemmas.Result.{on_err_weaker}
use Rattle.allocation.specs.Refusal.{IsOutOfMemory}
use Rattle.dm_table.specs.declared.table.Line.{Line}
use Rattle.table_text.specs.Print.{line_text}
use Rattle.verity_format.specs.Line.{names_of, names_room, verity_text}
use Rattle.verity_format.proofs.LineLemmas.{room-beside}
use Rattle.verity_format.proofs.table.table_line_at.Goals as goal

pub returns-clause-err : goal.returns-clause-err
returns-clause-err c =
    let names = names_of c.args.devices in
    let text = verity_text c.args.tree.now names c.args.root.now c.args.start in
    on_err_weaker
    c.print_line.result
    (room-beside (names_room names) (length text))
    (subst (λ (line : Line). OnErr c.print_line.result (IsOutOfMemory (length (line_text true line)))) c.in_ok-line.ensures.ok c.print_line.ensures.err)
