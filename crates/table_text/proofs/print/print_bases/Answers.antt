use Rattle.std.proofs.Common.{ap, arith}
use Rattle.dm_table.specs.declared.table.Base.{Base}
use Rattle.table_text.specs.Print.{base_words, printed_length}
use Rattle.table_text.proofs.PrintLemmas.{exit_memory, length-base}
use Rattle.table_text.proofs.print.print_bases.Goals as goal

pub returns-in_err-print_base-clause-err : goal.returns-in_err-print_base-clause-err
returns-in_err-print_base-clause-err c =
    let base : Base = c.base-item.result in
    let longest = length-base c.args.bases.now c.loop-base.base-index base c.loop-base-test.true in
    exit_memory c.from_residual.result _ c.in_err-print_base.field-0.0 c.from_residual.ensures.1
    (omega (arith, c.in_err-print_base.ensures.err, ap (λ (b : Base). printed_length (base_words b)) c.base-item.is, longest))
