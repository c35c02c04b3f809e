use Rattle.std.proofs.Common.{sym, ◌∙◌, arith}
use Rattle.dm_table.proofs.lemmas.MemoryLemmas.{exit_memory}
use Rattle.dm_table.proofs.lemmas.NameLengthLemmas.{mapped_name-length}
use Rattle.dm_table.proofs.stack.StackText.single.Goals as goal

pub returns-in_err-name : goal.returns-in_err-name
returns-in_err-name c =
    let short = mapped_name-length c.args.name.now (sym c.is_mapped_name.ensures ∙ c.if-not-is_mapped_name.false) in
    exit_memory _ _ c.in_err-name.field-0.0 c.from_residual.ensures.1 (omega (arith, c.in_err-name.ensures.err.0))
