use Rattle.std.proofs.Common.{sym, ◌∙◌}
use Rattle.dm_table.proofs.lemmas.NameLengthLemmas.{mapped_name-length}
use Rattle.partition_commands.proofs.names.partition_name.Goals as goal

pub returns-then-not-branch-clause-short : goal.returns-then-not-branch-clause-short
returns-then-not-branch-clause-short c = rw c.as_bytes.ensures.value at (mapped_name-length c.as_bytes.result.now (sym c.is_mapped_name.ensures ∙ c.if-is_mapped_name.true))
