use Rattle.disk_layout.proofs.LargeLemmas.{large-back}
use Rattle.disk_layout.proofs.laws.large_table_is_found.Goals as goal

pub returns : goal.returns
returns c = λ old new disk_id partitions holds whole table is. large-back old new disk_id partitions holds whole table is
