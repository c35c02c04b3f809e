use Rattle.disk_layout.proofs.ReadBackLemmas.{read-back, unread-table}
use Rattle.disk_layout.proofs.laws.written_table_is_read.Goals as goal

pub returns : goal.returns
returns c = λ old new size disk_id partitions holds. (
  λ table is. read-back old new size disk_id partitions holds table is,
  λ fault is. unread-table old new size disk_id partitions holds fault is,
)
