use Rattle.disk_layout.proofs.HeldLemmas.{table-held}
use Rattle.disk_layout.proofs.laws.written_table_is_held.Goals as goal

pub returns : goal.returns
returns c = λ old new size disk_id partitions steady whole made puts. table-held old new size disk_id partitions steady whole made puts
