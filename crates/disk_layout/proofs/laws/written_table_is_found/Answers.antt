use Rattle.disk_layout.proofs.ReadBackLemmas.{found-back, none-found}
use Rattle.disk_layout.proofs.laws.written_table_is_found.Goals as goal

pub returns : goal.returns
returns c = λ old new size disk_id partitions holds. (
  λ table is. found-back old new disk_id partitions size holds table is,
  λ fault is. none-found old new disk_id partitions size holds fault is,
)
