use Rattle.disk_layout.proofs.PartLemmas.{three-made, two-made}
use Rattle.disk_layout.proofs.laws.disk_parts_make_tables.Goals as goal

pub returns : goal.returns
returns c = λ disk disk_id data_name hash_name parity_name data_count hash_count parity_count has id a b p. (
  two-made disk data_name hash_name data_count hash_count parity_count has a b disk_id id,
  λ some. three-made disk data_name hash_name data_count hash_count parity_count has a b disk_id id parity_name p some,
)
