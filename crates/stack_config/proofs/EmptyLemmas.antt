-- The configuration of leaves alone.
use Rattle.std.proofs.Common.{List, [], refl}
use Rattle.std.specs.Prelude.{IsTrue}
use Rattle.std.specs.List.{IsDistinct}
use Rattle.std.specs.Str.{bytes_eq}
use Rattle.std.proofs.lemmas.List.Elements.{All-nil}
use Rattle.dm_table.specs.Grammar.{IsTableOfGrammar}
use Rattle.dm_table.specs.Names.{is_mapped_name}
use Rattle.stack_rules.specs.Records.{LeafRecord, DeviceRecord}
use Rattle.stack_rules.specs.Rules.{AreLeaves, IsLoaded, IsValid}
use Rattle.stack_rules.proofs.lemmas.CycleLemmas.{acyclic}

empty-valid : (leaves : List LeafRecord) → IsValid (record { leaves = leaves; devices = [] })
unfolding IsValid
empty-valid leaves = refl

empty-distinct : IsDistinct bytes_eq []
unfolding IsDistinct
empty-distinct = tt

pub empty-loaded : (leaves : List LeafRecord) → AreLeaves leaves → IsLoaded (record { leaves = leaves; devices = [] })
empty-loaded leaves sound = record {
  leaves = sound;
  distinct = empty-distinct;
  mapped = All-nil (λ (d : DeviceRecord). IsTrue (is_mapped_name d.name));
  tables = All-nil (λ (d : DeviceRecord). IsTableOfGrammar d.table);
  valid = empty-valid leaves;
  acyclic = acyclic (record { leaves = leaves; devices = [] }) (empty-valid leaves);
}
