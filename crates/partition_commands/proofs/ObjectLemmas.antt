-- Partitions as JSON values have no float.
use Rattle.std.proofs.Common.{◌≡◌, false, List, [], ◌∷◌, Option, Some, None, ℕ, refl}
use Rattle.std.proofs.lemmas.Bool.{or_from}
use Rattle.serde_json.specs.View.{items_of}
use Rattle.serde_json.specs.Written.{has_float, items_have_float}
use Rattle.partition_table.specs.declared.partition.Partition.{Partition}
use Rattle.partition_table.specs.declared.read_fault.ReadFault.{ReadFault}
use Rattle.partition_table.specs.declared.table.Source.{Source}
use Rattle.partition_table.specs.declared.table.Source.TheVariants.{Both, Differ, Primary, Backup}
use Rattle.partition_table.specs.FaultNames.{read_partition}
use Rattle.partition_commands.specs.Objects.{fault_json, number_json, other_copy, partitions_json, table_json}

plain_partitions : (partitions : List Partition) → items_have_float (items_of (partitions_json partitions)) ≡ false
plain_partitions [] = refl
plain_partitions (p ∷ more) = plain_partitions more

plain_number : (n : Option ℕ) → has_float (number_json n) ≡ false
plain_number (Some n) = refl
plain_number None = refl

plain_fault : (fault : ReadFault) → has_float (fault_json fault) ≡ false
plain_fault fault = or_from _ _ (plain_number (read_partition fault)) refl

plain_copy : (source : Source) → has_float (other_copy source) ≡ false
plain_copy Both = refl
plain_copy Differ = refl
plain_copy (Primary fault) = plain_fault fault
plain_copy (Backup fault) = plain_fault fault

pub plain_table : (partitions : List Partition) (source : Source) → has_float (table_json partitions source) ≡ false
plain_table partitions source = or_from _ _ (plain_copy source) (or_from _ _ (plain_partitions partitions) refl)
