-- A table as a JSON object.
use Rattle.std.specs.Prelude.{ℕ, List, map, codes, Option, Some, None}
use Rattle.uuid.specs.Text.{hyphenated_text, lower}
use Rattle.serde_json.specs.Data.{Data, array, null, number, object, string, unsigned, member, no_members}
use Rattle.serde_json.specs.View.{items_of}
use Rattle.program_io.specs.JsonLines.{json_line}
use Rattle.partition_table.specs.declared.partition.Partition.{Partition}
use Rattle.partition_table.specs.declared.read_fault.ReadFault.{ReadFault}
use Rattle.partition_table.specs.declared.table.PartitionTable.{PartitionTable}
use Rattle.partition_table.specs.declared.table.Source.{Source}
use Rattle.partition_table.specs.declared.table.Source.TheVariants.{Both, Differ, Primary, Backup}
use Rattle.partition_table.specs.FaultNames.{read_name, read_partition}
use Rattle.partition_table.specs.Partitions.{partition_sectors}
use Rattle.partition_commands.specs.Kinds.{partition_type_name}
use Rattle.partition_table.specs.Labels.{label_text}

-- a partition, as its line says
abbrev pub partition_json : Partition → Data
partition_json p =
    object
    (member (codes "first") (number (unsigned p.first))
    (member (codes "label") (string (label_text p.label))
    (member (codes "number") (number (unsigned p.number))
    (member (codes "sectors") (number (unsigned (partition_sectors p)))
    (member (codes "type") (string (hyphenated_text lower p.kind))
    (member (codes "type_name") (string (partition_type_name p.kind))
    (member (codes "uuid") (string (hyphenated_text lower p.uuid))
    no_members)))))))

abbrev pub partitions_json : List Partition → List Data
partitions_json partitions = map partition_json partitions

abbrev pub number_json : Option ℕ → Data
number_json (Some n) = number (unsigned n)
number_json None = null

-- what is wrong of a copy, and of which partition
abbrev pub fault_json : ReadFault → Data
fault_json fault = object (member (codes "name") (string (read_name fault)) (member (codes "partition") (number_json (read_partition fault)) no_members))

-- which copies are good
abbrev pub good_copies : Source → List ℕ
good_copies Both = codes "both"
good_copies Differ = codes "differ"
good_copies (Primary fault) = codes "primary"
good_copies (Backup fault) = codes "backup"

-- what is wrong of the other
abbrev pub other_copy : Source → Data
other_copy Both = null
other_copy Differ = null
other_copy (Primary fault) = fault_json fault
other_copy (Backup fault) = fault_json fault

-- which copies are good, what is wrong of the other, and the partitions
abbrev pub table_json : List Partition → Source → Data
table_json partitions source =
    object
    (member (codes "copies") (string (good_copies source))
    (member (codes "fault") (other_copy source)
    (member (codes "partitions") (array (items_of (partitions_json partitions)))
    no_members)))

abbrev pub table_line : List Partition → Source → List ℕ
table_line partitions source = json_line (table_json partitions source)

abbrev pub object_text : PartitionTable → List ℕ
object_text table = table_line table.partitions.items table.source
