-- The printed lines of a table.
use Rattle.std.specs.Prelude.{ℕ, List, ◌++◌, codes, decimal, Option, Some, None}
use Rattle.std.specs.Io.KnownBytes.{Appends}
use Rattle.std.specs.List.{flat_map}
use Rattle.program_io.specs.Counted.{CountedRecord}
use Rattle.uuid.specs.Text.{hyphenated_text, lower}
use Rattle.partition_table.specs.declared.partition.Partition.{Partition}
use Rattle.partition_table.specs.declared.read_fault.ReadFault.{ReadFault}
use Rattle.partition_table.specs.declared.table.PartitionTable.{PartitionTable}
use Rattle.partition_table.specs.declared.table.Source.{Source}
use Rattle.partition_table.specs.declared.table.Source.TheVariants.{Both, Differ, Primary, Backup}
use Rattle.partition_table.specs.FaultNames.{read_name, read_partition}
use Rattle.partition_table.specs.Partitions.{partition_sectors}
use Rattle.partition_commands.specs.Kinds.{partition_type_name}
use Rattle.partition_table.specs.Labels.{label_text}

-- the number, the first sector and how many there are
unfoldable pub range_text : Partition → List ℕ
range_text p = decimal p.number ++ (codes " " ++ (decimal p.first ++ (codes " " ++ (decimal (partition_sectors p) ++ codes " "))))

-- an identifier and a space
unfoldable pub uuid_word : List ℕ → List ℕ
uuid_word uuid = hyphenated_text lower uuid ++ codes " "

-- the type, its name, and the partition's own identifier
unfoldable pub uuids_text : Partition → List ℕ
uuids_text p = uuid_word p.kind ++ (partition_type_name p.kind ++ (codes " " ++ uuid_word p.uuid))

-- a partition and the text of its label
abbrev pub line_with : Partition → List ℕ → List ℕ
line_with p label = range_text p ++ (uuids_text p ++ (label ++ codes "\n"))

-- a partition: its number, first sector, sectors, type, the type's name, identifier and label
unfoldable pub partition_line : Partition → List ℕ
partition_line p = range_text p ++ (uuids_text p ++ (label_text p.label ++ codes "\n"))

-- the number of the partition that is wrong, after a space
abbrev pub number_word : Option ℕ → List ℕ
number_word (Some number) = codes " " ++ decimal number
number_word None = codes ""

-- which copy is good, which isn't, and why
unfoldable pub fault_line : List ℕ → ReadFault → List ℕ
fault_line good fault = good ++ (read_name fault ++ (number_word (read_partition fault) ++ codes "\n"))

-- which copies of the table are good, or that both are and differ
abbrev pub source_line : Source → List ℕ
source_line Both = codes "copies both\n"
source_line Differ = codes "copies differ\n"
source_line (Primary fault) = fault_line (codes "copies primary, backup ") fault
source_line (Backup fault) = fault_line (codes "copies backup, primary ") fault

-- a line for each partition
abbrev pub partition_lines : List Partition → List ℕ
partition_lines partitions = flat_map partition_line partitions

-- a table: which copies are good, and its partitions
abbrev pub table_list : List Partition → Source → List ℕ
table_list partitions source = source_line source ++ partition_lines partitions

abbrev pub listed_text : PartitionTable → List ℕ
listed_text table = table_list table.partitions.items table.source

-- ---- as a call sees them

-- that text was written
abbrev pub SaysText : {W : Type 0} → (W → Option (List ℕ)) → CountedRecord W → CountedRecord W → List ℕ → Type 0
SaysText contents writer writer' text = Appends (contents writer.inner) (contents writer'.inner) text

-- which copies of the table are good, and its partitions
abbrev pub SaysTable : {W : Type 0} → (W → Option (List ℕ)) → CountedRecord W → CountedRecord W → PartitionTable → Type 0
SaysTable contents writer writer' table = SaysText contents writer writer' (listed_text table)
