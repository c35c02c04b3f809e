-- The names of faults in printed output.
use Rattle.std.specs.Prelude.{ℕ, List, codes, Option, Some, None}
use Rattle.partition_table.specs.declared.read_fault.ReadFault.{ReadFault}
use Rattle.partition_table.specs.declared.read_fault.ReadFault.TheVariants.{Device as DeviceFailed, NoMemory, Table}
use Rattle.partition_table.specs.declared.table_fault.TableFault.{TableFault}
use Rattle.partition_table.specs.declared.table_fault.TableFault.TheVariants as table

-- the name of a fault of a copy
abbrev pub fault_name : TableFault → List ℕ
fault_name table.Signature = codes "Signature"
fault_name table.Revision = codes "Revision"
fault_name table.HeaderSize = codes "HeaderSize"
fault_name table.HeaderChecksum = codes "HeaderChecksum"
fault_name table.HeaderSector = codes "HeaderSector"
fault_name table.UsableSectors = codes "UsableSectors"
fault_name table.EntrySize = codes "EntrySize"
fault_name table.EntryCount = codes "EntryCount"
fault_name table.EntriesSector = codes "EntriesSector"
fault_name table.EntriesChecksum = codes "EntriesChecksum"
fault_name (table.Backwards number) = codes "Backwards"
fault_name (table.OutsideUsable number) = codes "OutsideUsable"
fault_name (table.Overlap number) = codes "Overlap"

-- the number of the faulty partition
abbrev pub fault_partition : TableFault → Option ℕ
fault_partition (table.Backwards number) = Some number
fault_partition (table.OutsideUsable number) = Some number
fault_partition (table.Overlap number) = Some number
fault_partition _ = None

-- the name of the reason why a copy isn't used
abbrev pub read_name : ReadFault → List ℕ
read_name DeviceFailed = codes "Device"
read_name NoMemory = codes "NoMemory"
read_name (Table fault) = fault_name fault

abbrev pub read_partition : ReadFault → Option ℕ
read_partition (Table fault) = fault_partition fault
read_partition _ = None
