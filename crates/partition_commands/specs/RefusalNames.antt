-- The numbers and names of refusals in printed text, and their lines.
use Rattle.std.specs.Prelude.{ℕ, List, ◌++◌, codes, decimal}
use Rattle.partition_table.specs.declared.read_fault.ReadFault.{ReadFault}
use Rattle.partition_table.specs.declared.table.NoTable.TheVariants.{TooSmall, Damaged}
use Rattle.partition_table.specs.FaultNames.{read_name, read_partition}
use Rattle.image_pin.specs.Mismatches.{mismatch_name, mismatch_number}
use Rattle.verity_format.specs.FaultNames.{verify_name, verify_number}
use Rattle.partition_commands.specs.declared.refusal.PartitionRefusal.{PartitionRefusal}
use Rattle.partition_commands.specs.declared.refusal.PartitionRefusal.TheVariants.{Table, NoDataPartition, TwoDataPartitions, NoVerityPartition, TwoVerityPartitions, OutsideDevice, Superblock, Unpinned}
use Rattle.partition_commands.specs.Lines.{number_word}

-- a superblock's fault has its own number, from 1 to 11, as has a value that differs from the pin's
abbrev pub refusal_number : PartitionRefusal → ℕ
refusal_number (Table fault) = 12
refusal_number NoDataPartition = 13
refusal_number TwoDataPartitions = 14
refusal_number NoVerityPartition = 15
refusal_number TwoVerityPartitions = 16
refusal_number OutsideDevice = 17
refusal_number (Superblock fault) = verify_number fault
refusal_number (Unpinned mismatch) = mismatch_number mismatch

abbrev pub refusal_name : PartitionRefusal → List ℕ
refusal_name (Table fault) = codes "NoTable"
refusal_name NoDataPartition = codes "NoDataPartition"
refusal_name TwoDataPartitions = codes "TwoDataPartitions"
refusal_name NoVerityPartition = codes "NoVerityPartition"
refusal_name TwoVerityPartitions = codes "TwoVerityPartitions"
refusal_name OutsideDevice = codes "OutsideDevice"
refusal_name (Superblock fault) = verify_name fault
refusal_name (Unpinned mismatch) = mismatch_name mismatch

-- why a copy isn't taken, and of which partition
unfoldable pub cause_text : ReadFault → List ℕ
cause_text fault = read_name fault ++ number_word (read_partition fault)

-- `refused K NAME`
unfoldable pub refused_line : ℕ → List ℕ → List ℕ
refused_line number name = codes "refused " ++ (decimal number ++ (codes " " ++ (name ++ codes "\n")))

-- why neither copy is taken
unfoldable pub damaged_line : ReadFault → ReadFault → List ℕ
damaged_line primary backup = codes "refused 12 NoTable primary " ++ (cause_text primary ++ (codes " backup " ++ (cause_text backup ++ codes "\n")))

-- one line; of a table that isn't there the causes too
abbrev pub refusal_text : PartitionRefusal → List ℕ
refusal_text (Table TooSmall) = codes "refused 12 NoTable TooSmall\n"
refusal_text (Table (Damaged primary backup)) = damaged_line primary backup
refusal_text refusal = refused_line (refusal_number refusal) (refusal_name refusal)
