-- What is printed of partitions that aren't printed, and the status.
use Rattle.std.specs.Prelude.{ℕ, List, [], codes}
use Rattle.fec_commands.specs.FaultTexts.{fec_status, fec_text}
use Rattle.io_fault_text.specs.Opening.{open_text}
use Rattle.io_fault_text.specs.Texts.{no_memory, refused_text}
use Rattle.verity_commands.specs.Texts.{image_text}
use Rattle.partition_commands.specs.declared.fault.PartitionsFault.{PartitionsFault}
use Rattle.partition_commands.specs.declared.fault.PartitionsFault.TheVariants.{Fec, NoMemory, NotLoadable, Open, Pin, Refused, Write}
use Rattle.partition_commands.specs.RefusalNames.{refusal_text}

-- one line, or none if that can't be written; of a pin as `verify --pin` prints it
abbrev pub partitions_text : PartitionsFault → List ℕ
partitions_text NoMemory = no_memory
partitions_text (Open file) = open_text file
partitions_text (Pin fault) = image_text fault
partitions_text (Refused refusal) = refusal_text refusal
partitions_text (Fec fault) = fec_text fault
partitions_text NotLoadable = refused_text 46 (codes "NotLoadable")
partitions_text Write = []

-- refused; of parity as `table --fec` has it
abbrev pub partitions_status : PartitionsFault → ℕ
partitions_status (Fec fault) = fec_status fault
partitions_status fault = 1
