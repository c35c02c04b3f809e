-- The line and the status of commands on images with parity that end early.
use Rattle.std.specs.Prelude.{ℕ, List, ◌++◌, codes, decimal}
use Rattle.fec_area.specs.declared.writing.ParityFault.{ParityFault}
use Rattle.fec_area.specs.declared.writing.ParityFault.TheVariants as parity
use Rattle.io_fault_text.specs.Texts.{no_memory}
use Rattle.verity_commands.specs.Endings.{verity_status}
use Rattle.verity_commands.specs.Texts.{verity_text}
use Rattle.fec_commands.specs.declared.fault.FecFault.{FecFault}
use Rattle.fec_commands.specs.declared.fault.FecFault.TheVariants as fec

-- why parity can't be written or compared, with the needed sectors
abbrev pub parity_text : ParityFault → List ℕ
parity_text (parity.TooSmall needed) = codes "refused 48 FecTooSmall needed " ++ (decimal needed ++ codes "\n")
parity_text parity.ReadOnly = codes "refused 49 FecReadOnly\n"
parity_text parity.Device = codes "refused 50 FecDevice\n"
parity_text parity.NoMemory = no_memory

abbrev pub differs_text : ℕ → List ℕ
differs_text round = codes "parity differs in round " ++ (decimal round ++ codes "\n")

abbrev pub fec_text : FecFault → List ℕ
fec_text (fec.Verity fault) = verity_text fault
fec_text fec.BlockSizes = codes "refused 47 OtherBlockSizes\n"
fec_text (fec.Parity fault) = parity_text fault
fec_text (fec.Differs round) = differs_text round

-- 3 if images or parity differ, 2 for a usage error, otherwise 1
abbrev pub fec_status : FecFault → ℕ
fec_status (fec.Verity fault) = verity_status fault
fec_status fec.BlockSizes = 1
fec_status (fec.Parity fault) = 1
fec_status (fec.Differs round) = 3
