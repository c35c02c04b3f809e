-- The numbers and names of faults in printed output.
use Rattle.std.specs.Prelude.{ℕ, List, codes}
use Rattle.verity_format.specs.declared.decoding.SuperFault.{SuperFault}
use Rattle.verity_format.specs.declared.decoding.SuperFault.TheVariants as super
use Rattle.verity_format.specs.declared.formatting.FormatFault.{FormatFault}
use Rattle.verity_format.specs.declared.formatting.FormatFault.TheVariants as format
use Rattle.verity_format.specs.declared.verifying.VerifyFault.{VerifyFault}
use Rattle.verity_format.specs.declared.verifying.VerifyFault.TheVariants as verify

-- faults of a superblock
abbrev pub super_number : SuperFault → ℕ
super_number super.Signature = 1
super_number super.Version = 2
super_number super.HashType = 3
super_number super.Algorithm = 4
super_number super.DataBlockSize = 5
super_number super.HashBlockSize = 6
super_number super.DataBlocks = 7
super_number super.SaltSize = 8

abbrev pub super_name : SuperFault → List ℕ
super_name super.Signature = codes "Signature"
super_name super.Version = codes "Version"
super_name super.HashType = codes "HashType"
super_name super.Algorithm = codes "Algorithm"
super_name super.DataBlockSize = codes "DataBlockSize"
super_name super.HashBlockSize = codes "HashBlockSize"
super_name super.DataBlocks = codes "DataBlocks"
super_name super.SaltSize = codes "SaltSize"

-- faults of formatting
abbrev pub format_number : FormatFault → ℕ
format_number format.Shape = 1
format_number format.DataTooSmall = 2
format_number (format.HashTooSmall needed) = 3
format_number format.HashReadOnly = 4
format_number format.Device = 5
format_number format.NoMemory = 6

abbrev pub format_name : FormatFault → List ℕ
format_name format.Shape = codes "Shape"
format_name format.DataTooSmall = codes "DataTooSmall"
format_name (format.HashTooSmall needed) = codes "HashTooSmall"
format_name format.HashReadOnly = codes "HashReadOnly"
format_name format.Device = codes "Device"
format_name format.NoMemory = codes "NoMemory"

-- faults of verifying: those of the superblock, and three more
abbrev pub verify_number : VerifyFault → ℕ
verify_number (verify.Super fault) = super_number fault
verify_number verify.TooSmall = 9
verify_number verify.Device = 10
verify_number verify.NoMemory = 11

abbrev pub verify_name : VerifyFault → List ℕ
verify_name (verify.Super fault) = super_name fault
verify_name verify.TooSmall = codes "TooSmall"
verify_name verify.Device = codes "Device"
verify_name verify.NoMemory = codes "NoMemory"
