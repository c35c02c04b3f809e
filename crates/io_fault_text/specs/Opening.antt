-- The text for a file that can't be opened.
use Rattle.std.specs.Prelude.{ℕ, List, ◌++◌, codes}
use Rattle.block_device.specs.declared.open_fault.OpenFault.{OpenFault}
use Rattle.block_device.specs.declared.open_fault.OpenFault.TheVariants as opening
use Rattle.block_device.specs.OpenFault.{open_number, open_name}
use Rattle.image_files.specs.declared.opening.UnopenedFile.{UnopenedFile}
use Rattle.io_fault_text.specs.Paths.{shown_path}
use Rattle.io_fault_text.specs.Texts.{kind_then, no_memory}

abbrev pub unopened_text : OpenFault → List ℕ → List ℕ
unopened_text opening.NoMemory path = no_memory
unopened_text fault path = codes "refused " ++ kind_then (open_number fault) (open_name fault) (codes " " ++ (shown_path path ++ codes "\n"))

-- the text for a file with its path
abbrev pub open_text : UnopenedFile → List ℕ
open_text file = unopened_text file.fault file.path.now
