-- How many sectors a file has, by what the system said of it when it was open.
use Rattle.std.specs.Prelude.{ℕ}
use Rattle.std.specs.declared.fs.attrs.Metadata.{Metadata}
use Rattle.block_device.specs.declared.any.AnyDev.{AnyDev}
use Rattle.block_device.specs.declared.any.AnyDev.TheVariants.{Memory, File}
use Rattle.block_device.specs.declared.file.FileDev.{FileDev}
use Rattle.block_device.specs.FileCalls.{IsOfFile}
use Rattle.block_device.specs.FileId.{file_id, file_of}
use Rattle.block_device.specs.Identity.{IsOpenedAs}

-- the system said of the open file that it has so many sectors, and which one it is
abbrev pub IsSized : FileDev → ℕ → Type 0
IsSized f sectors = (said : Metadata) × IsOfFile (file_of f) said × IsOpenedAs said sectors (file_id f)

-- the system said of the file under a device that it has so many sectors, and which one it is; a device in memory has none
abbrev pub any_sized : AnyDev → ℕ → Type 0
any_sized (Memory m) sectors = ⊥
any_sized (File f) sectors = IsSized f sectors
