-- What `assemble` does and prints.
use Rattle.std.specs.Prelude.{◌≡◌, ℕ, false, List, [], ◌∷◌, Option, Some}
use Rattle.std.specs.Io.KnownBytes.{Appends}
use Rattle.command_line.specs.declared.words.assemble.AssembleWords.{AssembleWords}
use Rattle.command_line.specs.declared.root_file.RootForm.TheVariants.{Pin as PinForm}
use Rattle.command_line.specs.words.Assemble.{AssembleRecord, assemble_record}
use Rattle.image_commands.specs.declared.format.MadeImage.{MadeImage}
use Rattle.image_commands.specs.Drawing.{Drawing}
use Rattle.image_commands.specs.Formats.{made_text}
use Rattle.image_commands.specs.PinFiles.{CanWriteRoot, IsOtherFile, WritesRoot}
use Rattle.image_files.specs.declared.file_use.FileUse.{FileUse}
use Rattle.image_files.specs.declared.placed_image.PlacedImage.{PlacedImage}
use Rattle.image_files.specs.Opener.{Calls, Opener, calls}
use Rattle.image_files.specs.OpenPlaces.{OpensPlace}
use Rattle.image_files.specs.Places.{place_use}
use Rattle.block_device.specs.Device.{Device}
use Rattle.image_pin.specs.declared.pin.Pin.{Pin}
use Rattle.program_io.specs.Counted.{CountedRecord}
use Rattle.assemble_commands.specs.declared.kinds.DiskKinds.{DiskKinds}
use Rattle.assemble_commands.specs.declared.plan.DiskPlan.{DiskPlan}
use Rattle.assemble_commands.specs.Kinds.{disk_kinds}
use Rattle.assemble_commands.specs.Plans.{IsPlan}
use Rattle.assemble_commands.specs.Steps.{ClearsEnds, CopiesPart, GrowsDisk, MakesPart, ProtectsParts, PutsTable}

-- The file is long enough, and its ends are cleared. Then the data, the hash image and the parity are written, each synced in its
-- part, and the table last.
pub record FillsDisk {S D : Type 0} (w : Calls S D) (files : List FileUse) (path : List ℕ) (data_dev : D) (plan : DiskPlan) (made : MadeImage) : Type 0 where
  pub grown : S
  pub cleared : S
  pub copied : S
  pub formatted : S
  pub protected : S
  pub copied_dev : D
  pub formatted_dev : D
  pub protected_dev : D
  pub grows : GrowsDisk (record w { new = grown }) path plan.parts.sectors
  pub clears : ClearsEnds (record w { old = grown; new = cleared }) files path plan.parts.sectors
  pub copies : CopiesPart (record w { old = cleared; new = copied }) files path plan.parts.«data» data_dev copied_dev
  pub makes : MakesPart (record w { old = copied; new = formatted }) files path plan.parts.hash copied_dev formatted_dev plan.options made
  pub protects : ProtectsParts (record w { old = formatted; new = protected }) files path formatted_dev protected_dev plan
  pub table : PutsTable (record w { old = protected }) files path plan made

-- the pin of the image
abbrev pub disk_pin : DiskPlan → MadeImage → Pin
disk_pin plan made = record { root = made.root; salt = made.salt; data_block = plan.options.data_block; hash_block = plan.options.hash_block; blocks = made.blocks }

-- the pin was written, if there is a file for it, and then what was made was printed
pub record Finishes {S D : Type 0} (w : Calls S D) (a : AssembleRecord) (plan : DiskPlan) (made : MadeImage) (old new : Option (List ℕ)) : Type 0 where
  pub pinned : WritesRoot w a.data_path a.disk_path a.file (disk_pin plan made)
  pub printed : Appends old new (made_text made)

-- OUT isn't the file of DATA
abbrev pub IsApart : {S D : Type 0} → Calls S D → AssembleRecord → Type 0
IsApart w a = IsOtherFile w a.data_path (Some (record { path = a.disk_path; form = PinForm }))

-- The pin can be written, and OUT isn't the file of DATA. Then the data were opened for reading.
pub record OpensData {S D : Type 0} (w : Calls S D) (a : AssembleRecord) (image : PlacedImage D) : Type 0 where
  pub tried : S
  pub compared : S
  pub path : CanWriteRoot (record w { new = tried }) a.data_path a.disk_path a.file
  pub apart : IsApart (record w { old = tried; new = compared }) a
  pub opens : OpensPlace (record w { old = compared }) a.data_path false image

-- Both types are there. The data were opened, and a disk was planned and filled.
pub record FillsPlanned {S D T G : Type 0} (w : Calls S D) (d : Drawing T G) (a : AssembleRecord) (plan : DiskPlan) (made : MadeImage) : Type 0 where
  pub opened : S
  pub kinds : DiskKinds
  pub image : PlacedImage D
  pub kinds_are : disk_kinds a.kind a.arch ≡ Some kinds
  pub opens : OpensData (record w { new = opened }) a image
  pub is_plan : IsPlan d a (w.state image.device).size kinds plan
  pub fills : FillsDisk (record w { old = opened }) (place_use false image ∷ []) a.disk_path image.device plan made

-- that, and then it was finished
pub record AssemblesDisk {S D T G : Type 0} (w : Calls S D) (d : Drawing T G) (a : AssembleRecord) (old new : Option (List ℕ)) : Type 0 where
  pub filled : S
  pub plan : DiskPlan
  pub made : MadeImage
  pub fills : FillsPlanned (record w { new = filled }) d a plan made
  pub finishes : Finishes (record w { old = filled }) a plan made old new

-- ---- as calls see them

abbrev pub FinishesDisk : {S D W : Type 0} → Opener S D → (D → Device) → S → S → (W → Option (List ℕ)) → CountedRecord W → CountedRecord W → AssembleWords → DiskPlan → MadeImage → Type 0
FinishesDisk relations state images images' contents writer writer' words plan made =
    Finishes (calls relations state images images') (assemble_record words) plan made (contents writer.inner) (contents writer'.inner)

abbrev pub Assembles : {S D T G W : Type 0} → Opener S D → (D → Device) → S → S → Drawing T G → (W → Option (List ℕ)) → CountedRecord W → CountedRecord W → AssembleWords → Type 0
Assembles relations state images images' d contents writer writer' words =
    AssemblesDisk (calls relations state images images') d (assemble_record words) (contents writer.inner) (contents writer'.inner)
