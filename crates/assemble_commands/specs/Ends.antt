-- How `assemble` ends early: the calls that were made, of which the last one failed, or what no further call was made for.
use Rattle.std.specs.Prelude.{◌≡◌, ◌⊎◌, ℕ, ◌+◌, ◌<◌, ◌^◌, Bool, false, true, IsSome, List, [], ◌∷◌, Option, None, Some, length}
use Rattle.block_device.specs.Device.{Device}
use Rattle.command_line.specs.declared.words.assemble.AssembleWords.{AssembleWords}
use Rattle.command_line.specs.declared.root_file.RootForm.TheVariants.{Pin as PinForm}
use Rattle.command_line.specs.words.Assemble.{AssembleRecord, assemble_record}
use Rattle.fec_commands.specs.declared.fault.FecFault.{FecFault}
use Rattle.fec_commands.specs.declared.fault.FecFault.TheVariants.{Verity}
use Rattle.image_commands.specs.declared.fault.ImageFault.{ImageFault}
use Rattle.image_commands.specs.declared.fault.ImageFault.TheVariants.{Format, Open, Random, Write}
use Rattle.image_commands.specs.declared.format.MadeImage.{MadeImage}
use Rattle.image_commands.specs.Drawing.{AreGiven, Drawing, IsUndrawn}
use Rattle.image_commands.specs.PinFiles.{CanWriteRoot, IsRootRefused, IsRootUnwritten, IsSameFile, WritesRoot}
use Rattle.image_files.specs.declared.file_use.FileUse.{FileUse}
use Rattle.image_files.specs.declared.opening.UnopenedFile.{UnopenedFile}
use Rattle.image_files.specs.declared.placed_image.PlacedImage.{PlacedImage}
use Rattle.image_files.specs.Opener.{Calls, Opener, calls}
use Rattle.image_files.specs.OpenPlaces.{RefusesPlace}
use Rattle.image_files.specs.Places.{place_use}
use Rattle.image_pin.specs.declared.pin.Pin.{Pin}
use Rattle.program_io.specs.Counted.{CountedRecord}
use Rattle.tree_shape.specs.Shape.{first_fault}
use Rattle.verity_commands.specs.declared.verity_fault.VerityFault.TheVariants.{Image, Usage}
use Rattle.verity_format.specs.declared.formatting.FormatFault.TheVariants.{Shape}
use Rattle.verity_format.specs.declared.formatting.FormatOptions.{FormatOptions}
use Rattle.verity_format.specs.Image.{image_sectors}
use Rattle.verity_format.specs.Options.{superblock_with}
use Rattle.verity_format.specs.Superblock.{shape_of}
use Rattle.assemble_commands.specs.declared.kinds.DiskKinds.{DiskKinds}
use Rattle.assemble_commands.specs.declared.plan.DiskPlan.{DiskPlan}
use Rattle.assemble_commands.specs.Commands.{FillsPlanned, IsApart, OpensData, disk_pin}
use Rattle.assemble_commands.specs.Identifiers.{seed_options}
use Rattle.assemble_commands.specs.Kinds.{disk_kinds}
use Rattle.assemble_commands.specs.Plans.{IsPlan}
use Rattle.assemble_commands.specs.StepEnds.{EndsClearing, EndsCopying, EndsMaking, EndsProtecting, EndsTable, FailsToGrow, IsMemoryEnd, IsOfImage}
use Rattle.assemble_commands.specs.Steps.{ClearsEnds, CopiesPart, GrowsDisk, MakesPart, ProtectsParts}

-- ---- while the disk is filled

-- the parity was written, if there is to be any, and the table isn't
pub record EndsProtected {S D : Type 0} (w : Calls S D) (files : List FileUse) (path : List ℕ) (data_dev : D) (plan : DiskPlan) (fault : FecFault) : Type 0 where
  pub protected : S
  pub protected_dev : D
  pub protects : ProtectsParts (record w { new = protected }) files path data_dev protected_dev plan
  pub ends : IsOfImage (λ cause. EndsTable (record w { old = protected }) files path plan.parts.sectors cause) fault

-- the hash image was made
pub record EndsFormatted {S D : Type 0} (w : Calls S D) (files : List FileUse) (path : List ℕ) (data_dev : D) (plan : DiskPlan) (fault : FecFault) : Type 0 where
  pub formatted : S
  pub formatted_dev : D
  pub made : MadeImage
  pub makes : MakesPart (record w { new = formatted }) files path plan.parts.hash data_dev formatted_dev plan.options made
  pub ends : EndsProtecting (record w { old = formatted }) files path formatted_dev plan fault ⊎ EndsProtected (record w { old = formatted }) files path formatted_dev plan fault

-- the data were copied
pub record EndsCopied {S D : Type 0} (w : Calls S D) (files : List FileUse) (path : List ℕ) (data_dev : D) (plan : DiskPlan) (fault : FecFault) : Type 0 where
  pub copied : S
  pub copied_dev : D
  pub copies : CopiesPart (record w { new = copied }) files path plan.parts.«data» data_dev copied_dev
  pub ends : IsOfImage (λ cause. EndsMaking (record w { old = copied }) files path copied_dev plan cause) fault ⊎ EndsFormatted (record w { old = copied }) files path copied_dev plan fault

-- the ends were cleared
pub record EndsCleared {S D : Type 0} (w : Calls S D) (files : List FileUse) (path : List ℕ) (data_dev : D) (plan : DiskPlan) (fault : FecFault) : Type 0 where
  pub cleared : S
  pub clears : ClearsEnds (record w { new = cleared }) files path plan.parts.sectors
  pub ends : IsOfImage (λ cause. EndsCopying (record w { old = cleared }) files path plan.parts.«data» data_dev cause) fault ⊎ EndsCopied (record w { old = cleared }) files path data_dev plan fault

-- the file is long enough
pub record EndsGrown {S D : Type 0} (w : Calls S D) (files : List FileUse) (path : List ℕ) (data_dev : D) (plan : DiskPlan) (fault : FecFault) : Type 0 where
  pub grown : S
  pub grows : GrowsDisk (record w { new = grown }) path plan.parts.sectors
  pub ends : IsOfImage (λ cause. EndsClearing (record w { old = grown }) files path plan.parts.sectors cause) fault ⊎ EndsCleared (record w { old = grown }) files path data_dev plan fault

-- the steps were made in their order up to one that failed
abbrev pub EndsFilling : {S D : Type 0} → Calls S D → List FileUse → List ℕ → D → DiskPlan → FecFault → Type 0
EndsFilling w files path data_dev plan fault = IsOfImage (λ cause. FailsToGrow w path plan.parts.sectors cause) fault ⊎ EndsGrown w files path data_dev plan fault

-- ---- before it

-- the names of the types
abbrev pub IsRoomEnd : AssembleRecord → ImageFault → Type 0
IsRoomEnd a fault = IsMemoryEnd (length a.kind + length a.arch + 8) fault

-- OUT is the file of DATA
abbrev pub IsOneFile : {S D : Type 0} → Calls S D → AssembleRecord → ImageFault → Type 0
IsOneFile w a fault = IsSameFile w a.data_path (Some (record { path = a.disk_path; form = PinForm })) fault

-- the pin can be written, but OUT is the file of DATA
pub record EndsTried {S D : Type 0} (w : Calls S D) (a : AssembleRecord) (fault : ImageFault) : Type 0 where
  pub tried : S
  pub path : CanWriteRoot (record w { new = tried }) a.data_path a.disk_path a.file
  pub same : IsOneFile (record w { old = tried }) a fault

-- it isn't, but DATA can't be opened
pub record EndsCompared {S D : Type 0} (w : Calls S D) (a : AssembleRecord) (fault : ImageFault) : Type 0 where
  pub tried : S
  pub compared : S
  pub file : UnopenedFile
  pub path : CanWriteRoot (record w { new = tried }) a.data_path a.disk_path a.file
  pub apart : IsApart (record w { old = tried; new = compared }) a
  pub refused : RefusesPlace (record w { old = compared }) a.data_path false file
  pub is : fault ≡ Open file

-- memory ran out and nothing was called; or OUT isn't another file, or the pin can't be written; or DATA wasn't opened
abbrev pub EndsUnopened : {S D : Type 0} → Calls S D → AssembleRecord → ImageFault → Type 0
EndsUnopened w a fault =
    (IsRoomEnd a fault × (w.new ≡ w.old)) ⊎ (IsRootRefused w a.data_path a.disk_path a.file fault ⊎ (EndsTried w a fault ⊎ EndsCompared w a fault))

-- no tree has so many blocks, or the hash image would have more than 2^54 sectors
pub record IsUnshaped {T G : Type 0} (d : Drawing T G) (a : AssembleRecord) (sectors : ℕ) : Type 0 where
  pub options : FormatOptions
  pub drawn : AreGiven d (seed_options a.seed) options
  pub unshaped : IsSome (first_fault (shape_of (superblock_with options sectors))) ⊎ (2 ^ 54 < image_sectors (shape_of (superblock_with options sectors)))

-- there are no random bytes, or that
abbrev pub IsUnplanned : {T G : Type 0} → Drawing T G → AssembleRecord → ℕ → ImageFault → Type 0
IsUnplanned d a sectors fault = ((fault ≡ Random) × IsUndrawn d (seed_options a.seed)) ⊎ ((fault ≡ Format Shape) × IsUnshaped d a sectors)

-- DATA was opened, but no disk planned: OUT wasn't called
pub record EndsUnplanned {S D T G : Type 0} (w : Calls S D) (d : Drawing T G) (a : AssembleRecord) (fault : ImageFault) : Type 0 where
  pub image : PlacedImage D
  pub opens : OpensData w a image
  pub unplanned : IsUnplanned d a (w.state image.device).size fault

-- a disk was planned, but not filled
pub record EndsPlanned {S D T G : Type 0} (w : Calls S D) (d : Drawing T G) (a : AssembleRecord) (fault : FecFault) : Type 0 where
  pub opened : S
  pub kinds : DiskKinds
  pub image : PlacedImage D
  pub plan : DiskPlan
  pub kinds_are : disk_kinds a.kind a.arch ≡ Some kinds
  pub opens : OpensData (record w { new = opened }) a image
  pub is_plan : IsPlan d a (w.state image.device).size kinds plan
  pub ends : EndsFilling (record w { old = opened }) (place_use false image ∷ []) a.disk_path image.device plan fault

-- ---- after it

-- the pin isn't written, and nothing is printed; or what was made can't be printed
abbrev pub IsFinishEndBy : {S D : Type 0} → Calls S D → AssembleRecord → Pin → Option (List ℕ) → Option (List ℕ) → Bool → ImageFault → Type 0
IsFinishEndBy w a pin old new failed fault =
    (IsRootUnwritten w a.data_path a.disk_path a.file pin fault × (new ≡ old)) ⊎ ((fault ≡ Write) × ((failed ≡ true) × WritesRoot w a.data_path a.disk_path a.file pin))

abbrev pub IsFinishEnd : {S D W : Type 0} → Calls S D → (W → Option (List ℕ)) → CountedRecord W → CountedRecord W → AssembleWords → Pin → ImageFault → Type 0
IsFinishEnd w contents writer writer' words pin fault = IsFinishEndBy w (assemble_record words) pin (contents writer.inner) (contents writer'.inner) writer'.failed fault

-- the disk was filled, and the pin isn't written
pub record EndsFilled {S D T G : Type 0} (w : Calls S D) (d : Drawing T G) (a : AssembleRecord) (fault : ImageFault) : Type 0 where
  pub filled : S
  pub plan : DiskPlan
  pub made : MadeImage
  pub fills : FillsPlanned (record w { new = filled }) d a plan made
  pub unpinned : IsRootUnwritten (record w { old = filled }) a.data_path a.disk_path a.file (disk_pin plan made) fault

-- it was, if there is a file for it
pub record EndsPinned {S D T G : Type 0} (w : Calls S D) (d : Drawing T G) (a : AssembleRecord) : Type 0 where
  pub filled : S
  pub plan : DiskPlan
  pub made : MadeImage
  pub fills : FillsPlanned (record w { new = filled }) d a plan made
  pub pinned : WritesRoot (record w { old = filled }) a.data_path a.disk_path a.file (disk_pin plan made)

-- ---- the whole command

-- a type isn't there, and nothing was called; or a call failed; no generator is made before a disk is planned
abbrev pub IsQuietEnd : {S D T G : Type 0} → Calls S D → Drawing T G → AssembleRecord → FecFault → Type 0
IsQuietEnd w d a fault =
    ((fault ≡ Verity Usage) × ((disk_kinds a.kind a.arch ≡ None) × ((w.new ≡ w.old) × (d.new ≡ d.old))))
    ⊎ (IsOfImage (λ cause. (EndsUnopened w a cause × (d.new ≡ d.old)) ⊎ (EndsUnplanned w d a cause ⊎ EndsFilled w d a cause)) fault ⊎ EndsPlanned w d a fault)

-- nothing is printed then; or the disk was filled, and a line can't be written
abbrev pub IsAssembleEnd : {S D T G : Type 0} → Calls S D → Drawing T G → AssembleRecord → Option (List ℕ) → Option (List ℕ) → Bool → FecFault → Type 0
IsAssembleEnd w d a old new failed fault = (IsQuietEnd w d a fault × (new ≡ old)) ⊎ ((fault ≡ Verity (Image Write)) × ((failed ≡ true) × EndsPinned w d a))

abbrev pub EndsDisk : {S D T G W : Type 0} → Opener S D → (D → Device) → S → S → Drawing T G → (W → Option (List ℕ)) → CountedRecord W → CountedRecord W → AssembleWords → FecFault → Type 0
EndsDisk relations state images images' d contents writer writer' words fault =
    IsAssembleEnd (calls relations state images images') d (assemble_record words) (contents writer.inner) (contents writer'.inner) writer'.failed fault
