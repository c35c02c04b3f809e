-- The backing devices that names are bound to.
use Rattle.std.specs.Global.{Global}
use Rattle.std.specs.Prelude.{◌≡◌, ℕ, Bool, true, List, [], ◌∷◌, ◌++◌, map, Option, None, option_map, Vec}
use Rattle.block_device.specs.Device.{Device, in_memory, zeros_image, ramp_image}
use Rattle.command_line.specs.Bindings.{BackingRecord, BindingRecord, backing_record, binding_record, file, mapped, part, partition, ramp, zeros}
use Rattle.command_line.specs.declared.bindings.Backing.{Backing}
use Rattle.command_line.specs.declared.bindings.Binding.{Binding}
use Rattle.device_adapters.specs.declared.part.Part.{Part}
use Rattle.image_files.specs.Apart.{OpensApart}
use Rattle.image_files.specs.declared.file_use.FileUse.{FileUse}
use Rattle.image_files.specs.declared.images.OpenImage.{OpenImage}
use Rattle.image_files.specs.FileUses.{image_use, part_use}
use Rattle.image_files.specs.Opener.{Calls, Opener, calls}
use Rattle.image_files.specs.OpenParts.{OpensPart}
use Rattle.image_files.specs.OpenPlaces.{ClosesAt}
use Rattle.image_files.specs.Places.{device_part}
use Rattle.stack_rules.specs.Records.{LeafRecord}
use Rattle.stack_meaning.specs.Leaves.{ServeLeaves}
use Rattle.stack_files.specs.declared.leaves.OpenLeaves.{OpenLeaves}
use Rattle.stack_files.specs.declared.mapped_file.MappedImage.{MappedImage}
use Rattle.stack_files.specs.MappedFiles.{OpensMapped}
use Rattle.stack_files.specs.WholeFiles.{read_use}

-- an image was opened at its path, doesn't conflict with any open file, and is one of the open files now
pub record OpensBackingFile {S D : Type 0} (w : Calls S D) (files : List FileUse) (path : List ℕ) (writable : Bool) (device : D) (files' : List FileUse) : Type 0 where
  pub image : OpenImage D
  pub opened : OpensApart w files path writable image
  pub is : device ≡ image.device
  pub more : files' ≡ files ++ image_use writable image ∷ []

-- that part of the image was opened, doesn't conflict with any open file, and is one of the open files now
pub record OpensPartOf {S D : Type 0} (w : Calls S D) (files : List FileUse) (path : List ℕ) (writable : Bool) (at : Part) (device : D) (files' : List FileUse) : Type 0 where
  pub image : OpenImage D
  pub opened : OpensPart w files path writable at image
  pub is : device ≡ image.device
  pub more : files' ≡ files ++ part_use writable at image ∷ []

-- an image, or a part of it, was opened to be read, without the sectors that a map doesn't have; the map and it are open files now
pub record OpensMappedFile {S D : Type 0} (w : Calls S D) (files : List FileUse) (path map_file : List ℕ) (at : Option Part) (device : D) (files' : List FileUse) : Type 0 where
  pub image : MappedImage D
  pub opened : OpensMapped w files path map_file at image
  pub is : device ≡ image.device
  pub more : files' ≡ files ++ read_use image.map_id None ∷ read_use image.id at ∷ []

-- a device in memory was made, with that image
pub record MakesMemory {S D : Type 0} (w : Calls S D) (image : List (List ℕ)) (device : D) : Type 0 where
  pub is : w.state device ≡ in_memory image true
  pub same : w.new ≡ w.old

-- the device is the one that the name is bound to; there is none of a partition that isn't resolved
abbrev pub OpensBacking : {S D : Type 0} → Calls S D → List FileUse → BackingRecord → D → List FileUse → Type 0
OpensBacking w files (file path writable) device files' = OpensBackingFile w files path writable device files'
OpensBacking w files (part path writable at) device files' = OpensPartOf w files path writable (device_part at) device files'
OpensBacking w files (partition path writable named) device files' = ⊥
OpensBacking w files (mapped path map_file at) device files' = OpensMappedFile w files path map_file (option_map device_part at) device files'
OpensBacking w files (zeros n) device files' = MakesMemory w (zeros_image n) device × (files' ≡ files)
OpensBacking w files (ramp n) device files' = MakesMemory w (ramp_image n) device × (files' ≡ files)

-- the devices are those that the names are bound to, opened in order
abbrev pub OpensEach : {S D : Type 0} → Calls S D → List FileUse → List BackingRecord → List D → List FileUse → Type 0
OpensEach w files [] [] files' = (w.new ≡ w.old) × (files' ≡ files)
OpensEach w files [] (device ∷ devices) files' = ⊥
OpensEach w files (backing ∷ backings) [] files' = ⊥
OpensEach {S} w files (backing ∷ backings) (device ∷ devices) files' =
    (between : S) × (more : List FileUse) × OpensBacking (record w { new = between }) files backing device more
    × OpensEach (record w { old = between }) more backings devices files'

abbrev pub backings_of : List BindingRecord → List BackingRecord
backings_of bindings = map (λ binding. binding.backing) bindings

-- The bindings' images were opened next to these files. The backing devices have the names of the bindings, and are the devices
-- that these names are bound to.
pub record AreBound {S D : Type 0} (w : Calls S D) (files : List FileUse) (bindings : List BindingRecord) (leaves : List LeafRecord) (devices : List D) : Type 0 where
  pub names : map (λ leaf. leaf.name) leaves ≡ map (λ binding. binding.name) bindings
  pub files' : List FileUse
  pub opened : OpensEach w files (backings_of bindings) devices files'
  pub served : ServeLeaves leaves (map w.state devices)

-- the image of a binding, or its part of one, is closed
abbrev pub ClosesBacking : {S D : Type 0} → Calls S D → BackingRecord → D → Type 0
ClosesBacking w (file path writable) device = w.relations.takes w.old path device w.new
ClosesBacking w (part path writable at) device = w.relations.takes_part w.old path (device_part at) device w.new
ClosesBacking w (partition path writable named) device = w.new ≡ w.old
ClosesBacking w (mapped path map_file at) device = ClosesAt w path (option_map device_part at) device
ClosesBacking w (zeros n) device = w.new ≡ w.old
ClosesBacking w (ramp n) device = w.new ≡ w.old

-- each of them is closed, from the last name to the first
abbrev pub ClosesEach : {S D : Type 0} → Calls S D → List BackingRecord → List D → Type 0
ClosesEach w [] devices = w.new ≡ w.old
ClosesEach w (backing ∷ backings) [] = w.new ≡ w.old
ClosesEach {S} w (backing ∷ backings) (device ∷ devices) =
    (between : S) × ClosesEach (record w { new = between }) backings devices × ClosesBacking (record w { old = between }) backing device

-- the names of backing devices
abbrev pub names_in : List LeafRecord → List (List ℕ)
names_in leaves = map (λ leaf. leaf.name) leaves

-- ---- in terms of the opener, before and after its calls, and the program's arguments

-- the device of a binding is opened next to some files, and its file is one of them then
abbrev pub Backs : {S D : Type 0} → Opener S D → (D → Device) → S → S → Vec FileUse Global → Vec FileUse Global → Backing → D → Type 0
Backs relations state old new files files' backing = λ device. OpensBacking (calls relations state old new) files.items (backing_record backing) device files'.items

-- so is that of one that is known
abbrev pub BacksAs : {S D : Type 0} → Opener S D → (D → Device) → S → S → Vec FileUse Global → Vec FileUse Global → BackingRecord → D → Type 0
BacksAs relations state old new files files' backing = λ device. OpensBacking (calls relations state old new) files.items backing device files'.items

-- the backing devices of the bindings, and their devices
abbrev pub BindsAll : {S D : Type 0} → Opener S D → (D → Device) → S → S → List FileUse → List Binding → OpenLeaves D → Type 0
BindsAll relations state old new files bindings =
    λ over. AreBound (calls relations state old new) files (map binding_record bindings) over.leaves.items over.devices.items

-- the device of a binding is closed
abbrev pub ClosesBy : {S D : Type 0} → Opener S D → (D → Device) → S → S → Backing → D → Type 0
ClosesBy relations state old new backing device = ClosesBacking (calls relations state old new) (backing_record backing) device

-- the devices of the bindings are closed
abbrev pub ClosesAll : {S D : Type 0} → Opener S D → (D → Device) → S → S → List Binding → List D → Type 0
ClosesAll relations state old new bindings devices = ClosesEach (calls relations state old new) (backings_of (map binding_record bindings)) devices
