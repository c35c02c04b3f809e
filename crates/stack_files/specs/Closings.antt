-- The state in which a command closes its images.
use Rattle.std.specs.Prelude.{◌≡◌, List, map, Result, Ok, Err}
use Rattle.block_device.specs.Device.{Device, synced}
use Rattle.command_line.specs.Bindings.{BindingRecord, binding_record}
use Rattle.command_line.specs.declared.bindings.Binding.{Binding}
use Rattle.image_files.specs.Opener.{Calls, Opener, calls}
use Rattle.stack_meaning.specs.declared.fault.IoFault.{IoFault}
use Rattle.stack_engine.specs.Syncs.{FailsToSync}
use Rattle.stack_files.specs.Bindings.{ClosesEach, backings_of}

-- the images of the bindings are closed, in the state of these backing devices
pub record IsGivenBack {S D : Type 0} (w : Calls S D) (bindings : List BindingRecord) (leaves : List Device) : Type 0 where
  pub devices : List D
  pub are : map w.state devices ≡ leaves
  pub closed : ClosesEach w (backings_of bindings) devices

-- what was written to the backing devices is synced, or the sync of one of them failed
abbrev pub AreSynced : List Device → Result Unit IoFault → List Device → Type 0
AreSynced leaves (Ok done) leaves' = leaves' ≡ map synced leaves
AreSynced leaves (Err fault) leaves' = FailsToSync leaves leaves' fault

-- the images are closed after that
pub record GivesBack {S D : Type 0} (w : Calls S D) (bindings : List BindingRecord) (leaves : List Device) (outcome : Result Unit IoFault) : Type 0 where
  pub leaves' : List Device
  pub are_synced : AreSynced leaves outcome leaves'
  pub back : IsGivenBack w bindings leaves'

-- ---- in terms of the opener, before and after its calls, and the program's arguments

-- the images of the bindings are closed, in the state of these backing devices
abbrev pub GivesStackBack : {S D : Type 0} → Opener S D → (D → Device) → S → S → List Binding → List Device → Type 0
GivesStackBack relations state old new bindings leaves = IsGivenBack (calls relations state old new) (map binding_record bindings) leaves

-- what was written to them is synced before, or a sync failed
abbrev pub SyncsAndGivesBack : {S D : Type 0} → Opener S D → (D → Device) → S → S → List Binding → List Device → Result Unit IoFault → Type 0
SyncsAndGivesBack relations state old new bindings leaves outcome = GivesBack (calls relations state old new) (map binding_record bindings) leaves outcome
