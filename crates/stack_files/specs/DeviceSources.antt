-- The device that a command reads: one of a stack file, or a disk without one.
use Rattle.std.specs.Prelude.{ℕ, List}
use Rattle.block_device.specs.Device.{Device}
use Rattle.image_files.specs.declared.file_use.FileUse.{FileUse}
use Rattle.image_files.specs.declared.images.OpenImage.{OpenImage}
use Rattle.image_files.specs.Opener.{Calls, Opener, calls}
use Rattle.stack_engine.specs.Stacks.{StackRecord}
use Rattle.stack_rules.specs.declared.lower.DevId.{DevId}
use Rattle.stack_files.specs.declared.device_source.DeviceSource.{DeviceSource}
use Rattle.stack_files.specs.declared.device_source.DeviceSource.TheVariants.{Disk, Stack}
use Rattle.stack_files.specs.declared.stack_fault.StackFault.{StackFault}
use Rattle.stack_files.specs.Disks.{DiskWords, FailsToFindDisk, FailsToFindDiskOutput, FindsDisk, FindsDiskOutput, disk_words}
use Rattle.stack_files.specs.NamedDevices.{DevicePlace, DeviceWords, FailsToFindApart, FailsToFindOutput, FindsApart, FindsOutput, device_place, words_for}

pub data SourceWords : Type 0 where
  -- a device of a stack file
  of_stack : DeviceWords → SourceWords
  -- a disk
  of_disk : DiskWords → SourceWords

abbrev pub source_words : DeviceSource → SourceWords
source_words (Stack file device) = of_stack (words_for file device)
source_words (Disk disk) = of_disk (disk_words disk)

-- it was opened next to the file in use, and there is the device
abbrev pub FindsSource : {S D : Type 0} → Calls S D → FileUse → SourceWords → DevicePlace → Type 0
FindsSource w used (of_stack words) at = FindsApart w used words at
FindsSource w used (of_disk words) at = FindsDisk w used words at

abbrev pub FailsToFindSource : {S D : Type 0} → Calls S D → FileUse → SourceWords → StackFault → Type 0
FailsToFindSource w used (of_stack words) fault = FailsToFindApart w used words fault
FailsToFindSource w used (of_disk words) fault = FailsToFindDisk w used words fault

-- and so is the image to copy to
abbrev pub FindsSourceOutput : {S D : Type 0} → Calls S D → FileUse → SourceWords → List ℕ → DevicePlace → OpenImage D → Type 0
FindsSourceOutput w used (of_stack words) out at image = FindsOutput w used words out at image
FindsSourceOutput w used (of_disk words) out at image = FindsDiskOutput w used words out at image

abbrev pub FailsToFindSourceOutput : {S D : Type 0} → Calls S D → FileUse → SourceWords → List ℕ → StackFault → Type 0
FailsToFindSourceOutput w used (of_stack words) out fault = FailsToFindOutput w used words out fault
FailsToFindSourceOutput w used (of_disk words) out fault = FailsToFindDiskOutput w used words out fault

-- ---- in terms of the opener, before and after its calls, and the program's arguments

-- the device that is read
abbrev pub FindsSourceBy : {S D : Type 0} → Opener S D → (D → Device) → S → S → FileUse → DeviceSource → StackRecord × DevId → Type 0
FindsSourceBy relations state old new used source = λ found. FindsSource (calls relations state old new) used (source_words source) (device_place found.0 found.1.0)

-- there is none
abbrev pub FailsToFindSourceBy : {S D : Type 0} → Opener S D → (D → Device) → S → S → FileUse → DeviceSource → StackFault → Type 0
FailsToFindSourceBy relations state old new used source = FailsToFindSource (calls relations state old new) used (source_words source)

-- the device, and the image to copy to
abbrev pub FindsSourceTo : {S D : Type 0} → Opener S D → (D → Device) → S → S → FileUse → DeviceSource → List ℕ → StackRecord × DevId × OpenImage D → Type 0
FindsSourceTo relations state old new used source out =
    λ found. FindsSourceOutput (calls relations state old new) used (source_words source) out (device_place found.0 found.1.0) found.2

-- one of them is missing
abbrev pub LacksSourceTo : {S D : Type 0} → Opener S D → (D → Device) → S → S → FileUse → DeviceSource → List ℕ → StackFault → Type 0
LacksSourceTo relations state old new used source out = FailsToFindSourceOutput (calls relations state old new) used (source_words source) out
