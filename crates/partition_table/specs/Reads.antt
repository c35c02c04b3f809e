-- Sectors of a disk that are read from a device.
use Rattle.std.specs.Prelude.{◌≡◌, ℕ, ◌+◌, ◌*◌, ◌≤◌, Bool, true, false, IsTrue, List, length}
use Rattle.std.specs.List.{concat}
use Rattle.allocation.specs.Refusal.{IsOutOfMemory}
use Rattle.block_device.specs.Device.{Device, HasFailed, IsSameDevice, run_of}
use Rattle.partition_table.specs.declared.read_fault.ReadFault.{ReadFault}
use Rattle.partition_table.specs.declared.read_fault.ReadFault.TheVariants.{Device as DeviceFailed, NoMemory, Table}
use Rattle.partition_table.specs.declared.sector_size.Disk.{Disk}
use Rattle.partition_table.specs.Disks.{unit_of}

-- the device was only read, at most n of its sectors in all; its failures only grow, and don't if it never fails
pub record IsReadAtMost (old : Device) (n : ℕ) (new : Device) : Type 0 where
  pub same : IsSameDevice old new
  pub reads : new.reads ≤ old.reads + n
  pub writes : new.writes ≡ old.writes
  pub image : IsTrue old.steady → new.image ≡ old.image
  pub more : old.failures ≤ new.failures
  pub sure : IsTrue old.never_fails → new.failures ≡ old.failures

-- `count` sectors of the disk as they were read; from a steady device, the sectors stored there
pub record AreSectorsRead (device : Device) (disk : Disk) (first count : ℕ) (bytes : List ℕ) : Type 0 where
  pub size : length bytes ≡ 512 * (count * unit_of disk.size)
  pub stands : IsTrue device.steady → bytes ≡ concat (run_of device.image (first * unit_of disk.size) (count * unit_of disk.size))

-- a call failed, and the device isn't one that never fails
abbrev pub HasFailedCall : Device → Device → Type 0
HasFailedCall old new = HasFailed old new × (IsTrue old.never_fails → ⊥)

-- why n sectors of 512 bytes weren't read: the device call failed, or the allocation of at most their bytes failed
abbrev pub IsUnread : Device → Device → ℕ → ReadFault → Type 0
IsUnread old new n DeviceFailed = HasFailedCall old new
IsUnread old new n NoMemory = (new.failures ≡ old.failures) × IsOutOfMemory (512 * n)
IsUnread old new n (Table fault) = ⊥

-- the copy wasn't read: the device call or an allocation failed
abbrev pub is_unread : ReadFault → Bool
is_unread DeviceFailed = true
is_unread NoMemory = true
is_unread (Table fault) = false
