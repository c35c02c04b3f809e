-- The partition with the signature of a root hash (Discoverable Partitions Specification): a JSON object. systemd-repart writes the
-- digits of the root hash after its first 13 characters, `{"rootHash":"`.
use Rattle.std.specs.Prelude.{◌≡◌, ◌⊎◌, ℕ, ◌≤◌, nat_lt, ◌&&◌, Bool, false, IsTrue, List, [], take, drop, codes, find, Option, Some, None}
use Rattle.std.specs.List.{concat}
use Rattle.std.specs.Str.{bytes_eq}
use Rattle.hex.specs.Hex.{encode_lower}
use Rattle.block_device.specs.Device.{Device, HasFailed, run_of}
use Rattle.device_adapters.specs.declared.part.Part.{Part}
use Rattle.image_files.specs.Partitions.{part_of}
use Rattle.partition_table.specs.declared.partition.Partition.{Partition}
use Rattle.partition_table.specs.declared.sector_size.SectorSize.{SectorSize}
use Rattle.verity_format.specs.Blocks.{IsOnlyRead}
use Rattle.partition_commands.specs.Kinds.{is_signature_type}
use Rattle.partition_commands.specs.Parts.{is_within}
use Rattle.stack_files.specs.DiskEntries.{entry_text, linear_line}

-- a part of that type may hold a signature: it has a sector, and ends on the device
unfoldable pub may_hold : Device → Part → List ℕ → Bool
may_hold device part kind = is_signature_type kind && (nat_lt 0 part.count && is_within device part)

-- a sector begins as the signature of the root hash does
unfoldable pub names_root : List ℕ → List ℕ → Bool
names_root root sector = bytes_eq (take 64 (drop 13 sector)) (encode_lower root)

-- the first sector of a partition, as the device stores it
abbrev pub first_sector : Device → Part → List ℕ
first_sector device part = concat (run_of device.image part.first 1)

-- the partition holds the signature of the root hash
unfoldable pub is_signature : Device → SectorSize → List ℕ → Partition → Bool
is_signature device size root p = may_hold device (part_of size p) p.kind && names_root root (first_sector device (part_of size p))

-- over a steady device the value is this one, unless a call failed
abbrev pub IsReadOff : {A : Type 0} → Device → Device → A → A → Type 0
IsReadOff old new wanted value = IsTrue old.steady → HasFailed old new ⊎ (value ≡ wanted)

-- a value was read off a device, which was only read
pub record ReadsOff {A : Type 0} (old new : Device) (wanted value : A) : Type 0 where
  pub read : IsOnlyRead old new
  pub counted : old.failures ≤ new.failures
  pub is : IsReadOff old new wanted value

-- the partition with the signature was sought: the first one that holds it
abbrev pub SeeksSignature : Device → Device → SectorSize → List ℕ → List Partition → Option Partition → Type 0
SeeksSignature old new size root partitions found = ReadsOff old new (find (is_signature old size root) partitions) found

-- the entry of that partition, if there is one
abbrev pub signature_entry : SectorSize → Option Partition → List ℕ
signature_entry size None = []
signature_entry size (Some p) = entry_text false (codes "signature") (linear_line (part_of size p))

-- ---- as a call sees them

abbrev pub Seeks : {D : Type 0} → (D → Device) → D → D → SectorSize → List ℕ → List Partition → Option Partition → Type 0
Seeks state old new size root partitions found = SeeksSignature (state old) (state new) size root partitions found

abbrev pub Holds : {D : Type 0} → (D → Device) → D → D → SectorSize → List ℕ → Partition → Bool → Type 0
Holds state old new size root p says = ReadsOff (state old) (state new) (is_signature (state old) size root p) says
