-- The table that is found on a device that holds one, and the device afterwards.
use Rattle.std.proofs.Common.{◌≡◌, ◌∙◌, ◌||◌, ℕ, Bool, true, false, IsTrue, List, ap, inl, inr, refl, subst, sym}
use Rattle.block_device.specs.Device.{Device}
use Rattle.partition_table.specs.declared.partition.Partition.{Partition}
use Rattle.partition_table.specs.declared.sector_size.SectorSize.{SectorSize}
use Rattle.partition_table.specs.declared.sector_size.SectorSize.TheVariants.{Bytes4096, Bytes512}
use Rattle.partition_table.specs.declared.table.NoTable.{NoTable}
use Rattle.partition_table.specs.declared.table.NoTable.TheVariants.{Damaged, TooSmall}
use Rattle.partition_table.specs.declared.table.PartitionTable.{PartitionTable}
use Rattle.partition_table.specs.Disks.{disk_of}
use Rattle.partition_table.specs.Reads.{IsReadAtMost, is_unread}
use Rattle.partition_table.specs.Tables.{IsSizedTable, IsTable, may_hide_table}
use Rattle.verity_format.specs.Blocks.{IsOnlyRead}
use Rattle.disk_layout.specs.Laws.{WrittenTableIsRead}
use Rattle.disk_layout.specs.Written.{HoldsTable, IsUnreadTable}

-- a device that was only read
pub record Keeps (old new : Device) : Type 0 where
  pub steady : IsTrue old.steady → IsTrue new.steady
  pub image : IsTrue old.steady → new.image ≡ old.image

keeps-most : (old new : Device) (n : ℕ) → IsReadAtMost old n new → Keeps old new
keeps-most old new n read = record { steady = λ steady. subst IsTrue (sym read.same.steady) steady; image = read.image }

pub keeps-only : (old new : Device) → IsOnlyRead old new → Keeps old new
keeps-only old new read = record { steady = λ steady. subst IsTrue (sym read.same.steady) steady; image = read.image }

pub keeps-then : (a b c : Device) → Keeps a b → Keeps b c → Keeps a c
keeps-then a b c first second = record { steady = λ steady. second.steady (first.steady steady); image = λ steady. second.image (first.steady steady) ∙ first.image steady }

table-keeps : (old new : Device) (size : SectorSize) (table : PartitionTable) → IsTable old new size table → Keeps old new
table-keeps old new size table t =
    keeps-then old t.copies.mid new (keeps-most old t.copies.mid _ t.copies.first) (keeps-then t.copies.mid t.last new (keeps-most t.copies.mid t.last _ t.copies.second) (keeps-most t.last new 8 t.mbr_read))

pub sized-keeps : (old new : Device) (size : SectorSize) (table : PartitionTable) → IsSizedTable old new size table → Keeps old new
sized-keeps old new Bytes4096 table t = table-keeps old new Bytes4096 table t
sized-keeps old new Bytes512 table (inl t) = table-keeps old new Bytes512 table t
sized-keeps old new Bytes512 table (inr large) = keeps-then old large.mid new (keeps-most old large.mid _ large.small.read) (table-keeps large.mid new Bytes4096 table large.large)

unread-hides : (fault : NoTable) → IsUnreadTable fault → may_hide_table fault ≡ true
unread-hides TooSmall unread = absurd unread
unread-hides (Damaged primary backup) unread = ap (λ (b : Bool). b || is_unread backup) unread.0

-- the table has that sector size
pub sized-is : WrittenTableIsRead → (old new : Device) (size : SectorSize) (id : List ℕ) (partitions : List Partition) (table : PartitionTable) → HoldsTable old (disk_of old size) id partitions → IsSizedTable old new size table
    → table.size ≡ size
sized-is law old new Bytes4096 id partitions table held t = t.size_is
sized-is law old new Bytes512 id partitions table held (inl t) = t.size_is
sized-is law old new Bytes512 id partitions table held (inr large) =
    let hides = unread-hides large.small.fault ((law old large.mid Bytes512 id partitions held).1 large.small.fault large.small.none) in
    let both : true ≡ false = sym hides ∙ large.sure in
    cc
