-- The partitions over the parts of a disk are in order.
use Rattle.std.proofs.Common.{◌≡◌, ◌+◌, ◌-◌, ◌*◌, ◌/◌, ◌^◌, ◌≤◌, ◌<◌, ℕ, List, [], ◌∷◌, arith, refl}
use Rattle.block_device.specs.Device.{capped}
use Rattle.device_adapters.specs.declared.part.Part.{Part}
use Rattle.partition_table.specs.declared.sector_size.Disk.{Disk}
use Rattle.partition_table.specs.declared.sector_size.SectorSize.{SectorSize}
use Rattle.partition_table.specs.declared.sector_size.SectorSize.TheVariants.{Bytes4096, Bytes512}
use Rattle.partition_table.specs.Disks.{unit_of}
use Rattle.disk_layout.specs.Ends.{entries_sectors}
use Rattle.disk_layout.specs.Laws.{three_partitions, two_partitions}
use Rattle.disk_layout.specs.Parts.{aligned, disk_parts, end_of}
use Rattle.disk_layout.specs.Usable.{AreUsable, HasParts, IsName, PartitionName, partition_named}
use Rattle.disk_layout.specs.Written.{IsField, IsMadeTable, IsStatable, table_sectors}

-- a sector that is no larger than disks are isn't beyond what can be counted
aligned-up : (n : ℕ) → aligned n ≤ 2 ^ 55 → (n ≤ aligned n) × (n ≤ 2 ^ 55)
aligned-up n few = let up : n ≤ aligned n = omega (arith, few) in (up, omega (arith, up, few))

uncapped : (n : ℕ) → capped n ≤ 2 ^ 55 → capped n ≡ n
uncapped n few = omega (arith, few)

-- where a partition over a part begins and ends
pub record IsOver (size : SectorSize) (from first last end : ℕ) : Type 0 where
  pub begins : from ≤ first
  pub some : first ≤ last
  pub ends : (last + 1) * unit_of size ≤ end
  pub few : last < 2 ^ 64

over : (size : SectorSize) (from n : ℕ) (part : Part) → from * unit_of size ≤ n → n ≤ part.first → unit_of size ≤ part.count → end_of part ≤ 2 ^ 55
    → IsOver size from (part.first / unit_of size) (capped (part.first + part.count) / unit_of size - 1) (end_of part)
over Bytes512 from n part begins after some few =
    let is = uncapped (part.first + part.count) few in
    record { begins = omega (arith, begins, after); some = omega (arith, is, some); ends = omega (arith, is, some); few = omega (arith, few) }
over Bytes4096 from n part begins after some few =
    let is = uncapped (part.first + part.count) few in
    record { begins = omega (arith, begins, after); some = omega (arith, is, some); ends = omega (arith, is, some); few = omega (arith, few) }

begins-after : (size : SectorSize) → (2 + entries_sectors size) * unit_of size ≤ 2048
begins-after Bytes512 = omega arith
begins-after Bytes4096 = omega arith

room-of : (size : SectorSize) (sectors : ℕ) → 4096 ≤ sectors * unit_of size → 2 * (2 + entries_sectors size) ≤ sectors
room-of Bytes512 sectors large = omega (arith, large)
room-of Bytes4096 sectors large = omega (arith, large)

few-of : (size : SectorSize) (sectors : ℕ) → sectors * unit_of size ≤ 2 ^ 54 → sectors < 2 ^ 64
few-of Bytes512 sectors few = omega (arith, few)
few-of Bytes4096 sectors few = omega (arith, few)

ends-before : (size : SectorSize) (last end sectors : ℕ) → (last + 1) * unit_of size ≤ end → end + 2048 ≤ sectors * unit_of size → last ≤ sectors - (2 + entries_sectors size)
ends-before Bytes512 last end sectors a b = omega (arith, a, b)
ends-before Bytes4096 last end sectors a b = omega (arith, a, b)

statable : (name : PartitionName) (size : SectorSize) (number : ℕ) (part : Part) → IsName name → capped (part.first + part.count) / unit_of size - 1 < 2 ^ 64
    → IsStatable (partition_named name size number part)
statable name size number part is few = record { kind = is.kind; uuid = is.uuid; label = is.label; last = few; used = is.used }

abbrev last_over : Disk → Part → ℕ
last_over disk part = capped (part.first + part.count) / unit_of disk.size - 1

module _ (disk : Disk) (data_name hash_name : PartitionName) (data_count hash_count parity_count : ℕ) where
  abbrev data_part : Part
  data_part = (disk_parts data_count hash_count parity_count).«data»

  abbrev hash_part : Part
  hash_part = (disk_parts data_count hash_count parity_count).hash

  abbrev parity_part : Part
  parity_part = (disk_parts data_count hash_count parity_count).parity

  module _ (has : HasParts disk (disk_parts data_count hash_count parity_count)) where
    parity-few : aligned (end_of parity_part) + 2048 ≤ disk.sectors * unit_of disk.size
    parity-few = omega (arith, has.sectors, has.few)

    parity-up : (end_of parity_part ≤ aligned (end_of parity_part)) × (end_of parity_part ≤ 2 ^ 55)
    parity-up = aligned-up (end_of parity_part) (omega (arith, parity-few, has.few))

    parity-first : parity_part.first ≤ end_of parity_part
    parity-first = omega (arith, parity-up.0, parity-up.1)

    hash-up : (end_of hash_part ≤ parity_part.first) × (end_of hash_part ≤ 2 ^ 55)
    hash-up = aligned-up (end_of hash_part) (omega (arith, parity-first, parity-up.0, parity-up.1))

    hash-first : hash_part.first ≤ end_of hash_part
    hash-first = omega (arith, hash-up.0, hash-up.1)

    data-up : (end_of data_part ≤ hash_part.first) × (end_of data_part ≤ 2 ^ 55)
    data-up = aligned-up (end_of data_part) (omega (arith, hash-first, hash-up.0, hash-up.1))

    data-over : IsOver disk.size (table_sectors disk) (data_part.first / unit_of disk.size) (last_over disk data_part) (end_of data_part)
    data-over = over disk.size (table_sectors disk) 2048 data_part (begins-after disk.size) (omega arith) has.data_count data-up.1

    hash-over : IsOver disk.size (last_over disk data_part + 1) (hash_part.first / unit_of disk.size) (last_over disk hash_part) (end_of hash_part)
    hash-over = over disk.size (last_over disk data_part + 1) (end_of data_part) hash_part data-over.ends data-up.0 has.hash_count hash-up.1

    data-before : last_over disk data_part ≤ disk.sectors - table_sectors disk
    data-before = ends-before disk.size (last_over disk data_part) (end_of data_part) disk.sectors data-over.ends (omega (arith, data-up.0, data-up.1, hash-first, hash-up.0, hash-up.1, parity-first, parity-up.0, parity-up.1, parity-few))

    hash-before : last_over disk hash_part ≤ disk.sectors - table_sectors disk
    hash-before = ends-before disk.size (last_over disk hash_part) (end_of hash_part) disk.sectors hash-over.ends (omega (arith, hash-up.0, hash-up.1, parity-first, parity-up.0, parity-up.1, parity-few))

    module _ (data_is : IsName data_name) (hash_is : IsName hash_name) where
      two-usable : AreUsable disk (partition_named data_name disk.size 1 data_part ∷ partition_named hash_name disk.size 2 hash_part ∷ [])
      two-usable = (
        refl,
        data-over.begins,
        data-over.some,
        data-before,
        statable data_name disk.size 1 data_part data_is data-over.few,
        (refl, hash-over.begins, hash-over.some, hash-before, statable hash_name disk.size 2 hash_part hash_is hash-over.few, tt),
      )

      all-usable : (parity_name : PartitionName) → IsName parity_name → unit_of disk.size ≤ parity_part.count
          → AreUsable disk (partition_named data_name disk.size 1 data_part ∷ partition_named hash_name disk.size 2 hash_part ∷ partition_named parity_name disk.size 3 parity_part ∷ [])
      all-usable parity_name parity_is some =
          let parity-over = over disk.size (last_over disk hash_part + 1) (end_of hash_part) parity_part hash-over.ends hash-up.0 some parity-up.1 in
          let parity-before = ends-before disk.size (last_over disk parity_part) (end_of parity_part) disk.sectors parity-over.ends (omega (arith, parity-up.0, parity-up.1, parity-few)) in (
            refl,
            data-over.begins,
            data-over.some,
            data-before,
            statable data_name disk.size 1 data_part data_is data-over.few,
            (
              refl,
              hash-over.begins,
              hash-over.some,
              hash-before,
              statable hash_name disk.size 2 hash_part hash_is hash-over.few,
              (refl, parity-over.begins, parity-over.some, parity-before, statable parity_name disk.size 3 parity_part parity_is parity-over.few, tt),
            ),
          )

      module _ (disk_id : List ℕ) (id : IsField 16 disk_id) where
        large : 4096 ≤ disk.sectors * unit_of disk.size
        large = omega (arith, data-up.0, hash-first, hash-up.0, parity-first, parity-up.0, parity-few)

        pub two-made : IsMadeTable disk disk_id (two_partitions (disk_parts data_count hash_count parity_count) disk.size data_name hash_name)
        two-made = record {
          room = room-of disk.size disk.sectors large;
          few = few-of disk.size disk.sectors has.few;
          id = id;
          count = omega arith;
          order = two-usable;
        }

        pub three-made : (parity_name : PartitionName) → IsName parity_name → unit_of disk.size ≤ parity_part.count
            → IsMadeTable disk disk_id (three_partitions (disk_parts data_count hash_count parity_count) disk.size data_name hash_name parity_name)
        three-made parity_name parity_is some = record {
          room = room-of disk.size disk.sectors large;
          few = few-of disk.size disk.sectors has.few;
          id = id;
          count = omega arith;
          order = all-usable parity_name parity_is some;
        }
