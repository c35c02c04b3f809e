-- A table with sectors of 4,096 bytes isn't taken for one with sectors of 512 bytes: where its headers would be are zeros.
use Rattle.std.proofs.Common.{◌≡◌, ◌∙◌, ◌-◌, ◌*◌, ◌/◌, ℕ, IsTrue, List, [], ◌++◌, Option, None, Some, ap, append-nil, append_assoc, arith, inl, inr, length, refl, replicate, subst, sym}
use Rattle.std.specs.List.{concat}
use Rattle.std.proofs.lemmas.List.{length-append, length-replicate, replicate-append-replicate, take_all}
use Rattle.block_device.specs.Device.{Device, run_of}
use Rattle.partition_table.specs.declared.partition.Partition.{Partition}
use Rattle.partition_table.specs.declared.sector_size.Disk.{Disk}
use Rattle.partition_table.specs.declared.sector_size.SectorSize.{SectorSize}
use Rattle.partition_table.specs.declared.sector_size.SectorSize.TheVariants.{Bytes4096, Bytes512}
use Rattle.partition_table.specs.declared.table.PartitionTable.{PartitionTable}
use Rattle.partition_table.specs.declared.table_fault.TableFault.{TableFault}
use Rattle.partition_table.specs.declared.table_fault.TableFault.TheVariants.{Signature}
use Rattle.partition_table.specs.Copies.{IsCopyRead, array_of, copy_fault}
use Rattle.partition_table.specs.Crc.{crc32}
use Rattle.partition_table.specs.Disks.{disk_of, unit_of}
use Rattle.partition_table.specs.Headers.{header_fault, table_header}
use Rattle.partition_table.specs.Partitions.{array_fault, or_fault}
use Rattle.partition_table.specs.Reads.{IsReadAtMost}
use Rattle.partition_table.specs.Tables.{AreFound, IsEitherTable, IsTable}
use Rattle.disk_layout.specs.declared.header.TableHeader.{TableHeader}
use Rattle.disk_layout.specs.Ends.{back_bytes, back_sector, backup_header, front_bytes, primary_header}
use Rattle.disk_layout.specs.Entries.{entries_array}
use Rattle.disk_layout.specs.Headers.{header_bytes, header_sector}
use Rattle.disk_layout.specs.Mbrs.{mbr_bytes, mbr_sector, protected_sectors, protective_record}
use Rattle.disk_layout.specs.Numbers.{bytes32}
use Rattle.disk_layout.specs.Written.{HoldsTable, IsReadBack, table_sectors}
use Rattle.disk_layout.proofs.ArrayLemmas.{length-array}
use Rattle.disk_layout.proofs.HeaderLemmas.{length-header, sector-is}
use Rattle.disk_layout.proofs.HeldLemmas.{held-part}
use Rattle.disk_layout.proofs.ReadBackLemmas.{read-back}

abbrev zeros : List ℕ
zeros = replicate 512 0

zero-faulty : (disk : Disk) (sector : ℕ) → header_fault disk sector zeros ≡ Some Signature
unfolding header_fault
zero-faulty disk sector = refl

copy-faulty : (disk : Disk) (sector : ℕ) (header array : List ℕ) → header ≡ zeros → copy_fault disk sector header array ≡ Some Signature
copy-faulty disk sector header array is =
    ap (λ (f : Option TableFault). or_fault f (array_fault (table_header header) (array_of header array))) (ap (header_fault disk sector) is ∙ zero-faulty disk sector)

length-mbr_bytes : (n : ℕ) → length (mbr_bytes n) ≡ 512
unfolding mbr_bytes protective_record bytes32
length-mbr_bytes n = refl

mbr-split : (old : Device) → mbr_sector (disk_of old Bytes4096) ≡ mbr_bytes (protected_sectors (disk_of old Bytes4096)) ++ (zeros ++ replicate 3072 0)
unfolding mbr_sector
mbr-split old =
    let text = mbr_bytes (protected_sectors (disk_of old Bytes4096)) in
    ap (λ (l : List ℕ). l ++ replicate (4096 - length text) 0) (take_all 4096 text (omega (arith, length-mbr_bytes (protected_sectors (disk_of old Bytes4096)))))
    ∙ ap (λ (n : ℕ). text ++ replicate (4096 - n) 0) (length-mbr_bytes (protected_sectors (disk_of old Bytes4096)))
    ∙ ap (λ (l : List ℕ). text ++ l) (sym (replicate-append-replicate {A = ℕ} 512 3072 0))

module _ (old : Device) (disk_id : List ℕ) (ps : List Partition) (t : HoldsTable old (disk_of old Bytes4096) disk_id ps) where
  abbrev disk : Disk
  disk = disk_of old Bytes4096

  abbrev primary : TableHeader
  primary = primary_header disk disk_id (crc32 (entries_array ps))

  abbrev backup : TableHeader
  backup = backup_header disk disk_id (crc32 (entries_array ps))

  first-zeros : concat (run_of old.image (1 * 1) (1 * 1)) ≡ zeros
  unfolding front_bytes
  first-zeros =
      let text = mbr_bytes (protected_sectors disk) in
      let rest = header_sector Bytes4096 primary ++ entries_array ps in
      let split = ap (λ (l : List ℕ). l ++ rest) (mbr-split old) ∙ append_assoc text (zeros ++ replicate 3072 0) rest ∙ ap (λ (l : List ℕ). text ++ l) (append_assoc zeros (replicate 3072 0) rest) in
      held-part old.image 0 (mbr_sector disk ++ rest) t.front text zeros (replicate 3072 0 ++ rest) 1 1 1 split (length-mbr_bytes (protected_sectors disk)) (length-replicate {A = ℕ} 512 0) refl

  last-zeros : 8 * disk.sectors ≡ old.size → concat (run_of old.image ((old.size / 1 - 1) * 1) (1 * 1)) ≡ zeros
  unfolding back_bytes
  last-zeros whole =
      let entries = entries_array ps in
      let text = header_bytes backup (crc32 (header_bytes backup 0)) in
      let before = text ++ replicate 3492 0 in
      let sector = sector-is Bytes4096 backup ∙ ap (λ (l : List ℕ). text ++ l) (sym (replicate-append-replicate {A = ℕ} 3492 512 0)) ∙ sym (append_assoc text (replicate 3492 0) zeros) in
      let split = ap (λ (l : List ℕ). entries ++ l) sector ∙ sym (append_assoc entries before zeros) ∙ ap (λ (l : List ℕ). (entries ++ before) ++ l) (sym (append-nil zeros)) in
      let size : length (entries ++ before) ≡ 512 * 39 = omega (
        arith,
        length-append entries before,
        length-append text (replicate 3492 0),
        length-header backup (crc32 (header_bytes backup 0)),
        length-replicate {A = ℕ} 3492 0,
        length-array (table_sectors disk) (disk.sectors - table_sectors disk) ps t.made.count t.made.order,
      ) in
      held-part old.image (back_sector disk) (entries ++ header_sector Bytes4096 backup) t.back (entries ++ before) zeros [] 39 ((old.size / 1 - 1) * 1) 1 split size (length-replicate {A = ℕ} 512 0)
      (omega (arith, whole, t.made.room))

  no-small : (new : Device) (table : PartitionTable) → 8 * disk.sectors ≡ old.size → IsTable old new Bytes512 table → ⊥
  no-small new table whole r = by-copies r.copies.copies
    where
      first-bad : (header array : List ℕ) → IsCopyRead old (disk_of old Bytes512) 1 header array → copy_fault (disk_of old Bytes512) 1 header array ≡ None → ⊥
      first-bad header array read good =
          let is = sym (copy-faulty (disk_of old Bytes512) 1 header array (read.first.stands t.steady ∙ first-zeros)) ∙ good in
          cc

      second-bad : (header array : List ℕ) → IsCopyRead r.copies.mid (disk_of old Bytes512) (old.size / 1 - 1) header array → copy_fault (disk_of old Bytes512) (old.size / 1 - 1) header array ≡ None → ⊥
      second-bad header array read good =
          let still : IsTrue r.copies.mid.steady = subst IsTrue (sym r.copies.first.same.steady) t.steady in
          let here = read.first.stands still ∙ ap (λ (i : List (List ℕ)). concat (run_of i ((old.size / 1 - 1) * 1) (1 * 1))) (r.copies.first.image t.steady) ∙ last-zeros whole in
          let is = sym (copy-faulty (disk_of old Bytes512) (old.size / 1 - 1) header array here) ∙ good in
          cc

      by-copies : AreFound old r.copies.mid r.last (disk_of old Bytes512) r.found → ⊥
      by-copies (inl both) = first-bad both.first.header both.first.array both.first.read both.first.good
      by-copies (inr (inl one)) = first-bad one.good.header one.good.array one.good.read one.good.good
      by-copies (inr (inr one)) = second-bad one.good.header one.good.array one.good.read one.good.good

-- a device that was only read holds the table still
held-still : (old new : Device) (size : SectorSize) (n : ℕ) (disk_id : List ℕ) (ps : List Partition) → IsReadAtMost old n new → HoldsTable old (disk_of old size) disk_id ps → HoldsTable new (disk_of new size) disk_id ps
held-still old new size n disk_id ps read t =
    let front = front_bytes (disk_of old size) disk_id ps in
    let back = back_bytes (disk_of old size) disk_id ps in
    let image = read.image t.steady in
    subst (λ (k : ℕ). HoldsTable new (record { size = size; sectors = k / unit_of size }) disk_id ps) (sym read.same.size)
    (record {
      steady = subst IsTrue (sym read.same.steady) t.steady;
      made = t.made;
      front = ap (λ (i : List (List ℕ)). run_of i 0 (length front / 512)) image ∙ t.front;
      back = ap (λ (i : List (List ℕ)). run_of i (back_sector (disk_of old size)) (length back / 512)) image ∙ t.back;
    })

pub large-back : (old new : Device) (disk_id : List ℕ) (ps : List Partition) → HoldsTable old (disk_of old Bytes4096) disk_id ps → 8 * (disk_of old Bytes4096).sectors ≡ old.size
    → (table : PartitionTable) → IsEitherTable old new table → IsReadBack ps table
large-back old new disk_id ps t whole table (inl small) = absurd (no-small old disk_id ps t new table whole small)
large-back old new disk_id ps t whole table (inr large) = read-back large.mid new Bytes4096 disk_id ps (held-still old large.mid Bytes4096 _ disk_id ps large.small.read t) table large.large
