-- What is read of a device that holds a table.
use Rattle.std.proofs.Common.{◌≡◌, ◌∙◌, ◌==◌, ℕ, ◌||◌, Bool, true, true≢false, IsTrue, List, ap, arith, inl, inr, subst, sym, ◌-◌, ◌<◌, ◌*◌}
use Rattle.std.specs.List.{concat}
use Rattle.std.specs.Str.{bytes_eq}
use Rattle.std.proofs.lemmas.Slice.Eq.{bytes_eq-Decides}
use Rattle.block_device.specs.Device.{Device, run_of}
use Rattle.partition_table.specs.declared.partition.Partition.{Partition}
use Rattle.partition_table.specs.declared.sector_size.Disk.{Disk}
use Rattle.partition_table.specs.declared.sector_size.SectorSize.{SectorSize}
use Rattle.partition_table.specs.declared.sector_size.SectorSize.TheVariants.{Bytes4096, Bytes512}
use Rattle.partition_table.specs.declared.table.NoTable.{NoTable}
use Rattle.partition_table.specs.declared.table.NoTable.TheVariants.{Damaged, TooSmall}
use Rattle.partition_table.specs.declared.table.PartitionTable.{PartitionTable}
use Rattle.partition_table.specs.Copies.{are_equal, are_like}
use Rattle.partition_table.specs.Crc.{crc32}
use Rattle.partition_table.specs.Disks.{disk_of, unit_of}
use Rattle.partition_table.specs.Headers.{table_header}
use Rattle.partition_table.specs.Mbrs.{mbr_of}
use Rattle.partition_table.specs.Reads.{IsReadAtMost, is_unread}
use Rattle.partition_table.specs.Tables.{AreFound, IsMbr, IsNoSizedTable, IsNoTable, IsSizedTable, IsTable, backup_sector, common_source, copy_reads, copy_warnings, may_hide_table, no_warnings, primary_sector}
use Rattle.disk_layout.specs.declared.header.TableHeader.{TableHeader}
use Rattle.disk_layout.specs.Ends.{backup_header, primary_header}
use Rattle.disk_layout.specs.Entries.{entries_array}
use Rattle.disk_layout.specs.Headers.{header_sector}
use Rattle.disk_layout.specs.Written.{HoldsTable, IsReadBack, IsReadMbr, IsReadSource, IsUnreadTable}
use Rattle.disk_layout.proofs.CopyLemmas.{IsWrittenCopy, array-read, count-here, first-here, header-is, id-here, last-here, partitions-read, size-here, unread-copy}
use Rattle.disk_layout.proofs.HeaderLemmas.{eq-true}
use Rattle.disk_layout.proofs.HeldLemmas.{backup-copy, mbr-held, primary-copy}
use Rattle.disk_layout.proofs.OrderLemmas.{and-true}
use Rattle.disk_layout.proofs.WarningLemmas.{protective, quiet}

module _ (old new : Device) (size : SectorSize) (disk_id : List ℕ) (ps : List Partition) (t : HoldsTable old (disk_of old size) disk_id ps) where
  abbrev disk : Disk
  disk = disk_of old size

  abbrev primary : TableHeader
  primary = primary_header disk disk_id (crc32 (entries_array ps))

  abbrev backup : TableHeader
  backup = backup_header disk disk_id (crc32 (entries_array ps))

  of_primary : IsWrittenCopy old.image disk primary ps
  of_primary = primary-copy old disk disk_id ps t

  module _ (mid : Device) (same : IsReadAtMost old copy_reads mid) where
    still : IsTrue mid.steady
    still = subst IsTrue (sym same.same.steady) t.steady

    of_backup : IsWrittenCopy mid.image disk backup ps
    of_backup = subst (λ (i : List (List ℕ)). IsWrittenCopy i disk backup ps) (sym (same.image t.steady)) (backup-copy old disk disk_id ps t)

  like : are_like (table_header (header_sector size primary)) (table_header (header_sector size backup)) ≡ true
  like =
      let p = of_primary in
      let b = backup-copy old disk disk_id ps t in
      let one = table_header (header_sector size primary) in
      let two = table_header (header_sector size backup) in
      and-true (one.first_usable == two.first_usable) _ (eq-true _ _ (first-here disk primary ps p.stated p.placed ∙ sym (first-here disk backup ps b.stated b.placed)))
      (and-true (one.last_usable == two.last_usable) _ (eq-true _ _ (last-here disk primary ps p.stated p.placed ∙ sym (last-here disk backup ps b.stated b.placed)))
      (and-true (one.entry_count == two.entry_count) _ (eq-true _ _ (count-here disk primary ps p.stated p.placed ∙ sym (count-here disk backup ps b.stated b.placed)))
      (and-true (one.entry_size == two.entry_size) _ (eq-true _ _ (size-here disk primary ps p.stated p.placed ∙ sym (size-here disk backup ps b.stated b.placed)))
      ((bytes_eq-Decides one.disk_id two.disk_id).1 (id-here disk primary ps p.stated p.placed ∙ sym (id-here disk backup ps b.stated b.placed))))))

  primary-within : disk.sectors - 1 < disk.sectors
  primary-within = omega (arith, t.made.room)

  primary-quiet : copy_warnings disk (backup_sector disk) (table_header (header_sector size primary)) ≡ no_warnings
  primary-quiet = quiet disk primary of_primary.stated primary-within

  backup-within : 1 < disk.sectors
  backup-within = omega (arith, t.made.room)

  backup-quiet : copy_warnings disk primary_sector (table_header (header_sector size backup)) ≡ no_warnings
  backup-quiet = quiet disk backup (backup-copy old disk disk_id ps t).stated backup-within

  module _ (table : PartitionTable) (r : IsTable old new size table) where
    by-mbr : IsMbr r.last new disk table.warnings.mbr → IsReadMbr table.warnings.mbr
    by-mbr (inl read) =
        let now = still r.copies.mid r.copies.first in
        let end : IsTrue r.last.steady = subst IsTrue (sym r.copies.second.same.steady) now in
        let image = r.copies.second.image now ∙ r.copies.first.image t.steady in
        let is = read.read.stands end ∙ ap (λ (i : List (List ℕ)). concat (run_of i (0 * unit_of size) (1 * unit_of size))) image ∙ mbr-held old disk disk_id ps t in
        subst IsReadMbr (sym (read.value ∙ ap mbr_of is ∙ protective disk)) (tt {0})
    by-mbr (inr unread) = subst IsReadMbr (sym unread.0) (tt {0})

    by-copies : AreFound old r.copies.mid r.last disk r.found → IsReadBack ps table
    by-copies (inl both) =
        let mid = r.copies.mid in
        let now = still mid r.copies.first in
        let there = of_backup mid r.copies.first in
        let one = both.first.fields ∙ ap table_header (header-is old t.steady disk primary ps of_primary both.first.header both.first.array both.first.read) in
        let two = both.second.fields ∙ ap table_header (header-is mid now disk backup ps there both.second.header both.second.array both.second.read) in
        let same : bytes_eq both.primary.array.items both.backup.array.items ≡ true =
        (bytes_eq-Decides both.primary.array.items both.backup.array.items).1
        (both.first.entries ∙ array-read old t.steady disk primary ps of_primary both.first.header both.first.array both.first.read
        ∙ sym (both.second.entries ∙ array-read mid now disk backup ps there both.second.header both.second.array both.second.read)) in
        let alike : are_like both.primary.header both.backup.header ≡ true = rw one (rw two like) in
        let equal : are_equal both.primary both.backup ≡ true = and-true (are_like both.primary.header both.backup.header) (bytes_eq both.primary.array.items both.backup.array.items) alike same in
        record {
          entries = rw r.partitions (rw both.partitions (both.first.partitions ∙ partitions-read old t.steady disk primary ps of_primary both.first.header both.first.array both.first.read));
          source = subst IsReadSource (sym (r.source ∙ both.source ∙ ap common_source equal)) (tt {0});
          of_primary = r.of_primary ∙ both.of_primary ∙ rw one primary-quiet;
          of_backup = r.of_backup ∙ both.of_backup ∙ rw two backup-quiet;
          mbr = by-mbr r.mbr;
        }
    by-copies (inr (inl one)) =
        let mid = r.copies.mid in
        let header = one.good.fields ∙ ap table_header (header-is old t.steady disk primary ps of_primary one.good.header one.good.array one.good.read) in
        record {
          entries = rw r.partitions (rw one.partitions (one.good.partitions ∙ partitions-read old t.steady disk primary ps of_primary one.good.header one.good.array one.good.read));
          source = subst IsReadSource (sym (r.source ∙ one.source)) (unread-copy mid (still mid r.copies.first) disk backup ps (of_backup mid r.copies.first) r.last one.fault one.bad);
          of_primary = r.of_primary ∙ one.of_primary ∙ rw header primary-quiet;
          of_backup = r.of_backup ∙ one.of_backup;
          mbr = by-mbr r.mbr;
        }
    by-copies (inr (inr one)) =
        let mid = r.copies.mid in
        let now = still mid r.copies.first in
        let there = of_backup mid r.copies.first in
        let header = one.good.fields ∙ ap table_header (header-is mid now disk backup ps there one.good.header one.good.array one.good.read) in
        record {
          entries = rw r.partitions (rw one.partitions (one.good.partitions ∙ partitions-read mid (still mid r.copies.first) disk backup ps (of_backup mid r.copies.first) one.good.header one.good.array one.good.read));
          source = subst IsReadSource (sym (r.source ∙ one.source)) (unread-copy old t.steady disk primary ps of_primary mid one.fault one.bad);
          of_primary = r.of_primary ∙ one.of_primary;
          of_backup = r.of_backup ∙ one.of_backup ∙ rw header backup-quiet;
          mbr = by-mbr r.mbr;
        }

    pub read-back : IsReadBack ps table
    read-back = by-copies r.copies.copies

  pub unread-table : (fault : NoTable) → IsNoTable old new size fault → IsUnreadTable fault
  unread-table TooSmall few = omega (arith, few, t.made.room)
  unread-table (Damaged primary_fault backup_fault) bad =
      let mid = bad.0 in (
        unread-copy old t.steady disk primary ps of_primary mid primary_fault bad.1.primary,
        unread-copy mid (still mid bad.1.first) disk backup ps (of_backup mid bad.1.first) new backup_fault bad.1.backup,
      )

module _ (old new : Device) (disk_id : List ℕ) (ps : List Partition) where
  -- a table that wasn't read isn't one that lacks
  hidden : (fault : NoTable) → IsUnreadTable fault → may_hide_table fault ≡ true
  hidden TooSmall unread = absurd unread
  hidden (Damaged one two) unread = ap (λ (b : Bool). b || is_unread two) unread.0

  pub found-back : (size : SectorSize) → HoldsTable old (disk_of old size) disk_id ps → (table : PartitionTable) → IsSizedTable old new size table → IsReadBack ps table
  found-back Bytes4096 t table is = read-back old new Bytes4096 disk_id ps t table is
  found-back Bytes512 t table (inl is) = read-back old new Bytes512 disk_id ps t table is
  found-back Bytes512 t table (inr large) =
      let unread = unread-table old large.mid Bytes512 disk_id ps t large.small.fault large.small.none in
      absurd (true≢false (sym (hidden large.small.fault unread) ∙ large.sure))

  pub none-found : (size : SectorSize) → HoldsTable old (disk_of old size) disk_id ps → (fault : NoTable) → IsNoSizedTable old new size fault → IsUnreadTable fault
  none-found Bytes4096 t fault is = unread-table old new Bytes4096 disk_id ps t fault is
  none-found Bytes512 t fault (inl is) = unread-table old new Bytes512 disk_id ps t fault is.small
  none-found Bytes512 t fault (inr is) = unread-table old is.mid Bytes512 disk_id ps t fault is.small
