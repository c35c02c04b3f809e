-- Both copies on a device that holds a table, and a device after both ends were written.
use Rattle.std.proofs.Common.{◌≡◌, ◌∙◌, ◌+◌, ◌*◌, ◌/◌, ◌≤◌, ◌<◌, ◌^◌, ◌-◌, ℕ, IsTrue, List, [], ◌++◌, ap, append-nil, append_assoc, arith, drop, inl, inr, length, refl, subst, sym, take}
use Rattle.std.specs.List.{concat}
use Rattle.std.proofs.lemmas.List.{drop-drop, drop-take, drop_at, length-append, length-take-le, take-take, take_at}
use Rattle.block_device.proofs.lemmas.SectorLemmas.{drop-spliced, read_run}
use Rattle.block_device.specs.Device.{Device, IsWhole, run_of, sectors_of, spliced}
use Rattle.block_device.specs.Whole.{length-sectors_of}
use Rattle.partition_table.specs.declared.partition.Partition.{Partition}
use Rattle.partition_table.specs.declared.sector_size.Disk.{Disk}
use Rattle.partition_table.specs.declared.sector_size.SectorSize.{SectorSize}
use Rattle.partition_table.specs.declared.sector_size.SectorSize.TheVariants.{Bytes4096, Bytes512}
use Rattle.partition_table.specs.Crc.{crc32}
use Rattle.partition_table.specs.Disks.{bytes_of_size, disk_of, unit_of}
use Rattle.disk_layout.specs.declared.header.TableHeader.{TableHeader}
use Rattle.disk_layout.specs.Ends.{back_bytes, back_of, back_sector, backup_header, entries_sectors, front_bytes, primary_header}
use Rattle.disk_layout.specs.Entries.{entries_array}
use Rattle.disk_layout.specs.Headers.{header_bytes, header_sector}
use Rattle.disk_layout.specs.Mbrs.{mbr_bytes, mbr_sector, protected_sectors}
use Rattle.disk_layout.specs.Writing.{PutsEnds, PutsSynced}
use Rattle.disk_layout.specs.Written.{Holds, HoldsTable, IsMadeTable, table_sectors}
use Rattle.disk_layout.proofs.AppendLemmas.{length-padded}
use Rattle.disk_layout.proofs.ArrayLemmas.{array-bytes, length-array}
use Rattle.disk_layout.proofs.ChecksumLemmas.{crc32-small}
use Rattle.disk_layout.proofs.CopyLemmas.{IsWrittenCopy}
use Rattle.disk_layout.proofs.HeaderLemmas.{IsPlaced, IsStated}
use Rattle.disk_layout.proofs.WritingLemmas.{size-after}

-- ---- sizes

bytes-are : (size : SectorSize) → bytes_of_size size ≡ 512 * unit_of size
bytes-are Bytes512 = refl
bytes-are Bytes4096 = refl

entries-run : (size : SectorSize) → entries_sectors size * unit_of size ≡ 32
entries-run Bytes512 = refl
entries-run Bytes4096 = refl

back-place : (size : SectorSize) (sectors : ℕ) → (sectors - (1 + entries_sectors size)) * unit_of size ≡ back_of size sectors + 0
back-place Bytes512 sectors = omega arith
back-place Bytes4096 sectors = omega arith

last-place : (size : SectorSize) (sectors : ℕ) → 2 * (2 + entries_sectors size) ≤ sectors → (sectors - 1) * unit_of size ≡ back_of size sectors + 32
last-place Bytes512 sectors room = omega (arith, room)
last-place Bytes4096 sectors room = omega (arith, room)

length-mbr : (disk : Disk) → length (mbr_sector disk) ≡ 512 * unit_of disk.size
unfolding mbr_sector
length-mbr disk = length-padded (bytes_of_size disk.size) (length (mbr_bytes (protected_sectors disk))) (mbr_bytes (protected_sectors disk)) refl ∙ bytes-are disk.size

length-sector : (size : SectorSize) (h : TableHeader) → length (header_sector size h) ≡ 512 * (1 * unit_of size)
unfolding header_sector
length-sector size h =
    let text = header_bytes h (crc32 (header_bytes h 0)) in
    let one : 512 * unit_of size ≡ 512 * (1 * unit_of size) = omega arith in
    length-padded (bytes_of_size size) (length text) text refl ∙ bytes-are size ∙ one

-- ---- a part of what is held

module _ (image : List (List ℕ)) (first : ℕ) (bytes : List ℕ) (held : run_of image first (length bytes / 512) ≡ sectors_of (length bytes / 512) bytes) where
  held-run : (f m : ℕ) → f + m ≤ length bytes / 512 → concat (run_of image (first + f) m) ≡ take (512 * m) (drop (512 * f) bytes)
  held-run f m within =
      let n = length bytes / 512 in
      let rest = n - (f + m) in
      let split : n ≡ f + (m + rest) = omega (arith, within) in
      let inner : drop f (run_of image first n) ≡ take (m + rest) (drop (first + f) image) =
      ap (λ (k : ℕ). drop f (take k (drop first image))) split ∙ drop-take f (m + rest) (drop first image) ∙ ap (take (m + rest)) (drop-drop f first image) in
      let run : run_of (run_of image first n) f m ≡ run_of image (first + f) m = ap (take m) inner ∙ take-take m (m + rest) (drop (first + f) image) (omega arith) in
      ap concat (sym run) ∙ ap (λ (s : List (List ℕ)). concat (run_of s f m)) held ∙ sym (read_run bytes n f m (omega arith) within)

  pub held-part : (xs a ys : List ℕ) (f p k : ℕ) → bytes ≡ xs ++ (a ++ ys) → length xs ≡ 512 * f → length a ≡ 512 * k → p ≡ first + f → concat (run_of image p k) ≡ a
  held-part xs a ys f p k is before size place =
      let within : f + k ≤ length bytes / 512 = omega (arith, ap length is, length-append xs (a ++ ys), length-append a ys, before, size) in
      ap (λ (n : ℕ). concat (run_of image n k)) place ∙ held-run f k within ∙ ap (λ (l : List ℕ). take (512 * k) (drop (512 * f) l)) is ∙ ap (take (512 * k)) (drop_at xs (a ++ ys) (512 * f) before)
      ∙ take_at a ys (512 * k) size

-- ---- both copies

module _ (device : Device) (disk : Disk) (disk_id : List ℕ) (ps : List Partition) (t : HoldsTable device disk disk_id ps) where
  abbrev entries : List ℕ
  entries = entries_array ps

  abbrev primary : TableHeader
  primary = primary_header disk disk_id (crc32 entries)

  abbrev backup : TableHeader
  backup = backup_header disk disk_id (crc32 entries)

  sum-small : crc32 entries < 2 ^ 64 × crc32 entries < 2 ^ 32
  sum-small =
      let small = crc32-small entries (array-bytes (table_sectors disk) (disk.sectors - table_sectors disk) ps t.made.count t.made.order) in (omega (arith, small), small)

  pub length-here : length entries ≡ 512 * (entries_sectors disk.size * unit_of disk.size)
  length-here = length-array (table_sectors disk) (disk.sectors - table_sectors disk) ps t.made.count t.made.order ∙ ap (λ (n : ℕ). 512 * n) (sym (entries-run disk.size))

  primary-stated : IsStated primary
  primary-stated = record { own = omega arith; other = omega (arith, t.made.few); last = omega (arith, t.made.few); id = t.made.id; sum = sum-small.1 }

  backup-stated : IsStated backup
  backup-stated = record { own = omega (arith, t.made.few); other = omega arith; last = omega (arith, t.made.few); id = t.made.id; sum = sum-small.1 }

  primary-placed : IsPlaced disk primary
  primary-placed = record {
    some = omega (arith, t.made.room);
    usable = omega (arith, t.made.room);
    entries = omega arith;
    inside = omega (arith, t.made.room);
    few = t.made.few;
    apart = inl (omega arith);
  }

  backup-placed : IsPlaced disk backup
  backup-placed = record {
    some = omega (arith, t.made.room);
    usable = omega (arith, t.made.room);
    entries = omega (arith, t.made.room);
    inside = omega (arith, t.made.room);
    few = t.made.few;
    apart = inr (omega (arith, t.made.room));
  }

  pub primary-copy : IsWrittenCopy device.image disk primary ps
  unfolding front_bytes
  primary-copy =
      let u = unit_of disk.size in
      let mbr = mbr_sector disk in
      let sector = header_sector disk.size primary in
      let apart : mbr ++ (sector ++ entries) ≡ (mbr ++ sector) ++ (entries ++ []) = sym (append_assoc mbr sector entries) ∙ ap (λ (l : List ℕ). (mbr ++ sector) ++ l) (sym (append-nil entries)) in
      record {
        stated = primary-stated;
        placed = primary-placed;
        count = t.made.count;
        order = t.made.order;
        sum = refl;
        head = held-part device.image 0 (mbr ++ (sector ++ entries)) t.front mbr sector entries u (1 * u) (1 * u) refl (length-mbr disk) (length-sector disk.size primary) (omega arith);
        entries = held-part device.image 0 (mbr ++ (sector ++ entries)) t.front (mbr ++ sector) entries [] (2 * u) (2 * u) (entries_sectors disk.size * u) apart
            (omega (arith, length-append mbr sector, length-mbr disk, length-sector disk.size primary)) length-here (omega arith);
      }

  pub backup-copy : IsWrittenCopy device.image disk backup ps
  unfolding back_bytes
  backup-copy =
      let u = unit_of disk.size in
      let sector = header_sector disk.size backup in
      let size : length entries ≡ 512 * 32 = length-array (table_sectors disk) (disk.sectors - table_sectors disk) ps t.made.count t.made.order in
      record {
        stated = backup-stated;
        placed = backup-placed;
        count = t.made.count;
        order = t.made.order;
        sum = refl;
        head = held-part device.image (back_sector disk) (entries ++ sector) t.back entries sector [] 32 ((disk.sectors - 1) * u) (1 * u) (ap (λ (l : List ℕ). entries ++ l) (sym (append-nil sector))) size
            (length-sector disk.size backup) (last-place disk.size disk.sectors t.made.room);
        entries = held-part device.image (back_sector disk) (entries ++ sector) t.back [] entries sector 0 ((disk.sectors - (1 + entries_sectors disk.size)) * u) (entries_sectors disk.size * u) refl refl
            length-here (back-place disk.size disk.sectors);
      }

  pub mbr-held : concat (run_of device.image (0 * unit_of disk.size) (1 * unit_of disk.size)) ≡ mbr_sector disk
  unfolding front_bytes
  mbr-held =
      let u = unit_of disk.size in
      let mbr = mbr_sector disk in
      let rest = header_sector disk.size primary ++ entries in
      held-part device.image 0 (mbr ++ rest) t.front [] mbr rest 0 (0 * u) (1 * u) refl refl (omega (arith, length-mbr disk)) (omega arith)

-- ---- after both ends were written

module _ (old new : Device) (first : ℕ) (bytes : List ℕ) (put : PutsSynced old first bytes new) where
  image-after : IsTrue old.steady → new.image ≡ spliced old.image first (sectors_of (length bytes / 512) bytes)
  image-after steady = ap (λ (d : Device). d.image) put.kept ∙ put.image steady

  pub steady-after : IsTrue old.steady → IsTrue new.steady
  steady-after steady = subst IsTrue (sym (ap (λ (d : Device). d.steady) put.kept ∙ put.written.same.steady)) steady

  holds-after : IsTrue old.steady → first ≤ length old.image → Holds new first bytes
  holds-after steady inside =
      let n = length bytes / 512 in
      let sectors = sectors_of n bytes in
      let rest = drop (first + length sectors) old.image in
      ap (λ (i : List (List ℕ)). run_of i first n) (image-after steady)
      ∙ ap (λ (i : List (List ℕ)). take n (drop first i)) (append_assoc (take first old.image) sectors rest)
      ∙ ap (take n) (drop_at (take first old.image) (sectors ++ rest) first (length-take-le first old.image inside))
      ∙ take_at sectors rest n (length-sectors_of n bytes)

  -- what comes after it is as it was
  kept-after : (at k : ℕ) → IsTrue old.steady → first ≤ length old.image → first + length bytes / 512 ≤ at → run_of new.image at k ≡ run_of old.image at k
  kept-after at k steady inside behind =
      let n = length bytes / 512 in
      let sectors = sectors_of n bytes in
      let end = first + n in
      let split : at ≡ end + (at - end) = omega (arith, behind) in
      let same : drop end new.image ≡ drop end old.image = ap (drop end) (image-after steady) ∙ drop-spliced old.image sectors first n inside (sym (length-sectors_of n bytes)) in
      ap (λ (j : ℕ). run_of new.image j k) split ∙ ap (take k) (sym (drop-drop (at - end) end new.image) ∙ ap (drop (at - end)) same ∙ drop-drop (at - end) end old.image)
      ∙ ap (λ (j : ℕ). run_of old.image j k) (sym split)

ends-held : (old new : Device) (front : List ℕ) (last : ℕ) (back : List ℕ) → PutsEnds old front last back new → IsTrue old.steady → last ≤ length old.image → length front / 512 ≤ last
    → Holds new 0 front × Holds new last back × IsTrue new.steady
ends-held old new front last back puts steady inside apart =
    let mid = puts.between in
    let still = steady-after old mid last back puts.back_put steady in (
      holds-after mid new 0 front puts.front_put still (omega arith),
      kept-after mid new 0 front puts.front_put last (length back / 512) still (omega arith) (omega (arith, apart)) ∙ holds-after old mid last back puts.back_put steady inside,
      steady-after mid new 0 front puts.front_put still,
    )

length-front : (disk : Disk) (disk_id : List ℕ) (ps : List Partition) → IsMadeTable disk disk_id ps → length (front_bytes disk disk_id ps) ≡ 1024 * unit_of disk.size + 16384
unfolding front_bytes
length-front disk disk_id ps made =
    let primary = primary_header disk disk_id (crc32 (entries_array ps)) in
    omega (
      arith,
      length-append (mbr_sector disk) (header_sector disk.size primary ++ entries_array ps),
      length-append (header_sector disk.size primary) (entries_array ps),
      length-mbr disk,
      length-sector disk.size primary,
      length-array (table_sectors disk) (disk.sectors - table_sectors disk) ps made.count made.order,
    )

ends-apart : (size : SectorSize) (sectors len : ℕ) → 2 * (2 + entries_sectors size) ≤ sectors → len ≡ 1024 * unit_of size + 16384 → len / 512 ≤ back_of size sectors
ends-apart Bytes512 sectors len room is = omega (arith, room, is)
ends-apart Bytes4096 sectors len room is = omega (arith, room, is)

back-within : (size : SectorSize) (n : ℕ) → back_of size (n / unit_of size) ≤ n
back-within Bytes512 n = omega arith
back-within Bytes4096 n = omega arith

pub table-held : (old new : Device) (size : SectorSize) (disk_id : List ℕ) (ps : List Partition) → IsTrue old.steady → IsWhole old → IsMadeTable (disk_of old size) disk_id ps
    → PutsEnds old (front_bytes (disk_of old size) disk_id ps) (back_sector (disk_of old size)) (back_bytes (disk_of old size) disk_id ps) new → HoldsTable new (disk_of new size) disk_id ps
table-held old new size disk_id ps steady whole made puts =
    let disk = disk_of old size in
    let last = back_sector disk in
    let front = front_bytes disk disk_id ps in
    let inside : last ≤ length old.image = omega (arith, back-within size old.size, whole.length) in
    let held = ends-held old new front last (back_bytes disk disk_id ps) puts steady inside (ends-apart size disk.sectors (length front) made.room (length-front disk disk_id ps made)) in
    let same : new.size ≡ old.size = size-after puts.between new 0 front puts.front_put ∙ size-after old puts.between last (back_bytes disk disk_id ps) puts.back_put in
    subst (λ (n : ℕ). HoldsTable new (record { size = size; sectors = n / unit_of size }) disk_id ps) (sym same) (record { steady = held.2; made = made; front = held.0; back = held.1 })
