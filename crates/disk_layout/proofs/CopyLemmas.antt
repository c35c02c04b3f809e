-- A copy of a table that was written, read again.
use Rattle.std.proofs.Common.{◌≡◌, ◌∙◌, ◌*◌, ◌≤◌, ◌-◌, ◌==◌, ℕ, Bool, true, false, IsTrue, cond, not, List, [], Option, None, Some, ap, arith, length, refl, replicate, sym, take}
use Rattle.std.specs.List.{concat}
use Rattle.std.proofs.lemmas.List.{take_all}
use Rattle.block_device.specs.Device.{Device, run_of}
use Rattle.partition_table.specs.declared.partition.Partition.{Partition}
use Rattle.partition_table.specs.declared.read_fault.ReadFault.{ReadFault}
use Rattle.partition_table.specs.declared.read_fault.ReadFault.TheVariants.{Device as DeviceFailed, NoMemory, Table}
use Rattle.partition_table.specs.declared.sector_size.Disk.{Disk}
use Rattle.partition_table.specs.declared.table_fault.TableFault.{TableFault}
use Rattle.partition_table.specs.declared.table_fault.TableFault.TheVariants.{EntriesChecksum}
use Rattle.partition_table.specs.Copies.{IsCopyCause, IsCopyRead, array_of, copy_fault}
use Rattle.partition_table.specs.Crc.{crc32}
use Rattle.partition_table.specs.Disks.{bytes_of_size, unit_of}
use Rattle.partition_table.specs.Headers.{array_bytes, array_sectors, header_fault, table_header}
use Rattle.partition_table.specs.Partitions.{array_fault, fault_behind, or_fault, partitions_in, partitions_to}
use Rattle.partition_table.specs.Reads.{is_unread}
use Rattle.disk_layout.specs.declared.header.TableHeader.{TableHeader}
use Rattle.disk_layout.specs.Ends.{entries_sectors}
use Rattle.disk_layout.specs.Entries.{entries_array}
use Rattle.disk_layout.specs.Headers.{header_sector}
use Rattle.disk_layout.specs.Written.{AreInOrder}
use Rattle.disk_layout.proofs.ArrayLemmas.{length-array, partitions-back}
use Rattle.disk_layout.proofs.HeaderLemmas.{IsPlaced, IsStated, array_bytes-is, array_sectors-is, checksum-is, count-is, entries-read, entry_size-is, eq-true, first-read, id-is, last-is, sector-is, text-faultless}
use Rattle.disk_layout.proofs.OrderLemmas.{order-faultless}

-- a header and its entries in an image
pub record IsWrittenCopy (image : List (List ℕ)) (disk : Disk) (h : TableHeader) (ps : List Partition) : Type 0 where
  pub stated : IsStated h
  pub placed : IsPlaced disk h
  pub count : length ps ≤ 128
  pub order : AreInOrder 1 h.first_usable h.last_usable ps
  pub sum : h.entries_checksum ≡ crc32 (entries_array ps)
  pub head : concat (run_of image (h.own * unit_of disk.size) (1 * unit_of disk.size)) ≡ header_sector disk.size h
  pub entries : concat (run_of image (h.entries * unit_of disk.size) (entries_sectors disk.size * unit_of disk.size)) ≡ entries_array ps

passed : {X : Type 0} (b : Bool) (x y : X) → b ≡ true → cond (not b) x y ≡ y
passed true x y h = refl
passed false x y h = cc

module _ (disk : Disk) (h : TableHeader) (ps : List Partition) (stated : IsStated h) (placed : IsPlaced disk h) where
  abbrev zeros : List ℕ
  zeros = replicate (bytes_of_size disk.size - 92) 0

  abbrev sector : List ℕ
  sector = header_sector disk.size h

  header-faultless : header_fault disk h.own sector ≡ None
  header-faultless = ap (header_fault disk h.own) (sector-is disk.size h) ∙ text-faultless h stated zeros disk placed

  bytes-here : array_bytes (table_header sector) ≡ 16384
  bytes-here = ap (λ (b : List ℕ). array_bytes (table_header b)) (sector-is disk.size h) ∙ array_bytes-is h stated zeros

  pub size-here : (table_header sector).entry_size ≡ 128
  size-here = ap (λ (b : List ℕ). (table_header b).entry_size) (sector-is disk.size h) ∙ entry_size-is h stated zeros

  pub count-here : (table_header sector).entry_count ≡ 128
  count-here = ap (λ (b : List ℕ). (table_header b).entry_count) (sector-is disk.size h) ∙ count-is h stated zeros

  pub first-here : (table_header sector).first_usable ≡ h.first_usable
  first-here = ap (λ (b : List ℕ). (table_header b).first_usable) (sector-is disk.size h) ∙ first-read h stated zeros disk placed

  pub last-here : (table_header sector).last_usable ≡ h.last_usable
  last-here = ap (λ (b : List ℕ). (table_header b).last_usable) (sector-is disk.size h) ∙ last-is h stated zeros

  entries-here : (table_header sector).entries_sector ≡ h.entries
  entries-here = ap (λ (b : List ℕ). (table_header b).entries_sector) (sector-is disk.size h) ∙ entries-read h stated zeros disk placed

  sum-here : (table_header sector).entries_checksum ≡ h.entries_checksum
  sum-here = ap (λ (b : List ℕ). (table_header b).entries_checksum) (sector-is disk.size h) ∙ checksum-is h stated zeros

  pub id-here : (table_header sector).disk_id ≡ h.disk_id
  id-here = ap (λ (b : List ℕ). (table_header b).disk_id) (sector-is disk.size h) ∙ id-is h stated zeros

  sectors-here : array_sectors disk.size (table_header sector) ≡ entries_sectors disk.size
  sectors-here = ap (λ (b : List ℕ). array_sectors disk.size (table_header b)) (sector-is disk.size h) ∙ array_sectors-is h stated zeros disk.size

  module _ (count : length ps ≤ 128) (order : AreInOrder 1 h.first_usable h.last_usable ps) (sum : h.entries_checksum ≡ crc32 (entries_array ps)) where
    whole-here : array_of sector (entries_array ps) ≡ entries_array ps
    whole-here =
        ap (λ (n : ℕ). take n (entries_array ps)) bytes-here ∙ take_all 16384 (entries_array ps) (omega (arith, length-array h.first_usable h.last_usable ps count order))

    partitions-here : partitions_in (table_header sector) (array_of sector (entries_array ps)) ≡ ps
    partitions-here =
        ap (λ (a : List ℕ). partitions_in (table_header sector) a) whole-here
        ∙ ap (λ (n : ℕ). partitions_to n (entries_array ps) (table_header sector).entry_count) size-here
        ∙ ap (λ (n : ℕ). partitions_to 128 (entries_array ps) n) count-here
        ∙ partitions-back h.first_usable h.last_usable ps count order

    array-faultless : array_fault (table_header sector) (array_of sector (entries_array ps)) ≡ None
    array-faultless =
        let a = array_of sector (entries_array ps) in
        let same : crc32 a ≡ (table_header sector).entries_checksum = ap crc32 whole-here ∙ sym (sum-here ∙ sum) in
        passed (crc32 a == (table_header sector).entries_checksum) (Some EntriesChecksum) (fault_behind (table_header sector) [] (partitions_in (table_header sector) a)) (eq-true _ _ same)
        ∙ ap (λ (l : List Partition). fault_behind (table_header sector) [] l) partitions-here
        ∙ order-faultless sector h.last_usable last-here 1 h.first_usable [] ps (omega (arith, first-here)) tt order

    faultless : copy_fault disk h.own sector (entries_array ps) ≡ None
    faultless = ap (λ (f : Option TableFault). or_fault f (array_fault (table_header sector) (array_of sector (entries_array ps)))) header-faultless ∙ array-faultless

-- what is read of the copy
module _ (device : Device) (steady : IsTrue device.steady) (disk : Disk) (h : TableHeader) (ps : List Partition) (w : IsWrittenCopy device.image disk h ps) where
  module _ (header array : List ℕ) (read : IsCopyRead device disk h.own header array) where
    pub header-is : header ≡ header_sector disk.size h
    header-is = read.first.stands steady ∙ w.head

    pub array-is : array ≡ entries_array ps
    array-is =
        let good = ap (header_fault disk h.own) header-is ∙ header-faultless disk h ps w.stated w.placed in
        let place = ap (λ (b : List ℕ). (table_header b).entries_sector) header-is ∙ entries-here disk h ps w.stated w.placed in
        let count = ap (λ (b : List ℕ). array_sectors disk.size (table_header b)) header-is ∙ sectors-here disk h ps w.stated w.placed in
        (read.rest good).stands steady
        ∙ ap (λ (n : ℕ). concat (run_of device.image (n * unit_of disk.size) (array_sectors disk.size (table_header header) * unit_of disk.size))) place
        ∙ ap (λ (n : ℕ). concat (run_of device.image (h.entries * unit_of disk.size) (n * unit_of disk.size))) count ∙ w.entries

    pub partitions-read : partitions_in (table_header header) (array_of header array) ≡ ps
    partitions-read =
        ap (λ (b : List ℕ). partitions_in (table_header b) (array_of b array)) header-is
        ∙ ap (λ (a : List ℕ). partitions_in (table_header (header_sector disk.size h)) (array_of (header_sector disk.size h) a)) array-is
        ∙ partitions-here disk h ps w.stated w.placed w.count w.order w.sum

    pub array-read : array_of header array ≡ entries_array ps
    array-read =
        ap (λ (b : List ℕ). array_of b array) header-is ∙ ap (λ (a : List ℕ). array_of (header_sector disk.size h) a) array-is
        ∙ whole-here disk h ps w.stated w.placed w.count w.order w.sum

    pub faultless-read : copy_fault disk h.own header array ≡ None
    faultless-read =
        ap (λ (b : List ℕ). copy_fault disk h.own b array) header-is ∙ ap (λ (a : List ℕ). copy_fault disk h.own (header_sector disk.size h) a) array-is
        ∙ faultless disk h ps w.stated w.placed w.count w.order w.sum

  -- a copy that isn't used wasn't read
  pub unread-copy : (new : Device) (fault : ReadFault) → IsCopyCause device new disk h.own fault → is_unread fault ≡ true
  unread-copy new DeviceFailed cause = refl
  unread-copy new NoMemory cause = refl
  unread-copy new (Table fault) cause =
      let none = sym (faultless-read cause.header cause.array cause.read) ∙ cause.is in
      cc
