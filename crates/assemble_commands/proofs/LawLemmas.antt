-- The table of an assembled disk.
use Rattle.std.proofs.Common.{◌≡◌, ◌∙◌, ◌*◌, ◌/◌, ◌^◌, ◌≤◌, ℕ, Bool, true, false, IsTrue, List, [], ◌∷◌, Option, Some, ap, arith, drop, refl, subst, sym, take}
use Rattle.std.specs.Prelude.{codes, if◌then◌else◌, length}
use Rattle.block_device.specs.Device.{Device, IsWhole, run_of}
use Rattle.command_line.specs.words.Assemble.{AssembleRecord}
use Rattle.image_commands.specs.declared.format.MadeImage.{MadeImage}
use Rattle.image_commands.specs.Drawing.{Drawing, Gives, drawing}
use Rattle.image_files.specs.Opener.{Opener}
use Rattle.partition_table.specs.declared.partition.Partition.{Partition}
use Rattle.partition_table.specs.declared.sector_size.SectorSize.{SectorSize}
use Rattle.partition_table.specs.declared.sector_size.SectorSize.TheVariants.{Bytes4096, Bytes512}
use Rattle.partition_table.specs.declared.table.PartitionTable.{PartitionTable}
use Rattle.partition_table.specs.Disks.{disk_of, unit_of}
use Rattle.partition_table.specs.Tables.{IsEitherTable}
use Rattle.disk_layout.specs.declared.parts.DiskParts.{DiskParts}
use Rattle.disk_layout.specs.Ends.{back_bytes, back_sector, front_bytes}
use Rattle.disk_layout.specs.Laws.{DiskPartsMakeTables, LargeTableIsFound, WrittenTableIsFound, WrittenTableIsHeld, WrittenTableIsRead, three_partitions, two_partitions}
use Rattle.disk_layout.specs.Parts.{disk_parts}
use Rattle.disk_layout.specs.Usable.{IsName, PartitionName}
use Rattle.disk_layout.specs.Written.{HoldsTable, IsField, IsMadeTable, IsReadBack}
use Rattle.hash_tree.specs.Laws.{FormedChainsAreGood}
use Rattle.rand_core.specs.Stream.{Stream}
use Rattle.verity_format.specs.Image.{image_sectors}
use Rattle.verity_format.specs.Superblock.{shape_of}
use Rattle.assemble_commands.specs.declared.kinds.DiskKinds.{DiskKinds}
use Rattle.assemble_commands.specs.declared.plan.DiskPlan.{DiskPlan}
use Rattle.assemble_commands.specs.Identifiers.{identifier}
use Rattle.assemble_commands.specs.Kinds.{disk_kinds}
use Rattle.assemble_commands.specs.Laws.{AssembledTablesAreRead, HasAssembled, HoldsTheSame, ReadsTable}
use Rattle.assemble_commands.specs.Plans.{IsPlan, data_label, disk_id, hash_label, padded, parity_kind, parity_label, partitions_of, size_of}
use Rattle.assemble_commands.specs.Steps.{is_short}
use Rattle.assemble_commands.proofs.AssembledLemmas.{made-field}
use Rattle.assemble_commands.proofs.FieldLemmas.{data-field, first-half, hash-field, identifier-field, last-half, parity-field, parity-kind}
use Rattle.assemble_commands.proofs.KindLemmas.{disk-kinds}
use Rattle.assemble_commands.proofs.PlanLemmas.{has-parts, parity-unit}

-- ---- the table of a plan

module _ {T G : Type 0} (d : Drawing T G) (a : AssembleRecord) (sectors : ℕ) (kinds : DiskKinds) (plan : DiskPlan) (made : MadeImage) where
  abbrev data_name : PartitionName
  data_name = record { kind = plan.kinds.«data»; uuid = take 16 made.root; label = data_label }

  abbrev hash_name : PartitionName
  hash_name = record { kind = plan.kinds.hash; uuid = drop 16 made.root; label = hash_label }

  abbrev parity_name : PartitionName
  parity_name = record { kind = parity_kind; uuid = identifier made.salt (codes "parity"); label = parity_label }

  abbrev partitions_with : Bool → SectorSize → DiskParts → List Partition
  partitions_with parity size parts = if parity then three_partitions parts size data_name hash_name parity_name else two_partitions parts size data_name hash_name

  parity-named : IsName parity_name
  parity-named = record { kind = parity-kind; uuid = identifier-field made.salt (codes "parity"); label = parity-field; used = refl }

  module _ (law : DiskPartsMakeTables) (is : IsPlan d a sectors kinds plan) (kinds_are : disk_kinds a.kind a.arch ≡ Some kinds) (root : IsField 32 made.root) where
    data-named : IsName data_name
    data-named =
        let kind = (disk-kinds a.kind a.arch plan.kinds (kinds_are ∙ ap Some (sym is.kinds_are))).0 in
        record { kind = kind.field; uuid = first-half made.root root; label = data-field; used = kind.used }

    hash-named : IsName hash_name
    hash-named =
        let kind = (disk-kinds a.kind a.arch plan.kinds (kinds_are ∙ ap Some (sym is.kinds_are))).1 in
        record { kind = kind.field; uuid = last-half made.root root; label = hash-field; used = kind.used }

    module _ (device : Device) (long : is_short device.size plan.parts.sectors ≡ false) (few : device.size ≤ 2 ^ 54) where
      with-parity : (parity : Bool) → a.parity ≡ parity
          → IsMadeTable (disk_of device (size_of a.sector_size)) (disk_id made)
          (partitions_with parity (size_of a.sector_size) (disk_parts (padded a.sector_size sectors) (image_sectors (shape_of plan.superblock)) is.parity_count))
      with-parity true wanted =
          (law (disk_of device (size_of a.sector_size)) (disk_id made) data_name hash_name parity_name (padded a.sector_size sectors) (image_sectors (shape_of plan.superblock)) is.parity_count
          (has-parts d a sectors kinds plan is device long few) (identifier-field made.salt (codes "disk")) data-named hash-named parity-named).1 (parity-unit d a sectors kinds plan is wanted)
      with-parity false wanted =
          (law (disk_of device (size_of a.sector_size)) (disk_id made) data_name hash_name parity_name (padded a.sector_size sectors) (image_sectors (shape_of plan.superblock)) is.parity_count
          (has-parts d a sectors kinds plan is device long few) (identifier-field made.salt (codes "disk")) data-named hash-named parity-named).0

      pub planned-table : IsMadeTable (disk_of device plan.size) (disk_id made) (partitions_of plan made)
      planned-table =
          subst (λ (size : SectorSize). IsMadeTable (disk_of device size) (disk_id made) (partitions_with plan.has_parity size plan.parts)) (sym is.size)
          (subst (λ (parity : Bool). IsMadeTable (disk_of device (size_of a.sector_size)) (disk_id made) (partitions_with parity (size_of a.sector_size) plan.parts)) (sym is.has_parity)
          (subst (λ (parts : DiskParts). IsMadeTable (disk_of device (size_of a.sector_size)) (disk_id made) (partitions_with a.parity (size_of a.sector_size) parts)) (sym is.parts) (with-parity a.parity refl)))

-- ---- the table that is read

-- a device that holds the same holds the table
pub held-later : (device later : Device) (size : SectorSize) (id : List ℕ) (partitions : List Partition) → HoldsTheSame device later → HoldsTable device (disk_of device size) id partitions → HoldsTable later (disk_of later size) id partitions
held-later device later size id partitions same held =
    let front = front_bytes (disk_of device size) id partitions in
    let back = back_bytes (disk_of device size) id partitions in
    subst (λ (n : ℕ). HoldsTable later (record { size = size; sectors = n / unit_of size }) id partitions) (sym same.size)
    (record {
      steady = same.steady;
      made = held.made;
      front = ap (λ (i : List (List ℕ)). run_of i 0 (length front / 512)) same.image ∙ held.front;
      back = ap (λ (i : List (List ℕ)). run_of i (back_sector (disk_of device size)) (length back / 512)) same.image ∙ held.back;
    })

module _ (read : WrittenTableIsRead) (found : WrittenTableIsFound) (large : LargeTableIsFound) where
  either-size : (size : SectorSize) (device : Device) (id : List ℕ) (partitions : List Partition) → HoldsTable device (disk_of device size) id partitions → device.size / unit_of size * unit_of size ≡ device.size
      → (new : Device) (table : PartitionTable) → IsEitherTable device new table → IsReadBack partitions table
  either-size Bytes512 device id partitions held whole new table is = (found device new Bytes512 id partitions held).0 table is
  either-size Bytes4096 device id partitions held whole new table is = large device new id partitions held (omega (arith, whole)) table is

  reads-held : (device : Device) (size : SectorSize) (id : List ℕ) (partitions : List Partition) → HoldsTable device (disk_of device size) id partitions → ReadsTable device size partitions
  reads-held device size id partitions held = record {
    read = λ new table is. (read device new size id partitions held).0 table is;
    unread = λ new fault is. (read device new size id partitions held).1 fault is;
    found = λ new table is. (found device new size id partitions held).0 table is;
    unfound = λ new fault is. (found device new size id partitions held).1 fault is;
    either = λ whole new table is. either-size size device id partitions held whole new table is;
  }

-- ---- after `assemble`

module _ {S D T G : Type 0} (relations : Opener S D) (state : D → Device) (gives : Gives T G) (stream : G → Stream) (whole : (dev : D) → IsWhole (state dev)) where
  module _ (chains : FormedChainsAreGood) (images images' : S) (generators generators' : T) (a : AssembleRecord) (old new : Option (List ℕ)) (done : HasAssembled relations state gives stream images images' generators generators' a old new)
      (data_steady : IsTrue (state done.fills.image.device).steady) (disk_steady : IsTrue (state done.fills.fills.table.image.device).steady) (parts : DiskPartsMakeTables) (held : WrittenTableIsHeld) where
    abbrev opened_dev : Device
    opened_dev = state done.fills.fills.table.image.device

    abbrev closed_dev : Device
    closed_dev = state done.fills.fills.table.device'

    pub assembled-held : HoldsTable closed_dev (disk_of closed_dev (size_of a.sector_size)) (disk_id done.made) (partitions_of done.plan done.made)
    assembled-held =
        let tables = done.fills.fills.table.used in
        let root = made-field relations state gives stream images images' generators generators' a old new done data_steady chains (whole done.fills.image.device) in
        let made = planned-table (drawing gives stream generators generators') a (state done.fills.image.device).size done.fills.kinds done.plan done.made parts done.fills.is_plan done.fills.kinds_are root opened_dev tables.long tables.few in
        subst (λ (size : SectorSize). HoldsTable closed_dev (disk_of closed_dev size) (disk_id done.made) (partitions_of done.plan done.made)) done.fills.is_plan.size
        (held opened_dev closed_dev done.plan.size (disk_id done.made) (partitions_of done.plan done.made) disk_steady (whole done.fills.fills.table.image.device) made tables.puts)

  pub assembled-tables : FormedChainsAreGood → DiskPartsMakeTables → WrittenTableIsHeld → WrittenTableIsRead → WrittenTableIsFound → LargeTableIsFound → AssembledTablesAreRead relations state gives stream
  assembled-tables chains parts held read found large images images' generators generators' a old new done data_steady disk_steady later same =
      let id = disk_id done.made in
      let partitions = partitions_of done.plan done.made in
      reads-held read found large later (size_of a.sector_size) id partitions
      (held-later (state done.fills.fills.table.device') later (size_of a.sector_size) id partitions same
      (assembled-held chains images images' generators generators' a old new done data_steady disk_steady parts held))
