-- What `partitions --root` prints of an assembled disk.
use Rattle.std.proofs.Common.{◌≡◌, ◌∙◌, ◌+◌, ◌*◌, ◌/◌, ◌^◌, ◌≤◌, ℕ, Bool, false, IsTrue, List, [], ◌++◌, Ok, Option, ap, arith, drop, refl, subst, sym, take}
use Rattle.std.specs.Prelude.{codes}
use Rattle.std.specs.List.{concat}
use Rattle.block_device.specs.Device.{Device, IsWhole, run_of}
use Rattle.command_line.specs.words.Assemble.{AssembleRecord}
use Rattle.device_adapters.specs.declared.part.Part.{Part}
use Rattle.disk_layout.specs.Laws.{DiskPartsMakeTables, WrittenTableIsFound, WrittenTableIsHeld, WrittenTableIsRead}
use Rattle.disk_layout.specs.Made.{partition_at}
use Rattle.disk_layout.specs.Written.{HoldsTable}
use Rattle.hash_tree.specs.Laws.{FormedChainsAreGood}
use Rattle.image_commands.specs.Drawing.{Gives, drawing}
use Rattle.image_files.specs.Opener.{Opener}
use Rattle.image_files.specs.Partitions.{part_of}
use Rattle.image_pin.specs.declared.trusted.TrustedRoot.{TrustedRoot}
use Rattle.partition_commands.specs.RootCommands.{FindsPair, pair_text}
use Rattle.partition_commands.specs.RootStacks.{root_entry, root_stack_text}
use Rattle.partition_commands.specs.Roots.{image_partitions}
use Rattle.partition_commands.specs.Signatures.{signature_entry}
use Rattle.partition_table.specs.declared.partition.Partition.{Partition}
use Rattle.partition_table.specs.declared.sector_size.SectorSize.{SectorSize}
use Rattle.partition_table.specs.Disks.{disk_of}
use Rattle.rand_core.specs.Stream.{Stream}
use Rattle.stack_files.specs.DiskEntries.{entry_text, linear_line}
use Rattle.verity_format.specs.Blocks.{block_at}
use Rattle.verity_format.specs.Image.{image_sectors}
use Rattle.verity_format.specs.Options.{superblock_with}
use Rattle.verity_format.specs.Superblock.{IsSuperblock, SuperRecord, shape_of, spelling}
use Rattle.assemble_commands.specs.Laws.{HasAssembled, HoldsTheSame}
use Rattle.assemble_commands.specs.Plans.{data_label, data_partition, disk_id, hash_label, hash_partition, partitions_of, size_of}
use Rattle.assemble_commands.specs.PrintLaws.{AssembledStacksArePrinted, assembled_text}
use Rattle.assemble_commands.proofs.AssembledLemmas.{copied-steady, same-super}
use Rattle.assemble_commands.proofs.FoundLemmas.{Keeps, keeps-only, keeps-then, sized-is, sized-keeps}
use Rattle.assemble_commands.proofs.LawLemmas.{assembled-held, held-later}
use Rattle.assemble_commands.proofs.PairLemmas.{AreWhole, pair-is, part-back}
use Rattle.assemble_commands.proofs.PlanLemmas.{super-sectors, whole-parts}
use Rattle.assemble_commands.proofs.SuperLemmas.{formatted-first, super-is}

-- a text of these parts
same-text : (writable : Bool) (p q r s : Part) (super super' : SuperRecord) (root root' rest : List ℕ) → p ≡ q → r ≡ s → super ≡ super' → root ≡ root'
    → (entry_text writable (codes "data") (linear_line p) ++ (entry_text false (codes "hash") (linear_line r) ++ root_entry super root)) ++ rest
    ≡ (entry_text writable (codes "data") (linear_line q) ++ (entry_text false (codes "hash") (linear_line s) ++ root_entry super' root')) ++ rest
same-text writable p q r s super super' root root' rest a b c e =
    ap (λ (x : Part). (entry_text writable (codes "data") (linear_line x) ++ (entry_text false (codes "hash") (linear_line r) ++ root_entry super root)) ++ rest) a
    ∙ ap (λ (x : Part). (entry_text writable (codes "data") (linear_line q) ++ (entry_text false (codes "hash") (linear_line x) ++ root_entry super root)) ++ rest) b
    ∙ ap (λ (x : SuperRecord). (entry_text writable (codes "data") (linear_line q) ++ (entry_text false (codes "hash") (linear_line s) ++ root_entry x root)) ++ rest) c
    ∙ ap (λ (x : List ℕ). (entry_text writable (codes "data") (linear_line q) ++ (entry_text false (codes "hash") (linear_line s) ++ root_entry super' x)) ++ rest) e

-- the part of a partition over a part
over-part : (kind uuid label : List ℕ) (number : ℕ) (part : Part) (size plan_size table_size : SectorSize) (p : Partition) → table_size ≡ size → plan_size ≡ size → p ≡ partition_at kind uuid label plan_size number part
    → part_of size (partition_at kind uuid label size number part) ≡ part → part_of table_size p ≡ part
over-part kind uuid label number part size plan_size table_size p table plan is back =
    ap (λ (z : SectorSize). part_of z p) table ∙ ap (λ (q : Partition). part_of size q) is ∙ ap (λ (z : SectorSize). part_of size (partition_at kind uuid label z number part)) plan ∙ back

module _ {S D T G : Type 0} (relations : Opener S D) (state : D → Device) (gives : Gives T G) (stream : G → Stream) (whole : (dev : D) → IsWhole (state dev)) where
  module _ (chains : FormedChainsAreGood) (parts : DiskPartsMakeTables) (held : WrittenTableIsHeld) (read : WrittenTableIsRead) (found : WrittenTableIsFound) (images images' : S) (generators generators' : T) (a : AssembleRecord)
      (old new : Option (List ℕ)) (done : HasAssembled relations state gives stream images images' generators generators' a old new) (data_steady : IsTrue (state done.fills.image.device).steady)
      (hash_steady : IsTrue (state done.fills.fills.makes.image.device).steady) (disk_steady : IsTrue (state done.fills.fills.table.image.device).steady) where
    -- the superblock that the part of the hash image begins with
    super-stored : concat (take 1 (state done.fills.fills.makes.device').image) ≡ spelling done.plan.superblock
    super-stored =
        let made = done.fills.fills.makes.used in
        let copied = state done.fills.fills.copied_dev in
        let super = superblock_with done.plan.options copied.size in
        let same : super ≡ done.plan.superblock = same-super relations state gives stream images images' generators generators' a old new done in
        let valid : IsSuperblock super = subst IsSuperblock (sym same) done.fills.is_plan.is_superblock in
        let steady = copied-steady relations state gives stream images images' generators generators' a old new done data_steady in
        let some : 1 ≤ image_sectors (shape_of super) = subst (λ (s : SuperRecord). 1 ≤ image_sectors (shape_of s)) (sym same)
        (super-sectors (drawing gives stream generators generators') a (state done.fills.image.device).size done.fills.kinds done.plan done.fills.is_plan) in
        ap (λ (i : List (List ℕ)). concat (take 1 i)) (made.image steady hash_steady) ∙ formatted-first super valid copied.image (state done.fills.fills.makes.image.device).image some ∙ ap spelling same

    module _ (opened : D) (same : HoldsTheSame (state done.fills.fills.table.device') (state opened)) (part_is : run_of (state opened).image done.plan.parts.hash.first done.plan.parts.hash.count ≡ (state done.fills.fills.makes.device').image)
        (trusted : TrustedRoot) (root_is : trusted.root ≡ done.made.root) (pair : FindsPair state opened (size_of a.sector_size) trusted) where
      abbrev later : Device
      later = state opened

      abbrev read_device : Device
      read_device = state pair.read_device

      abbrev signed_device : Device
      signed_device = state pair.signed_device

      abbrev size : SectorSize
      size = size_of a.sector_size

      later-held : HoldsTable later (disk_of later size) (disk_id done.made) (partitions_of done.plan done.made)
      later-held =
          held-later (state done.fills.fills.table.device') later size (disk_id done.made) (partitions_of done.plan done.made) same
          (assembled-held relations state gives stream whole chains images images' generators generators' a old new done data_steady disk_steady parts held)

      size-is : pair.table.size ≡ size
      size-is = sized-is read later read_device size (disk_id done.made) (partitions_of done.plan done.made) pair.table later-held pair.found

      both-is : (pair.both.«data» ≡ data_partition done.plan done.made) × (pair.both.verity ≡ hash_partition done.plan done.made)
      both-is =
          let entries = ((found later read_device size (disk_id done.made) (partitions_of done.plan done.made) later-held).0 pair.table pair.found).entries in
          pair-is done.plan done.made trusted.root root_is pair.both (subst (λ (ps : List Partition). image_partitions ps trusted.root ≡ Ok pair.both) entries pair.both_is)

      -- both are whole sectors of the disk
      whole-is : AreWhole size done.plan.parts.«data» × AreWhole size done.plan.parts.hash
      whole-is =
          let tables = done.fills.fills.table.used in
          whole-parts (drawing gives stream generators generators') a (state done.fills.image.device).size done.fills.kinds done.plan done.fills.is_plan (state done.fills.fills.table.image.device) tables.long tables.few

      data-is : part_of pair.table.size pair.both.«data» ≡ done.plan.parts.«data»
      data-is =
          over-part done.plan.kinds.«data» (take 16 done.made.root) data_label 1 done.plan.parts.«data» size done.plan.size pair.table.size pair.both.«data» size-is done.fills.is_plan.size both-is.0
          (part-back done.plan.kinds.«data» (take 16 done.made.root) data_label size 1 done.plan.parts.«data» whole-is.0)

      hash-is : part_of pair.table.size pair.both.verity ≡ done.plan.parts.hash
      hash-is =
          over-part done.plan.kinds.hash (drop 16 done.made.root) hash_label 2 done.plan.parts.hash size done.plan.size pair.table.size pair.both.verity size-is done.fills.is_plan.size both-is.1
          (part-back done.plan.kinds.hash (drop 16 done.made.root) hash_label size 2 done.plan.parts.hash whole-is.1)

      found-super : pair.super ≡ done.plan.superblock
      unfolding block_at
      found-super =
          let kept : Keeps later signed_device = keeps-then later read_device signed_device (sized-keeps later read_device size pair.table pair.found) (keeps-only read_device signed_device pair.sought.read) in
          let sector = pair.fitting.read.first (kept.steady same.steady)
          ∙ ap (λ (p : Part). concat (take 1 (run_of signed_device.image p.first p.count))) hash-is
          ∙ ap (λ (i : List (List ℕ)). concat (take 1 (run_of i done.plan.parts.hash.first done.plan.parts.hash.count))) (kept.image same.steady)
          ∙ ap (λ (i : List (List ℕ)). concat (take 1 i)) part_is
          ∙ super-stored in
          super-is done.plan.superblock pair.super pair.fitting.sector done.fills.is_plan.is_superblock sector pair.fitting.read.carried

      printed : (writable : Bool) → pair_text writable pair ≡ assembled_text writable done.plan done.made ++ signature_entry pair.table.size pair.signed
      unfolding root_stack_text
      printed writable =
          same-text writable (part_of pair.table.size pair.both.«data») done.plan.parts.«data» (part_of pair.table.size pair.both.verity) done.plan.parts.hash pair.super done.plan.superblock trusted.root done.made.root
          (signature_entry pair.table.size pair.signed) data-is hash-is found-super root_is

  pub assembled-printed : FormedChainsAreGood → DiskPartsMakeTables → WrittenTableIsHeld → WrittenTableIsRead → WrittenTableIsFound → AssembledStacksArePrinted relations state gives stream
  assembled-printed chains parts held read found images images' generators generators' a old new done data_steady hash_steady disk_steady later same part_is trusted root_is writable pair =
      printed chains parts held read found images images' generators generators' a old new done data_steady hash_steady disk_steady later same part_is trusted root_is pair writable
