-- The parts of a planned disk lie in its usable sectors.
use Rattle.std.proofs.Common.{◌≡◌, ◌∙◌, ◌⊎◌, ◌==◌, ◌||◌, ◌+◌, ◌-◌, ◌*◌, ◌/◌, ◌^◌, ◌≤◌, ℕ, suc, Bool, true, false, nat_lt, List, Option, None, Some, ap, arith, inl, inr, refl, subst, sym}
use Rattle.std.specs.Prelude.{if◌then◌else◌}
use Rattle.std.specs.Int.{div_ceil}
use Rattle.std.proofs.lemmas.Bool.Decides.{nat_tests}
use Rattle.block_device.specs.Device.{Device, capped}
use Rattle.command_line.specs.words.Assemble.{AssembleRecord}
use Rattle.disk_layout.specs.declared.parts.DiskParts.{DiskParts}
use Rattle.disk_layout.specs.Parts.{aligned, disk_parts, end_of}
use Rattle.disk_layout.specs.Usable.{HasParts}
use Rattle.fec_area.specs.declared.layout.Layout.{Layout}
use Rattle.fec_area.specs.Layouts.{code_rounds, covered_blocks, parity_sectors}
use Rattle.image_commands.specs.Drawing.{Drawing}
use Rattle.partition_table.specs.declared.sector_size.SectorSize.{SectorSize}
use Rattle.partition_table.specs.declared.sector_size.SectorSize.TheVariants.{Bytes4096, Bytes512}
use Rattle.partition_table.specs.Disks.{disk_of, unit_of}
use Rattle.tree_shape.specs.Shape.{IsShape, ShapeRecord, area_blocks, first_fault}
use Rattle.tree_shape.proofs.lemmas.ShapeFaultLemmas.{IsShape-from_no_fault}
use Rattle.tree_shape.proofs.lemmas.ShapeLemmas.{div_ceil-suc}
use Rattle.verity_format.specs.Formatting.{given_blocks, whole_blocks}
use Rattle.verity_format.specs.Image.{image_sectors}
use Rattle.verity_format.specs.Superblock.{SuperRecord, shape_of}
use Rattle.assemble_commands.specs.declared.kinds.DiskKinds.{DiskKinds}
use Rattle.assemble_commands.specs.declared.plan.DiskPlan.{DiskPlan}
use Rattle.assemble_commands.specs.Identifiers.{seed_options}
use Rattle.assemble_commands.specs.Plans.{IsParityCount, IsPlan, padded, size_of}
use Rattle.assemble_commands.specs.Steps.{is_short}
use Rattle.assemble_commands.proofs.PairLemmas.{AreWhole}

-- ---- the options of the image

seed-data : (seed : Option (List ℕ)) → (seed_options seed).data_block ≡ 4096
seed-data None = refl
seed-data (Some seed) = refl

seed-hash : (seed : Option (List ℕ)) → (seed_options seed).hash_block ≡ 4096
seed-hash None = refl
seed-hash (Some seed) = refl

seed-blocks : (seed : Option (List ℕ)) → (seed_options seed).blocks ≡ None
seed-blocks None = refl
seed-blocks (Some seed) = refl

-- ---- the sizes of the parts

padded-some : (large : Bool) (sectors : ℕ) → 8 ≤ sectors → unit_of (if large then Bytes4096 else Bytes512) ≤ (if large then capped (sectors + 7) / 8 * 8 else sectors)
padded-some true sectors some = omega (arith, some)
padded-some false sectors some = omega (arith, some)

unit-most : (size : SectorSize) (n : ℕ) → 8 ≤ n → unit_of size ≤ n
unit-most Bytes512 n some = omega (arith, some)
unit-most Bytes4096 n some = some

image-some : (s : ShapeRecord) → s.hash_block ≡ 4096 → 8 ≤ image_sectors s
image-some s is = subst (λ (n : ℕ). 8 ≤ (1 + area_blocks s) * (n / 512)) (sym is) (omega arith)

rounds-some : (blocks : ℕ) → 1 ≤ blocks → 1 ≤ div_ceil blocks 253
rounds-some blocks some =
    let is : blocks ≡ suc (blocks - 1) = omega (arith, some) in
    subst (λ (n : ℕ). 1 ≤ n) (sym (ap (λ (n : ℕ). div_ceil n 253) is ∙ div_ceil-suc (blocks - 1) 253 (omega arith))) (omega arith)

parity-least : (l : Layout) → l.roots ≡ 2 → l.block ≡ 4096 → 1 ≤ l.data_blocks → 8 ≤ parity_sectors l
parity-least l two whole some =
    let rounds : 1 ≤ div_ceil (covered_blocks l) 253 = rounds-some (covered_blocks l) (omega (arith, some)) in
    subst (λ (r : ℕ). 8 ≤ div_ceil (covered_blocks l) (255 - r) * (r * (l.block / 512))) (sym two) (subst (λ (b : ℕ). 8 ≤ div_ceil (covered_blocks l) 253 * (2 * (b / 512))) (sym whole) (omega (arith, rounds)))

parity-some : (s : ShapeRecord) (hash n : ℕ) → s.data_block ≡ 4096 → s.hash_block ≡ 4096 → 1 ≤ s.blocks → IsParityCount s hash true n → 8 ≤ n
parity-some s hash n d h some (inl takes) = omega (arith, takes.value, parity-least takes.layout takes.is.roots_are (takes.is.data_size ∙ d) (omega (arith, takes.is.data_blocks, some)))
parity-some s hash n d h some (inr none) = absurd (none.0 (d ∙ sym h))

-- ---- the disk

long-as-needed : (sectors needed : ℕ) → is_short sectors needed ≡ false → needed ≤ sectors
long-as-needed sectors needed long = go (nat_lt sectors needed) (nat_lt sectors 4096) refl long
  where
    go : (a b : Bool) → nat_lt sectors needed ≡ a → (a || b) ≡ false → needed ≤ sectors
    go false b e h = grind (arith, nat_tests)
    go true b e h = cc

-- whole mebibytes are whole sectors of the disk
whole-units : (size : SectorSize) (end sectors : ℕ) → capped (aligned end + 2048) ≤ sectors → sectors ≤ 2 ^ 54 → capped (aligned end + 2048) ≤ sectors / unit_of size * unit_of size
whole-units Bytes512 end sectors long few = omega (arith, long)
whole-units Bytes4096 end sectors long few =
    let is : capped (aligned end + 2048) ≡ aligned end + 2048 = omega (arith, long, few) in
    omega (arith, is, long)

few-units : (size : SectorSize) (sectors : ℕ) → sectors ≤ 2 ^ 54 → sectors / unit_of size * unit_of size ≤ 2 ^ 54
few-units Bytes512 sectors few = omega (arith, few)
few-units Bytes4096 sectors few = omega (arith, few)

-- ---- whole sectors

aligned-up : (n : ℕ) → aligned n ≤ 2 ^ 55 → (n ≤ aligned n) × (n ≤ 2 ^ 55)
aligned-up n few = let up : n ≤ aligned n = omega (arith, few) in (up, omega (arith, up, few))

uncapped : (n : ℕ) → capped n ≤ 2 ^ 55 → n ≤ 2 ^ 55
uncapped n few = omega (arith, few)

aligned-whole : (size : SectorSize) (n : ℕ) → aligned n / unit_of size * unit_of size ≡ aligned n
aligned-whole Bytes512 n = omega arith
aligned-whole Bytes4096 n = omega arith

padded-whole : (large : Bool) (sectors : ℕ) → let count = if large then capped (sectors + 7) / 8 * 8 else sectors in let unit = unit_of (if large then Bytes4096 else Bytes512) in count / unit * unit ≡ count
padded-whole true sectors = omega arith
padded-whole false sectors = omega arith

eights-whole : (size : SectorSize) (n : ℕ) → n * 8 / unit_of size * unit_of size ≡ n * 8
eights-whole Bytes512 n = omega arith
eights-whole Bytes4096 n = omega arith

image-whole : (size : SectorSize) (s : ShapeRecord) → s.hash_block ≡ 4096 → image_sectors s / unit_of size * unit_of size ≡ image_sectors s
image-whole size s is = subst (λ (n : ℕ). (1 + area_blocks s) * (n / 512) / unit_of size * unit_of size ≡ (1 + area_blocks s) * (n / 512)) (sym is) (eights-whole size (1 + area_blocks s))

-- the parts end where sectors can be counted
pub record EndsEarly (parts : DiskParts) : Type 0 where
  pub of_data : parts.«data».first + parts.«data».count ≤ 2 ^ 55
  pub of_hash : parts.hash.first + parts.hash.count ≤ 2 ^ 55

ends-early : (data_count hash_count parity_count sectors : ℕ) → (disk_parts data_count hash_count parity_count).sectors ≤ sectors → sectors ≤ 2 ^ 54 → EndsEarly (disk_parts data_count hash_count parity_count)
ends-early data_count hash_count parity_count sectors long few =
    let parts = disk_parts data_count hash_count parity_count in
    let last : aligned (end_of parts.parity) ≤ 2 ^ 55 = omega (arith, long, few) in
    let parity = aligned-up (end_of parts.parity) last in
    let parity_end = uncapped (parts.parity.first + parts.parity.count) parity.1 in
    let hash = aligned-up (end_of parts.hash) (omega (arith, parity_end)) in
    let hash_end = uncapped (parts.hash.first + parts.hash.count) hash.1 in
    let data_up = aligned-up (end_of parts.«data») (omega (arith, hash_end)) in
    record { of_data = uncapped (parts.«data».first + parts.«data».count) data_up.1; of_hash = hash_end }

module _ {T G : Type 0} (d : Drawing T G) (a : AssembleRecord) (sectors : ℕ) (kinds : DiskKinds) (plan : DiskPlan) (is : IsPlan d a sectors kinds plan) where
  abbrev shape : ShapeRecord
  shape = shape_of plan.superblock

  data-size : plan.superblock.data_block ≡ 4096
  data-size = ap (λ (s : SuperRecord). s.data_block) is.shaped.0 ∙ is.drawn.data_block ∙ seed-data a.seed

  hash-size : plan.superblock.hash_block ≡ 4096
  hash-size = ap (λ (s : SuperRecord). s.hash_block) is.shaped.0 ∙ is.drawn.hash_block ∙ seed-hash a.seed

  pub valid : IsShape shape
  valid = IsShape-from_no_fault shape (subst (λ (s : SuperRecord). first_fault (shape_of s) ≡ None) (sym is.shaped.0) is.shaped.1)

  blocks-is : plan.superblock.blocks ≡ sectors / 8
  blocks-is =
      ap (λ (s : SuperRecord). s.blocks) is.shaped.0
      ∙ ap (λ (b : Option ℕ). given_blocks b plan.options.data_block sectors) (is.drawn.blocks ∙ seed-blocks a.seed)
      ∙ ap (λ (n : ℕ). whole_blocks sectors n) (is.drawn.data_block ∙ seed-data a.seed)

  some-data : 8 ≤ sectors
  some-data = omega (arith, valid.some, blocks-is)

  pub super-sectors : 1 ≤ image_sectors shape
  super-sectors = omega (arith, image-some shape hash-size)

  pub parity-unit : a.parity ≡ true → unit_of (size_of a.sector_size) ≤ is.parity_count
  parity-unit wanted =
      unit-most (size_of a.sector_size) is.parity_count
      (parity-some shape (image_sectors shape) is.parity_count data-size hash-size valid.some (subst (λ (b : Bool). IsParityCount shape (image_sectors shape) b is.parity_count) wanted is.parity))

  pub has-parts : (device : Device) → is_short device.size plan.parts.sectors ≡ false → device.size ≤ 2 ^ 54
      → HasParts (disk_of device (size_of a.sector_size)) (disk_parts (padded a.sector_size sectors) (image_sectors shape) is.parity_count)
  has-parts device long few =
      let parts = disk_parts (padded a.sector_size sectors) (image_sectors shape) is.parity_count in
      let needed : parts.sectors ≤ device.size = subst (λ (n : ℕ). n ≤ device.size) (ap (λ (p : DiskParts). p.sectors) is.parts) (long-as-needed device.size plan.parts.sectors long) in
      record {
        sectors = whole-units (size_of a.sector_size) (end_of parts.parity) device.size needed few;
        few = few-units (size_of a.sector_size) device.size few;
        data_count = padded-some (a.sector_size == 4096) sectors some-data;
        hash_count = unit-most (size_of a.sector_size) (image_sectors shape) (image-some shape hash-size);
      }

  -- the partitions over both parts are the parts
  pub whole-parts : (device : Device) → is_short device.size plan.parts.sectors ≡ false → device.size ≤ 2 ^ 54 → AreWhole (size_of a.sector_size) plan.parts.«data» × AreWhole (size_of a.sector_size) plan.parts.hash
  whole-parts device long few =
      subst (λ (parts : DiskParts). AreWhole (size_of a.sector_size) parts.«data» × AreWhole (size_of a.sector_size) parts.hash) (sym is.parts)
      (let parts = disk_parts (padded a.sector_size sectors) (image_sectors shape) is.parity_count in
      let needed : parts.sectors ≤ device.size = subst (λ (n : ℕ). n ≤ device.size) (ap (λ (p : DiskParts). p.sectors) is.parts) (long-as-needed device.size plan.parts.sectors long) in
      let early = ends-early (padded a.sector_size sectors) (image_sectors shape) is.parity_count device.size needed few in
      let has = has-parts device long few in (
        record { first = aligned-whole (size_of a.sector_size) 2048; count = padded-whole (a.sector_size == 4096) sectors; some = has.data_count; few = omega (arith, early.of_data) },
        record { first = aligned-whole (size_of a.sector_size) (end_of parts.«data»); count = image-whole (size_of a.sector_size) shape hash-size; some = has.hash_count; few = omega (arith, early.of_hash) },
      ))
