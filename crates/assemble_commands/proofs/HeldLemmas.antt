-- What the parts of an assembled disk held when they were closed.
use Rattle.std.proofs.Common.{◌≡◌, ◌∙◌, ◌+◌, ◌-◌, ◌*◌, ◌/◌, ◌≤◌, ℕ, All, IsTrue, List, Ok, Option, ◌++◌, ap, arith, drop, inl, inr, length, map, refl, subst, sym, take}
use Rattle.std.specs.List.{concat}
use Rattle.std.proofs.lemmas.List.{length-append, length-take-le, take-append-le, take_all}
use Rattle.block_device.specs.Device.{Device, IsSector, IsWhole, run_of}
use Rattle.block_device.proofs.lemmas.SectorLemmas.{read_run, sectors_of-concat}
use Rattle.command_line.specs.words.Assemble.{AssembleRecord}
use Rattle.image_commands.specs.Clearing.{IsCleared}
use Rattle.image_commands.specs.Drawing.{Gives}
use Rattle.image_files.specs.Opener.{Opener}
use Rattle.rand_core.specs.Stream.{Stream}
use Rattle.stack_meaning.specs.Outcomes.{Outcome, span}
use Rattle.stack_meaning.proofs.lemmas.SizedLemmas.{AreSized, span-part}
use Rattle.tree_repair.specs.WithinParity.{FormattedImagesAreFormer}
use Rattle.tree_shape.specs.Shape.{area_blocks}
use Rattle.verity_format.specs.Blocks.{blocks_at}
use Rattle.verity_format.specs.Image.{area_over, image_sectors}
use Rattle.verity_format.specs.Options.{superblock_with}
use Rattle.verity_format.specs.Superblock.{IsSuperblock, SuperRecord, shape_of}
use Rattle.assemble_commands.specs.Laws.{HasAssembled}
use Rattle.assemble_commands.proofs.AssembledLemmas.{copied-steady, same-image, same-super}
use Rattle.assemble_commands.proofs.RootLemmas.{allowed, hash-room}

-- ---- parts of a device

image-part : (image : List (List ℕ)) → All IsSector image → (f n : ℕ) → f + n ≤ length image → take (512 * n) (drop (512 * f) (concat image)) ≡ concat (run_of image f n)
image-part image sized f n inside =
    let both = sectors_of-concat image sized in
    read_run (concat image) (length image) f n (omega (arith, both.0)) inside ∙ ap (λ (i : List (List ℕ)). concat (run_of i f n)) both.1

-- what holds of all sectors of a device holds of some
pub held-span : (at : ℕ → Outcome) → AreSized at → (device : Device) → IsWhole device → span at 0 device.size ≡ Ok (concat device.image) → (f n : ℕ) → f + n ≤ device.size
    → span at f n ≡ Ok (concat (run_of device.image f n))
held-span at sized device whole all f n inside =
    let split : device.size ≡ f + (n + (device.size - (f + n))) = omega (arith, inside) in
    let from : 0 + f ≡ f = omega arith in
    ap (λ (k : ℕ). span at k n) (sym from)
    ∙ span-part at sized 0 f n (device.size - (f + n)) (concat device.image) (ap (span at 0) (sym split) ∙ all)
    ∙ ap Ok (image-part device.image whole.sectors f n (omega (arith, inside, whole.length)))

-- a device that was cleared is as steady, and as large
cleared-same : (hash_dev cleared : Device) → IsCleared hash_dev cleared → (IsTrue hash_dev.steady → IsTrue cleared.steady) × (cleared.size ≡ hash_dev.size)
cleared-same hash_dev cleared (inl none) = (
  λ steady. subst IsTrue (sym (ap (λ (d : Device). d.steady) none.kept ∙ none.read.same.steady)) steady,
  ap (λ (d : Device). d.size) none.kept ∙ none.read.same.size,
)
cleared-same hash_dev cleared (inr zeroed) = (
  λ steady. subst IsTrue (sym (ap (λ (d : Device). d.steady) zeroed.kept ∙ zeroed.written.same.steady ∙ zeroed.read.same.steady)) steady,
  ap (λ (d : Device). d.size) zeroed.kept ∙ zeroed.written.same.size ∙ zeroed.read.same.size,
)

module _ {S D T G : Type 0} (relations : Opener S D) (state : D → Device) (gives : Gives T G) (stream : G → Stream) (whole : (dev : D) → IsWhole (state dev)) (images images' : S) (generators generators' : T) (a : AssembleRecord)
    (old new : Option (List ℕ)) (done : HasAssembled relations state gives stream images images' generators generators' a old new) (data_steady : IsTrue (state done.fills.image.device).steady) where
  -- DATA, and its part when it was closed
  abbrev data_dev : Device
  data_dev = state done.fills.image.device

  abbrev pub data_part : Device
  data_part = state done.fills.fills.copies.device'

  module _ (part_steady : IsTrue (state done.fills.fills.copies.image.device).steady) where
    abbrev run : List (List ℕ)
    run = run_of data_dev.image 0 data_dev.size

    abbrev rest : List (List ℕ)
    rest = drop (0 + length run) (state done.fills.fills.copies.image.device).image

    part-image : data_part.image ≡ run ++ rest
    part-image = ap (λ (d : Device). d.image) done.fills.fills.copies.used.kept ∙ done.fills.fills.copies.used.copied.image data_steady part_steady

    run-whole : run ≡ data_dev.image
    run-whole = take_all data_dev.size data_dev.image (omega (arith, (whole done.fills.image.device).length))

    run-long : length run ≡ data_dev.size
    run-long = ap length run-whole ∙ (whole done.fills.image.device).length

    -- it begins with the sectors of DATA
    pub part-begins : (n : ℕ) → n ≤ data_dev.size → run_of data_part.image 0 n ≡ run_of data_dev.image 0 n
    part-begins n low = ap (λ (i : List (List ℕ)). take n i) part-image ∙ take-append-le n run rest (omega (arith, low, run-long)) ∙ ap (λ (i : List (List ℕ)). take n i) run-whole

    pub part-room : data_dev.size ≤ data_part.size
    part-room = omega (arith, ap length part-image, length-append run rest, run-long, (whole done.fills.fills.copies.device').length)

  -- the superblock that was written
  abbrev super : SuperRecord
  super = superblock_with done.plan.options (state done.fills.fills.copied_dev).size

  super-is : super ≡ done.plan.superblock
  super-is = same-super relations state gives stream images images' generators generators' a old new done

  -- the part of the hash image when it was closed
  abbrev pub hash_part : Device
  hash_part = state done.fills.fills.makes.device'

  pub hash-part-room : image_sectors (shape_of done.plan.superblock) ≤ hash_part.size
  hash-part-room =
      let made = done.fills.fills.makes.used in
      let opened = state done.fills.fills.makes.image.device in
      let room : image_sectors (shape_of super) ≤ opened.size = hash-room super (state done.fills.fills.copied_dev) opened made.allowed in
      let size : hash_part.size ≡ opened.size = ap (λ (d : Device). d.size) made.kept ∙ made.formatting.written.same.size ∙ (cleared-same opened made.cleared made.clearing).1 in
      let moved : image_sectors (shape_of super) ≡ image_sectors (shape_of done.plan.superblock) = ap (λ (s : SuperRecord). image_sectors (shape_of s)) super-is in
      omega (arith, room, size, moved)

  -- it has the tree over DATA
  pub hash-part-tree : FormattedImagesAreFormer → IsTrue (state done.fills.fills.makes.image.device).steady
      → blocks_at hash_part.image done.plan.superblock.hash_block 1 (area_blocks (shape_of done.plan.superblock)) ≡ area_over (shape_of done.plan.superblock) done.plan.superblock.salt data_dev.image
  hash-part-tree law hash_steady =
      let made = done.fills.fills.makes.used in
      let opened = state done.fills.fills.makes.image.device in
      let copied = state done.fills.fills.copied_dev in
      let valid : IsSuperblock super = subst IsSuperblock (sym super-is) done.fills.is_plan.is_superblock in
      let cleared_whole : IsWhole made.cleared = subst IsWhole (sym made.left.1) (whole made.left.0) in
      let steady = copied-steady relations state gives stream images images' generators generators' a old new done data_steady in
      let fits = (allowed super copied opened made.allowed).data_room in
      let former =
      law super valid copied made.cleared (state done.fills.fills.formatted_dev) made.written (whole done.fills.fills.copied_dev) cleared_whole steady ((cleared-same opened made.cleared made.clearing).0 hash_steady) fits done.made.root made.formatting.ok in
      ap (λ (d : Device). blocks_at d.image done.plan.superblock.hash_block 1 (area_blocks (shape_of done.plan.superblock))) made.kept
      ∙ ap (λ (s : SuperRecord). blocks_at made.written.image s.hash_block 1 (area_blocks (shape_of s))) (sym super-is)
      ∙ former.tree_is
      ∙ ap (λ (s : SuperRecord). area_over (shape_of s) s.salt copied.image) super-is
      ∙ ap (λ (i : List (List ℕ)). area_over (shape_of done.plan.superblock) done.plan.superblock.salt i) (same-image relations state gives stream images images' generators generators' a old new done data_steady)
