-- Lost blocks are restored by parity, up to as many in a round as the code has roots.
use Rattle.std.specs.Prelude.{◌≡◌, ◌⊎◌, ◌==◌, ◌&&◌, ℕ, ◌+◌, ◌<◌, ◌≤◌, Bool, true, not, IsTrue, List, length, All, count_by}
use Rattle.std.specs.List.{range_with_len}
use Rattle.std.specs.Str.{bytes_eq}
use Rattle.block_device.specs.Device.{Device, IsSector, IsWhole}
use Rattle.fec_area.specs.declared.layout.Layout.{Layout}
use Rattle.fec_area.specs.Layouts.{IsLayout, IsLayoutOf, IsProtected, covered, covered_blocks, parity_sectors}
use Rattle.fec_area.specs.Restoring.{IsAmong, is_beside, lost_count, round_of}
use Rattle.tree_shape.specs.Shape.{ShapeRecord, ancestor, area_blocks, levels}
use Rattle.tree_path.specs.Laws.{Collide}
use Rattle.tree_path.specs.Path.{PathRecord}
use Rattle.tree_survey.specs.Hashes.{is_zero_after_used}
use Rattle.tree_survey.specs.Surveys.{Tree, IsWay}
use Rattle.verity_format.specs.Blocks.{blocks_at}
use Rattle.verity_format.specs.Formatting.{IsFormatted}
use Rattle.verity_format.specs.Image.{area_over, data_sectors, root_over, tree_sectors}
use Rattle.verity_format.specs.Superblock.{SuperRecord, IsSuperblock, shape_of}
use Rattle.tree_repair.specs.declared.repair.Plan.{Plan}
use Rattle.tree_repair.specs.Beyond.{HaveCountedNone, IsHadIn, IsUnderBad}
use Rattle.tree_repair.specs.Parity.{IsCoveredAt, IsPlace}
use Rattle.tree_repair.specs.Repairs.{SeeksByParity, job_of}
use Rattle.tree_repair.specs.Runs.{IsPart, Job, Visit, VisitsAll}
use Rattle.tree_repair.specs.Standing.{IsSteadyImage, IsWorldSteady}
use Rattle.tree_repair.specs.ParitySearches.{IsBroughtBack, IsGoodBehind, IsOffPlace, Trial, trial}
use Rattle.tree_repair.specs.Worlds.{IsImageUnfailed, IsParityRead, IsWorldRead, RepairWorld}

-- ---- the image as it was formatted

-- the sectors of its data device and of its hash device
pub record FormerImage : Type 0 where
  pub data_image : List (List ℕ)
  pub hash_image : List (List ℕ)

-- Its data have the tree's root hash, and its hash device stores the hash blocks of the tree over them.
pub record IsFormerOf (t : Tree) (f : FormerImage) : Type 0 where
  pub sectors : All IsSector f.data_image
  pub data_fits : data_sectors t.shape ≤ length f.data_image
  pub root_is : t.root ≡ root_over t.shape t.salt f.data_image
  pub tree_is : blocks_at f.hash_image t.shape.hash_block t.shape.start (area_blocks t.shape) ≡ area_over t.shape t.salt f.data_image

abbrev pub former_image : List (List ℕ) → List (List ℕ) → FormerImage
former_image data_image hash_image = record { data_image = data_image; hash_image = hash_image }

-- Formatting produces such an image on whole, steady devices: the data device unchanged, and the hash device as it is after the
-- call.
abbrev pub FormattedImagesAreFormer : Type 0
FormattedImagesAreFormer =
    (s : SuperRecord) → IsSuperblock s → (data_dev hash_dev data_dev' hash_dev' : Device) → IsWhole data_dev → IsWhole hash_dev → IsTrue data_dev.steady → IsTrue hash_dev.steady
    → data_sectors (shape_of s) ≤ data_dev.size → (root : List ℕ) → IsFormatted s data_dev hash_dev data_dev' hash_dev' root
    → IsFormerOf (record { shape = shape_of s; salt = s.salt; root = root }) (former_image data_dev.image hash_dev'.image)

-- Each hash block of a formatted image is zero after its last used entry.
abbrev pub FormattedEntriesAreZero : Type 0
FormattedEntriesAreZero =
    (s : SuperRecord) → IsSuperblock s → (data_dev hash_dev data_dev' hash_dev' : Device) → IsWhole data_dev → IsWhole hash_dev → IsTrue data_dev.steady → IsTrue hash_dev.steady
    → data_sectors (shape_of s) ≤ data_dev.size → (root : List ℕ) → IsFormatted s data_dev hash_dev data_dev' hash_dev' root
    → (l i : ℕ) → l < levels (shape_of s) → i < (shape_of s).blocks → is_zero_after_used (shape_of s) hash_dev'.image l i ≡ true

-- covered blocks have the size of the tree's blocks
pub record HasTreeSizes (s : ShapeRecord) (l : Layout) : Type 0 where
  pub data_size : l.block ≡ s.data_block
  pub hash_size : l.block ≡ s.hash_block

-- a steady device stores the image's parity
pub record IsParityKept (l : Layout) (f : FormerImage) (p : Device) : Type 0 where
  pub layout : IsLayout l
  pub steady : IsTrue p.steady
  pub stands : IsProtected l f.data_image f.hash_image p.image

-- covered block n is as formatted, or is damaged
abbrev pub IsAsFormed : Layout → FormerImage → RepairWorld → ℕ → Type 0
IsAsFormed l f w n = covered l w.data_dev.image w.hash_dev.image n ≡ covered l f.data_image f.hash_image n

abbrev pub IsDamaged : Layout → FormerImage → RepairWorld → ℕ → Type 0
IsDamaged l f w n = IsAsFormed l f w n → ⊥

-- On steady devices, if no call failed, a covered block that is as formatted stays so, or two different inputs have one digest.
abbrev pub FormattedBlocksStay : Type 0
FormattedBlocksStay =
    (j : Job) → (f : FormerImage) → IsFormerOf j.tree f → (l : Layout) → HasTreeSizes j.tree.shape l → (visits : List Visit) → (w w' : RepairWorld) → VisitsAll j visits w w'
    → IsSteadyImage j.tree.shape w → IsImageUnfailed w w' → (n : ℕ) → IsAsFormed l f w n → IsAsFormed l f w' n ⊎ Collide j.tree.salt

-- ---- why a block isn't restored

-- the devices before a pass, after its visits, and after all of it
pub record Stage : Type 0 where
  pub before : RepairWorld
  pub visited : RepairWorld
  pub after : RepairWorld

abbrev pub stage : RepairWorld → RepairWorld → RepairWorld → Stage
stage before visited after = record { before = before; visited = visited; after = after }

-- If covered block n is in the tree, a hash block above it was corrupt in the pass, or two different inputs have one digest.
abbrev pub IsUnreached : Job → Layout → ℕ → Stage → Type 0
IsUnreached j l n s = (h i : ℕ) → IsCoveredAt j.tree.shape l h i n → IsUnderBad j h i s.before s.after ⊎ Collide j.tree.salt

-- Another block of the round of covered block k is damaged and doesn't count as lost: the pass didn't come to it.
pub record IsHiddenBeside (j : Job) (f : FormerImage) (s : Stage) (t : Trial) (k : ℕ) : Type 0 where
  pub n : ℕ
  pub beside : IsTrue (is_beside t.layout k n)
  pub unknown : IsAmong t.lost n → ⊥
  pub damaged : IsDamaged t.layout f t.w n
  pub unreached : IsUnreached j t.layout n s

-- A block counts as lost, but can't be restored: together with it more blocks of its round are lost than the code has roots,
-- the parity is incomplete, or the pass doesn't know of another damaged block of its round.
pub record IsRoundPast (j : Job) (f : FormerImage) (s : Stage) (t : Trial) (h i : ℕ) : Type 0 where
  pub k : ℕ
  pub at : IsCoveredAt j.tree.shape t.layout h i k
  pub known : IsAmong t.lost k
  pub past : (t.layout.roots < lost_count t.layout t.lost k) ⊎ ((t.parity_dev.size < parity_sectors t.layout) ⊎ IsHiddenBeside j f s t k)

-- verified hash blocks lead to a block, and parity doesn't cover it, or can't restore it
pub record IsPastParity (j : Job) (f : FormerImage) (s : Stage) (t : Trial) (h i : ℕ) : Type 0 where
  pub p : PathRecord
  pub way : IsWay j.tree i h p
  pub vain : IsOffPlace j.tree.shape t.layout h i ⊎ IsRoundPast j f s t h i

-- The result for a block that is sought: it is restored; or nothing is written, because it is valid by now or parity can't
-- restore it.
abbrev pub IsTrialSettled : Job → FormerImage → Stage → Trial → ℕ → ℕ → Type 0
IsTrialSettled j f s t h i = IsBroughtBack j h i t.w t.w' ⊎ (IsWorldRead t.w t.w' × (IsGoodBehind j h i t.w ⊎ IsPastParity j f s t h i))

-- The block was sought after a pass's visits, when these covered blocks counted as lost; `beside` is the data block below it
-- that it was sought by.
pub record IsSoughtWithin (j : Job) (l : Layout) (lost : List ℕ) (f : FormerImage) (s : Stage) (p : Device) (h i : ℕ) : Type 0 where
  pub beside : ℕ
  pub same : ancestor j.tree.shape h beside ≡ ancestor j.tree.shape h i
  pub a : RepairWorld
  pub b : RepairWorld
  pub q : Device
  pub q' : Device
  pub part : IsPart j s.visited a b s.after
  pub parity_read : IsParityRead p q
  pub outcome : IsTrialSettled j f s (trial l lost a b q q') h beside

-- ---- the laws

-- the result for a block in a pass with these visits
abbrev pub IsSettledWithin : Job → Layout → List ℕ → List Visit → FormerImage → Stage → Device → ℕ → ℕ → Type 0
IsSettledWithin j l lost visits f s p h i = IsHadIn j.tree.shape h i visits ⊎ (IsUnderBad j h i s.before s.after ⊎ IsSoughtWithin j l lost f s p h i)

-- a repair on steady devices in which no call failed, by the parity of the formatted image
pub record IsSureRepair (plan : Plan) (l : Layout) (f : FormerImage) (w w' : RepairWorld) (p p' : Device) : Type 0 where
  pub seeks : SeeksByParity plan l w w' p p'
  pub unfailed : HaveCountedNone w w' p p'
  pub steady : IsWorldSteady w
  pub former : IsFormerOf (job_of plan true).tree f
  pub sizes : HasTreeSizes plan.tree.shape l
  pub parity : IsParityKept l f p

-- For each block of the tree one of these holds: it was valid or found when the last pass came to it; parity restored it; a
-- hash block above it is corrupt; parity doesn't cover it; the parity is incomplete; its round has more lost blocks than the
-- code has roots, or a damaged block that the pass didn't come to; two different inputs have one digest.
abbrev pub LostBlocksWithinParityComeBack : Type 0
LostBlocksWithinParityComeBack =
    (plan : Plan) → (l : Layout) → (f : FormerImage) → (w w' : RepairWorld) → (p p' : Device) → (r : IsSureRepair plan l f w w' p p') → (h i : ℕ) → h ≤ levels plan.tree.shape
    → i < plan.tree.shape.blocks
    → let passes = r.seeks.ends.passes in
    IsSettledWithin (job_of plan true) l passes.pass.sought.lost passes.pass.visits f (stage passes.last passes.pass.behind w') passes.last_parity h i ⊎ Collide plan.tree.salt

-- The parity is complete. If covered block k counts as lost, no more blocks of its round count as lost than the code has roots,
-- and each other damaged block of its round counts as lost.
pub record IsWithinParity (l : Layout) (f : FormerImage) (lost : List ℕ) (w : RepairWorld) (p : Device) (k : ℕ) : Type 0 where
  pub room : parity_sectors l ≤ p.size
  pub few : IsAmong lost k → lost_count l lost k ≤ l.roots
  pub known : (n : ℕ) → IsTrue (is_beside l k n) → IsDamaged l f w n → IsAmong lost n

-- If the repair may write, each covered block of the tree that is within parity after the last pass's visits is as formatted
-- after the run, whatever other rounds hold; or a hash block above it is corrupt, or two different inputs have one digest.
abbrev pub NoBlockStaysLostWithinParity : Type 0
NoBlockStaysLostWithinParity =
    (plan : Plan) → IsTrue plan.write → (l : Layout) → (f : FormerImage) → (w w' : RepairWorld) → (p p' : Device) → (r : IsSureRepair plan l f w w' p p')
    → (h i k : ℕ) → IsCoveredAt plan.tree.shape l h i k → let passes = r.seeks.ends.passes in IsWithinParity l f passes.pass.sought.lost passes.pass.behind p k
    → IsAsFormed l f w' k ⊎ (IsUnderBad (job_of plan true) h i passes.last w' ⊎ Collide plan.tree.salt)

-- Parity covers all hash blocks of the tree and, on the data device, its data blocks only.
pub record IsTreeCovered (s : ShapeRecord) (l : Layout) : Type 0 where
  pub covers : (h i : ℕ) → IsPlace s (h + 1) i → (k : ℕ) × IsCoveredAt s l (h + 1) i k
  pub data_blocks : l.data_blocks ≡ s.blocks

-- This holds of parity that is laid out for that tree and a hash device on which the tree fits; its blocks have the size of the
-- tree's blocks.
abbrev pub LaidOutParityCoversTheTree : Type 0
LaidOutParityCoversTheTree =
    (s : ShapeRecord) → (hash_sectors roots : ℕ) → (l : Layout) → IsLayoutOf s hash_sectors roots l → tree_sectors s ≤ hash_sectors → HasTreeSizes s l × IsTreeCovered s l

-- Parity covers the tree, and no covered block of the hash device is damaged.
pub record HasWholeTree (s : ShapeRecord) (l : Layout) (f : FormerImage) (w : RepairWorld) : Type 0 where
  pub tree : IsTreeCovered s l
  pub whole : (n : ℕ) → l.data_blocks ≤ n → IsAsFormed l f w n

-- If this holds before the run, and no more blocks of a data block's round count as lost in the last pass than the code has
-- roots, the block is as formatted after the run, whatever other rounds hold; or two different inputs have one digest.
abbrev pub DataUnderWholeTreeComeBack : Type 0
DataUnderWholeTreeComeBack =
    (plan : Plan) → IsTrue plan.write → (l : Layout) → (f : FormerImage) → (w w' : RepairWorld) → (p p' : Device) → (r : IsSureRepair plan l f w w' p p')
    → HasWholeTree plan.tree.shape l f w → parity_sectors l ≤ p.size
    → (i : ℕ) → i < l.data_blocks → let lost = r.seeks.ends.passes.pass.sought.lost in (IsAmong lost i → lost_count l lost i ≤ l.roots) → IsAsFormed l f w' i ⊎ Collide plan.tree.salt

-- whether covered block n is damaged, and how many blocks of a round are
abbrev pub is_damaged : Layout → FormerImage → RepairWorld → ℕ → Bool
is_damaged l f w n = not (bytes_eq (covered l w.data_dev.image w.hash_dev.image n) (covered l f.data_image f.hash_image n))

abbrev pub damaged_count : Layout → FormerImage → RepairWorld → ℕ → ℕ
damaged_count l f w round = count_by (λ n. (round_of l n == round) && is_damaged l f w n) (range_with_len 0 (covered_blocks l))

-- If a tree is whole before the run, and no more covered blocks of a data block's round are damaged then than the code has
-- roots, the block is as formatted after the run, whatever other rounds hold; or two different inputs have one digest.
abbrev pub DamagedBlocksWithinParityComeBack : Type 0
DamagedBlocksWithinParityComeBack =
    (plan : Plan) → IsTrue plan.write → (l : Layout) → (f : FormerImage) → (w w' : RepairWorld) → (p p' : Device) → (r : IsSureRepair plan l f w w' p p')
    → HasWholeTree plan.tree.shape l f w → parity_sectors l ≤ p.size
    → (i : ℕ) → i < l.data_blocks → damaged_count l f w (round_of l i) ≤ l.roots → IsAsFormed l f w' i ⊎ Collide plan.tree.salt
