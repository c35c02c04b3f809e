-- Lost blocks that are sought by parity, and why some aren't restored.
use Rattle.std.specs.Prelude.{◌≡◌, ◌≢◌, ◌⊎◌, ◌&&◌, ◌||◌, ℕ, zero, suc, ◌+◌, ◌≤◌, Bool, true, false, nat_lt, IsTrue, List, [], ◌∷◌, Option, None, Some}
use Rattle.block_device.specs.Device.{Device}
use Rattle.fec_area.specs.declared.layout.Layout.{Layout}
use Rattle.fec_area.specs.declared.restoring.RestoreFault.{RestoreFault}
use Rattle.fec_area.specs.Layouts.{IsOffHash}
use Rattle.fec_area.specs.Restoring.{IsMadeAgain, IsRestoreCause}
use Rattle.tree_shape.specs.Digests.{digest}
use Rattle.tree_shape.specs.Shape.{ShapeRecord, ancestor, position}
use Rattle.tree_path.specs.Path.{PathRecord, IsPathOf, digest_on, stored_block}
use Rattle.tree_survey.specs.Failing.{HasFailedRead}
use Rattle.tree_survey.specs.Surveys.{Tree, IsWay}
use Rattle.tree_repair.specs.declared.bad.BadBlock.{BadBlock}
use Rattle.tree_repair.specs.declared.mending.Mended.TheVariants as mended
use Rattle.tree_repair.specs.Parity.{IsCoveredAt, IsGoodNow, IsOfBlocks, IsPlace}
use Rattle.tree_repair.specs.Runs.{IsVisited, Job, size_at, visit}
use Rattle.tree_repair.specs.Worlds.{IsParityRead, IsWorldRead, RepairWorld}

-- ---- the path to a block

-- a hash block above the block has another digest than its verified parent stores
pub record IsCutOff (t : Tree) (i h : ℕ) (old : Device) : Type 0 where
  pub l : ℕ
  pub above : h ≤ l
  pub p : PathRecord
  pub way : IsWay t i (l + 1) p
  pub block : List ℕ
  pub bad : digest t.salt block ≢ digest_on p i (l + 1)
  pub stand : IsTrue old.steady → block ≡ stored_block t.shape old.image l i

-- verified hash blocks lead to the block; or a hash block above it is corrupt, or the hash device failed and isn't one that
-- never fails
abbrev pub IsWayOr : Tree → ℕ → ℕ → Device → Device → Option PathRecord → Type 0
IsWayOr t i h old new None = HasFailedRead old new ⊎ IsCutOff t i h old
IsWayOr t i h old new (Some p) = IsWay t i h p

-- a path in that tree
abbrev pub IsOfTree : Tree → PathRecord → Type 0
IsOfTree t p = IsPathOf t.shape t.salt t.root p

-- the path, if it leads to the block
abbrev pub path_found : Bool → PathRecord → Option PathRecord
path_found true p = Some p
path_found false p = None

-- ---- whether parity covers it

abbrev pub IsOffPlace : ShapeRecord → Layout → ℕ → ℕ → Type 0
IsOffPlace s l zero i = l.data_blocks ≤ i
IsOffPlace s l (suc h) i = IsOffHash l (position s h (ancestor s (h + 1) i))

abbrev pub IsUncovered : ShapeRecord → Layout → ℕ → ℕ → Type 0
IsUncovered s l h i = (l.block ≢ size_at s h) ⊎ IsOffPlace s l h i

-- the block is this covered block; or none, if it isn't covered
abbrev pub IsCoveredOr : ShapeRecord → Layout → ℕ → ℕ → Option ℕ → Type 0
IsCoveredOr s l h i None = IsPlace s h i → IsUncovered s l h i
IsCoveredOr s l h i (Some k) = IsCoveredAt s l h i k

-- the number that was found, if there is one
abbrev pub listed_number : Option ℕ → List ℕ
listed_number None = []
listed_number (Some k) = k ∷ []

-- the covered blocks among these
abbrev pub AreCovered : ShapeRecord → Layout → List BadBlock → List ℕ → Type 0
AreCovered s l [] lost = lost ≡ []
AreCovered s l (b ∷ more) lost =
    ((k : ℕ) × ((rest : List ℕ) × ((lost ≡ k ∷ rest) × (IsCoveredAt s l b.place.height b.place.index k × AreCovered s l more rest))))
    ⊎ ((IsPlace s b.place.height b.place.index → IsUncovered s l b.place.height b.place.index) × AreCovered s l more lost)

-- ---- a block sought by parity

-- the layout of the parity, the covered blocks that count as lost, and the image and the parity before and after
pub record Trial : Type 0 where
  pub layout : Layout
  pub lost : List ℕ
  pub w : RepairWorld
  pub w' : RepairWorld
  pub parity_dev : Device
  pub parity_dev' : Device

abbrev pub trial : Layout → List ℕ → RepairWorld → RepairWorld → Device → Device → Trial
trial layout lost w w' parity_dev parity_dev' = record { layout = layout; lost = lost; w = w; w' = w'; parity_dev = parity_dev; parity_dev' = parity_dev' }

-- Covered block k isn't restored: too many blocks of its round are lost, the parity is too short, or a device failed and one of
-- the three may fail.
abbrev pub IsBlockUnmade : Trial → ℕ → Type 0
IsBlockUnmade t k =
    (fault : RestoreFault) × (IsOfBlocks t.w.data_dev t.w.hash_dev t.parity_dev fault × IsRestoreCause t.layout t.lost k t.w.data_dev t.w.hash_dev t.parity_dev t.w'.data_dev t.w'.hash_dev t.parity_dev' fault)

-- the bytes restored from the other blocks and the parity have another digest
pub record IsMadeOther (salt digest_is : List ℕ) (t : Trial) (k : ℕ) : Type 0 where
  pub bytes : List ℕ
  pub other : digest salt bytes ≢ digest_is
  pub made : IsTrue t.w.data_dev.steady → IsTrue t.w.hash_dev.steady → IsTrue t.parity_dev.steady
      → IsMadeAgain t.layout t.w.data_dev.image t.w.hash_dev.image t.parity_dev.image t.lost k bytes

-- parity doesn't have the block that a path leads to
abbrev pub IsVain : Job → PathRecord → ℕ → ℕ → Trial → Type 0
IsVain j p h i t = IsUncovered j.tree.shape t.layout h i
    ⊎ ((k : ℕ) × (IsCoveredAt j.tree.shape t.layout h i k × (IsBlockUnmade t k ⊎ IsMadeOther j.tree.salt (digest_on p i h) t k)))

-- nothing was written: the image and the parity were only read
pub record IsLeft (t : Trial) : Type 0 where
  pub image : IsWorldRead t.w t.w'
  pub parity : IsParityRead t.parity_dev t.parity_dev'

-- the other blocks and the parity don't give the block that a path leads to; then wrong bytes were looked for, and the devices were
-- only read
pub record IsVainFirst (j : Job) (p : PathRecord) (h i : ℕ) (t : Trial) : Type 0 where
  pub between : RepairWorld
  pub parity_between : Device
  pub first : IsLeft (record t { w' = between; parity_dev' = parity_between })
  pub rest : IsLeft (record t { w = between; parity_dev = parity_between })
  pub vain : IsVain j p h i (record t { w' = between; parity_dev' = parity_between })

-- the block is restored, or parity doesn't have it, even if wrong bytes are looked for
abbrev pub IsFoundOrVain : Job → PathRecord → ℕ → ℕ → Trial → Bool → Type 0
IsFoundOrVain j p h i t true = Unit {0}
IsFoundOrVain j p h i t false = IsPlace j.tree.shape h i → IsVainFirst j p h i t

-- the block is restored, or parity doesn't have it
abbrev pub IsMadeOrVain : Job → PathRecord → ℕ → ℕ → Trial → Bool → Type 0
IsMadeOrVain j p h i t true = Unit {0}
IsMadeOrVain j p h i t false = IsPlace j.tree.shape h i → IsVain j p h i t

-- the block was restored, and the devices were only read afterwards
pub record IsBroughtBack (j : Job) (h i : ℕ) (w w' : RepairWorld) : Type 0 where
  pub between : RepairWorld
  pub read : IsWorldRead w between
  pub bytes : List ℕ
  pub behind : RepairWorld
  pub visited : IsVisited j (visit h i mended.Parity bytes true) between behind
  pub read_back : IsWorldRead behind w'

-- parity doesn't have the block
pub record IsVainAlong (j : Job) (h i : ℕ) (t : Trial) : Type 0 where
  pub p : PathRecord
  pub way : IsWay j.tree i h p
  pub vain : IsVainFirst j p h i t

-- the block is valid on its device by now
pub record IsGoodBehind (j : Job) (h i : ℕ) (w : RepairWorld) : Type 0 where
  pub between : RepairWorld
  pub read : IsWorldRead w between
  pub good : IsGoodNow j h i between

-- a block to which verified hash blocks lead was sought by parity, and restored or not
abbrev pub IsTried : Job → ℕ → ℕ → Trial → Bool → Type 0
IsTried j h i t true = IsBroughtBack j h i t.w t.w' × IsParityRead t.parity_dev t.parity_dev'
IsTried j h i t false = IsLeft t × (IsVainAlong j h i t ⊎ IsGoodBehind j h i t.w)

pub record IsTriedBehind (j : Job) (h i : ℕ) (t : Trial) (back : Bool) : Type 0 where
  pub between : RepairWorld
  pub read : IsWorldRead t.w between
  pub tried : IsTried j h i (record t { w = between }) back

-- the block isn't in the tree, or a hash block above it is corrupt, or the hash device failed and isn't one that never fails
abbrev pub IsOutOfReach : Job → ℕ → ℕ → Trial → Type 0
IsOutOfReach j h i t = (IsPlace j.tree.shape h i → ⊥) ⊎ (HasFailedRead t.w.hash_dev t.w'.hash_dev ⊎ IsCutOff j.tree i h t.w.hash_dev)

-- a block that was found elsewhere isn't sought; each that was found nowhere is sought, if it can be
abbrev pub IsSoughtAt : Job → ℕ → ℕ → Trial → Bool → Bool → Type 0
IsSoughtAt j h i t true back = (back ≡ false) × IsLeft t
IsSoughtAt j h i t false back = ((back ≡ false) × (IsLeft t × IsOutOfReach j h i t)) ⊎ IsTriedBehind j h i t back

abbrev pub IsSought : Job → BadBlock → Trial → Bool → Type 0
IsSought j b t back = IsSoughtAt j b.place.height b.place.index t b.found back

-- a hash block was restored
abbrev pub is_hash_back : Bool → BadBlock → Bool
is_hash_back back b = back && nat_lt 0 b.place.height

-- one block after another, and whether a hash block was restored
abbrev pub AreSought : Job → Layout → List ℕ → List BadBlock → RepairWorld → RepairWorld → Device → Device → Bool → Type 0
AreSought j l lost [] w w' p p' hash_came = (w' ≡ w) × ((p' ≡ p) × (hash_came ≡ false))
AreSought j l lost (b ∷ more) w w' p p' hash_came =
    (a : RepairWorld) × ((q : Device) × ((back : Bool) × ((rest : Bool) ×
    ((hash_came ≡ (is_hash_back back b || rest)) × (IsSought j b (trial l lost w a p q) back × AreSought j l lost more a w' q p' rest)))))

-- all covered blocks among these count as lost for each of them
pub record HasSought (j : Job) (l : Layout) (blocks : List BadBlock) (w w' : RepairWorld) (p p' : Device) (hash_came : Bool) : Type 0 where
  pub lost : List ℕ
  pub are : AreCovered j.tree.shape l blocks lost
  pub sought : AreSought j l lost blocks w w' p p' hash_came
