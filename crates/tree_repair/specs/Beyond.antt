-- Why a block stays lost in a repair with parity.
use Rattle.std.specs.Prelude.{◌≡◌, ◌⊎◌, ℕ, ◌+◌, ◌<◌, ◌≤◌, true, List, [], ◌∷◌}
use Rattle.block_device.specs.Device.{Device}
use Rattle.fec_area.specs.declared.layout.Layout.{Layout}
use Rattle.fec_area.specs.Layouts.{parity_sectors}
use Rattle.fec_area.specs.Restoring.{lost_count}
use Rattle.tree_shape.specs.Shape.{ShapeRecord, ancestor, levels}
use Rattle.tree_path.specs.Path.{PathRecord, digest_on}
use Rattle.tree_survey.specs.Surveys.{IsWay}
use Rattle.tree_repair.specs.declared.mending.Mended.{Mended}
use Rattle.tree_repair.specs.declared.mending.Mended.TheVariants as mended
use Rattle.tree_repair.specs.declared.repair.Plan.{Plan}
use Rattle.tree_repair.specs.Coverage.{IsVisitAt}
use Rattle.tree_repair.specs.Parity.{IsCoveredAt}
use Rattle.tree_repair.specs.Repairs.{SeeksByParity, job_of}
use Rattle.tree_repair.specs.Runs.{IsPart, Job, Visit}
use Rattle.tree_repair.specs.ParitySearches.{IsBroughtBack, IsCutOff, IsGoodBehind, IsMadeOther, IsUncovered, Trial, trial}
use Rattle.tree_repair.specs.Worlds.{HasCountedNone, IsParityRead, IsWorldRead, RepairWorld}

-- ---- blocks that aren't sought by parity

-- the block is valid, or was found in a copy, or was reconstructed
abbrev pub IsHad : Mended → Type 0
IsHad mended.Good = Unit {0}
IsHad (mended.Copy k) = Unit {0}
IsHad mended.Remade = Unit {0}
IsHad mended.Parity = Unit {0}
IsHad mended.Lost = ⊥

-- one of these visits was to the block of that height above data block i, and left it so
abbrev pub IsHadIn : ShapeRecord → ℕ → ℕ → List Visit → Type 0
IsHadIn s h i [] = ⊥
IsHadIn s h i (v ∷ more) = (IsVisitAt s h i v × IsHad v.mended) ⊎ IsHadIn s h i more

-- ---- blocks that are sought by parity

-- Covered block k can't be restored: together with it more blocks of its round are lost than the code has roots, the parity is
-- incomplete, or the bytes restored from the other blocks and the parity have another digest.
abbrev pub IsRoundBeyond : Job → PathRecord → ℕ → ℕ → Trial → ℕ → Type 0
IsRoundBeyond j p h i t k =
    (t.layout.roots < lost_count t.layout t.lost k) ⊎ ((t.parity_dev.size < parity_sectors t.layout) ⊎ IsMadeOther j.tree.salt (digest_on p i h) t k)

-- verified hash blocks lead to a block, and parity doesn't cover it or can't restore it
pub record IsBeyondParity (j : Job) (h i : ℕ) (t : Trial) : Type 0 where
  pub p : PathRecord
  pub way : IsWay j.tree i h p
  pub vain : IsUncovered j.tree.shape t.layout h i ⊎ ((k : ℕ) × (IsCoveredAt j.tree.shape t.layout h i k × IsRoundBeyond j p h i t k))

-- The result for a block that is sought by parity: it is restored; or it is valid by now; or a hash block above it is corrupt;
-- or parity can't restore it.
abbrev pub IsOutcome : Job → ℕ → ℕ → Trial → Type 0
IsOutcome j h i t = IsBroughtBack j h i t.w t.w' ⊎ (IsGoodBehind j h i t.w ⊎ (IsCutOff j.tree i h t.w.hash_dev ⊎ IsBeyondParity j h i t))

-- ---- at what point of the run

-- When its turn came a hash block above it was corrupt, and nothing was written; this was seen at a neighbouring block with the
-- same hash blocks above.
pub record IsUnderBad (j : Job) (h i : ℕ) (w w' : RepairWorld) : Type 0 where
  pub beside : ℕ
  pub same : ancestor j.tree.shape (h + 1) beside ≡ ancestor j.tree.shape (h + 1) i
  pub a : RepairWorld
  pub b : RepairWorld
  pub part : IsPart j w a b w'
  pub read : IsWorldRead a b
  pub cut : IsCutOff j.tree beside h a.hash_dev

-- The block was sought when these covered blocks counted as lost; `beside` is the data block below it that it was sought by.
pub record IsSoughtIn (j : Job) (l : Layout) (lost : List ℕ) (h i : ℕ) (w w' : RepairWorld) (p : Device) : Type 0 where
  pub beside : ℕ
  pub same : ancestor j.tree.shape h beside ≡ ancestor j.tree.shape h i
  pub a : RepairWorld
  pub b : RepairWorld
  pub q : Device
  pub q' : Device
  pub part : IsPart j w a b w'
  pub parity_read : IsParityRead p q
  pub outcome : IsOutcome j h beside (trial l lost a b q q')

-- ---- the law

-- the data device, the hash device and the parity device counted no failure between two states
pub record HaveCountedNone (w w' : RepairWorld) (p p' : Device) : Type 0 where
  pub data_none : HasCountedNone w.data_dev w'.data_dev
  pub hash_none : HasCountedNone w.hash_dev w'.hash_dev
  pub parity_none : HasCountedNone p p'

-- the result for a block in a pass with these visits
abbrev pub IsSettled : Job → Layout → List ℕ → List Visit → ℕ → ℕ → RepairWorld → RepairWorld → Device → Type 0
IsSettled j l lost visits h i w w' p = IsHadIn j.tree.shape h i visits ⊎ (IsUnderBad j h i w w' ⊎ IsSoughtIn j l lost h i w w' p)

-- If none of the three devices counted a failure, for each block of the tree one of these holds: it was valid or found when the
-- last pass came to it; parity restored it; a hash block above it is corrupt; parity can't restore it.
abbrev pub WhatStaysLostIsBeyondParity : Type 0
WhatStaysLostIsBeyondParity =
    (plan : Plan) → (l : Layout) → (w w' : RepairWorld) → (p p' : Device) → (seeks : SeeksByParity plan l w w' p p') → HaveCountedNone w w' p p'
    → (h i : ℕ) → h ≤ levels plan.tree.shape → i < plan.tree.shape.blocks
    → let passes = seeks.ends.passes in IsSettled (job_of plan true) l passes.pass.sought.lost passes.pass.visits h i passes.last w' passes.last_parity
