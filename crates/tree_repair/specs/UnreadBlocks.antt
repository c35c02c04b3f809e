-- Blocks that were treated as corrupt because a call of their device failed, and the failures that the devices count for them.
use Rattle.std.specs.Prelude.{◌≡◌, ◌≢◌, ◌⊎◌, ℕ, zero, suc, ◌+◌, Bool, IsTrue, List, [], ◌∷◌}
use mathlib.Core.Logic.{inl, inr}
use Rattle.tree_shape.specs.Digests.{digest}
use Rattle.hash_tree.specs.Chain.{formed}
use Rattle.tree_path.specs.Laws.{Collide}
use Rattle.tree_path.specs.Path.{PathRecord, digest_on}
use Rattle.tree_survey.specs.Failing.{HasFailedTimes}
use Rattle.tree_survey.specs.Laws.{AreContents}
use Rattle.tree_survey.specs.Surveys.{IsWay}
use Rattle.verity_format.specs.Blocks.{IsOnlyRead}
use Rattle.tree_repair.specs.declared.mending.Mended.{Mended}
use Rattle.tree_repair.specs.declared.mending.Mended.TheVariants as mended
use Rattle.tree_repair.specs.Coverage.{IsPassedBy}
use Rattle.tree_repair.specs.Laws.{block_of_height}
use Rattle.tree_repair.specs.Mending.{IsMended, BlockCheck}
use Rattle.tree_repair.specs.Runs.{IsVisited, Job, VisitsAll, Visit, look_at, own}
use Rattle.tree_repair.specs.Standing.{standing_bytes}
use Rattle.tree_repair.specs.ParitySearches.{IsCutOff}
use Rattle.tree_repair.specs.Worlds.{HasCountedNone, RepairWorld}

-- ---- how many

-- 1 if the first alternative holds, and 0 otherwise
abbrev pub first_counts : {A B : Type 0} → A ⊎ B → ℕ
first_counts (inl a) = 1
first_counts (inr b) = 0

-- 1 if a block was treated as corrupt because a call of its device failed at that moment; 0 if it is valid or other bytes were
-- read
abbrev pub unread_look : (l : BlockCheck) → (bytes : List ℕ) → (done : Bool) → (m : Mended) → IsMended l bytes done m → ℕ
unread_look l bytes done mended.Good found = 0
unread_look l bytes done (mended.Copy k) found = first_counts found.bad
unread_look l bytes done mended.Remade found = first_counts found.bad
unread_look l bytes done mended.Parity found = first_counts found.replaced.bad
unread_look l bytes done mended.Lost found = first_counts found.bad

abbrev pub unread_visit : (j : Job) → (v : Visit) → (w w' : RepairWorld) → IsVisited j v w w' → ℕ
unread_visit j v w w' here = unread_look (look_at j here.p v.height v.index w w') v.bytes v.done v.mended here.mended_as

-- counted for a data block only, and for a hash block only
abbrev pub if_data : ℕ → ℕ → ℕ
if_data zero n = n
if_data (suc l) n = 0

abbrev pub if_hash : ℕ → ℕ → ℕ
if_hash zero n = 0
if_hash (suc l) n = n

-- so many data blocks, and so many hash blocks, of a run were treated as corrupt because a call of their device failed
abbrev pub unread_data : (j : Job) → (visits : List Visit) → (w w' : RepairWorld) → VisitsAll j visits w w' → ℕ
unread_data j [] w w' runs = 0
unread_data j (v ∷ more) w w' (a, (b, (read, (here, rest)))) = if_data v.height (unread_visit j v a b here) + unread_data j more b w' rest

abbrev pub unread_hash : (j : Job) → (visits : List Visit) → (w w' : RepairWorld) → VisitsAll j visits w w' → ℕ
unread_hash j [] w w' runs = 0
unread_hash j (v ∷ more) w w' (a, (b, (read, (here, rest)))) = if_hash v.height (unread_visit j v a b here) + unread_hash j more b w' rest

-- Each device has counted at least one failure for each of these blocks, or its counter reached its maximum.
pub record AreUnreadCounted (j : Job) (visits : List Visit) (w w' : RepairWorld) (runs : VisitsAll j visits w w') : Type 0 where
  pub data_counts : HasFailedTimes w.data_dev (unread_data j visits w w' runs) w'.data_dev
  pub hash_counts : HasFailedTimes w.hash_dev (unread_hash j visits w w' runs) w'.hash_dev

-- this holds for each run
abbrev pub UnreadBlocksAreCounted : Type 0
UnreadBlocksAreCounted = (j : Job) → (visits : List Visit) → (w w' : RepairWorld) → (runs : VisitsAll j visits w w') → AreUnreadCounted j visits w w' runs

-- ---- all others

-- P holds of each visit of a run, between the states before and after it
abbrev pub Throughout : (j : Job) → ((v : Visit) → (a b : RepairWorld) → IsVisited j v a b → Type 0) → (visits : List Visit) → (w w' : RepairWorld) → VisitsAll j visits w w' → Type 0
Throughout j P [] w w' runs = Unit {0}
Throughout j P (v ∷ more) w w' (a, (b, (read, (here, rest)))) = P v a b here × Throughout j P more b w' rest

-- the block was found valid, and its device was only read
pub record IsLeftAlone (v : Visit) (w w' : RepairWorld) : Type 0 where
  pub good : v.mended ≡ mended.Good
  pub read : IsOnlyRead (own v.height w) (own v.height w')

-- when its turn came the block was corrupt: on a steady device the stored bytes don't have the digest that verified hash blocks
-- lead to
pub record StoodBad (j : Job) (v : Visit) (w : RepairWorld) : Type 0 where
  pub p : PathRecord
  pub way : IsWay j.tree v.index v.height p
  pub bad : IsTrue (own v.height w).steady → digest j.tree.salt (standing_bytes j v.height v.index w) ≢ digest_on p v.index v.height

-- one of these two
abbrev pub IsTreatedRightly : Job → Visit → RepairWorld → RepairWorld → Type 0
IsTreatedRightly j v w w' = IsLeftAlone v w w' ⊎ StoodBad j v w

-- If a block isn't left alone, either a call of its device failed at that moment, which is counted, or the block was corrupt.
abbrev pub BlocksAreTouchedForCause : Type 0
BlocksAreTouchedForCause = (j : Job) → (visits : List Visit) → (w w' : RepairWorld) → (runs : VisitsAll j visits w w')
    → Throughout j (λ v a b here. (unread_visit j v a b here ≡ 1) ⊎ IsTreatedRightly j v a b) visits w w' runs

-- the block of all data whose tree has the root is stored there, on a steady device
pub record StandsIntact (j : Job) (contents : List (List ℕ)) (v : Visit) (w : RepairWorld) : Type 0 where
  pub steady : IsTrue (own v.height w).steady
  pub is : standing_bytes j v.height v.index w ≡ block_of_height j.tree (formed j.tree.shape j.tree.salt contents v.index) v.height

-- A block that is as the data and their tree were formatted is left alone, unless a call of its device failed at that moment,
-- which is counted, or two different inputs have one digest.
abbrev pub IntactBlocksAreLeftAlone : Type 0
IntactBlocksAreLeftAlone = (j : Job) → (contents : List (List ℕ)) → AreContents j.tree contents → (visits : List Visit) → (w w' : RepairWorld) → (runs : VisitsAll j visits w w')
    → Throughout j (λ v a b here. StandsIntact j contents v a → IsLeftAlone v a b ⊎ ((unread_visit j v a b here ≡ 1) ⊎ Collide j.tree.salt)) visits w w' runs

-- ---- if no call failed

-- If a block's device counted no failure in the whole run, the block is touched only if it was corrupt when its turn came.
abbrev pub GoodBlocksAreLeftAlone : Type 0
GoodBlocksAreLeftAlone = (j : Job) → (visits : List Visit) → (w w' : RepairWorld) → (runs : VisitsAll j visits w w')
    → Throughout j (λ v a b here. HasCountedNone (own v.height w) (own v.height w') → IsTreatedRightly j v a b) visits w w' runs

-- If the hash device counted no failure, a block is skipped only if a hash block above it was corrupt.
abbrev pub BlocksArePassedByForCause : Type 0
BlocksArePassedByForCause = (j : Job) → (h i : ℕ) → (visits : List Visit) → (w w' : RepairWorld) → (passed : IsPassedBy j h i visits w w') → HasCountedNone w.hash_dev w'.hash_dev
    → IsCutOff j.tree passed.beside h passed.a.hash_dev
