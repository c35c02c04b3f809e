-- Which calls a whole repair makes on the data device and the hash device, whether they are steady or not.
use Rattle.std.specs.Prelude.{◌≡◌, ◌<◌, ℕ, Bool, true, false, List, [], ◌∷◌}
use Rattle.block_device.specs.Call.{Call}
use Rattle.tree_path.specs.Path.{PathRecord}
use Rattle.tree_survey.specs.Surveys.{IsWay}
use Rattle.tree_repair.specs.RepairCalls.{ReadsBoth, VisitCalls}
use Rattle.tree_repair.specs.Runs.{Job}
use Rattle.tree_repair.specs.Worlds.{ImageRecord}

-- a block, the hash blocks that lead to its digest, and whether no write to it failed
pub record BlockVisit : Type 0 where
  pub height : ℕ
  pub index : ℕ
  pub path : PathRecord
  pub done : Bool

abbrev pub block_visit : ℕ → ℕ → PathRecord → Bool → BlockVisit
block_visit height index path done = record { height = height; index = index; path = path; done = done }

-- The calls of a visit to a block of the tree. Verified hash blocks lead from the root to the block's
-- digest. Each write is of the whole block, at its offset, of bytes with this digest.
pub record VisitsBlock {D H : Type 0} (asks : D → Call → D → Type 0) (does : H → Call → H → Type 0) (j : Job) (v : BlockVisit) (old new : ImageRecord D H) : Type 0 where
  pub inside : v.index < j.tree.shape.blocks
  pub way : IsWay j.tree v.index v.height v.path
  pub calls : VisitCalls asks does j v.path v.height v.index v.done old new

-- visits in which no write failed, one after another; otherwise both devices were only read
abbrev pub MakesVisits : {D H : Type 0} → (D → Call → D → Type 0) → (H → Call → H → Type 0) → Job → List BlockVisit → ImageRecord D H → ImageRecord D H → Type 0
MakesVisits asks does j [] old new = ReadsBoth asks does old new
MakesVisits {D = D} {H = H} asks does j (v ∷ more) old new =
    (a : ImageRecord D H) × ((b : ImageRecord D H) × (ReadsBoth asks does old a × (((v.done ≡ true) × VisitsBlock asks does j v a b) × MakesVisits asks does j more b new)))

-- no call if no write failed; otherwise the visit in which a write failed
abbrev pub EndsVisits : {D H : Type 0} → (D → Call → D → Type 0) → (H → Call → H → Type 0) → Job → Bool → ImageRecord D H → ImageRecord D H → Type 0
EndsVisits asks does j true old new = new ≡ old
EndsVisits asks does j false old new = (v : BlockVisit) × ((v.done ≡ false) × VisitsBlock asks does j v old new)

-- All calls of a repair on the two devices of an image: visits to blocks, and reads. `done` is whether no write failed; nothing
-- is written after a failed write.
pub record MakesRepair {D H : Type 0} (asks : D → Call → D → Type 0) (does : H → Call → H → Type 0) (j : Job) (done : Bool) (old new : ImageRecord D H) : Type 0 where
  pub visits : List BlockVisit
  pub between : ImageRecord D H
  pub made : MakesVisits asks does j visits old between
  pub ends : EndsVisits asks does j done between new
