-- What the scan of an image finds, reports and reads.
use Rattle.std.specs.Prelude.{◌≡◌, ◌⊎◌, ℕ, ◌<◌, ◌≤◌, false, IsTrue, List, [], length, Contains, Option, None}
use Rattle.std.specs.List.{slice_index_or}
use Rattle.std.specs.Io.KnownBytes.{Appends}
use Rattle.block_device.specs.Device.{Device}
use Rattle.tree_shape.specs.Shape.{IsShape, levels}
use Rattle.verity_format.specs.declared.tree.VerityTree.{VerityTree}
use Rattle.verity_format.specs.Blocks.{blocks_at}
use Rattle.verity_format.specs.Image.{data_sectors, tree_sectors}
use Rattle.tree_path.specs.Path.{IsPathOf}
use Rattle.runs.specs.Runs.{runs_of}
use Rattle.runs.specs.Kinds.{is_same, State}
use Rattle.runs.specs.Texts.{runs_text}
use Rattle.tree_survey.specs.declared.counts.Totals.{Totals}
use Rattle.tree_survey.specs.declared.checked_path.CheckedPath.{CheckedPath}
use Rattle.tree_survey.specs.declared.survey.Survey.{Survey}
use Rattle.tree_survey.specs.Causes.{HasRoom}
use Rattle.tree_survey.specs.Counts.{totals_of}
use Rattle.tree_survey.specs.Failing.{HasFailedRead, HasFailedTimes, IsReadOver, IsReadThrough}
use Rattle.tree_survey.specs.Hashes.{HashBlock, HashesFound, IsUnderOne, hash_lines, is_whole}
use Rattle.tree_survey.specs.Surveys.{AllStand, IsLedTo, IsContentSeenAs, IsContentStoredAs, IsUnreadAs, Tree}

-- two devices before and after, and what was reported, if that is known
pub record Pass : Type 0 where
  pub data_dev : Device
  pub hash_dev : Device
  pub data_dev' : Device
  pub hash_dev' : Device
  pub printed : Option (List ℕ)
  pub printed' : Option (List ℕ)

abbrev pub pass : Device → Device → Device → Device → Option (List ℕ) → Option (List ℕ) → Pass
pass data_dev hash_dev data_dev' hash_dev' printed printed' =
    record { data_dev = data_dev; hash_dev = hash_dev; data_dev' = data_dev'; hash_dev' = hash_dev'; printed = printed; printed' = printed' }

abbrev pub tree_in : CheckedPath → Tree
tree_in w = record { shape = w.path.shape; salt = w.path.salt; root = w.path.root }

-- nothing was read of the tree; the tree and the data blocks fit on their devices
pub record CanPass (w : CheckedPath) (salt : List ℕ) (data_dev hash_dev : Device) : Type 0 where
  pub valid : IsShape w.path.shape
  pub shape : w.shape ≡ w.path.shape
  pub salt_is : salt ≡ w.path.salt
  pub none : w.good ≡ levels w.path.shape
  pub all_read : w.unread ≡ false
  pub data_fits : data_sectors w.path.shape ≤ data_dev.size
  pub tree_fits : tree_sectors w.path.shape ≤ hash_dev.size

pub record HasPassed (old new : CheckedPath) : Type 0 where
  pub same : IsPathOf old.path.shape old.path.salt old.path.root new.path

-- data blocks and hash blocks that couldn't be read
pub record Unreadable : Type 0 where
  pub blocks : List ℕ
  pub hashes : List HashBlock

-- for each of these blocks a call of its device failed
pub record HaveFailed (w : Pass) (lost : Unreadable) : Type 0 where
  pub of_data : HasFailedTimes w.data_dev (length lost.blocks) w.data_dev'
  pub of_hash : HasFailedTimes w.hash_dev (length lost.hashes) w.hash_dev'

-- data block i counts as not valid because it couldn't be read, or a hash block on its path couldn't be read
abbrev pub IsHidden : Tree → Pass → Unreadable → ℕ → Type 0 → State → Type 0
IsHidden t w lost i above_good state =
    IsUnreadAs t above_good (Contains lost.blocks i × HasFailedRead w.data_dev w.data_dev') (IsUnderOne t.shape lost.hashes i × HasFailedRead w.hash_dev w.hash_dev') state

-- The states of all data blocks, each with the content that was read and the path that proves it, unless a read failed. A valid
-- block was read. For each block that couldn't be read, a call of its device failed. On a steady data device the contents are
-- the stored blocks; on steady devices the states are those of the stored blocks, again unless a read failed.
pub record AreSeen (t : Tree) (w : Pass) (states : List State) : Type 0 where
  pub count : length states ≡ t.shape.blocks
  pub lost : Unreadable
  pub failed : HaveFailed w lost
  pub contents : List (List ℕ)
  pub all : length contents ≡ t.shape.blocks
  pub over : IsTrue w.data_dev.steady → contents ≡ blocks_at w.data_dev.image t.shape.data_block 0 t.shape.blocks
  pub seen : (i : ℕ) → i < t.shape.blocks
      → IsContentSeenAs t i (slice_index_or contents i []) (slice_index_or states i None) ⊎ IsHidden t w lost i (IsLedTo t i) (slice_index_or states i None)
  pub stored : IsTrue w.data_dev.steady → IsTrue w.hash_dev.steady → (i : ℕ) → i < t.shape.blocks
      → IsContentStoredAs t w.data_dev.image w.hash_dev.image i (slice_index_or states i None) ⊎ IsHidden t w lost i (AllStand t w.hash_dev.image i) (slice_index_or states i None)

-- Each data block was read once, or a read failed. A line was reported for each longest run of blocks that aren't valid.
pub record Surveys (t : Tree) (w : Pass) (totals : Totals) : Type 0 where
  pub states : List State
  pub seen : AreSeen t w states
  pub totals_are : totals ≡ totals_of states
  pub printed_are : Appends w.printed w.printed' (runs_text (runs_of is_same 0 states))
  pub data_read : IsReadThrough w.data_dev (data_sectors t.shape) w.data_dev'

-- a tree under a root hash
abbrev pub tree_under : VerityTree → List ℕ → Tree
tree_under tree root = record { shape = tree.shape; salt = tree.salt; root = root }

-- All data blocks and all hash blocks were read. The lines of hash blocks follow the lines of data blocks.
pub record IsSurvey (tree : VerityTree) (w : Pass) (root : List ℕ) (found : Survey) : Type 0 where
  pub fits : HasRoom tree.shape w.data_dev w.hash_dev
  pub between : Option (List ℕ)
  pub surveys : Surveys (tree_under tree root) (record w { printed' = between }) found.totals
  pub hashes : HashesFound (tree_under tree root) w.hash_dev w.hash_dev'
  pub hash_read : IsReadOver w.hash_dev w.hash_dev'
  pub whole : found.whole_tree ≡ is_whole hashes.bad
  pub printed_are : Appends between w.printed' (hash_lines hashes.bad)

-- the devices and what was reported, before and after, as a proof sees them
abbrev pub seen_pass : {D H L : Type 0} → (D → Device) → (H → Device) → (L → Option (List ℕ)) → D → H → D → H → L → L → Pass
seen_pass data_state hash_state told d h d' h' l l' = pass (data_state d) (hash_state h) (data_state d') (hash_state h') (told l) (told l')
