-- The tree of a hash image that is repaired, found before anything is written.
use Rattle.std.specs.Prelude.{◌≡◌, ◌⊎◌, ℕ}
use Rattle.block_device.specs.Device.{Device}
use Rattle.image_commands.specs.declared.tree_source.SoughtTree.{SoughtTree}
use Rattle.image_commands.specs.TreeSources.{IsNoTreeOf, IsSourceRefused, IsTreeOf}
use Rattle.verity_commands.specs.declared.tree_fault.TreeFault.{TreeFault}
use Rattle.verity_commands.specs.Surveys.{no_source_fault}
use Rattle.verity_format.specs.declared.tree.VerityTree.{VerityTree}
use Rattle.repair_commands.specs.declared.found_tree.FoundTree.{FoundTree}
use Rattle.repair_commands.specs.Unused.{IsUnusedCause, IsUnusedPassed}

-- The tree is that of its source over so many sectors of data: a superblock was read once, or nothing. Then the hash blocks on the path
-- to the last data block were read.
pub record FindsTree (sectors : ℕ) (hash_dev : Device) (first : ℕ) (sought : SoughtTree) (hash_dev' : Device) (found : FoundTree) : Type 0 where
  pub read_dev : Device
  pub tree_of : IsTreeOf sought.source sectors hash_dev first read_dev found.tree
  pub passed : IsUnusedPassed found.tree sought.root read_dev hash_dev' found.whole
  pub root_is : found.root ≡ sought.root

-- there is a tree of that source, and the image is refused, or memory was
pub record RefusesTree (sectors : ℕ) (hash_dev : Device) (first : ℕ) (sought : SoughtTree) (hash_dev' : Device) (fault : TreeFault) : Type 0 where
  pub tree : VerityTree
  pub read_dev : Device
  pub tree_of : IsTreeOf sought.source sectors hash_dev first read_dev tree
  pub cause : IsUnusedCause tree sought.root read_dev hash_dev' fault

-- there is no tree of that source, or it isn't repaired
abbrev pub FindsNoTree : ℕ → Device → ℕ → SoughtTree → Device → TreeFault → Type 0
FindsNoTree sectors hash_dev first sought hash_dev' fault = IsSourceRefused no_source_fault (IsNoTreeOf sought.source sectors hash_dev first hash_dev') fault ⊎ RefusesTree sectors hash_dev first sought hash_dev' fault
