-- Where the tree of a source begins.
use Rattle.std.proofs.Common.{◌≤◌, ℕ, ap, arith}
use Rattle.block_device.specs.Device.{Device}
use Rattle.image_commands.specs.declared.tree_source.TreeSource.{TreeSource}
use Rattle.image_commands.specs.declared.tree_source.TreeSource.TheVariants.{Options, Superblock}
use Rattle.image_commands.specs.TreeSources.{IsTreeOf}
use Rattle.verity_format.specs.declared.tree.VerityTree.{VerityTree}

-- at block 0 or 1
pub source-start : (source : TreeSource) (sectors : ℕ) (hash_dev : Device) (first : ℕ) (hash_dev' : Device) (tree : VerityTree) → IsTreeOf source sectors hash_dev first hash_dev' tree → tree.shape.start ≤ 1
source-start (Superblock pin) sectors hash_dev first hash_dev' tree stored = omega (arith, ap (λ (t : VerityTree). t.shape.start) stored.is)
source-start (Options options) sectors hash_dev first hash_dev' tree stated = omega (arith, ap (λ (t : VerityTree). t.shape.start) stated.0.is)
