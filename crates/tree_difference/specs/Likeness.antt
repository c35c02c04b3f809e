-- Trees whose digests can be compared.
use Rattle.std.specs.Prelude.{◌==◌, not, Option, Some, None, if◌then◌else◌}
use Rattle.std.specs.Str.{bytes_eq}
use Rattle.verity_format.specs.declared.tree.VerityTree.{VerityTree}
use Rattle.tree_difference.specs.declared.fault.Unlike.{Unlike as Field}
use Rattle.tree_difference.specs.declared.fault.Unlike.TheVariants.{DataBlockSize, HashBlockSize, Salt}

-- the first field in which two trees differ
abbrev pub unlike : VerityTree → VerityTree → Option Field
unlike a b =
    if not (a.shape.data_block == b.shape.data_block) then Some DataBlockSize
    else if not (a.shape.hash_block == b.shape.hash_block) then Some HashBlockSize
    else if not (bytes_eq a.salt b.salt) then Some Salt
    else None
