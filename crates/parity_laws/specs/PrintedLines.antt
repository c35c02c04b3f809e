-- A line that is printed with the parity of its image.
use Rattle.std.specs.Prelude.{◌≡◌, ℕ, ◌+◌, ◌≤◌, false, List, Some}
use Rattle.dm_table.specs.declared.parity.Parity.{Parity}
use Rattle.stack_rules.specs.Rules.{is_unprotected}
use Rattle.tree_shape.specs.Shape.{area_blocks}
use Rattle.verity_format.specs.declared.tree.VerityTree.{VerityTree}
use Rattle.verity_format.specs.Line.{LineNames, image_line}

-- a load doesn't refuse its parity, if it covers as many blocks as the data and the tree have, and all blocks have one size
abbrev pub PrintedParityIsLoaded : Type 0
PrintedParityIsLoaded =
    (tree : VerityTree) (names : LineNames) (root : List ℕ) (start : ℕ) (p : Parity) → names.parity ≡ Some p → tree.shape.data_block ≡ tree.shape.hash_block → tree.shape.blocks + area_blocks tree.shape ≤ p.blocks
    → is_unprotected (image_line tree names root start).length (image_line tree names root start).target ≡ false
