-- The fields of a path, and its value in contracts.
use Rattle.std.specs.Prelude.{map}
use Rattle.tree_path.specs.declared.path.TreePath.TheInside.{Inside}
use Rattle.tree_path.specs.Path.{PathRecord}

abbrev pub seen_path : Inside → PathRecord
seen_path p = record { shape = p.shape; salt = p.salt; root = p.root; blocks = map (λ b. b.items) p.blocks.items }
