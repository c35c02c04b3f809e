use Rattle.std.proofs.Common.{◌≡◌, take, true}
use Rattle.std.specs.List.{list_all}
use Rattle.std.specs.Str.{bytes_eq}
use Rattle.tree_shape.specs.Digests.{digest}
use Rattle.stack_engine.specs.Erasures.{column}
use Rattle.stack_engine.proofs.losses.Losses.are_whole.Given as goal

abbrev pub invariant-loop-one : goal.invariant-loop-one
invariant-loop-one l = list_all (λ one. bytes_eq (digest l.verity.salt (column l.verity.data_block l.sums one.column)) one.digest) (take l.one-index l.self.unread.items) ≡ true
