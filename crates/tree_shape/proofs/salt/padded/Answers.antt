use Rattle.std.proofs.Common.{◌++◌, length, ap}
use Rattle.std.proofs.lemmas.List.{drop-replicate}
use Rattle.tree_shape.proofs.salt.padded.Goals as goal

pub returns : goal.returns
returns c = rw c.copy_from_slice.ensures.after (ap (λ zeros. c.args.salt.now ++ zeros) (drop-replicate (length c.args.salt.now) 256 0))
