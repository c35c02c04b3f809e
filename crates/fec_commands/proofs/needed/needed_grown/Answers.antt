use Rattle.std.proofs.Common.{ap, arith}
use Rattle.tree_shape.specs.Shape.{ShapeRecord}
use Rattle.fec_commands.proofs.needed.needed_grown.Goals as goal

pub made_sectors-requires-clause-start : goal.made_sectors-requires-clause-start
made_sectors-requires-clause-start c = ap (λ (s : ShapeRecord). s.start) c.in-Some.ensures.some

pub parity_of-requires-clause-small : goal.parity_of-requires-clause-small
parity_of-requires-clause-small c = omega (arith, c.max-hash_sectors.ensures, c.requires.small, c.made_sectors.ensures.small)
